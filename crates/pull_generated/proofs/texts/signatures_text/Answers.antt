use Rattle.pull_generated.specs.Texts.{signatures_text}
use Rattle.pull_generated.proofs.texts.signatures_text.Goals as goal

pub returns : goal.returns
unfolding signatures_text
returns c = rw (c.as_slice.ensures, c.in_ok-push.ensures.ok, c.new-layers.ensures, c.in_ok-layer.ensures, c.as_str.ensures, c.in_ok-digest.ensures, c.as_bytes.ensures.value) at c.plain_manifest.ensures
