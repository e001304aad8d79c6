use Rattle.pull_generated.proofs.texts.plain_manifest.Goals as goal

pub returns : goal.returns
returns c = rw (c.as_str-2.ensures, c.in_ok-config.ensures, c.as_str.ensures, c.in_ok-digest.ensures, c.as_bytes.ensures.value, c.as_str-3.ensures, c.in_ok-layers.ensures) at c.manifest_around.ensures
