use Rattle.std.proofs.Common.{◌∙◌}
use Rattle.oci_docs.proofs.Plain.{text_of_composed}
use Rattle.oci_docs.proofs.nfc.composed_text.Goals as goal

pub returns : goal.returns
returns c plain = c.in_ok-bytes.ensures ∙ c.as_bytes.ensures.value ∙ c.as_str.ensures.value ∙ text_of_composed _ _ _ c.in_ok-text.ensures.text c.in_ok-value.ensures plain
