use Rattle.std.proofs.Common.{ap, ◌∙◌}
use Rattle.std.specs.List.{prefix_len}
use Rattle.oci_auth.specs.Classes.{has}
use Rattle.oci_auth.proofs.Fronts.{class_cuts}
use Rattle.oci_auth.proofs.grammar.cut_front.Goals as goal

pub split_at-requires : goal.split_at-requires
split_at-requires c = class_cuts c.args.class c.args.text.now c.utf8.text c.front_len.result (c.front_len.ensures ∙ ap (prefix_len (has c.args.class)) c.as_bytes.ensures.value)
