use Rattle.std.proofs.Common.{◌≡◌, drop}
use Rattle.std.specs.Option.{option_copied, option_or}
use Rattle.oci_auth.specs.Bearer.{last_value}
use Rattle.oci_auth.proofs.bearer.last_value.Given as goal

abbrev pub invariant-loop-parameter : goal.invariant-loop-parameter
invariant-loop-parameter l = last_value l.name l.params ≡ option_or (last_value l.name (drop l.parameter-index l.params)) (option_copied l.value)
