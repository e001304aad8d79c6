use Rattle.std.proofs.Common.{◌≡◌, take, drop}
use Rattle.oci_auth.specs.declared.split.Place.TheVariants.{Outside}
use Rattle.oci_auth.specs.Split.{split_from}
use Rattle.oci_auth.proofs.Commas.{onto_front}
use Rattle.oci_auth.proofs.split.comma_in.Given as goal

abbrev pub invariant-loop-at : goal.invariant-loop-at
invariant-loop-at l = split_from Outside l.bytes ≡ onto_front (take l.at l.bytes) (split_from l.place (drop l.at l.bytes))
