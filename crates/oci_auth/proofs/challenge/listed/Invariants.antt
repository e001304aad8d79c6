use Rattle.std.proofs.Common.{◌≡◌, ◌++◌, map, None}
use Rattle.std.specs.Option.{option_copied}
use Rattle.oci_auth.specs.declared.split.Place.TheVariants.{Outside}
use Rattle.oci_auth.specs.Element.{element_of, whole}
use Rattle.oci_auth.specs.Split.{split_from}
use Rattle.oci_auth.proofs.Commas.{elements_left, bytes_left}
use Rattle.oci_auth.proofs.challenge.listed.Given as goal

abbrev pub invariant-loop-left : goal.invariant-loop-left
invariant-loop-left l = whole None (map element_of (split_from Outside l.text)) ≡ l.found ++ whole l.last (elements_left (option_copied l.left))

abbrev pub decreases-loop-left : goal.decreases-loop-left
decreases-loop-left l = bytes_left (option_copied l.left)
