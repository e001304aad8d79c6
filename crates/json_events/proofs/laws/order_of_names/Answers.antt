use Rattle.std.proofs.Common.{refl}
use Rattle.std.proofs.lemmas.Cmp.{on_total}
use Rattle.std.specs.Cmp.Lexicographic.{nat_list_cmp_total}
use Rattle.std.specs.FinMap.{slice_cmp-IsAntisymmetric, nat_cmp-IsAntisymmetric}
use Rattle.std.specs.Str.{chars}
use Rattle.json_events.specs.Units.{units}
use Rattle.json_events.proofs.Utf16.{same_units}
use Rattle.json_events.proofs.laws.order_of_names.Goals as goal

pub returns-clause-total : goal.returns-clause-total
returns-clause-total c = on_total units nat_list_cmp_total

pub returns-clause-ties : goal.returns-clause-ties
returns-clause-ties c = λ a b text other tied. same_units a b text other (slice_cmp-IsAntisymmetric nat_cmp-IsAntisymmetric (units a) (units b) tied)

pub returns-clause-units : goal.returns-clause-units
unfolding units chars
returns-clause-units c = refl
