use Rattle.json_tables.proofs.Refusals.{passed_on, behind}
use Rattle.recorded_case.specs.Shelf.{maps_of}
use Rattle.recorded_case.proofs.shelf.read_maps.Goals as goal

pub returns-in_err-repository : goal.returns-in_err-repository
unfolding maps_of
returns-in_err-repository c =
    passed_on _ _ _ (behind _ _ c.in_ok-only.ensures (c.in_err-repository.ensures.refused _)) c.from_residual-in_err-repository.ensures
