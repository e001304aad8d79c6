use Rattle.oci_protocol.proofs.Exits.{passed_on}
use Rattle.engine_pull.proofs.TagLists.{listed_met, by_tag_met}
use Rattle.engine_pull.proofs.referrers.referrers_by.Goals as goal

pub returns-in_err-index : goal.returns-in_err-index
returns-in_err-index g c = passed_on (listed_met _ _ _ _ _ _ c.if-got-ne404.true c.in_err-index.ensures) c.from_residual.ensures.1

pub returns-then-got-ne404 : goal.returns-then-got-ne404
returns-then-got-ne404 g c = listed_met _ _ _ _ _ _ c.if-got-ne404.true c.in_ok-index.ensures
