use Rattle.std.proofs.lemmas.List.{drop_all}
use Rattle.cosign_rows.proofs.Exits.{and_then, refused}
use Rattle.cosign_pull.proofs.ReferrerRows.{referrers_end, referrers_next}
use Rattle.cosign_pull.proofs.referrers.each_referrer.Goals as goal

pub returns-in_err-part : goal.returns-in_err-part
returns-in_err-part g c = λ s. (c.loop-entry.invariant s).made _ _ _ (referrers_next _ _ _ _ _ _ _ _ _ c.loop-entry-test.true c.entry-item.is (refused _ (rw c.as_str.ensures at (c.in_err-part.ensures s)) c.from_residual.ensures.1))

pub loop-entry-preserved : goal.loop-entry-preserved
loop-entry-preserved g c = λ s. record { made = λ e new r rest. (c.loop-entry.invariant s).made e new r (referrers_next _ _ _ _ _ _ _ _ _ c.loop-entry-test.true c.entry-item.is (and_then _ (rw c.as_str.ensures at (c.in_ok-part.ensures s)) rest)) }

pub returns : goal.returns
returns g c = λ s. (c.loop-entry.invariant s).made _ _ _ (referrers_end _ _ _ _ _ _ _ (drop_all _ _ c.loop-entry-test.false))
