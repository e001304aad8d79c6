use Rattle.std.proofs.Common.{refl}
use Rattle.oci_protocol.specs.Proto.{bind}
use Rattle.cosign_rows.proofs.Exits.{caught, said_refusal}
use Rattle.cosign_pull.proofs.ReferrerRows.{referrers_listed}
use Rattle.cosign_pull.proofs.referrers.referrers_source.Goals as goal

pub returns-in-Ok : goal.returns-in-Ok
returns-in-Ok g c = λ s. referrers_listed _ _ _ _ _ _ (caught _ (rw c.in-Ok.is at (c.pull_referrers-listed.ensures.run s)) (rw c.as_slice-entries.ensures at (c.each_referrer.ensures s)))

pub returns-in-Err : goal.returns-in-Err
unfolding bind
returns-in-Err g c = λ s. referrers_listed _ _ _ _ _ _ (said_refusal _ refl (λ is. rw is refl) (rw c.in-Err.is at (c.pull_referrers-listed.ensures.run s)) c.skip_listing.ensures)
