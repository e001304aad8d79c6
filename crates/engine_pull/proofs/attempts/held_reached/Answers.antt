use Rattle.std.proofs.Common.{refl, sym, ◌∙◌}
use Rattle.engine_pull.proofs.AttemptSteps.{judged_not, poured_not, blob_wanting, blob_unread, blob_judged, blob_long, blob_failed, held_other, held_whole, held_wanting}
use Rattle.engine_pull.proofs.attempts.held_reached.Goals as goal

pub returns-in_err-plan : goal.returns-in_err-plan
returns-in_err-plan g c = record { run = λ old request k p reached takes. held_wanting _ _ _ _ _ _ _ k _ takes reached c.from_residual.ensures.1; untaken = λ e is. refl }

pub returns-in-Refuse : goal.returns-in-Refuse
returns-in-Refuse g c = record { run = λ old request k p reached takes. blob_unread _ _ _ _ _ _ _ _ k _ takes reached (sym c.in_ok-plan.ensures ∙ c.in-Refuse.is); untaken = λ e is. refl }

pub returns-in-Ok : goal.returns-in-Ok
returns-in-Ok g c = record { run = λ old request k p reached takes. blob_judged _ _ _ _ _ _ _ _ _ _ k _ takes reached (sym c.in_ok-plan.ensures ∙ c.in-Judge.is) c.read_body.ensures.count c.read_body.ensures.told c.read_body.ensures.steady c.in-Ok.ensures.within c.in-Ok.ensures.whole c.in-Ok.ensures.unbroken c.refusal_of.ensures; untaken = λ e is. judged_not (sym c.in_ok-plan.ensures ∙ c.in-Judge.is) is }

pub returns-in-Err-TransportFault : goal.returns-in-Err-TransportFault
returns-in-Err-TransportFault g c = record { run = λ old request k p reached takes. blob_failed _ _ _ _ _ _ _ _ _ k _ takes reached (sym c.in_ok-plan.ensures ∙ c.in-Judge.is) refl c.read_body.ensures.count c.read_body.ensures.told c.read_body.ensures.steady (c.in-Err-TransportFault.ensures.fault (rw c.in-Err-TransportFault.field-0-is refl)); untaken = λ e is. judged_not (sym c.in_ok-plan.ensures ∙ c.in-Judge.is) is }

pub returns-in-Err-BodyTooLong : goal.returns-in-Err-BodyTooLong
returns-in-Err-BodyTooLong g c = record { run = λ old request k p reached takes. blob_long _ _ _ _ _ _ _ _ _ k _ takes reached (sym c.in_ok-plan.ensures ∙ c.in-Judge.is) refl c.read_body.ensures.count c.read_body.ensures.told c.read_body.ensures.steady (c.in-Err-BodyTooLong.ensures.long (rw c.in-Err-BodyTooLong.field-0-is refl)); untaken = λ e is. judged_not (sym c.in_ok-plan.ensures ∙ c.in-Judge.is) is }

pub returns-in-Judge : goal.returns-in-Judge
returns-in-Judge g c = record { run = λ old request k p reached takes. blob_wanting _ _ _ _ _ _ _ _ _ k _ takes reached c.read_body.ensures.count c.read_body.ensures.told c.read_body.ensures.steady refl; untaken = λ e is. judged_not (sym c.in_ok-plan.ensures ∙ c.in-Judge.is) is }

pub returns-in_err-have_digests-in-Ok-read_body : goal.returns-in_err-have_digests-in-Ok-read_body
returns-in_err-have_digests-in-Ok-read_body g c = record { run = λ old request k p reached takes. held_other _ _ _ _ _ _ _ _ _ k _ _ _ _ takes reached (sym c.in_ok-plan.ensures ∙ c.in-Pour.is) c.read_body-in-Pour.ensures.count c.read_body-in-Pour.ensures.told c.read_body-in-Pour.ensures.steady c.in-Ok-read_body.ensures.within c.in-Ok-read_body.ensures.whole c.in-Ok-read_body.ensures.unbroken c.in_err-have_digests-in-Ok-read_body.ensures c.from_residual-in_err-have_digests-in-Ok-read_body.ensures.1; untaken = λ e is. poured_not (sym c.in_ok-plan.ensures ∙ c.in-Pour.is) is }

pub returns-in-Ok-read_body : goal.returns-in-Ok-read_body
returns-in-Ok-read_body g c = record { run = λ old request k p reached takes. held_whole _ _ _ _ _ _ _ _ _ k _ _ takes reached (sym c.in_ok-plan.ensures ∙ c.in-Pour.is) c.read_body-in-Pour.ensures.count c.read_body-in-Pour.ensures.told c.read_body-in-Pour.ensures.steady c.in-Ok-read_body.ensures.within c.in-Ok-read_body.ensures.whole c.in-Ok-read_body.ensures.unbroken c.in_ok-have_digests-in-Ok-read_body.ensures; untaken = λ e is. poured_not (sym c.in_ok-plan.ensures ∙ c.in-Pour.is) is }

pub returns-in-Err-TransportFault-read_body : goal.returns-in-Err-TransportFault-read_body
returns-in-Err-TransportFault-read_body g c = record { run = λ old request k p reached takes. blob_failed _ _ _ _ _ _ _ _ _ k _ takes reached (sym c.in_ok-plan.ensures ∙ c.in-Pour.is) refl c.read_body-in-Pour.ensures.count c.read_body-in-Pour.ensures.told c.read_body-in-Pour.ensures.steady (c.in-Err-TransportFault-read_body.ensures.fault (rw c.in-Err-TransportFault-read_body.field-0-is refl)); untaken = λ e is. poured_not (sym c.in_ok-plan.ensures ∙ c.in-Pour.is) is }

pub returns-in-Err-BodyTooLong-read_body : goal.returns-in-Err-BodyTooLong-read_body
returns-in-Err-BodyTooLong-read_body g c = record { run = λ old request k p reached takes. blob_long _ _ _ _ _ _ _ _ _ k _ takes reached (sym c.in_ok-plan.ensures ∙ c.in-Pour.is) refl c.read_body-in-Pour.ensures.count c.read_body-in-Pour.ensures.told c.read_body-in-Pour.ensures.steady (c.in-Err-BodyTooLong-read_body.ensures.long (rw c.in-Err-BodyTooLong-read_body.field-0-is refl)); untaken = λ e is. poured_not (sym c.in_ok-plan.ensures ∙ c.in-Pour.is) is }

pub returns : goal.returns
returns g c = record { run = λ old request k p reached takes. blob_wanting _ _ _ _ _ _ _ _ _ k _ takes reached c.read_body-in-Pour.ensures.count c.read_body-in-Pour.ensures.told c.read_body-in-Pour.ensures.steady refl; untaken = λ e is. poured_not (sym c.in_ok-plan.ensures ∙ c.in-Pour.is) is }
