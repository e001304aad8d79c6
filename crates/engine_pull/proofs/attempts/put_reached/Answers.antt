use Rattle.std.proofs.Common.{refl, sym, ◌∙◌, arith}
use Rattle.oci_protocol.proofs.Conversations.{Steady-none}
use Rattle.engine_pull.proofs.AttemptSteps.{judged_not, poured_not, fault_is_none, long_is_none, memory_is_none, digest_is_none, spills_none, spills_wanting, spills_front, spills_judged, spills_whole, spills_other, blob_wanting, blob_unread, blob_long, blob_failed, blob_spilled, pours_success}
use Rattle.engine_pull.proofs.attempts.put_reached.Goals as goal

pub returns-in_err-plan : goal.returns-in_err-plan
returns-in_err-plan g c = record { run = λ old request k p reached takes. spills_wanting _ _ c.from_residual.ensures.1 (blob_wanting _ _ _ _ _ _ _ _ _ k _ takes reached (omega arith) refl (Steady-none _) refl); untaken = λ e is. refl }

pub returns-in-Refuse : goal.returns-in-Refuse
returns-in-Refuse g c = record { run = λ old request k p reached takes. spills_none _ (blob_unread _ _ _ _ _ _ _ _ k _ takes reached (sym c.in_ok-plan.ensures ∙ c.in-Refuse.is)) (digest_is_none _ _); untaken = λ e is. refl }

pub returns-in-Ok : goal.returns-in-Ok
returns-in-Ok g c = record { run = λ old request k p reached takes. spills_judged _ _ _ _ _ _ _ _ _ k _ _ takes reached (sym c.in_ok-plan.ensures ∙ c.in-Judge.is) c.read_body.ensures.count c.read_body.ensures.told c.read_body.ensures.steady c.in-Ok.ensures.within c.in-Ok.ensures.whole c.in-Ok.ensures.unbroken c.refusal_of.ensures; untaken = λ e is. judged_not (sym c.in_ok-plan.ensures ∙ c.in-Judge.is) is }

pub returns-in-Err-TransportFault : goal.returns-in-Err-TransportFault
returns-in-Err-TransportFault g c = record { run = λ old request k p reached takes. spills_none _ (blob_failed _ _ _ _ _ _ _ _ _ k _ takes reached (sym c.in_ok-plan.ensures ∙ c.in-Judge.is) refl c.read_body.ensures.count c.read_body.ensures.told c.read_body.ensures.steady (c.in-Err-TransportFault.ensures.fault (rw c.in-Err-TransportFault.field-0-is refl))) (fault_is_none _); untaken = λ e is. judged_not (sym c.in_ok-plan.ensures ∙ c.in-Judge.is) is }

pub returns-in-Err-BodyTooLong : goal.returns-in-Err-BodyTooLong
returns-in-Err-BodyTooLong g c = record { run = λ old request k p reached takes. spills_none _ (blob_long _ _ _ _ _ _ _ _ _ k _ takes reached (sym c.in_ok-plan.ensures ∙ c.in-Judge.is) refl c.read_body.ensures.count c.read_body.ensures.told c.read_body.ensures.steady (c.in-Err-BodyTooLong.ensures.long (rw c.in-Err-BodyTooLong.field-0-is refl))) (long_is_none _); untaken = λ e is. judged_not (sym c.in_ok-plan.ensures ∙ c.in-Judge.is) is }

pub returns-in-Judge : goal.returns-in-Judge
returns-in-Judge g c = record { run = λ old request k p reached takes. spills_none _ (blob_wanting _ _ _ _ _ _ _ _ _ k _ takes reached c.read_body.ensures.count c.read_body.ensures.told c.read_body.ensures.steady refl) (memory_is_none _); untaken = λ e is. judged_not (sym c.in_ok-plan.ensures ∙ c.in-Judge.is) is }

pub returns-in_err-both_compared-in-Ok-stream_body : goal.returns-in_err-both_compared-in-Ok-stream_body
returns-in_err-both_compared-in-Ok-stream_body g c = record { run = λ old request k p reached takes. spills_other _ _ _ _ _ _ _ _ k _ _ _ _ _ _ _ _ takes reached (sym c.in_ok-plan.ensures ∙ c.in-Pour.is) c.stream_body.ensures.count c.stream_body.ensures.told c.stream_body.ensures.steady c.stream_body.ensures.sink_count c.in-Ok-stream_body.ensures.poured c.digesters-digesters.ensures (λ m h. c.in_err-both_compared-in-Ok-stream_body.ensures m h) c.from_residual-in_err-both_compared-in-Ok-stream_body.ensures.1; untaken = λ e is. poured_not (sym c.in_ok-plan.ensures ∙ c.in-Pour.is) is }

pub returns-in-Ok-stream_body : goal.returns-in-Ok-stream_body
returns-in-Ok-stream_body g c = record { run = λ old request k p reached takes. spills_whole _ _ _ _ _ _ _ _ k _ _ _ _ _ _ takes reached (sym c.in_ok-plan.ensures ∙ c.in-Pour.is) c.stream_body.ensures.count c.stream_body.ensures.told c.stream_body.ensures.steady c.stream_body.ensures.sink_count c.in-Ok-stream_body.ensures.poured c.digesters-digesters.ensures (λ m h. c.in_ok-both_compared-in-Ok-stream_body.ensures m h); untaken = λ e is. poured_not (sym c.in_ok-plan.ensures ∙ c.in-Pour.is) is }

pub returns-in-Err-TransportFault-stream_body : goal.returns-in-Err-TransportFault-stream_body
returns-in-Err-TransportFault-stream_body g c = record { run = λ old request k p reached takes. spills_front _ _ _ _ _ _ reached (pours_success _ _ _ _ (sym c.in_ok-plan.ensures ∙ c.in-Pour.is)) c.stream_body.ensures.told c.stream_body.ensures.steady c.stream_body.ensures.sink_count c.stream_body.ensures.prefix (blob_failed _ _ _ _ _ _ _ _ _ k _ takes reached (sym c.in_ok-plan.ensures ∙ c.in-Pour.is) refl c.stream_body.ensures.count c.stream_body.ensures.told c.stream_body.ensures.steady (c.in-Err-TransportFault-stream_body.ensures.fault (rw c.in-Err-TransportFault-stream_body.field-0-is refl))) (fault_is_none _); untaken = λ e is. poured_not (sym c.in_ok-plan.ensures ∙ c.in-Pour.is) is }

pub returns-in-Err-BodyTooLong-stream_body : goal.returns-in-Err-BodyTooLong-stream_body
returns-in-Err-BodyTooLong-stream_body g c = record { run = λ old request k p reached takes. spills_front _ _ _ _ _ _ reached (pours_success _ _ _ _ (sym c.in_ok-plan.ensures ∙ c.in-Pour.is)) c.stream_body.ensures.told c.stream_body.ensures.steady c.stream_body.ensures.sink_count c.stream_body.ensures.prefix (blob_long _ _ _ _ _ _ _ _ _ k _ takes reached (sym c.in_ok-plan.ensures ∙ c.in-Pour.is) refl c.stream_body.ensures.count c.stream_body.ensures.told c.stream_body.ensures.steady (c.in-Err-BodyTooLong-stream_body.ensures.long (rw c.in-Err-BodyTooLong-stream_body.field-0-is refl))) (long_is_none _); untaken = λ e is. poured_not (sym c.in_ok-plan.ensures ∙ c.in-Pour.is) is }

pub returns-in-Err-SinkFault : goal.returns-in-Err-SinkFault
returns-in-Err-SinkFault g c = record { run = λ old request k p reached takes. spills_front _ _ _ _ _ _ reached (pours_success _ _ _ _ (sym c.in_ok-plan.ensures ∙ c.in-Pour.is)) c.stream_body.ensures.told c.stream_body.ensures.steady c.stream_body.ensures.sink_count c.stream_body.ensures.prefix (blob_spilled _ _ _ _ _ _ _ _ k _ _ takes reached (sym c.in_ok-plan.ensures ∙ c.in-Pour.is) c.stream_body.ensures.count c.stream_body.ensures.told c.stream_body.ensures.steady) (λ h. c.in-Err-SinkFault.ensures.sink_fault (rw c.in-Err-SinkFault.field-0-is refl)); untaken = λ e is. poured_not (sym c.in_ok-plan.ensures ∙ c.in-Pour.is) is }

pub returns : goal.returns
returns g c = record { run = λ old request k p reached takes. spills_front _ _ _ _ _ _ reached (pours_success _ _ _ _ (sym c.in_ok-plan.ensures ∙ c.in-Pour.is)) c.stream_body.ensures.told c.stream_body.ensures.steady c.stream_body.ensures.sink_count c.stream_body.ensures.prefix (blob_wanting _ _ _ _ _ _ _ _ _ k _ takes reached c.stream_body.ensures.count c.stream_body.ensures.told c.stream_body.ensures.steady refl) (memory_is_none _); untaken = λ e is. poured_not (sym c.in_ok-plan.ensures ∙ c.in-Pour.is) is }
