use Rattle.std.proofs.Common.{refl, sym, ◌∙◌, arith}
use Rattle.oci_protocol.proofs.Conversations.{Steady-none}
use Rattle.engine_pull.proofs.AttemptSteps.{fault_is_none, long_is_none, memory_is_none, digest_is_none, spills_none, spills_wanting, spills_front, pours_success}
use Rattle.image_blobs.proofs.CutSteps.{cut_judged, cut_whole, cut_other, cut_wanting, cut_unread, cut_long, cut_failed, cut_spilled, judged_limit, poured_limit}
use Rattle.image_blobs.proofs.WithinSize.{within_none}
use Rattle.image_blobs.proofs.attempts.put_reached.Goals as goal

pub returns-in_err-plan-clause-run : goal.returns-in_err-plan-clause-run
returns-in_err-plan-clause-run g c = λ old request k next reached here. spills_wanting _ _ c.from_residual.ensures.1 (cut_wanting _ _ _ next request _ _ _ _ _ k _ reached (omega arith) refl (Steady-none _) refl)

pub returns-in-Refuse-clause-run : goal.returns-in-Refuse-clause-run
returns-in-Refuse-clause-run g c = λ old request k next reached here. spills_none _ (cut_unread _ _ _ next request _ _ _ _ k _ here reached (sym c.in_ok-plan.ensures ∙ c.in-Refuse.is)) (digest_is_none _ _)

pub returns-in-Ok-clause-run : goal.returns-in-Ok-clause-run
returns-in-Ok-clause-run g c = λ old request k next reached here. cut_judged _ _ _ next request _ _ _ _ _ _ k _ _ here reached (sym c.in_ok-plan.ensures ∙ c.in-Judge.is) c.read_body.ensures.count c.read_body.ensures.told c.read_body.ensures.steady c.in-Ok.ensures.within c.in-Ok.ensures.whole c.in-Ok.ensures.unbroken c.refusal_of.ensures

pub returns-in-Err-TransportFault-clause-run : goal.returns-in-Err-TransportFault-clause-run
returns-in-Err-TransportFault-clause-run g c = λ old request k next reached here. spills_none _ (cut_failed _ _ _ next request _ _ _ _ _ k _ reached (judged_limit _ _ _ next request _ here (sym c.in_ok-plan.ensures ∙ c.in-Judge.is)) c.read_body.ensures.count c.read_body.ensures.told c.read_body.ensures.steady (c.in-Err-TransportFault.ensures.fault (rw c.in-Err-TransportFault.field-0-is refl))) (fault_is_none _)

pub returns-in-Err-BodyTooLong-clause-run : goal.returns-in-Err-BodyTooLong-clause-run
returns-in-Err-BodyTooLong-clause-run g c = λ old request k next reached here. spills_none _ (cut_long _ _ _ next request _ _ _ _ _ k _ reached (judged_limit _ _ _ next request _ here (sym c.in_ok-plan.ensures ∙ c.in-Judge.is)) c.read_body.ensures.count c.read_body.ensures.told c.read_body.ensures.steady (c.in-Err-BodyTooLong.ensures.long (rw c.in-Err-BodyTooLong.field-0-is refl))) (long_is_none _)

pub returns-in-Judge-clause-run : goal.returns-in-Judge-clause-run
returns-in-Judge-clause-run g c = λ old request k next reached here. spills_none _ (cut_wanting _ _ _ next request _ _ _ _ _ k _ reached c.read_body.ensures.count c.read_body.ensures.told c.read_body.ensures.steady refl) (memory_is_none _)

pub returns-in_err-both_compared-in-Ok-stream_within-clause-run : goal.returns-in_err-both_compared-in-Ok-stream_within-clause-run
returns-in_err-both_compared-in-Ok-stream_within-clause-run g c = λ old request k next reached here. cut_other _ _ _ next request _ _ _ _ _ k _ _ _ _ _ _ _ _ here reached (sym c.in_ok-plan.ensures ∙ c.in-Pour.is) c.stream_within.ensures.count c.stream_within.ensures.told c.stream_within.ensures.steady c.stream_within.ensures.sink_count c.in-Ok-stream_within.ensures.poured c.digesters-digesters.ensures (λ m h. c.in_err-both_compared-in-Ok-stream_within.ensures m h) c.from_residual-in_err-both_compared-in-Ok-stream_within.ensures.1

pub returns-in-Ok-stream_within-clause-run : goal.returns-in-Ok-stream_within-clause-run
returns-in-Ok-stream_within-clause-run g c = λ old request k next reached here. cut_whole _ _ _ next request _ _ _ _ _ k _ _ _ _ _ _ here reached (sym c.in_ok-plan.ensures ∙ c.in-Pour.is) c.stream_within.ensures.count c.stream_within.ensures.told c.stream_within.ensures.steady c.stream_within.ensures.sink_count c.in-Ok-stream_within.ensures.poured c.digesters-digesters.ensures (λ m h. c.in_ok-both_compared-in-Ok-stream_within.ensures m h)

pub returns-in-Err-TransportFault-stream_within-clause-run : goal.returns-in-Err-TransportFault-stream_within-clause-run
returns-in-Err-TransportFault-stream_within-clause-run g c = λ old request k next reached here. spills_front _ _ _ _ _ _ reached (pours_success _ _ _ _ (sym c.in_ok-plan.ensures ∙ c.in-Pour.is)) c.stream_within.ensures.told c.stream_within.ensures.steady c.stream_within.ensures.sink_count c.stream_within.ensures.prefix (cut_failed _ _ _ next request _ _ _ _ _ k _ reached (poured_limit _ _ _ next request _ _ _ here (sym c.in_ok-plan.ensures ∙ c.in-Pour.is)) c.stream_within.ensures.count c.stream_within.ensures.told c.stream_within.ensures.steady (c.in-Err-TransportFault-stream_within.ensures.fault (rw c.in-Err-TransportFault-stream_within.field-0-is refl))) (fault_is_none _)

pub returns-in-Err-BodyTooLong-stream_within-clause-run : goal.returns-in-Err-BodyTooLong-stream_within-clause-run
returns-in-Err-BodyTooLong-stream_within-clause-run g c = λ old request k next reached here. spills_front _ _ _ _ _ _ reached (pours_success _ _ _ _ (sym c.in_ok-plan.ensures ∙ c.in-Pour.is)) c.stream_within.ensures.told c.stream_within.ensures.steady c.stream_within.ensures.sink_count c.stream_within.ensures.prefix (cut_long _ _ _ next request _ _ _ _ _ k _ reached (poured_limit _ _ _ next request _ _ _ here (sym c.in_ok-plan.ensures ∙ c.in-Pour.is)) c.stream_within.ensures.count c.stream_within.ensures.told c.stream_within.ensures.steady (c.in-Err-BodyTooLong-stream_within.ensures.long (rw c.in-Err-BodyTooLong-stream_within.field-0-is refl))) (long_is_none _)

pub returns-in-Err-SinkFault-clause-run : goal.returns-in-Err-SinkFault-clause-run
returns-in-Err-SinkFault-clause-run g c = λ old request k next reached here. spills_front _ _ _ _ _ _ reached (pours_success _ _ _ _ (sym c.in_ok-plan.ensures ∙ c.in-Pour.is)) c.stream_within.ensures.told c.stream_within.ensures.steady c.stream_within.ensures.sink_count c.stream_within.ensures.prefix (cut_spilled _ _ _ next request _ _ _ _ _ k _ _ here reached (sym c.in_ok-plan.ensures ∙ c.in-Pour.is) c.stream_within.ensures.count c.stream_within.ensures.told c.stream_within.ensures.steady) (λ h. c.in-Err-SinkFault.ensures.sink_fault (rw c.in-Err-SinkFault.field-0-is refl))

pub returns-clause-run : goal.returns-clause-run
returns-clause-run g c = λ old request k next reached here. spills_front _ _ _ _ _ _ reached (pours_success _ _ _ _ (sym c.in_ok-plan.ensures ∙ c.in-Pour.is)) c.stream_within.ensures.told c.stream_within.ensures.steady c.stream_within.ensures.sink_count c.stream_within.ensures.prefix (cut_wanting _ _ _ next request _ _ _ _ _ k _ reached c.stream_within.ensures.count c.stream_within.ensures.told c.stream_within.ensures.steady refl) (memory_is_none _)

pub returns-in_err-plan-clause-within : goal.returns-in_err-plan-clause-within
returns-in_err-plan-clause-within g c = within_none _ _

pub returns-in-Refuse-clause-within : goal.returns-in-Refuse-clause-within
returns-in-Refuse-clause-within g c = within_none _ _

pub returns-in-Ok-clause-within : goal.returns-in-Ok-clause-within
returns-in-Ok-clause-within g c = within_none _ _

pub returns-in-Err-TransportFault-clause-within : goal.returns-in-Err-TransportFault-clause-within
returns-in-Err-TransportFault-clause-within g c = within_none _ _

pub returns-in-Err-BodyTooLong-clause-within : goal.returns-in-Err-BodyTooLong-clause-within
returns-in-Err-BodyTooLong-clause-within g c = within_none _ _

pub returns-in-Judge-clause-within : goal.returns-in-Judge-clause-within
returns-in-Judge-clause-within g c = within_none _ _

pub returns-in_err-both_compared-in-Ok-stream_within-clause-within : goal.returns-in_err-both_compared-in-Ok-stream_within-clause-within
returns-in_err-both_compared-in-Ok-stream_within-clause-within g c = c.stream_within.ensures.within

pub returns-in-Ok-stream_within-clause-within : goal.returns-in-Ok-stream_within-clause-within
returns-in-Ok-stream_within-clause-within g c = c.stream_within.ensures.within

pub returns-in-Err-TransportFault-stream_within-clause-within : goal.returns-in-Err-TransportFault-stream_within-clause-within
returns-in-Err-TransportFault-stream_within-clause-within g c = c.stream_within.ensures.within

pub returns-in-Err-BodyTooLong-stream_within-clause-within : goal.returns-in-Err-BodyTooLong-stream_within-clause-within
returns-in-Err-BodyTooLong-stream_within-clause-within g c = c.stream_within.ensures.within

pub returns-in-Err-SinkFault-clause-within : goal.returns-in-Err-SinkFault-clause-within
returns-in-Err-SinkFault-clause-within g c = c.stream_within.ensures.within

pub returns-clause-within : goal.returns-clause-within
returns-clause-within g c = c.stream_within.ensures.within
