use Rattle.std.proofs.Common.{length, refl}
use Rattle.serde_json.specs.View.{view}
use Rattle.live_host.specs.Heads.{verify_head}
use Rattle.live_host.specs.HostErrors.{AskCause, about_key}
use Rattle.live_host.specs.Questions.{verified_of}
use Rattle.live_host.specs.Wire.{wire}
use Rattle.live_host.proofs.Causes.{passed, unheard, untold, unverified}
use Rattle.live_host.proofs.FramesIn.{asks}
use Rattle.live_host.proofs.questions.ask_signature.Goals as goal

pub returns-in_err-tell-clause-cause : goal.returns-in_err-tell-clause-cause
returns-in_err-tell-clause-cause g c =
    passed (AskCause (about_key c.args.key.now c.args.message.now c.args.signature.now)) _ _ _ _
    (untold (about_key c.args.key.now c.args.message.now c.args.signature.now) _ _ _ _ (rw (c.in_ok-head.ensures.head, c.as_slice.ensures) refl) c.in_err-tell.ensures.cause) c.from_residual-in_err-tell.ensures

pub returns-in_err-answer-clause-cause : goal.returns-in_err-answer-clause-cause
returns-in_err-answer-clause-cause g c =
    passed (AskCause (about_key c.args.key.now c.args.message.now c.args.signature.now)) _ _ _ _
    (unheard (about_key c.args.key.now c.args.message.now c.args.signature.now) _ _ (wire g.S.Source.state g.K.Sink.state c.tell.new.streams) _ (rw (c.in_ok-head.ensures.head, c.as_slice.ensures) at c.in_ok-tell.ensures.told) c.in_err-answer.ensures.cause) c.from_residual-in_err-answer.ensures

pub returns-in_err-valid-clause-cause : goal.returns-in_err-valid-clause-cause
returns-in_err-valid-clause-cause g c =
    passed (AskCause (about_key c.args.key.now c.args.message.now c.args.signature.now)) _ _ _ _
    (unverified c.args.key.now c.args.message.now c.args.signature.now _ c.in_ok-answer.answer _ (wire g.S.Source.state g.K.Sink.state c.tell.new.streams) (wire g.S.Source.state g.K.Sink.state c.hear.new.streams) (rw (c.in_ok-head.ensures.head, c.as_slice.ensures) at c.in_ok-tell.ensures.told) c.in_ok-answer.ensures.heard (rw c.value.ensures at c.in_err-valid.ensures)) c.from_residual-in_err-valid.ensures

pub returns-clause-asked : goal.returns-clause-asked
returns-clause-asked g c =
    asks c.in_ok-head.head (verify_head c.args.key.now c.args.signature.now (length c.args.message.now)) _ c.args.message.now verified_of c.in_ok-valid.valid c.in_ok-answer.answer (view c.value.result.now) _ _ _
    c.in_ok-head.ensures.head c.as_slice.ensures c.in_ok-tell.ensures.told c.in_ok-answer.ensures.heard c.value.ensures c.in_ok-valid.ensures
