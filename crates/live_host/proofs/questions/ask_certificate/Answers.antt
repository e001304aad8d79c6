use Rattle.std.proofs.Common.{[], refl}
use Rattle.serde_json.specs.View.{view}
use Rattle.live_host.specs.Heads.{judge_head}
use Rattle.live_host.specs.HostErrors.{AskCause, about_certificate}
use Rattle.live_host.specs.Questions.{answer_of}
use Rattle.live_host.specs.Wire.{wire}
use Rattle.live_host.proofs.Causes.{passed, unheard, untold, unvouched}
use Rattle.live_host.proofs.FramesIn.{asks}
use Rattle.live_host.proofs.questions.ask_certificate.Goals as goal

pub returns-in_err-tell-clause-cause : goal.returns-in_err-tell-clause-cause
returns-in_err-tell-clause-cause g c =
    passed (AskCause (about_certificate c.args.evidence.now)) _ _ _ _
    (untold (about_certificate c.args.evidence.now) _ _ _ _ (rw c.in_ok-head.ensures.head refl) c.in_err-tell.ensures.cause) c.from_residual-in_err-tell.ensures

pub returns-in_err-answer-clause-cause : goal.returns-in_err-answer-clause-cause
returns-in_err-answer-clause-cause g c =
    passed (AskCause (about_certificate c.args.evidence.now)) _ _ _ _
    (unheard (about_certificate c.args.evidence.now) _ _ (wire g.S.Source.state g.K.Sink.state c.tell.new.streams) _ (rw c.in_ok-head.ensures.head at c.in_ok-tell.ensures.told) c.in_err-answer.ensures.cause) c.from_residual-in_err-answer.ensures

pub returns-in_err-vouched-clause-cause : goal.returns-in_err-vouched-clause-cause
returns-in_err-vouched-clause-cause g c =
    passed (AskCause (about_certificate c.args.evidence.now)) _ _ _ _
    (unvouched c.args.evidence.now _ c.in_ok-answer.answer _ (wire g.S.Source.state g.K.Sink.state c.tell.new.streams) (wire g.S.Source.state g.K.Sink.state c.hear.new.streams) (rw c.in_ok-head.ensures.head at c.in_ok-tell.ensures.told) c.in_ok-answer.ensures.heard (rw c.value.ensures at c.in_err-vouched.ensures)) c.from_residual-in_err-vouched.ensures

pub returns-clause-asked : goal.returns-clause-asked
returns-clause-asked g c =
    asks c.in_ok-head.head (judge_head c.args.evidence.now.certificate c.args.evidence.now.integrated_time) _ [] answer_of c.in_ok-vouched.vouched c.in_ok-answer.answer (view c.value.result.now) _ _ _
    c.in_ok-head.ensures.head refl c.in_ok-tell.ensures.told c.in_ok-answer.ensures.heard c.value.ensures c.in_ok-vouched.ensures
