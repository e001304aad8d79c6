-- The laws of a transport, from the outcome of a request.
use Rattle.std.proofs.Common.{◌≡◌, ℕ, true, false, List, [], ◌∷◌, ◌++◌, Option, Some, None, refl, sym, ap, ◌∙◌, append-nil}
use Rattle.std.specs.Prelude.{is_some, Result, Ok, Err}
use Rattle.byte_streams.specs.SinkState.{SinkState}
use Rattle.byte_streams.specs.Source.{SourceState}
use Rattle.http_server.specs.declared.log.Log.{Log}
use Rattle.oci_transport.specs.Link.{Link, Answers, AddsUnanswered, AddsAtMost, answer_of, exchange_of}
use Rattle.oci_transport.specs.declared.message.AnswerHead.{AnswerHead}
use Rattle.oci_transport.specs.declared.message.Exchange.{Exchange}
use Rattle.oci_transport.specs.declared.message.Request.{Request}
use Rattle.live_link.specs.Asking.{unsent, head_after, Sends, not_sent, was_sent}
use Rattle.live_link.specs.State.{body_left, exchange_in, exchanges_by, told_since, rest_in}
use Rattle.live_link.specs.declared.replies.Reply.{Reply}
use Rattle.live_link.specs.declared.replies.Reply.TheVariants.{Answer, Piece, End, Failed, Other}
use Rattle.live_link.specs.declared.stage.Breach.{Breach}
use Rattle.live_link.specs.declared.stage.Heard.{Heard}
use Rattle.live_link.specs.declared.stage.Stage.{Stage}
use Rattle.live_link.specs.declared.stage.Stage.TheVariants.{Ended, Open, Cut, Broken}
use Rattle.live_link.proofs.Shown.{one_entry, tells_more, extends, rest_known}

-- ---- the stage after a request

open_by : (reply : Result Reply Breach) (head : AnswerHead) → (head_after reply).1 ≡ Some head → (head_after reply).0 ≡ Open
open_by (Ok (Answer h)) head is = refl
open_by (Ok (Piece piece)) head is = absurd (cc is)
open_by (Ok End) head is = absurd (cc is)
open_by (Ok Failed) head is = absurd (cc is)
open_by (Ok Other) head is = absurd (cc is)
open_by (Err breach) head is = absurd (cc is)

-- the body of a response is open
pub opens : (request : Request) (stage : Stage) (r : Stage × Option AnswerHead) (s t : SourceState) (k l : SinkState) (head : AnswerHead)
    → Sends request stage r s t k l → r.1 ≡ Some head → r.0 ≡ Open
opens request stage r s t k l head (not_sent is same_source same_sink) some =
    let none : r.1 ≡ None = ap (λ (q : Stage × Option AnswerHead). q.1) is in absurd (cc (none, some))
opens request stage r s t k l head (was_sent reply none is asks) some =
    ap (λ (q : Stage × Option AnswerHead). q.0) is ∙ open_by reply head (sym (ap (λ (q : Stage × Option AnswerHead). q.1) is) ∙ some)

rest_unsent : (stage : Stage) (o : Option (List ℕ)) → rest_in (unsent stage) o ≡ Some []
rest_unsent Ended o = refl
rest_unsent Open o = refl
rest_unsent Cut o = refl
rest_unsent (Broken breach) o = refl

rest_by : (reply : Result Reply Breach) (o : Option (List ℕ)) → (head_after reply).1 ≡ None → rest_in (head_after reply).0 o ≡ Some []
rest_by (Ok (Answer h)) o is = absurd (cc is)
rest_by (Ok (Piece piece)) o is = refl
rest_by (Ok End) o is = refl
rest_by (Ok Failed) o is = refl
rest_by (Ok Other) o is = refl
rest_by (Err breach) o is = refl

-- nothing can be taken if no response arrived
pub nothing_left : (request : Request) (stage : Stage) (r : Stage × Option AnswerHead) (s t : SourceState) (k l : SinkState) (o : Option (List ℕ))
    → Sends request stage r s t k l → r.1 ≡ None → rest_in r.0 o ≡ Some []
nothing_left request stage r s t k l o (not_sent is same_source same_sink) none =
    ap (λ (q : Stage × Option AnswerHead). rest_in q.0 o) is ∙ rest_unsent stage o
nothing_left request stage r s t k l o (was_sent reply whole is asks) none =
    ap (λ (q : Stage × Option AnswerHead). rest_in q.0 o) is ∙ rest_by reply o (sym (ap (λ (q : Stage × Option AnswerHead). q.1) is) ∙ none)

-- ---- the exposed exchanges

-- an exchange without a response
pub told_unanswered : {S K : Type 0} (source_state : S → SourceState) (sink : K → SinkState) (began : List (S × K)) (items later : List (S × Log Request Heard)) (source : S) (said : Log Request Heard)
    → (request : Request) (head : Option AnswerHead) (old new : Link)
    → later ≡ items ++ (source, said) ∷ [] → said.items ≡ (request, record { head = head; faults = old.faults }) ∷ [] → head ≡ None
    → old.answers ≡ None → new.exact ≡ old.exact → old.told ≡ told_since source_state sink began (exchanges_by source_state items) → new.told ≡ told_since source_state sink began (exchanges_by source_state later)
    → AddsUnanswered request old new
told_unanswered source_state sink began items later source said request head old new is one none unknown exact was now =
    extends old new (exchange_of request None old ∷ []) unknown exact (λ before told.
    now ∙ tells_more source_state sink began (exchanges_by source_state items) (exchanges_by source_state later) before (exchange_of request None old)
    (one_entry source_state items later source said _ is one
    ∙ ap (λ (o : Option AnswerHead). exchanges_by source_state items ++ exchange_in (source_state source).left (request, record { head = o; faults = old.faults }) ∷ []) none)
    (sym was ∙ told))

-- an exchange with a response
pub told_answered : {S K : Type 0} (source_state : S → SourceState) (sink : K → SinkState) (began : List (S × K)) (items later : List (S × Log Request Heard)) (source : S) (said : Log Request Heard)
    → (request : Request) (given : Option AnswerHead) (head : AnswerHead) (stage : Stage) (old new : Link)
    → later ≡ items ++ (source, said) ∷ [] → said.items ≡ (request, record { head = given; faults = old.faults }) ∷ [] → given ≡ Some head
    → old.answers ≡ None → new.exact ≡ old.exact → new.faults ≡ old.faults → old.told ≡ told_since source_state sink began (exchanges_by source_state items) → new.told ≡ told_since source_state sink began (exchanges_by source_state later)
    → stage ≡ Open → new.rest ≡ rest_in stage (source_state source).left
    → ((before : List Exchange) → old.told ≡ Some before → is_some (source_state source).left ≡ true)
    → Answers request head old new
told_answered source_state sink began items later source said request given head stage old new is one some unknown exact calm was now opened left known = record {
  body = body_left (source_state source).left;
  added = extends old new (exchange_of request (Some (answer_of head (body_left (source_state source).left))) old ∷ []) unknown exact (λ before told.
      now ∙ tells_more source_state sink began (exchanges_by source_state items) (exchanges_by source_state later) before (exchange_of request (Some (answer_of head (body_left (source_state source).left))) old)
      (one_entry source_state items later source said _ is one
      ∙ ap (λ (o : Option AnswerHead). exchanges_by source_state items ++ exchange_in (source_state source).left (request, record { head = o; faults = old.faults }) ∷ []) some)
      (sym was ∙ told));
  rest = λ before told. left ∙ rest_known stage (source_state source).left opened (known before told);
  calm = λ h. calm;
}

-- nothing is exposed
pub told_nothing : (request : Request) (old new : Link) → old.answers ≡ None → new.exact ≡ old.exact → new.told ≡ old.told → AddsAtMost request old new
told_nothing request old new unknown exact same = record {
  conversation = [];
  added = extends old new [] unknown exact (λ before told. same ∙ told ∙ ap Some (sym (append-nil before)));
  most = tt;
}

-- the streams are in step
pub no_breach : (o : Option Breach) → is_some o ≡ false → o ≡ None
no_breach None is = refl
no_breach (Some breach) is = absurd (cc is)
