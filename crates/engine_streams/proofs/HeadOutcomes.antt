-- A request whose response is used by its head, or read for its refusal: each outcome.
use Rattle.std.proofs.Common.{◌≡◌, ◌≤◌, inl, inr, ℕ, Bool, true, false, List, Option, Some, None, Result, Ok, Err, refl, sym, ap, ◌∙◌}
use Rattle.std.specs.Prelude.{MatchBool, ◌||◌, if◌then◌else◌}
use Rattle.std.specs.Result.{IsErrAnd}
use Rattle.std.proofs.lemmas.Result.{err_from_is_err_and}
use Rattle.oci_transport.specs.Link.{Link, Steady}
use Rattle.oci_transport.specs.declared.message.Request.{Request}
use Rattle.oci_transport.specs.declared.message.AnswerHead.{AnswerHead}
use Rattle.oci_auth.specs.declared.auth_state.AuthState.{AuthState}
use Rattle.oci_protocol.specs.Proto.{Unread, limit_of}
use Rattle.oci_protocol.specs.Follow.{Reaches, Misses, Cuts}
use Rattle.oci_protocol.specs.Runs.{Meets}
use Rattle.oci_protocol.proofs.Laws.{Meets-err}
use Rattle.oci_protocol.proofs.RedirectSteps.{reached_headed, reached_answered, reached_long, reached_failed, reached_cut, missed, cut}
use Rattle.engine_terms.specs.declared.error.OciDistributionError.{OciDistributionError}
use Rattle.engine_terms.specs.declared.error.OciDistributionError.TheVariants as refusal
use Rattle.json_values.specs.Refusals.{Matches}
use Rattle.engine_terms.specs.Error.{is_memory}
use Rattle.engine_answers.specs.Answers.{is_error}
use Rattle.oci_protocol.proofs.Exits.{said}
use Rattle.engine_steps.proofs.HelperTrees.{reached_untaken}
use Rattle.engine_streams.specs.Head.{opening, is_streamed}
use Rattle.engine_streams.specs.Blobs.{Refuses, IsLeft}
use Rattle.engine_streams.specs.Asking.{reading_unless, judged_reading, judged_reply, judged, streams, streams_or_passes, some_opening, opening_unless_error}
use Rattle.engine_streams.specs.declared.head.Opening.{Opening}
use Rattle.engine_streams.specs.declared.range.ByteRange.{ByteRange}

unread : (limit : ℕ) (takes : AnswerHead → Bool) (head : AnswerHead) → takes head ≡ true → judged_reading limit takes head ≡ Unread
unfolding judged_reading
unread limit takes head is = ap (reading_unless limit) is

read : (limit : ℕ) (takes : AnswerHead → Bool) (head : AnswerHead) → takes head ≡ false → limit_of (judged_reading limit takes head) ≡ Some limit
unfolding judged_reading
read limit takes head is = ap (λ (b : Bool). limit_of (reading_unless limit b)) is

pub judged_missed : {A : Type 0} (limit : ℕ) (takes : AnswerHead → Bool) (made : AnswerHead → Result A OciDistributionError) (request : Request) (old new : Link) (k : AuthState) → Misses 10 request old new → Meets is_memory (judged limit takes made request) old new k k (Err refusal.TransportFault)
unfolding judged
judged_missed limit takes made request old new k m = missed 10 request (judged_reading limit takes) (judged_reply made) m (λ last. Meets-err is_memory new k refusal.TransportFault refl)

pub judged_cut : {A : Type 0} (limit : ℕ) (takes : AnswerHead → Bool) (made : AnswerHead → Result A OciDistributionError) (request : Request) (old new : Link) (k : AuthState) → Cuts 10 request old new → Meets is_memory (judged limit takes made request) old new k k (Err refusal.WantOfMemory)
unfolding judged
judged_cut limit takes made request old new k c = cut is_memory 10 request (judged_reading limit takes) (judged_reply made) k refusal.WantOfMemory c refl

-- the response is used
pub judged_taken : {A : Type 0} (limit : ℕ) (takes : AnswerHead → Bool) (made : AnswerHead → Result A OciDistributionError) (request : Request) (head : AnswerHead) (last : Request) (old new : Link) (k : AuthState) (r : Result A OciDistributionError)
    → Reaches 10 request head last old new → takes head ≡ true → Matches is_memory r (made head) → Meets is_memory (judged limit takes made request) old new k k r
unfolding judged
judged_taken limit takes made request head last old new k r reach is says = reached_headed 10 request (judged_reading limit takes) (judged_reply made) head last reach (unread limit takes head is) (said r says)

-- the same at the exit of a `?`
pub judged_on : {A : Type 0} (limit : ℕ) (takes : AnswerHead → Bool) (made : AnswerHead → Result A OciDistributionError) (request : Request) (head : AnswerHead) (last : Request) (old new : Link) (k : AuthState) (e : OciDistributionError) (r : Result A OciDistributionError)
    → Reaches 10 request head last old new → takes head ≡ true → Matches {A = A} is_memory (Err e) (made head) → IsErrAnd r (λ x. x ≡ e) → Meets is_memory (judged limit takes made request) old new k k r
judged_on limit takes made request head last old new k e r reach is says at_exit = let at = err_from_is_err_and r at_exit in rw (at.1, at.2) (judged_taken limit takes made request head last old new k (Err e) reach is says)

unless_memory : (b : Bool) (P : Type 0) → P → MatchBool b (Unit {0}) P
unless_memory true P p = tt
unless_memory false P p = p

-- the response is refused, and its body read
pub judged_refused : {A : Type 0} (limit : ℕ) (takes : AnswerHead → Bool) (made : AnswerHead → Result A OciDistributionError) (request : Request) (head : AnswerHead) (last : Request) (old mid new : Link) (k : AuthState) (e : OciDistributionError)
    → Reaches 10 request head last old mid → takes head ≡ false → mid.faults ≤ new.faults → new.told ≡ mid.told → Steady mid new → Refuses limit last.url head mid new e → Meets is_memory (judged limit takes made request) old new k k (Err e)
unfolding judged
judged_refused limit takes made request head last old mid new k e reach is le same steady (inl wanted) = reached_cut is_memory 10 request (judged_reading limit takes) (judged_reply made) head last k e reach le same steady wanted
judged_refused limit takes made request head last old mid new k e reach is le same steady (inr (inl x)) = rw x.0 (reached_failed 10 request (judged_reading limit takes) (judged_reply made) head last limit reach (read limit takes head is) le same steady x.1 (Meets-err is_memory new k refusal.TransportFault refl))
judged_refused limit takes made request head last old mid new k e reach is le same steady (inr (inr (inl x))) = rw x.0 (reached_long 10 request (judged_reading limit takes) (judged_reply made) head last limit reach (read limit takes head is) le same steady x.1 (Meets-err is_memory new k refusal.BodyTooLong refl))
judged_refused limit takes made request head last old mid new k e reach is le same steady (inr (inr (inr x))) = reached_answered 10 request (judged_reading limit takes) (judged_reply made) head last limit x.0 reach (read limit takes head is) le same steady x.1 x.2 x.3 (said (Err e) (unless_memory (is_memory e) _ (ap Err (sym x.4))))

-- ---- which responses are used

pub streams_is : (range : Option ByteRange) (head : AnswerHead) (b : Bool) → is_streamed range head.status ≡ b → streams range head ≡ b
unfolding streams
streams_is range head b is = is

pub passes : (range : Option ByteRange) (head : AnswerHead) → is_error head.status ≡ true → streams_or_passes range head ≡ true
unfolding streams_or_passes
passes range head is = ap (λ (b : Bool). b || is_streamed range head.status) is

pub streams_too : (range : Option ByteRange) (head : AnswerHead) (b : Bool) → is_error head.status ≡ false → is_streamed range head.status ≡ b → streams_or_passes range head ≡ b
unfolding streams_or_passes
streams_too range head b is too = ap (λ (c : Bool). c || is_streamed range head.status) is ∙ too

pub passed_over : (range : Option ByteRange) (digest : List ℕ) (head : AnswerHead) → is_error head.status ≡ true → Matches is_memory (Ok None) (opening_unless_error range digest head)
unfolding opening_unless_error
passed_over range digest head is = ap (λ (b : Bool). if b then Ok None else some_opening (opening range digest head)) is

pub opened_here : (range : Option ByteRange) (digest : List ℕ) (head : AnswerHead) (o : Opening) → is_error head.status ≡ false → opening range digest head ≡ Ok o → Matches is_memory (Ok (Some o)) (opening_unless_error range digest head)
unfolding opening_unless_error
opened_here range digest head o is made = ap (λ (b : Bool). if b then Ok None else some_opening (opening range digest head)) is ∙ ap some_opening made

pub not_opened : (range : Option ByteRange) (digest : List ℕ) (head : AnswerHead) (e : OciDistributionError) → is_error head.status ≡ false → Matches {A = Opening} is_memory (Err e) (opening range digest head) → Matches {A = Option Opening} is_memory (Err e) (opening_unless_error range digest head)
unfolding opening_unless_error
not_opened range digest head e is = by_memory (is_memory e) where
  made : opening range digest head ≡ Err e → opening_unless_error range digest head ≡ Err e
  made says = ap (λ (b : Bool). if b then Ok None else some_opening (opening range digest head)) is ∙ ap some_opening says

  by_memory : (b : Bool) → MatchBool b (Unit {0}) (opening range digest head ≡ Err e) → MatchBool b (Unit {0}) (opening_unless_error range digest head ≡ Err e)
  by_memory true h = tt
  by_memory false h = made h

-- the whole body is left
pub left_here : (range : Option ByteRange) (digest : List ℕ) (request : Request) (head : AnswerHead) (last : Request) (o : Opening) (old new : Link) → Reaches 10 request head last old new → opening range digest head ≡ Ok o → IsLeft range digest o old new
left_here range digest request head last o old new reach made = record { head = head; said = made; untaken = reached_untaken 10 request head last old new reach }
