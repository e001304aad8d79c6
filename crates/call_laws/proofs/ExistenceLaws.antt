-- What every run of `blob_exists` shows.
use Rattle.std.proofs.Common.{◌≡◌, ◌≢◌, inl, inr, ℕ, Bool, true, false, List, [], ◌∷◌, ◌++◌, Some, None, Result, Ok, Err, IfOk, IfErr, refl, sym, ap, subst, ◌∙◌, append-nil}
use Rattle.std.specs.Prelude.{nat_eq, ◌||◌, if◌then◌else◌}
use Rattle.json_values.specs.Counts.{Increased}
use Rattle.url.specs.Parts.{Parts}
use Rattle.oci_transport.specs.Headers.{is_header_value}
use Rattle.oci_transport.specs.Link.{Link, answer_of}
use Rattle.oci_transport.specs.Urls.{request_url}
use Rattle.oci_transport.specs.declared.message.Answer.{Answer}
use Rattle.oci_transport.specs.declared.message.AnswerHead.{AnswerHead}
use Rattle.oci_transport.specs.declared.message.Exchange.{Exchange}
use Rattle.oci_transport.specs.declared.message.Method.TheVariants.{Head}
use Rattle.oci_transport.specs.declared.message.Request.{Request}
use Rattle.oci_names.specs.declared.reference.Reference.{Reference}
use Rattle.oci_auth.specs.declared.auth_state.AuthState.{AuthState}
use Rattle.oci_protocol.specs.Proto.{Unread, Within as WithinLimit, Piped, limit_of, Reply, Headed, Answered, Failed, TooLong, SinkFailed, ◌>>=◌}
use Rattle.oci_protocol.specs.Ends.{Ends}
use Rattle.oci_protocol.specs.Runs.{Runs, Meets, Told, head_part}
use Rattle.oci_protocol.specs.EveryRun.{EveryRun, ByResult, WhenOk, Heard}
use Rattle.oci_protocol.proofs.RunFacts.{done_run, EveryRun-more, EveryRun-each, EveryRun-step, EveryRun-follow, Meets-shows-ok}
use Rattle.engine_terms.specs.Contexts.{Context}
use Rattle.engine_terms.specs.Error.{is_memory}
use Rattle.engine_terms.specs.declared.error.OciDistributionError.{OciDistributionError}
use Rattle.engine_terms.specs.declared.error.OciDistributionError.TheVariants as refusal
use Rattle.engine_requests.specs.Addresses.{blob_text, url_read}
use Rattle.engine_answers.specs.Answers.{is_success, refused_answer}
use Rattle.engine_rows.specs.Answered.{Asks}
use Rattle.engine_rows.specs.Causes.{Act, Sends, Cause, IsEarly, IsRefusedAs}
use Rattle.engine_rows.specs.Confined.{Within}
use Rattle.engine_rows.specs.Held.{Entry, pulling}
use Rattle.request_laws.proofs.CallConfinement.{call_within}
use Rattle.request_laws.proofs.DocumentAnswers.{url_is}
use Rattle.request_laws.proofs.DocumentCauses.{cause_later, early_shown, heard_answer, heard_failed, heard_long, last_later, status_is, url_cause}
use Rattle.request_laws.proofs.EarlyCauses.{AnyValue}
use Rattle.request_laws.proofs.ExactRefusals.{Only, no_url, url_first as first_url, early_on, met_only, met_early}
use Rattle.request_laws.proofs.FaultCounts.{failed_last, fault_last, refusal_both}
use Rattle.request_laws.proofs.HeaderCauses.{Sound}
use Rattle.request_laws.proofs.KeptTokens.{Keeps, keeps_first}
use Rattle.request_laws.proofs.PlainRefusals.{refused_plain}
use Rattle.request_laws.proofs.RequestConfinement.{Sent}
use Rattle.request_laws.proofs.ShownTokens.{Carries, Ended, safe_done, safe_follow, safe_ready, plain_last, url_first}
use Rattle.engine_pull.specs.Causes.{BadValue, ExistsUrl, Tells, ExistsAnswered, ExistsAnswer}
use Rattle.engine_pull.specs.Listings.{bare, is_told, unless_told, is_there, there_after, blob_exists}
use Rattle.call_laws.proofs.BareRequests.{bare_causes, bare_safe, bare_bad}
use Rattle.call_laws.proofs.StatusRefusals.{refused_cause, tight, free}

-- ---- which responses are read

was_told : (limit : ℕ) (head : AnswerHead) → unless_told limit head ≡ Unread → is_told head.status ≡ true
unfolding unless_told
was_told limit head = by_test (is_told head.status) where
  by_test : (b : Bool) → (if b then Unread else WithinLimit limit) ≡ Unread → b ≡ true
  by_test true is = refl
  by_test false is = absurd (cc is)

was_other : (limit n : ℕ) (head : AnswerHead) → limit_of (unless_told limit head) ≡ Some n → (is_told head.status ≡ false) × (limit ≡ n)
unfolding unless_told
was_other limit n head = by_test (is_told head.status) where
  by_test : (b : Bool) → limit_of (if b then Unread else WithinLimit limit) ≡ Some n → (b ≡ false) × (limit ≡ n)
  by_test true is = absurd (cc is)
  by_test false is = (refl, cc is)

never_piped : (limit n : ℕ) (head : AnswerHead) → unless_told limit head ≡ Piped n → ⊥
unfolding unless_told
never_piped limit n head = by_test (is_told head.status) where
  by_test : (b : Bool) → (if b then Unread else WithinLimit limit) ≡ Piped n → ⊥
  by_test true is = cc is
  by_test false is = cc is

tells : (answer : Answer) → is_told answer.status ≡ true → Tells (is_success answer.status) answer
tells answer = by_test (is_success answer.status) refl where
  by_test : (b : Bool) → is_success answer.status ≡ b → (b || nat_eq answer.status 404) ≡ true → Tells b answer
  by_test true test is = test
  by_test false test is = status_is answer.status 404 is

not_200 : (status : ℕ) → is_told status ≡ false → status ≢ 200
not_200 status other same = cc (sym other ∙ ap is_told same)

-- ---- the response

module _ (s : Context) (image : Reference) (digest : List ℕ) where
  abbrev T : Act → Type 0
  T act = ExistsUrl s.settings image digest act

  abbrev Why : ℕ → List Exchange → ℕ → OciDistributionError → Type 0
  Why m c n e = Cause T ExistsAnswer AnyValue s.settings c n e

  abbrev Found : ℕ → List Exchange → ℕ → Bool → Type 0
  Found m c n there = ExistsAnswered s.settings image digest there c

  found_later : (c : List Exchange) (m start o : ℕ) (d : List Exchange) (r : Result Bool OciDistributionError) → ByResult Found Why start d o r → ByResult Found Why m (c ++ d) o r
  found_later c m start o d (Ok there) h = last_later T T (λ address answer. Tells there answer) c (λ act h. h) (λ address answer h. h) h
  found_later c m start o d (Err e) h = cause_later T T ExistsAnswer ExistsAnswer s.settings [] o c d e (λ act h. h) (λ address answer h. h) h

  there_causes : (request : Request) → T (Sends request) → EveryRun (ByResult Found Why) (there_after request s.settings.max_body_bytes)
  unfolding there_after
  there_causes request own = EveryRun-follow (ByResult Found Why) 10 request (unless_told s.settings.max_body_bytes) is_there by_reply where
    by_reply : (k l : AuthState) (m after o : ℕ) (c d : List Exchange) (last : Request) (reply : Reply) (r : Result Bool OciDistributionError) → Heard 10 request (unless_told s.settings.max_body_bytes) m c after last reply → Runs (is_there last reply) k after d o l r → ByResult Found Why m (c ++ d) o r
    by_reply k l m after o c d last (Headed head) r h run =
        let b = h.replies.reply_is in
        done_run (λ start d o r. ByResult Found Why m (c ++ d) o r) (Ok (is_success head.status)) k l after o d r
        (subst (λ x. Found m x after (is_success head.status)) (sym (append-nil c)) (record { address = last.url; answer = answer_of head b.0; last = heard_answer T h own (answer_of head b.0) b.1 h.settles; holds = tells (answer_of head b.0) (was_told s.settings.max_body_bytes head b.2) })) run
    by_reply k l m after o c d last (Answered answer) r h run =
        let b = h.replies.reply_is in
        let other = (was_other s.settings.max_body_bytes b.0 (head_part answer) b.2).0 in
        done_run (λ start d o r. ByResult Found Why m (c ++ d) o r) (Err (refused_answer 200 last.url answer)) k l after o d r
        (subst (λ x. Why m x after (refused_answer 200 last.url answer)) (sym (append-nil c)) (refused_cause T ExistsAnswer s.settings after c last.url answer (heard_answer T h own answer b.1 h.settles) (not_200 answer.status other) (λ e of cause. (other, cause)))) run
    by_reply k l m after o c d last Failed r h run = done_run (λ start d o r. ByResult Found Why m (c ++ d) o r) (Err refusal.TransportFault) k l after o d r (rw append-nil (heard_failed T h own)) run
    by_reply k l m after o c d last TooLong r h run = done_run (λ start d o r. ByResult Found Why m (c ++ d) o r) (Err refusal.BodyTooLong) k l after o d r (rw append-nil (heard_long T h s.settings.max_body_bytes own (λ n head is. (was_other s.settings.max_body_bytes n head is).1))) run
    by_reply k l m after o c d last SinkFailed r h run = let b = h.replies.reply_is in absurd (never_piped s.settings.max_body_bytes b.1 (head_part b.0) b.3)

  asked_causes : (url : Parts) → url_read (blob_text s.settings image digest) ≡ Ok url → EveryRun (ByResult Found Why) (bare s image Head url >>= λ request. there_after request s.settings.max_body_bytes)
  asked_causes url read = EveryRun-each (λ m c n request. Asks s.settings Head url None request) Found Why (bare s image Head url) (λ request. there_after request s.settings.max_body_bytes)
      (early_shown T ExistsAnswer s.settings [] (λ m c n request. Asks s.settings Head url None request) (bare s image Head url) (bare_causes T s image Head url (inl refl)))
      (λ m n c request asks. EveryRun-more (ByResult Found Why) (λ start d o r. ByResult Found Why m (c ++ d) o r) (there_after request s.settings.max_body_bytes) (there_causes request (url, url_is (blob_text s.settings image digest) (request_url (blob_text s.settings image digest)) url read, asks)) (λ start o d r h. found_later c m start o d r h))

  -- each result has its cause
  exists_causes : EveryRun (ByResult Found Why) (blob_exists s image digest)
  unfolding blob_exists
  exists_causes = EveryRun-step (ByResult Found Why) (url_read (blob_text s.settings image digest)) (λ url. bare s image Head url >>= λ request. there_after request s.settings.max_body_bytes)
      (λ url is. asked_causes url is)
      (λ e is m. url_cause T ExistsAnswer s.settings [] (blob_text s.settings image digest) m [] e (inr refl) is)

  -- ---- credentials

  there_sound : (x : Entry) (request : Request) (l : AuthState) (c : List Exchange) → Sent x s.settings c request → Keeps x l c → Sound x s.settings [] l c (there_after request s.settings.max_body_bytes)
  unfolding there_after
  there_sound x request l c sent keeps = safe_follow x s.settings (Ended x s.settings []) 10 request (unless_told s.settings.max_body_bytes) is_there l c sent keeps (λ last d e before after other reply h replies. by_reply last reply (d ++ e ∷ []) h) where
    by_reply : (last : Request) (reply : Reply) (d : List Exchange) → Keeps x l d → Sound x s.settings [] l d (is_there last reply)
    by_reply last (Headed head) d h = safe_done x s.settings (Ended x s.settings []) l d (Ok (is_success head.status)) h
    by_reply last (Answered answer) d h = plain_last x s.settings [] (Err (refused_answer 200 last.url answer)) l d (refused_plain last.url answer) h
    by_reply last Failed d h = safe_done x s.settings (Ended x s.settings []) l d (Err refusal.TransportFault) tt
    by_reply last TooLong d h = safe_done x s.settings (Ended x s.settings []) l d (Err refusal.BodyTooLong) tt
    by_reply last SinkFailed d h = safe_done x s.settings (Ended x s.settings []) l d (Err refusal.SinkFault) tt

  exists_sound : (k l : AuthState) (c : List Exchange) → Keeps (pulling k s image None) l c → Sound (pulling k s image None) s.settings [] l c (blob_exists s image digest)
  unfolding blob_exists
  exists_sound k l c keeps =
      let x = pulling k s image None in
      url_first x s.settings [] (blob_text s.settings image digest) _ l c (λ url.
      safe_ready x s.settings [] (bare s image Head url) _ l c (bare_safe s image k None Head url l c keeps) (λ l c request keeps sent.
      there_sound x request l c sent keeps))

  -- ---- refusals that must occur

  url_ends : request_url (blob_text s.settings image digest) ≡ None → Ends (Only (refusal.UrlParseError (blob_text s.settings image digest))) (blob_exists s image digest)
  unfolding blob_exists
  url_ends none = no_url (blob_text s.settings image digest) (λ url. bare s image Head url >>= λ request. there_after request s.settings.max_body_bytes) none

  bad_ends : is_header_value s.settings.user_agent ≡ false → Ends IsEarly (blob_exists s image digest)
  unfolding blob_exists
  bad_ends bad = first_url (blob_text s.settings image digest) (λ url. bare s image Head url >>= λ request. there_after request s.settings.max_body_bytes) (λ url. early_on (bare s image Head url) _ (bare_bad s image Head url bad))

  -- ---- the exposed exchanges

  module _ {old new : Link} {k l : AuthState} {r : Result Bool OciDistributionError} (met : Meets is_memory (blob_exists s image digest) old new k l r) where
    pub exists_confined : Told (Within (pulling k s image None) s.settings l) old new
    exists_confined = let x = pulling k s image None in call_within x s.settings (Ended x s.settings []) l (exists_sound k k [] (keeps_first x)) met

    pub exists_answered : IfOk r (λ there. Told (ExistsAnswered s.settings image digest there) old new)
    exists_answered = Meets-shows-ok Found (EveryRun-more (ByResult Found Why) (WhenOk Found) (blob_exists s image digest) exists_causes when_ok) met where
      when_ok : (m o : ℕ) (c : List Exchange) (r : Result Bool OciDistributionError) → ByResult Found Why m c o r → WhenOk Found m c o r
      when_ok m o c (Ok there) h = h
      when_ok m o c (Err e) h = tt

    pub exists_reason : IfErr r (λ e. Told (λ c. Cause T ExistsAnswer (BadValue (pulling k s image None) s.settings) s.settings c new.faults e) old new)
    exists_reason =
        let x = pulling k s image None in
        refusal_both (Carries x s.settings) Found Why (Keeps x) (Ended x s.settings []) (λ c n e. Cause T ExistsAnswer (BadValue x s.settings) s.settings c n e) (blob_exists s image digest)
        (λ n c e is. free T ExistsAnswer (BadValue x s.settings) s.settings n c e is) (λ m n c e h bad. tight T ExistsAnswer x s.settings n c e h bad) exists_causes (exists_sound k k [] (keeps_first x)) met

    pub exists_fault : r ≡ Err refusal.TransportFault → Increased old.faults new.faults
    exists_fault is = fault_last Found Why (blob_exists s image digest) refusal.TransportFault refl (λ m n c h. failed_last h) exists_causes (rw is at met)

    pub exists_no_url : request_url (blob_text s.settings image digest) ≡ None → IsRefusedAs (refusal.UrlParseError (blob_text s.settings image digest)) r
    exists_no_url none = met_only (refusal.UrlParseError (blob_text s.settings image digest)) (url_ends none) met

    pub exists_bad : is_header_value s.settings.user_agent ≡ false → IsEarly r
    exists_bad bad = met_early (bad_ends bad) met
