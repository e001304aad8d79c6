-- What every run of a list's row shows.
use Rattle.std.proofs.Common.{◌≡◌, inl, inr, ℕ, Bool, true, false, List, [], ◌++◌, Option, Some, None, Result, Ok, Err, IfOk, IfErr, refl, sym, ap, subst, append-nil}
use Rattle.std.specs.Prelude.{if◌then◌else◌}
use Rattle.std.specs.Str.{is_utf8}
use Rattle.serde_json.specs.Data.{Data}
use Rattle.json_tables.specs.Plain.{read_plain}
use Rattle.json_values.specs.Counts.{Increased}
use Rattle.url.specs.Parts.{Parts}
use Rattle.oci_transport.specs.Headers.{is_header_value}
use Rattle.oci_transport.specs.Link.{Link}
use Rattle.oci_transport.specs.Urls.{request_url}
use Rattle.oci_transport.specs.declared.message.Answer.{Answer}
use Rattle.oci_transport.specs.declared.message.Exchange.{Exchange}
use Rattle.oci_transport.specs.declared.message.Method.TheVariants.{Get}
use Rattle.oci_transport.specs.declared.message.Request.{Request}
use Rattle.oci_names.specs.declared.reference.Reference.{Reference}
use Rattle.oci_auth.specs.declared.auth.RegistryAuth.{RegistryAuth}
use Rattle.oci_auth.specs.declared.auth_state.AuthState.{AuthState}
use Rattle.oci_protocol.specs.Proto.{Done, bind, ◌>>=◌, ◌>>◌}
use Rattle.oci_protocol.specs.Ends.{Ends}
use Rattle.oci_protocol.specs.Runs.{Meets, Told}
use Rattle.oci_protocol.specs.EveryRun.{EveryRun, ByResult, WhenOk}
use Rattle.oci_protocol.proofs.RunFacts.{EveryRun-done, EveryRun-more, EveryRun-each, EveryRun-step, EveryRun-last, Meets-shows-ok}
use Rattle.engine_terms.specs.Contexts.{Context}
use Rattle.engine_terms.specs.Error.{is_memory}
use Rattle.engine_terms.specs.declared.error.OciDistributionError.{OciDistributionError}
use Rattle.engine_terms.specs.declared.error.OciDistributionError.TheVariants as refusal
use Rattle.engine_terms.specs.declared.settings.Settings.{Settings}
use Rattle.engine_requests.specs.Addresses.{url_read}
use Rattle.engine_answers.specs.Answers.{accepted}
use Rattle.engine_rows.specs.Answered.{Asks}
use Rattle.engine_rows.specs.Rows.{Row, store, whole}
use Rattle.engine_rows.specs.Causes.{Act, Sends, ByLast, LastAnswer, Cause, IsEarly, IsRefusedAs}
use Rattle.engine_rows.specs.Confined.{Within}
use Rattle.engine_rows.specs.Held.{pulling}
use Rattle.request_laws.proofs.CallConfinement.{call_within}
use Rattle.request_laws.proofs.DocumentAnswers.{accepted_is, url_is}
use Rattle.request_laws.proofs.DocumentCauses.{cause_later, early_shown, last_later, url_cause, whole_causes}
use Rattle.request_laws.proofs.EarlyCauses.{AnyValue, store_causes}
use Rattle.request_laws.proofs.ExactRefusals.{Only, no_url, url_first as first_url, early_on, met_only, met_early}
use Rattle.request_laws.proofs.FaultCounts.{failed_last, fault_last, refusal_both}
use Rattle.request_laws.proofs.HeaderCauses.{Sound, whole_sound}
use Rattle.request_laws.proofs.KeptTokens.{Keeps, keeps_first}
use Rattle.request_laws.proofs.PlainRefusals.{Plain, accepted_plain}
use Rattle.request_laws.proofs.ShownTokens.{Carries, Ended, safe_next, safe_ready, store_safe, plain_step, plain_last, url_first}
use Rattle.engine_pull.specs.Causes.{BadValue, ListUrl, ListAnswered, ListAnswer}
use Rattle.engine_pull.specs.Listings.{bare, with_page, list_asked, or_unread, list_in, listed}
use Rattle.call_laws.proofs.BareRequests.{bare_causes, bare_safe, bare_bad}
use Rattle.call_laws.proofs.StatusRefusals.{list_status, accepted_cause, tight, free}

-- ---- the body

read_ok : {A : Type 0} (body : List ℕ) (o : Option A) (list : A) → or_unread body o ≡ Ok list → o ≡ Some list
read_ok body (Some found) list is = let same : found ≡ list = cc is in ap Some same
read_ok body None list is = absurd (cc is)

list_ok : {A : Type 0} (table : Data → Option A) (body : List ℕ) (list : A) → list_in table body ≡ Ok list → read_plain table body ≡ Some list
list_ok {A} table body list = by_test (is_utf8 body) where
  by_test : (b : Bool) → ◌≡◌ {A = Result A OciDistributionError} (if b then or_unread body (read_plain table body) else Err (refusal.ManifestEncodingError body)) (Ok list) → read_plain table body ≡ Some list
  by_test true is = read_ok body (read_plain table body) list is
  by_test false is = absurd (cc is)

-- a refusal for the body contains it
module _ {A : Type 0} (table : Data → Option A) (T : Act → Type 0) (s : Settings) (now : ℕ) (c : List Exchange) where
  abbrev Unlisted : OciDistributionError → Type 0
  Unlisted e = Cause T (ListAnswer table) AnyValue s c now e

  unread : (address : List ℕ) (answer : Answer) (o : Option A) (e : OciDistributionError) → LastAnswer T c address answer → answer.status ≡ 200 → is_utf8 answer.body ≡ true → read_plain table answer.body ≡ o → or_unread answer.body o ≡ Err e → Unlisted e
  unread address answer (Some list) e last status text read is = absurd (cc is)
  unread address answer None e last status text read is =
      let same : refusal.JsonError answer.body ≡ e = cc is in
      subst Unlisted same (record { address = address; answer = answer; last = last; holds = (status, refl, text, read) })

  list_refused : (address : List ℕ) (answer : Answer) (e : OciDistributionError) → LastAnswer T c address answer → answer.status ≡ 200 → list_in table answer.body ≡ Err e → Unlisted e
  list_refused address answer e last status = by_test (is_utf8 answer.body) refl where
    by_test : (b : Bool) → is_utf8 answer.body ≡ b → ◌≡◌ {A = Result A OciDistributionError} (if b then or_unread answer.body (read_plain table answer.body) else Err (refusal.ManifestEncodingError answer.body)) (Err e) → Unlisted e
    by_test true text is = unread address answer (read_plain table answer.body) e last status text refl is
    by_test false text is =
        let same : refusal.ManifestEncodingError answer.body ≡ e = cc is in
        subst Unlisted same (record { address = address; answer = answer; last = last; holds = (status, refl, text) })

list_plain : {A : Type 0} (table : Data → Option A) (body : List ℕ) → Plain (list_in table body)
list_plain {A} table body = by_test (is_utf8 body) where
  by_option : (o : Option A) → Plain (or_unread body o)
  by_option (Some list) = tt
  by_option None = tt

  by_test : (b : Bool) → Plain {A = A} (if b then or_unread body (read_plain table body) else Err (refusal.ManifestEncodingError body))
  by_test true = by_option (read_plain table body)
  by_test false = tt

-- ---- the response

module _ {A : Type 0} (table : Data → Option A) (s : Context) (image : Reference) (text : List ℕ) (n : Option ℕ) (last : Option (List ℕ)) where
  abbrev T : Act → Type 0
  T act = ListUrl s.settings image text n last act

  abbrev Why : ℕ → List Exchange → ℕ → OciDistributionError → Type 0
  Why m c k e = Cause T (ListAnswer table) AnyValue s.settings c k e

  -- the last response was accepted, and the bytes are its body
  abbrev Held : ℕ → List Exchange → ℕ → List ℕ → Type 0
  Held m c k body = ByLast T (λ address answer. (answer.status ≡ 200) × (body ≡ answer.body)) c

  abbrev Read : ℕ → List Exchange → ℕ → A → Type 0
  Read m c k list = ListAnswered table s.settings image text n last list c

  why_later : (c d : List Exchange) (k : ℕ) (e : OciDistributionError) → Cause T (ListAnswer table) AnyValue s.settings d k e → Cause T (ListAnswer table) AnyValue s.settings (c ++ d) k e
  why_later c d k e h = cause_later T T (ListAnswer table) (ListAnswer table) s.settings [] k c d e (λ act h. h) (λ address answer h. h) h

  held_later : (c : List Exchange) (m start o : ℕ) (d : List Exchange) (r : Result (List ℕ) OciDistributionError) → ByResult Held Why start d o r → ByResult Held Why m (c ++ d) o r
  held_later c m start o d (Ok body) h = last_later T T (λ address answer. (answer.status ≡ 200) × (body ≡ answer.body)) c (λ act h. h) (λ address answer h. h) h
  held_later c m start o d (Err e) h = why_later c d o e h

  read_later : (c : List Exchange) (m start o : ℕ) (d : List Exchange) (r : Result A OciDistributionError) → ByResult Read Why start d o r → ByResult Read Why m (c ++ d) o r
  read_later c m start o d (Ok list) h = last_later T T (λ address answer. (answer.status ≡ 200) × (read_plain table answer.body ≡ Some list)) c (λ act h. h) (λ address answer h. h) h
  read_later c m start o d (Err e) h = why_later c d o e h

  got_causes : (request : Request) → T (Sends request) → EveryRun (ByResult Held Why) (whole 10 request s.settings.max_body_bytes >>= λ got. Done (accepted 200 got.url got.answer) >>= λ answer. Done (Ok answer.body))
  got_causes request own = EveryRun-each (λ m c k got. LastAnswer T c got.url got.answer) Held Why (whole 10 request s.settings.max_body_bytes) (λ got. Done (accepted 200 got.url got.answer) >>= λ answer. Done (Ok answer.body)) (whole_causes T (ListAnswer table) s.settings [] request own)
      (λ m k c got at. EveryRun-step (λ start d o r. ByResult Held Why m (c ++ d) o r) (accepted 200 got.url got.answer) (λ answer. Done (Ok answer.body))
      (λ answer is. EveryRun-done (λ start d o r. ByResult Held Why m (c ++ d) o r) (Ok answer.body) (λ o. let good = accepted_is got.url got.answer answer is in subst (λ x. Held m x o answer.body) (sym (append-nil c)) (record { address = got.url; answer = got.answer; last = at; holds = (good.0, ap (λ (a : Answer). a.body) good.1) })))
      (λ e is o. subst (λ x. Why m x o e) (sym (append-nil c)) (accepted_cause T (ListAnswer table) s.settings o c got.url got.answer e at (list_status table got.url got.answer) is)))

  asked_causes : (url : Parts) → url_read text ≡ Ok url → EveryRun (ByResult Held Why) (list_asked s image (with_page n last url))
  unfolding list_asked
  asked_causes url read = EveryRun-each (λ m c k request. Asks s.settings Get (with_page n last url) None request) Held Why (bare s image Get (with_page n last url)) (λ request. whole 10 request s.settings.max_body_bytes >>= λ got. Done (accepted 200 got.url got.answer) >>= λ answer. Done (Ok answer.body))
      (early_shown T (ListAnswer table) s.settings [] (λ m c k request. Asks s.settings Get (with_page n last url) None request) (bare s image Get (with_page n last url)) (bare_causes T s image Get (with_page n last url) (inl refl)))
      (λ m k c request asks. EveryRun-more (ByResult Held Why) (λ start d o r. ByResult Held Why m (c ++ d) o r) (whole 10 request s.settings.max_body_bytes >>= λ got. Done (accepted 200 got.url got.answer) >>= λ answer. Done (Ok answer.body)) (got_causes request (url, url_is text (request_url text) url read, asks)) (λ start o d r h. held_later c m start o d r h))

  body_causes : (url : Parts) → url_read text ≡ Ok url → EveryRun (ByResult Read Why) (list_asked s image (with_page n last url) >>= λ body. Done (list_in table body))
  body_causes url read = EveryRun-each Held Read Why (list_asked s image (with_page n last url)) (λ body. Done (list_in table body)) (asked_causes url read)
      (λ m k c body h. EveryRun-last (λ start d o list. Read m (c ++ d) o list) (λ start d o e. Why m (c ++ d) o e) (list_in table body)
      (λ list is o. subst (λ x. Read m x o list) (sym (append-nil c)) (record { address = h.address; answer = h.answer; last = h.last; holds = (h.holds.0, list_ok table h.answer.body list (subst (λ b. list_in table b ≡ Ok list) h.holds.1 is)) }))
      (λ e is o. subst (λ x. Why m x o e) (sym (append-nil c)) (list_refused table T s.settings o c h.address h.answer e h.last h.holds.0 (subst (λ b. list_in table b ≡ Err e) h.holds.1 is))))

  -- each result has its cause
  list_causes : (a : RegistryAuth) → EveryRun (ByResult Read Why) (listed table text s image a n last)
  unfolding listed
  list_causes a = EveryRun-each (λ m c k u. Unit {0}) Read Why (store image a) (λ u. Done (url_read text) >>= λ url. list_asked s image (with_page n last url) >>= λ body. Done (list_in table body))
      (early_shown T (ListAnswer table) s.settings [] (λ m c k u. Unit {0}) (store image a) (store_causes T s.settings [] image a))
      (λ m k c u h. EveryRun-step (λ start d o r. ByResult Read Why m (c ++ d) o r) (url_read text) (λ url. list_asked s image (with_page n last url) >>= λ body. Done (list_in table body))
      (λ url is. EveryRun-more (ByResult Read Why) (λ start d o r. ByResult Read Why m (c ++ d) o r) (list_asked s image (with_page n last url) >>= λ body. Done (list_in table body)) (body_causes url is) (λ start o d r h. read_later c m start o d r h))
      (λ e is o. url_cause T (ListAnswer table) s.settings [] text o (c ++ []) e (inr refl) is))

  -- ---- credentials

  asked_sound : (k : AuthState) (handed : Option RegistryAuth) (url : Parts) (l : AuthState) (c : List Exchange) → Keeps (pulling k s image handed) l c → Sound (pulling k s image handed) s.settings [] l c (list_asked s image url)
  unfolding list_asked
  asked_sound k handed url l c keeps =
      let x = pulling k s image handed in
      safe_ready x s.settings [] (bare s image Get url) _ l c (bare_safe s image k handed Get url l c keeps) (λ l c request keeps sent.
      safe_next x s.settings [] (whole 10 request s.settings.max_body_bytes) _ l c (whole_sound x s.settings [] 10 request s.settings.max_body_bytes l c sent keeps) (λ l c got keeps.
      plain_step x s.settings [] (accepted 200 got.url got.answer) _ l c (accepted_plain got.url got.answer) (λ answer is. plain_last x s.settings [] (Ok answer.body) l c tt keeps)))

  list_sound : (a : RegistryAuth) (k l : AuthState) (c : List Exchange) → Keeps (pulling k s image (Some a)) l c → Sound (pulling k s image (Some a)) s.settings [] l c (listed table text s image a n last)
  unfolding listed
  list_sound a k l c keeps =
      let x = pulling k s image (Some a) in
      safe_next x s.settings [] (store image a) _ l c (store_safe x s.settings [] a l c refl keeps) (λ l c u keeps.
      url_first x s.settings [] text _ l c (λ url.
      safe_next x s.settings [] (list_asked s image (with_page n last url)) _ l c (asked_sound k (Some a) (with_page n last url) l c keeps) (λ l c body keeps.
      plain_last x s.settings [] (list_in table body) l c (list_plain table body) keeps)))

  -- ---- refusals that must occur

  stored_before : {B : Type 0} (Q : Result B OciDistributionError → Type 0) (a : RegistryAuth) (p : Row B) → Ends Q p → Ends Q (store image a >> p)
  unfolding store Ends bind
  stored_before Q a p h = λ k. h

  url_ends : (a : RegistryAuth) → request_url text ≡ None → Ends (Only (refusal.UrlParseError text)) (listed table text s image a n last)
  unfolding listed
  url_ends a none = stored_before (Only (refusal.UrlParseError text)) a (Done (url_read text) >>= λ url. list_asked s image (with_page n last url) >>= λ body. Done (list_in table body)) (no_url text (λ url. list_asked s image (with_page n last url) >>= λ body. Done (list_in table body)) none)

  asked_bad : (url : Parts) → is_header_value s.settings.user_agent ≡ false → Ends IsEarly (list_asked s image url)
  unfolding list_asked
  asked_bad url bad = early_on (bare s image Get url) _ (bare_bad s image Get url bad)

  bad_ends : (a : RegistryAuth) → is_header_value s.settings.user_agent ≡ false → Ends IsEarly (listed table text s image a n last)
  unfolding listed
  bad_ends a bad = stored_before IsEarly a (Done (url_read text) >>= λ url. list_asked s image (with_page n last url) >>= λ body. Done (list_in table body)) (first_url text (λ url. list_asked s image (with_page n last url) >>= λ body. Done (list_in table body)) (λ url. early_on (list_asked s image (with_page n last url)) _ (asked_bad (with_page n last url) bad)))

  -- ---- the exposed exchanges

  module _ (a : RegistryAuth) {old new : Link} {k l : AuthState} {r : Result A OciDistributionError} (met : Meets is_memory (listed table text s image a n last) old new k l r) where
    pub list_confined : Told (Within (pulling k s image (Some a)) s.settings l) old new
    list_confined = let x = pulling k s image (Some a) in call_within x s.settings (Ended x s.settings []) l (list_sound a k k [] (keeps_first x)) met

    pub list_answered : IfOk r (λ list. Told (ListAnswered table s.settings image text n last list) old new)
    list_answered = Meets-shows-ok Read (EveryRun-more (ByResult Read Why) (WhenOk Read) (listed table text s image a n last) (list_causes a) when_ok) met where
      when_ok : (m o : ℕ) (c : List Exchange) (r : Result A OciDistributionError) → ByResult Read Why m c o r → WhenOk Read m c o r
      when_ok m o c (Ok list) h = h
      when_ok m o c (Err e) h = tt

    pub list_reason : IfErr r (λ e. Told (λ c. Cause T (ListAnswer table) (BadValue (pulling k s image (Some a)) s.settings) s.settings c new.faults e) old new)
    list_reason =
        let x = pulling k s image (Some a) in
        refusal_both (Carries x s.settings) Read Why (Keeps x) (Ended x s.settings []) (λ c o e. Cause T (ListAnswer table) (BadValue x s.settings) s.settings c o e) (listed table text s image a n last)
        (λ o c e is. free T (ListAnswer table) (BadValue x s.settings) s.settings o c e is) (λ m o c e h bad. tight T (ListAnswer table) x s.settings o c e h bad) (list_causes a) (list_sound a k k [] (keeps_first x)) met

    pub list_fault : r ≡ Err refusal.TransportFault → Increased old.faults new.faults
    list_fault is = fault_last Read Why (listed table text s image a n last) refusal.TransportFault refl (λ m o c h. failed_last h) (list_causes a) (rw is at met)

    pub list_no_url : request_url text ≡ None → IsRefusedAs (refusal.UrlParseError text) r
    list_no_url none = met_only (refusal.UrlParseError text) (url_ends a none) met

    pub list_bad : is_header_value s.settings.user_agent ≡ false → IsEarly r
    list_bad bad = met_early (bad_ends a bad) met
