-- Why a stream of a blob was not opened.
use Rattle.std.proofs.Common.{◌≡◌, ◌≢◌, inl, inr, ℕ, ◌+◌, ◌-◌, ◌^◌, Bool, true, false, List, [], ◌∷◌, ◌++◌, Option, Some, None, Result, Ok, Err, IfErr, codes, refl, sym, ap, subst, ◌∙◌, append-nil}
use Rattle.std.specs.Prelude.{◌&&◌, ◌||◌, decimal, nat_lt, if◌then◌else◌, ok_or}
use Rattle.std.specs.List.{Contains}
use Rattle.std.proofs.lemmas.Bool.{ltb-false}
use Rattle.json_values.specs.Counts.{Increased}
use Rattle.oci_transport.specs.Headers.{Fields, added, is_header_value, has_room}
use Rattle.oci_transport.specs.Link.{Link, answer_of}
use Rattle.oci_transport.specs.Urls.{request_url}
use Rattle.oci_transport.specs.declared.message.Answer.{Answer}
use Rattle.oci_transport.specs.declared.message.AnswerHead.{AnswerHead}
use Rattle.oci_transport.specs.declared.message.Exchange.{Exchange}
use Rattle.oci_transport.specs.declared.message.Method.TheVariants.{Get}
use Rattle.oci_transport.specs.declared.message.Request.{Request}
use Rattle.oci_names.specs.declared.reference.Reference.{Reference}
use Rattle.oci_auth.specs.declared.auth_state.AuthState.{AuthState}
use Rattle.oci_auth.specs.declared.token_type.RegistryOperation.TheVariants.{Pull}
use Rattle.oci_digests.specs.declared.error.DigestError.{DigestError}
use Rattle.oci_protocol.specs.Proto.{Piped, limit_of, Reply, Headed, Answered, Failed, TooLong, SinkFailed, Done, ◌>>=◌}
use Rattle.oci_protocol.specs.Runs.{Runs, Meets, Told, head_part}
use Rattle.oci_protocol.specs.EveryRun.{EveryRun, ByResult, Heard}
use Rattle.oci_protocol.proofs.RunFacts.{done_run, EveryRun-done, EveryRun-more, EveryRun-each, EveryRun-step, EveryRun-follow}
use Rattle.engine_requests.specs.Addresses.{blob_text, url_read}
use Rattle.engine_answers.specs.Answers.{header_digest, is_error, is_success, or_digest_error, refused_answer}
use Rattle.engine_answers.specs.Blobs.{digest_expected}
use Rattle.engine_terms.specs.Contexts.{Context}
use Rattle.json_values.specs.Refusals.{◌>>=◌ as ◌into◌}
use Rattle.engine_terms.specs.Error.{is_memory}
use Rattle.engine_requests.specs.Requests.{manifest_types, with_header}
use Rattle.engine_requests.specs.Sources.{Layer, place_of, places_of, asked_at}
use Rattle.engine_answers.specs.declared.blobs.Expected.{Expected}
use Rattle.engine_terms.specs.declared.error.GenericCause.TheVariants.{HeaderText, RangeOverflow}
use Rattle.engine_terms.specs.declared.error.OciDistributionError.{OciDistributionError}
use Rattle.engine_terms.specs.declared.error.OciDistributionError.TheVariants as refusal
use Rattle.engine_terms.specs.declared.settings.Settings.{Settings}
use Rattle.engine_requests.specs.declared.sources.Place.{Place}
use Rattle.engine_requests.specs.declared.sources.Place.TheVariants.{Web, Unfit}
use Rattle.engine_rows.specs.Rows.{Row, prepared}
use Rattle.engine_rows.specs.Causes.{Act, Reads, Sends, AsksText, UnfitUrl, BadHeader, LastAnswer, AnswerCause, AskedDigest, Claimed}
use Rattle.engine_rows.specs.Held.{Entry, pulling}
use Rattle.request_laws.proofs.BlobCauses.{OfUrls, places_are, each_more, unfit_as, unfit_is, listed_own, not_expected}
use Rattle.request_laws.proofs.DocumentAnswers.{url_is}
use Rattle.request_laws.proofs.DocumentCauses.{asks_at, answer_cause, cause_later, early_cause, early_shown, header_refused, heard_answer, heard_failed, heard_long, status_cause, url_cause}
use Rattle.request_laws.proofs.EarlyCauses.{AnyValue, Loose, Early, request_early, prepared_causes}
use Rattle.request_laws.proofs.FaultCounts.{failed_last, fault_last, refusal_both}
use Rattle.request_laws.proofs.KeptTokens.{Keeps, keeps_first}
use Rattle.request_laws.proofs.OfferedPlaces.{EachPlace}
use Rattle.request_laws.proofs.PreparedRequests.{Prepared, into_ok}
use Rattle.request_laws.proofs.ShownTokens.{Carries, Ended, HeaderCause}
use Rattle.engine_streams.specs.Head.{expected, given, opening, is_streamed}
use Rattle.engine_streams.specs.Range.{onward_text, text_to, text_by, range_text, onward, with_range}
use Rattle.engine_streams.specs.Blobs.{or_next, tried, opened}
use Rattle.engine_streams.specs.Asking.{reading_unless, judged_reading, judged_reply, judged, streams, some_opening, opening_unless_error, streams_or_passes, offered, ranged_at}
use Rattle.engine_streams.specs.declared.head.Opening.{Opening}
use Rattle.engine_streams.specs.declared.range.ByteRange.{ByteRange}
use Rattle.call_laws.proofs.StreamRanges.{IsSmall}
use Rattle.call_laws.proofs.StreamSafety.{opened_sound}
use Rattle.engine_streams.specs.Causes.{Overflows, StreamCause, StreamUrl}

abbrev Any : {A : Type 0} → ℕ → List Exchange → ℕ → A → Type 0
Any m c n a = Unit {0}

abbrev Shown : (Act → Type 0) → Settings → List ℕ → ℕ → List Exchange → ℕ → OciDistributionError → Type 0
Shown T s digest m c n e = Loose T (AnswerCause (AskedDigest digest)) s manifest_types c n e

-- ---- one request

reads_not : (limit n : ℕ) (b : Bool) → limit_of (reading_unless limit b) ≡ Some n → b ≡ false
reads_not limit n true is = absurd (cc is)
reads_not limit n false is = refl

limit_is : (limit n : ℕ) (b : Bool) → limit_of (reading_unless limit b) ≡ Some n → limit ≡ n
limit_is limit n true is = absurd (cc is)
limit_is limit n false is = cc is

never_piped : (limit n : ℕ) (b : Bool) → reading_unless limit b ≡ Piped n → ⊥
never_piped limit n true is = cc is
never_piped limit n false is = cc is

-- a refusal that is computed from a response's head has the cause that the head shows
abbrev MadeCause : {A : Type 0} → List ℕ → (AnswerHead → Result A OciDistributionError) → Type 0
MadeCause digest made = (head : AnswerHead) (body address : List ℕ) (e : OciDistributionError) → made head ≡ Err e → AnswerCause (AskedDigest digest) address (answer_of head body) e

judged_causes : {A : Type 0} (T : Act → Type 0) (s : Settings) (digest : List ℕ) (takes : AnswerHead → Bool) (made : AnswerHead → Result A OciDistributionError) (request : Request) → T (Sends request) → ((head : AnswerHead) → takes head ≡ false → head.status ≢ 200) → MadeCause digest made → EveryRun (ByResult (Any {A = A}) (Shown T s digest)) (judged s.max_body_bytes takes made request)
unfolding judged judged_reading
judged_causes {A} T s digest takes made request own other cause = EveryRun-follow (ByResult (Any {A = A}) (Shown T s digest)) 10 request (judged_reading s.max_body_bytes takes) (judged_reply made) by_reply where
  by_made : (m after : ℕ) (c : List Exchange) (address : List ℕ) (head : AnswerHead) (body : List ℕ) (r : Result A OciDistributionError) → made head ≡ r → LastAnswer T c address (answer_of head body) → ByResult (Any {A = A}) (Shown T s digest) m c after r
  by_made m after c address head body (Ok a) is last = tt
  by_made m after c address head body (Err e) is last = answer_cause T (AskedDigest digest) s manifest_types after c address (answer_of head body) e last (cause head body address e is)

  by_reply : (k l : AuthState) (m after o : ℕ) (c d : List Exchange) (last : Request) (reply : Reply) (r : Result A OciDistributionError) → Heard 10 request (judged_reading s.max_body_bytes takes) m c after last reply → Runs (judged_reply made last reply) k after d o l r → ByResult (Any {A = A}) (Shown T s digest) m (c ++ d) o r
  by_reply k l m after o c d last (Headed head) r h run =
      let b = h.replies.reply_is in
      done_run (λ start d o r. ByResult (Any {A = A}) (Shown T s digest) m (c ++ d) o r) (made head) k l after o d r
      (subst (λ x. ByResult (Any {A = A}) (Shown T s digest) m x after (made head)) (sym (append-nil c)) (by_made m after c last.url head b.0 (made head) refl (heard_answer T h own (answer_of head b.0) b.1 h.settles))) run
  by_reply k l m after o c d last (Answered answer) r h run =
      let b = h.replies.reply_is in
      done_run (λ start d o r. ByResult (Any {A = A}) (Shown T s digest) m (c ++ d) o r) (Err (refused_answer 200 last.url answer)) k l after o d r
      (subst (λ x. ByResult (Any {A = A}) (Shown T s digest) m x after (Err (refused_answer 200 last.url answer))) (sym (append-nil c)) (answer_cause T (AskedDigest digest) s manifest_types after c last.url answer (refused_answer 200 last.url answer) (heard_answer T h own answer b.1 h.settles) (status_cause (AskedDigest digest) last.url answer (other (head_part answer) (reads_not s.max_body_bytes b.0 (takes (head_part answer)) b.2))))) run
  by_reply k l m after o c d last Failed r h run = done_run (λ start d o r. ByResult (Any {A = A}) (Shown T s digest) m (c ++ d) o r) (Err refusal.TransportFault) k l after o d r (rw append-nil (heard_failed T h own)) run
  by_reply k l m after o c d last TooLong r h run = done_run (λ start d o r. ByResult (Any {A = A}) (Shown T s digest) m (c ++ d) o r) (Err refusal.BodyTooLong) k l after o d r (rw append-nil (heard_long T h s.max_body_bytes own (λ n head is. limit_is s.max_body_bytes n (takes head) is))) run
  by_reply k l m after o c d last SinkFailed r h run = let b = h.replies.reply_is in absurd (never_piped s.max_body_bytes b.1 (takes (head_part b.0)) b.3)

-- ---- what a head states

expected_cause : (digest : List ℕ) (answer : Answer) (address text : List ℕ) (e : OciDistributionError) → Claimed (AskedDigest digest) answer text → expected text ≡ Err e → AnswerCause (AskedDigest digest) address answer e
expected_cause digest answer address text e claimed = by_result (digest_expected text) refl where
  by_result : (r : Result Expected DigestError) → digest_expected text ≡ r → or_digest_error r ≡ Err e → AnswerCause (AskedDigest digest) address answer e
  by_result (Ok x) is bad = absurd (cc bad)
  by_result (Err d) is bad = let same : refusal.DigestError d ≡ e = cc bad in subst (AnswerCause (AskedDigest digest) address answer) same (not_expected digest answer text d claimed is)

-- which of two steps returned the error
by_err : {A B : Type 0} (P : Type 0) (r : Result A OciDistributionError) (f : A → Result B OciDistributionError) (e : OciDistributionError) → (r into f) ≡ Err e → (r ≡ Err e → P) → ((a : A) → r ≡ Ok a → f a ≡ Err e → P) → P
by_err P (Ok a) f e is first second = second a refl is
by_err P (Err x) f e is first second = let same : x ≡ e = cc is in first (ap Err same)

given_cause : (digest : List ℕ) (answer : Answer) (address : List ℕ) (value : Option (List ℕ)) (e : OciDistributionError) → header_digest answer.headers ≡ Ok value → given value ≡ Err e → AnswerCause (AskedDigest digest) address answer e
given_cause digest answer address None e named is = absurd (cc is)
given_cause digest answer address (Some text) e named is = by_err (AnswerCause (AskedDigest digest) address answer e) (expected text) (λ x. Ok (Some x)) e is (expected_cause digest answer address text e (inr named)) (λ x good bad. absurd (cc bad))

opening_cause : (range : Option ByteRange) (digest : List ℕ) → MadeCause digest (opening range digest)
unfolding opening
opening_cause range digest head body address e is =
    by_err (AnswerCause (AskedDigest digest) address (answer_of head body) e) (expected digest) _ e is (expected_cause digest (answer_of head body) address digest e (inl refl)) (λ own good rest.
    by_err (AnswerCause (AskedDigest digest) address (answer_of head body) e) (header_digest head.headers) _ e rest (header_refused (AskedDigest digest) address (answer_of head body) e) (λ value named last.
    by_err (AnswerCause (AskedDigest digest) address (answer_of head body) e) (given value) _ e last (given_cause digest (answer_of head body) address value e named) (λ header good bad. absurd (cc bad))))

some_err : (r : Result Opening OciDistributionError) (e : OciDistributionError) → some_opening r ≡ Err e → r ≡ Err e
some_err (Ok o) e is = absurd (cc is)
some_err (Err x) e is = let same : x ≡ e = cc is in ap Err same

unless_cause : (range : Option ByteRange) (digest : List ℕ) → MadeCause digest (opening_unless_error range digest)
unfolding opening_unless_error
unless_cause range digest head body address e = by_test (is_error head.status) where
  by_test : (b : Bool) → (if b then Ok None else some_opening (opening range digest head)) ≡ Err e → AnswerCause (AskedDigest digest) address (answer_of head body) e
  by_test true is = absurd (cc is)
  by_test false is = opening_cause range digest head body address e (some_err (opening range digest head) e is)

not_streamed : (range : Option ByteRange) (status : ℕ) → is_streamed range status ≡ false → status ≢ 200
not_streamed None status is same = cc (sym is ∙ ap is_success same)
not_streamed (Some range) status is same = cc (sym is ∙ ap (is_streamed (Some range)) same)

not_taken : (range : Option ByteRange) (head : AnswerHead) → streams range head ≡ false → head.status ≢ 200
unfolding streams
not_taken range head is = not_streamed range head.status is

neither : (a b : Bool) → (a || b) ≡ false → b ≡ false
neither true b is = absurd (cc is)
neither false b is = is

not_passed : (range : Option ByteRange) (head : AnswerHead) → streams_or_passes range head ≡ false → head.status ≢ 200
unfolding streams_or_passes
not_passed range head is = not_streamed range head.status (neither (is_error head.status) (is_streamed range head.status) is)

-- ---- the range of a request

-- a header is refused for an invalid value
header_early : (T : Act → Type 0) (headers : Fields) (name value : List ℕ) → Early T (with_header headers name value)
header_early T headers name value = by_test (is_header_value value && has_room headers) where
  by_test : (b : Bool) → Early T (ok_or (if b then Some (added headers name value) else None) (refusal.GenericError HeaderText))
  by_test true = tt
  by_test false = tt

into_early : {A B : Type 0} (T : Act → Type 0) (r : Result A OciDistributionError) (f : A → Result B OciDistributionError) → Early T r → ((a : A) → Early T (f a)) → Early T (r into f)
into_early T (Ok a) f h each = each a
into_early T (Err e) f h each = h

ranged_early : (T : Act → Type 0) (text : Option (List ℕ)) (request : Request) → Early T (with_range text request)
ranged_early T None request = tt
ranged_early T (Some text) request = into_early T (with_header request.headers (codes "range") text) _ (header_early T request.headers (codes "range") text) (λ headers. tt)

-- ---- the places

early_is : {A : Type 0} (T : Act → Type 0) (s : Settings) (digest : List ℕ) (m : ℕ) (r : Result A OciDistributionError) (e : OciDistributionError) → Early T r → r ≡ Err e → Shown T s digest m [] m e
early_is T s digest m (Ok a) e early is = absurd (cc is)
early_is T s digest m (Err x) e early is = let same : x ≡ e = cc is in subst (λ (x : OciDistributionError). Shown T s digest m [] m x) same (early_cause T (AnswerCause (AskedDigest digest)) s manifest_types m [] x early)

place_early : (T : Act → Type 0) (s : Settings) (urls : List (List ℕ)) → ((text : List ℕ) → UnfitUrl urls text → T (Reads text)) → (p : Place) → OfUrls urls p → Early T (asked_at s p)
unfolding asked_at
place_early T s urls listed (Web url) has = request_early T s Get url manifest_types None
place_early T s urls listed (Unfit text) has =
    let unfit = unfit_is has.0 text (place_of has.0) (unfit_as has.0) has.2 in
    let here : UnfitUrl urls text = (subst (Contains urls) unfit.0 has.1, subst (λ (t : List ℕ). place_of t ≡ Some (Unfit text)) unfit.0 has.2) in
    (subst (λ (t : List ℕ). request_url t ≡ None) unfit.0 unfit.1, listed text here)

ranged_place_early : (T : Act → Type 0) (s : Settings) (range : Option ByteRange) (urls : List (List ℕ)) → ((text : List ℕ) → UnfitUrl urls text → T (Reads text)) → (p : Place) → OfUrls urls p → Early T (ranged_at s range p)
ranged_place_early T s range urls listed p has = into_early T (asked_at s p) (with_range (onward range)) (place_early T s urls listed p has) (λ request. ranged_early T (onward range) request)

ranged_place_own : (range : Option ByteRange) (s : Settings) (image : Reference) (layer : Layer) (p : Place) → OfUrls layer.urls p → (next : Request) → ranged_at s range p ≡ Ok next → StreamUrl range s image layer (Sends next)
ranged_place_own range s image layer p has next is =
    let made = into_ok (asked_at s p) (with_range (onward range)) next is in
    inr (made.0, listed_own s layer.urls p made.0 has made.1, made.2)

later : {A : Type 0} (T : Act → Type 0) (s : Settings) (digest : List ℕ) (m start o : ℕ) (c d : List Exchange) (r : Result A OciDistributionError) → ByResult (Any {A = A}) (Shown T s digest) start d o r → ByResult (Any {A = A}) (Shown T s digest) m (c ++ d) o r
later T s digest m start o c d (Ok a) h = tt
later T s digest m start o c d (Err e) h = cause_later T T (AnswerCause (AskedDigest digest)) (AnswerCause (AskedDigest digest)) s manifest_types o c d e (λ text h. h) (λ address answer h. h) h

-- a response that was found, or what comes next
found_causes : (T : Act → Type 0) (s : Settings) (digest : List ℕ) (next : Row Opening) → EveryRun (ByResult Any (Shown T s digest)) next → (m : ℕ) (c : List Exchange) (found : Option Opening) → EveryRun (λ start d o r. ByResult Any (Shown T s digest) m (c ++ d) o r) (or_next next found)
found_causes T s digest next h m c (Some o) = EveryRun-done (λ start d o r. ByResult Any (Shown T s digest) m (c ++ d) o r) (Ok o) (λ m. tt)
found_causes T s digest next h m c None = EveryRun-more (ByResult Any (Shown T s digest)) (λ start d o r. ByResult Any (Shown T s digest) m (c ++ d) o r) next h (λ start o d r h. later T s digest m start o c d r h)

tried_causes : (T : Act → Type 0) (s : Settings) (range : Option ByteRange) (digest : List ℕ) (places : List Place) → EachPlace (λ p. Early T (ranged_at s range p)) places → EachPlace (λ p. (next : Request) → ranged_at s range p ≡ Ok next → T (Sends next)) places → (request : Request) → T (Sends request) → EveryRun (ByResult Any (Shown T s digest)) (tried s range digest places request)
unfolding tried
tried_causes T s range digest [] early others request own = judged_causes T s digest (streams range) (opening range digest) request own (not_taken range) (opening_cause range digest)
tried_causes T s range digest (p ∷ ps) early others request own = EveryRun-each Any Any (Shown T s digest) (offered s.max_body_bytes range digest request) _ (judged_causes T s digest (streams_or_passes range) (opening_unless_error range digest) request own (not_passed range) (unless_cause range digest))
    (λ m n c found h. found_causes T s digest (Done (ranged_at s range p) >>= tried s range digest ps)
    (EveryRun-step (ByResult Any (Shown T s digest)) (ranged_at s range p) (tried s range digest ps) (λ next is. tried_causes T s range digest ps early.1 others.1 next (others.0 next is)) (λ e is m. early_is T s digest m (ranged_at s range p) e early.0 is)) m c found)

-- ---- the whole row

abbrev pub Streamed : Option ByteRange → (Act → Type 0) → Settings → List ℕ → ℕ → List Exchange → ℕ → OciDistributionError → Type 0
Streamed range T s digest m c n e = StreamCause range T AnyValue s digest c n e

loosened : (range : Option ByteRange) (T : Act → Type 0) (s : Settings) (digest : List ℕ) (m n : ℕ) (c : List Exchange) (e : OciDistributionError) → Shown T s digest m c n e → Streamed range T s digest m c n e
loosened range T s digest m n c (refusal.GenericError RangeOverflow) h = absurd h.holds
loosened range T s digest m n c _ h = h

by_loosened : (range : Option ByteRange) (T : Act → Type 0) (s : Settings) (digest : List ℕ) (m n : ℕ) (c : List Exchange) (r : Result Opening OciDistributionError) → ByResult Any (Shown T s digest) m c n r → ByResult Any (Streamed range T s digest) m c n r
by_loosened range T s digest m n c (Ok o) h = tt
by_loosened range T s digest m n c (Err e) h = loosened range T s digest m n c e h

to_overflows : (range : ByteRange) (n : ℕ) (e : OciDistributionError) → range.length ≡ Some n → text_to range.offset (range.offset + n) ≡ Err e → (e ≡ refusal.GenericError RangeOverflow) × Overflows (Some range)
to_overflows range n e has = by_test (nat_lt (range.offset + n) (2 ^ 64)) refl where
  by_test : (b : Bool) → nat_lt (range.offset + n) (2 ^ 64) ≡ b → (if b then Ok (onward_text range.offset ++ decimal (range.offset + n - 1)) else Err (refusal.GenericError RangeOverflow)) ≡ Err e → (e ≡ refusal.GenericError RangeOverflow) × Overflows (Some range)
  by_test true lt is = absurd (cc is)
  by_test false lt is = (cc is, (n, has, ltb-false (range.offset + n) (2 ^ 64) lt))

by_overflows : (range : ByteRange) (o : Option ℕ) (e : OciDistributionError) → range.length ≡ o → text_by range.offset o ≡ Err e → (e ≡ refusal.GenericError RangeOverflow) × Overflows (Some range)
by_overflows range None e has is = absurd (cc is)
by_overflows range (Some n) e has is = to_overflows range n e has is

range_overflows : (range : Option ByteRange) (e : OciDistributionError) → range_text range ≡ Err e → (e ≡ refusal.GenericError RangeOverflow) × Overflows range
range_overflows None e is = absurd (cc is)
range_overflows (Some range) e is = by_err ((e ≡ refusal.GenericError RangeOverflow) × Overflows (Some range)) (text_by range.offset range.length) (λ text. Ok (Some text)) e is (by_overflows range range.length e refl) (λ text good bad. absurd (cc bad))

overflow_cause : (range : Option ByteRange) (T : Act → Type 0) (s : Settings) (digest : List ℕ) (m : ℕ) (e : OciDistributionError) → (e ≡ refusal.GenericError RangeOverflow) × Overflows range → Streamed range T s digest m [] m e
overflow_cause range T s digest m e h = subst (λ (x : OciDistributionError). Streamed range T s digest m [] m x) (sym h.0) (h.1, refl)

pub opened_causes : (s : Context) (image : Reference) (layer : Layer) (range : Option ByteRange) → EveryRun (ByResult Any (Streamed range (StreamUrl range s.settings image layer) s.settings layer.digest)) (opened s image layer range)
unfolding opened
opened_causes s image layer range = EveryRun-step (ByResult Any (Streamed range T s.settings layer.digest)) (range_text range) _
    (λ text is. EveryRun-more (ByResult Any (Shown T s.settings layer.digest)) (ByResult Any (Streamed range T s.settings layer.digest)) _ (after text is) (λ m n c r h. by_loosened range T s.settings layer.digest m n c r h))
    (λ e is m. overflow_cause range T s.settings layer.digest m e (range_overflows range e is)) where
      T : Act → Type 0
      T = StreamUrl range s.settings image layer

      early : EachPlace (λ p. Early T (ranged_at s.settings range p)) (places_of layer.urls)
      early = each_more (OfUrls layer.urls) (λ p. Early T (ranged_at s.settings range p)) (ranged_place_early T s.settings range layer.urls (λ text h. inr (inr h))) (places_of layer.urls) (places_are layer.urls)

      others : EachPlace (λ p. (next : Request) → ranged_at s.settings range p ≡ Ok next → T (Sends next)) (places_of layer.urls)
      others = each_more (OfUrls layer.urls) (λ p. (next : Request) → ranged_at s.settings range p ≡ Ok next → T (Sends next)) (ranged_place_own range s.settings image layer) (places_of layer.urls) (places_are layer.urls)

      asks : (text : Option (List ℕ)) (m : ℕ) (c : List Exchange) (request : Request) → range_text range ≡ Ok text → AsksText s.settings (blob_text s.settings image layer.digest) request → EveryRun (λ start d o r. ByResult Any (Shown T s.settings layer.digest) m (c ++ d) o r) (Done (with_range text request) >>= tried s.settings range layer.digest (places_of layer.urls))
      asks text m c request ranges whole = EveryRun-more (ByResult Any (Shown T s.settings layer.digest)) (λ start d o r. ByResult Any (Shown T s.settings layer.digest) m (c ++ d) o r) (Done (with_range text request) >>= tried s.settings range layer.digest (places_of layer.urls))
          (EveryRun-step (ByResult Any (Shown T s.settings layer.digest)) (with_range text request) (tried s.settings range layer.digest (places_of layer.urls)) (λ ranged is. tried_causes T s.settings range layer.digest (places_of layer.urls) early others ranged (inl (request, whole, text, ranges, is))) (λ e is m. early_is T s.settings layer.digest m (with_range text request) e (ranged_early T text request) is)) (λ start o d r h. later T s.settings layer.digest m start o c d r h)

      after : (text : Option (List ℕ)) → range_text range ≡ Ok text → EveryRun (ByResult Any (Shown T s.settings layer.digest)) (Done (url_read (blob_text s.settings image layer.digest)) >>= (λ url. prepared s image Pull Get url manifest_types >>= (λ request. Done (with_range text request) >>= tried s.settings range layer.digest (places_of layer.urls))))
      after text ranges = EveryRun-step (ByResult Any (Shown T s.settings layer.digest)) (url_read (blob_text s.settings image layer.digest)) _
          (λ url is. EveryRun-each (λ m c n request. Prepared s.settings image Pull Get url manifest_types c request) Any (Shown T s.settings layer.digest) (prepared s image Pull Get url manifest_types) (λ request. Done (with_range text request) >>= tried s.settings range layer.digest (places_of layer.urls))
          (early_shown T (AnswerCause (AskedDigest layer.digest)) s.settings manifest_types (λ m c n request. Prepared s.settings image Pull Get url manifest_types c request) (prepared s image Pull Get url manifest_types) (prepared_causes T s image Pull Get url manifest_types (inl refl)))
          (λ m n c request p. asks text m c request ranges (url, url_is (blob_text s.settings image layer.digest) (request_url (blob_text s.settings image layer.digest)) url is, asks_at s.settings image Pull Get url manifest_types c request p)))
          (λ e is m. url_cause T (AnswerCause (AskedDigest layer.digest)) s.settings manifest_types (blob_text s.settings image layer.digest) m [] e (inr (inl refl)) is)

-- ---- a call

pub stream_free : (range : Option ByteRange) (T : Act → Type 0) (Bad : List Exchange → Type 0) (s : Settings) (digest : List ℕ) (now : ℕ) (c : List Exchange) (e : OciDistributionError) → is_memory e ≡ true → StreamCause range T Bad s digest c now e
stream_free range T Bad s digest now c refusal.WantOfMemory is = tt
stream_free range T Bad s digest now c _ is = absurd (cc is)

pub tight_stream : (range : Option ByteRange) (T : Act → Type 0) (x : Entry) (s : Settings) (digest : List ℕ) (now : ℕ) (c : List Exchange) (e : OciDistributionError) → StreamCause range T AnyValue s digest c now e → HeaderCause x s manifest_types c e → StreamCause range T (BadHeader x s manifest_types) s digest c now e
tight_stream range T x s digest now c (refusal.GenericError HeaderText) h bad = bad
tight_stream range T x s digest now c _ h bad = h

pub opened_reason : (s : Context) (image : Reference) (layer : Layer) (range : Option ByteRange) {old new : Link} {k l : AuthState} {r : Result Opening OciDistributionError} → IsSmall range → Meets is_memory (opened s image layer range) old new k l r → IfErr r (λ e. Told (λ c. StreamCause range (StreamUrl range s.settings image layer) (BadHeader (pulling k s image None) s.settings manifest_types) s.settings layer.digest c new.faults e) old new)
opened_reason s image layer range {k = k} small met =
    let x = pulling k s image None in
    refusal_both (Carries x s.settings) Any (Streamed range (StreamUrl range s.settings image layer) s.settings layer.digest) (Keeps x) (Ended x s.settings manifest_types) (λ c n e. StreamCause range (StreamUrl range s.settings image layer) (BadHeader x s.settings manifest_types) s.settings layer.digest c n e) (opened s image layer range)
    (λ n c e is. stream_free range (StreamUrl range s.settings image layer) (BadHeader x s.settings manifest_types) s.settings layer.digest n c e is) (λ m n c e h bad. tight_stream range (StreamUrl range s.settings image layer) x s.settings layer.digest n c e h bad) (opened_causes s image layer range) (opened_sound s image layer range k None k [] small (keeps_first x)) met

pub opened_fault : (s : Context) (image : Reference) (layer : Layer) (range : Option ByteRange) {old new : Link} {k l : AuthState} → Meets is_memory (opened s image layer range) old new k l (Err refusal.TransportFault) → Increased old.faults new.faults
opened_fault s image layer range met = fault_last Any (Streamed range (StreamUrl range s.settings image layer) s.settings layer.digest) (opened s image layer range) refusal.TransportFault refl (λ m n c h. failed_last h) (opened_causes s image layer range) met
