-- Documents and blobs of a shelf, as the rows that pull them return them.
use Rattle.std.specs.Prelude.{codes, not, nat_lt, nat_eq, nat_le, bytes_eq, slice_get, unwrap_or, if◌then◌else◌}
use Rattle.std.specs.List.{list_any}
use Rattle.std.specs.FinMap as map
use Rattle.std.specs.FinMap.{get-empty, get-insert}
use Rattle.std.specs.Cmp.Lexicographic.{nat_list_cmp_total}
use Rattle.std.proofs.Common.{◌≡◌, ◌≤◌, ℕ, Bool, true, false, ◌&&◌, ◌||◌, ◌==◌, List, [], ◌∷◌, ◌++◌, length, Option, Some, None, Result, Ok, Err, refl, sym, ap, ◌∙◌, subst, arith}
use Rattle.std.proofs.lemmas.Bool.Decides.{nat_tests}
use Rattle.std.proofs.lemmas.List.Folds.{list_any-append}
use Rattle.std.proofs.lemmas.Slice.Eq.{bytes_eq-Decides}
use Rattle.url.specs.Parts.{Parts, serialize}
use Rattle.json_values.specs.Places.{by_bytes}
use Rattle.hex.specs.Hex.{encode_lower}
use Rattle.oci_names.specs.declared.reference.Reference.{Reference}
use Rattle.oci_names.specs.Reference.{digest_of, tag_of}
use Rattle.oci_digests.specs.Names.{Names, digest_text, prefix_of}
use Rattle.oci_digests.specs.Hashes.{hash_of}
use Rattle.oci_digests.specs.Checks.{header_digest as digest_in, is_header_text, and_then}
use Rattle.oci_digests.specs.Checks.{parts_of, named_by, named_algorithm}
use Rattle.oci_names.specs.declared.algorithm.Algorithm.{Algorithm}
use Rattle.oci_names.proofs.Algorithms.{each}
use Rattle.oci_digests.specs.declared.error.DigestError.TheVariants as digest_refusal
use Rattle.oci_digests.proofs.ExactChecks.{is_validated}
use Rattle.oci_transport.specs.Headers.{Fields, values_of, first_of, added, is_header_value, digest_header, has_room}
use Rattle.oci_transport.specs.Redirects.{may_follow}
use Rattle.oci_transport.specs.declared.message.Request.{Request}
use Rattle.oci_transport.specs.declared.message.Answer.{Answer}
use Rattle.oci_transport.specs.declared.message.Method.{Method}
use Rattle.oci_transport.specs.declared.message.Method.TheVariants.{Get, Head}
use Rattle.oci_auth.specs.declared.auth.RegistryAuth.{RegistryAuth}
use Rattle.oci_auth.specs.declared.auth_state.AuthState.{AuthState}
use Rattle.oci_protocol.specs.Proto.{Reading, Unread, Within, Done, read_within, ◌>>=◌}
use Rattle.oci_protocol.specs.Runs.{head_part}
use Rattle.oci_protocol.specs.Evaluation.{reply_of}
use Rattle.oci_link.specs.PlainPaths.{Segment, PlainPath}
use Rattle.oci_link.specs.Table.{answer, with_header, with_digest, not_found, document_answer, digest_answer, digest_named, manifest_answer, is_colon, bytes_answer, blob_answer, is_get_or_head}
use Rattle.oci_link.specs.declared.shelf.Shelf.{Shelf}
use Rattle.oci_link.specs.declared.shelf.ShelfDocument.{ShelfDocument}
use Rattle.engine_answers.specs.declared.answers.Got.{Got}
use Rattle.engine_answers.specs.declared.blobs.Expected.{Expected}
use Rattle.engine_answers.specs.declared.blobs.Plan.TheVariants.{Pour}
use Rattle.engine_terms.specs.declared.error.OciDistributionError.{OciDistributionError}
use Rattle.engine_terms.specs.declared.error.OciDistributionError.TheVariants as engine_refusal
use Rattle.engine_terms.specs.declared.settings.Settings.{Settings}
use Rattle.engine_requests.specs.Addresses.{manifest_name, manifest_text, blob_text, url_read}
use Rattle.engine_answers.specs.Answers.{accepted, or_digest_error, header_digest, body_digest, answer_digest, document_in, agreed, fits_reference, refused_answer, is_success, is_error}
use Rattle.engine_answers.specs.Blobs.{digest_expected, pouring, plan_by, planned, plan_of, compared}
use Rattle.engine_terms.specs.Contexts.{Context}
use Rattle.json_values.specs.Refusals.{◌>>=◌ as ◌into◌, ◌>>◌ as ◌and◌}
use Rattle.engine_requests.specs.Requests.{manifest_types}
use Rattle.engine_requests.specs.Sources.{Layer, places_of, asked_at}
use Rattle.engine_requests.specs.declared.sources.Place.{Place}
use Rattle.engine_rows.specs.declared.named.NamedAnswer.{NamedAnswer}
use Rattle.engine_rows.specs.declared.named.NamedAnswer.TheVariants.{ByHeader}
use Rattle.engine_rows.specs.Rows.{Row, whole_reply, whole, reading_named, named_reading, read_named, named_reply, named_after}
use Rattle.engine_rows.specs.Offers.{offer_reading, offer_reply, offer, tried}
use Rattle.engine_rows.specs.Blobs.{IntoMemory, reading_by, blob_reading, read_by, blob_reply, attempt}
use Rattle.engine_rows.specs.Pulls.{document, manifest_document, pull_manifest_raw, digest_by, fetch_manifest_digest, blob_to, held_blob}
use Rattle.shelf_laws.specs.EvaluatesWith.{EvaluatesWith, Yields, AlwaysOk, IsHeld}
use Rattle.shelf_laws.specs.IsHosted.{base_of, IsHosted, IsAt, CanBeShown, Settled}
use Rattle.shelf_laws.specs.Shelves.{FitsLimit, HasDocument, HasBlob}
use Rattle.shelf_laws.proofs.TableSteps.{AlwaysOk-done, AlwaysOk-next}
use Rattle.oci_digests.proofs.Algorithms.{algorithm_named, digest_all}
use Rattle.oci_digests.proofs.HexDigits.{is_lower_digit}
use Rattle.shelf_laws.proofs.ShelfRedirects.{none_held, Answers, EvaluatesWith-led}
use Rattle.shelf_laws.proofs.PlainNames.{digest_segment, item_plain}
use Rattle.shelf_laws.proofs.Places.{item_path, answers_manifest, answers_blob, manifest_text_is, blob_text_is}
use Rattle.shelf_laws.proofs.Requests.{yields_ok, IsFor, url_reads, within_reads}
use Rattle.shelf_laws.proofs.Tokens.{prepared_gives, store_gives}

-- ---- the digest of a response

value_digit : (b : ℕ) → is_lower_digit b ≡ true → ((b == 9 || nat_le 32 b) && not (b == 127)) ≡ true
value_digit b h = grind (arith, nat_tests, h)

text_digit : (b : ℕ) → is_lower_digit b ≡ true → (b == 9 || (nat_le 32 b && nat_le b 126)) ≡ true
text_digit b h = grind (arith, nat_tests, h)

name_value : (a : Algorithm) → is_header_value (prefix_of a) ≡ true
name_value a = each (λ a. is_header_value (prefix_of a)) refl a

name_text : (a : Algorithm) → is_header_text (prefix_of a) ≡ true
name_text a = each (λ a. is_header_text (prefix_of a)) refl a

pub digest_value : (digest bytes : List ℕ) → Names digest bytes → is_header_value digest ≡ true
digest_value digest bytes (a, is) = subst (λ (t : List ℕ). is_header_value t ≡ true) (sym is) (digest_all (λ b. (b == 9 || nat_le 32 b) && not (b == 127)) a bytes (name_value a) value_digit)

text_is : (a : Algorithm) (bytes : List ℕ) → is_header_text (digest_text a bytes) ≡ true
text_is a bytes = digest_all (λ b. b == 9 || (nat_le 32 b && nat_le b 126)) a bytes (name_text a) text_digit

some_if : (b : Bool) (text : List ℕ) → b ≡ true → (if b then Ok (Some text) else Err (digest_refusal.InvalidHeader text)) ≡ Ok (Some text)
some_if true text is = refl
some_if false text is = absurd (cc is)

digest_read : (a : Algorithm) (bytes : List ℕ) → digest_in (Some (digest_text a bytes)) ≡ Ok (Some (digest_text a bytes))
digest_read a bytes = some_byte (digest_text a bytes) (digest_segment a bytes) (text_is a bytes) where
  some_byte : (t : List ℕ) → Segment t → is_header_text t ≡ true → digest_in (Some t) ≡ Ok (Some t)
  some_byte [] (first, rest, is, starts, all) h = absurd (cc is)
  some_byte (b ∷ t) segment h = some_if _ (b ∷ t) h

pub digest_in_is : (digest bytes : List ℕ) → Names digest bytes → digest_in (Some digest) ≡ Ok (Some digest)
digest_in_is digest bytes (a, is) = subst (λ (t : List ℕ). digest_in (Some t) ≡ Ok (Some t)) (sym is) (digest_read a bytes)

digest_first : (digest : List ℕ) → is_header_value digest ≡ true → first_of digest_header (with_digest digest) ≡ Some digest
digest_first digest good =
    ap (λ b. first_of digest_header (unwrap_or (if b && has_room map.empty then Some (added map.empty digest_header digest) else None) map.empty)) good
    ∙ ap (λ n. first_of digest_header (unwrap_or (if nat_lt n 1000 then Some (added map.empty digest_header digest) else None) map.empty)) none_held
    ∙ ap (λ o. slice_get (unwrap_or o []) 0) (get-insert nat_list_cmp_total map.empty digest_header (values_of digest_header map.empty ++ digest ∷ []) digest_header)
    ∙ ap (λ (o : Option (List (List ℕ))). slice_get (unwrap_or o [] ++ digest ∷ []) 0) (get-empty by_bytes digest_header)

type_keeps : (m : Fields) (kind : List ℕ) → first_of digest_header (with_header (codes "content-type") kind m) ≡ first_of digest_header m
type_keeps m kind = by_test (is_header_value kind && has_room m) where
  by_test : (b : Bool) → first_of digest_header (unwrap_or (if b then Some (added m (codes "content-type") kind) else None) m) ≡ first_of digest_header m
  by_test true = ap (λ (o : Option (List (List ℕ))). slice_get (unwrap_or o []) 0) (get-insert nat_list_cmp_total m (codes "content-type") (values_of (codes "content-type") m ++ kind ∷ []) digest_header)
  by_test false = refl

-- ---- how a response is interpreted

-- a response with status 200 that names this digest, with this body
pub record IsGood (digest body : List ℕ) (x : Answer) : Type 0 where
  pub status : x.status ≡ 200
  pub names : first_of digest_header x.headers ≡ Some digest
  pub body_is : x.body ≡ body

header_is : (digest bytes : List ℕ) {body : List ℕ} {x : Answer} → Names digest bytes → IsGood digest body x → header_digest x.headers ≡ Ok (Some digest)
header_is digest bytes named good = ap (λ o. or_digest_error (digest_in o)) good.names ∙ ap or_digest_error (digest_in_is digest bytes named)

pub accepted_is : (url : List ℕ) (x : Answer) → x.status ≡ 200 → accepted 200 url x ≡ Ok x
accepted_is url x is = ap (λ n. if nat_eq n 200 then Ok x else Err (refused_answer 200 url x)) is

-- the reference has no digest other than this one
abbrev pub NoOther : Option (List ℕ) → List ℕ → Type 0
NoOther None digest = Unit {0}
NoOther (Some own) digest = own ≡ digest

body_is_named : (bytes digest : List ℕ) (reference : Option (List ℕ)) → Names digest bytes → NoOther reference digest → body_digest bytes (Some digest) reference ≡ Ok digest
body_is_named bytes digest None named other = ap or_digest_error (is_validated bytes (Some digest) None digest (record { header_names = named; reference_names = tt; answer = refl }))
body_is_named bytes digest (Some own) named other =
    ap or_digest_error (is_validated bytes (Some digest) (Some own) digest (record { header_names = named; reference_names = subst (λ (t : List ℕ). Names t bytes) (sym other) named; answer = refl }))

pub document_is : (image : Reference) (got : Got) (digest bytes : List ℕ) → Names digest bytes → NoOther (digest_of image) digest → IsGood digest bytes got.answer → document_in image got ≡ Ok (bytes, digest)
document_is image got digest bytes named other good =
    ap (λ r. r into λ x. answer_digest image x into λ d. Ok (x.body, d)) (accepted_is got.url got.answer good.status)
    ∙ ap (λ r. (r into λ header. body_digest got.answer.body header (digest_of image)) into λ d. Ok (got.answer.body, d)) (header_is digest bytes named good)
    ∙ ap (λ (b : List ℕ). body_digest b (Some digest) (digest_of image) into λ d. Ok (b, d)) good.body_is
    ∙ ap (λ r. r into λ d. Ok (bytes, d)) (body_is_named bytes digest (digest_of image) named other)

never_other : (a b : Bool) → b ≡ true → (a && not b) ≡ false
never_other true b is = ap not is
never_other false b is = refl

agrees : (digest : List ℕ) (o : Option (List ℕ × List ℕ)) → (parts : List ℕ × List ℕ) → o ≡ Some parts → agreed digest digest o o ≡ Ok digest
agrees digest o parts is =
    ap (λ (p : Option (List ℕ × List ℕ)). agreed digest digest p p) is
    ∙ ap (λ b. if b then Err (digest_refusal.VerificationError digest digest) else Ok digest) (never_other (bytes_eq parts.0 parts.0) (bytes_eq digest digest) ((bytes_eq-Decides digest digest).1 refl))

named_parts : (digest bytes : List ℕ) → Names digest bytes → (parts : List ℕ × List ℕ) × (parts_of digest ≡ Some parts)
named_parts digest bytes (a, is) = by_parts (parts_of digest) (ap named_algorithm is ∙ algorithm_named a (encode_lower (hash_of a bytes))) where
  by_parts : (o : Option (List ℕ × List ℕ)) → named_by o ≡ Ok a → (parts : List ℕ × List ℕ) × (o ≡ Some parts)
  by_parts None wrong = absurd (cc wrong)
  by_parts (Some parts) right = (parts, refl)

fits_is : (digest bytes : List ℕ) (reference : Option (List ℕ)) → Names digest bytes → NoOther reference digest → fits_reference digest reference ≡ Ok digest
fits_is digest bytes None named other = refl
fits_is digest bytes (Some own) named other =
    let parts = named_parts digest bytes named in
    ap (λ (t : List ℕ). or_digest_error (agreed digest t (parts_of digest) (parts_of t))) other ∙ ap or_digest_error (agrees digest (parts_of digest) parts.0 parts.1)

-- ---- the responses of the shelf

pub named_segment : (digest bytes : List ℕ) → Names digest bytes → Segment digest
named_segment digest bytes (a, is) = subst Segment (sym is) (digest_segment a bytes)

document_good : (method : Method) (digest bytes : List ℕ) (document : ShelfDocument) → Names digest bytes → document.content ≡ bytes → method ≡ Get → IsGood digest bytes (document_answer method digest (Some document))
document_good method digest bytes document named content get = subst (λ m. IsGood digest bytes (document_answer m digest (Some document))) (sym get) (record { status = refl; names = type_keeps (with_digest digest) document.media_type ∙ digest_first digest (digest_value digest bytes named); body_is = content })

head_good : (digest bytes : List ℕ) (document : ShelfDocument) → Names digest bytes → IsGood digest [] (document_answer Head digest (Some document))
head_good digest bytes document named = record { status = refl; names = type_keeps (with_digest digest) document.media_type ∙ digest_first digest (digest_value digest bytes named); body_is = refl }

colon_in : (a : Algorithm) (bytes : List ℕ) → list_any is_colon (digest_text a bytes) ≡ true
colon_in a bytes =
    list_any-append is_colon (prefix_of a) (encode_lower (hash_of a bytes))
    ∙ ap (λ b. b || list_any is_colon (encode_lower (hash_of a bytes))) (each (λ a. list_any is_colon (prefix_of a)) refl a)

-- a digest is its own name
pub digest_itself : (shelf : Shelf) (digest bytes : List ℕ) → Names digest bytes → digest_named shelf digest ≡ Some digest
digest_itself shelf digest bytes (a, is) = ap (λ b. if b then Some digest else map.get shelf.tags digest) (ap (list_any is_colon) is ∙ colon_in a bytes)

blob_good : (digest blob : List ℕ) → Names digest blob → IsGood digest blob (bytes_answer (with_digest digest) (Some blob))
blob_good digest blob named = record { status = refl; names = digest_first digest (digest_value digest blob named); body_is = refl }

-- ---- how a blob's response is read

abbrev own_expected : List ℕ → Algorithm → Expected
own_expected digest a = record { text = digest; algorithm = a }

expected_is : (digest : List ℕ) (a : Algorithm) (bytes : List ℕ) → digest ≡ digest_text a bytes → digest_expected digest ≡ Ok (own_expected digest a)
expected_is digest a bytes is = ap (λ r. and_then r (λ b. Ok (own_expected digest b))) (ap named_algorithm is ∙ algorithm_named a (encode_lower (hash_of a bytes)))

plan_is : (digest : List ℕ) (a : Algorithm) (bytes : List ℕ) (x : Answer) → digest ≡ digest_text a bytes → IsGood digest bytes x → plan_of digest (head_part x) ≡ Pour (Some (own_expected digest a)) (own_expected digest a)
unfolding plan_of
plan_is digest a bytes x is good =
    ap (λ o. planned (and_then (digest_in o) (plan_by (is_success x.status) digest))) good.names
    ∙ ap (λ r. planned (and_then r (plan_by (is_success x.status) digest))) (digest_in_is digest bytes (a, is))
    ∙ ap (λ n. planned (plan_by (is_success n) digest (Some digest))) good.status
    ∙ ap (λ r. planned (and_then (and_then r (λ e. Ok (Some e))) (λ given. and_then r (λ own. Ok (pouring true given own))))) (expected_is digest a bytes is)

compared_is : (digest : List ℕ) (a : Algorithm) (bytes : List ℕ) → digest ≡ digest_text a bytes → compared (own_expected digest a) bytes ≡ Ok tt
compared_is digest a bytes is = by_test (bytes_eq digest (digest_text a bytes)) ((bytes_eq-Decides digest (digest_text a bytes)).1 is) where
  by_test : (b : Bool) → b ≡ true → (let r : Result (Unit {0}) OciDistributionError = if b then Ok tt else Err (engine_refusal.DigestError (digest_refusal.VerificationError digest (digest_text a bytes))) in r) ≡ Ok tt
  by_test true is = refl
  by_test false is = absurd (cc is)

blob_read : (digest url : List ℕ) (a : Algorithm) (bytes : List ℕ) (x : Answer) → digest ≡ digest_text a bytes → IsGood digest bytes x → read_by url x (plan_of digest (head_part x)) ≡ Ok bytes
blob_read digest url a bytes x is good =
    ap (read_by url x) (plan_is digest a bytes x is good)
    ∙ ap (λ (body : List ℕ). (compared (own_expected digest a) body and compared (own_expected digest a) body) and Ok body) good.body_is
    ∙ ap (λ r. (r and r) and Ok bytes) (compared_is digest a bytes is)

-- ---- the rows

module _ {s : Settings} {registry : List ℕ} {shelf : Shelf} (home : IsHosted s registry shelf) (short : FitsLimit s shelf) (image : Reference) (at : IsAt registry shelf image) (a : RegistryAuth) (can : CanBeShown a) (moment : ℕ) where
  abbrev I : AuthState → Type 0
  I k = Settled registry shelf.repository a k

  abbrev ctx : Context
  ctx = record { settings = s; moment = moment }

  abbrev limit : ℕ
  limit = s.max_body_bytes

  whole_gives : (request : Request) (x : Answer) (digest bytes : List ℕ) → Answers shelf request x → IsGood digest bytes x → length bytes ≤ limit → AlwaysOk I (answer shelf) (λ got. IsGood digest bytes got.answer) (whole 10 request limit)
  unfolding whole read_within EvaluatesWith
  whole_gives request x digest bytes asked good le = record {
    gives = λ k h. EvaluatesWith-led home.lead (λ l r. I l × Yields (λ got. IsGood digest bytes got.answer) r) (read_within limit) whole_reply x k tt
        (λ last. subst (λ reply. EvaluatesWith (answer shelf) (λ l r. I l × Yields (λ got. IsGood digest bytes got.answer) r) (whole_reply last reply) k) (sym (within_reads limit x (subst (λ (b : List ℕ). length b ≤ limit) (sym good.body_is) le))) (h, good))
        request asked;
  }

  -- a whole response
  pub answer_gives : (request : Request) (x : Answer) → Answers shelf request x → length x.body ≤ limit → AlwaysOk I (answer shelf) (λ got. got.answer ≡ x) (whole 10 request limit)
  unfolding whole read_within EvaluatesWith
  answer_gives request x asked le = record {
    gives = λ k h. EvaluatesWith-led home.lead (λ l r. I l × Yields (λ got. got.answer ≡ x) r) (read_within limit) whole_reply x k tt
        (λ last. subst (λ reply. EvaluatesWith (answer shelf) (λ l r. I l × Yields (λ got. got.answer ≡ x) r) (whole_reply last reply) k) (sym (within_reads limit x le)) (h, refl))
        request asked;
  }

  attempt_gives : (request : Request) (x : Answer) (digest bytes : List ℕ) → Answers shelf request x → Names digest bytes → IsGood digest bytes x → length bytes ≤ limit → AlwaysOk I (answer shelf) (λ (b : List ℕ). b ≡ bytes) (attempt IntoMemory limit digest request)
  unfolding attempt blob_reading EvaluatesWith
  attempt_gives request x digest bytes asked (alg, named) good le = record {
    gives = λ k h.
        let reading : blob_reading IntoMemory limit digest (head_part x) ≡ Within limit = ap (reading_by IntoMemory limit) (plan_is digest alg bytes x named good) in
        EvaluatesWith-led home.lead (λ l r. I l × Yields (λ (b : List ℕ). b ≡ bytes) r) (blob_reading IntoMemory limit digest) (blob_reply digest) x k
        (subst IsHeld (sym reading) tt)
        (λ last. subst (λ (way : Reading). EvaluatesWith (answer shelf) (λ l r. I l × Yields (λ (b : List ℕ). b ≡ bytes) r) (blob_reply digest last (reply_of way x)) k) (sym reading)
        (subst (λ reply. EvaluatesWith (answer shelf) (λ l r. I l × Yields (λ (b : List ℕ). b ≡ bytes) r) (blob_reply digest last reply) k) (sym (within_reads limit x (subst (λ (b : List ℕ). length b ≤ limit) (sym good.body_is) le)))
        (h, yields_ok (λ (b : List ℕ). b ≡ bytes) (read_by last.url x (plan_of digest (head_part x))) bytes (blob_read digest last.url alg bytes x named good) refl)))
        request asked;
  }

  offer_gives : (request : Request) (x : Answer) (digest bytes : List ℕ) (next : Row (List ℕ)) → Answers shelf request x → Names digest bytes → IsGood digest bytes x → length bytes ≤ limit → AlwaysOk I (answer shelf) (λ (b : List ℕ). b ≡ bytes) (offer IntoMemory limit digest next request)
  unfolding offer offer_reading blob_reading EvaluatesWith
  offer_gives request x digest bytes next asked (alg, named) good le = record {
    gives = λ k h.
        let own : Reading = blob_reading IntoMemory limit digest (head_part x) in
        let reading : offer_reading IntoMemory limit digest (head_part x) ≡ Within limit = ap (λ n. if is_error n then Unread else own) good.status ∙ ap (reading_by IntoMemory limit) (plan_is digest alg bytes x named good) in
        EvaluatesWith-led home.lead (λ l r. I l × Yields (λ (b : List ℕ). b ≡ bytes) r) (offer_reading IntoMemory limit digest) (offer_reply digest next) x k
        (subst IsHeld (sym reading) tt)
        (λ last. subst (λ (way : Reading). EvaluatesWith (answer shelf) (λ l r. I l × Yields (λ (b : List ℕ). b ≡ bytes) r) (offer_reply digest next last (reply_of way x)) k) (sym reading)
        (subst (λ reply. EvaluatesWith (answer shelf) (λ l r. I l × Yields (λ (b : List ℕ). b ≡ bytes) r) (offer_reply digest next last reply) k) (sym (within_reads limit x (subst (λ (b : List ℕ). length b ≤ limit) (sym good.body_is) le)))
        (h, yields_ok (λ (b : List ℕ). b ≡ bytes) (read_by last.url x (plan_of digest (head_part x))) bytes (blob_read digest last.url alg bytes x named good) refl)))
        request asked;
  }

  -- the shelf's response is used, whatever other places there are
  tried_gives : (places : List Place) (request : Request) (x : Answer) (digest bytes : List ℕ) → Answers shelf request x → Names digest bytes → IsGood digest bytes x → length bytes ≤ limit → AlwaysOk I (answer shelf) (λ (b : List ℕ). b ≡ bytes) (tried IntoMemory s digest places request)
  unfolding tried
  tried_gives [] request x digest bytes asked named good le = attempt_gives request x digest bytes asked named good le
  tried_gives (p ∷ ps) request x digest bytes asked named good le = offer_gives request x digest bytes (Done (asked_at s p) >>= (λ next. tried IntoMemory s digest ps next)) asked named good le

  named_gives : (request : Request) (x : Answer) (digest bytes : List ℕ) → Answers shelf request x → Names digest bytes → IsGood digest [] x → AlwaysOk I (answer shelf) (λ n. (got : Got) × (n ≡ ByHeader digest got) × (got.answer.status ≡ 200)) (named_after 10 request limit)
  unfolding named_after named_reading EvaluatesWith
  named_gives request x digest bytes asked named good = record {
    gives = λ k h.
        let P : NamedAnswer → Type 0 = λ n. (got : Got) × (n ≡ ByHeader digest got) × (got.answer.status ≡ 200) in
        let reading : named_reading limit (head_part x) ≡ Within limit = ap (reading_named limit) (header_is digest bytes named good) in
        let got : Request → Got = λ last. record { url = last.url; answer = x } in
        EvaluatesWith-led home.lead (λ l r. I l × Yields P r) (named_reading limit) named_reply x k
        (subst IsHeld (sym reading) tt)
        (λ last. subst (λ (way : Reading). EvaluatesWith (answer shelf) (λ l r. I l × Yields P r) (named_reply last (reply_of way x)) k) (sym reading)
        (subst (λ reply. EvaluatesWith (answer shelf) (λ l r. I l × Yields P r) (named_reply last reply) k) (sym (within_reads limit x (subst (λ (b : List ℕ). length b ≤ limit) (sym good.body_is) (omega arith))))
        (h, yields_ok P (read_named (got last) (header_digest x.headers)) (ByHeader digest (got last)) (ap (read_named (got last)) (header_is digest bytes named good)) (got last, refl, good.status))))
        request asked;
  }

  abbrev name_of_image : List ℕ
  name_of_image = manifest_name (digest_of image) (tag_of image)

  -- the document of the image's digest or tag is at its URL
  shelf_document : (method : Method) (digest bytes : List ℕ) (has : HasDocument shelf digest bytes) (request : Request) → Segment name_of_image → digest_named shelf name_of_image ≡ Some digest → is_get_or_head method ≡ true → may_follow method ≡ true → IsFor method (base_of s registry ++ item_path shelf.repository (codes "manifests") name_of_image) request → Answers shelf request (document_answer method digest (Some has.document))
  shelf_document method digest bytes has request segment points get follows is =
      answers_manifest home request name_of_image (document_answer method digest (Some has.document)) segment is.url_is (ap may_follow is.method_is ∙ follows) refl
      (ap (λ m. manifest_answer shelf m name_of_image) is.method_is
      ∙ ap (λ b. if b then digest_answer shelf method (digest_named shelf name_of_image) else not_found) get ∙ ap (digest_answer shelf method) points ∙ ap (document_answer method digest) has.there)

  has_short : (digest bytes : List ℕ) (has : HasDocument shelf digest bytes) → length bytes ≤ limit
  has_short digest bytes has = subst (λ (b : List ℕ). length b ≤ limit) has.content (short.documents digest has.document has.there)

  manifests_plain : Segment name_of_image → PlainPath (item_path shelf.repository (codes "manifests") name_of_image)
  manifests_plain segment = item_plain shelf.repository (codes "manifests") name_of_image home.path (109, codes "anifests", refl, refl, refl) segment

  document_gives : (digest bytes types : List ℕ) (url : Parts) → HasDocument shelf digest bytes → Segment name_of_image → digest_named shelf name_of_image ≡ Some digest → NoOther (digest_of image) digest → is_header_value types ≡ true
      → serialize url ≡ base_of s registry ++ item_path shelf.repository (codes "manifests") name_of_image → AlwaysOk I (answer shelf) (λ found. found ≡ (bytes, digest)) (document ctx image url types)
  unfolding document
  document_gives digest bytes types url has segment points other listed text =
      AlwaysOk-next _ (prepared_gives home image at a can moment Get url types listed) (λ request is.
      AlwaysOk-next _ (whole_gives request (document_answer Get digest (Some has.document)) digest bytes (shelf_document Get digest bytes has request segment points refl refl (record { method_is = is.method_is; url_is = is.url_is ∙ text })) (document_good Get digest bytes has.document has.named has.content refl) (has_short digest bytes has)) (λ got good.
      AlwaysOk-done (document_in image got) (yields_ok (λ found. found ≡ (bytes, digest)) (document_in image got) (bytes, digest) (document_is image got digest bytes has.named other good) refl)))

  -- the document of the image
  pub asked_gives : (digest bytes types : List ℕ) → HasDocument shelf digest bytes → Segment name_of_image → digest_named shelf name_of_image ≡ Some digest → NoOther (digest_of image) digest → is_header_value types ≡ true → AlwaysOk I (answer shelf) (λ found. found ≡ (bytes, digest)) (manifest_document ctx image types)
  unfolding manifest_document
  asked_gives digest bytes types has segment points other listed =
      AlwaysOk-next _ (AlwaysOk-done (url_read (manifest_text s image)) (url_reads home (manifest_text s image) (item_path shelf.repository (codes "manifests") name_of_image) (manifest_text_is home at) (manifests_plain segment))) (λ url is.
      document_gives digest bytes types url has segment points other listed is.text_is)

  -- the document of the image, with credentials that are passed in
  pub raw_gives : (digest bytes types : List ℕ) → HasDocument shelf digest bytes → Segment name_of_image → digest_named shelf name_of_image ≡ Some digest → NoOther (digest_of image) digest → is_header_value types ≡ true → AlwaysOk I (answer shelf) (λ found. found ≡ (bytes, digest)) (pull_manifest_raw ctx image a types)
  unfolding pull_manifest_raw
  raw_gives digest bytes types has segment points other listed = AlwaysOk-next _ (store_gives home image at a can moment) (λ u stored_is. asked_gives digest bytes types has segment points other listed)

  fitting : (digest bytes : List ℕ) (url : Parts) (got : Got) → Names digest bytes → NoOther (digest_of image) digest → got.answer.status ≡ 200 → AlwaysOk I (answer shelf) (λ (d : List ℕ). d ≡ digest) (digest_by ctx image url (ByHeader digest got))
  fitting digest bytes url got named other good =
      AlwaysOk-next _ (AlwaysOk-done (accepted 200 got.url got.answer) (yields_ok (λ (x : Answer). Unit {0}) (accepted 200 got.url got.answer) got.answer (accepted_is got.url got.answer good) tt)) (λ x u.
      AlwaysOk-done (fits_reference digest (digest_of image)) (yields_ok (λ (d : List ℕ). d ≡ digest) (fits_reference digest (digest_of image)) digest (fits_is digest bytes (digest_of image) named other) refl))

  -- its digest
  pub digest_gives : (digest bytes : List ℕ) → HasDocument shelf digest bytes → Segment name_of_image → digest_named shelf name_of_image ≡ Some digest → NoOther (digest_of image) digest → AlwaysOk I (answer shelf) (λ (d : List ℕ). d ≡ digest) (fetch_manifest_digest ctx image a)
  unfolding fetch_manifest_digest
  digest_gives digest bytes has segment points other =
      AlwaysOk-next _ (store_gives home image at a can moment) (λ u stored_is.
      AlwaysOk-next _ (AlwaysOk-done (url_read (manifest_text s image)) (url_reads home (manifest_text s image) (item_path shelf.repository (codes "manifests") name_of_image) (manifest_text_is home at) (manifests_plain segment))) (λ url is.
      AlwaysOk-next _ (prepared_gives home image at a can moment Head url manifest_types refl) (λ request made.
      AlwaysOk-next _ (named_gives request (document_answer Head digest (Some has.document)) digest bytes (shelf_document Head digest bytes has request segment points refl refl (record { method_is = made.method_is; url_is = made.url_is ∙ is.text_is })) has.named (head_good digest bytes has.document has.named)) (λ n found.
      subst (λ n. AlwaysOk I (answer shelf) (λ (d : List ℕ). d ≡ digest) (digest_by ctx image url n)) (sym found.1) (fitting digest bytes url found.0 has.named other found.2)))))

  -- a blob
  pub blob_gives : (layer : Layer) (has : HasBlob shelf layer.digest) → AlwaysOk I (answer shelf) (λ (b : List ℕ). b ≡ has.blob) (held_blob ctx image layer)
  unfolding blob_to
  blob_gives layer has =
      let digest : List ℕ = layer.digest in
      let segment = named_segment digest has.blob has.named in
      AlwaysOk-next _ (AlwaysOk-done (url_read (blob_text s image digest)) (url_reads home (blob_text s image digest) (item_path shelf.repository (codes "blobs") digest) (blob_text_is home at digest) (item_plain shelf.repository (codes "blobs") digest home.path (98, codes "lobs", refl, refl, refl) segment))) (λ url is.
      AlwaysOk-next _ (prepared_gives home image at a can moment Get url manifest_types refl) (λ request made.
      tried_gives (places_of layer.urls) request (bytes_answer (with_digest digest) (Some has.blob)) digest has.blob
      (answers_blob home request digest (bytes_answer (with_digest digest) (Some has.blob)) segment (made.url_is ∙ is.text_is) (ap may_follow made.method_is) refl (ap (λ m. blob_answer shelf m digest) made.method_is ∙ ap (bytes_answer (with_digest digest)) has.there))
      has.named (blob_good digest has.blob has.named) (short.blobs digest has.blob has.there)))
