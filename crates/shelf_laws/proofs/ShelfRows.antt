-- The rows of the registry's client over a shelf, for an image of any repository: whichever responses are lost, the client
-- keeps what it may keep, and an `Ok` is what the shelf returns.
use Rattle.std.specs.Prelude.{bytes_eq, codes, unwrap_or, slice_get, nat_eq, ◌==◌, if◌then◌else◌}
use Rattle.std.specs.FinMap as map
use Rattle.std.specs.FinMap.{get-empty, get-insert}
use Rattle.std.specs.Cmp.Lexicographic.{nat_list_cmp_total}
use Rattle.std.proofs.Common.{◌≡◌, ◌⊎◌, inl, inr, ap, ◌∙◌, is_some, ℕ, Bool, true, false, ◌&&◌, List, [], ◌∷◌, ◌++◌, Option, Some, None, Result, Ok, Err, length, refl, sym, subst}
use Rattle.url.specs.Parts.{Parts, serialize}
use Rattle.json_values.specs.Places.{by_bytes}
use Rattle.oci_names.specs.declared.reference.Reference.{Reference}
use Rattle.oci_names.specs.Reference.{digest_of, namespace_of, repository_of, resolved_registry}
use Rattle.oci_auth.specs.declared.auth.RegistryAuth.{RegistryAuth}
use Rattle.oci_auth.specs.declared.auth_state.AuthState.{AuthState}
use Rattle.oci_auth.specs.declared.token_type.RegistryOperation.TheVariants as operation
use Rattle.oci_auth.specs.declared.token_type.RegistryTokenType.{RegistryTokenType}
use Rattle.oci_auth.specs.AuthState.{stored}
use Rattle.oci_auth.specs.Auth.{unasked}
use Rattle.oci_auth.specs.Cache.{key_of, token_at, kept_token}
use Rattle.oci_auth.specs.Kept.{Key, under, kept_under, NoneOr}
use Rattle.oci_auth.proofs.Places.{stored_after}
use Rattle.oci_manifests.specs.declared.document.OciManifest.{OciManifest}
use Rattle.oci_manifests.specs.declared.document.OciManifest.TheVariants.{Image, ImageIndex}
use Rattle.oci_manifests.specs.declared.index.OciImageIndex.{OciImageIndex}
use Rattle.oci_manifests.specs.declared.manifest.OciImageManifest.{OciImageManifest}
use Rattle.oci_manifests.specs.declared.descriptor.OciDescriptor.{OciDescriptor}
use Rattle.oci_manifests.specs.declared.blob.ImageLayer.{ImageLayer}
use Rattle.oci_transport.specs.Headers.{Fields, first_of, values_of, added, has_room, digest_header, is_header_value}
use Rattle.oci_transport.specs.Urls.{request_url}
use Rattle.oci_transport.specs.declared.message.Request.{Request}
use Rattle.oci_transport.specs.declared.message.Answer.{Answer}
use Rattle.oci_transport.specs.declared.message.AnswerHead.{AnswerHead}
use Rattle.oci_transport.specs.declared.message.Method.{Method}
use Rattle.oci_transport.specs.declared.message.Method.TheVariants.{Get, Head}
use Rattle.oci_protocol.specs.Proto.{Unread, Reply, Headed, Answered, Failed, TooLong, SinkFailed, Proto, Done, Ask, bind, unless_refused, read_within, read_none, ◌>>=◌}
use Rattle.oci_protocol.specs.Follow.{follow}
use Rattle.oci_protocol.specs.Runs.{head_part}
use Rattle.oci_link.specs.Table.{answer, at_path, in_registry, in_repository, or_manifest, or_blob, or_referrers, manifest_answer, blob_answer, referrers_answer, digest_answer, document_answer, bytes_answer, unless_redirected, redirect_to, with_header, with_digest, body_for, found, not_found, digest_named, is_get, is_get_or_head}
use Rattle.oci_link.specs.Paths.{after, path_of}
use Rattle.oci_link.specs.declared.shelf.Shelf.{Shelf}
use Rattle.oci_link.specs.declared.shelf.ShelfDocument.{ShelfDocument}
use Rattle.engine_answers.specs.declared.blobs.Plan.{Plan}
use Rattle.engine_answers.specs.declared.blobs.Plan.TheVariants.{Refuse, Judge, Pour}
use Rattle.engine_requests.specs.Addresses.{registry_text, base_text, manifest_text, blob_text, url_read}
use Rattle.engine_answers.specs.Answers.{is_error, accepted, header_digest, document_in, fits_reference}
use Rattle.engine_answers.specs.Blobs.{plan_of}
use Rattle.engine_terms.specs.Contexts.{Context}
use Rattle.engine_answers.specs.Documents.{document_read}
use Rattle.engine_answers.specs.Index.{entry_found, entry_manifest, entry_reference}
use Rattle.engine_requests.specs.Requests.{manifest_types, request_of}
use Rattle.engine_requests.specs.Tokens.{wanted, wanted_in}
use Rattle.engine_requests.specs.declared.tokens.Wanted.{Wanted}
use Rattle.engine_requests.specs.declared.tokens.Wanted.TheVariants as wants
use Rattle.engine_answers.specs.Referrers.{referrers_in, fallback_reference, tagged_index}
use Rattle.engine_requests.specs.ReferrerLists.{digest_given, referrers_url}
use Rattle.engine_requests.specs.Sources.{Layer, described, places_of, asked_at}
use Rattle.engine_answers.specs.declared.answers.Got.{Got}
use Rattle.engine_terms.specs.declared.error.OciDistributionError.{OciDistributionError}
use Rattle.engine_terms.specs.declared.error.OciDistributionError.TheVariants as refusal
use Rattle.engine_requests.specs.declared.sources.Place.{Place}
use Rattle.engine_terms.specs.declared.settings.Settings.{Settings}
use Rattle.engine_rows.specs.declared.named.NamedAnswer.{NamedAnswer}
use Rattle.engine_rows.specs.declared.named.NamedAnswer.TheVariants.{ByHeader, Unnamed}
use Rattle.engine_rows.specs.Rows.{Row, whole_reply, whole, head_reply, head_after, reading_named, named_reading, named_reply, named_after, store, fetched, registry_asked, unasked_or_asked, token_step, with_kept, passed_over, taken, token_asked, kept_or_asked, token_by, token_for, goes_to, token_where, authorized, prepared, kept_text, token_given}
use Rattle.engine_rows.specs.Offers.{offer_reading, offer_reply, offer, tried}
use Rattle.engine_rows.specs.Blobs.{IntoMemory, reading_by, blob_reading, blob_reply, attempt}
use Rattle.engine_rows.specs.Pulls.{document, digest_by, fetch_manifest_digest, manifest_document, pull_manifest_raw, manifest_asked, pull_manifest, blob_to, held_blob}
use Rattle.engine_rows.specs.Manifests.{pull_entry, manifest_by, pull_image_manifest_and_list_digest}
use Rattle.engine_rows.specs.Referrers.{referrers_asked, referrers_tagged, referrers_by, pull_referrers}
use Rattle.engine_rows.specs.Image.{layers_accepted, layer_of, layers_by, pull_layers, pull}
use Rattle.engine_rows.specs.declared.image.ImageData.{ImageData}
use Rattle.shelf_laws.specs.EvaluatesWith.{IsHeld, EvaluatesWith}
use Rattle.shelf_laws.specs.IsHosted.{IsToken, Settled}
use Rattle.shelf_laws.proofs.Tokens.{settled_stored}
use Rattle.shelf_laws.proofs.LostResponses.{Passes, Comes, IsLost, EndsLost, Resilient, resilient_done, resilient_bind, resilient_next, resilient_follow}

-- ---- a shelf requires no token

abbrev AsksNothing : Fields → Type 0
AsksNothing m = first_of (codes "www-authenticate") m ≡ None

empty_asks : AsksNothing map.empty
empty_asks = ap (λ (o : Option (List (List ℕ))). slice_get (unwrap_or o []) 0) (get-empty by_bytes (codes "www-authenticate"))

header_asks : (name value : List ℕ) (m : Fields) → map.get (added m name value) (codes "www-authenticate") ≡ map.get m (codes "www-authenticate") → AsksNothing m → AsksNothing (with_header name value m)
header_asks name value m same none = by_test (is_header_value value && has_room m) where
  by_test : (b : Bool) → AsksNothing (unwrap_or (if b then Some (added m name value) else None) m)
  by_test true = ap (λ (o : Option (List (List ℕ))). slice_get (unwrap_or o []) 0) same ∙ none
  by_test false = none

location_asks : (value : List ℕ) → AsksNothing (redirect_to value).headers
location_asks value = header_asks (codes "location") value map.empty (get-insert nat_list_cmp_total map.empty (codes "location") (values_of (codes "location") map.empty ++ value ∷ []) (codes "www-authenticate")) empty_asks

digest_asks : (digest : List ℕ) → AsksNothing (with_digest digest)
digest_asks digest = header_asks digest_header digest map.empty (get-insert nat_list_cmp_total map.empty digest_header (values_of digest_header map.empty ++ digest ∷ []) (codes "www-authenticate")) empty_asks

type_asks : (kind digest : List ℕ) → AsksNothing (with_header (codes "content-type") kind (with_digest digest))
type_asks kind digest = header_asks (codes "content-type") kind (with_digest digest) (get-insert nat_list_cmp_total (with_digest digest) (codes "content-type") (values_of (codes "content-type") (with_digest digest) ++ kind ∷ []) (codes "www-authenticate")) (digest_asks digest)

if_asks : (b : Bool) (x y : Answer) → AsksNothing x.headers → AsksNothing y.headers → AsksNothing (if b then x else y).headers
if_asks true x y here there = here
if_asks false x y here there = there

bytes_ask : (headers : Fields) (o : Option (List ℕ)) → AsksNothing headers → AsksNothing (bytes_answer headers o).headers
bytes_ask headers None h = empty_asks
bytes_ask headers (Some bytes) h = h

module _ (shelf : Shelf) (method : Method) where
  document_asks : (digest : List ℕ) (o : Option ShelfDocument) → AsksNothing (document_answer method digest o).headers
  document_asks digest None = empty_asks
  document_asks digest (Some x) = type_asks x.media_type digest

  named_asks : (o : Option (List ℕ)) → AsksNothing (digest_answer shelf method o).headers
  named_asks None = empty_asks
  named_asks (Some digest) = document_asks digest (map.get shelf.documents digest)

  referrers_ask : (o : Option (List ℕ)) → AsksNothing (or_referrers shelf method o).headers
  referrers_ask (Some digest) = if_asks (is_get method) (bytes_answer map.empty (map.get shelf.referrers digest)) not_found (bytes_ask map.empty (map.get shelf.referrers digest) empty_asks) empty_asks
  referrers_ask None = empty_asks

  blob_asks : (rest : List ℕ) (o : Option (List ℕ)) → AsksNothing (or_blob shelf method rest o).headers
  blob_asks rest (Some digest) = if_asks (is_get method) (bytes_answer (with_digest digest) (map.get shelf.blobs digest)) not_found (bytes_ask (with_digest digest) (map.get shelf.blobs digest) (digest_asks digest)) empty_asks
  blob_asks rest None = referrers_ask (after (codes "/referrers/") rest)

  manifest_asks : (rest : List ℕ) (o : Option (List ℕ)) → AsksNothing (or_manifest shelf method rest o).headers
  manifest_asks rest (Some name) = if_asks (is_get_or_head method) (digest_answer shelf method (digest_named shelf name)) not_found (named_asks (digest_named shelf name)) empty_asks
  manifest_asks rest None = blob_asks rest (after (codes "/blobs/") rest)

  repository_asks : (o : Option (List ℕ)) → AsksNothing (in_repository shelf method o).headers
  repository_asks None = empty_asks
  repository_asks (Some rest) = manifest_asks rest (after (codes "/manifests/") rest)

  registry_asks : (o : Option (List ℕ)) → AsksNothing (in_registry shelf method o).headers
  registry_asks None = empty_asks
  registry_asks (Some rest) = if_asks (length rest == 0) (if is_get method then found map.empty [] else not_found) (in_repository shelf method (after shelf.repository rest))
      (if_asks (is_get method) (found map.empty []) not_found empty_asks empty_asks) (repository_asks (after shelf.repository rest))

  path_asks : (o : Option (List ℕ)) → AsksNothing (at_path shelf method o).headers
  path_asks None = empty_asks
  path_asks (Some path) = registry_asks (after (codes "v2/") path)

pub shelf_asks : (shelf : Shelf) (request : Request) → AsksNothing (answer shelf request).headers
unfolding answer
shelf_asks shelf request = by_redirect (if is_get_or_head request.method then map.get shelf.redirects request.url else None) where
  by_redirect : (o : Option (List ℕ)) → AsksNothing (unless_redirected shelf request o).headers
  by_redirect (Some value) = location_asks value
  by_redirect None = path_asks shelf request.method (path_of request.url)

wants_nothing : (head : AnswerHead) → AsksNothing head.headers → wanted head ≡ wants.Nothing
unfolding wanted
wants_nothing head is = ap wanted_in is

-- ---- what a client may keep

-- J holds for the client states to which the calls for this repository lead, with these credentials
pub record Allows (registry repository : List ℕ) (a : RegistryAuth) (J : AuthState → Type 0) : Type 0 where
  pub stored_is : (k : AuthState) → J k → NoneOr (map.get k.credentials registry) (Some a)
  pub stores : (k : AuthState) → J k → J (stored k registry a)
  pub keeps : (k : AuthState) (token : RegistryTokenType) (moment : ℕ) → Some token ≡ unasked a → J k → J (with_kept k (under registry repository operation.Pull) token moment)

-- after a token is stored under one key, there is under another one what was there before, or nothing
kept_settles : (registry repository other : List ℕ) (a : RegistryAuth) (k : AuthState) (token : RegistryTokenType) (moment : ℕ) → Some token ≡ unasked a → Settled registry other a k → Settled registry other a (with_kept k (under registry repository operation.Pull) token moment)
kept_settles registry repository other a k token moment own h = record { credentials = h.credentials; token = by_after (stored_after k.tokens (under registry repository operation.Pull) (under registry other operation.Pull) token moment) } where
  by_after : NoneOr (kept_under (under registry other operation.Pull) (with_kept k (under registry repository operation.Pull) token moment).tokens.tokens) (kept_under (under registry other operation.Pull) k.tokens.tokens)
      ⊎ ((under registry other operation.Pull ≡ under registry repository operation.Pull) × (until : ℕ) × (kept_under (under registry other operation.Pull) (with_kept k (under registry repository operation.Pull) token moment).tokens.tokens ≡ Some (kept_token (under registry repository operation.Pull) token until)))
      → IsToken a (kept_under (under registry other operation.Pull) (with_kept k (under registry repository operation.Pull) token moment).tokens.tokens)
  by_after (inl (inl none)) = subst (IsToken a) (sym none) tt
  by_after (inl (inr before)) = subst (IsToken a) (sym before) h.token
  by_after (inr (same, until, is)) = subst (IsToken a) (sym is) own

-- a settled client stays settled
pub settled_alone : (registry repository : List ℕ) (a : RegistryAuth) → Allows registry repository a (λ k. Settled registry repository a k)
settled_alone registry repository a = record {
  stored_is = λ k is. is.credentials;
  stores = λ k is. settled_stored registry repository a k is;
  keeps = λ k token moment own is. kept_settles registry repository repository a k token moment own is;
}

-- the same for another repository besides
pub settled_allows : (registry repository other : List ℕ) (a : RegistryAuth) → Allows registry repository a (λ k. Settled registry repository a k × Settled registry other a k)
settled_allows registry repository other a = record {
  stored_is = λ k is. is.0.credentials;
  stores = λ k is. (settled_stored registry repository a k is.0, settled_stored registry other a k is.1);
  keeps = λ k token moment own is. (kept_settles registry repository repository a k token moment own is.0, kept_settles registry repository other a k token moment own is.1);
}

-- the image is in this repository of this registry, which is its own and not a mirror
pub record IsIn (registry repository : List ℕ) (image : Reference) : Type 0 where
  pub registry_is : resolved_registry image ≡ registry
  pub repository_is : repository_of image ≡ repository
  pub no_mirror : namespace_of image ≡ None

-- a fault of the transport, which is what a call returns whose response was lost
abbrev pub IsFault : OciDistributionError → Type 0
IsFault e = e ≡ refusal.TransportFault

fault_ends : {A : Type 0} → EndsLost {K = AuthState} {A = A} IsFault (Done (Err refusal.TransportFault))
fault_ends = record { error = refusal.TransportFault; is = refl; kind = refl }

held_by : (limit : ℕ) (plan : Plan) → IsHeld (reading_by IntoMemory limit plan)
held_by limit (Refuse e) = tt
held_by limit Judge = tt
held_by limit (Pour given own) = tt

-- a registry that was resolved is requested unchanged
hub : (x : List ℕ) (b : Bool) → bytes_eq x (codes "docker.io") ≡ b → (let resolved : List ℕ = if b then codes "index.docker.io" else x in if bytes_eq resolved (codes "docker.io") then codes "index.docker.io" else resolved) ≡ (if b then codes "index.docker.io" else x)
hub x true is = refl
hub x false is = ap (λ b. if b then codes "index.docker.io" else x) is

pub resolved_again : (image : Reference) → namespace_of image ≡ None → (if bytes_eq (resolved_registry image) (codes "docker.io") then codes "index.docker.io" else resolved_registry image) ≡ resolved_registry image
resolved_again image none = by_mirror image.mirror none where
  by_mirror : (m : Option (List ℕ)) → (if is_some m then Some image.registry else None) ≡ None
      → (let resolved : List ℕ = unwrap_or m (if bytes_eq image.registry (codes "docker.io") then codes "index.docker.io" else image.registry) in if bytes_eq resolved (codes "docker.io") then codes "index.docker.io" else resolved)
      ≡ unwrap_or m (if bytes_eq image.registry (codes "docker.io") then codes "index.docker.io" else image.registry)
  by_mirror None is = hub image.registry (bytes_eq image.registry (codes "docker.io")) refl
  by_mirror (Some m) is = absurd (cc is)

module _ (s : Settings) (shelf : Shelf) (registry repository : List ℕ) (a : RegistryAuth) (J : AuthState → Type 0) (allows : Allows registry repository a J) (moment : ℕ) where
  abbrev table : Request → Answer
  table = answer shelf

  abbrev ctx : Context
  ctx = record { settings = s; moment = moment }

  abbrev Sure : {A : Type 0} → Row A → Type 0
  Sure p = Resilient J table IsFault p

  sure_done : {A : Type 0} (r : Result A OciDistributionError) → Sure (Done r)
  sure_done r = resilient_done r

  -- ---- ways to send a request

  whole_sure : (n limit : ℕ) (request : Request) → Sure (whole n request limit)
  unfolding whole read_within
  whole_sure n limit request = resilient_follow J table IsFault n request (read_within limit) whole_reply (λ head. tt) by_reply (λ last. fault_ends) where
    by_reply : (last : Request) (reply : Reply) → Sure (whole_reply last reply)
    by_reply last (Headed head) = sure_done _
    by_reply last (Answered x) = sure_done _
    by_reply last Failed = sure_done _
    by_reply last TooLong = sure_done _
    by_reply last SinkFailed = sure_done _

  attempt_sure : (limit : ℕ) (digest : List ℕ) (request : Request) → Sure (attempt IntoMemory limit digest request)
  unfolding attempt blob_reading
  attempt_sure limit digest request = resilient_follow J table IsFault 10 request (blob_reading IntoMemory limit digest) (blob_reply digest) (λ head. held_by limit (plan_of digest head)) by_reply (λ last. fault_ends) where
    by_reply : (last : Request) (reply : Reply) → Sure (blob_reply digest last reply)
    by_reply last (Headed head) = sure_done _
    by_reply last (Answered x) = sure_done _
    by_reply last Failed = sure_done _
    by_reply last TooLong = sure_done _
    by_reply last SinkFailed = sure_done _

  offer_sure : (digest : List ℕ) (request : Request) (next : Row (List ℕ)) → Sure next → Sure (offer IntoMemory s.max_body_bytes digest next request)
  unfolding offer offer_reading blob_reading
  offer_sure digest request next after = resilient_follow J table IsFault 10 request (offer_reading IntoMemory s.max_body_bytes digest) (offer_reply digest next) held by_reply (λ last. fault_ends) where
    held_if : (b : Bool) (head : AnswerHead) → IsHeld (if b then Unread else blob_reading IntoMemory s.max_body_bytes digest head)
    held_if true head = tt
    held_if false head = held_by s.max_body_bytes (plan_of digest head)

    held : (head : AnswerHead) → IsHeld (offer_reading IntoMemory s.max_body_bytes digest head)
    held head = held_if (is_error head.status) head

    headed : (b : Bool) (last : Request) (head : AnswerHead) → Sure (if b then next else blob_reply digest last (Headed head))
    headed true last head = after
    headed false last head = sure_done _

    by_reply : (last : Request) (reply : Reply) → Sure (offer_reply digest next last reply)
    by_reply last (Headed head) = headed (is_error head.status) last head
    by_reply last (Answered x) = sure_done _
    by_reply last Failed = sure_done _
    by_reply last TooLong = sure_done _
    by_reply last SinkFailed = sure_done _

  tried_sure : (digest : List ℕ) (places : List Place) (request : Request) → Sure (tried IntoMemory s digest places request)
  unfolding tried
  tried_sure digest [] request = attempt_sure s.max_body_bytes digest request
  tried_sure digest (p ∷ ps) request = offer_sure digest request (Done (asked_at s p) >>= (λ next. tried IntoMemory s digest ps next)) (resilient_next _ (sure_done (asked_at s p)) (λ next. tried_sure digest ps next))

  named_sure : (request : Request) → Sure (named_after 10 request s.max_body_bytes)
  unfolding named_after named_reading
  named_sure request = resilient_follow J table IsFault 10 request (named_reading s.max_body_bytes) named_reply (λ head. held_named (header_digest head.headers)) by_reply (λ last. fault_ends) where
    held_named : (r : Result (Option (List ℕ)) OciDistributionError) → IsHeld (reading_named s.max_body_bytes r)
    held_named (Ok (Some digest)) = tt
    held_named (Ok None) = tt
    held_named (Err e) = tt

    by_reply : (last : Request) (reply : Reply) → Sure (named_reply last reply)
    by_reply last (Headed head) = sure_done _
    by_reply last (Answered x) = sure_done _
    by_reply last Failed = sure_done _
    by_reply last TooLong = sure_done _
    by_reply last SinkFailed = sure_done _

  module _ (image : Reference) (in_it : IsIn registry repository image) where
    -- ---- tokens

    store_sure : Sure (store image a)
    unfolding store Passes EvaluatesWith bind
    store_sure = record { passes = λ k is. (is, (subst (λ (r : List ℕ). J (stored k r a)) (sym in_it.registry_is) (allows.stores k is), inl (refl, refl))) }

    abbrev key : Key
    key = key_of image operation.Pull

    kept_sure : (k : AuthState) (token : RegistryTokenType) → Some token ≡ unasked a → J k → J (with_kept k key token moment)
    kept_sure k token own is = subst (λ (r : List ℕ). J (with_kept k (under r (repository_of image) operation.Pull) token moment)) (sym in_it.registry_is)
        (subst (λ (r : List ℕ). J (with_kept k (under registry r operation.Pull) token moment)) (sym in_it.repository_is) (allows.keeps k token moment own is))

    -- what the registry requires is nothing, and a lost response is passed over, or is the error
    module _ {B : Type 0} (then_ : Result (Option RegistryTokenType) OciDistributionError → Row B) (x : B) (none_is : then_ (Ok None) ≡ Done (Ok x))
        (err_sure : (e : OciDistributionError) → Sure (then_ (Err e)))
        (lost_is : (then_ (Err refusal.TransportFault) ≡ Done (Ok x)) ⊎ (then_ (Err refusal.TransportFault) ≡ Done (Err refusal.TransportFault))) (b : RegistryAuth) where
      abbrev after_head : Result AnswerHead OciDistributionError → Row (Option RegistryTokenType)
      after_head r = unless_refused (λ head. fetched s image b operation.Pull (wanted head)) r

      abbrev asking : Request → Row B
      asking request = bind (head_after 0 request >>= (λ head. fetched s image b operation.Pull (wanted head))) then_

      asking_sure : (request : Request) → Sure (asking request)
      unfolding head_after follow read_none bind Passes EvaluatesWith
      asking_sure request = record { passes = λ k is. (is, tt, there k is, lost k is lost_is) } where
        nothing : wanted (head_part (table request)) ≡ wants.Nothing
        nothing = wants_nothing (head_part (table request)) (shelf_asks shelf request)

        comes : (k : AuthState) → Comes table (asking request) k k (Ok x)
        comes k = (tt, subst (λ w. EvaluatesWith table (λ j r. (j ≡ k) × (r ≡ Ok x)) (bind (fetched s image b operation.Pull w) then_) k) (sym nothing) (subst (λ (p : Row B). EvaluatesWith table (λ j r. (j ≡ k) × (r ≡ Ok x)) p k) (sym none_is) (refl, refl)))

        ended : (k : AuthState) → J k → Passes table J (λ l r. Comes table (asking request) k l r ⊎ IsLost IsFault r) (Done (Ok x)) k
        ended k is = (is, inl (comes k))

        there : (k : AuthState) → J k → Passes table J (λ l r. Comes table (asking request) k l r ⊎ IsLost IsFault r) (bind (fetched s image b operation.Pull (wanted (head_part (table request)))) then_) k
        there k is = subst (λ w. Passes table J (λ l r. Comes table (asking request) k l r ⊎ IsLost IsFault r) (bind (fetched s image b operation.Pull w) then_) k) (sym nothing)
            (subst (λ (p : Row B). Passes table J (λ l r. Comes table (asking request) k l r ⊎ IsLost IsFault r) p k) (sym none_is) (ended k is))

        lost : (k : AuthState) → J k → (then_ (Err refusal.TransportFault) ≡ Done (Ok x)) ⊎ (then_ (Err refusal.TransportFault) ≡ Done (Err refusal.TransportFault)) → Passes table J (λ l r. Comes table (asking request) k l r ⊎ IsLost IsFault r) (then_ (Err refusal.TransportFault)) k
        lost k is (inl passed) = subst (λ (p : Row B). Passes table J (λ l r. Comes table (asking request) k l r ⊎ IsLost IsFault r) p k) (sym passed) (ended k is)
        lost k is (inr told) = subst (λ (p : Row B). Passes table J (λ l r. Comes table (asking request) k l r ⊎ IsLost IsFault r) p k) (sym told) (is, inr refl)

      by_request : (r : Result Request OciDistributionError) → Sure (bind (unless_refused (λ request. head_after 0 request >>= (λ head. fetched s image b operation.Pull (wanted head))) r) then_)
      unfolding bind
      by_request (Ok request) = asking_sure request
      by_request (Err e) = err_sure e

      by_url : (r : Result Parts OciDistributionError) → Sure (bind (unless_refused (λ url. Done (request_of s Get url None None) >>= (λ request. head_after 0 request >>= (λ head. fetched s image b operation.Pull (wanted head)))) r) then_)
      unfolding bind
      by_url (Ok url) = by_request (request_of s Get url None None)
      by_url (Err e) = err_sure e

      registry_sure : Sure (bind (registry_asked s image b operation.Pull) then_)
      unfolding registry_asked bind
      registry_sure = by_url (url_read (base_text s image))

    taken_sure : (token : RegistryTokenType) → Some token ≡ unasked a → Sure (taken moment key (Ok (Some token)))
    unfolding Passes EvaluatesWith
    taken_sure token own = record { passes = λ k is. (is, (kept_sure k token own is, inl (refl, refl))) }

    asked_sure : Sure (token_asked ctx image operation.Pull a)
    unfolding token_asked bind
    asked_sure = by_unasked (unasked a) refl where
      by_unasked : (o : Option RegistryTokenType) → unasked a ≡ o → Sure (bind (unasked_or_asked s image a operation.Pull o) (taken moment key))
      by_unasked (Some token) is = taken_sure token (sym is)
      by_unasked None is = registry_sure (taken moment key) None refl (λ e. sure_done (passed_over e)) (inl refl) a

    kept_or_asked_sure : (o : Option RegistryTokenType) → Sure (kept_or_asked ctx image operation.Pull a o)
    kept_or_asked_sure None = asked_sure
    kept_or_asked_sure (Some token) = sure_done (Ok (Some token))

    by_stored : (stored_is : Option RegistryAuth) (o : Option RegistryTokenType) → NoneOr stored_is (Some a) → Sure (token_by ctx image operation.Pull stored_is o)
    by_stored stored_is o (inl none) = subst (λ (b : Option RegistryAuth). Sure (token_by ctx image operation.Pull b o)) (sym none) (sure_done (Ok None))
    by_stored stored_is o (inr own) = subst (λ (b : Option RegistryAuth). Sure (token_by ctx image operation.Pull b o)) (sym own) (kept_or_asked_sure o)

    token_sure : Sure (token_for ctx image operation.Pull)
    unfolding token_for Passes EvaluatesWith bind
    token_sure = record { passes = λ k is. (by_stored (map.get k.credentials (resolved_registry image)) (token_at k.tokens key moment) (subst (λ (r : List ℕ). NoneOr (map.get k.credentials r) (Some a)) (sym in_it.registry_is) (allows.stored_is k is))).passes k is }

    where_sure : (b : Bool) → Sure (token_where ctx image operation.Pull b)
    where_sure true = token_sure
    where_sure false = sure_done (Ok None)

    prepared_sure : (method : Method) (url : Parts) (types : List ℕ) → Sure (prepared ctx image operation.Pull method url types)
    unfolding prepared authorized
    prepared_sure method url types =
        resilient_next _ (resilient_next _ (sure_done (url_read (registry_text s image))) (λ u. where_sure (goes_to (request_url (serialize url)) u))) (λ token.
        sure_done (request_of s method url (Some types) token))

    text_sure : (o : Option RegistryTokenType) → o ≡ unasked a → Sure (kept_text moment key o)
    unfolding Passes EvaluatesWith bind
    text_sure None own = sure_done (Ok None)
    text_sure (Some token) own = record { passes = λ k is. (is, (kept_sure k token own is, inl (refl, refl))) }

    abbrev kept_or_err : Result (Option RegistryTokenType) OciDistributionError → Row (Option (List ℕ))
    kept_or_err r = unless_refused (kept_text moment key) r

    step_sure : Sure (token_step s image a operation.Pull >>= (λ given. kept_text moment key given))
    unfolding bind
    step_sure = by_unasked (unasked a) refl where
      by_unasked : (o : Option RegistryTokenType) → unasked a ≡ o → Sure (bind (unasked_or_asked s image a operation.Pull o) kept_or_err)
      by_unasked (Some token) is = text_sure (Some token) (sym is)
      by_unasked None is = registry_sure kept_or_err None refl (λ e. sure_done (Err e)) (inr refl) a

    pub given_sure : Sure (token_given ctx image a operation.Pull)
    unfolding token_given
    given_sure = resilient_next _ store_sure (λ u. step_sure)

    -- ---- documents and blobs

    document_sure : (url : Parts) (types : List ℕ) → Sure (document ctx image url types)
    unfolding document
    document_sure url types = resilient_next _ (prepared_sure Get url types) (λ request. resilient_next _ (whole_sure 10 s.max_body_bytes request) (λ got. sure_done _))

    manifest_document_sure : (types : List ℕ) → Sure (manifest_document ctx image types)
    unfolding manifest_document
    manifest_document_sure types = resilient_next _ (sure_done (url_read (manifest_text s image))) (λ url. document_sure url types)

    pub raw_sure : (types : List ℕ) → Sure (pull_manifest_raw ctx image a types)
    unfolding pull_manifest_raw
    raw_sure types = resilient_next _ store_sure (λ u. manifest_document_sure types)

    by_name : (url : Parts) (n : NamedAnswer) → Sure (digest_by ctx image url n)
    by_name url (ByHeader digest got) = resilient_next _ (sure_done (accepted 200 got.url got.answer)) (λ x. sure_done _)
    by_name url Unnamed = resilient_next _ (document_sure url manifest_types) (λ found. sure_done _)

    pub digest_sure : Sure (fetch_manifest_digest ctx image a)
    unfolding fetch_manifest_digest
    digest_sure =
        resilient_next _ store_sure (λ u. resilient_next _ (sure_done (url_read (manifest_text s image))) (λ url.
        resilient_next _ (prepared_sure Head url manifest_types) (λ request. resilient_next _ (named_sure request) (λ n. by_name url n))))

    pub manifest_sure : Sure (pull_manifest ctx image a)
    unfolding pull_manifest
    manifest_sure = resilient_next _ (raw_sure manifest_types) (λ found. resilient_next _ (sure_done (document_read found.0)) (λ d. sure_done _))

    pub blob_sure : (layer : Layer) → Sure (held_blob ctx image layer)
    unfolding blob_to
    blob_sure layer = resilient_next _ (sure_done (url_read (blob_text s image layer.digest))) (λ url. resilient_next _ (prepared_sure Get url manifest_types) (λ request. tried_sure layer.digest (places_of layer.urls) request))

    layers_sure : (xs : List OciDescriptor) (before : List ImageLayer) → Sure (pull_layers ctx image xs before)
    unfolding layers_by
    layers_sure [] before = sure_done _
    layers_sure (x ∷ xs) before = resilient_next _ (blob_sure (described x)) (λ content. layers_sure xs (before ++ layer_of x content ∷ []))

  pub entry_in_it : (image : Reference) (entry : List ℕ) → IsIn registry repository image → IsIn registry repository (entry_reference image entry)
  entry_in_it image entry in_it = record { registry_is = in_it.registry_is; repository_is = in_it.repository_is; no_mirror = in_it.no_mirror }

  by_document_sure : (image : Reference) → IsIn registry repository image → (document : OciManifest) (digest : List ℕ) → Sure (manifest_by ctx image a document digest)
  unfolding pull_entry
  by_document_sure image in_it (Image own) digest = sure_done _
  by_document_sure image in_it (ImageIndex index) digest = resilient_next _ (sure_done (entry_found s.platform_resolver index.manifests)) (λ entry.
      resilient_next _ (resilient_next _ (manifest_sure (entry_reference image entry) (entry_in_it image entry in_it)) (λ found. sure_done (entry_manifest entry found.0))) (λ m. sure_done _))

  pub pull_sure : (image : Reference) → IsIn registry repository image → (accepted : List (List ℕ)) → Sure (pull ctx image a accepted)
  unfolding pull pull_image_manifest_and_list_digest
  pull_sure image in_it accepted =
      resilient_next _ (resilient_next _ (manifest_sure image in_it) (λ found. by_document_sure image in_it found.0 found.1)) (λ found.
      resilient_next _ (blob_sure image in_it (described found.0.config)) (λ config.
      resilient_next _ (sure_done (layers_accepted accepted found.0.layers)) (λ u.
      resilient_next _ (layers_sure image in_it found.0.layers []) (λ layers. sure_done _))))

  -- ---- the referrers

  asked_for_sure : (image : Reference) → IsIn registry repository image → Sure (manifest_asked ctx image)
  unfolding manifest_asked
  asked_for_sure image in_it = resilient_next _ (manifest_document_sure image in_it manifest_types) (λ found. resilient_next _ (sure_done (document_read found.0)) (λ d. sure_done _))

  list_sure : (image : Reference) → IsIn registry repository image → (digest : List ℕ) (kind : Option (List ℕ)) → Sure (referrers_asked ctx image digest kind)
  unfolding referrers_asked
  list_sure image in_it digest kind = resilient_next _ (sure_done (referrers_url s image digest kind)) (λ url. resilient_next _ (prepared_sure image in_it Get url manifest_types) (λ request. whole_sure 10 s.max_body_bytes request))

  tagged_ends : (digest : List ℕ) (kind : Option (List ℕ)) (e : OciDistributionError) → IsFault e → EndsLost {K = AuthState} IsFault (Done (tagged_index digest kind (Err e)))
  tagged_ends digest kind e is = subst (λ (x : OciDistributionError). EndsLost {K = AuthState} IsFault (Done (tagged_index digest kind (Err x)))) (sym is) (record { error = refusal.TransportFault; is = refl; kind = refl })

  tag_sure : (image : Reference) → IsIn registry repository image → (digest : List ℕ) (kind : Option (List ℕ)) → Sure (referrers_tagged ctx image digest kind)
  unfolding referrers_tagged
  tag_sure image in_it digest kind = resilient_bind (λ r. Done (tagged_index digest kind r))
      (asked_for_sure (fallback_reference image digest) (record { registry_is = resolved_again image in_it.no_mirror ∙ in_it.registry_is; repository_is = in_it.repository_is; no_mirror = refl }))
      (λ r. sure_done (tagged_index digest kind r)) (tagged_ends digest kind)

  by_status : (b : Bool) (image : Reference) → IsIn registry repository image → (digest : List ℕ) (kind : Option (List ℕ)) (got : Got) → Sure (if b then referrers_tagged ctx image digest kind else Done (referrers_in got))
  by_status true image in_it digest kind got = tag_sure image in_it digest kind
  by_status false image in_it digest kind got = sure_done _

  pub referrers_sure : (image : Reference) → IsIn registry repository image → (kind : Option (List ℕ)) → Sure (pull_referrers ctx image kind)
  unfolding pull_referrers
  referrers_sure image in_it kind = resilient_next _ (sure_done (digest_given (digest_of image))) (λ digest. resilient_next _ (list_sure image in_it digest kind) (λ got. by_status (nat_eq got.answer.status 404) image in_it digest kind got))
