-- Why a call with an invalid header value was refused, for each call.
use Rattle.std.proofs.Common.{ℕ, Bool, true, false, List, [], ◌∷◌, ◌++◌, Option, Some, None, Result, Ok, Err, ◌⊎◌, inl, inr, codes, refl}
use Rattle.std.specs.Prelude.{if◌then◌else◌, bytes_eq}
use Rattle.url.specs.Parts.{Parts}
use Rattle.oci_transport.specs.Headers.{values_of}
use Rattle.oci_transport.specs.declared.message.Request.{Request}
use Rattle.oci_transport.specs.declared.message.Answer.{Answer}
use Rattle.oci_transport.specs.declared.message.AnswerHead.{AnswerHead}
use Rattle.oci_transport.specs.declared.message.Exchange.{Exchange}
use Rattle.oci_transport.specs.declared.message.Method.TheVariants.{Get, Head}
use Rattle.oci_names.specs.declared.reference.Reference.{Reference}
use Rattle.oci_names.specs.Reference.{digest_of}
use Rattle.oci_digests.specs.Names.{digest_text}
use Rattle.oci_digests.specs.Checks.{parts_of}
use Rattle.oci_digests.specs.declared.error.DigestError.TheVariants.{VerificationError}
use Rattle.oci_auth.specs.declared.auth.RegistryAuth.{RegistryAuth}
use Rattle.oci_auth.specs.declared.auth_state.AuthState.{AuthState}
use Rattle.oci_auth.specs.declared.token_type.RegistryOperation.TheVariants.{Pull}
use Rattle.oci_manifests.specs.declared.descriptor.OciDescriptor.{OciDescriptor}
use Rattle.oci_manifests.specs.declared.blob.ImageLayer.{ImageLayer}
use Rattle.oci_protocol.specs.Proto.{Reply, Headed, Answered, Failed, TooLong, SinkFailed, Done, read_within, ◌>>=◌}
use Rattle.oci_protocol.specs.Runs.{head_part}
use Rattle.oci_protocol.specs.Safe.{Safe}
use Rattle.engine_terms.specs.Contexts.{Context}
use Rattle.engine_terms.specs.declared.settings.Settings.{Settings}
use Rattle.engine_answers.specs.declared.answers.Got.{Got}
use Rattle.engine_answers.specs.declared.blobs.Expected.{Expected}
use Rattle.engine_answers.specs.declared.blobs.Plan.{Plan}
use Rattle.engine_answers.specs.declared.blobs.Plan.TheVariants as plan
use Rattle.engine_terms.specs.declared.error.GenericCause.TheVariants.{HeaderText}
use Rattle.engine_terms.specs.declared.error.OciDistributionError.{OciDistributionError}
use Rattle.engine_terms.specs.declared.error.OciDistributionError.TheVariants as refusal
use Rattle.engine_requests.specs.Addresses.{manifest_text, blob_text}
use Rattle.engine_answers.specs.Answers.{accepted, agreed, fits_reference, header_digest, document_in, is_error}
use Rattle.engine_answers.specs.Blobs.{plan_of, compared, given_compared, both_compared}
use Rattle.engine_answers.specs.Documents.{document_read}
use Rattle.engine_requests.specs.Requests.{manifest_types, request_of}
use Rattle.engine_requests.specs.Sources.{Layer, described, places_of, asked_at}
use Rattle.engine_requests.specs.declared.sources.Place.{Place}
use Rattle.engine_requests.specs.declared.sources.Place.TheVariants.{Web, Unfit}
use Rattle.engine_rows.specs.declared.named.NamedAnswer.{NamedAnswer}
use Rattle.engine_rows.specs.declared.named.NamedAnswer.TheVariants as named
use Rattle.engine_rows.specs.Rows.{Row, store, whole_reply, whole, named_reading, unread_named, read_named, named_reply, named_after, prepared}
use Rattle.engine_rows.specs.Blobs.{Destination, IntoMemory, blob_reading, unread_by, read_by, blob_reply, attempt}
use Rattle.engine_rows.specs.Offers.{offer_reading, offer_reply, offer, tried}
use Rattle.engine_rows.specs.Pulls.{document, digest_by, manifest_document, pull_manifest_raw, fetch_manifest_digest, pull_manifest, blob_to, held_blob}
use Rattle.engine_answers.specs.Index.{entry_found, entry_manifest, entry_reference, config_text}
use Rattle.engine_rows.specs.Manifests.{pull_entry, manifest_by, pull_image_manifest_and_list_digest, pull_image_manifest, pull_manifest_and_config_and_list_digest, pull_manifest_and_config}
use Rattle.engine_rows.specs.Image.{layers_accepted, layer_of, layers_by, pull_layers, pull}
use Rattle.oci_manifests.specs.declared.document.OciManifest.{OciManifest}
use Rattle.oci_manifests.specs.declared.document.OciManifest.TheVariants.{Image, ImageIndex}
use Rattle.request_laws.proofs.PlainRefusals.{Plain, into_plain, refused_plain, accepted_plain, digest_plain, found_plain, read_document_plain, meant_plain, entry_plain, config_plain, layers_plain}
use Rattle.engine_rows.specs.Held.{Entry, pulling}
use Rattle.request_laws.proofs.KeptTokens.{Keeps}
use Rattle.request_laws.proofs.SafeMore.{Safe-map}
use Rattle.request_laws.proofs.RequestConfinement.{Sent, each_more}
use Rattle.engine_rows.specs.Confined.{ToRegistry, ToRealm, MayCarry}
use Rattle.request_laws.proofs.ShownTokens.{Carries, HeaderCause, Ended, Ready, request_ready, safe_done, safe_next, safe_ready, safe_follow, prepared_safe, store_safe, plain_step, plain_last, url_first}

-- the protocol is safe, and its refusals have their causes
abbrev pub Sound : Entry → Settings → List ℕ → {A : Type 0} → AuthState → List Exchange → Row A → Type 0
Sound x s types l c p = Safe (Carries x s) (Keeps x) (Ended x s types) l c p

-- ---- ways to send a request

pub whole_sound : (x : Entry) (s : Settings) (types : List ℕ) (n : ℕ) (request : Request) (limit : ℕ) (l : AuthState) (c : List Exchange) → Sent x s c request → Keeps x l c → Sound x s types l c (whole n request limit)
unfolding whole
whole_sound x s types n request limit l c sent keeps = safe_follow x s (Ended x s types) n request (read_within limit) whole_reply l c sent keeps (λ last d e before after other reply h replies. by_reply last reply (d ++ e ∷ []) h) where
  by_reply : (last : Request) (reply : Reply) (d : List Exchange) → Keeps x l d → Sound x s types l d (whole_reply last reply)
  by_reply last (Headed head) d h = safe_done x s (Ended x s types) l d _ h
  by_reply last (Answered answer) d h = safe_done x s (Ended x s types) l d _ h
  by_reply last Failed d h = safe_done x s (Ended x s types) l d (Err refusal.TransportFault) tt
  by_reply last TooLong d h = safe_done x s (Ended x s types) l d (Err refusal.BodyTooLong) tt
  by_reply last SinkFailed d h = safe_done x s (Ended x s types) l d (Err refusal.SinkFault) tt

unread_plain : (d : Result (Option (List ℕ)) OciDistributionError) → Plain d → Plain (unread_named d)
unread_plain (Ok digest) plain = tt
unread_plain (Err e) plain = plain

read_plain : (got : Got) (d : Result (Option (List ℕ)) OciDistributionError) → Plain d → Plain (read_named got d)
read_plain got (Ok (Some digest)) plain = tt
read_plain got (Ok None) plain = tt
read_plain got (Err e) plain = plain

named_sound : (x : Entry) (s : Settings) (types : List ℕ) (n : ℕ) (request : Request) (limit : ℕ) (l : AuthState) (c : List Exchange) → Sent x s c request → Keeps x l c → Sound x s types l c (named_after n request limit)
unfolding named_after
named_sound x s types n request limit l c sent keeps = safe_follow x s (Ended x s types) n request (named_reading limit) named_reply l c sent keeps (λ last d e before after other reply h replies. by_reply last reply (d ++ e ∷ []) h) where
  by_reply : (last : Request) (reply : Reply) (d : List Exchange) → Keeps x l d → Sound x s types l d (named_reply last reply)
  by_reply last (Headed head) d h = plain_last x s types (unread_named (header_digest head.headers)) l d (unread_plain (header_digest head.headers) (digest_plain _)) h
  by_reply last (Answered answer) d h = plain_last x s types (read_named (record { url = last.url; answer = answer }) (header_digest answer.headers)) l d (read_plain (record { url = last.url; answer = answer }) (header_digest answer.headers) (digest_plain _)) h
  by_reply last Failed d h = safe_done x s (Ended x s types) l d (Err refusal.TransportFault) tt
  by_reply last TooLong d h = safe_done x s (Ended x s types) l d (Err refusal.BodyTooLong) tt
  by_reply last SinkFailed d h = safe_done x s (Ended x s types) l d (Err refusal.SinkFault) tt

compared_plain : (x : Expected) (body : List ℕ) → Plain (compared x body)
compared_plain x body = by_test (bytes_eq x.text (digest_text x.algorithm body)) where
  by_test : (b : Bool) → Plain {A = Unit {0}} (if b then Ok tt else Err (refusal.DigestError (VerificationError x.text (digest_text x.algorithm body))))
  by_test true = tt
  by_test false = tt

given_plain : (given : Option Expected) (body : List ℕ) → Plain (given_compared given body)
given_plain None body = tt
given_plain (Some x) body = compared_plain x body

unread_blob : (p : Plan) → Plain (unread_by p)
unread_blob (plan.Refuse e) = tt
unread_blob plan.Judge = tt
unread_blob (plan.Pour given own) = tt

read_blob : (url : List ℕ) (answer : Answer) (p : Plan) → Plain (read_by url answer p)
read_blob url answer (plan.Refuse e) = tt
read_blob url answer plan.Judge = refused_plain url answer
read_blob url answer (plan.Pour given own) = into_plain (both_compared given own answer.body) _ (into_plain (given_compared given answer.body) _ (given_plain given answer.body) (λ u. compared_plain own answer.body)) (λ u. tt)

-- what is computed from the reply to an attempt
reply_sound : (x : Entry) (s : Settings) (types : List ℕ) (digest : List ℕ) (l : AuthState) (last : Request) (reply : Reply) (d : List Exchange) → Keeps x l d → Sound x s types l d (blob_reply digest last reply)
reply_sound x s types digest l last (Headed head) d h = plain_last x s types (unread_by (plan_of digest head)) l d (unread_blob (plan_of digest head)) h
reply_sound x s types digest l last (Answered answer) d h = plain_last x s types (read_by last.url answer (plan_of digest (head_part answer))) l d (read_blob last.url answer (plan_of digest (head_part answer))) h
reply_sound x s types digest l last Failed d h = safe_done x s (Ended x s types) l d (Err refusal.TransportFault) tt
reply_sound x s types digest l last TooLong d h = safe_done x s (Ended x s types) l d (Err refusal.BodyTooLong) tt
reply_sound x s types digest l last SinkFailed d h = safe_done x s (Ended x s types) l d (Err refusal.SinkFault) tt

attempt_sound : (to : Destination) (x : Entry) (s : Settings) (types : List ℕ) (limit : ℕ) (digest : List ℕ) (request : Request) (l : AuthState) (c : List Exchange) → Sent x s c request → Keeps x l c → Sound x s types l c (attempt to limit digest request)
unfolding attempt
attempt_sound to x s types limit digest request l c sent keeps = safe_follow x s (Ended x s types) 10 request (blob_reading to limit digest) (blob_reply digest) l c sent keeps (λ last d e before after other reply h replies. reply_sound x s types digest l last reply (d ++ e ∷ []) h)

-- what comes next may follow any exchanges
headed_sound : (x : Entry) (s : Settings) (types : List ℕ) (digest : List ℕ) (next : Row (List ℕ)) (l : AuthState) (last : Request) (head : AnswerHead) (d : List Exchange) (b : Bool) → Sound x s types l d next → Keeps x l d → Sound x s types l d (if b then next else blob_reply digest last (Headed head))
headed_sound x s types digest next l last head d true rest h = rest
headed_sound x s types digest next l last head d false rest h = reply_sound x s types digest l last (Headed head) d h

offer_sound : (to : Destination) (x : Entry) (s : Settings) (types : List ℕ) (limit : ℕ) (digest : List ℕ) (next : Row (List ℕ)) (request : Request) (l : AuthState) (c : List Exchange) → Sent x s c request → Keeps x l c → ((d : List Exchange) → Keeps x l d → Sound x s types l d next) → Sound x s types l c (offer to limit digest next request)
unfolding offer
offer_sound to x s types limit digest next request l c sent keeps rest = safe_follow x s (Ended x s types) 10 request (offer_reading to limit digest) (offer_reply digest next) l c sent keeps (λ last d e before after other reply h replies. by_reply last reply (d ++ e ∷ []) h) where
  by_reply : (last : Request) (reply : Reply) (d : List Exchange) → Keeps x l d → Sound x s types l d (offer_reply digest next last reply)
  by_reply last (Headed head) d h = headed_sound x s types digest next l last head d (is_error head.status) (rest d h) h
  by_reply last (Answered answer) d h = reply_sound x s types digest l last (Answered answer) d h
  by_reply last Failed d h = reply_sound x s types digest l last Failed d h
  by_reply last TooLong d h = reply_sound x s types digest l last TooLong d h
  by_reply last SinkFailed d h = reply_sound x s types digest l last SinkFailed d h

-- a request at a listed URL, which contains no token
pub place_ready : (x : Entry) (s : Settings) (p : Place) (l : AuthState) (c : List Exchange) → Keeps x l c → Ready x s manifest_types l c (asked_at s p)
unfolding asked_at
place_ready x s (Web url) l c keeps = request_ready x s Get url manifest_types None l c keeps tt (request_of s Get url (Some manifest_types) None) refl
place_ready x s (Unfit text) l c keeps = tt

tried_sound : (to : Destination) (x : Entry) (s : Settings) (digest : List ℕ) (places : List Place) (request : Request) (l : AuthState) (c : List Exchange) → Sent x s c request → Keeps x l c → Sound x s manifest_types l c (tried to s digest places request)
unfolding tried
tried_sound to x s digest [] request l c sent keeps = attempt_sound to x s manifest_types s.max_body_bytes digest request l c sent keeps
tried_sound to x s digest (p ∷ ps) request l c sent keeps = offer_sound to x s manifest_types s.max_body_bytes digest (Done (asked_at s p) >>= (λ next. tried to s digest ps next)) request l c sent keeps
    (λ d keeps. safe_ready x s manifest_types (Done (asked_at s p)) (λ next. tried to s digest ps next) l d (safe_done x s (Ready x s manifest_types) l d (asked_at s p) (place_ready x s p l d keeps)) (λ l d next keeps sent. tried_sound to x s digest ps next l d sent keeps))

-- ---- calls

pub document_sound : (s : Context) (image : Reference) (k : AuthState) (handed : Option RegistryAuth) (url : Parts) (types : List ℕ) (l : AuthState) (c : List Exchange) → Keeps (pulling k s image handed) l c → Sound (pulling k s image handed) s.settings types l c (document s image url types)
unfolding document
document_sound s image k handed url types l c keeps =
    let x = pulling k s image handed in
    safe_ready x s.settings types (prepared s image Pull Get url types) _ l c (prepared_safe x s.settings Get url types l c keeps) (λ l c request keeps sent.
    safe_next x s.settings types (whole 10 request s.settings.max_body_bytes) _ l c (whole_sound x s.settings types 10 request s.settings.max_body_bytes l c sent keeps) (λ l c got keeps.
    plain_last x s.settings types (document_in image got) l c (found_plain image got) keeps))

pub raw_sound : (s : Context) (image : Reference) (a : RegistryAuth) (types : List ℕ) (k l : AuthState) (c : List Exchange) → Keeps (pulling k s image (Some a)) l c → Sound (pulling k s image (Some a)) s.settings types l c (pull_manifest_raw s image a types)
unfolding pull_manifest_raw manifest_document
raw_sound s image a types k l c keeps =
    let x = pulling k s image (Some a) in
    safe_next x s.settings types (store image a) _ l c (store_safe x s.settings types a l c refl keeps) (λ l c u keeps.
    url_first x s.settings types (manifest_text s.settings image) _ l c (λ url. document_sound s image k (Some a) url types l c keeps))

agreed_plain : (digest own : List ℕ) (o : Option (List ℕ)) → Plain (fits_reference digest o)
agreed_plain digest own None = tt
agreed_plain digest own (Some text) = digest_plain (agreed digest text (parts_of digest) (parts_of text))

by_sound : (s : Context) (image : Reference) (k : AuthState) (handed : Option RegistryAuth) (url : Parts) (n : NamedAnswer) (l : AuthState) (c : List Exchange) → Keeps (pulling k s image handed) l c → Sound (pulling k s image handed) s.settings manifest_types l c (digest_by s image url n)
by_sound s image k handed url (named.ByHeader digest got) l c keeps =
    let x = pulling k s image handed in
    plain_step x s.settings manifest_types (accepted 200 got.url got.answer) _ l c (accepted_plain got.url got.answer) (λ answer is. plain_last x s.settings manifest_types (fits_reference digest (digest_of image)) l c (agreed_plain digest digest (digest_of image)) keeps)
by_sound s image k handed url named.Unnamed l c keeps =
    let x = pulling k s image handed in
    safe_next x s.settings manifest_types (document s image url manifest_types) _ l c (document_sound s image k handed url manifest_types l c keeps) (λ l c found keeps. plain_last x s.settings manifest_types (Ok found.1) l c tt keeps)

pub digest_sound : (s : Context) (image : Reference) (a : RegistryAuth) (k l : AuthState) (c : List Exchange) → Keeps (pulling k s image (Some a)) l c → Sound (pulling k s image (Some a)) s.settings manifest_types l c (fetch_manifest_digest s image a)
unfolding fetch_manifest_digest
digest_sound s image a k l c keeps =
    let x = pulling k s image (Some a) in
    safe_next x s.settings manifest_types (store image a) _ l c (store_safe x s.settings manifest_types a l c refl keeps) (λ l c u keeps.
    url_first x s.settings manifest_types (manifest_text s.settings image) _ l c (λ url.
    safe_ready x s.settings manifest_types (prepared s image Pull Head url manifest_types) _ l c (prepared_safe x s.settings Head url manifest_types l c keeps) (λ l c request keeps sent.
    safe_next x s.settings manifest_types (named_after 10 request s.settings.max_body_bytes) _ l c (named_sound x s.settings manifest_types 10 request s.settings.max_body_bytes l c sent keeps) (λ l c n keeps. by_sound s image k (Some a) url n l c keeps))))

pub manifest_sound : (s : Context) (image : Reference) (a : RegistryAuth) (k l : AuthState) (c : List Exchange) → Keeps (pulling k s image (Some a)) l c → Sound (pulling k s image (Some a)) s.settings manifest_types l c (pull_manifest s image a)
unfolding pull_manifest
manifest_sound s image a k l c keeps =
    let x = pulling k s image (Some a) in
    safe_next x s.settings manifest_types (pull_manifest_raw s image a manifest_types) _ l c (raw_sound s image a manifest_types k l c keeps) (λ l c found keeps.
    plain_step x s.settings manifest_types (document_read found.0) _ l c (read_document_plain found.0) (λ document is. plain_last x s.settings manifest_types (Ok (document, found.1)) l c tt keeps))

pub blob_sound : (to : Destination) (s : Context) (image : Reference) (layer : Layer) (k : AuthState) (handed : Option RegistryAuth) (l : AuthState) (c : List Exchange) → Keeps (pulling k s image handed) l c → Sound (pulling k s image handed) s.settings manifest_types l c (blob_to to s image layer)
unfolding blob_to
blob_sound to s image layer k handed l c keeps =
    let x = pulling k s image handed in
    url_first x s.settings manifest_types (blob_text s.settings image layer.digest) _ l c (λ url.
    safe_ready x s.settings manifest_types (prepared s image Pull Get url manifest_types) _ l c (prepared_safe x s.settings Get url manifest_types l c keeps) (λ l c request keeps sent.
    tried_sound to x s.settings layer.digest (places_of layer.urls) request l c sent keeps))

layers_sound : (s : Context) (image : Reference) (xs : List OciDescriptor) (layers : List ImageLayer) (k : AuthState) (handed : Option RegistryAuth) (l : AuthState) (c : List Exchange) → Keeps (pulling k s image handed) l c → Sound (pulling k s image handed) s.settings manifest_types l c (pull_layers s image xs layers)
unfolding layers_by
layers_sound s image [] layers k handed l c keeps = plain_last (pulling k s image handed) s.settings manifest_types (Ok layers) l c tt keeps
layers_sound s image (x ∷ xs) layers k handed l c keeps = safe_next (pulling k s image handed) s.settings manifest_types (held_blob s image (described x)) _ l c (blob_sound IntoMemory s image (described x) k handed l c keeps) (λ l c content keeps. layers_sound s image xs (layers ++ layer_of x content ∷ []) k handed l c keeps)

-- ---- the document of an index's entry, in the image's repository

same_keeps : (k : AuthState) (s : Context) (image : Reference) (digest : List ℕ) (handed : Option RegistryAuth) (l : AuthState) (c : List Exchange) → Keeps (pulling k s (entry_reference image digest) handed) l c → Keeps (pulling k s image handed) l c
same_keeps k s image digest handed l c h = record { credentials = λ a is. h.credentials a is; tokens = λ token is. h.tokens token is; added = λ key moment token is. h.added key moment token is; stored = λ registry a is. h.stored registry a is }

other_keeps : (k : AuthState) (s : Context) (image : Reference) (digest : List ℕ) (handed : Option RegistryAuth) (l : AuthState) (c : List Exchange) → Keeps (pulling k s image handed) l c → Keeps (pulling k s (entry_reference image digest) handed) l c
other_keeps k s image digest handed l c h = record { credentials = λ a is. h.credentials a is; tokens = λ token is. h.tokens token is; added = λ key moment token is. h.added key moment token is; stored = λ registry a is. h.stored registry a is }

same_cause : (k : AuthState) (s : Context) (image : Reference) (digest : List ℕ) (handed : Option RegistryAuth) (types : List ℕ) (c : List Exchange) (e : OciDistributionError) → HeaderCause (pulling k s (entry_reference image digest) handed) s.settings types c e → HeaderCause (pulling k s image handed) s.settings types c e
same_cause k s image digest handed types c (refusal.GenericError HeaderText) h = h
same_cause k s image digest handed types c _ h = tt

same_ended : {A : Type 0} (k : AuthState) (s : Context) (image : Reference) (digest : List ℕ) (handed : Option RegistryAuth) (types : List ℕ) (l : AuthState) (c : List Exchange) (r : Result A OciDistributionError) → Ended (pulling k s (entry_reference image digest) handed) s.settings types l c r → Ended (pulling k s image handed) s.settings types l c r
same_ended k s image digest handed types l c (Ok a) h = same_keeps k s image digest handed l c h
same_ended k s image digest handed types l c (Err e) h = same_cause k s image digest handed types c e h

same_value : (k : AuthState) (s : Context) (image : Reference) (digest : List ℕ) (handed : Option RegistryAuth) (c : List Exchange) (request : Request) (value : List ℕ) → MayCarry (pulling k s (entry_reference image digest) handed) s.settings c request value → MayCarry (pulling k s image handed) s.settings c request value
same_value k s image digest handed c request value h = record { goes = same_goes h.goes; token = h.token; held = h.held; value_is = h.value_is } where
  same_goes : ToRegistry s.settings (entry_reference image digest) request ⊎ ToRealm s.settings (entry_reference image digest) Pull c request → ToRegistry s.settings image request ⊎ ToRealm s.settings image Pull c request
  same_goes (inl g) = inl (record { registry = g.registry; url = g.url; registry_is = g.registry_is; url_is = g.url_is; goes = g.goes })
  same_goes (inr g) = inr (record { before = g.before; exchange = g.exchange; split = g.split; base = g.base; base_is = g.base_is; asked_by = g.asked_by; asked = g.asked; answer = g.answer; answered = g.answered; challenge = g.challenge; names = g.names; realm = g.realm; realm_is = g.realm_is; by_get = g.by_get; asks = g.asks })

same_carries : (k : AuthState) (s : Context) (image : Reference) (digest : List ℕ) (handed : Option RegistryAuth) (l : AuthState) (c : List Exchange) (request : Request) → Carries (pulling k s (entry_reference image digest) handed) s.settings l c request → Carries (pulling k s image handed) s.settings l c request
same_carries k s image digest handed l c request h = each_more (MayCarry (pulling k s (entry_reference image digest) handed) s.settings c request) (MayCarry (pulling k s image handed) s.settings c request) (values_of (codes "authorization") request.headers) (λ value at. same_value k s image digest handed c request value at) h

-- it is requested as the image is
as_image : {A : Type 0} (k : AuthState) (s : Context) (image : Reference) (digest : List ℕ) (handed : Option RegistryAuth) (types : List ℕ) (l : AuthState) (c : List Exchange) (p : Row A) → Sound (pulling k s (entry_reference image digest) handed) s.settings types l c p → Sound (pulling k s image handed) s.settings types l c p
as_image k s image digest handed types l c p h = Safe-map (Carries (pulling k s (entry_reference image digest) handed) s.settings) (Carries (pulling k s image handed) s.settings) (Keeps (pulling k s (entry_reference image digest) handed)) (Keeps (pulling k s image handed)) (Ended (pulling k s (entry_reference image digest) handed) s.settings types) (Ended (pulling k s image handed) s.settings types) p (same_carries k s image digest handed) (same_keeps k s image digest handed) (same_ended k s image digest handed types) l c h

entry_sound : (s : Context) (image : Reference) (a : RegistryAuth) (digest : List ℕ) (k l : AuthState) (c : List Exchange) → Keeps (pulling k s image (Some a)) l c → Sound (pulling k s image (Some a)) s.settings manifest_types l c (pull_entry s image a digest)
unfolding pull_entry
entry_sound s image a digest k l c keeps =
    let x = pulling k s image (Some a) in
    safe_next x s.settings manifest_types (pull_manifest s (entry_reference image digest) a) _ l c (as_image k s image digest (Some a) manifest_types l c (pull_manifest s (entry_reference image digest) a) (manifest_sound s (entry_reference image digest) a k l c (other_keeps k s image digest (Some a) l c keeps))) (λ l c found keeps.
    plain_last x s.settings manifest_types (entry_manifest digest found.0) l c (entry_plain digest found.0) keeps)

document_by_sound : (s : Context) (image : Reference) (a : RegistryAuth) (document : OciManifest) (digest : List ℕ) (k l : AuthState) (c : List Exchange) → Keeps (pulling k s image (Some a)) l c → Sound (pulling k s image (Some a)) s.settings manifest_types l c (manifest_by s image a document digest)
document_by_sound s image a (Image manifest) digest k l c keeps = plain_last (pulling k s image (Some a)) s.settings manifest_types (Ok (manifest, digest, None)) l c tt keeps
document_by_sound s image a (ImageIndex index) digest k l c keeps =
    let x = pulling k s image (Some a) in
    plain_step x s.settings manifest_types (entry_found s.settings.platform_resolver index.manifests) _ l c (meant_plain s.settings.platform_resolver index.manifests) (λ entry is.
    safe_next x s.settings manifest_types (pull_entry s image a entry) _ l c (entry_sound s image a entry k l c keeps) (λ l c manifest keeps. plain_last x s.settings manifest_types (Ok (manifest, entry, Some digest)) l c tt keeps))

pub found_sound : (s : Context) (image : Reference) (a : RegistryAuth) (k l : AuthState) (c : List Exchange) → Keeps (pulling k s image (Some a)) l c → Sound (pulling k s image (Some a)) s.settings manifest_types l c (pull_image_manifest_and_list_digest s image a)
unfolding pull_image_manifest_and_list_digest
found_sound s image a k l c keeps =
    let x = pulling k s image (Some a) in
    safe_next x s.settings manifest_types (pull_manifest s image a) _ l c (manifest_sound s image a k l c keeps) (λ l c found keeps. document_by_sound s image a found.0 found.1 k l c keeps)

pub one_sound : (s : Context) (image : Reference) (a : RegistryAuth) (k l : AuthState) (c : List Exchange) → Keeps (pulling k s image (Some a)) l c → Sound (pulling k s image (Some a)) s.settings manifest_types l c (pull_image_manifest s image a)
unfolding pull_image_manifest
one_sound s image a k l c keeps =
    let x = pulling k s image (Some a) in
    safe_next x s.settings manifest_types (pull_image_manifest_and_list_digest s image a) _ l c (found_sound s image a k l c keeps) (λ l c found keeps. plain_last x s.settings manifest_types (Ok (found.0, found.1)) l c tt keeps)

pub config_sound : (s : Context) (image : Reference) (a : RegistryAuth) (k l : AuthState) (c : List Exchange) → Keeps (pulling k s image (Some a)) l c → Sound (pulling k s image (Some a)) s.settings manifest_types l c (pull_manifest_and_config_and_list_digest s image a)
unfolding pull_manifest_and_config_and_list_digest
config_sound s image a k l c keeps =
    let x = pulling k s image (Some a) in
    safe_next x s.settings manifest_types (pull_image_manifest_and_list_digest s image a) _ l c (found_sound s image a k l c keeps) (λ l c found keeps.
    safe_next x s.settings manifest_types (held_blob s image (described found.0.config)) _ l c (blob_sound IntoMemory s image (described found.0.config) k (Some a) l c keeps) (λ l c content keeps.
    plain_step x s.settings manifest_types (config_text content) _ l c (config_plain content) (λ config is. plain_last x s.settings manifest_types (Ok _) l c tt keeps)))

pub text_sound : (s : Context) (image : Reference) (a : RegistryAuth) (k l : AuthState) (c : List Exchange) → Keeps (pulling k s image (Some a)) l c → Sound (pulling k s image (Some a)) s.settings manifest_types l c (pull_manifest_and_config s image a)
unfolding pull_manifest_and_config
text_sound s image a k l c keeps =
    let x = pulling k s image (Some a) in
    safe_next x s.settings manifest_types (pull_manifest_and_config_and_list_digest s image a) _ l c (config_sound s image a k l c keeps) (λ l c found keeps. plain_last x s.settings manifest_types (Ok (found.0, found.1, found.2)) l c tt keeps)

pub image_sound : (s : Context) (image : Reference) (a : RegistryAuth) (accepted : List (List ℕ)) (k l : AuthState) (c : List Exchange) → Keeps (pulling k s image (Some a)) l c → Sound (pulling k s image (Some a)) s.settings manifest_types l c (pull s image a accepted)
unfolding pull
image_sound s image a accepted k l c keeps =
    let x = pulling k s image (Some a) in
    safe_next x s.settings manifest_types (pull_image_manifest_and_list_digest s image a) _ l c (found_sound s image a k l c keeps) (λ l c found keeps.
    safe_next x s.settings manifest_types (held_blob s image (described found.0.config)) _ l c (blob_sound IntoMemory s image (described found.0.config) k (Some a) l c keeps) (λ l c config keeps.
    plain_step x s.settings manifest_types (layers_accepted accepted found.0.layers) _ l c (layers_plain accepted found.0.layers) (λ u is.
    safe_next x s.settings manifest_types (pull_layers s image found.0.layers []) _ l c (layers_sound s image found.0.layers [] k (Some a) l c keeps) (λ l c layers keeps. plain_last x s.settings manifest_types (Ok _) l c tt keeps))))
