-- Where credentials and tokens go in a pull of blobs: only to the image's registry and to the realm that it names.
use Rattle.std.proofs.Common.{◌≡◌, ℕ, Bool, true, false, List, [], ◌∷◌, ◌++◌, Option, Some, None, Result, Ok, Err, refl, sym, ap, subst, ◌∙◌, append_assoc, append-nil}
use Rattle.std.specs.Prelude.{if◌then◌else◌, bytes_eq}
use Rattle.url.specs.Parts.{Parts, serialize}
use Rattle.oci_transport.specs.Link.{Link}
use Rattle.oci_transport.specs.Urls.{request_url, targets}
use Rattle.oci_transport.specs.declared.message.Request.{Request}
use Rattle.oci_transport.specs.declared.message.Answer.{Answer}
use Rattle.oci_transport.specs.declared.message.AnswerHead.{AnswerHead}
use Rattle.oci_transport.specs.declared.message.Exchange.{Exchange}
use Rattle.oci_transport.specs.declared.message.Method.TheVariants.{Get}
use Rattle.oci_names.specs.declared.reference.Reference.{Reference}
use Rattle.oci_digests.specs.Names.{digest_text}
use Rattle.oci_digests.specs.declared.error.DigestError.TheVariants.{VerificationError}
use Rattle.oci_auth.specs.declared.auth_state.AuthState.{AuthState}
use Rattle.oci_auth.specs.declared.token_type.RegistryOperation.TheVariants.{Pull}
use Rattle.oci_auth.specs.declared.token_type.RegistryTokenType.{RegistryTokenType}
use Rattle.oci_manifests.specs.declared.descriptor.OciDescriptor.{OciDescriptor}
use Rattle.oci_protocol.specs.Proto.{Proto, Reply, Headed, Answered, Failed, TooLong, SinkFailed, Done, Ask, Recall, Keep, Consult, unless_refused, ◌>>=◌, ◌>>◌}
use Rattle.oci_protocol.specs.Runs.{head_part, Meets, Told}
use Rattle.oci_protocol.specs.Safe.{Safe}
use Rattle.oci_protocol.proofs.Safety.{Safe-bind}
use Rattle.engine_terms.specs.Contexts.{Context}
use Rattle.engine_terms.specs.Error.{is_memory}
use Rattle.engine_terms.specs.declared.settings.Settings.{Settings}
use Rattle.engine_terms.specs.declared.error.OciDistributionError.{OciDistributionError}
use Rattle.engine_terms.specs.declared.error.OciDistributionError.TheVariants as refusal
use Rattle.engine_answers.specs.Blobs.{plan_of, compared, given_compared, both_compared}
use Rattle.engine_answers.specs.declared.blobs.Expected.{Expected}
use Rattle.engine_answers.specs.declared.blobs.Plan.{Plan}
use Rattle.engine_answers.specs.declared.blobs.Plan.TheVariants as plan
use Rattle.engine_requests.specs.Addresses.{registry_text, blob_text}
use Rattle.engine_requests.specs.Requests.{manifest_types, request_of}
use Rattle.engine_requests.specs.Sources.{described, places_of, asked_at}
use Rattle.engine_requests.specs.declared.sources.Place.{Place}
use Rattle.engine_rows.specs.Rows.{Row, goes_to, authorized}
use Rattle.engine_rows.specs.Blobs.{unread_by, read_by, blob_reply}
use Rattle.engine_rows.specs.Confined.{Within}
use Rattle.engine_rows.specs.Held.{Entry, pulling}
use Rattle.request_laws.proofs.PlainRefusals.{Plain, into_plain, refused_plain}
use Rattle.request_laws.proofs.KeptTokens.{Keeps, keeps_first, held_more}
use Rattle.request_laws.proofs.RequestConfinement.{Sent}
use Rattle.request_laws.proofs.ShownTokens.{Carries, Ended, Ready, MayShow, MayShowAt, GoesTo, AuthorizedAt, shown_at, request_ready, safe_done, safe_next, safe_ready, safe_follow, authorized_safe, plain_last, url_first, url_safe}
use Rattle.request_laws.proofs.HeaderCauses.{Sound, place_ready}
use Rattle.request_laws.proofs.CallConfinement.{call_within}
use Rattle.call_laws.specs.Cut.{instead, or_row, cut_reading, cut_reply, cut, cut_at, size_of}
use Rattle.call_laws.specs.Blobs.{sent_token, blob_with, going_on, sinks_asked, kept_blob, each_blob, pull_blobs}

-- ---- what follows continues the exchanges so far

abbrev Since : List Exchange → List Exchange → Type 0
Since start c = (more : List Exchange) × (c ≡ start ++ more)

Safe-since : {K A : Type 0} (P : K → List Exchange → Request → Type 0) (I : K → List Exchange → Type 0) (Q : K → List Exchange → A → Type 0) (p : Proto K A) (k : K) (start seen : List Exchange) → Since start seen → Safe P I Q k seen p → Safe P I (λ l c a. Q l c a × Since start c) k seen p
unfolding Safe
Safe-since P I Q (Done a) k start seen since h = (h, since)
Safe-since P I Q (Ask request reading next) k start seen since h = (h.0, λ e before after reply r. Safe-since P I Q (next reply) k start (seen ++ e ∷ []) (since.0 ++ e ∷ [], ap (λ (c : List Exchange). c ++ e ∷ []) since.1 ∙ append_assoc start since.0 (e ∷ [])) (h.1 e before after reply r))
Safe-since P I Q (Recall next) k start seen since h = Safe-since P I Q (next k) k start seen since h
Safe-since P I Q (Keep kept rest) k start seen since h = (h.0, Safe-since P I Q rest kept start seen since h.1)
Safe-since P I Q (Consult next) k start seen since h = λ said. Safe-since P I Q (next said) k start seen since (h said)

-- ---- one request

compared_plain : (x : Expected) (body : List ℕ) → Plain (compared x body)
compared_plain x body = by_test (bytes_eq x.text (digest_text x.algorithm body)) where
  by_test : (b : Bool) → Plain {A = Unit {0}} (if b then Ok tt else Err (refusal.DigestError (VerificationError x.text (digest_text x.algorithm body))))
  by_test true = tt
  by_test false = tt

given_plain : (given : Option Expected) (body : List ℕ) → Plain (given_compared given body)
given_plain None body = tt
given_plain (Some x) body = compared_plain x body

unread_plain : (p : Plan) → Plain (unread_by p)
unread_plain (plan.Refuse e) = tt
unread_plain plan.Judge = tt
unread_plain (plan.Pour given own) = tt

read_plain : (url : List ℕ) (answer : Answer) (p : Plan) → Plain (read_by url answer p)
read_plain url answer (plan.Refuse e) = tt
read_plain url answer plan.Judge = refused_plain url answer
read_plain url answer (plan.Pour given own) = into_plain (both_compared given own answer.body) _ (into_plain (given_compared given answer.body) _ (given_plain given answer.body) (λ u. compared_plain own answer.body)) (λ u. tt)

module _ (x : Entry) (s : Settings) (digest : List ℕ) where
  reply_sound : (l : AuthState) (last : Request) (reply : Reply) (d : List Exchange) → Keeps x l d → Sound x s manifest_types l d (blob_reply digest last reply)
  reply_sound l last (Headed head) d h = plain_last x s manifest_types (unread_by (plan_of digest head)) l d (unread_plain (plan_of digest head)) h
  reply_sound l last (Answered answer) d h = plain_last x s manifest_types (read_by last.url answer (plan_of digest (head_part answer))) l d (read_plain last.url answer (plan_of digest (head_part answer))) h
  reply_sound l last Failed d h = safe_done x s (Ended x s manifest_types) l d (Err refusal.TransportFault) tt
  reply_sound l last TooLong d h = safe_done x s (Ended x s manifest_types) l d (Err refusal.BodyTooLong) tt
  reply_sound l last SinkFailed d h = safe_done x s (Ended x s manifest_types) l d (Err refusal.SinkFault) tt

  headed_sound : (next o : Option (Row (List ℕ))) (l : AuthState) (last : Request) (head : AnswerHead) (d : List Exchange) → instead next head ≡ o → ((p : Row (List ℕ)) → instead next head ≡ Some p → Sound x s manifest_types l d p) → Keeps x l d → Sound x s manifest_types l d (or_row o (blob_reply digest last (Headed head)))
  headed_sound next (Some p) l last head d is rest h = rest p is
  headed_sound next None l last head d is rest h = reply_sound l last (Headed head) d h

  cut_sound : (size : ℕ) (next : Option (Row (List ℕ))) (request : Request) (l : AuthState) (c : List Exchange) → Sent x s c request → Keeps x l c → ((head : AnswerHead) (p : Row (List ℕ)) → instead next head ≡ Some p → (d : List Exchange) → Keeps x l d → Sound x s manifest_types l d p) → Sound x s manifest_types l c (cut s size digest next request)
  unfolding cut
  cut_sound size next request l c sent keeps rest = safe_follow x s (Ended x s manifest_types) 10 request (cut_reading s size digest next) (cut_reply digest next) l c sent keeps (λ last d e before after other reply h replies. by_reply last reply (d ++ e ∷ []) h) where
    by_reply : (last : Request) (reply : Reply) (d : List Exchange) → Keeps x l d → Sound x s manifest_types l d (cut_reply digest next last reply)
    by_reply last (Headed head) d h = headed_sound next (instead next head) l last head d refl (λ p is. rest head p is d h) h
    by_reply last (Answered answer) d h = reply_sound l last (Answered answer) d h
    by_reply last Failed d h = reply_sound l last Failed d h
    by_reply last TooLong d h = reply_sound l last TooLong d h
    by_reply last SinkFailed d h = reply_sound l last SinkFailed d h

  no_row : {P : Type 0} (head : AnswerHead) (p : Row (List ℕ)) → instead None head ≡ Some p → P
  no_row head p is = absurd (cc is)

  that_row : (q p : Row (List ℕ)) (b : Bool) → (if b then Some q else None) ≡ Some p → q ≡ p
  that_row q p true is = cc is
  that_row q p false is = absurd (cc is)

  cut_at_sound : (size : ℕ) (places : List Place) (request : Request) (l : AuthState) (c : List Exchange) → Sent x s c request → Keeps x l c → Sound x s manifest_types l c (cut_at s size digest places request)
  unfolding cut_at
  cut_at_sound size [] request l c sent keeps = cut_sound size None request l c sent keeps (λ head p is. no_row head p is)
  cut_at_sound size (p ∷ ps) request l c sent keeps = cut_sound size (Some (Done (asked_at s p) >>= (λ next. cut_at s size digest ps next))) request l c sent keeps
      (λ head q is d keeps. subst (λ (r : Row (List ℕ)). Sound x s manifest_types l d r) (that_row (Done (asked_at s p) >>= (λ next. cut_at s size digest ps next)) q _ is)
      (safe_ready x s manifest_types (Done (asked_at s p)) (λ next. cut_at s size digest ps next) l d (safe_done x s (Ready x s manifest_types) l d (asked_at s p) (place_ready x s p l d keeps)) (λ l d next keeps sent. cut_at_sound size ps next l d sent keeps)))

-- ---- the token is sent to the registry alone

module _ (x : Entry) (s : Settings) (registry : Parts) (token : Option RegistryTokenType) (registry_is : request_url (registry_text s x.image) ≡ Some registry) where
  shown_there : (url : Parts) (c : List Exchange) (o : Option Parts) (t : Option RegistryTokenType) → request_url (serialize url) ≡ o → goes_to o registry ≡ true → MayShow x c t → MayShowAt x s url c t
  shown_there url c o None url_is goes shown = tt
  shown_there url c (Some to) (Some t) url_is goes shown = ((registry, to, registry_is, url_is, goes), shown)
  shown_there url c None (Some t) url_is goes shown = absurd (cc goes)

  sent_shown : (url : Parts) (c : List Exchange) (b : Bool) → goes_to (request_url (serialize url)) registry ≡ b → MayShow x c token → MayShowAt x s url c (if b then token else None)
  sent_shown url c true goes shown = shown_there url c (request_url (serialize url)) token refl goes shown
  sent_shown url c false goes shown = tt

  with_sound : (d : OciDescriptor) (l : AuthState) (c : List Exchange) → MayShow x c token → Keeps x l c → Sound x s manifest_types l c (blob_with s x.image registry token d)
  unfolding blob_with
  with_sound d l c shown keeps = url_first x s manifest_types (blob_text s x.image d.digest) _ l c (λ url.
      safe_ready x s manifest_types (Done (request_of s Get url (Some manifest_types) (sent_token registry token url))) (λ request. cut_at s (size_of d) d.digest (places_of (described d).urls) request) l c
      (safe_done x s (Ready x s manifest_types) l c _ (request_ready x s Get url manifest_types (sent_token registry token url) l c keeps (sent_shown url c (goes_to (request_url (serialize url)) registry) refl shown) (request_of s Get url (Some manifest_types) (sent_token registry token url)) refl))
      (λ l c request keeps sent. cut_at_sound x s d.digest (size_of d) (places_of (described d).urls) request l c sent keeps))

  said_sound : (said : Option (List ℕ)) (l : AuthState) (c : List Exchange) → Keeps x l c → Ended x s manifest_types l c (going_on said)
  said_sound None l c keeps = tt
  said_sound (Some said) l c keeps = keeps

  asked_sound : (l : AuthState) (c : List Exchange) → Keeps x l c → Sound x s manifest_types l c sinks_asked
  unfolding sinks_asked Safe
  asked_sound l c keeps = λ said. said_sound said l c keeps

  -- ---- one blob after another

  shown_later : (t : Option RegistryTokenType) (c d : List Exchange) → Since c d → MayShow x c t → MayShow x d t
  shown_later None c d since shown = tt
  shown_later (Some t) c d since shown = subst (λ (e : List Exchange). MayShow x e (Some t)) (sym since.1) (held_more x c since.0 t shown)

  -- what follows a step may send the token too
  since_next : {A B : Type 0} (p : Row A) (f : A → Row B) (l : AuthState) (c : List Exchange) → MayShow x c token → Sound x s manifest_types l c p → ((l : AuthState) (d : List Exchange) (a : A) → MayShow x d token → Keeps x l d → Sound x s manifest_types l d (f a)) → Sound x s manifest_types l c (p >>= f)
  since_next {A} {B} p f l c shown h each = Safe-bind (Carries x s) (Keeps x) (λ l d (r : Result A OciDistributionError). Ended x s manifest_types l d r × Since c d) (Ended x s manifest_types) p (unless_refused f) l c (Safe-since (Carries x s) (Keeps x) (Ended x s manifest_types) p l c c ([], sym (append-nil c)) h) by_result where
    by_result : (l : AuthState) (d : List Exchange) (r : Result A OciDistributionError) → Ended x s manifest_types l d r × Since c d → Safe (Carries x s) (Keeps x) (Ended x s manifest_types) l d (unless_refused f r)
    by_result l d (Ok a) h = each l d a (shown_later token c d h.1 shown) h.0
    by_result l d (Err e) h = safe_done x s (Ended x s manifest_types) l d (Err e) h.0

  kept_sound : (d : OciDescriptor) (l : AuthState) (c : List Exchange) → MayShow x c token → Keeps x l c → Sound x s manifest_types l c (kept_blob s x.image registry token d)
  unfolding kept_blob
  kept_sound d l c shown keeps = since_next sinks_asked _ l c shown (asked_sound l c keeps) (λ l c u shown keeps.
      safe_next x s manifest_types (blob_with s x.image registry token d) _ l c (with_sound d l c shown keeps) (λ l c bytes keeps.
      safe_next x s manifest_types sinks_asked (λ u. Done (Ok bytes)) l c (asked_sound l c keeps) (λ l c u keeps. safe_done x s (Ended x s manifest_types) l c (Ok bytes) keeps)))

  each_sound : (xs : List OciDescriptor) (blobs : List (List ℕ)) (l : AuthState) (c : List Exchange) → MayShow x c token → Keeps x l c → Sound x s manifest_types l c (each_blob s x.image registry token xs blobs)
  unfolding each_blob
  each_sound [] blobs l c shown keeps = safe_done x s (Ended x s manifest_types) l c (Ok blobs) keeps
  each_sound (d ∷ ds) blobs l c shown keeps = since_next (kept_blob s x.image registry token d) (λ bytes. each_blob s x.image registry token ds (blobs ++ bytes ∷ [])) l c shown (kept_sound d l c shown keeps) (λ l c bytes shown keeps. each_sound ds (blobs ++ bytes ∷ []) l c shown keeps)

-- ---- the call

pub blobs_sound : (s : Context) (image : Reference) (xs : List OciDescriptor) (k l : AuthState) (c : List Exchange) → Keeps (pulling k s image None) l c → Sound (pulling k s image None) s.settings manifest_types l c (pull_blobs s image xs)
unfolding pull_blobs
blobs_sound s image [] k l c keeps = safe_done (pulling k s image None) s.settings (Ended (pulling k s image None) s.settings manifest_types) l c (Ok []) keeps
blobs_sound s image (d ∷ ds) k l c keeps =
    let x = pulling k s image None in
    url_safe x s.settings (Ended x s.settings manifest_types) (registry_text s.settings image) (λ registry. authorized s image Pull registry >>= (λ token. each_blob s.settings image registry token (d ∷ ds) [])) l c (request_url (registry_text s.settings image)) refl tt (λ registry registry_is.
    Safe-bind (Carries x s.settings) (Keeps x) (AuthorizedAt x s.settings manifest_types registry) (Ended x s.settings manifest_types) (authorized s image Pull registry) (unless_refused (λ token. each_blob s.settings image registry token (d ∷ ds) [])) l c (authorized_safe x s.settings manifest_types registry l c keeps) (by_token registry registry_is)) where
      by_token : (registry : Parts) → request_url (registry_text s.settings image) ≡ Some registry → (l : AuthState) (c : List Exchange) (r : Result (Option RegistryTokenType) OciDistributionError) → AuthorizedAt (pulling k s image None) s.settings manifest_types registry l c r → Sound (pulling k s image None) s.settings manifest_types l c (unless_refused (λ token. each_blob s.settings image registry token (d ∷ ds) []) r)
      by_token registry registry_is l c (Ok token) h = each_sound (pulling k s image None) s.settings registry token registry_is (d ∷ ds) [] l c (shown_at (pulling k s image None) s.settings registry c token h.1) h.0
      by_token registry registry_is l c (Err e) h = safe_done (pulling k s image None) s.settings (Ended (pulling k s image None) s.settings manifest_types) l c (Err e) h

pub blobs_confined : (s : Context) (image : Reference) (xs : List OciDescriptor) {old new : Link} {k l : AuthState} {r : Result (List (List ℕ)) OciDistributionError} → Meets is_memory (pull_blobs s image xs) old new k l r → Told (Within (pulling k s image None) s.settings l) old new
blobs_confined s image xs {k = k} {l = l} met = let x = pulling k s image None in call_within x s.settings (Ended x s.settings manifest_types) l (blobs_sound s image xs k k [] (keeps_first x)) met
