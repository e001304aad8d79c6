-- Questions about blobs send credentials and tokens only to the target's registry and to the realm that it names.
use Rattle.std.proofs.Common.{◌≡◌, ℕ, List, [], ◌∷◌, ◌++◌, Bool, true, false, Option, Some, None, Result, Ok, Err, refl}
use Rattle.oci_auth.specs.declared.auth.RegistryAuth.{RegistryAuth}
use Rattle.oci_auth.specs.declared.auth_state.AuthState.{AuthState}
use Rattle.oci_names.specs.declared.reference.Reference.{Reference}
use Rattle.oci_protocol.specs.Proto.{bind, Reply, Headed, Answered, Failed, TooLong, SinkFailed, ◌>>=◌}
use Rattle.oci_protocol.specs.Runs.{Meets, Told}
use Rattle.oci_protocol.specs.Safe.{Safe}
use Rattle.oci_transport.specs.Link.{Link}
use Rattle.oci_transport.specs.declared.message.Exchange.{Exchange}
use Rattle.oci_transport.specs.declared.message.Method.TheVariants.{Head}
use Rattle.oci_transport.specs.declared.message.Request.{Request}
use Rattle.engine_answers.specs.Answers.{is_success, refused_answer}
use Rattle.engine_pull.specs.Listings.{bare, blob_exists, is_there, there_after, unless_told}
use Rattle.engine_requests.specs.Addresses.{blob_text}
use Rattle.engine_rows.specs.Confined.{Within}
use Rattle.engine_rows.specs.Held.{Entry, pulling}
use Rattle.engine_rows.specs.Rows.{Row, store}
use Rattle.engine_terms.specs.Contexts.{Context}
use Rattle.engine_terms.specs.Error.{is_memory}
use Rattle.engine_terms.specs.declared.error.OciDistributionError.{OciDistributionError}
use Rattle.engine_terms.specs.declared.error.OciDistributionError.TheVariants as refusal
use Rattle.call_laws.proofs.BareRequests.{bare_safe}
use Rattle.request_laws.proofs.CallConfinement.{call_within}
use Rattle.request_laws.proofs.HeaderCauses.{Sound}
use Rattle.request_laws.proofs.KeptTokens.{Keeps, keeps_first, keeps_more, keeps_stored}
use Rattle.request_laws.proofs.PlainRefusals.{refused_plain}
use Rattle.request_laws.proofs.RequestConfinement.{Sent}
use Rattle.request_laws.proofs.SafeKeeps.{Safe-keeps}
use Rattle.request_laws.proofs.SafeMore.{Safe-more}
use Rattle.request_laws.proofs.ShownTokens.{Carries, Ended, safe_done, safe_follow, safe_ready, plain_last, url_first}
use Rattle.pull_mirror.specs.DocumentCopies.{blobs_asked, first_missing, unless_absent}
use Rattle.pull_mirror.proofs.Confining.{Left, Stays, stays_done, stays_next}

module _ (s : Context) (image : Reference) (handed : Option RegistryAuth) (k : AuthState) where
  abbrev X : Entry
  X = pulling k s image handed

  there_sound : (request : Request) (l : AuthState) (c : List Exchange) → Sent X s.settings c request → Keeps X l c → Sound X s.settings [] l c (there_after request s.settings.max_body_bytes)
  unfolding there_after
  there_sound request l c sent keeps = safe_follow X s.settings (Ended X s.settings []) 10 request (unless_told s.settings.max_body_bytes) is_there l c sent keeps (λ last d e before after other reply h replies. by_reply last reply (d ++ e ∷ []) h) where
    by_reply : (last : Request) (reply : Reply) (d : List Exchange) → Keeps X l d → Sound X s.settings [] l d (is_there last reply)
    by_reply last (Headed head) d h = safe_done X s.settings (Ended X s.settings []) l d (Ok (is_success head.status)) h
    by_reply last (Answered answer) d h = plain_last X s.settings [] (Err (refused_answer 200 last.url answer)) l d (refused_plain last.url answer) h
    by_reply last Failed d h = safe_done X s.settings (Ended X s.settings []) l d (Err refusal.TransportFault) tt
    by_reply last TooLong d h = safe_done X s.settings (Ended X s.settings []) l d (Err refusal.BodyTooLong) tt
    by_reply last SinkFailed d h = safe_done X s.settings (Ended X s.settings []) l d (Err refusal.SinkFault) tt

  exists_sound : (digest : List ℕ) (l : AuthState) (c : List Exchange) → Keeps X l c → Sound X s.settings [] l c (blob_exists s image digest)
  unfolding blob_exists
  exists_sound digest l c keeps =
      url_first X s.settings [] (blob_text s.settings image digest) _ l c (λ url.
      safe_ready X s.settings [] (bare s image Head url) _ l c (bare_safe s image k handed Head url l c keeps) (λ l c request keeps sent.
      there_sound request l c sent keeps))

  exists_stays : (digest : List ℕ) → Stays X s.settings (blob_exists s image digest)
  exists_stays digest = record {
    safe = λ l c keeps. Safe-more (Carries X s.settings) (Keeps X) (Keeps X) (λ m d (r : Result Bool OciDistributionError). Keeps X m d × Ended X s.settings [] m d r) (Left X) (blob_exists s image digest) (λ m d h. h) (λ m d r h. h.0) l c
        (Safe-keeps (Carries X s.settings) (Keeps X) (Ended X s.settings []) (blob_exists s image digest) l c (keeps_more X) keeps (exists_sound digest l c keeps));
  }

  unless_stays : (digest : List ℕ) (there : Bool) {next : Row (Option (List ℕ))} → Stays X s.settings next → Stays X s.settings (unless_absent digest next there)
  unless_stays digest true next = next
  unless_stays digest false next = stays_done X s.settings (Ok (Some digest))

  missing_stays : (digests : List (List ℕ)) → Stays X s.settings (first_missing s image digests)
  unfolding first_missing
  missing_stays [] = stays_done X s.settings (Ok None)
  missing_stays (digest ∷ digests) = stays_next X s.settings (blob_exists s image digest) _ (exists_stays digest) (λ there. unless_stays digest there (missing_stays digests))

stores_stays : (k : AuthState) (s : Context) (image : Reference) (a : RegistryAuth) → Stays (pulling k s image (Some a)) s.settings (store image a)
unfolding store Safe bind
stores_stays k s image a = record { safe = λ l c keeps. let kept = keeps_stored (pulling k s image (Some a)) l c a refl keeps in (kept, kept) }

asked_stays : (k : AuthState) (s : Context) (image : Reference) (a : RegistryAuth) (digests : List (List ℕ)) → Stays (pulling k s image (Some a)) s.settings (blobs_asked s image a digests)
unfolding blobs_asked
asked_stays k s image a digests = stays_next (pulling k s image (Some a)) s.settings (store image a) _ (stores_stays k s image a) (λ u. missing_stays s image (Some a) k digests)

pub asked_confined : (s : Context) (image : Reference) (a : RegistryAuth) (digests : List (List ℕ)) {old new : Link} {k l : AuthState} {r : Result (Option (List ℕ)) OciDistributionError} → Meets is_memory (blobs_asked s image a digests) old new k l r → Told (Within (pulling k s image (Some a)) s.settings l) old new
asked_confined s image a digests {k = k} {l = l} met = let x = pulling k s image (Some a) in call_within x s.settings (Left x) l ((asked_stays k s image a digests).safe k [] (keeps_first x)) met
