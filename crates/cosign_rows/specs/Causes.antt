-- Why a search or a pull was refused: which part was refused, and what the parts before it returned.
use Rattle.std.specs.Prelude.{◌≡◌, ◌⊎◌, ℕ, true, false, List, ◌++◌, Some, None, Ok, Err, find}
use Rattle.oci_names.specs.declared.reference.Reference.{Reference}
use Rattle.oci_names.specs.Reference.{whole_text, reads_back}
use Rattle.oci_auth.specs.declared.auth.RegistryAuth.{RegistryAuth}
use Rattle.oci_transport.specs.declared.message.Exchange.{Exchange}
use Rattle.engine_terms.specs.Contexts.{Context}
use Rattle.registry_calls.specs.declared.error.SigstoreError.{SigstoreError}
use Rattle.registry_calls.specs.declared.error.SigstoreError.TheVariants as sigstore
use Rattle.registry_calls.specs.Calls.{digest_call}
use Rattle.cosign_layers.specs.Satisfying.{PolicyContext}
use Rattle.cosign_parts.specs.declared.layer.SignatureLayer.{SignatureLayer}
use Rattle.cosign_rows.specs.declared.found.TrustedLayers.{TrustedLayers}
use Rattle.cosign_rows.specs.declared.refusal.PullRefusal.{PullRefusal}
use Rattle.cosign_rows.specs.declared.refusal.PullRefusal.TheVariants as refusal
use Rattle.cosign_rows.specs.Image.{image_row}
use Rattle.cosign_rows.specs.Snapshots.{Snapshot, RanBetween, NoOp}
use Rattle.cosign_rows.specs.References.{digest_reference}
use Rattle.cosign_rows.specs.Search.{searched}
use Rattle.cosign_rows.specs.Verified.{is_unconstrained, stands_by}

-- a digest was returned, but the image's reference by it, whose text is `text`, does not round-trip
pub record NoReference (s : Context) (image : Reference) (a : RegistryAuth)
    (start : Snapshot) (c : List Exchange) (end : Snapshot) (text : List ℕ) : Type 0 where
  pub digest : List ℕ
  pub answered : RanBetween (digest_call s image a) start c end (Ok digest)
  pub unread : reads_back (digest_reference image digest) ≡ false
  pub text_is : text ≡ whole_text (digest_reference image digest)

-- why a search was refused: only its first step can end it
abbrev pub SearchCause : Context → Reference → RegistryAuth → Snapshot → List Exchange → Snapshot → SigstoreError
    → Type 0
SearchCause s image a start c end (sigstore.OciReferenceNotValidError text) = NoReference s image a start c end text
SearchCause s image a start c end (sigstore.RegistryFetchManifestError name e) =
    RanBetween (digest_call s image a) start c end (Err (sigstore.RegistryFetchManifestError name e))
SearchCause s image a start c end (sigstore.RegistryPullError name e) = ⊥
SearchCause s image a start c end (sigstore.RegistryPullManifestError name e) = ⊥
SearchCause s image a start c end (sigstore.RegistryPushError name e) = ⊥
SearchCause s image a start c end sigstore.WantOfMemory = Unit {0}

-- the image's own reference does not round-trip, and no request was sent
pub record UnreadReference (image : Reference) (start : Snapshot) (c : List Exchange) (end : Snapshot) (text : List ℕ)
    : Type 0 where
  pub unread : reads_back image ≡ false
  pub text_is : text ≡ whole_text image
  pub silent : NoOp start c end

-- the search ran and returned `found`
abbrev pub Found : {V : Type 0} {H : V → Type 0} → PolicyContext V H → Context → Reference → RegistryAuth
    → Snapshot → List Exchange → Snapshot → TrustedLayers → Type 0
Found policy_context s image a start c end found = RanBetween (searched policy_context.trust s image a) start c end
    (Ok found)

-- a found layer satisfies the policy, and then the image was refused to the client as the search left it
pub record ImageRefused {V : Type 0} {H : V → Type 0} (policy_context : PolicyContext V H) (s : Context)
    (image : Reference)
    (a : RegistryAuth) (accepted : List (List ℕ))
    (start : Snapshot) (c : List Exchange) (end : Snapshot) (e : SigstoreError) : Type 0 where
  pub search : List Exchange
  pub pull : List Exchange
  pub split : c ≡ search ++ pull
  pub between : Snapshot
  pub found : TrustedLayers
  pub searched_is : Found policy_context s image a start search between found
  pub signature : SignatureLayer
  pub stands_is : find (stands_by policy_context) found.collected ≡ Some signature
  pub refused : RanBetween (image_row s image (digest_reference image found.digest) a accepted) between pull end (Err e)

-- no layer that the search found satisfies the policy
pub record NoneSatisfies {V : Type 0} {H : V → Type 0} (policy_context : PolicyContext V H) (s : Context)
    (image : Reference)
    (a : RegistryAuth) (start : Snapshot) (c : List Exchange) (end : Snapshot) (found : TrustedLayers) : Type 0 where
  pub searched_is : Found policy_context s image a start c end found
  pub none : find (stands_by policy_context) found.collected ≡ None

-- why a pull was refused
abbrev pub PullCause : {V : Type 0} {H : V → Type 0} → PolicyContext V H → Context → Reference → RegistryAuth
    → List (List ℕ) → Snapshot → List Exchange → Snapshot → PullRefusal → Type 0
PullCause policy_context s image a accepted start c end refusal.EmptyPolicy =
    (is_unconstrained policy_context.policy ≡ true) × NoOp start c end
PullCause policy_context s image a accepted start c end (refusal.OciReferenceNotValidError text) =
    UnreadReference image start c end text ⊎ NoReference s image a start c end text
PullCause policy_context s image a accepted start c end (refusal.RegistryFetchManifestError name e) =
    RanBetween (digest_call s image a) start c end (Err (sigstore.RegistryFetchManifestError name e))
PullCause policy_context s image a accepted start c end (refusal.RegistryPullError name e) =
    ImageRefused policy_context s image a accepted start c end (sigstore.RegistryPullError name e)
PullCause policy_context s image a accepted start c end (refusal.Unsatisfied digest collected skipped) =
    NoneSatisfies policy_context s image a start c end
    (record { digest = digest; collected = collected; skipped = skipped })
PullCause policy_context s image a accepted start c end refusal.WantOfMemory = Unit {0}
