-- Why a pull of documents was refused: as a pull of the image is, but that no blob is among the causes.
use Rattle.std.specs.Prelude.{◌≡◌, true, List, [], ◌++◌, Some, None, Err, find}
use Rattle.oci_names.specs.declared.reference.Reference.{Reference}
use Rattle.oci_auth.specs.declared.auth.RegistryAuth.{RegistryAuth}
use Rattle.oci_transport.specs.declared.message.Exchange.{Exchange}
use Rattle.engine_terms.specs.Contexts.{Context}
use Rattle.registry_calls.specs.declared.error.SigstoreError.{SigstoreError}
use Rattle.registry_calls.specs.declared.error.SigstoreError.TheVariants as sigstore
use Rattle.cosign_layers.specs.Satisfying.{PolicyContext}
use Rattle.cosign_parts.specs.declared.layer.SignatureLayer.{SignatureLayer}
use Rattle.cosign_rows.specs.Causes.{Found, PullCause}
use Rattle.cosign_rows.specs.References.{digest_reference}
use Rattle.cosign_rows.specs.Snapshots.{Snapshot, RanBetween, NoOp}
use Rattle.cosign_rows.specs.Verified.{is_unconstrained, stands_by}
use Rattle.cosign_rows.specs.declared.found.TrustedLayers.{TrustedLayers}
use Rattle.cosign_rows.specs.declared.refusal.PullRefusal.{PullRefusal}
use Rattle.cosign_rows.specs.declared.refusal.PullRefusal.TheVariants as refusal
use Rattle.cosign_rows.specs.Again.{read_again}
use Rattle.cosign_rows.specs.Rows.{image_documents}

-- a found layer satisfies the policy, and then the documents were refused to the client as the search left it
pub record DocumentsRefused {V : Type 0} {H : V → Type 0} (policy_context : PolicyContext V H) (s : Context)
    (image : Reference) (a : RegistryAuth)
    (start : Snapshot) (c : List Exchange) (end : Snapshot) (e : SigstoreError) : Type 0 where
  pub search : List Exchange
  pub pull : List Exchange
  pub split : c ≡ search ++ pull
  pub between : Snapshot
  pub found : TrustedLayers
  pub searched_is : Found policy_context s image a start search between found
  pub signature : SignatureLayer
  pub stands_is : find (stands_by policy_context) found.collected ≡ Some signature
  pub refused : RanBetween (image_documents s image (digest_reference image found.digest) a) between pull end (Err e)

-- why a pull of documents was refused; the other causes do not mention media types, nor blobs
abbrev pub DocumentsCause : {V : Type 0} {H : V → Type 0} → PolicyContext V H → Context → Reference → RegistryAuth
    → Snapshot → List Exchange → Snapshot → PullRefusal → Type 0
DocumentsCause policy_context s image a start c end (refusal.RegistryPullError name e) =
    DocumentsRefused policy_context s image a start c end (sigstore.RegistryPullError name e)
DocumentsCause policy_context s image a start c end other = PullCause policy_context s image a [] start c end other

-- ---- the second part, over what was collected

-- a layer that was read again satisfies the policy, and then the documents were refused
pub record DecidedRefused {V : Type 0} {H : V → Type 0} (policy_context : PolicyContext V H) (s : Context)
    (image : Reference) (a : RegistryAuth) (found : TrustedLayers)
    (start : Snapshot) (c : List Exchange) (end : Snapshot) (e : SigstoreError) : Type 0 where
  pub signature : SignatureLayer
  pub stands_is : find (stands_by policy_context) (read_again policy_context.trust found).collected ≡ Some signature
  pub refused : RanBetween (image_documents s image (digest_reference image found.digest) a) start c end (Err e)

-- no layer that was read again satisfies the policy, and no request was sent
pub record DecidedUnsatisfied {V : Type 0} {H : V → Type 0} (policy_context : PolicyContext V H)
    (found again : TrustedLayers) (start : Snapshot) (c : List Exchange) (end : Snapshot) : Type 0 where
  pub again_is : again ≡ read_again policy_context.trust found
  pub none : find (stands_by policy_context) again.collected ≡ None
  pub silent : NoOp start c end

-- why the second part was refused
abbrev pub DecidedCause : {V : Type 0} {H : V → Type 0} → PolicyContext V H → Context → Reference → RegistryAuth
    → TrustedLayers → Snapshot → List Exchange → Snapshot → PullRefusal → Type 0
DecidedCause policy_context s image a found start c end refusal.EmptyPolicy =
    (is_unconstrained policy_context.policy ≡ true) × NoOp start c end
DecidedCause policy_context s image a found start c end (refusal.RegistryPullError name e) =
    DecidedRefused policy_context s image a found start c end (sigstore.RegistryPullError name e)
DecidedCause policy_context s image a found start c end (refusal.Unsatisfied digest collected skipped) =
    DecidedUnsatisfied policy_context found (record { digest = digest; collected = collected; skipped = skipped })
    start c end
DecidedCause policy_context s image a found start c end refusal.WantOfMemory = Unit {0}
DecidedCause policy_context s image a found start c end other = ⊥
