-- The whole pull: the policy, the reference, the search, a layer that satisfies the policy, and only then the image.
use Rattle.std.specs.Prelude.{ℕ, Bool, true, false, List, find, Option, Some, None, Result, Ok, Err}
use Rattle.oci_names.specs.declared.reference.Reference.{Reference}
use Rattle.oci_names.specs.Reference.{whole_text, reads_back}
use Rattle.oci_auth.specs.declared.auth.RegistryAuth.{RegistryAuth}
use Rattle.oci_protocol.specs.Proto.{Proto, Done, bind, ◌>>=◌, ◌>>◌}
use Rattle.engine_terms.specs.Contexts.{Context}
use Rattle.registry_calls.specs.declared.error.SigstoreError.{SigstoreError}
use Rattle.registry_calls.specs.Clients.{Kept, Row}
use Rattle.cosign_parts.specs.Items.{has_no_item}
use Rattle.cosign_layers.specs.Satisfying.{PolicyContext, satisfies_policy}
use Rattle.cosign_parts.specs.declared.layer.SignatureLayer.{SignatureLayer}
use Rattle.cosign_layers.specs.declared.policy.PullPolicy.{PullPolicy}
use Rattle.cosign_chain.specs.declared.image.VerifiedImage.{VerifiedImage}
use Rattle.cosign_rows.specs.Image.{image_row}
use Rattle.cosign_rows.specs.References.{digest_reference}
use Rattle.cosign_rows.specs.Refusal.{refused_as}
use Rattle.cosign_rows.specs.Search.{searched}
use Rattle.cosign_rows.specs.declared.found.TrustedLayers.{TrustedLayers}
use Rattle.cosign_rows.specs.declared.pulled.Pulled.{Pulled}
use Rattle.cosign_rows.specs.declared.refusal.PullRefusal.{PullRefusal}
use Rattle.cosign_rows.specs.declared.refusal.PullRefusal.TheVariants as refusal
use Rattle.cosign_rows.specs.declared.signed_digest.SignedDigest.{SignedDigest}

abbrev pub Whole : Type 0 → Type 0
Whole A = Proto Kept (Result A PullRefusal)

-- a policy without a constraint is refused
abbrev pub constrained : Bool → Result (Unit {0}) PullRefusal
constrained true = Err refusal.EmptyPolicy
constrained false = Ok tt

-- whether the policy has no constraint
abbrev pub is_unconstrained : {V : Type 0} {H : V → Type 0} → PullPolicy V H → Bool
is_unconstrained policy = has_no_item policy.constraints

-- a reference that does not round-trip is refused
abbrev pub readable_by : Reference → Bool → Result (Unit {0}) PullRefusal
readable_by image true = Ok tt
readable_by image false = Err (refusal.OciReferenceNotValidError (whole_text image))

abbrev pub readable : Reference → Result (Unit {0}) PullRefusal
readable image = readable_by image (reads_back image)

-- the result of a part, with its error as that of the whole pull
abbrev pub as_whole : {A : Type 0} → Result A SigstoreError → Result A PullRefusal
as_whole (Ok a) = Ok a
as_whole (Err e) = Err (refused_as e)

-- a part of the whole pull
unfoldable pub part_of : {A : Type 0} → Row A → Whole A
part_of p = bind p (λ r. Done (as_whole r))

-- whether a layer satisfies the policy
abbrev pub stands_by : {V : Type 0} {H : V → Type 0} → PolicyContext V H → SignatureLayer → Bool
stands_by policy_context = satisfies_policy policy_context.trust.valid policy_context.policy policy_context.own

-- the digest with the first layer that stands for it
abbrev pub signed_digest : TrustedLayers → Option SignatureLayer → Result SignedDigest PullRefusal
signed_digest found None = Err (refusal.Unsatisfied found.digest found.collected found.skipped)
signed_digest found (Some signature) = Ok (record { digest = found.digest; signature = signature })

-- the digest with the first found layer that satisfies the policy
abbrev pub standing : {V : Type 0} {H : V → Type 0} → PolicyContext V H → TrustedLayers
    → Result SignedDigest PullRefusal
standing policy_context found = signed_digest found (find (stands_by policy_context) found.collected)

-- the digest of the manifest, and that of the index that led to it
abbrev pub manifest_digests : List ℕ → Option (List ℕ) → List ℕ × Option (List ℕ)
manifest_digests digest None = (digest, None)
manifest_digests digest (Some entry) = (entry, Some digest)

abbrev pub verified_image : SignedDigest → Pulled → VerifiedImage
verified_image standing pulled = record {
  digest = standing.digest;
  first = pulled.first;
  manifest_bytes = pulled.chosen.bytes;
  manifest = pulled.chosen.manifest;
  manifest_digest = (manifest_digests standing.digest pulled.chosen.entry).0;
  list_digest = (manifest_digests standing.digest pulled.chosen.entry).1;
  config = pulled.config;
  layers = pulled.layers;
  signature = standing.signature;
}

-- the image from what was pulled, or the error
abbrev pub signed_image : SignedDigest → Result Pulled SigstoreError → Result VerifiedImage PullRefusal
signed_image standing (Ok pulled) = Ok (verified_image standing pulled)
signed_image standing (Err e) = Err (refused_as e)

-- the whole pull
unfoldable pub verified : {V : Type 0} {H : V → Type 0} → PolicyContext V H → Context → Reference → RegistryAuth
    → List (List ℕ) → Whole VerifiedImage
verified policy_context s image a accepted = do
  Done (constrained (is_unconstrained policy_context.policy))
  Done (readable image)
  found ← part_of (searched policy_context.trust s image a)
  stood ← Done (standing policy_context found)
  pulled ← part_of (image_row s image (digest_reference image stood.digest) a accepted)
  Done (Ok (verified_image stood pulled))
