-- The documents of a chain have their own content types.
use Rattle.std.proofs.Common.{◌≡◌, inl, inr, ℕ, Bool, true, List, Option, Some, None, option_map, unwrap_or, option_and_then, sym, ap, subst, ◌∙◌}
use Rattle.json_values.specs.JsonText.{json_of}
use Rattle.oci_manifests.specs.declared.promise.ResolverPromise.{ResolverPromise}
use Rattle.oci_manifests.specs.Document.{content_type_of, document_of}
use Rattle.oci_manifests.specs.Versioned.{is_versioned}
use Rattle.oci_manifests.specs.declared.document.OciManifest.{OciManifest}
use Rattle.oci_manifests.specs.declared.document.OciManifest.TheVariants.{Image, ImageIndex}
use Rattle.oci_names.specs.declared.reference.Reference.{Reference}
use Rattle.cosign_chain.specs.Chain.{Chain, IsDocument, FirstIsManifest, FirstIsIndex, LeadsToManifest}
use Rattle.cosign_chain.specs.Documents.{document_by, document_in}
use Rattle.cosign_chain.specs.declared.image.VerifiedImage.{VerifiedImage}
use Rattle.cosign_layers.specs.Satisfying.{PolicyContext}
use Rattle.pull_mirror.specs.Signatures.{IsTyped, AreTyped, oci_manifest_type}

in_bytes : (bytes : List ℕ) (document : OciManifest) → IsDocument bytes document → document_in bytes ≡ Some document
in_bytes bytes document is =
    ap (λ o. option_and_then (λ d. document_by (is_versioned d) (document_of d)) o) is.json
    ∙ ap (λ b. document_by b (document_of is.value)) is.versioned ∙ is.reads

typed : (bytes : List ℕ) (document : OciManifest) → IsDocument bytes document → IsTyped bytes
typed bytes document is = record { document = document; parses = is; type_is = ap (λ o. unwrap_or (option_map content_type_of o) oci_manifest_type) (in_bytes bytes document is) }

manifest_typed : (v : VerifiedImage) → FirstIsManifest v → AreTyped v
manifest_typed v first = let own = typed v.first (Image v.manifest) first.reads in (own, subst IsTyped (sym first.bytes) own)

index_typed : (promise : ResolverPromise) (v : VerifiedImage) → FirstIsIndex promise v → AreTyped v
index_typed promise v first = (typed v.first (ImageIndex first.index) first.indexed, typed v.manifest_bytes (Image v.manifest) first.reads)

by_promise : (promise : Option ResolverPromise) (v : VerifiedImage) → LeadsToManifest promise v → AreTyped v
by_promise None v first = manifest_typed v first
by_promise (Some promise) v (inl first) = manifest_typed v first
by_promise (Some promise) v (inr first) = index_typed promise v first

pub all_typed : {V : Type 0} {H : V → Type 0} {policy_context : PolicyContext V H} {image : Reference} {accepted : List (List ℕ)} (promise : Option ResolverPromise) (v : VerifiedImage) → Chain policy_context image accepted promise v → AreTyped v
all_typed promise v chain = by_promise promise v chain.manifest
