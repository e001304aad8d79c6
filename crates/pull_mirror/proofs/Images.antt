-- What holds for each push of an image.
use Rattle.std.proofs.Common.{◌≡◌, inl, inr, ℕ, Bool, true, false, List, [], ◌∷◌, ◌++◌, All, Option, Some, None, codes, refl, sym, ap, subst, ◌∙◌}
use Rattle.std.proofs.lemmas.List.Elements.{All-nil, All-cons}
use Rattle.oci_manifests.specs.declared.descriptor.OciDescriptor.{OciDescriptor}
use Rattle.oci_digests.specs.Names.{digest_text}
use Rattle.oci_manifests.specs.declared.blob.ImageLayer.{ImageLayer}
use Rattle.oci_names.specs.Reference.{mirror_of}
use Rattle.oci_names.specs.declared.algorithm.Algorithm.TheVariants.{Sha256}
use Rattle.oci_names.specs.declared.reference.Reference.{Reference}
use Rattle.cosign_chain.specs.Chain.{LayersLink}
use Rattle.cosign_chain.specs.Links.{ManifestLinks, Links}
use Rattle.cosign_chain.specs.declared.image.VerifiedImage.{VerifiedImage}
use Rattle.cosign_parts.specs.declared.layer.LayerKind.{LayerKind}
use Rattle.cosign_parts.specs.declared.layer.LayerKind.TheVariants.{Payload, Bundle}
use Rattle.pull_mirror.specs.Every.{Every, IsIn, plain}
use Rattle.pull_mirror.specs.Pushes.{Push, Blob, Manifest, push_digest, IsNamed, layer_blobs, sha256_blob, other_blobs, blobs_of, unless_before, is_among, not_before, without_repeats, entry_by, manifest_push, entry_of, document_of, signature_place, signature_push, signature_of, before_document, pushes}
use Rattle.pull_mirror.specs.Signatures.{signature_text}

-- ---- lists

module _ (P : Push → Type 0) where
  pub every_both : (ps qs : List Push) → Every P ps → Every P qs → Every P (ps ++ qs)
  every_both [] qs h g = g
  every_both (p ∷ ps) qs h g = (h.0, every_both ps qs h.1 g)

  every_unless : (b : Bool) (p : Push) → P p → Every P (unless_before b p)
  every_unless true p h = tt
  every_unless false p h = (h, tt)

  pub every_once : (before : List (List ℕ)) (ps : List Push) → Every P ps → Every P (not_before before ps)
  every_once before [] h = tt
  every_once before (p ∷ ps) h = every_both (unless_before (is_among (push_digest p) before) p) (not_before (before ++ push_digest p ∷ []) ps) (every_unless (is_among (push_digest p) before) p h.0) (every_once (before ++ push_digest p ∷ []) ps h.1)

  pub every_all : (ps : List Push) → Every P ps → All P ps
  every_all [] h = All-nil P
  every_all (p ∷ ps) h = All-cons P p ps h.0 (every_all ps h.1)

  -- before the document that was signed
  pub every_first : (v : VerifiedImage) (target : Reference) → Every P (layer_blobs v.manifest.layers v.layers) → P (Blob v.manifest.config.digest v.config.content) → ((bytes : List ℕ) → P (sha256_blob bytes)) → Every P (entry_of v target) → Every P (before_document v target)
  every_first v target layers config bytes entry =
      every_both (without_repeats (blobs_of v)) (entry_of v target)
      (every_once [] (blobs_of v) (every_both (layer_blobs v.manifest.layers v.layers) (other_blobs v) layers (config, (bytes v.signature.content, (bytes (codes "{}"), tt)))))
      entry

  pub every_push : (v : VerifiedImage) (target : Reference) → Every P (before_document v target) → P (document_of v target) → P (signature_of v target) → Every P (pushes v target)
  every_push v target first document signature = every_both (before_document v target) (document_of v target ∷ signature_of v target ∷ []) first (document, (signature, tt))

-- ---- digests name the bytes

layers_named : (accepted : List (List ℕ)) (xs : List OciDescriptor) (layers : List ImageLayer) → LayersLink accepted xs layers → Every IsNamed (layer_blobs xs layers)
layers_named accepted [] [] h = tt
layers_named accepted [] (layer ∷ layers) h = tt
layers_named accepted (x ∷ xs) [] h = tt
layers_named accepted (x ∷ xs) (layer ∷ layers) h = (h.0.named, layers_named accepted xs layers h.1)

entry_named : (v : VerifiedImage) (target : Reference) (o : Option (List ℕ)) → ManifestLinks v o → Every IsNamed (entry_by o (manifest_push v.manifest_digest v.manifest_bytes target))
entry_named v target None h = tt
entry_named v target (Some digest) h = (h.1, tt)

pub all_named : (image : Reference) (accepted : List (List ℕ)) (v : VerifiedImage) (target : Reference) → Links image accepted v → All IsNamed (pushes v target)
all_named image accepted v target links =
    every_all IsNamed (pushes v target) (every_push IsNamed v target
    (every_first IsNamed v target (layers_named accepted v.manifest.layers v.layers links.layers) links.config.named (λ bytes. (Sha256, refl)) (entry_named v target v.list_digest links.manifest))
    links.named (Sha256, refl))

-- ---- all in the target's repository

pub layers_in : (target : Reference) (xs : List OciDescriptor) (layers : List ImageLayer) → Every (IsIn target) (layer_blobs xs layers)
layers_in target [] layers = tt
layers_in target (x ∷ xs) [] = tt
layers_in target (x ∷ xs) (layer ∷ layers) = (tt, layers_in target xs layers)

entry_in : (v : VerifiedImage) (target : Reference) (o : Option (List ℕ)) → Every (IsIn target) (entry_by o (manifest_push v.manifest_digest v.manifest_bytes target))
entry_in v target None = tt
entry_in v target (Some digest) = ((None, Some v.manifest_digest, refl), tt)

pub first_in : (v : VerifiedImage) (target : Reference) → Every (IsIn target) (before_document v target)
first_in v target = every_first (IsIn target) v target (layers_in target v.manifest.layers v.layers) tt (λ bytes. tt) (entry_in v target v.list_digest)

-- a reference without a mirror
pub plain_is : (target : Reference) → mirror_of target ≡ None → target ≡ plain target.registry target.repository target.tag target.digest
plain_is target none = ap (λ (m : Option (List ℕ)). let r : Reference = record { registry = target.registry; mirror = m; repository = target.repository; tag = target.tag; digest = target.digest } in r) none

pub document_in_it : (v : VerifiedImage) (target : Reference) → mirror_of target ≡ None → IsIn target (document_of v target)
document_in_it v target none = (target.tag, target.digest, plain_is target none)

pub signed_in : (kind : LayerKind) (signed own : List ℕ) (target : Reference) → (tag digest_of : Option (List ℕ)) × (signature_place kind signed own target ≡ plain target.registry target.repository tag digest_of)
signed_in Payload signed own target = (_, None, refl)
signed_in Bundle signed own target = (None, Some own, refl)

pub signature_in : (v : VerifiedImage) (target : Reference) → IsIn target (signature_of v target)
signature_in v target = signed_in v.signature.kind v.digest (digest_text Sha256 (signature_text v.signature v.digest v.first)) target
