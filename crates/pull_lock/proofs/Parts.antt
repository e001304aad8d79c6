-- An entry is locked if and only if its name, its documents and its signature layer are right.
use Rattle.std.proofs.Common.{◌≡◌, ◌⊎◌, inl, inr, ◌↔◌, ◌<◌, ℕ, Bool, true, false, IsTrue, List, [], ◌∷◌, Contains, length, Option, Some, None, refl, sym, ap, subst, ◌∙◌, arith}
use Rattle.std.specs.List.{All}
use Rattle.std.proofs.lemmas.List.Elements.{All-nil, All-cons}
use Rattle.oci_names.specs.declared.reference.Reference.{Reference}
use Rattle.oci_names.specs.Reference.{reads_back, whole_text}
use Rattle.oci_manifests.specs.declared.descriptor.OciDescriptor.{OciDescriptor}
use Rattle.oci_manifests.specs.declared.promise.ResolverPromise.{ResolverPromise}
use Rattle.oci_manifests.specs.declared.blob.ImageLayer.{ImageLayer}
use Rattle.cosign_layers.specs.Satisfying.{PolicyContext}
use Rattle.cosign_parts.specs.declared.layer.SignatureLayer.{SignatureLayer}
use Rattle.cosign_chain.specs.Chain.{FirstIsManifest, FirstIsIndex, LeadsToManifest, LayersLink, Chain}
use Rattle.cosign_chain.specs.declared.image.VerifiedImage.{VerifiedImage}
use Rattle.pull_lock.specs.Locked.{Locked, entry_with}
use Rattle.pull_lock.specs.Tests.{IsNamed, HasManifest, IsSigned}
use Rattle.pull_lock.specs.declared.lock.LockEntry.{LockEntry}
use Rattle.pull_lock.specs.declared.lock.LockedSignature.{LockedSignature}

-- the image of the documents, with this signature layer
abbrev signed_image : LockEntry → VerifiedImage → SignatureLayer → VerifiedImage
signed_image e v layer = record {
  digest = e.digest;
  first = e.first;
  manifest_bytes = e.manifest;
  manifest = v.manifest;
  manifest_digest = e.manifest_digest;
  list_digest = v.list_digest;
  config = v.config;
  layers = v.layers;
  signature = layer;
}

same_first : {promise : Option ResolverPromise} (e : LockEntry) (h : HasManifest promise e) (layer : SignatureLayer) → FirstIsManifest h.found → FirstIsManifest (signed_image e h.found layer)
same_first e h layer first = record {
  reads = rw h.first first.reads;
  bytes = h.bytes ∙ first.bytes ∙ sym h.first;
  digest = h.manifest_digest ∙ first.digest ∙ sym h.digest;
  no_list = first.no_list;
}

same_index : {p : Option ResolverPromise} (promise : ResolverPromise) (e : LockEntry) (h : HasManifest p e) (layer : SignatureLayer) → FirstIsIndex promise h.found → FirstIsIndex promise (signed_image e h.found layer)
same_index promise e h layer first = record {
  index = first.index;
  indexed = rw h.first first.indexed;
  picked = rw h.manifest_digest first.picked;
  named = rw (h.manifest_digest, h.bytes) first.named;
  reads = rw h.bytes first.reads;
  list = first.list ∙ ap Some (sym h.digest);
}

-- the documents lead to the manifest, whatever the signature layer is
same_lead : (promise : Option ResolverPromise) (e : LockEntry) (h : HasManifest promise e) (layer : SignatureLayer) → LeadsToManifest promise (signed_image e h.found layer)
same_lead None e h layer = same_first e h layer h.manifest
same_lead (Some promise) e h layer = by h.manifest where
  by : (FirstIsManifest h.found ⊎ FirstIsIndex promise h.found) → (FirstIsManifest (signed_image e h.found layer) ⊎ FirstIsIndex promise (signed_image e h.found layer))
  by (inl first) = inl (same_first e h layer first)
  by (inr first) = inr (same_index promise e h layer first)

abbrev with_signature : LockEntry → LockedSignature → LockEntry
with_signature e s = record {
  image = e.image;
  accepted = e.accepted;
  digest = e.digest;
  first = e.first;
  manifest_digest = e.manifest_digest;
  manifest = e.manifest;
  signature = s;
}

locked_from : {V : Type 0} {H : V → Type 0} (m : PolicyContext V H) (promise : Option ResolverPromise) (e : LockEntry) → IsNamed e → HasManifest promise e → IsSigned m e → Locked m promise e
locked_from m promise e n h s = record {
  image = n.image;
  whole = n.whole;
  reads = n.reads;
  found = signed_image e h.found s.layer;
  is = ap (with_signature e) s.is;
  named = n.named;
  asked = n.asked;
  manifest = same_lead promise e h s.layer;
  some = h.some;
  accepted = h.accepted;
  signature = s.stands;
}

named_of : {V : Type 0} {H : V → Type 0} (m : PolicyContext V H) (promise : Option ResolverPromise) (e : LockEntry) → Locked m promise e → IsNamed e
named_of m promise e l = record { image = l.image; whole = l.whole; reads = l.reads; named = l.named; asked = l.asked }

manifest_of : {V : Type 0} {H : V → Type 0} (m : PolicyContext V H) (promise : Option ResolverPromise) (e : LockEntry) → Locked m promise e → HasManifest promise e
manifest_of m promise e l = record {
  found = l.found;
  digest = ap (λ (x : LockEntry). x.digest) l.is;
  first = ap (λ (x : LockEntry). x.first) l.is;
  manifest_digest = ap (λ (x : LockEntry). x.manifest_digest) l.is;
  bytes = ap (λ (x : LockEntry). x.manifest) l.is;
  manifest = l.manifest;
  some = l.some;
  accepted = l.accepted;
}

signed_of : {V : Type 0} {H : V → Type 0} (m : PolicyContext V H) (promise : Option ResolverPromise) (e : LockEntry) → Locked m promise e → IsSigned m e
signed_of m promise e l = record { layer = l.found.signature; is = ap (λ (x : LockEntry). x.signature) l.is; stands = l.signature }

-- ---- the tests in their order

pub not_named : {V : Type 0} {H : V → Type 0} (m : PolicyContext V H) (promise : Option ResolverPromise) (e : LockEntry) (b : Bool) → IsTrue b ↔ IsNamed e → b ≡ false → IsTrue false ↔ Locked m promise e
not_named m promise e b exact is = (λ h. absurd (cc h), λ l. absurd (cc (sym is ∙ exact.1 (named_of m promise e l))))

pub not_led : {V : Type 0} {H : V → Type 0} (m : PolicyContext V H) (promise : Option ResolverPromise) (e : LockEntry) (b : Bool) → IsTrue b ↔ HasManifest promise e → b ≡ false → IsTrue false ↔ Locked m promise e
not_led m promise e b exact is = (λ h. absurd (cc h), λ l. absurd (cc (sym is ∙ exact.1 (manifest_of m promise e l))))

pub if_signed : {V : Type 0} {H : V → Type 0} (m : PolicyContext V H) (promise : Option ResolverPromise) (e : LockEntry) (b c d : Bool) → IsTrue b ↔ IsNamed e → b ≡ true → IsTrue c ↔ HasManifest promise e → c ≡ true
    → IsTrue d ↔ IsSigned m e → IsTrue d ↔ Locked m promise e
if_signed m promise e b c d named named_is led led_is signed = (
  λ h. locked_from m promise e (named.0 named_is) (led.0 led_is) (signed.0 h),
  λ l. signed.1 (signed_of m promise e l),
)

-- ---- the entry of a chain

abbrev Accepted : List (List ℕ) → OciDescriptor → Type 0
Accepted accepted x = Contains accepted x.media_type

layers_some : (accepted : List (List ℕ)) (xs : List OciDescriptor) (layers : List ImageLayer) → LayersLink accepted xs layers → 0 < length layers → 0 < length xs
layers_some accepted [] [] link some = some
layers_some accepted [] (layer ∷ layers) link some = absurd link
layers_some accepted (x ∷ xs) layers link some = omega arith

layers_accepted : (accepted : List (List ℕ)) (xs : List OciDescriptor) (layers : List ImageLayer) → LayersLink accepted xs layers → All (Accepted accepted) xs
layers_accepted accepted [] [] link = All-nil (Accepted accepted)
layers_accepted accepted [] (layer ∷ layers) link = absurd link
layers_accepted accepted (x ∷ xs) [] link = absurd link
layers_accepted accepted (x ∷ xs) (layer ∷ layers) link =
    All-cons (Accepted accepted) x xs (subst (λ (t : List ℕ). Contains accepted t) link.0.media_type link.0.allowed) (layers_accepted accepted xs layers link.1)

pub chain_locked : {V : Type 0} {H : V → Type 0} (m : PolicyContext V H) (image : Reference) (accepted : List (List ℕ)) (promise : Option ResolverPromise) (found : VerifiedImage)
    → Chain m image accepted promise found → reads_back image ≡ true → Locked m promise (entry_with (whole_text image) accepted found)
chain_locked m image accepted promise found chain reads = record {
  image = image;
  whole = refl;
  reads = reads;
  found = found;
  is = refl;
  named = chain.named;
  asked = chain.asked;
  manifest = chain.manifest;
  some = layers_some accepted found.manifest.layers found.layers chain.layers chain.some;
  accepted = layers_accepted accepted found.manifest.layers found.layers chain.layers;
  signature = chain.signature;
}
