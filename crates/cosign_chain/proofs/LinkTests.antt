-- The tests of the links decide the links, and a chain has its links.
use Rattle.std.proofs.Common.{◌≡◌, inl, inr, ◌↔◌, ◌&&◌, ◌<◌, ℕ, Bool, true, false, nat_lt, IsTrue, List, [], ◌∷◌, bytes_eq, Option, Some, None, Contains, length, refl, ap, arith}
use Rattle.std.specs.Prelude.{◌==◌}
use Rattle.std.specs.Bool.{Decides}
use Rattle.std.specs.List.{list_any, list_all, zip}
use Rattle.std.specs.FinMap.{FinMap, entries, same_entries_map}
use Rattle.std.proofs.lemmas.Slice.Eq.{bytes_eq-Decides, slice_eq-Decides}
use Rattle.std.proofs.lemmas.Bool.{ltb-true, lt-ltb}
use Rattle.std.proofs.lemmas.Bool.Decides.{Decides-eqb}
use Rattle.std.proofs.lemmas.Map.Views.{Contains-from_any, list_any-from_Contains}
use Rattle.std.specs.Cmp.Lexicographic.{nat_list_eq_equiv}
use Rattle.json_values.specs.Places.{by_bytes}
use Rattle.oci_names.specs.declared.reference.Reference.{Reference}
use Rattle.oci_names.specs.Reference.{digest_of}
use Rattle.oci_digests.specs.Names.{Names, names}
use Rattle.oci_digests.proofs.Equal.{named}
use Rattle.oci_manifests.specs.declared.manifest.OciImageManifest.{OciImageManifest}
use Rattle.oci_manifests.specs.declared.descriptor.OciDescriptor.{OciDescriptor}
use Rattle.oci_manifests.specs.declared.blob.ImageLayer.{ImageLayer}
use Rattle.oci_manifests.specs.declared.blob.Config.{Config}
use Rattle.cosign_layers.specs.Satisfying.{PolicyContext}
use Rattle.oci_manifests.specs.declared.promise.ResolverPromise.{ResolverPromise}
use Rattle.cosign_chain.specs.Chain.{ConfigLinks, LayerLinks, LayersLink, FirstIsManifest, LeadsToManifest, Chain}
use Rattle.cosign_chain.specs.Links.{ManifestLinks, Links, named_by, same_annotations, has_manifest, has_config, is_layer_of, has_layers, is_linked}
use Rattle.cosign_chain.specs.declared.image.VerifiedImage.{VerifiedImage}

pub both : {P Q : Type 0} (a b : Bool) → Decides a P → Decides b Q → Decides (a && b) (P × Q)
both true true p q = (λ h. (p.0 refl, q.0 refl), λ h. refl)
both true false p q = (λ h. absurd (cc h), λ h. q.1 h.1)
both false b p q = (λ h. absurd (cc h), λ h. p.1 h.0)

split : (a b : Bool) → (a && b) ≡ true → (a ≡ true) × (b ≡ true)
split true b h = (refl, h)
split false b h = absurd (cc h)

joined : (a b : Bool) → a ≡ true → b ≡ true → (a && b) ≡ true
joined true b h i = i
joined false b h i = absurd (cc h)

pub more : {P Q : Type 0} {b : Bool} → (P → Q) → (Q → P) → Decides b P → Decides b Q
more to from d = (λ h. to (d.0 h), λ q. d.1 (from q))

-- ---- annotations

entry : (a b : List ℕ × List ℕ) → Decides (bytes_eq a.0 b.0 && bytes_eq a.1 b.1) (a ≡ b)
entry a b = more (λ h. rw (h.0, h.1) refl) (λ is. (ap (λ p. p.0) is, ap (λ p. p.1) is)) (both (bytes_eq a.0 b.0) (bytes_eq a.1 b.1) (bytes_eq-Decides a.0 b.0) (bytes_eq-Decides a.1 b.1))

pub some_same : {A : Type 0} (a b : A) → (let o : Option A = Some a in o) ≡ Some b → a ≡ b
some_same a b is = cc is

pub annotations : (a b : Option (FinMap by_bytes (List ℕ))) → Decides (same_annotations a b) (a ≡ b)
annotations None None = (λ h. refl, λ h. refl)
annotations None (Some b) = (λ h. absurd (cc h), λ h. absurd (cc h))
annotations (Some a) None = (λ h. absurd (cc h), λ h. absurd (cc h))
annotations (Some a) (Some b) = more (λ is. ap Some (same_entries_map a b is)) (λ is. ap entries (some_same a b is)) (slice_eq-Decides entry (entries a) (entries b) _ refl)

-- ---- parts

asked : (o : Option (List ℕ)) (bytes : List ℕ) → Decides (named_by o bytes) ((digest : List ℕ) → o ≡ Some digest → Names digest bytes)
asked None bytes = (λ h digest is. absurd (cc is), λ h. refl)
asked (Some own) bytes = more (λ n digest is. let same : own ≡ digest = some_same own digest is in rw (← same) n) (λ h. h own refl) (named own bytes)

manifest : (v : VerifiedImage) (o : Option (List ℕ)) → Decides (has_manifest v o) (ManifestLinks v o)
manifest v None = both (bytes_eq v.manifest_bytes v.first) (bytes_eq v.manifest_digest v.digest) (bytes_eq-Decides v.manifest_bytes v.first) (bytes_eq-Decides v.manifest_digest v.digest)
manifest v (Some digest) = both (bytes_eq digest v.digest) (names v.manifest_digest v.manifest_bytes) (bytes_eq-Decides digest v.digest) (named v.manifest_digest v.manifest_bytes)

config : (m : OciImageManifest) (c : Config) → Decides (has_config m c) (ConfigLinks m c)
config m c = more (λ h. record { named = h.0.0; media_type = h.0.1; annotations = h.1 }) (λ l. ((l.named, l.media_type), l.annotations))
    (both (names m.config.digest c.content && bytes_eq c.media_type m.config.media_type) (same_annotations c.annotations m.annotations) (both (names m.config.digest c.content) (bytes_eq c.media_type m.config.media_type) (named m.config.digest c.content) (bytes_eq-Decides c.media_type m.config.media_type)) (annotations c.annotations m.annotations))

accepted_in : (accepted : List (List ℕ)) (kind : List ℕ) → Decides (list_any (bytes_eq kind) accepted) (Contains accepted kind)
accepted_in accepted kind = (λ h. Contains-from_any (λ x y same. (bytes_eq-Decides x y).0 same) kind accepted h, λ c. list_any-from_Contains nat_list_eq_equiv kind accepted c)

layer : (accepted : List (List ℕ)) (x : OciDescriptor) (l : ImageLayer) → Decides (is_layer_of accepted x l) (LayerLinks accepted x l)
layer accepted x l = more (λ h. record { named = h.0.0.0; media_type = h.0.0.1; annotations = h.0.1; allowed = h.1 }) (λ l. (((l.named, l.media_type), l.annotations), l.allowed))
    (both (names x.digest l.content && bytes_eq l.media_type x.media_type && same_annotations l.annotations x.annotations) (list_any (bytes_eq l.media_type) accepted)
    (both (names x.digest l.content && bytes_eq l.media_type x.media_type) (same_annotations l.annotations x.annotations) (both (names x.digest l.content) (bytes_eq l.media_type x.media_type) (named x.digest l.content) (bytes_eq-Decides l.media_type x.media_type)) (annotations l.annotations x.annotations))
    (accepted_in accepted l.media_type))

-- the test of a descriptor and the layer at its index
abbrev at_place : List (List ℕ) → OciDescriptor × ImageLayer → Bool
at_place accepted p = is_layer_of accepted p.0 p.1

layers_to : (accepted : List (List ℕ)) (xs : List OciDescriptor) (ls : List ImageLayer) → length xs ≡ length ls → list_all (at_place accepted) (zip xs ls) ≡ true → LayersLink accepted xs ls
layers_to accepted [] [] same all = tt
layers_to accepted [] (l ∷ ls) same all = absurd (omega (arith, same))
layers_to accepted (x ∷ xs) [] same all = absurd (omega (arith, same))
layers_to accepted (x ∷ xs) (l ∷ ls) same all = let two = split (is_layer_of accepted x l) (list_all (at_place accepted) (zip xs ls)) all in ((layer accepted x l).0 two.0, layers_to accepted xs ls (omega (arith, same)) two.1)

layers_from : (accepted : List (List ℕ)) (xs : List OciDescriptor) (ls : List ImageLayer) → LayersLink accepted xs ls → (length xs ≡ length ls) × (list_all (at_place accepted) (zip xs ls) ≡ true)
layers_from accepted [] [] h = (refl, refl)
layers_from accepted [] (l ∷ ls) h = absurd h
layers_from accepted (x ∷ xs) [] h = absurd h
layers_from accepted (x ∷ xs) (l ∷ ls) h = let rest = layers_from accepted xs ls h.1 in (omega (arith, rest.0), joined (is_layer_of accepted x l) (list_all (at_place accepted) (zip xs ls)) ((layer accepted x l).1 h.0) rest.1)

layers : (accepted : List (List ℕ)) (xs : List OciDescriptor) (ls : List ImageLayer) → Decides (has_layers accepted xs ls) (LayersLink accepted xs ls)
layers accepted xs ls = more (λ h. layers_to accepted xs ls h.0 h.1) (λ h. layers_from accepted xs ls h) (both (length xs == length ls) (list_all (at_place accepted) (zip xs ls)) (Decides-eqb (length xs) (length ls)) (λ h. h, λ h. h))

some : (n : ℕ) → Decides (nat_lt 0 n) (0 < n)
some n = (λ h. ltb-true 0 n h, λ h. lt-ltb 0 n h)

pub linked : (image : Reference) (accepted : List (List ℕ)) (v : VerifiedImage) (result : Bool) → result ≡ is_linked image accepted v → IsTrue result ↔ Links image accepted v
linked image accepted v result is = rw is (more to from (both _ _ (both _ _ (both _ _ (both _ _ (both (names v.digest v.first) (named_by (digest_of image) v.first) (named v.digest v.first) (asked (digest_of image) v.first)) (manifest v v.list_digest)) (config v.manifest v.config)) (some (length v.layers))) (layers accepted v.manifest.layers v.layers))) where
  to : (((((Names v.digest v.first × ((digest : List ℕ) → digest_of image ≡ Some digest → Names digest v.first)) × ManifestLinks v v.list_digest) × ConfigLinks v.manifest v.config) × (0 < length v.layers)) × LayersLink accepted v.manifest.layers v.layers) → Links image accepted v
  to h = record { named = h.0.0.0.0.0; asked = h.0.0.0.0.1; manifest = h.0.0.0.1; config = h.0.0.1; some = h.0.1; layers = h.1 }

  from : Links image accepted v → (((((Names v.digest v.first × ((digest : List ℕ) → digest_of image ≡ Some digest → Names digest v.first)) × ManifestLinks v v.list_digest) × ConfigLinks v.manifest v.config) × (0 < length v.layers)) × LayersLink accepted v.manifest.layers v.layers)
  from l = (((((l.named, l.asked), l.manifest), l.config), l.some), l.layers)

-- ---- a chain has its links

of_manifest : (v : VerifiedImage) → FirstIsManifest v → ManifestLinks v v.list_digest
of_manifest v first = rw first.no_list (first.bytes, first.digest)

manifest_links : (promise : Option ResolverPromise) (v : VerifiedImage) → LeadsToManifest promise v
    → ManifestLinks v v.list_digest
manifest_links None v first = of_manifest v first
manifest_links (Some promise) v (inl first) = of_manifest v first
manifest_links (Some promise) v (inr first) = rw first.list (refl, first.named)

pub chain_links : {V : Type 0} {H : V → Type 0} {policy_context : PolicyContext V H} {image : Reference}
    {accepted : List (List ℕ)} {promise : Option ResolverPromise} {v : VerifiedImage}
    → Chain policy_context image accepted promise v → Links image accepted v
chain_links {promise = promise} {v = v} chain = record {
  named = chain.named;
  asked = chain.asked;
  manifest = manifest_links promise v chain.manifest;
  config = chain.config;
  some = chain.some;
  layers = chain.layers;
}
