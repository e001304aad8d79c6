-- Whether the first document of an entry leads to a manifest with layers of accepted types.
use Rattle.std.proofs.Common.{◌≡◌, ◌⊎◌, inl, inr, ◌↔◌, ◌&&◌, ◌<◌, ℕ, Bool, true, false, nat_lt, IsTrue, List, [], ◌∷◌, bytes_eq, Option, Some, None, Contains, length, Ok, Err, Result, refl, sym, ap, ◌∙◌}
use Rattle.std.specs.Prelude.{IfOk, option_and_then}
use Rattle.std.specs.Bool.{Decides}
use Rattle.std.specs.FinMap.{empty}
use Rattle.std.specs.List.{list_any, list_all, All}
use Rattle.std.specs.Cmp.Lexicographic.{nat_list_eq_equiv}
use Rattle.std.specs.declared.alloc.AllocError.{AllocError}
use Rattle.std.proofs.lemmas.Bool.{ltb-true, lt-ltb}
use Rattle.std.proofs.lemmas.List.Elements.{All-nil, All-cons, All-head, All-tail}
use Rattle.std.proofs.lemmas.Map.Views.{Contains-from_any, list_any-from_Contains}
use Rattle.std.proofs.lemmas.Slice.Eq.{bytes_eq-Decides}
use Rattle.serde_json.specs.Data.{Data}
use Rattle.json_values.specs.JsonText.{json_of}
use Rattle.oci_digests.specs.Names.{Names, names}
use Rattle.oci_digests.proofs.Equal.{named}
use Rattle.oci_manifests.specs.Promise.{Picks, picks}
use Rattle.oci_manifests.specs.declared.descriptor.OciDescriptor.{OciDescriptor}
use Rattle.oci_manifests.specs.declared.promise.ResolverPromise.{ResolverPromise}
use Rattle.oci_manifests.proofs.ExactPicks.{picked}
use Rattle.oci_manifests.specs.Document.{document_of}
use Rattle.oci_manifests.specs.Versioned.{is_versioned}
use Rattle.oci_manifests.specs.declared.document.OciManifest.{OciManifest}
use Rattle.oci_manifests.specs.declared.document.OciManifest.TheVariants.{Image, ImageIndex}
use Rattle.oci_manifests.specs.declared.index.OciImageIndex.{OciImageIndex}
use Rattle.oci_manifests.specs.declared.manifest.OciImageManifest.{OciImageManifest}
use Rattle.cosign_parts.specs.declared.layer.LayerKind.TheVariants.{Payload}
use Rattle.cosign_chain.specs.Chain.{IsDocument, FirstIsManifest, FirstIsIndex, LeadsToManifest}
use Rattle.cosign_chain.specs.Documents.{document_by, document_in}
use Rattle.cosign_chain.specs.declared.image.VerifiedImage.{VerifiedImage}
use Rattle.cosign_chain.proofs.LinkTests.{both, more}
use Rattle.pull_lock.specs.Tests.{HasManifest, is_accepted, are_accepted, is_manifest_with, is_first, is_led, leads}
use Rattle.pull_lock.specs.declared.lock.LockEntry.{LockEntry}

-- ---- the layers of a manifest

Accepted : List (List ℕ) → OciDescriptor → Type 0
Accepted accepted x = Contains accepted x.media_type

one_accepted : (accepted : List (List ℕ)) (x : OciDescriptor) → Decides (is_accepted accepted x) (Accepted accepted x)
unfolding Accepted
one_accepted accepted x = (
  λ h. Contains-from_any (λ a b same. (bytes_eq-Decides a b).0 same) x.media_type accepted h,
  λ c. list_any-from_Contains nat_list_eq_equiv x.media_type accepted c,
)

each_accepted : (accepted : List (List ℕ)) (xs : List OciDescriptor) → Decides (list_all (is_accepted accepted) xs) (All (Accepted accepted) xs)
each_accepted accepted [] = (λ h. All-nil (Accepted accepted), λ h. refl)
each_accepted accepted (x ∷ xs) = more
    (λ h. All-cons (Accepted accepted) x xs h.0 h.1)
    (λ all. (All-head (Accepted accepted) x xs all, All-tail (Accepted accepted) x xs all))
    (both (is_accepted accepted x) (list_all (is_accepted accepted) xs) (one_accepted accepted x) (each_accepted accepted xs))

all_accepted : (accepted : List (List ℕ)) (m : OciImageManifest) → Decides (are_accepted accepted m) ((0 < length m.layers) × All (Accepted accepted) m.layers)
all_accepted accepted m =
    both (nat_lt 0 (length m.layers)) (list_all (is_accepted accepted) m.layers) (λ h. ltb-true 0 (length m.layers) h, λ h. lt-ltb 0 (length m.layers) h) (each_accepted accepted m.layers)

-- ---- what the bytes are

by_value : (versioned : Bool) (o : Option OciManifest) (document : OciManifest) → document_by versioned o ≡ Some document → (versioned ≡ true) × (o ≡ Some document)
by_value true o document is = (refl, is)
by_value false o document is = absurd (cc is)

by_json : (bytes : List ℕ) (o : Option Data) (document : OciManifest) → json_of bytes ≡ o
    → option_and_then (λ d. document_by (is_versioned d) (document_of d)) o ≡ Some document → IsDocument bytes document
by_json bytes None document found is = absurd (cc is)
by_json bytes (Some d) document found is =
    let parts = by_value (is_versioned d) (document_of d) document is in
    record { value = d; json = found; versioned = parts.0; reads = parts.1 }

is_document : (bytes : List ℕ) (document : OciManifest) → document_in bytes ≡ Some document → IsDocument bytes document
is_document bytes document is = by_json bytes (json_of bytes) document refl is

pub in_bytes : (bytes : List ℕ) (document : OciManifest) → IsDocument bytes document → document_in bytes ≡ Some document
in_bytes bytes document is =
    ap (λ o. option_and_then (λ d. document_by (is_versioned d) (document_of d)) o) is.json
    ∙ ap (λ b. document_by b (document_of is.value)) is.versioned ∙ is.reads

same_manifest : (a b : OciImageManifest) → (let o : Option OciManifest = Some (Image a) in o) ≡ Some (Image b) → a ≡ b
same_manifest a b is = cc is

same_index : (a b : OciImageIndex) → (let o : Option OciManifest = Some (ImageIndex a) in o) ≡ Some (ImageIndex b) → a ≡ b
same_index a b is = cc is

-- ---- an image of the entry's documents

-- with no configuration and no layers, which are not spoken of
abbrev image_by : LockEntry → OciImageManifest → Option (List ℕ) → VerifiedImage
image_by e manifest list_digest = record {
  digest = e.digest;
  first = e.first;
  manifest_bytes = e.manifest;
  manifest = manifest;
  manifest_digest = e.manifest_digest;
  list_digest = list_digest;
  config = record { content = []; media_type = []; annotations = None };
  layers = [];
  signature = record {
    kind = Payload;
    content = [];
    oci_digest = [];
    annotations = empty;
    simple_signing = None;
    signature = [];
    certificate_signature = None;
    bundle = None;
  };
}

of_image : (promise : Option ResolverPromise) (e : LockEntry) (manifest : OciImageManifest) (list_digest : Option (List ℕ))
    → LeadsToManifest promise (image_by e manifest list_digest) → (0 < length manifest.layers) × All (Accepted e.accepted) manifest.layers → HasManifest promise e
unfolding Accepted
of_image promise e manifest list_digest led accepted = record {
  found = image_by e manifest list_digest;
  digest = refl;
  first = refl;
  manifest_digest = refl;
  bytes = refl;
  manifest = led;
  some = accepted.0;
  accepted = accepted.1;
}

by_first : (promise : Option ResolverPromise) (v : VerifiedImage) → FirstIsManifest v → LeadsToManifest promise v
by_first None v first = first
by_first (Some promise) v first = inl first

-- ---- the tests

-- the document is a manifest with layers, each of an accepted type
record IsManifestWith (accepted : List (List ℕ)) (o : Option OciManifest) : Type 0 where
  manifest : OciImageManifest
  is : o ≡ Some (Image manifest)
  layers : (0 < length manifest.layers) × All (Accepted accepted) manifest.layers

with_to : (accepted : List (List ℕ)) (o : Option OciManifest) → is_manifest_with accepted o ≡ true → IsManifestWith accepted o
with_to accepted None h = absurd (cc h)
with_to accepted (Some (Image manifest)) h = record { manifest = manifest; is = refl; layers = (all_accepted accepted manifest).0 h }
with_to accepted (Some (ImageIndex index)) h = absurd (cc h)

with_from : (accepted : List (List ℕ)) (o : Option OciManifest) → IsManifestWith accepted o → is_manifest_with accepted o ≡ true
with_from accepted o w = rw w.is ((all_accepted accepted w.manifest).1 w.layers)

-- the tests of an index
index_tests : (promise : ResolverPromise) (e : LockEntry) (index : OciImageIndex)
    → Decides (is_led (Some promise) e index) ((Picks promise index.manifests e.manifest_digest × Names e.manifest_digest e.manifest) × IsManifestWith e.accepted (document_in e.manifest))
index_tests promise e index =
    both (picks promise index.manifests e.manifest_digest && names e.manifest_digest e.manifest) (is_manifest_with e.accepted (document_in e.manifest))
    (both (picks promise index.manifests e.manifest_digest) (names e.manifest_digest e.manifest)
    (picked promise index.manifests e.manifest_digest _ refl) (named e.manifest_digest e.manifest))
    (λ t. with_to e.accepted (document_in e.manifest) t, λ w. with_from e.accepted (document_in e.manifest) w)

-- the tests of a manifest
manifest_tests : (e : LockEntry) (manifest : OciImageManifest)
    → Decides (is_first e manifest) (((e.manifest ≡ e.first) × (e.manifest_digest ≡ e.digest)) × ((0 < length manifest.layers) × All (Accepted e.accepted) manifest.layers))
manifest_tests e manifest =
    both (bytes_eq e.manifest e.first && bytes_eq e.manifest_digest e.digest) (are_accepted e.accepted manifest)
    (both (bytes_eq e.manifest e.first) (bytes_eq e.manifest_digest e.digest) (bytes_eq-Decides e.manifest e.first) (bytes_eq-Decides e.manifest_digest e.digest))
    (all_accepted e.accepted manifest)

-- ---- the first document is the manifest

first_to : (promise : Option ResolverPromise) (e : LockEntry) (manifest : OciImageManifest) → document_in e.first ≡ Some (Image manifest)
    → is_first e manifest ≡ true → HasManifest promise e
first_to promise e manifest found h =
    by ((manifest_tests e manifest).0 h) where
      by : (((e.manifest ≡ e.first) × (e.manifest_digest ≡ e.digest)) × ((0 < length manifest.layers) × All (Accepted e.accepted) manifest.layers)) → HasManifest promise e
      by ((bytes, same), layers) =
          of_image promise e manifest None
          (by_first promise (image_by e manifest None) (record { reads = is_document e.first (Image manifest) found; bytes = bytes; digest = same; no_list = refl }))
          layers

first_from : (promise : Option ResolverPromise) (e : LockEntry) (manifest : OciImageManifest) (h : HasManifest promise e) → document_in e.first ≡ Some (Image manifest)
    → FirstIsManifest h.found → is_first e manifest ≡ true
unfolding Accepted
first_from promise e manifest h found first =
    let same : manifest ≡ h.found.manifest = same_manifest manifest h.found.manifest (sym found ∙ ap document_in h.first ∙ in_bytes h.found.first (Image h.found.manifest) first.reads) in
    (manifest_tests e manifest).1 (
      (h.bytes ∙ first.bytes ∙ sym h.first, h.manifest_digest ∙ first.digest ∙ sym h.digest),
      rw same (h.some, h.accepted),
    )

-- ---- the first document is an index

led_to : (promise : ResolverPromise) (e : LockEntry) (index : OciImageIndex) → document_in e.first ≡ Some (ImageIndex index)
    → is_led (Some promise) e index ≡ true → HasManifest (Some promise) e
led_to promise e index found h =
    by ((index_tests promise e index).0 h) where
      by : ((Picks promise index.manifests e.manifest_digest × Names e.manifest_digest e.manifest) × IsManifestWith e.accepted (document_in e.manifest)) → HasManifest (Some promise) e
      by ((picked_by, names_it), w) =
          of_image (Some promise) e w.manifest (Some e.digest)
          (inr (record {
            index = index;
            indexed = is_document e.first (ImageIndex index) found;
            picked = picked_by;
            named = names_it;
            reads = is_document e.manifest (Image w.manifest) w.is;
            list = refl;
          }))
          w.layers

led_from : (promise : ResolverPromise) (e : LockEntry) (index : OciImageIndex) (h : HasManifest (Some promise) e) → document_in e.first ≡ Some (ImageIndex index)
    → FirstIsIndex promise h.found → is_led (Some promise) e index ≡ true
unfolding Accepted
led_from promise e index h found first =
    let same : first.index ≡ index = same_index first.index index (sym (in_bytes h.found.first (ImageIndex first.index) first.indexed) ∙ ap document_in (sym h.first) ∙ found) in
    (index_tests promise e index).1 (
      (rw (← same, h.manifest_digest) first.picked, rw (h.manifest_digest, h.bytes) first.named),
      record {
        manifest = h.found.manifest;
        is = ap document_in h.bytes ∙ in_bytes h.found.manifest_bytes (Image h.found.manifest) first.reads;
        layers = (h.some, h.accepted);
      },
    )

-- ---- either

no_document : (promise : Option ResolverPromise) (e : LockEntry) (document : OciManifest) (h : HasManifest promise e) → document_in e.first ≡ None → IsDocument h.found.first document → ⊥
no_document promise e document h found is = absurd (cc (sym found ∙ ap document_in h.first ∙ in_bytes h.found.first document is))

no_index : (promise : Option ResolverPromise) (e : LockEntry) (manifest : OciImageManifest) (index : OciImageIndex) (h : HasManifest promise e)
    → document_in e.first ≡ Some (Image manifest) → IsDocument h.found.first (ImageIndex index) → ⊥
no_index promise e manifest index h found is = absurd (cc (sym found ∙ ap document_in h.first ∙ in_bytes h.found.first (ImageIndex index) is))

no_manifest : (promise : Option ResolverPromise) (e : LockEntry) (manifest : OciImageManifest) (index : OciImageIndex) (h : HasManifest promise e)
    → document_in e.first ≡ Some (ImageIndex index) → IsDocument h.found.first (Image manifest) → ⊥
no_manifest promise e manifest index h found is = absurd (cc (sym found ∙ ap document_in h.first ∙ in_bytes h.found.first (Image manifest) is))

leads_by : (promise : Option ResolverPromise) (e : LockEntry) (o : Option OciManifest) → document_in e.first ≡ o → Decides (leads promise e o) (HasManifest promise e)
leads_by None e None found = (λ h. absurd (cc h), λ m. absurd (no_document None e (Image m.found.manifest) m found m.manifest.reads))
leads_by (Some promise) e None found = (λ h. absurd (cc h), λ m. by m m.manifest) where
  by : (m : HasManifest (Some promise) e) → (FirstIsManifest m.found ⊎ FirstIsIndex promise m.found) → leads (Some promise) e None ≡ true
  by m (inl first) = absurd (no_document (Some promise) e (Image m.found.manifest) m found first.reads)
  by m (inr first) = absurd (no_document (Some promise) e (ImageIndex first.index) m found first.indexed)
leads_by None e (Some (Image manifest)) found = (λ h. first_to None e manifest found h, λ m. first_from None e manifest m found m.manifest)
leads_by (Some promise) e (Some (Image manifest)) found = (λ h. first_to (Some promise) e manifest found h, λ m. by m m.manifest) where
  by : (m : HasManifest (Some promise) e) → (FirstIsManifest m.found ⊎ FirstIsIndex promise m.found) → is_first e manifest ≡ true
  by m (inl first) = first_from (Some promise) e manifest m found first
  by m (inr first) = absurd (no_index (Some promise) e manifest first.index m found first.indexed)
leads_by None e (Some (ImageIndex index)) found = (λ h. absurd (cc h), λ m. absurd (no_manifest None e m.found.manifest index m found m.manifest.reads))
leads_by (Some promise) e (Some (ImageIndex index)) found = (λ h. led_to promise e index found h, λ m. by m m.manifest) where
  by : (m : HasManifest (Some promise) e) → (FirstIsManifest m.found ⊎ FirstIsIndex promise m.found) → is_led (Some promise) e index ≡ true
  by m (inl first) = absurd (no_manifest (Some promise) e m.found.manifest index m found first.reads)
  by m (inr first) = led_from promise e index m found first

pub led : (promise : Option ResolverPromise) (e : LockEntry) (r : Result Bool AllocError)
    → IfOk r (λ b. b ≡ leads promise e (document_in e.first)) → IfOk r (λ b. IsTrue b ↔ HasManifest promise e)
led promise e (Ok b) is = rw is (leads_by promise e (document_in e.first) refl)
led promise e (Err error) is = is
