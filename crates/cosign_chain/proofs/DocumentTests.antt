-- The tests of documents decide that the first document leads to the manifest.
use Rattle.std.proofs.Common.{◌≡◌, ◌⊎◌, inl, inr, ◌↔◌, ℕ, Bool, true, false, IsTrue, List, bytes_eq, Option, Some, None, option_and_then, IsSome, Result, Ok, Err, IfOk, refl, sym, ap, ◌∙◌}
use Rattle.std.specs.Bool.{Decides}
use Rattle.std.specs.declared.alloc.AllocError.{AllocError}
use Rattle.std.proofs.lemmas.Slice.Eq.{bytes_eq-Decides}
use Rattle.serde_json.specs.Data.{Data}
use Rattle.json_values.specs.JsonText.{json_of}
use Rattle.oci_digests.specs.Names.{names}
use Rattle.oci_digests.proofs.Equal.{named}
use Rattle.oci_manifests.specs.Document.{document_of, one_of}
use Rattle.oci_manifests.specs.Index.{index_of}
use Rattle.oci_manifests.specs.Manifest.{manifest_of}
use Rattle.oci_manifests.specs.Versioned.{is_versioned}
use Rattle.oci_manifests.specs.declared.document.OciManifest.{OciManifest}
use Rattle.oci_manifests.specs.declared.document.OciManifest.TheVariants.{Image, ImageIndex}
use Rattle.oci_manifests.specs.declared.index.OciImageIndex.{OciImageIndex}
use Rattle.oci_manifests.specs.declared.manifest.OciImageManifest.{OciImageManifest}
use Rattle.oci_manifests.specs.Promise.{picks}
use Rattle.oci_manifests.specs.declared.promise.ResolverPromise.{ResolverPromise}
use Rattle.oci_manifests.proofs.ExactPicks.{picked}
use Rattle.cosign_chain.specs.Chain.{IsDocument, ReadsAs, FirstIsManifest, FirstIsIndex, LeadsToManifest}
use Rattle.cosign_chain.specs.Documents.{document_by, document_in, is_manifest, is_first, is_led, leads}
use Rattle.cosign_chain.specs.SameManifest.{same_manifest}
use Rattle.cosign_chain.specs.declared.image.VerifiedImage.{VerifiedImage}
use Rattle.cosign_chain.proofs.LinkTests.{both}
use Rattle.cosign_chain.proofs.SameManifests.{manifests, texts}

-- ---- what a value parses as

pub no_table : (d : Data) → manifest_of d ≡ None → index_of d ≡ None → None ≡ document_of d
unfolding document_of
no_table d manifest index = rw (manifest, index) refl

both_some : (m : Option OciImageManifest) (x : Option OciImageIndex) → IsSome m → IsSome x → None ≡ one_of m x
both_some None x m-is x-is = absurd (cc m-is)
both_some (Some m) None m-is x-is = absurd (cc x-is)
both_some (Some m) (Some x) m-is x-is = refl

pub two_tables : (d : Data) → IsSome (manifest_of d) → IsSome (index_of d) → None ≡ document_of d
unfolding document_of
two_tables d manifest index = both_some (manifest_of d) (index_of d) manifest index

-- ---- what the bytes are

by_value : (versioned : Bool) (o : Option OciManifest) (document : OciManifest) → document_by versioned o ≡ Some document
    → (versioned ≡ true) × (o ≡ Some document)
by_value true o document is = (refl, is)
by_value false o document is = absurd (cc is)

by_json : (bytes : List ℕ) (o : Option Data) (document : OciManifest) → json_of bytes ≡ o
    → option_and_then (λ d. document_by (is_versioned d) (document_of d)) o ≡ Some document → IsDocument bytes document
by_json bytes None document found is = absurd (cc is)
by_json bytes (Some d) document found is = let parts = by_value (is_versioned d) (document_of d) document is in
    record { value = d; json = found; versioned = parts.0; reads = parts.1 }

is_document : (bytes : List ℕ) (document : OciManifest) → document_in bytes ≡ Some document → IsDocument bytes document
is_document bytes document is = by_json bytes (json_of bytes) document refl is

in_bytes : (bytes : List ℕ) (document : OciManifest) → IsDocument bytes document → document_in bytes ≡ Some document
in_bytes bytes document is =
    ap (λ o. option_and_then (λ d. document_by (is_versioned d) (document_of d)) o) is.json
    ∙ ap (λ b. document_by b (document_of is.value)) is.versioned ∙ is.reads

-- ---- which manifest the bytes are

image_is : (manifest : OciImageManifest) (o : Option OciManifest) → is_manifest manifest o ≡ true → o ≡ Some (Image manifest)
image_is manifest None h = absurd (cc h)
image_is manifest (Some (Image own)) h = ap (λ m. Some (Image m)) ((manifests own manifest).0 h)
image_is manifest (Some (ImageIndex index)) h = absurd (cc h)

is_image : (manifest : OciImageManifest) (o : Option OciManifest) → o ≡ Some (Image manifest) → is_manifest manifest o ≡ true
is_image manifest o is = rw is ((manifests manifest manifest).1 refl)

reads_as : (manifest : OciImageManifest) (bytes : List ℕ)
    → Decides (is_manifest manifest (document_in bytes)) (ReadsAs bytes manifest)
reads_as manifest bytes = (
  λ h. is_document bytes (Image manifest) (image_is manifest (document_in bytes) h),
  λ r. is_image manifest (document_in bytes) (in_bytes bytes (Image manifest) r),
)

-- ---- the first document

index_same : (a b : OciImageIndex) → (let o : Option OciManifest = Some (ImageIndex a) in o) ≡ Some (ImageIndex b) → a ≡ b
index_same a b is = cc is

image_same : (a b : OciImageManifest) → (let o : Option OciManifest = Some (Image a) in o) ≡ Some (Image b) → a ≡ b
image_same a b is = cc is

first_to : (v : VerifiedImage) (manifest : OciImageManifest) → document_in v.first ≡ Some (Image manifest)
    → is_first v manifest ≡ true → FirstIsManifest v
first_to v manifest found h =
    let parts = (both _ _ (both _ _ (both (same_manifest manifest v.manifest) (bytes_eq v.manifest_bytes v.first)
    (manifests manifest v.manifest) (bytes_eq-Decides v.manifest_bytes v.first))
    (bytes_eq-Decides v.manifest_digest v.digest)) (texts v.list_digest None)).0 h in
    record {
      reads = is_document v.first (Image v.manifest) (found ∙ ap (λ m. Some (Image m)) parts.0.0.0);
      bytes = parts.0.0.1;
      digest = parts.0.1;
      no_list = parts.1;
    }

first_from : (v : VerifiedImage) (manifest : OciImageManifest) → document_in v.first ≡ Some (Image manifest)
    → FirstIsManifest v → is_first v manifest ≡ true
first_from v manifest found first =
    (both _ _ (both _ _ (both (same_manifest manifest v.manifest) (bytes_eq v.manifest_bytes v.first)
    (manifests manifest v.manifest) (bytes_eq-Decides v.manifest_bytes v.first))
    (bytes_eq-Decides v.manifest_digest v.digest)) (texts v.list_digest None)).1 (
      (
        (image_same manifest v.manifest (sym found ∙ in_bytes v.first (Image v.manifest) first.reads), first.bytes),
        first.digest,
      ),
      first.no_list,
    )

led_to : (promise : ResolverPromise) (v : VerifiedImage) (index : OciImageIndex)
    → document_in v.first ≡ Some (ImageIndex index) → is_led (Some promise) v index ≡ true → FirstIsIndex promise v
led_to promise v index found h =
    let parts = (both _ _ (both _ _ (both (picks promise index.manifests v.manifest_digest)
    (names v.manifest_digest v.manifest_bytes) (picked promise index.manifests v.manifest_digest _ refl)
    (named v.manifest_digest v.manifest_bytes)) (reads_as v.manifest v.manifest_bytes))
    (texts v.list_digest (Some v.digest))).0 h in
    record {
      index = index;
      indexed = is_document v.first (ImageIndex index) found;
      picked = parts.0.0.0;
      named = parts.0.0.1;
      reads = parts.0.1;
      list = parts.1;
    }

led_from : (promise : ResolverPromise) (v : VerifiedImage) (index : OciImageIndex)
    → document_in v.first ≡ Some (ImageIndex index) → FirstIsIndex promise v → is_led (Some promise) v index ≡ true
led_from promise v index found first =
    let same : first.index ≡ index =
    index_same first.index index (sym (in_bytes v.first (ImageIndex first.index) first.indexed) ∙ found) in
    (both _ _ (both _ _ (both (picks promise index.manifests v.manifest_digest)
    (names v.manifest_digest v.manifest_bytes) (picked promise index.manifests v.manifest_digest _ refl)
    (named v.manifest_digest v.manifest_bytes)) (reads_as v.manifest v.manifest_bytes))
    (texts v.list_digest (Some v.digest))).1
    (((rw (← same) first.picked, first.named), first.reads), first.list)

not_both : (v : VerifiedImage) (index : OciImageIndex) → document_in v.first ≡ Some (ImageIndex index)
    → FirstIsManifest v → ⊥
not_both v index found first = absurd (cc (sym found ∙ in_bytes v.first (Image v.manifest) first.reads))

not_either : (v : VerifiedImage) (manifest : OciImageManifest) (promise : ResolverPromise)
    → document_in v.first ≡ Some (Image manifest) → FirstIsIndex promise v → ⊥
not_either v manifest promise found first =
    absurd (cc (sym found ∙ in_bytes v.first (ImageIndex first.index) first.indexed))

leads_by : (promise : Option ResolverPromise) (v : VerifiedImage) (o : Option OciManifest) → document_in v.first ≡ o
    → Decides (leads promise v o) (LeadsToManifest promise v)
leads_by None v None found = (
  λ h. absurd (cc h),
  λ first. absurd (cc (sym found ∙ in_bytes v.first (Image v.manifest) first.reads)),
)
leads_by (Some promise) v None found = (λ h. absurd (cc h), λ c. none c) where
  none : (FirstIsManifest v ⊎ FirstIsIndex promise v) → leads (Some promise) v None ≡ true
  none (inl first) = absurd (cc (sym found ∙ in_bytes v.first (Image v.manifest) first.reads))
  none (inr first) = absurd (cc (sym found ∙ in_bytes v.first (ImageIndex first.index) first.indexed))
leads_by None v (Some (Image manifest)) found = (λ h. first_to v manifest found h, λ f. first_from v manifest found f)
leads_by (Some promise) v (Some (Image manifest)) found = (λ h. inl (first_to v manifest found h), λ c. from c) where
  from : (FirstIsManifest v ⊎ FirstIsIndex promise v) → is_first v manifest ≡ true
  from (inl first) = first_from v manifest found first
  from (inr first) = absurd (not_either v manifest promise found first)
leads_by None v (Some (ImageIndex index)) found = (λ h. absurd (cc h), λ f. absurd (not_both v index found f))
leads_by (Some promise) v (Some (ImageIndex index)) found = (λ h. inr (led_to promise v index found h), λ c. from c) where
  from : (FirstIsManifest v ⊎ FirstIsIndex promise v) → is_led (Some promise) v index ≡ true
  from (inl first) = absurd (not_both v index found first)
  from (inr first) = led_from promise v index found first

pub led : (promise : Option ResolverPromise) (v : VerifiedImage) (r : Result Bool AllocError)
    → IfOk r (λ b. b ≡ leads promise v (document_in v.first)) → IfOk r (λ b. IsTrue b ↔ LeadsToManifest promise v)
led promise v (Ok b) is = rw is (leads_by promise v (document_in v.first) refl)
led promise v (Err e) is = is
