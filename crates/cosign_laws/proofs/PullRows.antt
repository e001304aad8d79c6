-- What holds of each call of a pull, and of parts in sequence, holds of the whole pull.
use Rattle.std.specs.Prelude.{codes, bytes_eq, unwrap_or, if◌then◌else◌}
use Rattle.std.proofs.Common.{◌≡◌, ℕ, Bool, true, false, List, [], ◌∷◌, ◌++◌, is_some, Option, Some, None, Result, Ok, Err, refl, sym, ap}
use Rattle.oci_names.specs.Reference.{registry_of, whole_text, repository_of, resolved_registry, reads_back}
use Rattle.oci_names.specs.declared.reference.Reference.{Reference}
use Rattle.oci_auth.specs.declared.auth.RegistryAuth.{RegistryAuth}
use Rattle.oci_manifests.specs.declared.document.OciManifest.{OciManifest}
use Rattle.oci_manifests.specs.declared.document.OciManifest.TheVariants.{Image, ImageIndex}
use Rattle.oci_manifests.specs.declared.index.OciImageIndex.{OciImageIndex}
use Rattle.oci_manifests.specs.declared.index_entry.ImageIndexEntry.{ImageIndexEntry}
use Rattle.oci_manifests.specs.declared.manifest.OciImageManifest.{OciImageManifest}
use Rattle.oci_manifests.specs.declared.descriptor.OciDescriptor.{OciDescriptor}
use Rattle.oci_manifests.specs.declared.blob.ImageLayer.{ImageLayer}
use Rattle.oci_protocol.specs.Proto.{Proto, Done, bind, unless_refused, ◌>>=◌}
use Rattle.engine_terms.specs.Contexts.{Context}
use Rattle.engine_answers.specs.Index.{entry_found, entry_reference}
use Rattle.engine_requests.specs.Requests.{manifest_types}
use Rattle.engine_requests.specs.Sources.{Layer, described}
use Rattle.engine_rows.specs.Image.{layers_by, layers_accepted, layer_of}
use Rattle.registry_calls.specs.declared.error.SigstoreError.{SigstoreError}
use Rattle.registry_calls.specs.declared.error_context.Called.TheVariants.{Pull}
use Rattle.registry_calls.specs.ErrorContext.{with_error_context}
use Rattle.registry_calls.specs.Clients.{Kept, Row}
use Rattle.registry_calls.specs.Calls.{digest_call, manifest_call, image_call, referrers_call, document_call, blob_call}
use Rattle.shelf_laws.proofs.References.{Spelled, spelled}
use Rattle.cosign_layers.specs.Satisfying.{PolicyContext}
use Rattle.shelf_laws.proofs.ShelfRows.{IsIn}
use Rattle.cosign_rows.specs.Image.{document_in, entry_in, layers_row, blobs_row, with_image, entry_call, entry_row, manifest_row, image_row}
use Rattle.cosign_rows.specs.References.{tag_reference, digest_reference, reading_back}
use Rattle.cosign_rows.specs.Search.{payload_type, tag_layers, or_skipped, tag_by, tag_source, bundle_type, referrer_part, referrer_by, referrer_row, referrers_row, listed_row, referrers_source, searched}
use Rattle.cosign_rows.specs.Tails.{after_search}
use Rattle.cosign_rows.specs.Verified.{Whole, constrained, is_unconstrained, readable_by, as_whole, part_of, standing, verified}
use Rattle.cosign_rows.specs.declared.found.SourceKind.TheVariants.{Tag}
use Rattle.cosign_rows.specs.declared.found.Skipped.TheVariants.{Source, Referrer}
use Rattle.cosign_rows.specs.declared.found.TrustedLayers.{TrustedLayers}

-- a property of protocols that holds of each call for an image of this repository, and of what is made of such parts
pub record HoldsOfCalls (Good : (A : Type 0) → Proto Kept A → Type 0) (s : Context) (a : RegistryAuth) (registry repository : List ℕ) : Type 1 where
  pub done : (A : Type 0) (x : A) → Good A (Done x)
  pub parts : (A B : Type 0) (p : Proto Kept A) (f : A → Proto Kept B) → Good A p → ((x : A) → Good B (f x)) → Good B (bind p f)
  pub digest : (r : Reference) → IsIn registry repository r → Good _ (digest_call s r a)
  pub manifest : (r : Reference) → IsIn registry repository r → Good _ (manifest_call s r a)
  pub image : (r : Reference) → IsIn registry repository r → (types : List (List ℕ)) → Good _ (image_call s r a types)
  pub referrers : (r : Reference) → IsIn registry repository r → Good _ (referrers_call s r a None)
  pub document : (r : Reference) → IsIn registry repository r → Good _ (document_call s r a manifest_types)
  pub blob : (r : Reference) → IsIn registry repository r → (layer : Layer) → Good _ (blob_call s r layer)

-- ---- the references of a pull

module _ (image : Reference) (reads : reads_back image ≡ true) where
  spelling : Spelled image
  spelling = spelled image reads

  own_registry : unwrap_or None (if bytes_eq (registry_of image) (codes "docker.io") then codes "index.docker.io" else registry_of image) ≡ resolved_registry image
  own_registry = ap (λ (m : Option (List ℕ)). unwrap_or m (if bytes_eq (registry_of image) (codes "docker.io") then codes "index.docker.io" else registry_of image)) (sym spelling.no_mirror)

  pub image_in : IsIn (resolved_registry image) (repository_of image) image
  image_in = record { registry_is = refl; repository_is = refl; no_mirror = ap (λ (m : Option (List ℕ)). if is_some m then Some (registry_of image) else None) spelling.no_mirror }

  pub tag_in : (d : List ℕ) → IsIn (resolved_registry image) (repository_of image) (tag_reference image d)
  tag_in d = record { registry_is = own_registry; repository_is = refl; no_mirror = refl }

  pub digest_in : (d : List ℕ) → IsIn (resolved_registry image) (repository_of image) (digest_reference image d)
  digest_in d = record { registry_is = own_registry; repository_is = refl; no_mirror = refl }

  pub referrer_in : (d x : List ℕ) → IsIn (resolved_registry image) (repository_of image) (digest_reference (digest_reference image d) x)
  referrer_in d x = record { registry_is = own_registry; repository_is = refl; no_mirror = refl }

  pub entry_in_it : (d x : List ℕ) → IsIn (resolved_registry image) (repository_of image) (entry_reference (digest_reference image d) x)
  entry_in_it d x = record { registry_is = own_registry; repository_is = refl; no_mirror = refl }

module _ {V : Type 0} {H : V → Type 0} (policy_context : PolicyContext V H) (s : Context) (image : Reference) (a : RegistryAuth) (accepted : List (List ℕ))
    (Good : (A : Type 0) → Proto Kept A → Type 0) (calls : HoldsOfCalls Good s a (resolved_registry image) (repository_of image)) where
  good_next : {A B E : Type 0} (p : Proto Kept (Result A E)) (f : A → Proto Kept (Result B E)) → Good (Result A E) p → ((x : A) → Good (Result B E) (f x)) → Good (Result B E) (p >>= f)
  good_next {A} {B} {E} p f h next = calls.parts (Result A E) (Result B E) p (unless_refused f) h by_result where
    by_result : (r : Result A E) → Good (Result B E) (unless_refused f r)
    by_result (Ok x) = next x
    by_result (Err e) = calls.done (Result B E) (Err e)

  -- a step without a request
  said : {A : Type 0} (r : A) → Good A (Done r)
  said {A} r = calls.done A r

  -- a part whose result is changed
  changed : {A B : Type 0} (p : Proto Kept A) (g : A → B) → Good A p → Good B (bind p (λ r. Done (g r)))
  changed {A} {B} p g h = calls.parts A B p (λ r. Done (g r)) h (λ r. calls.done B (g r))

  module _ (reads : reads_back image ≡ true) where
    -- ---- the search

    module _ (d : List ℕ) where
      abbrev source : Reference
      source = digest_reference image d

      pub tag_good : Good _ (tag_layers policy_context.trust d s (tag_reference image d) a)
      unfolding tag_layers
      tag_good =
          good_next _ _ (calls.manifest (tag_reference image d) (tag_in image reads d)) (λ document.
          good_next _ _ (calls.image (tag_reference image d) (tag_in image reads d) (payload_type ∷ [])) (λ found. said _))

      tag_by_good : (b : Bool) → Good _ (tag_by policy_context.trust d s (tag_reference image d) a b)
      tag_by_good false = said _
      tag_by_good true = changed _ (or_skipped (Source Tag)) tag_good

      tag_source_good : Good _ (tag_source policy_context.trust s image a d)
      unfolding tag_source
      tag_source_good = tag_by_good (reads_back (tag_reference image d))

      referrer_by_good : (x : List ℕ) (b : Bool) → Good _ (referrer_by policy_context.trust d s (digest_reference source x) a x b)
      referrer_by_good x false = said _
      referrer_by_good x true = changed _ (λ r. or_skipped (Referrer x) (referrer_part policy_context.trust d r)) (calls.image (digest_reference source x) (referrer_in image reads d x) (bundle_type ∷ []))

      referrers_row_good : (xs : List ImageIndexEntry) → Good _ (referrers_row policy_context.trust d s source a xs)
      unfolding referrers_row referrer_row
      referrers_row_good [] = said _
      referrers_row_good (x ∷ xs) =
          good_next _ _ (referrer_by_good x.digest (reads_back (digest_reference source x.digest))) (λ one.
          good_next _ _ (referrers_row_good xs) (λ rest. said _))

      listed_good : (r : Result OciImageIndex SigstoreError) → Good _ (listed_row policy_context.trust d s source a r)
      listed_good (Ok index) = referrers_row_good index.manifests
      listed_good (Err e) = said _

      referrers_source_good : Good _ (referrers_source policy_context.trust d s source a)
      unfolding referrers_source
      referrers_source_good = calls.parts _ _ _ (listed_row policy_context.trust d s source a) (calls.referrers source (digest_in image reads d)) listed_good

    searched_good : Good _ (searched policy_context.trust s image a)
    unfolding searched
    searched_good =
        good_next _ _ (calls.digest image (image_in image reads)) (λ d.
        good_next _ _ (said (reading_back (digest_reference image d))) (λ u.
        good_next _ _ (tag_source_good d) (λ tag.
        good_next _ _ (referrers_source_good d) (λ more. said _))))

    -- ---- the image

    module _ (d : List ℕ) where
      abbrev own : Reference
      own = digest_reference image d

      layers_good : (xs : List OciDescriptor) (before : List ImageLayer) → Good _ (layers_row s own xs before)
      unfolding layers_by
      layers_good [] before = said _
      layers_good (x ∷ xs) before = good_next _ _ (calls.blob own (digest_in image reads d) (described x)) (λ content. layers_good xs (before ++ layer_of x content ∷ []))

      blobs_good : (manifest : OciImageManifest) → Good _ (blobs_row s own accepted manifest)
      unfolding blobs_row
      blobs_good manifest =
          good_next _ _ (calls.blob own (digest_in image reads d) (described manifest.config)) (λ content.
          good_next _ _ (said (with_error_context Pull (whole_text own) (layers_accepted accepted manifest.layers))) (λ u.
          good_next _ _ (layers_good manifest.layers []) (λ layers. said _)))

      manifest_good : (first : List ℕ) (document : OciManifest) → Good _ (manifest_row s own a first document)
      unfolding entry_row entry_call
      manifest_good first (Image manifest) = said _
      manifest_good first (ImageIndex index) =
          good_next _ _ (said (with_error_context Pull (whole_text own) (entry_found s.settings.platform_resolver index.manifests))) (λ entry.
          good_next _ _ (changed _ (λ r. with_image (whole_text own) r) (calls.document (entry_reference own entry) (entry_in_it image reads d entry))) (λ found.
          good_next _ _ (said (with_error_context Pull (whole_text own) (entry_in entry found.0))) (λ manifest. said _)))

      image_good : Good _ (image_row s image own a accepted)
      unfolding image_row
      image_good =
          good_next _ _ (calls.document own (digest_in image reads d)) (λ found.
          good_next _ _ (said (with_error_context Pull (whole_text own) (document_in image found.0))) (λ document.
          good_next _ _ (manifest_good found.0 document) (λ chosen.
          good_next _ _ (blobs_good chosen.manifest) (λ blobs. said _))))

    -- ---- the whole pull

    part_good : {A : Type 0} (p : Row A) → Good _ p → Good _ (part_of p)
    unfolding part_of
    part_good p h = changed p as_whole h

    after_good : (found : TrustedLayers) → Good _ (after_search policy_context s image a accepted found)
    unfolding after_search
    after_good found = good_next _ _ (said (standing policy_context found)) (λ stood. good_next _ _ (part_good (image_row s image (digest_reference image stood.digest) a accepted) (image_good stood.digest)) (λ pulled. said _))

    read_good : Good _ (part_of (searched policy_context.trust s image a) >>= (λ found. after_search policy_context s image a accepted found))
    read_good = good_next _ _ (part_good (searched policy_context.trust s image a) searched_good) (λ found. after_good found)

  -- a reference that does not round-trip is refused before any request
  by_reading : (b : Bool) → reads_back image ≡ b → Good _ (unless_refused (λ u. part_of (searched policy_context.trust s image a) >>= (λ found. after_search policy_context s image a accepted found)) (readable_by image b))
  by_reading true reads = read_good reads
  by_reading false unread = said _

  pub verified_good : Good _ (verified policy_context s image a accepted)
  unfolding verified after_search bind
  verified_good = good_next _ _ (said (constrained (is_unconstrained policy_context.policy))) (λ u. by_reading (reads_back image) refl)
