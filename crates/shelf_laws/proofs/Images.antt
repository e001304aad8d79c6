-- Images of a shelf, as the rows that pull them return them.
use Rattle.std.specs.Prelude.{bytes_eq, unwrap_or, slice_index_or, if◌then◌else◌}
use Rattle.std.specs.List.{All}
use Rattle.std.specs.FinMap as map
use Rattle.std.proofs.Common.{◌≡◌, ◌<◌, ℕ, zero, suc, Bool, true, false, List, [], ◌∷◌, ◌++◌, length, Option, Some, None, Ok, Err, refl, sym, ap, ◌∙◌, subst, arith, append_assoc, append-nil}
use Rattle.std.proofs.lemmas.Slice.Eq.{bytes_eq-Decides}
use Rattle.std.proofs.lemmas.List.Elements.{All-head, All-tail}
use Rattle.oci_names.specs.declared.reference.Reference.{Reference}
use Rattle.oci_names.specs.Reference.{digest_of, tag_of}
use Rattle.oci_auth.specs.declared.auth.RegistryAuth.{RegistryAuth}
use Rattle.oci_auth.specs.declared.auth_state.AuthState.{AuthState}
use Rattle.oci_manifests.specs.declared.document.OciManifest.{OciManifest}
use Rattle.oci_manifests.specs.declared.document.OciManifest.TheVariants.{Image, ImageIndex}
use Rattle.oci_manifests.specs.declared.manifest.OciImageManifest.{OciImageManifest}
use Rattle.oci_manifests.specs.declared.descriptor.OciDescriptor.{OciDescriptor}
use Rattle.oci_manifests.specs.declared.blob.ImageLayer.{ImageLayer}
use Rattle.oci_link.specs.PlainPaths.{Segment}
use Rattle.oci_link.specs.Table.{answer, digest_named}
use Rattle.oci_link.specs.declared.shelf.Shelf.{Shelf}
use Rattle.engine_requests.specs.Addresses.{manifest_name}
use Rattle.engine_terms.specs.Contexts.{Context}
use Rattle.engine_answers.specs.Documents.{document_read}
use Rattle.engine_answers.specs.Index.{entry_found, entry_manifest, entry_reference}
use Rattle.engine_requests.specs.Requests.{manifest_types}
use Rattle.engine_requests.specs.Sources.{described}
use Rattle.engine_terms.specs.declared.error.OciDistributionError.TheVariants as refusal
use Rattle.engine_terms.specs.declared.settings.Settings.{Settings}
use Rattle.engine_rows.specs.declared.image.ImageData.{ImageData}
use Rattle.engine_rows.specs.Pulls.{pull_manifest, held_blob}
use Rattle.engine_rows.specs.Manifests.{pull_entry, manifest_by, pull_image_manifest_and_list_digest}
use Rattle.engine_rows.specs.Image.{is_accepted, all_accepted, layers_accepted, layer_of, layers_by, config_of, pull_layers, pull}
use Rattle.shelf_laws.specs.EvaluatesWith.{AlwaysOk}
use Rattle.shelf_laws.specs.IsHosted.{IsHosted, IsAt, CanBeShown, Settled}
use Rattle.shelf_laws.specs.Shelves.{FitsLimit, HasDocument, HasBlob, HasLayer, LeadsTo, ImageOn, layer_on, layers_on}
use Rattle.shelf_laws.proofs.TableSteps.{AlwaysOk-done, AlwaysOk-next, AlwaysOk-more}
use Rattle.shelf_laws.proofs.Documents.{NoOther, digest_itself, named_segment, raw_gives, blob_gives}
use Rattle.shelf_laws.proofs.Requests.{yields_ok}

-- ---- types of layers

one_accepted : (accepted : List (List ℕ)) (kind : List ℕ) (k : ℕ) → k < length accepted → slice_index_or accepted k kind ≡ kind → is_accepted accepted kind ≡ true
one_accepted [] kind k lt is = absurd (omega (arith, lt))
one_accepted (a ∷ accepted) kind zero lt is = ap (λ b. if b then true else is_accepted accepted kind) ((bytes_eq-Decides a kind).1 is)
one_accepted (a ∷ accepted) kind (suc k) lt is = by_test (bytes_eq a kind) (one_accepted accepted kind k (omega (arith, lt)) is) where
  by_test : (b : Bool) → is_accepted accepted kind ≡ true → (if b then true else is_accepted accepted kind) ≡ true
  by_test true h = refl
  by_test false h = h

each_accepted : (shelf : Shelf) (accepted : List (List ℕ)) (xs : List OciDescriptor) → All (HasLayer shelf accepted) xs → all_accepted accepted xs ≡ Ok tt
each_accepted shelf accepted [] all = refl
each_accepted shelf accepted (x ∷ xs) all =
    let first = (All-head (HasLayer shelf accepted) x xs all).1 in
    ap (λ b. if b then all_accepted accepted xs else Err (refusal.IncompatibleLayerMediaTypeError x.media_type)) (one_accepted accepted x.media_type first.0 first.1 first.2) ∙ each_accepted shelf accepted xs (All-tail (HasLayer shelf accepted) x xs all)

pub types_accepted : (shelf : Shelf) (accepted : List (List ℕ)) (xs : List OciDescriptor) → 0 < length xs → All (HasLayer shelf accepted) xs → layers_accepted accepted xs ≡ Ok tt
types_accepted shelf accepted [] some all = absurd (omega (arith, some))
types_accepted shelf accepted (x ∷ xs) some all = each_accepted shelf accepted (x ∷ xs) all

-- the image's digest or tag leads to this digest on the shelf
pub record Points (shelf : Shelf) (image : Reference) (digest : List ℕ) : Type 0 where
  pub plain : Segment (manifest_name (digest_of image) (tag_of image))
  pub points : digest_named shelf (manifest_name (digest_of image) (tag_of image)) ≡ Some digest
  pub other : NoOther (digest_of image) digest

-- a reference with a digest of the shelf
pub points_itself : (shelf : Shelf) (image : Reference) (digest bytes : List ℕ) → digest_of image ≡ Some digest → HasDocument shelf digest bytes → Points shelf image digest
points_itself shelf image digest bytes is has =
    let name : manifest_name (digest_of image) (tag_of image) ≡ digest = ap (λ o. manifest_name o (tag_of image)) is in
    record {
      plain = subst Segment (sym name) (named_segment digest bytes has.named);
      points = ap (digest_named shelf) name ∙ digest_itself shelf digest bytes has.named;
      other = subst (λ o. NoOther o digest) (sym is) refl;
    }

-- ---- the rows

module _ {s : Settings} {registry : List ℕ} {shelf : Shelf} (home : IsHosted s registry shelf) (short : FitsLimit s shelf) (a : RegistryAuth) (can : CanBeShown a) (moment : ℕ) where
  abbrev I : AuthState → Type 0
  I k = Settled registry shelf.repository a k

  abbrev ctx : Context
  ctx = record { settings = s; moment = moment }

  pub manifest_gives : (image : Reference) (digest bytes : List ℕ) (document : OciManifest) → IsAt registry shelf image → Points shelf image digest → HasDocument shelf digest bytes → document_read bytes ≡ Ok document → AlwaysOk I (answer shelf) (λ found. found ≡ (document, digest)) (pull_manifest ctx image a)
  unfolding pull_manifest
  manifest_gives image digest bytes document at points has reads =
      AlwaysOk-next _ (raw_gives home short image at a can moment digest bytes manifest_types has points.plain points.points points.other refl) (λ found is.
      AlwaysOk-next _ (AlwaysOk-done (document_read found.0) (yields_ok (λ (d : OciManifest). d ≡ document) (document_read found.0) document (ap (λ (p : List ℕ × List ℕ). document_read p.0) is ∙ reads) refl)) (λ d same.
      AlwaysOk-done (Ok (d, found.1)) (λ i. (same i, (is i).1))))

  by_document : (image : Reference) (digest : List ℕ) (document : OciManifest) (manifest : OciImageManifest) → IsAt registry shelf image → LeadsTo s shelf document manifest → AlwaysOk I (answer shelf) (λ found. found.0 ≡ manifest) (manifest_by ctx image a document digest)
  unfolding pull_entry
  by_document image digest (Image own) manifest at leads = AlwaysOk-done (Ok (own, digest, None)) leads
  by_document image digest (ImageIndex index) manifest at (entry, is, (bytes, has, reads)) =
      let own : Reference = entry_reference image entry in
      let at_entry : IsAt registry shelf own = record { registry_is = at.registry_is; repository_is = at.repository_is; no_mirror = at.no_mirror } in
      AlwaysOk-next _ (AlwaysOk-done (entry_found s.platform_resolver index.manifests) (yields_ok (λ (e : List ℕ). e ≡ entry) (entry_found s.platform_resolver index.manifests) entry is refl)) (λ e same.
      AlwaysOk-next _ (subst (λ (e : List ℕ). AlwaysOk I (answer shelf) (λ (m : OciImageManifest). m ≡ manifest) (pull_entry ctx image a e)) (sym same)
      (AlwaysOk-next _ (manifest_gives own entry bytes (Image manifest) at_entry (points_itself shelf own entry bytes refl has) has reads) (λ found known.
      AlwaysOk-done (entry_manifest entry found.0) (yields_ok (λ (m : OciImageManifest). m ≡ manifest) (entry_manifest entry found.0) manifest (ap (λ (p : OciManifest × List ℕ). entry_manifest entry p.0) known) refl)))) (λ m known.
      AlwaysOk-done (Ok (m, e, Some digest)) known))

  blob_on : (digest : List ℕ) (has : HasBlob shelf digest) → has.blob ≡ unwrap_or (map.get shelf.blobs digest) []
  blob_on digest has = ap (λ (o : Option (List ℕ)). unwrap_or o []) (sym has.there)

  layers_give : (image : Reference) (accepted : List (List ℕ)) (xs : List OciDescriptor) (before : List ImageLayer) → IsAt registry shelf image → All (HasLayer shelf accepted) xs → AlwaysOk I (answer shelf) (λ layers. layers ≡ before ++ layers_on shelf xs) (pull_layers ctx image xs before)
  unfolding layers_by
  layers_give image accepted [] before at all = AlwaysOk-done (Ok before) (sym (append-nil before))
  layers_give image accepted (x ∷ xs) before at all =
      let has = (All-head (HasLayer shelf accepted) x xs all).0 in
      AlwaysOk-next _ (blob_gives home short image at a can moment (described x) has) (λ content is.
      let same : layer_of x content ≡ layer_on shelf x = ap (layer_of x) (is ∙ blob_on x.digest has) in
      AlwaysOk-more (λ layers. layers ≡ before ++ layers_on shelf (x ∷ xs)) (layers_give image accepted xs (before ++ layer_of x content ∷ []) at (All-tail (HasLayer shelf accepted) x xs all)) (λ layers known.
      known ∙ append_assoc before (layer_of x content ∷ []) (layers_on shelf xs) ∙ ap (λ (l : ImageLayer). before ++ l ∷ layers_on shelf xs) same))

  pub pull_gives : (image : Reference) (digest : List ℕ) (accepted : List (List ℕ)) (on : ImageOn s shelf digest accepted) → IsAt registry shelf image → Points shelf image digest → AlwaysOk I (answer shelf) (λ (data_of : ImageData). data_of.layers ≡ layers_on shelf on.manifest.layers) (pull ctx image a accepted)
  unfolding pull pull_image_manifest_and_list_digest
  pull_gives image digest accepted on at points =
      let has = on.blobs in
      AlwaysOk-next _ (AlwaysOk-next _ (manifest_gives image digest on.first on.document at points on.there on.reads) (λ found is. subst (λ (p : OciManifest × List ℕ). AlwaysOk I (answer shelf) (λ found. found.0 ≡ on.manifest) (manifest_by ctx image a p.0 p.1)) (sym is) (by_document image digest on.document on.manifest at on.leads))) (λ found is.
      AlwaysOk-next _ (subst (λ (m : OciImageManifest). AlwaysOk I (answer shelf) (λ (b : List ℕ). b ≡ has.config.blob) (held_blob ctx image (described m.config))) (sym is) (blob_gives home short image at a can moment (described on.manifest.config) has.config)) (λ config known.
      AlwaysOk-next _ (AlwaysOk-done (layers_accepted accepted found.0.layers) (yields_ok (λ u. Unit {0}) (layers_accepted accepted found.0.layers) tt (ap (λ (m : OciImageManifest). layers_accepted accepted m.layers) is ∙ types_accepted shelf accepted on.manifest.layers has.some has.layers) tt)) (λ u checked.
      AlwaysOk-next _ (subst (λ (m : OciImageManifest). AlwaysOk I (answer shelf) (λ layers. layers ≡ layers_on shelf on.manifest.layers) (pull_layers ctx image m.layers [])) (sym is) (layers_give image accepted on.manifest.layers [] at has.layers)) (λ layers same.
      AlwaysOk-done (Ok (record { layers = layers; digest = Some found.1; config = config_of found.0 config; manifest = Some found.0 })) same))))
