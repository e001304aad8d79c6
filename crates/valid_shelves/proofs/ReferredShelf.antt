-- The shelf built from an image of one layer and an image of a bundle that refers to it is a wide one.
use Rattle.std.specs.Prelude.{unwrap_or, Contains, IsTrue, IfSome}
use Rattle.std.specs.Cmp.Lexicographic.{nat_list_cmp_total}
use Rattle.std.specs.FinMap as map
use Rattle.std.specs.FinMap.{get-insert, len-entries, len-empty}
use Rattle.std.specs.List.{All, list_all}
use Rattle.std.specs.Ordering.{eq_by_cmp}
use Rattle.std.proofs.Common.{◌≡◌, ◌<◌, ◌≤◌, inr, ℕ, Bool, true, false, cond, List, [], ◌∷◌, length, Some, refl, sym, ap, ◌∙◌, subst, arith}
use Rattle.std.proofs.lemmas.List.{nil_from_length}
use Rattle.std.proofs.lemmas.List.Elements.{All-nil, All-cons}
use Rattle.json_values.specs.Places.{by_bytes}
use Rattle.oci_names.specs.Words.{Tag}
use Rattle.oci_names.specs.Reference.{repository_of, digest_of, tag_of, reads_back}
use Rattle.oci_names.specs.declared.reference.Reference.{Reference}
use Rattle.oci_auth.specs.declared.auth.RegistryAuth.{RegistryAuth}
use Rattle.oci_digests.specs.Names.{Names, digest_text}
use Rattle.oci_names.specs.declared.algorithm.Algorithm.{Algorithm}
use Rattle.oci_names.specs.declared.algorithm.Algorithm.TheVariants.{Sha256}
use Rattle.oci_manifests.specs.declared.document.OciManifest.{OciManifest}
use Rattle.oci_manifests.specs.declared.document.OciManifest.TheVariants.{Image, ImageIndex}
use Rattle.oci_manifests.specs.declared.blob.ImageLayer.{ImageLayer}
use Rattle.oci_manifests.specs.declared.descriptor.OciDescriptor.{OciDescriptor}
use Rattle.oci_link.specs.Leads.{entry_leads, redirects_lead}
use Rattle.oci_link.specs.Table.{digest_named}
use Rattle.oci_link.specs.declared.shelf.Shelf.{Shelf}
use Rattle.oci_link.specs.declared.shelf.ShelfDocument.{ShelfDocument}
use Rattle.engine_requests.specs.Addresses.{manifest_name}
use Rattle.engine_terms.specs.declared.settings.Settings.{Settings}
use Rattle.engine_rows.specs.Image.{layer_of}
use Rattle.shelf_laws.specs.Shelves.{FitsLimit, HasDocument, HasBlob, HasLayer, HasBlobs, LeadsTo, ImageOn, layers_on, ListsBy, Lists}
use Rattle.shelf_laws.proofs.ShelfReferences.{tag_named}
use Rattle.shelf_laws.proofs.References.{spelled, digest_reads_back}
use Rattle.oci_digests.proofs.Algorithms.{digest_is_digest, digest_is_known}
use Rattle.cosign_layers.specs.Satisfying.{PolicyContext}
use Rattle.cosign_rows.specs.References.{digest_reference}
use Rattle.cosign_rows.specs.Search.{bundle_type}
use Rattle.cosign_laws.specs.Shelves.{IsAsked, SignedByReferrer, WideShelf}
use Rattle.cosign_laws.specs.Small.{Texts, sha256, Packed}
use Rattle.valid_shelves.specs.Referred.{document_of, referred_shelf, Selects, IsReferred}
use Rattle.valid_shelves.proofs.Maps.{Has, same_key, inserted, others_by, still_has, Kept, kept_empty, kept_insert}

-- ---- documents under their digests

-- the map has these bytes under this digest
abbrev Found : Texts ShelfDocument → List ℕ → List ℕ → Type 0
Found m digest bytes = (document : ShelfDocument) × (map.get m digest ≡ Some document) × (document.content ≡ bytes)

found_here : (m : Texts ShelfDocument) (digest bytes : List ℕ) → Found (map.insert m digest (document_of bytes)) digest bytes
found_here m digest bytes = (document_of bytes, inserted m digest (document_of bytes), refl)

-- they stay, if a new document under the same digest has the same bytes
found_still : (m : Texts ShelfDocument) (key digest new bytes : List ℕ) → (digest ≡ key → new ≡ bytes) → Found m digest bytes → Found (map.insert m key (document_of new)) digest bytes
found_still m key digest new bytes once h = by_test (eq_by_cmp by_bytes digest key) refl where
  by_test : (b : Bool) → eq_by_cmp by_bytes digest key ≡ b → Found (map.insert m key (document_of new)) digest bytes
  by_test true same = (document_of new, get-insert nat_list_cmp_total m key (document_of new) digest ∙ ap (λ b. cond b (Some (document_of new)) (map.get m digest)) same, once (same_key digest key same))
  by_test false differ = (h.0, others_by m key (document_of new) digest differ ∙ h.1, h.2)

-- ---- nothing is redirected

no_entries : {V : Type 0} → map.entries (map.empty {X = V} {R = by_bytes}) ≡ []
no_entries = nil_from_length _ (sym (len-entries map.empty) ∙ len-empty by_bytes _)

nothing_redirected : (shelf : Shelf) → shelf.redirects ≡ map.empty → IsTrue (redirects_lead shelf)
unfolding redirects_lead
nothing_redirected shelf none = ap (λ es. list_all (entry_leads shelf.redirects) es) (ap (λ m. map.entries m) none ∙ no_entries)

-- ---- the shelf is wide

-- a blob is named by its key
abbrev IsNamed : List ℕ → List ℕ → Type 0
IsNamed key blob = key ≡ sha256 blob

module _ {V : Type 0} {H : V → Type 0} {policy_context : PolicyContext V H} {s : Settings} {image : Reference} {a : RegistryAuth} {accepted : List (List ℕ)} {algorithm : Algorithm} {tag first list : List ℕ} {packed bundles : Packed} (referred : IsReferred policy_context s image a accepted algorithm tag first list packed bundles) where
  abbrev shelf : Shelf
  shelf = referred_shelf (repository_of image) algorithm tag first list packed bundles

  abbrev d : List ℕ
  d = digest_text algorithm first

  -- ---- its documents

  abbrev One : Texts ShelfDocument
  One = map.insert map.empty (sha256 bundles.bytes) (document_of bundles.bytes)

  abbrev Two : Texts ShelfDocument
  Two = map.insert One (sha256 packed.bytes) (document_of packed.bytes)

  has : (digest bytes : List ℕ) → Found shelf.documents digest bytes → Names digest bytes → HasDocument shelf digest bytes
  has digest bytes h named = record { document = h.0; there = h.1; content = h.2; named = named }

  first_document : HasDocument shelf d first
  first_document = has d first (found_here Two d first) (algorithm, refl)

  image_document : HasDocument shelf (sha256 packed.bytes) packed.bytes
  image_document = has (sha256 packed.bytes) packed.bytes (found_still Two d (sha256 packed.bytes) first packed.bytes referred.image_once (found_here One (sha256 packed.bytes) packed.bytes)) (Sha256, refl)

  bundles_document : HasDocument shelf (sha256 bundles.bytes) bundles.bytes
  bundles_document =
      has (sha256 bundles.bytes) bundles.bytes (found_still Two d (sha256 bundles.bytes) first bundles.bytes referred.bundles_once
      (found_still One (sha256 packed.bytes) (sha256 bundles.bytes) packed.bytes bundles.bytes referred.both_once (found_here map.empty (sha256 bundles.bytes) bundles.bytes))) (Sha256, refl)

  -- ---- its blobs

  abbrev Config : Texts (List ℕ)
  Config = map.insert map.empty (sha256 packed.config) packed.config

  abbrev ImageBlobs : Texts (List ℕ)
  ImageBlobs = map.insert Config (sha256 packed.layer) packed.layer

  abbrev Three : Texts (List ℕ)
  Three = map.insert ImageBlobs (sha256 bundles.config) bundles.config

  blob_named : Kept IsNamed shelf.blobs
  blob_named =
      kept_insert IsNamed Three (sha256 bundles.layer) bundles.layer refl
      (kept_insert IsNamed ImageBlobs (sha256 bundles.config) bundles.config refl
      (kept_insert IsNamed Config (sha256 packed.layer) packed.layer refl
      (kept_insert IsNamed map.empty (sha256 packed.config) packed.config refl (kept_empty IsNamed))))

  has_blob : (key : List ℕ) → Has shelf.blobs key → HasBlob shelf key
  has_blob key (w, is) = record { blob = w; there = is; named = (Sha256, blob_named key w is) }

  -- what the map had before the bundle's blobs
  has_before : (key : List ℕ) → Has ImageBlobs key → HasBlob shelf key
  has_before key h = has_blob key (still_has Three (sha256 bundles.layer) bundles.layer key (still_has ImageBlobs (sha256 bundles.config) bundles.config key h))

  image_config : HasBlob shelf (sha256 packed.config)
  image_config = has_before (sha256 packed.config) (still_has Config (sha256 packed.layer) packed.layer (sha256 packed.config) (packed.config, inserted map.empty (sha256 packed.config) packed.config))

  image_layer : HasBlob shelf (sha256 packed.layer)
  image_layer = has_before (sha256 packed.layer) (packed.layer, inserted Config (sha256 packed.layer) packed.layer)

  bundle_config : HasBlob shelf (sha256 bundles.config)
  bundle_config = has_blob (sha256 bundles.config) (still_has Three (sha256 bundles.layer) bundles.layer (sha256 bundles.config) (bundles.config, inserted ImageBlobs (sha256 bundles.config) bundles.config))

  bundle_there : map.get shelf.blobs (sha256 bundles.layer) ≡ Some bundles.layer
  bundle_there = inserted Three (sha256 bundles.layer) bundles.layer

  -- the blobs of a manifest of one layer
  blobs_on : (p : Packed) (types : List (List ℕ)) → HasBlob shelf (sha256 p.config) → HasBlob shelf (sha256 p.layer) → Contains types p.descriptor.media_type → HasBlobs shelf types p.manifest
  blobs_on p types config layer accepts = record {
    config = subst (HasBlob shelf) (sym p.config_is) config;
    some = subst (λ (xs : List OciDescriptor). 0 < length xs) (sym p.layers_are) (omega arith);
    layers = subst (All (HasLayer shelf types)) (sym p.layers_are) (All-cons (HasLayer shelf types) p.descriptor [] (subst (HasBlob shelf) (sym p.layer_is) layer, accepts) (All-nil (HasLayer shelf types)));
  }

  -- ---- the image

  asked : IsAsked s image a shelf
  asked = record { reads_back_is = referred.reads_back_is; repository_is = refl; written = referred.written; agent = referred.agent; credentials = referred.credentials; lead = nothing_redirected shelf refl }

  tag_is : Tag tag
  tag_is = subst (λ o. IfSome o Tag) referred.by_tag (spelled image referred.reads_back_is).tag_is

  points : digest_named shelf (manifest_name (digest_of image) (tag_of image)) ≡ Some d
  points = (λ i. digest_named shelf (manifest_name (referred.no_digest i) (referred.by_tag i))) ∙ tag_named shelf tag tag_is ∙ inserted map.empty tag d

  leads : (document : OciManifest) → Selects s packed document → LeadsTo s shelf document packed.manifest
  leads (Image own) h = h
  leads (ImageIndex index) h = (sha256 packed.bytes, h, (packed.bytes, image_document, packed.reads))

  image_on : ImageOn s shelf d accepted
  image_on = record { first = first; there = first_document; document = referred.document; reads = referred.reads; manifest = packed.manifest; leads = leads referred.document referred.selects; blobs = blobs_on packed accepted image_config image_layer referred.accepts }

  -- ---- the bundle

  abbrev own : ImageLayer
  own = layer_of bundles.descriptor bundles.layer

  abbrev bundles_on : ImageOn s shelf referred.entry.digest (bundle_type ∷ [])
  bundles_on = record {
    first = bundles.bytes;
    there = subst (λ (t : List ℕ). HasDocument shelf t bundles.bytes) (sym referred.entry_is) bundles_document;
    document = Image bundles.manifest;
    reads = bundles.reads;
    manifest = bundles.manifest;
    leads = refl;
    blobs = blobs_on bundles (bundle_type ∷ []) bundle_config (record { blob = bundles.layer; there = bundle_there; named = (Sha256, refl) }) referred.bundle;
  }

  bundle_listed : Contains (layers_on shelf bundles.manifest.layers) own
  bundle_listed =
      let content : unwrap_or (map.get shelf.blobs bundles.descriptor.digest) [] ≡ bundles.layer = ap (λ (t : List ℕ). unwrap_or (map.get shelf.blobs t) []) bundles.layer_is ∙ ap (λ o. unwrap_or o []) bundle_there in
      subst (λ (xs : List OciDescriptor). Contains (layers_on shelf xs) own) (sym bundles.layers_are) (0, omega arith, ap (layer_of bundles.descriptor) content)

  entry_reads : reads_back (digest_reference image referred.entry.digest) ≡ true
  entry_reads =
      subst (λ (t : List ℕ). reads_back (digest_reference image t) ≡ true) (sym referred.entry_is)
      (digest_reads_back image (spelled image referred.reads_back_is) (sha256 bundles.bytes) (digest_is_digest Sha256 bundles.bytes) (digest_is_known Sha256 bundles.bytes))

  listed : Lists shelf d referred.index
  listed = subst (λ o. ListsBy shelf d referred.index o) (sym (inserted map.empty d list)) referred.lists

  signed : SignedByReferrer policy_context s image d shelf
  signed = record {
    index = referred.index;
    lists = listed;
    entry = referred.entry;
    among = referred.among;
    entry_reads = entry_reads;
    bundles = bundles_on;
    bundle = own;
    listed = bundle_listed;
    layer = referred.signature;
    reads = referred.is_read;
    stands_for = referred.stands;
  }

  -- ---- nothing is too long

  abbrev FitsBlob : List ℕ → List ℕ → Type 0
  FitsBlob key blob = length blob ≤ s.max_body_bytes

  abbrev FitsDocument : List ℕ → ShelfDocument → Type 0
  FitsDocument key document = length document.content ≤ s.max_body_bytes

  short : FitsLimit s shelf
  short = record {
    documents = kept_insert FitsDocument Two d (document_of first) (referred.documents_short 0 [] (omega arith)) (kept_insert FitsDocument One (sha256 packed.bytes) (document_of packed.bytes) (referred.documents_short 1 [] (omega arith))
        (kept_insert FitsDocument map.empty (sha256 bundles.bytes) (document_of bundles.bytes) (referred.documents_short 2 [] (omega arith)) (kept_empty FitsDocument)));
    blobs = kept_insert FitsBlob Three (sha256 bundles.layer) bundles.layer (referred.blobs_short 3 [] (omega arith)) (kept_insert FitsBlob ImageBlobs (sha256 bundles.config) bundles.config (referred.blobs_short 2 [] (omega arith))
        (kept_insert FitsBlob Config (sha256 packed.layer) packed.layer (referred.blobs_short 1 [] (omega arith)) (kept_insert FitsBlob map.empty (sha256 packed.config) packed.config (referred.blobs_short 0 [] (omega arith)) (kept_empty FitsBlob))));
    referrers = kept_insert FitsBlob map.empty d list (referred.documents_short 3 [] (omega arith)) (kept_empty FitsBlob);
  }

  -- the shelf is wide
  pub referred_wide : WideShelf policy_context s image a accepted shelf
  referred_wide = record {
    has = record { asked = asked; digest = d; named = points; image_on = image_on; short = short };
    signed = inr signed;
  }
