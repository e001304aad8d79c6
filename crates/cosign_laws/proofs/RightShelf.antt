-- The shelf built from an image of one layer and a signature of it is a valid one.
use Rattle.std.specs.Prelude.{unwrap_or, Contains, IsTrue, IfSome}
use Rattle.std.specs.Cmp.{eq_by_cmp_equiv}
use Rattle.std.specs.Cmp.Lexicographic.{nat_list_cmp_total}
use Rattle.std.specs.FinMap as map
use Rattle.std.specs.FinMap.{get-empty, get-insert, len-entries, len-empty, nat_cmp-IsAntisymmetric, slice_cmp-IsAntisymmetric}
use Rattle.std.specs.List.{All, list_all}
use Rattle.std.specs.Ordering.{eq_by_cmp, is_eq}
use Rattle.std.specs.declared.cmp.Ordering.{Ordering}
use Rattle.std.specs.declared.cmp.Ordering.TheVariants.{Less, Equal, Greater}
use Rattle.std.proofs.Common.{◌≡◌, ◌<◌, ◌≤◌, ℕ, Bool, true, false, cond, List, [], ◌∷◌, length, Some, None, Ok, refl, sym, ap, ◌∙◌, subst, arith}
use Rattle.std.proofs.lemmas.List.{nil_from_length}
use Rattle.std.proofs.lemmas.List.Elements.{All-nil, All-cons}
use Rattle.json_values.specs.Places.{by_bytes}
use Rattle.oci_names.specs.Words.{Tag}
use Rattle.oci_names.specs.Reference.{repository_of, digest_of, tag_of}
use Rattle.oci_names.specs.declared.reference.Reference.{Reference}
use Rattle.oci_auth.specs.declared.auth.RegistryAuth.{RegistryAuth}
use Rattle.oci_digests.specs.Names.{names}
use Rattle.oci_digests.specs.Hashes.{hash_of}
use Rattle.oci_names.specs.declared.algorithm.Algorithm.TheVariants.{Sha256}
use Rattle.oci_digests.proofs.Equal.{named}
use Rattle.hex.specs.Hex.{encode_lower}
use Rattle.oci_manifests.specs.declared.document.OciManifest.TheVariants.{Image}
use Rattle.oci_manifests.specs.declared.descriptor.OciDescriptor.{OciDescriptor}
use Rattle.oci_manifests.specs.declared.blob.ImageLayer.{ImageLayer}
use Rattle.oci_link.specs.Leads.{entry_leads, redirects_lead}
use Rattle.oci_link.specs.Table.{digest_named}
use Rattle.oci_link.specs.declared.shelf.Shelf.{Shelf}
use Rattle.oci_link.specs.declared.shelf.ShelfDocument.{ShelfDocument}
use Rattle.engine_requests.specs.Addresses.{manifest_name}
use Rattle.engine_terms.specs.declared.settings.Settings.{Settings}
use Rattle.engine_rows.specs.Image.{layer_of}
use Rattle.shelf_laws.specs.Shelves.{FitsLimit, HasDocument, HasBlob, HasLayer, HasBlobs, ImageOn, layers_on}
use Rattle.shelf_laws.proofs.ShelfReferences.{tag_named}
use Rattle.shelf_laws.proofs.References.{spelled}
use Rattle.cosign_layers.specs.Satisfying.{PolicyContext}
use Rattle.cosign_rows.specs.Part.{named_layer, read_layer}
use Rattle.cosign_rows.specs.References.{signature_tag}
use Rattle.cosign_rows.specs.Search.{payload_type}
use Rattle.cosign_laws.specs.Shelves.{IsAsked, SignedByTag, ValidShelf}
use Rattle.cosign_laws.specs.Small.{Texts, sha256, Packed, shelf_of, IsSmall}

-- ---- maps

equal_from : (o : Ordering) → is_eq o ≡ true → o ≡ Equal
equal_from Less h = cc
equal_from Equal h = refl
equal_from Greater h = cc

same_key : (x y : List ℕ) → eq_by_cmp by_bytes x y ≡ true → x ≡ y
same_key x y h = slice_cmp-IsAntisymmetric nat_cmp-IsAntisymmetric x y (equal_from (by_bytes x y) h)

module _ {V : Type 0} where
  -- the last inserted value is found
  get_here : (m : Texts V) (key : List ℕ) (v : V) → map.get (map.insert m key v) key ≡ Some v
  get_here m key v = get-insert nat_list_cmp_total m key v key ∙ ap (λ b. cond b (Some v) (map.get m key)) ((eq_by_cmp_equiv nat_list_cmp_total).refl key)

  -- and earlier values under other keys
  get_other : (m : Texts V) (key other : List ℕ) (v : V) → ((other ≡ key) → ⊥) → map.get (map.insert m key v) other ≡ map.get m other
  get_other m key other v differ = get-insert nat_list_cmp_total m key v other ∙ by_test (eq_by_cmp by_bytes other key) refl where
    by_test : (b : Bool) → eq_by_cmp by_bytes other key ≡ b → cond b (Some v) (map.get m other) ≡ map.get m other
    by_test true same = absurd (differ (same_key other key same))
    by_test false is = refl

  -- a property of all inserted values holds for each that is found
  get_all : (P : List ℕ → V → Type 0) (m : Texts V) (key : List ℕ) (v : V) → P key v → ((other : List ℕ) (w : V) → map.get m other ≡ Some w → P other w) → (other : List ℕ) (w : V) → map.get (map.insert m key v) other ≡ Some w → P other w
  get_all P m key v here before other w is = by_test (eq_by_cmp by_bytes other key) refl (sym (get-insert nat_list_cmp_total m key v other) ∙ is) where
    by_test : (b : Bool) → eq_by_cmp by_bytes other key ≡ b → cond b (Some v) (map.get m other) ≡ Some w → P other w
    by_test true same found = let own : v ≡ w = cc found in subst (λ (x : V). P other x) own (subst (λ (t : List ℕ). P t v) (sym (same_key other key same)) here)
    by_test false differ found = before other w found

  get_none : (P : List ℕ → V → Type 0) (other : List ℕ) (w : V) → map.get (map.empty {X = V} {R = by_bytes}) other ≡ Some w → P other w
  get_none P other w is = cc (sym (get-empty by_bytes other) ∙ is)

-- ---- blobs under their digests

-- each blob that is found is named by its key
abbrev IsNamed : List ℕ → List ℕ → Type 0
IsNamed key blob = key ≡ sha256 blob

-- an existing key stays
there_still : (m : Texts (List ℕ)) (key other v : List ℕ) → (w : List ℕ) × (map.get m other ≡ Some w) → (w : List ℕ) × (map.get (map.insert m key v) other ≡ Some w)
there_still m key other v (w, is) = by_test (eq_by_cmp by_bytes other key) (get-insert nat_list_cmp_total m key v other) where
  by_test : (b : Bool) → map.get (map.insert m key v) other ≡ cond b (Some v) (map.get m other) → (w : List ℕ) × (map.get (map.insert m key v) other ≡ Some w)
  by_test true found = (v, found)
  by_test false found = (w, found ∙ is)

no_entries : {V : Type 0} → map.entries (map.empty {X = V} {R = by_bytes}) ≡ []
no_entries = nil_from_length _ (sym (len-entries map.empty) ∙ len-empty by_bytes _)

nothing_redirected : (shelf : Shelf) → shelf.redirects ≡ map.empty → IsTrue (redirects_lead shelf)
unfolding redirects_lead
nothing_redirected shelf none = ap (λ es. list_all (entry_leads shelf.redirects) es) (ap (λ m. map.entries m) none ∙ no_entries)

is_named_once : (digest : List ℕ) (layer : ImageLayer) → names digest layer.content ≡ true → named_layer digest (layer ∷ []) ≡ Some layer
is_named_once digest layer is = ap (λ b. cond b (Some layer) None) is

-- ---- the shelf is valid

module _ {V : Type 0} {H : V → Type 0} {policy_context : PolicyContext V H} {s : Settings} {image : Reference} {a : RegistryAuth} {accepted : List (List ℕ)} {tag : List ℕ} {packed signing : Packed} (small : IsSmall policy_context s image a accepted tag packed signing) where
  abbrev shelf : Shelf
  shelf = shelf_of (repository_of image) tag packed signing

  abbrev d : List ℕ
  d = sha256 packed.bytes

  blob_named : (key blob : List ℕ) → map.get shelf.blobs key ≡ Some blob → IsNamed key blob
  blob_named =
      get_all IsNamed _ (sha256 signing.layer) signing.layer refl
      (get_all IsNamed _ (sha256 signing.config) signing.config refl
      (get_all IsNamed _ (sha256 packed.layer) packed.layer refl
      (get_all IsNamed map.empty (sha256 packed.config) packed.config refl (get_none IsNamed))))

  has_blob : (key : List ℕ) → (w : List ℕ) × (map.get shelf.blobs key ≡ Some w) → HasBlob shelf key
  has_blob key (w, is) = record { blob = w; there = is; named = (Sha256, blob_named key w is) }

  abbrev Three : Texts (List ℕ)
  Three = map.insert (map.insert (map.insert map.empty (sha256 packed.config) packed.config) (sha256 packed.layer) packed.layer) (sha256 signing.config) signing.config

  abbrev Two : Texts (List ℕ)
  Two = map.insert (map.insert map.empty (sha256 packed.config) packed.config) (sha256 packed.layer) packed.layer

  own_config : HasBlob shelf (sha256 packed.config)
  own_config = has_blob (sha256 packed.config) (there_still Three (sha256 signing.layer) (sha256 packed.config) signing.layer (there_still Two (sha256 signing.config) (sha256 packed.config) signing.config
      (there_still (map.insert map.empty (sha256 packed.config) packed.config) (sha256 packed.layer) (sha256 packed.config) packed.layer (packed.config, get_here map.empty (sha256 packed.config) packed.config))))

  own_layer : HasBlob shelf (sha256 packed.layer)
  own_layer = has_blob (sha256 packed.layer) (there_still Three (sha256 signing.layer) (sha256 packed.layer) signing.layer (there_still Two (sha256 signing.config) (sha256 packed.layer) signing.config
      (packed.layer, get_here (map.insert map.empty (sha256 packed.config) packed.config) (sha256 packed.layer) packed.layer)))

  signing_config : HasBlob shelf (sha256 signing.config)
  signing_config = has_blob (sha256 signing.config) (there_still Three (sha256 signing.layer) (sha256 signing.config) signing.layer (signing.config, get_here Two (sha256 signing.config) signing.config))

  payload_there : map.get shelf.blobs (sha256 signing.layer) ≡ Some signing.layer
  payload_there = get_here Three (sha256 signing.layer) signing.layer

  -- the blobs of a manifest of one layer
  blobs_on : (p : Packed) (types : List (List ℕ)) → HasBlob shelf (sha256 p.config) → HasBlob shelf (sha256 p.layer) → Contains types p.descriptor.media_type → HasBlobs shelf types p.manifest
  blobs_on p types config layer accepts = record {
    config = subst (HasBlob shelf) (sym p.config_is) config;
    some = subst (λ (xs : List OciDescriptor). 0 < length xs) (sym p.layers_are) (omega arith);
    layers = subst (All (HasLayer shelf types)) (sym p.layers_are) (All-cons (HasLayer shelf types) p.descriptor [] (subst (HasBlob shelf) (sym p.layer_is) layer, accepts) (All-nil (HasLayer shelf types)));
  }

  image_document : HasDocument shelf d packed.bytes
  image_document = record {
    document = record { media_type = []; content = packed.bytes };
    there = get_here (map.insert map.empty (sha256 signing.bytes) (record { media_type = []; content = signing.bytes })) d (record { media_type = []; content = packed.bytes });
    content = refl;
    named = (Sha256, refl);
  }

  signing_document : HasDocument shelf (sha256 signing.bytes) signing.bytes
  signing_document = record {
    document = record { media_type = []; content = signing.bytes };
    there = get_other (map.insert map.empty (sha256 signing.bytes) (record { media_type = []; content = signing.bytes })) d (sha256 signing.bytes) (record { media_type = []; content = packed.bytes }) small.other_document
        ∙ get_here map.empty (sha256 signing.bytes) (record { media_type = []; content = signing.bytes });
    content = refl;
    named = (Sha256, refl);
  }

  asked : IsAsked s image a shelf
  asked = record { reads_back_is = small.reads_back_is; repository_is = refl; written = small.written; agent = small.agent; credentials = small.credentials; lead = nothing_redirected shelf refl }

  tag_is : Tag tag
  tag_is = subst (λ o. IfSome o Tag) small.by_tag (spelled image small.reads_back_is).tag_is

  points : digest_named shelf (manifest_name (digest_of image) (tag_of image)) ≡ Some d
  points =
      (λ i. digest_named shelf (manifest_name (small.no_digest i) (small.by_tag i))) ∙ tag_named shelf tag tag_is
      ∙ get_other (map.insert map.empty tag d) (signature_tag d) tag (sha256 signing.bytes) small.other_tag ∙ get_here map.empty tag d

  image_on : ImageOn s shelf d accepted
  image_on = record { first = packed.bytes; there = image_document; document = Image packed.manifest; reads = packed.reads; manifest = packed.manifest; leads = refl; blobs = blobs_on packed accepted own_config own_layer small.accepts }

  -- the payload is read as the layer that satisfies the policy
  read_is : read_layer policy_context.trust d signing.descriptor (named_layer signing.descriptor.digest (layers_on shelf signing.manifest.layers)) ≡ Ok small.signature
  read_is =
      let own : ImageLayer = layer_of signing.descriptor signing.layer in
      let content : unwrap_or (map.get shelf.blobs signing.descriptor.digest) [] ≡ signing.layer = ap (λ (t : List ℕ). unwrap_or (map.get shelf.blobs t) []) signing.layer_is ∙ ap (λ o. unwrap_or o []) payload_there in
      let named_is : names signing.descriptor.digest signing.layer ≡ true = (named signing.descriptor.digest signing.layer).1 (Sha256, signing.layer_is) in
      ap (λ (xs : List OciDescriptor). read_layer policy_context.trust d signing.descriptor (named_layer signing.descriptor.digest (layers_on shelf xs))) signing.layers_are
      ∙ ap (λ (b : List ℕ). read_layer policy_context.trust d signing.descriptor (named_layer signing.descriptor.digest (layer_of signing.descriptor b ∷ []))) content
      ∙ ap (read_layer policy_context.trust d signing.descriptor) (is_named_once signing.descriptor.digest own named_is)
      ∙ small.is_read

  abbrev signed : SignedByTag policy_context d shelf
  signed = record {
    signatures = sha256 signing.bytes;
    tagged = get_here (map.insert map.empty tag d) (signature_tag d) (sha256 signing.bytes);
    manifest = signing.manifest;
    there = (signing.bytes, signing_document, signing.reads);
    payloads = blobs_on signing (payload_type ∷ []) signing_config (record { blob = signing.layer; there = payload_there; named = (Sha256, refl) }) small.payload;
    standing = record {
      descriptor = signing.descriptor;
      listed = subst (λ (xs : List OciDescriptor). Contains xs signing.descriptor) (sym signing.layers_are) (0, omega arith, refl);
      layer = small.signature;
      reads = read_is;
      stands_for = small.stands;
    };
  }

  abbrev FitsBlob : List ℕ → List ℕ → Type 0
  FitsBlob key blob = length blob ≤ s.max_body_bytes

  abbrev FitsDocument : List ℕ → ShelfDocument → Type 0
  FitsDocument key document = length document.content ≤ s.max_body_bytes

  short : FitsLimit s shelf
  short = record {
    documents = get_all FitsDocument _ d _ small.documents_short.0 (get_all FitsDocument map.empty (sha256 signing.bytes) _ small.documents_short.1 (get_none FitsDocument));
    blobs = get_all FitsBlob Three (sha256 signing.layer) signing.layer (small.blobs_short 3 [] (omega arith)) (get_all FitsBlob Two (sha256 signing.config) signing.config (small.blobs_short 2 [] (omega arith))
        (get_all FitsBlob _ (sha256 packed.layer) packed.layer (small.blobs_short 1 [] (omega arith)) (get_all FitsBlob map.empty (sha256 packed.config) packed.config (small.blobs_short 0 [] (omega arith)) (get_none FitsBlob))));
    referrers = get_none FitsBlob;
  }

  -- the shelf is valid
  pub small_valid : ValidShelf policy_context s image a accepted shelf
  small_valid = record {
    asked = asked;
    digest = d;
    named = points;
    sha256 = (encode_lower (hash_of Sha256 packed.bytes), refl);
    image_on = image_on;
    signed = signed;
    no_entry = small.no_entry;
    no_certificate = small.no_certificate;
    short = short;
  }
