-- Refusals that must occur: a malformed URL, and an invalid header value, before the first request of the push.
use Rattle.std.proofs.Common.{◌≡◌, inl, inr, ℕ, false, List, [], ◌∷◌, Option, Some, None, Result, Ok, Err, codes, refl, ap, subst}
use Rattle.std.specs.Prelude.{◌&&◌, if◌then◌else◌, ok_or}
use Rattle.url.specs.Parts.{Parts, serialize}
use Rattle.oci_auth.specs.declared.auth.RegistryAuth.{RegistryAuth}
use Rattle.oci_auth.specs.declared.token_type.RegistryTokenType.{RegistryTokenType}
use Rattle.oci_manifests.specs.Document.{content_type_of}
use Rattle.oci_manifests.specs.declared.blob.Config.{Config}
use Rattle.oci_manifests.specs.declared.blob.ImageLayer.{ImageLayer}
use Rattle.oci_manifests.specs.declared.document.OciManifest.TheVariants.{ImageIndex}
use Rattle.oci_manifests.specs.declared.index.OciImageIndex.{OciImageIndex}
use Rattle.oci_manifests.specs.declared.manifest.OciImageManifest.{OciImageManifest}
use Rattle.oci_names.specs.declared.reference.Reference.{Reference}
use Rattle.oci_transport.specs.Headers.{Fields, added, is_header_value, has_room}
use Rattle.oci_transport.specs.Urls.{request_url}
use Rattle.oci_transport.specs.declared.message.Method.TheVariants.{Put}
use Rattle.oci_transport.specs.declared.message.Request.{Request}
use Rattle.oci_protocol.specs.Ends.{Ends}
use Rattle.oci_protocol.specs.Proto.{Done, bind, ◌>>=◌, ◌>>◌}
use Rattle.oci_protocol.proofs.Ends.{Ends-bind}
use Rattle.engine_terms.specs.Contexts.{Context}
use Rattle.json_values.specs.Refusals.{◌>>=◌ as ◌into◌}
use Rattle.engine_terms.specs.declared.error.GenericCause.TheVariants.{HeaderText}
use Rattle.engine_terms.specs.declared.error.OciDistributionError.{OciDistributionError}
use Rattle.engine_terms.specs.declared.error.OciDistributionError.TheVariants as refusal
use Rattle.engine_requests.specs.Addresses.{manifest_text, uploads_text}
use Rattle.engine_requests.specs.Requests.{request_of}
use Rattle.engine_rows.specs.Causes.{IsEarly, HasBadHeader}
use Rattle.engine_rows.specs.Rows.{Row, store}
use Rattle.request_laws.proofs.ExactRefusals.{Only, handed_on, no_url, early_on, url_first}
use Rattle.push_rows.specs.Calls.{push_blob}
use Rattle.push_rows.specs.Contents.{with_fields, with_content}
use Rattle.push_rows.specs.Uploads.{location_after, sent}
use Rattle.push_rows.specs.declared.content.Content.TheVariants.{Document}
use Rattle.push_rows.proofs.Endings.{Textual, made_textual}
use Rattle.push_laws.proofs.EarlyPushes.{invalid_step, token_first, sent_bad, blob_url, blob_bad}
use Rattle.push_rows.specs.Images.{named_url, or_named, push_manifest_raw, push_manifest, push_manifest_list, manifest_for, digests_for, layers_pushed, image_pushed, push}

abbrev invalid : {A : Type 0} → Result A OciDistributionError
invalid = Err (refusal.GenericError HeaderText)

-- after the credentials are stored
after_store : {B : Type 0} (Q : Result B OciDistributionError → Type 0) (image : Reference) (a : RegistryAuth) (p : Row B) → Ends Q p → Ends Q (store image a >> p)
unfolding store Ends bind
after_store Q image a p h = λ k. h

-- a step that returned a value
ok_first : {A B : Type 0} (a : A) (f : A → Row B) → Ends IsEarly (f a) → Ends IsEarly (Done (Ok a) >>= f)
unfolding bind
ok_first a f h = h

-- ---- a content type that is not a valid header value

kind_bad : (kind body : List ℕ) (bare : Request) → is_header_value kind ≡ false → with_content (Document kind body) bare ≡ invalid
unfolding with_content
kind_bad kind body bare bad = ap (λ (r : Result Fields OciDistributionError). r into (λ headers. Ok (record bare { headers = headers; body = body }))) refused where
  refused : with_fields (Document kind body) bare.headers ≡ invalid
  refused = ap (λ b. ok_or (if b && has_room bare.headers then Some (added bare.headers (codes "content-type") kind) else None) (refusal.GenericError HeaderText)) bad

module _ (s : Context) (image : Reference) where
  document_bad : (url : Parts) (kind body : List ℕ) → HasBadHeader s.settings kind → Ends IsEarly (sent s image Put url (Document kind body) 201)
  unfolding sent
  document_bad url kind body (inl bad) = sent_bad s image Put url (Document kind body) 201 bad
  document_bad url kind body (inr bad) = typed bad where
    unmade : (token : Option RegistryTokenType) (r : Result Request OciDistributionError) → request_of s.settings Put url None token ≡ r → Ends IsEarly (Done r >>= λ request. Done (with_content (Document kind body) request) >>= location_after s.settings image 201)
    unmade token (Ok bare) is = ok_first bare (λ request. Done (with_content (Document kind body) request) >>= location_after s.settings image 201) (invalid_step (with_content (Document kind body) bare) (location_after s.settings image 201) (kind_bad kind body bare bad))
    unmade token (Err e) is = invalid_step (Err e) (λ request. Done (with_content (Document kind body) request) >>= location_after s.settings image 201) (ap Err (subst Textual is (made_textual s.settings Put url token)))

    typed : is_header_value kind ≡ false → Ends IsEarly (sent s image Put url (Document kind body) 201)
    typed bad = token_first s image url _ (λ token. unmade token (request_of s.settings Put url None token) refl)

  or_early : (named : Option (List ℕ)) (r : Result (List ℕ) OciDistributionError) → IsEarly r → Ends IsEarly (or_named named r)
  unfolding Ends
  or_early named (Ok location) h = absurd h
  or_early named (Err (refusal.UrlParseError text)) h = h
  or_early named (Err (refusal.GenericError HeaderText)) h = tt
  or_early named (Err refusal.WantOfMemory) h = tt
  or_early named (Err _) h = absurd h

  pub raw_url : (body kind : List ℕ) → request_url (manifest_text s.settings image) ≡ None → Ends (Only (refusal.UrlParseError (manifest_text s.settings image))) (push_manifest_raw s image body kind)
  unfolding push_manifest_raw
  raw_url body kind none = no_url (manifest_text s.settings image) _ none

  pub raw_bad : (body kind : List ℕ) → HasBadHeader s.settings kind → Ends IsEarly (push_manifest_raw s image body kind)
  unfolding push_manifest_raw
  raw_bad body kind bad = url_first (manifest_text s.settings image) _ (λ url. Ends-bind IsEarly IsEarly (sent s image Put url (Document kind body) 201) (or_named (named_url (serialize url) image body)) (document_bad url kind body bad) (or_early (named_url (serialize url) image body)))

  pub list_url : (a : RegistryAuth) (index : OciImageIndex) → request_url (manifest_text s.settings image) ≡ None → Ends (Only (refusal.UrlParseError (manifest_text s.settings image))) (push_manifest_list s image a index)
  unfolding push_manifest_list
  list_url a index none = after_store (Only (refusal.UrlParseError (manifest_text s.settings image))) image a (push_manifest s image (ImageIndex index)) (raw_url _ _ none)

  pub list_bad : (a : RegistryAuth) (index : OciImageIndex) → HasBadHeader s.settings (content_type_of (ImageIndex index)) → Ends IsEarly (push_manifest_list s image a index)
  unfolding push_manifest_list
  list_bad a index bad = after_store IsEarly image a (push_manifest s image (ImageIndex index)) (raw_bad _ _ bad)

  -- ---- an image: its first request is that of the first layer, or of the configuration

  abbrev Malformed : OciDistributionError
  Malformed = refusal.UrlParseError (uploads_text s.settings image)

  after_layers : {A : Type 0} (Q : Result A OciDistributionError → Type 0) (digests : List (List ℕ)) (layers : List ImageLayer) (p : Row A) → ((layer : ImageLayer) (digest : List ℕ) (f : List ℕ → Row (Unit {0})) → Ends Q ((push_blob s image layer.content digest >>= f) >>= λ u. p)) → Ends Q p → Ends Q (layers_pushed s image digests layers >>= λ u. p)
  unfolding layers_pushed bind
  after_layers Q [] layers p blob end = end
  after_layers Q (digest ∷ digests) [] p blob end = end
  after_layers Q (digest ∷ digests) (layer ∷ layers) p blob end = blob layer digest (λ url. layers_pushed s image digests layers)

  pub image_url : (layers : List ImageLayer) (config : Config) (a : RegistryAuth) (given : Option OciImageManifest) → request_url (uploads_text s.settings image) ≡ None → Ends (Only Malformed) (push s image layers config a given)
  unfolding push image_pushed
  image_url layers config a given none =
      let manifest = manifest_for given layers config in
      after_store (Only Malformed) image a (image_pushed s image layers config manifest) (after_layers (Only Malformed) (digests_for manifest.layers layers) layers _ (λ layer digest f. handed_on Malformed (push_blob s image layer.content digest >>= f) _ (handed_on Malformed (push_blob s image layer.content digest) f (blob_url s image layer.content digest none)))
      (handed_on Malformed (push_blob s image config.content manifest.config.digest) _ (blob_url s image config.content manifest.config.digest none)))

  pub image_bad : (layers : List ImageLayer) (config : Config) (a : RegistryAuth) (given : Option OciImageManifest) → is_header_value s.settings.user_agent ≡ false → Ends IsEarly (push s image layers config a given)
  unfolding push image_pushed
  image_bad layers config a given bad =
      let manifest = manifest_for given layers config in
      after_store IsEarly image a (image_pushed s image layers config manifest) (after_layers IsEarly (digests_for manifest.layers layers) layers _ (λ layer digest f. early_on (push_blob s image layer.content digest >>= f) _ (early_on (push_blob s image layer.content digest) f (blob_bad s image layer.content digest bad)))
      (early_on (push_blob s image config.content manifest.config.digest) _ (blob_bad s image config.content manifest.config.digest bad)))
