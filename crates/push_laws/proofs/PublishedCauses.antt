-- Why a push of a manifest or of an image was refused, step by step.
use Rattle.std.proofs.Common.{◌≡◌, inl, inr, ℕ, arith, List, [], ◌∷◌, ◌++◌, Option, Some, None, Result, Ok, Err, map, refl, sym, subst, append-nil}
use Rattle.std.specs.List.{Contains}
use Rattle.std.proofs.lemmas.List.Elements.{Contains-append_left, Contains-append_right}
use Rattle.url.specs.Parts.{serialize}
use Rattle.oci_auth.specs.declared.auth.RegistryAuth.{RegistryAuth}
use Rattle.oci_auth.specs.declared.auth_state.AuthState.{AuthState}
use Rattle.oci_manifests.specs.declared.blob.Config.{Config}
use Rattle.oci_manifests.specs.declared.blob.ImageLayer.{ImageLayer}
use Rattle.oci_manifests.specs.declared.document.OciManifest.TheVariants.{Image}
use Rattle.oci_manifests.specs.declared.index.OciImageIndex.{OciImageIndex}
use Rattle.oci_manifests.specs.declared.manifest.OciImageManifest.{OciImageManifest}
use Rattle.oci_names.specs.declared.reference.Reference.{Reference}
use Rattle.oci_transport.specs.declared.message.Exchange.{Exchange}
use Rattle.oci_transport.specs.declared.message.Method.{Method}
use Rattle.oci_transport.specs.declared.message.Method.TheVariants.{Put}
use Rattle.oci_protocol.specs.EveryRun.{ByResult}
use Rattle.oci_protocol.specs.Runs.{Runs}
use Rattle.oci_protocol.specs.Proto.{bind}
use Rattle.oci_protocol.proofs.Parts.{Runs-parts}
use Rattle.oci_protocol.proofs.RunFacts.{done_run, EveryRun-done, EveryRun-recall, EveryRun-keep}
use Rattle.engine_terms.specs.Contexts.{Context}
use Rattle.engine_terms.specs.declared.error.OciDistributionError.{OciDistributionError}
use Rattle.engine_terms.specs.declared.error.OciDistributionError.TheVariants as refusal
use Rattle.engine_terms.specs.declared.settings.Settings.{Settings}
use Rattle.engine_requests.specs.Addresses.{registry_text, manifest_text}
use Rattle.engine_rows.specs.Rows.{store}
use Rattle.push_rows.specs.Calls.{push_blob}
use Rattle.push_rows.specs.Causes.{of_upload, Named, OfNothing}
use Rattle.push_rows.specs.Uploads.{sent}
use Rattle.push_rows.specs.declared.content.Content.TheVariants.{Document}
use Rattle.push_laws.proofs.RequestCauses.{Loose, Texts, call_texts, texts_after, Shown, shown_next, shown_done, url_shown, sent_shown}
use Rattle.push_laws.proofs.UploadCauses.{blob_leads}
use Rattle.push_rows.specs.Images.{named_url, named_for, unless_named, or_named, push_manifest_raw, push_manifest, push_manifest_list, manifest_for, digests_for, layers_pushed, image_pushed, push}
use Rattle.push_rows.specs.ImageCauses.{of_manifest, ManifestText, ImageText, OfBlobs, blobs_of}

-- for any result
abbrev Anything : {A : Type 0} → List Exchange → A → Type 0
Anything c a = Unit {0}

module _ (expects : Method → Option ℕ) (puts : expects Put ≡ Some 201) (s : Context) (image : Reference) (T : List Exchange → List ℕ → Type 0) (Own : OciDistributionError → Type 0) where
  abbrev Answers : {A : Type 0} → ℕ → List Exchange → ℕ → Result A OciDistributionError → Type 0
  Answers = ByResult (λ m c n a. Unit {0}) (λ m c n e. Loose expects T Own s.settings c n e)

  or_shown : (named : Option (List ℕ)) (m n : ℕ) (c : List Exchange) (r : Result (List ℕ) OciDistributionError) → ByResult (λ m c n location. Named s.settings image c location) (λ m c n e. Loose expects T Own s.settings c n e) m c n r
      → (k l : AuthState) (d : List Exchange) (o : ℕ) (b : Result (List ℕ) OciDistributionError) → Runs (or_named named r) k n d o l b → Answers m (c ++ d) o b
  or_shown named m n c (Ok location) h k l d o b run = done_run (λ start d o b. Answers m (c ++ d) o b) (Ok location) k l n o d b tt run
  or_shown named m n c (Err e) h k l d o b run = done_run (λ start d o b. Answers m (c ++ d) o b) (unless_named e (named_for e named)) k l n o d b (by_named (named_for e named)) run where
    by_named : (found : Option (List ℕ)) → Answers m (c ++ []) n (unless_named e found)
    by_named (Some url) = tt
    by_named None = rw append-nil h

  pub raw_tells : (registry : (c : List Exchange) → T c (registry_text s.settings image)) (here : T [] (manifest_text s.settings image)) (body kind : List ℕ) → Shown expects T Own s.settings Anything (push_manifest_raw s image body kind)
  unfolding push_manifest_raw
  raw_tells registry here body kind = url_shown expects T Own s.settings Anything (manifest_text s.settings image) _ here (λ url. record {
    shows = λ k l m n c b run.
        let p = sent s image Put url (Document kind body) 201 in
        let named = named_url (serialize url) image body in
        let t = Runs-parts p (or_named named) k m c n l b run in
        subst (λ c. Answers m c n b) (sym t.joined) (or_shown named m t.count t.first t.answer ((sent_shown expects s image Own T registry Put url (Document kind body) 201 puts).shows k t.between m t.count t.first t.answer t.runs_first) t.between l t.second n b t.runs_second);
  })

  pub store_tells : (a : RegistryAuth) → Shown expects T Own s.settings Anything (store image a)
  unfolding store bind
  store_tells a = EveryRun-recall _ _ (λ k. EveryRun-keep _ _ _ (EveryRun-done _ (Ok tt) (λ m. tt)))

-- ---- a manifest

module _ (s : Context) (image : Reference) where
  pub raw_shown : (body kind : List ℕ) → Shown of_manifest (ManifestText s.settings image) OfNothing s.settings Anything (push_manifest_raw s image body kind)
  raw_shown body kind = raw_tells of_manifest refl s image (ManifestText s.settings image) OfNothing (λ c. inl refl) (inr refl) body kind

  pub list_shown : (a : RegistryAuth) (index : OciImageIndex) → Shown of_manifest (ManifestText s.settings image) OfNothing s.settings Anything (push_manifest_list s image a index)
  unfolding push_manifest_list
  list_shown a index = shown_next of_manifest (ManifestText s.settings image) OfNothing s.settings Anything Anything (store image a) _ (store_tells of_manifest refl s image (ManifestText s.settings image) OfNothing a) (λ c u h. raw_shown _ _)

-- ---- an image

image_texts : (s : Settings) (image : Reference) → Texts s image (ImageText s image)
image_texts s image =
    let t = call_texts s image in
    record { registry = λ c. inl (t.registry c); uploads = λ c. inl (t.uploads c); named = λ c text h. inl (t.named c text h); more = more_text } where
      more_text : (c d : List Exchange) (text : List ℕ) → ImageText s image c text → ImageText s image (c ++ d) text
      more_text c d text (inl h) = inl ((call_texts s image).more c d text h)
      more_text c d text (inr h) = inr h

module _ (s : Context) (image : Reference) (Own : OciDistributionError → Type 0) where
  -- each blob may be empty
  abbrev Allows : List (List ℕ) → Type 0
  Allows blobs = (content : List ℕ) → Contains blobs content → content ≡ [] → Own refusal.PushNoDataError

  layers_tell : (T : List Exchange → List ℕ → Type 0) → Texts s.settings image T → (digests : List (List ℕ)) (layers : List ImageLayer) → Allows (map (λ (layer : ImageLayer). layer.content) layers) → Shown of_upload T Own s.settings Anything (layers_pushed s image digests layers)
  unfolding layers_pushed
  layers_tell T texts [] layers allows = shown_done of_upload T Own s.settings Anything tt tt
  layers_tell T texts (digest ∷ digests) [] allows = shown_done of_upload T Own s.settings Anything tt tt
  layers_tell T texts (digest ∷ digests) (layer ∷ layers) allows = shown_next of_upload T Own s.settings (λ c location. T c location) Anything (push_blob s image layer.content digest) _ (blob_leads s image layer.content digest Own (allows layer.content (0, omega arith, refl)) T texts) (λ c url h.
      layers_tell (λ d. T (c ++ d)) (texts_after c texts) digests layers (λ content at none. allows content (Contains-append_right (layer.content ∷ []) (map (λ (layer : ImageLayer). layer.content) layers) content at) none))

  image_tells : (T : List Exchange → List ℕ → Type 0) → Texts s.settings image T → ((c : List Exchange) → T c (manifest_text s.settings image)) → (layers : List ImageLayer) (config : Config) (manifest : OciImageManifest) → Allows (blobs_of layers config) → Shown of_upload T Own s.settings Anything (image_pushed s image layers config manifest)
  unfolding image_pushed
  image_tells T texts here layers config manifest allows =
      let contents : List (List ℕ) = map (λ (layer : ImageLayer). layer.content) layers in
      shown_next of_upload T Own s.settings Anything Anything (layers_pushed s image (digests_for manifest.layers layers) layers) _ (layers_tell T texts (digests_for manifest.layers layers) layers (λ content at none. allows content (Contains-append_left contents (config.content ∷ []) content at) none)) (λ c u h.
      let U : List Exchange → List ℕ → Type 0 = λ d. T (c ++ d) in
      let later = texts_after c texts in
      shown_next of_upload U Own s.settings (λ d location. U d location) Anything (push_blob s image config.content manifest.config.digest) _ (blob_leads s image config.content manifest.config.digest Own (allows config.content (Contains-append_right contents (config.content ∷ []) config.content (0, omega arith, refl))) U later) (λ d url g.
      let V : List Exchange → List ℕ → Type 0 = λ e. U (d ++ e) in
      shown_next of_upload V Own s.settings Anything Anything (push_manifest s image (Image manifest)) _ (raw_tells of_upload refl s image V Own (texts_after d later).registry (here (c ++ (d ++ []))) _ _) (λ e url i.
      shown_done of_upload (λ f. V (e ++ f)) Own s.settings Anything _ tt)))

pub push_shown : (s : Context) (image : Reference) (layers : List ImageLayer) (config : Config) (a : RegistryAuth) (given : Option OciImageManifest) → Shown of_upload (ImageText s.settings image) (OfBlobs (blobs_of layers config)) s.settings Anything (push s image layers config a given)
unfolding push
push_shown s image layers config a given =
    let T : List Exchange → List ℕ → Type 0 = ImageText s.settings image in
    let Own : OciDistributionError → Type 0 = OfBlobs (blobs_of layers config) in
    shown_next of_upload T Own s.settings Anything Anything (store image a) _ (store_tells of_upload refl s image T Own a) (λ c u h.
    image_tells s image Own (λ d. T (c ++ d)) (texts_after c (image_texts s.settings image)) (λ d. inr refl) layers config (manifest_for given layers config) (λ content at none. subst (λ x. Contains (blobs_of layers config) x) none at))
