-- Why the calls for a whole image and for its configuration were refused.
use Rattle.std.proofs.Common.{◌≡◌, inl, inr, ℕ, suc, Bool, true, false, List, [], ◌∷◌, ◌++◌, Option, Some, Result, Ok, Err, refl, sym, ap, subst, ◌∙◌, append_assoc, append-nil, arith}
use Rattle.std.specs.Prelude.{if◌then◌else◌}
use Rattle.std.specs.List.{Contains}
use Rattle.std.specs.Str.{is_utf8}
use Rattle.oci_transport.specs.declared.message.Exchange.{Exchange}
use Rattle.oci_names.specs.declared.reference.Reference.{Reference}
use Rattle.oci_manifests.specs.declared.manifest.OciImageManifest.{OciImageManifest}
use Rattle.oci_manifests.specs.declared.descriptor.OciDescriptor.{OciDescriptor}
use Rattle.oci_manifests.specs.declared.blob.ImageLayer.{ImageLayer}
use Rattle.oci_auth.specs.declared.auth.RegistryAuth.{RegistryAuth}
use Rattle.oci_protocol.specs.Proto.{Done, ◌>>=◌, ◌>>◌}
use Rattle.oci_protocol.specs.EveryRun.{EveryRun, ByResult, WhenOk}
use Rattle.oci_protocol.proofs.RunFacts.{EveryRun-done, EveryRun-more, EveryRun-each, EveryRun-step}
use Rattle.engine_terms.specs.Contexts.{Context}
use Rattle.engine_terms.specs.declared.settings.Settings.{Settings}
use Rattle.engine_terms.specs.declared.error.GenericCause.TheVariants.{ConfigNotText}
use Rattle.engine_terms.specs.declared.error.OciDistributionError.{OciDistributionError}
use Rattle.engine_terms.specs.declared.error.OciDistributionError.TheVariants as refusal
use Rattle.engine_answers.specs.Index.{config_text}
use Rattle.engine_requests.specs.Requests.{manifest_types}
use Rattle.engine_requests.specs.Sources.{described}
use Rattle.engine_rows.specs.Blobs.{IntoMemory}
use Rattle.engine_rows.specs.Rows.{Row}
use Rattle.engine_rows.specs.Pulls.{held_blob}
use Rattle.engine_rows.specs.Manifests.{pull_image_manifest_and_list_digest, pull_manifest_and_config_and_list_digest, pull_manifest_and_config}
use Rattle.engine_rows.specs.Image.{is_accepted, all_accepted, layers_accepted, layer_of, layers_by, config_of, pull_layers, pull}
use Rattle.engine_rows.specs.declared.image.ImageData.{ImageData}
use Rattle.engine_rows.specs.Answered.{LastBody}
use Rattle.engine_rows.specs.Causes.{BlobUrl, ImageUrl, FoundUrl, FoundDigest, AnswerCause, DocumentCause, AskedDigest, ManifestRead, ReadDescriptor, ImageDigest, IndexCause, ConfigCause, ImageCause}
use Rattle.request_laws.proofs.EarlyCauses.{AnyValue, Loose, LooseBlob}
use Rattle.request_laws.proofs.DocumentCauses.{cause_later}
use Rattle.engine_laws.proofs.BlobAnswers.{Blob, blob_shows}
use Rattle.request_laws.proofs.BlobCauses.{blob_later, blob_causes}
use Rattle.engine_laws.proofs.ManifestCauses.{answer_document, document_more}
use Rattle.engine_laws.proofs.FoundCauses.{read_before, no_resolver_more, no_entry_more, FoundLoose, FoundRefused, found_causes}

-- ---- layers, one after another

contains_first : {X : Type 0} (x : X) (xs : List X) → Contains (x ∷ xs) x
contains_first x xs = (0, omega arith, refl)

contains_rest : {X : Type 0} (x y : X) (xs : List X) → Contains xs y → Contains (x ∷ xs) y
contains_rest x y xs h = (suc h.0, omega (arith, h.1), h.2)

-- the blob of one of these descriptors was refused
record OneRefused (s : Settings) (image : Reference) (xs : List OciDescriptor) (c : List Exchange) (now : ℕ) (e : OciDistributionError) : Type 0 where
  x : OciDescriptor
  contains : Contains xs x
  cause : LooseBlob (BlobUrl s image (described x)) IntoMemory s x.digest c now e

abbrev Layers : Settings → Reference → List OciDescriptor → ℕ → List Exchange → ℕ → OciDistributionError → Type 0
Layers s image xs m c n e = OneRefused s image xs c n e

abbrev AnyLayers : ℕ → List Exchange → ℕ → List ImageLayer → Type 0
AnyLayers m c n layers = Unit {0}

first_where : (s : Settings) (image : Reference) (x : OciDescriptor) (xs : List OciDescriptor) (m n : ℕ) (c : List Exchange) (r : Result (List ℕ) OciDistributionError) → ByResult (λ m c n bytes. Unit {0}) (λ m c n e. LooseBlob (BlobUrl s image (described x)) IntoMemory s x.digest c n e) m c n r → ByResult (λ m c n bytes. Unit {0}) (Layers s image (x ∷ xs)) m c n r
first_where s image x xs m n c (Ok bytes) h = tt
first_where s image x xs m n c (Err e) h = record { x = x; contains = contains_first x xs; cause = h }

rest_where : (s : Settings) (image : Reference) (x : OciDescriptor) (xs : List OciDescriptor) (m start o : ℕ) (c d : List Exchange) (r : Result (List ImageLayer) OciDistributionError) → ByResult AnyLayers (Layers s image xs) start d o r → ByResult AnyLayers (Layers s image (x ∷ xs)) m (c ++ d) o r
rest_where s image x xs m start o c d (Ok layers) h = tt
rest_where s image x xs m start o c d (Err e) h = record { x = h.x; contains = contains_rest x h.x xs h.contains; cause = blob_later (BlobUrl s image (described h.x)) IntoMemory s h.x.digest o c d e h.cause }

layers_causes : (s : Context) (image : Reference) (xs : List OciDescriptor) (layers : List ImageLayer) → EveryRun (ByResult AnyLayers (Layers s.settings image xs)) (pull_layers s image xs layers)
unfolding layers_by
layers_causes s image [] layers = EveryRun-done (ByResult AnyLayers (Layers s.settings image [])) (Ok layers) (λ m. tt)
layers_causes s image (x ∷ xs) layers = EveryRun-each (λ m c n bytes. Unit {0}) AnyLayers (Layers s.settings image (x ∷ xs)) (held_blob s image (described x)) (λ content. pull_layers s image xs (layers ++ layer_of x content ∷ []))
    (EveryRun-more (ByResult (λ m c n bytes. Unit {0}) (λ m c n e. LooseBlob (BlobUrl s.settings image (described x)) IntoMemory s.settings x.digest c n e)) (ByResult (λ m c n bytes. Unit {0}) (Layers s.settings image (x ∷ xs))) (held_blob s image (described x)) (blob_causes IntoMemory s image (described x)) (first_where s.settings image x xs))
    (λ m n c content h. EveryRun-more (ByResult AnyLayers (Layers s.settings image xs)) (λ start d o r. ByResult AnyLayers (Layers s.settings image (x ∷ xs)) m (c ++ d) o r) (pull_layers s image xs (layers ++ layer_of x content ∷ [])) (layers_causes s image xs (layers ++ layer_of x content ∷ [])) (λ start o d r g. rest_where s.settings image x xs m start o c d r g))

-- ---- media types

-- a layer's media type is not accepted
record OneOther (accepted : List (List ℕ)) (xs : List OciDescriptor) (e : OciDistributionError) : Type 0 where
  x : OciDescriptor
  contains : Contains xs x
  refused : e ≡ refusal.IncompatibleLayerMediaTypeError x.media_type
  other : is_accepted accepted x.media_type ≡ false

one_other : (accepted : List (List ℕ)) (xs : List OciDescriptor) (e : OciDistributionError) → all_accepted accepted xs ≡ Err e → OneOther accepted xs e
one_other accepted [] e is = absurd (cc is)
one_other accepted (x ∷ xs) e is = by_test (is_accepted accepted x.media_type) refl is (λ h. one_other accepted xs e h) where
  by_test : (b : Bool) → is_accepted accepted x.media_type ≡ b → (if b then all_accepted accepted xs else Err (refusal.IncompatibleLayerMediaTypeError x.media_type)) ≡ Err e → (all_accepted accepted xs ≡ Err e → OneOther accepted xs e) → OneOther accepted (x ∷ xs) e
  by_test true test h again = let rest = again h in record { x = rest.x; contains = contains_rest x rest.x xs rest.contains; refused = rest.refused; other = rest.other }
  by_test false test h again = record { x = x; contains = contains_first x xs; refused = cc h; other = test }

-- ---- a whole image

-- why the row of an image ends with a refusal, for any invalid header value
abbrev pub RowCause : Settings → Reference → List (List ℕ) → List Exchange → ℕ → OciDistributionError → Type 0
RowCause s image accepted c now e = ImageCause AnyValue s image accepted c now e

-- why the row of its configuration does
abbrev pub ConfigRow : Settings → Reference → List Exchange → ℕ → OciDistributionError → Type 0
ConfigRow s image c now e = ConfigCause AnyValue s image c now e

-- a blob of the manifest was refused, in a call that an index may redirect
abbrev BlobLed : Settings → Reference → List Exchange → ℕ → OciDistributionError → Type 0
BlobLed s image c now e = IndexCause (ImageUrl s image c) (ImageDigest image c) AnyValue s c now e

-- except for a fault of a sink
blob_led : (s : Settings) (image : Reference) (c d : List Exchange) (x : OciDescriptor) (now : ℕ) (e : OciDistributionError) → ReadDescriptor (c ++ d) x → Loose (BlobUrl s image (described x)) (AnswerCause (AskedDigest x.digest)) s manifest_types d now e → BlobLed s image (c ++ d) now e
blob_led s image c d x now refusal.ImageIndexParsingNoPlatformResolverError has h = absurd h.holds
blob_led s image c d x now (refusal.ImageManifestNotFoundError text) has h = absurd h.holds
blob_led s image c d x now e has h = cause_later (BlobUrl s image (described x)) (ImageUrl s image (c ++ d)) (AnswerCause (AskedDigest x.digest)) (DocumentCause (ImageDigest image (c ++ d))) s manifest_types now c d e
    (λ text is. inr (x, has, is))
    (λ address answer g. answer_document (AskedDigest x.digest) (ImageDigest image (c ++ d)) address answer e (λ text is. inr (x, has, is)) g) h

-- a blob of the manifest was refused
blob_image : (s : Settings) (image : Reference) (accepted : List (List ℕ)) (c d : List Exchange) (x : OciDescriptor) (now : ℕ) (e : OciDistributionError) → ReadDescriptor (c ++ d) x → LooseBlob (BlobUrl s image (described x)) IntoMemory s x.digest d now e → RowCause s image accepted (c ++ d) now e
blob_image s image accepted c d x now refusal.SinkFault has h = h
blob_image s image accepted c d x now refusal.PullNoLayersError has h = absurd h.holds
blob_image s image accepted c d x now (refusal.IncompatibleLayerMediaTypeError kind) has h = absurd h.holds
blob_image s image accepted c d x now e has h = blob_led s image c d x now e has h

blob_config : (s : Settings) (image : Reference) (c d : List Exchange) (x : OciDescriptor) (now : ℕ) (e : OciDistributionError) → ReadDescriptor (c ++ d) x → LooseBlob (BlobUrl s image (described x)) IntoMemory s x.digest d now e → ConfigRow s image (c ++ d) now e
blob_config s image c d x now refusal.SinkFault has h = h
blob_config s image c d x now (refusal.GenericError ConfigNotText) has h = absurd h.holds
blob_config s image c d x now e has h = blob_led s image c d x now e has h

-- the manifest was
led_on : (s : Settings) (image : Reference) (c : List Exchange) (now : ℕ) (e : OciDistributionError) → FoundLoose s image c now e → BlobLed s image c now e
led_on s image c now refusal.ImageIndexParsingNoPlatformResolverError h = no_resolver_more (FoundUrl s image c) (ImageUrl s image c) (FoundDigest image c) (ImageDigest image c) s c now (λ act is. inl is) h
led_on s image c now (refusal.ImageManifestNotFoundError text) h = no_entry_more (FoundUrl s image c) (ImageUrl s image c) (FoundDigest image c) (ImageDigest image c) s c now text (λ act is. inl is) h
led_on s image c now e h = cause_later (FoundUrl s image c) (ImageUrl s image c) (DocumentCause (FoundDigest image c)) (DocumentCause (ImageDigest image c)) s manifest_types now [] c e (λ text is. inl is) (λ address answer g. document_more (FoundDigest image c) (ImageDigest image c) address answer e (λ text is. inl is) g) h

found_image : (s : Settings) (image : Reference) (accepted : List (List ℕ)) (c : List Exchange) (now : ℕ) (e : OciDistributionError) → FoundLoose s image c now e → RowCause s image accepted c now e
found_image s image accepted c now refusal.SinkFault h = absurd h.holds
found_image s image accepted c now refusal.PullNoLayersError h = absurd h.holds
found_image s image accepted c now (refusal.IncompatibleLayerMediaTypeError kind) h = absurd h.holds
found_image s image accepted c now e h = led_on s image c now e h

found_config : (s : Settings) (image : Reference) (c : List Exchange) (now : ℕ) (e : OciDistributionError) → FoundLoose s image c now e → ConfigRow s image c now e
found_config s image c now refusal.SinkFault h = absurd h.holds
found_config s image c now (refusal.GenericError ConfigNotText) h = absurd h.holds
found_config s image c now e h = led_on s image c now e h

abbrev Refused : Settings → Reference → List (List ℕ) → ℕ → List Exchange → ℕ → OciDistributionError → Type 0
Refused s image accepted m c n e = RowCause s image accepted c n e

abbrev AnyImage : ℕ → List Exchange → ℕ → ImageData → Type 0
AnyImage m c n data_of = Unit {0}

layers_refused : (s : Settings) (image : Reference) (accepted : List (List ℕ)) (c : List Exchange) (now : ℕ) (manifest : OciImageManifest) (xs : List OciDescriptor) (e : OciDistributionError) → manifest.layers ≡ xs → ManifestRead c manifest → layers_accepted accepted xs ≡ Err e → RowCause s image accepted c now e
layers_refused s image accepted c now manifest [] e same read is = let here : refusal.PullNoLayersError ≡ e = cc is in subst (RowCause s image accepted c now) here (manifest, read, same)
layers_refused s image accepted c now manifest (x ∷ xs) e same read is =
    let other = one_other accepted (x ∷ xs) e is in
    subst (RowCause s image accepted c now) (sym other.refused) (record { manifest = manifest; read = read; layer = other.x; contains = subst (λ (xs : List OciDescriptor). Contains xs other.x) (sym same) other.contains; media_type = refl; other = other.other })

config_where : (s : Settings) (image : Reference) (accepted : List (List ℕ)) (manifest : OciImageManifest) (m start o : ℕ) (c d : List Exchange) (r : Result (List ℕ) OciDistributionError) → ManifestRead c manifest → ByResult (λ m c n bytes. Unit {0}) (λ m c n e. LooseBlob (BlobUrl s image (described manifest.config)) IntoMemory s manifest.config.digest c n e) start d o r → ByResult (λ start d o bytes. Unit {0}) (λ start d o e. Refused s image accepted m (c ++ d) o e) start d o r
config_where s image accepted manifest m start o c d (Ok bytes) read h = tt
config_where s image accepted manifest m start o c d (Err e) read h = blob_image s image accepted c d manifest.config o e (record { manifest = manifest; read = read_before d read; is = inl refl }) h

layers_where : (s : Settings) (image : Reference) (accepted : List (List ℕ)) (manifest : OciImageManifest) (m start o : ℕ) (c d : List Exchange) (r : Result (List ImageLayer) OciDistributionError) → ManifestRead c manifest → ByResult AnyLayers (Layers s image manifest.layers) start d o r → ByResult AnyLayers (λ start d o e. Refused s image accepted m (c ++ d) o e) start d o r
layers_where s image accepted manifest m start o c d (Ok layers) read h = tt
layers_where s image accepted manifest m start o c d (Err e) read h = blob_image s image accepted c d h.x o e (record { manifest = manifest; read = read_before d read; is = inr h.contains }) h.cause

assoc_where : (s : Settings) (image : Reference) (accepted : List (List ℕ)) (m o : ℕ) (c d f : List Exchange) (r : Result ImageData OciDistributionError) → ByResult AnyImage (Refused s image accepted) m ((c ++ d) ++ f) o r → ByResult AnyImage (Refused s image accepted) m (c ++ (d ++ f)) o r
assoc_where s image accepted m o c d f (Ok x) h = tt
assoc_where s image accepted m o c d f (Err e) h = subst (λ x. Refused s image accepted m x o e) (append_assoc c d f) h

image_of : OciImageManifest → List ℕ → List ℕ → List ImageLayer → ImageData
image_of manifest digest config layers = record { layers = layers; digest = Some digest; config = config_of manifest config; manifest = Some manifest }

layers_part : (s : Context) (image : Reference) (accepted : List (List ℕ)) (manifest : OciImageManifest) (make : List ImageLayer → ImageData) (m : ℕ) (c : List Exchange) → ManifestRead c manifest
    → EveryRun (λ start d o r. ByResult AnyImage (Refused s.settings image accepted) m (c ++ d) o r) (Done (layers_accepted accepted manifest.layers) >> (pull_layers s image manifest.layers [] >>= λ layers. Done (Ok (make layers))))
layers_part s image accepted manifest make m c read = EveryRun-step (λ start d o r. ByResult AnyImage (Refused s.settings image accepted) m (c ++ d) o r) (layers_accepted accepted manifest.layers) (λ u. pull_layers s image manifest.layers [] >>= λ layers. Done (Ok (make layers)))
    (λ u is. EveryRun-each AnyLayers (λ start d o x. Unit {0}) (λ start d o e. Refused s.settings image accepted m (c ++ d) o e) (pull_layers s image manifest.layers []) (λ layers. Done (Ok (make layers)))
    (EveryRun-more (ByResult AnyLayers (Layers s.settings image manifest.layers)) (ByResult AnyLayers (λ start d o e. Refused s.settings image accepted m (c ++ d) o e)) (pull_layers s image manifest.layers []) (layers_causes s image manifest.layers []) (λ start o d r h. layers_where s.settings image accepted manifest m start o c d r read h))
    (λ start n d layers h. EveryRun-done (λ st f o r. ByResult (λ start d o x. Unit {0}) (λ start d o e. Refused s.settings image accepted m (c ++ d) o e) start (d ++ f) o r) (Ok (make layers)) (λ o. tt)))
    (λ e is o. subst (λ x. Refused s.settings image accepted m x o e) (sym (append-nil c)) (layers_refused s.settings image accepted c o manifest manifest.layers e refl read is))

config_part : (s : Context) (image : Reference) (accepted : List (List ℕ)) (manifest : OciImageManifest) (make : List ℕ → List ImageLayer → ImageData) (m : ℕ) (c : List Exchange) → ManifestRead c manifest
    → EveryRun (λ start d o r. ByResult AnyImage (Refused s.settings image accepted) m (c ++ d) o r) (held_blob s image (described manifest.config) >>= λ config. Done (layers_accepted accepted manifest.layers) >> (pull_layers s image manifest.layers [] >>= λ layers. Done (Ok (make config layers))))
config_part s image accepted manifest make m c read = EveryRun-each (λ start d o bytes. Unit {0}) (λ start d o x. Unit {0}) (λ start d o e. Refused s.settings image accepted m (c ++ d) o e) (held_blob s image (described manifest.config)) (λ config. Done (layers_accepted accepted manifest.layers) >> (pull_layers s image manifest.layers [] >>= λ layers. Done (Ok (make config layers))))
    (EveryRun-more (ByResult (λ m c n bytes. Unit {0}) (λ m c n e. LooseBlob (BlobUrl s.settings image (described manifest.config)) IntoMemory s.settings manifest.config.digest c n e)) (ByResult (λ start d o bytes. Unit {0}) (λ start d o e. Refused s.settings image accepted m (c ++ d) o e)) (held_blob s image (described manifest.config)) (blob_causes IntoMemory s image (described manifest.config)) (λ start o d r h. config_where s.settings image accepted manifest m start o c d r read h))
    (λ start n d config h. EveryRun-more (λ st f o r. ByResult AnyImage (Refused s.settings image accepted) m ((c ++ d) ++ f) o r) (λ st f o r. ByResult (λ start d o x. Unit {0}) (λ start d o e. Refused s.settings image accepted m (c ++ d) o e) start (d ++ f) o r) (Done (layers_accepted accepted manifest.layers) >> (pull_layers s image manifest.layers [] >>= λ layers. Done (Ok (make config layers))))
    (layers_part s image accepted manifest (make config) m (c ++ d) (read_before d read)) (λ st o f r g. assoc_where s.settings image accepted m o c d f r g))

found_where : (s : Settings) (image : Reference) (accepted : List (List ℕ)) (m n : ℕ) (c : List Exchange) (r : Result (OciImageManifest × List ℕ × Option (List ℕ)) OciDistributionError) → ByResult (λ m c n found. ManifestRead c found.0) (FoundRefused s image) m c n r → ByResult (λ m c n found. ManifestRead c found.0) (Refused s image accepted) m c n r
found_where s image accepted m n c (Ok found) h = h
found_where s image accepted m n c (Err e) h = found_image s image accepted c n e h

-- each refusal has its cause
pub image_causes : (s : Context) (image : Reference) (a : RegistryAuth) (accepted : List (List ℕ)) → EveryRun (ByResult (λ m c n found. Unit {0}) (λ m c n e. RowCause s.settings image accepted c n e)) (pull s image a accepted)
unfolding pull image_of
image_causes s image a accepted = EveryRun-each (λ m c n found. ManifestRead c found.0) AnyImage (Refused s.settings image accepted) (pull_image_manifest_and_list_digest s image a)
    (λ found. held_blob s image (described found.0.config) >>= λ config. Done (layers_accepted accepted found.0.layers) >> (pull_layers s image found.0.layers [] >>= λ layers. Done (Ok (image_of found.0 found.1 config layers))))
    (EveryRun-more (ByResult (λ m c n found. ManifestRead c found.0) (FoundRefused s.settings image)) (ByResult (λ m c n found. ManifestRead c found.0) (Refused s.settings image accepted)) (pull_image_manifest_and_list_digest s image a) (found_causes s image a) (λ m n c r h. found_where s.settings image accepted m n c r h))
    (λ m n c found read. config_part s image accepted found.0 (image_of found.0 found.1) m c read)

-- ---- its configuration as text

abbrev ConfigRefused : Settings → Reference → ℕ → List Exchange → ℕ → OciDistributionError → Type 0
ConfigRefused s image m c n e = ConfigRow s image c n e

-- the property of a row's `Ok`, and why it is refused
both_shown : {A : Type 0} (P : ℕ → List Exchange → ℕ → A → Type 0) (R : ℕ → List Exchange → ℕ → OciDistributionError → Type 0) (m n : ℕ) (c : List Exchange) (r : Result A OciDistributionError) → WhenOk P m c n r → ByResult (λ m c n a. Unit {0}) R m c n r → ByResult P R m c n r
both_shown P R m n c (Ok a) h g = h
both_shown P R m n c (Err e) h g = g

shows_both : {A : Type 0} (P : ℕ → List Exchange → ℕ → A → Type 0) (R : ℕ → List Exchange → ℕ → OciDistributionError → Type 0) (p : Row A) → EveryRun (WhenOk P) p → EveryRun (ByResult (λ m c n a. Unit {0}) R) p → EveryRun (ByResult P R) p
shows_both P R p h g = record { shows = λ k l m n c r run. both_shown P R m n c r (h.shows k l m n c r run) (g.shows k l m n c r run) }

last_body_after : (c : List Exchange) {d : List Exchange} {bytes : List ℕ} → LastBody d bytes → LastBody (c ++ d) bytes
last_body_after c b = record { before = c ++ b.before; last = b.last; split = ap (λ x. c ++ x) b.split ∙ sym (append_assoc c b.before (b.last ∷ [])); answer = b.answer; answered = b.answered; body = b.body }

text_refused : (s : Settings) (image : Reference) (now : ℕ) (c : List Exchange) (content : List ℕ) (e : OciDistributionError) (b : Bool) → is_utf8 content ≡ b → LastBody c content → ◌≡◌ {A = Result (List ℕ) OciDistributionError} (if b then Ok content else Err (refusal.GenericError ConfigNotText)) (Err e) → ConfigRow s image c now e
text_refused s image now c content e true said last is = absurd (cc is)
text_refused s image now c content e false said last is = let same : refusal.GenericError ConfigNotText ≡ e = cc is in subst (ConfigRow s image c now) same (content, last, said)

content_where : (s : Settings) (image : Reference) (manifest : OciImageManifest) (m start o : ℕ) (c d : List Exchange) (r : Result (List ℕ) OciDistributionError) → ManifestRead c manifest → ByResult (λ m c n bytes. Blob manifest.config.digest c bytes) (λ m c n e. LooseBlob (BlobUrl s image (described manifest.config)) IntoMemory s manifest.config.digest c n e) start d o r → ByResult (λ start d o bytes. LastBody (c ++ d) bytes) (λ start d o e. ConfigRefused s image m (c ++ d) o e) start d o r
content_where s image manifest m start o c d (Ok bytes) read h = last_body_after c h.2
content_where s image manifest m start o c d (Err e) read h = blob_config s image c d manifest.config o e (record { manifest = manifest; read = read_before d read; is = inl refl }) h

abbrev AnyText : ℕ → List Exchange → ℕ → OciImageManifest × List ℕ × List ℕ × Option (List ℕ) → Type 0
AnyText m c n x = Unit {0}

content_part : (s : Context) (image : Reference) (found : OciImageManifest × List ℕ × Option (List ℕ)) (m : ℕ) (c : List Exchange) → ManifestRead c found.0
    → EveryRun (λ start d o r. ByResult AnyText (ConfigRefused s.settings image) m (c ++ d) o r) (held_blob s image (described found.0.config) >>= λ content. Done (config_text content) >>= λ config. Done (Ok (found.0, found.1, config, found.2)))
content_part s image found m c read = EveryRun-each (λ start d o bytes. LastBody (c ++ d) bytes) AnyText (λ start d o e. ConfigRefused s.settings image m (c ++ d) o e) (held_blob s image (described found.0.config)) (λ content. Done (config_text content) >>= λ config. Done (Ok (found.0, found.1, config, found.2)))
    (EveryRun-more (ByResult (λ m c n bytes. Blob found.0.config.digest c bytes) (λ m c n e. LooseBlob (BlobUrl s.settings image (described found.0.config)) IntoMemory s.settings found.0.config.digest c n e)) (ByResult (λ start d o bytes. LastBody (c ++ d) bytes) (λ start d o e. ConfigRefused s.settings image m (c ++ d) o e)) (held_blob s image (described found.0.config))
    (shows_both (λ m c n bytes. Blob found.0.config.digest c bytes) (λ m c n e. LooseBlob (BlobUrl s.settings image (described found.0.config)) IntoMemory s.settings found.0.config.digest c n e) (held_blob s image (described found.0.config)) (blob_shows IntoMemory s image (described found.0.config)) (blob_causes IntoMemory s image (described found.0.config)))
    (λ start o d r h. content_where s.settings image found.0 m start o c d r read h))
    (λ start n d content last. EveryRun-step (λ st f o r. ByResult AnyText (λ start d o e. ConfigRefused s.settings image m (c ++ d) o e) start (d ++ f) o r) (config_text content) (λ config. Done (Ok (found.0, found.1, config, found.2)))
    (λ config is. EveryRun-done (λ st f o r. ByResult AnyText (λ start d o e. ConfigRefused s.settings image m (c ++ d) o e) start (d ++ f) o r) (Ok (found.0, found.1, config, found.2)) (λ o. tt))
    (λ e is o. subst (λ x. ConfigRefused s.settings image m (c ++ x) o e) (sym (append-nil d)) (text_refused s.settings image o (c ++ d) content e (is_utf8 content) refl last is)))

first_config : (s : Settings) (image : Reference) (m n : ℕ) (c : List Exchange) (r : Result (OciImageManifest × List ℕ × Option (List ℕ)) OciDistributionError) → ByResult (λ m c n found. ManifestRead c found.0) (FoundRefused s image) m c n r → ByResult (λ m c n found. ManifestRead c found.0) (ConfigRefused s image) m c n r
first_config s image m n c (Ok found) h = h
first_config s image m n c (Err e) h = found_config s image c n e h

pub config_causes : (s : Context) (image : Reference) (a : RegistryAuth) → EveryRun (ByResult (λ m c n found. Unit {0}) (λ m c n e. ConfigRow s.settings image c n e)) (pull_manifest_and_config_and_list_digest s image a)
unfolding pull_manifest_and_config_and_list_digest
config_causes s image a = EveryRun-each (λ m c n found. ManifestRead c found.0) AnyText (ConfigRefused s.settings image) (pull_image_manifest_and_list_digest s image a) (λ found. held_blob s image (described found.0.config) >>= λ content. Done (config_text content) >>= λ config. Done (Ok (found.0, found.1, config, found.2)))
    (EveryRun-more (ByResult (λ m c n found. ManifestRead c found.0) (FoundRefused s.settings image)) (ByResult (λ m c n found. ManifestRead c found.0) (ConfigRefused s.settings image)) (pull_image_manifest_and_list_digest s image a) (found_causes s image a) (λ m n c r h. first_config s.settings image m n c r h))
    (λ m n c found read. content_part s image found m c read)

pub text_causes : (s : Context) (image : Reference) (a : RegistryAuth) → EveryRun (ByResult (λ m c n found. Unit {0}) (λ m c n e. ConfigRow s.settings image c n e)) (pull_manifest_and_config s image a)
unfolding pull_manifest_and_config
text_causes s image a = EveryRun-each (λ m c n found. Unit {0}) (λ m c n x. Unit {0}) (ConfigRefused s.settings image) (pull_manifest_and_config_and_list_digest s image a) (λ found. Done (Ok (found.0, found.1, found.2))) (config_causes s image a)
    (λ m n c found h. EveryRun-done (λ start d o r. ByResult (λ m c n x. Unit {0}) (ConfigRefused s.settings image) m (c ++ d) o r) (Ok (found.0, found.1, found.2)) (λ o. tt))
