-- Each call sends credentials and tokens only to the registry and to the realm that it names, and stores only what was
-- stored before or what it may send.
use Rattle.std.proofs.Common.{◌≡◌, inr, ℕ, List, [], Option, Some, None, Result, Ok, Err, refl}
use Rattle.byte_streams.specs.SinkState.{SinkState}
use Rattle.oci_transport.specs.Link.{Link}
use Rattle.oci_transport.specs.declared.message.Exchange.{Exchange}
use Rattle.oci_names.specs.declared.reference.Reference.{Reference}
use Rattle.oci_manifests.specs.declared.document.OciManifest.{OciManifest}
use Rattle.oci_manifests.specs.declared.manifest.OciImageManifest.{OciImageManifest}
use Rattle.oci_auth.specs.declared.auth.RegistryAuth.{RegistryAuth}
use Rattle.oci_auth.specs.declared.auth_state.AuthState.{AuthState}
use Rattle.oci_auth.specs.declared.token_type.RegistryOperation.{RegistryOperation}
use Rattle.oci_auth.specs.declared.token_type.RegistryTokenType.{RegistryTokenType}
use Rattle.oci_auth.specs.Cache.{key_of}
use Rattle.oci_protocol.specs.Proto.{Done, bind, unless_refused, ◌>>=◌}
use Rattle.oci_protocol.specs.Runs.{Meets, Told}
use Rattle.oci_protocol.specs.Safe.{Safe}
use Rattle.oci_protocol.proofs.Safety.{Safe-bind}
use Rattle.engine_requests.specs.Sources.{Layer}
use Rattle.engine_terms.specs.Contexts.{Context}
use Rattle.engine_requests.specs.Requests.{manifest_types}
use Rattle.engine_terms.specs.declared.error.OciDistributionError.{OciDistributionError}
use Rattle.engine_terms.specs.Error.{is_memory}
use Rattle.engine_terms.specs.declared.settings.Settings.{Settings}
use Rattle.engine_rows.specs.Rows.{Row, store, token_step, kept_text, token_given}
use Rattle.engine_rows.specs.Blobs.{Destination, IntoSink, MeetsIntoSink}
use Rattle.engine_rows.specs.Pulls.{fetch_manifest_digest, pull_manifest_raw, pull_manifest, blob_to, pull_blob}
use Rattle.engine_rows.specs.Manifests.{pull_image_manifest_and_list_digest, pull_image_manifest, pull_manifest_and_config_and_list_digest, pull_manifest_and_config}
use Rattle.engine_rows.specs.Image.{pull}
use Rattle.engine_rows.specs.declared.image.ImageData.{ImageData}
use Rattle.engine_rows.specs.Confined.{Confined, Within}
use Rattle.engine_rows.specs.Held.{Entry, pulling, asking}
use Rattle.request_laws.proofs.KeptTokens.{Keeps, keeps_first, keeps_more, keeps_kept}
use Rattle.request_laws.proofs.SafeKeeps.{Meets-within}
use Rattle.request_laws.proofs.ShownTokens.{Carries, Ended, Asked, store_safe, step_safe}
use Rattle.request_laws.proofs.HeaderCauses.{digest_sound, raw_sound, manifest_sound, found_sound, one_sound, config_sound, text_sound, image_sound, blob_sound}

pub call_within : {A : Type 0} (x : Entry) (s : Settings) (Q : AuthState → List Exchange → Result A OciDistributionError → Type 0) (l : AuthState) {p : Row A} {old new : Link} {r : Result A OciDistributionError} → Safe (Carries x s) (Keeps x) Q x.kept [] p → Meets is_memory p old new x.kept l r → Told (Within x s l) old new
call_within x s Q l h met = Meets-within (Confined x s) (Keeps x) Q (Within x s l) (keeps_more x) (keeps_first x) (λ c confined keeps. record { confined = confined; kept = keeps.added; stored = keeps.stored }) h met

pub digest_confined : (s : Context) (image : Reference) (a : RegistryAuth) {old new : Link} {k l : AuthState} {r : Result (List ℕ) OciDistributionError} → Meets is_memory (fetch_manifest_digest s image a) old new k l r → Told (Within (pulling k s image (Some a)) s.settings l) old new
digest_confined s image a {k = k} {l = l} met = let x = pulling k s image (Some a) in call_within x s.settings (Ended x s.settings manifest_types) l (digest_sound s image a k k [] (keeps_first x)) met

pub raw_confined : (s : Context) (image : Reference) (a : RegistryAuth) (types : List ℕ) {old new : Link} {k l : AuthState} {r : Result (List ℕ × List ℕ) OciDistributionError} → Meets is_memory (pull_manifest_raw s image a types) old new k l r → Told (Within (pulling k s image (Some a)) s.settings l) old new
raw_confined s image a types {k = k} {l = l} met = let x = pulling k s image (Some a) in call_within x s.settings (Ended x s.settings types) l (raw_sound s image a types k k [] (keeps_first x)) met

-- for types that were joined to one text
pub listed_confined : (s : Context) (image : Reference) (a : RegistryAuth) (text types : List ℕ) {old new : Link} {k l : AuthState} {r : Result (List ℕ × List ℕ) OciDistributionError} → text ≡ types → Meets is_memory (pull_manifest_raw s image a text) old new k l r → Told (Within (pulling k s image (Some a)) s.settings l) old new
listed_confined s image a text types is met = raw_confined s image a text met

pub manifest_confined : (s : Context) (image : Reference) (a : RegistryAuth) {old new : Link} {k l : AuthState} {r : Result (OciManifest × List ℕ) OciDistributionError} → Meets is_memory (pull_manifest s image a) old new k l r → Told (Within (pulling k s image (Some a)) s.settings l) old new
manifest_confined s image a {k = k} {l = l} met = let x = pulling k s image (Some a) in call_within x s.settings (Ended x s.settings manifest_types) l (manifest_sound s image a k k [] (keeps_first x)) met

pub found_confined : (s : Context) (image : Reference) (a : RegistryAuth) {old new : Link} {k l : AuthState} {r : Result (OciImageManifest × List ℕ × Option (List ℕ)) OciDistributionError} → Meets is_memory (pull_image_manifest_and_list_digest s image a) old new k l r → Told (Within (pulling k s image (Some a)) s.settings l) old new
found_confined s image a {k = k} {l = l} met = let x = pulling k s image (Some a) in call_within x s.settings (Ended x s.settings manifest_types) l (found_sound s image a k k [] (keeps_first x)) met

pub one_confined : (s : Context) (image : Reference) (a : RegistryAuth) {old new : Link} {k l : AuthState} {r : Result (OciImageManifest × List ℕ) OciDistributionError} → Meets is_memory (pull_image_manifest s image a) old new k l r → Told (Within (pulling k s image (Some a)) s.settings l) old new
one_confined s image a {k = k} {l = l} met = let x = pulling k s image (Some a) in call_within x s.settings (Ended x s.settings manifest_types) l (one_sound s image a k k [] (keeps_first x)) met

pub config_confined : (s : Context) (image : Reference) (a : RegistryAuth) {old new : Link} {k l : AuthState} {r : Result (OciImageManifest × List ℕ × List ℕ × Option (List ℕ)) OciDistributionError} → Meets is_memory (pull_manifest_and_config_and_list_digest s image a) old new k l r → Told (Within (pulling k s image (Some a)) s.settings l) old new
config_confined s image a {k = k} {l = l} met = let x = pulling k s image (Some a) in call_within x s.settings (Ended x s.settings manifest_types) l (config_sound s image a k k [] (keeps_first x)) met

pub text_confined : (s : Context) (image : Reference) (a : RegistryAuth) {old new : Link} {k l : AuthState} {r : Result (OciImageManifest × List ℕ × List ℕ) OciDistributionError} → Meets is_memory (pull_manifest_and_config s image a) old new k l r → Told (Within (pulling k s image (Some a)) s.settings l) old new
text_confined s image a {k = k} {l = l} met = let x = pulling k s image (Some a) in call_within x s.settings (Ended x s.settings manifest_types) l (text_sound s image a k k [] (keeps_first x)) met

pub image_confined : (s : Context) (image : Reference) (a : RegistryAuth) (accepted : List (List ℕ)) {old new : Link} {k l : AuthState} {r : Result (ImageData) OciDistributionError} → Meets is_memory (pull s image a accepted) old new k l r → Told (Within (pulling k s image (Some a)) s.settings l) old new
image_confined s image a accepted {k = k} {l = l} met = let x = pulling k s image (Some a) in call_within x s.settings (Ended x s.settings manifest_types) l (image_sound s image a accepted k k [] (keeps_first x)) met

pub blob_confined : (to : Destination) (s : Context) (image : Reference) (layer : Layer) {old new : Link} {k l : AuthState} {r : Result (List ℕ) OciDistributionError} → Meets is_memory (blob_to to s image layer) old new k l r → Told (Within (pulling k s image None) s.settings l) old new
blob_confined to s image layer {k = k} {l = l} met = let x = pulling k s image None in call_within x s.settings (Ended x s.settings manifest_types) l (blob_sound to s image layer k None k [] (keeps_first x)) met

-- into a sink
pub spilled_confined : (s : Context) (image : Reference) (layer : Layer) {old new : Link} {k l : AuthState} {before after : SinkState} {r : Result (Unit {0}) OciDistributionError} → MeetsIntoSink (pull_blob s image layer) old new k l before after r → Told (Within (pulling k s image None) s.settings l) old new
spilled_confined s image layer spills = blob_confined IntoSink s image layer spills.met

-- ---- the call for a token

-- for any result
abbrev pub Any : Entry → {A : Type 0} → AuthState → List Exchange → A → Type 0
Any x l c r = Unit {0}

text_safe : (x : Entry) (s : Context) (l : AuthState) (c : List Exchange) (r : Result (Option RegistryTokenType) OciDistributionError) → s.moment ≡ x.moment → Asked x l c r → Safe (Carries x s.settings) (Keeps x) (Any x) l c (unless_refused (kept_text x.moment (key_of x.image x.operation)) r)
unfolding Safe bind
text_safe x s l c (Ok None) is h = tt
text_safe x s l c (Ok (Some token)) is h = (keeps_kept x l c token h.1 h.0, tt)
text_safe x s l c (Err e) is h = tt

safe_any : (x : Entry) (s : Context) (l : AuthState) (c : List Exchange) (e : OciDistributionError) → Safe (Carries x s.settings) (Keeps x) (Any x {A = Result (Option (List ℕ)) OciDistributionError}) l c (Done (Err e))
unfolding Safe
safe_any x s l c e = tt

step_text : (k : AuthState) (s : Context) (image : Reference) (a : RegistryAuth) (op : RegistryOperation) (l : AuthState) (c : List Exchange) (r : Result (Unit {0}) OciDistributionError) → Ended (asking k s image op (Some a)) s.settings manifest_types l c r
    → Safe (Carries (asking k s image op (Some a)) s.settings) (Keeps (asking k s image op (Some a))) (Any (asking k s image op (Some a))) l c (unless_refused (λ u. token_step s.settings image a op >>= kept_text s.moment (key_of image op)) r)
step_text k s image a op l c (Ok u) keeps = let x = asking k s image op (Some a) in
    Safe-bind (Carries x s.settings) (Keeps x) (Asked x) (Any x) (token_step s.settings image a op) (unless_refused (kept_text s.moment (key_of image op))) l c (step_safe x s.settings a l c (inr refl) keeps) (λ l c r h. text_safe x s l c r refl h)
step_text k s image a op l c (Err e) h = safe_any (asking k s image op (Some a)) s l c e

pub given_safe : (k : AuthState) (s : Context) (image : Reference) (a : RegistryAuth) (op : RegistryOperation) (l : AuthState) (c : List Exchange) → Keeps (asking k s image op (Some a)) l c → Safe (Carries (asking k s image op (Some a)) s.settings) (Keeps (asking k s image op (Some a))) (Any (asking k s image op (Some a))) l c (token_given s image a op)
unfolding token_given
given_safe k s image a op l c keeps = let x = asking k s image op (Some a) in
    Safe-bind (Carries x s.settings) (Keeps x) (Ended x s.settings manifest_types) (Any x) (store image a) (unless_refused (λ u. token_step s.settings image a op >>= kept_text s.moment (key_of image op))) l c (store_safe x s.settings manifest_types a l c refl keeps) (step_text k s image a op)

pub given_confined : (s : Context) (image : Reference) (a : RegistryAuth) (op : RegistryOperation) {old new : Link} {k l : AuthState} {r : Result (Option (List ℕ)) OciDistributionError} → Meets is_memory (token_given s image a op) old new k l r → Told (Within (asking k s image op (Some a)) s.settings l) old new
given_confined s image a op {k = k} {l = l} met = let x = asking k s image op (Some a) in call_within x s.settings (Any x) l (given_safe k s image a op k [] (keeps_first x)) met
