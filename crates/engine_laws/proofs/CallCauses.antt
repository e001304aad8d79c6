-- Why the results of a client's calls are refusals.
use Rattle.std.proofs.Common.{◌≡◌, ℕ, true, List, [], Option, Some, None, Result, Ok, Err, IfErr, refl}
use Rattle.json_values.specs.Counts.{Increased}
use Rattle.byte_streams.specs.SinkState.{SinkState}
use Rattle.oci_transport.specs.Link.{Link}
use Rattle.oci_transport.specs.declared.message.Answer.{Answer}
use Rattle.oci_transport.specs.declared.message.Exchange.{Exchange}
use Rattle.oci_names.specs.declared.reference.Reference.{Reference}
use Rattle.oci_manifests.specs.declared.document.OciManifest.{OciManifest}
use Rattle.oci_auth.specs.declared.auth.RegistryAuth.{RegistryAuth}
use Rattle.oci_auth.specs.declared.auth_state.AuthState.{AuthState}
use Rattle.oci_protocol.specs.Runs.{Meets, Told}
use Rattle.oci_protocol.specs.EveryRun.{EveryRun, ByResult}
use Rattle.engine_terms.specs.Contexts.{Context}
use Rattle.engine_requests.specs.Sources.{Layer}
use Rattle.engine_terms.specs.declared.settings.Settings.{Settings}
use Rattle.engine_terms.specs.declared.error.GenericCause.TheVariants.{HeaderText}
use Rattle.engine_terms.specs.declared.error.OciDistributionError.{OciDistributionError}
use Rattle.engine_terms.specs.declared.error.OciDistributionError.TheVariants as refusal
use Rattle.engine_terms.specs.Error.{is_memory}
use Rattle.engine_requests.specs.Requests.{manifest_types}
use Rattle.engine_rows.specs.Rows.{Row}
use Rattle.engine_rows.specs.Blobs.{MeetsIntoSink}
use Rattle.engine_rows.specs.Pulls.{fetch_manifest_digest, pull_manifest_raw, pull_manifest, blob_to, pull_blob}
use Rattle.engine_rows.specs.Image.{pull}
use Rattle.engine_rows.specs.Manifests.{pull_image_manifest_and_list_digest, pull_image_manifest, pull_manifest_and_config_and_list_digest, pull_manifest_and_config}
use Rattle.oci_manifests.specs.declared.manifest.OciImageManifest.{OciImageManifest}
use Rattle.engine_rows.specs.declared.image.ImageData.{ImageData}
use Rattle.engine_rows.specs.TokenCauses.{LastIs}
use Rattle.engine_rows.specs.Held.{Entry, pulling}
use Rattle.engine_rows.specs.Blobs.{Destination, IntoSink}
use Rattle.engine_rows.specs.Causes.{Act, ManifestUrl, BlobUrl, AnswerCause, DocumentCause, BadHeader, Cause, OwnDigest, BlobCause, FoundCause, ConfigCause, ImageCause}
use Rattle.request_laws.proofs.EarlyCauses.{Loose, LooseBlob}
use Rattle.request_laws.proofs.DocumentCauses.{Accepted, raw_causes}
use Rattle.engine_laws.proofs.DigestCauses.{digest_causes}
use Rattle.request_laws.proofs.BlobCauses.{blob_causes}
use Rattle.engine_laws.proofs.ManifestCauses.{ReadLast, manifest_causes}
use Rattle.engine_laws.proofs.FoundCauses.{FoundLoose, found_any, one_causes}
use Rattle.engine_laws.proofs.ImageCauses.{RowCause, ConfigRow, image_causes, config_causes, text_causes}
use Rattle.request_laws.proofs.FaultCounts.{failed_last, fault_last, refusal_both}
use Rattle.request_laws.proofs.KeptTokens.{Keeps, keeps_first}
use Rattle.request_laws.proofs.ShownTokens.{Carries, HeaderCause, Ended}
use Rattle.request_laws.proofs.HeaderCauses.{digest_sound, raw_sound, manifest_sound, found_sound, one_sound, config_sound, text_sound, image_sound, blob_sound}

-- a cause, with the values that are not valid header values
pub tight : (T : Act → Type 0) (Of : List ℕ → Answer → OciDistributionError → Type 0) (x : Entry) (s : Settings) (types : List ℕ) (now : ℕ) (c : List Exchange) (e : OciDistributionError) → Loose T Of s types c now e → HeaderCause x s types c e → Cause T Of (BadHeader x s types) s c now e
tight T Of x s types now c (refusal.GenericError HeaderText) h bad = bad
tight T Of x s types now c _ h bad = h

-- out of memory has no cause
cause_free : (T : Act → Type 0) (Of : List ℕ → Answer → OciDistributionError → Type 0) (Bad : List Exchange → Type 0) (s : Settings) (now : ℕ) (c : List Exchange) (e : OciDistributionError) → is_memory e ≡ true → Cause T Of Bad s c now e
cause_free T Of Bad s now c refusal.WantOfMemory is = tt
cause_free T Of Bad s now c _ is = absurd (cc is)

tight_blob : (T : Act → Type 0) (to : Destination) (x : Entry) (s : Settings) (digest : List ℕ) (now : ℕ) (c : List Exchange) (e : OciDistributionError) → LooseBlob T to s digest c now e → HeaderCause x s manifest_types c e → BlobCause T to (BadHeader x s manifest_types) s digest c now e
tight_blob T to x s digest now c (refusal.GenericError HeaderText) h bad = bad
tight_blob T to x s digest now c _ h bad = h

blob_free : (T : Act → Type 0) (to : Destination) (Bad : List Exchange → Type 0) (s : Settings) (digest : List ℕ) (now : ℕ) (c : List Exchange) (e : OciDistributionError) → is_memory e ≡ true → BlobCause T to Bad s digest c now e
blob_free T to Bad s digest now c refusal.WantOfMemory is = tt
blob_free T to Bad s digest now c _ is = absurd (cc is)

tight_image : (x : Entry) (s : Settings) (image : Reference) (accepted : List (List ℕ)) (now : ℕ) (c : List Exchange) (e : OciDistributionError) → RowCause s image accepted c now e → HeaderCause x s manifest_types c e → ImageCause (BadHeader x s manifest_types) s image accepted c now e
tight_image x s image accepted now c (refusal.GenericError HeaderText) h bad = bad
tight_image x s image accepted now c _ h bad = h

image_free : (Bad : List Exchange → Type 0) (s : Settings) (image : Reference) (accepted : List (List ℕ)) (now : ℕ) (c : List Exchange) (e : OciDistributionError) → is_memory e ≡ true → ImageCause Bad s image accepted c now e
image_free Bad s image accepted now c refusal.WantOfMemory is = tt
image_free Bad s image accepted now c _ is = absurd (cc is)

tight_found : (x : Entry) (s : Settings) (image : Reference) (now : ℕ) (c : List Exchange) (e : OciDistributionError) → FoundLoose s image c now e → HeaderCause x s manifest_types c e → FoundCause (BadHeader x s manifest_types) s image c now e
tight_found x s image now c (refusal.GenericError HeaderText) h bad = bad
tight_found x s image now c _ h bad = h

found_free : (Bad : List Exchange → Type 0) (s : Settings) (image : Reference) (now : ℕ) (c : List Exchange) (e : OciDistributionError) → is_memory e ≡ true → FoundCause Bad s image c now e
found_free Bad s image now c refusal.WantOfMemory is = tt
found_free Bad s image now c _ is = absurd (cc is)

tight_config : (x : Entry) (s : Settings) (image : Reference) (now : ℕ) (c : List Exchange) (e : OciDistributionError) → ConfigRow s image c now e → HeaderCause x s manifest_types c e → ConfigCause (BadHeader x s manifest_types) s image c now e
tight_config x s image now c (refusal.GenericError HeaderText) h bad = bad
tight_config x s image now c _ h bad = h

config_free : (Bad : List Exchange → Type 0) (s : Settings) (image : Reference) (now : ℕ) (c : List Exchange) (e : OciDistributionError) → is_memory e ≡ true → ConfigCause Bad s image c now e
config_free Bad s image now c refusal.WantOfMemory is = tt
config_free Bad s image now c _ is = absurd (cc is)

-- a fault of the transport, if the result is one
faulted : {A : Type 0} (P : ℕ → List Exchange → ℕ → A → Type 0) (R : ℕ → List Exchange → ℕ → OciDistributionError → Type 0) (p : Row A) {old new : Link} {k l : AuthState} {r : Result A OciDistributionError} → ((m n : ℕ) (c : List Exchange) → R m c n refusal.TransportFault → LastIs (λ e. Increased e.faults n) c) → EveryRun (ByResult P R) p → Meets is_memory p old new k l r → r ≡ Err refusal.TransportFault → Increased old.faults new.faults
faulted P R p {old} {new} {k} {l} {r} fails h met is = fault_last P R p refusal.TransportFault refl fails h (rw is at met)

-- ---- the digest

pub digest_reason : (s : Context) (image : Reference) (a : RegistryAuth) {old new : Link} {k l : AuthState} {r : Result (List ℕ) OciDistributionError} → Meets is_memory (fetch_manifest_digest s image a) old new k l r → IfErr r (λ e. Told (λ c. Cause (ManifestUrl s.settings image) (AnswerCause (OwnDigest image)) (BadHeader (pulling k s image (Some a)) s.settings manifest_types) s.settings c new.faults e) old new)
digest_reason s image a {k = k} met =
    let x = pulling k s image (Some a) in
    refusal_both (Carries x s.settings) (λ m c n digest. Unit {0}) (λ m c n e. Loose (ManifestUrl s.settings image) (AnswerCause (OwnDigest image)) s.settings manifest_types c n e) (Keeps x) (Ended x s.settings manifest_types) (λ c n e. Cause (ManifestUrl s.settings image) (AnswerCause (OwnDigest image)) (BadHeader x s.settings manifest_types) s.settings c n e) (fetch_manifest_digest s image a)
    (λ n c e is. cause_free (ManifestUrl s.settings image) (AnswerCause (OwnDigest image)) (BadHeader x s.settings manifest_types) s.settings n c e is) (λ m n c e h bad. tight (ManifestUrl s.settings image) (AnswerCause (OwnDigest image)) x s.settings manifest_types n c e h bad) (digest_causes s image a) (digest_sound s image a k k [] (keeps_first x)) met

pub digest_fault : (s : Context) (image : Reference) (a : RegistryAuth) {old new : Link} {k l : AuthState} {r : Result (List ℕ) OciDistributionError} → Meets is_memory (fetch_manifest_digest s image a) old new k l r → r ≡ Err refusal.TransportFault → Increased old.faults new.faults
digest_fault s image a met is = faulted (λ m c n digest. Unit {0}) (λ m c n e. Loose (ManifestUrl s.settings image) (AnswerCause (OwnDigest image)) s.settings manifest_types c n e) (fetch_manifest_digest s image a) (λ m n c h. failed_last h) (digest_causes s image a) met is

-- ---- documents

pub raw_reason : (s : Context) (image : Reference) (a : RegistryAuth) (types : List ℕ) {old new : Link} {k l : AuthState} {r : Result (List ℕ × List ℕ) OciDistributionError} → Meets is_memory (pull_manifest_raw s image a types) old new k l r → IfErr r (λ e. Told (λ c. Cause (ManifestUrl s.settings image) (AnswerCause (OwnDigest image)) (BadHeader (pulling k s image (Some a)) s.settings types) s.settings c new.faults e) old new)
raw_reason s image a types {k = k} met =
    let x = pulling k s image (Some a) in
    refusal_both (Carries x s.settings) (λ m c n found. Accepted s.settings image c found.0) (λ m c n e. Loose (ManifestUrl s.settings image) (AnswerCause (OwnDigest image)) s.settings types c n e) (Keeps x) (Ended x s.settings types) (λ c n e. Cause (ManifestUrl s.settings image) (AnswerCause (OwnDigest image)) (BadHeader x s.settings types) s.settings c n e) (pull_manifest_raw s image a types)
    (λ n c e is. cause_free (ManifestUrl s.settings image) (AnswerCause (OwnDigest image)) (BadHeader x s.settings types) s.settings n c e is) (λ m n c e h bad. tight (ManifestUrl s.settings image) (AnswerCause (OwnDigest image)) x s.settings types n c e h bad) (raw_causes s image a types) (raw_sound s image a types k k [] (keeps_first x)) met

pub raw_fault : (s : Context) (image : Reference) (a : RegistryAuth) (types : List ℕ) {old new : Link} {k l : AuthState} {r : Result (List ℕ × List ℕ) OciDistributionError} → Meets is_memory (pull_manifest_raw s image a types) old new k l r → r ≡ Err refusal.TransportFault → Increased old.faults new.faults
raw_fault s image a types met is = faulted (λ m c n found. Accepted s.settings image c found.0) (λ m c n e. Loose (ManifestUrl s.settings image) (AnswerCause (OwnDigest image)) s.settings types c n e) (pull_manifest_raw s image a types) (λ m n c h. failed_last h) (raw_causes s image a types) met is

-- for types that were joined to one text
pub listed_reason : (s : Context) (image : Reference) (a : RegistryAuth) (text types : List ℕ) {old new : Link} {k l : AuthState} {r : Result (List ℕ × List ℕ) OciDistributionError} → text ≡ types → Meets is_memory (pull_manifest_raw s image a text) old new k l r → IfErr r (λ e. Told (λ c. Cause (ManifestUrl s.settings image) (AnswerCause (OwnDigest image)) (BadHeader (pulling k s image (Some a)) s.settings types) s.settings c new.faults e) old new)
listed_reason s image a text types is met = raw_reason s image a types (rw is at met)

-- ---- manifests

pub manifest_reason : (s : Context) (image : Reference) (a : RegistryAuth) {old new : Link} {k l : AuthState} {r : Result (OciManifest × List ℕ) OciDistributionError} → Meets is_memory (pull_manifest s image a) old new k l r → IfErr r (λ e. Told (λ c. Cause (ManifestUrl s.settings image) (DocumentCause (OwnDigest image)) (BadHeader (pulling k s image (Some a)) s.settings manifest_types) s.settings c new.faults e) old new)
manifest_reason s image a {k = k} met =
    let x = pulling k s image (Some a) in
    refusal_both (Carries x s.settings) (λ m c n found. ReadLast s.settings image c found.0) (λ m c n e. Loose (ManifestUrl s.settings image) (DocumentCause (OwnDigest image)) s.settings manifest_types c n e) (Keeps x) (Ended x s.settings manifest_types) (λ c n e. Cause (ManifestUrl s.settings image) (DocumentCause (OwnDigest image)) (BadHeader x s.settings manifest_types) s.settings c n e) (pull_manifest s image a)
    (λ n c e is. cause_free (ManifestUrl s.settings image) (DocumentCause (OwnDigest image)) (BadHeader x s.settings manifest_types) s.settings n c e is) (λ m n c e h bad. tight (ManifestUrl s.settings image) (DocumentCause (OwnDigest image)) x s.settings manifest_types n c e h bad) (manifest_causes s image a) (manifest_sound s image a k k [] (keeps_first x)) met

pub manifest_fault : (s : Context) (image : Reference) (a : RegistryAuth) {old new : Link} {k l : AuthState} {r : Result (OciManifest × List ℕ) OciDistributionError} → Meets is_memory (pull_manifest s image a) old new k l r → r ≡ Err refusal.TransportFault → Increased old.faults new.faults
manifest_fault s image a met is = faulted (λ m c n found. ReadLast s.settings image c found.0) (λ m c n e. Loose (ManifestUrl s.settings image) (DocumentCause (OwnDigest image)) s.settings manifest_types c n e) (pull_manifest s image a) (λ m n c h. failed_last h) (manifest_causes s image a) met is

-- ---- images

pub image_reason : (s : Context) (image : Reference) (a : RegistryAuth) (accepted : List (List ℕ)) {old new : Link} {k l : AuthState} {r : Result ImageData OciDistributionError} → Meets is_memory (pull s image a accepted) old new k l r → IfErr r (λ e. Told (λ c. ImageCause (BadHeader (pulling k s image (Some a)) s.settings manifest_types) s.settings image accepted c new.faults e) old new)
image_reason s image a accepted {k = k} met =
    let x = pulling k s image (Some a) in
    refusal_both (Carries x s.settings) (λ m c n found. Unit {0}) (λ m c n e. RowCause s.settings image accepted c n e) (Keeps x) (Ended x s.settings manifest_types) (λ c n e. ImageCause (BadHeader x s.settings manifest_types) s.settings image accepted c n e) (pull s image a accepted)
    (λ n c e is. image_free (BadHeader x s.settings manifest_types) s.settings image accepted n c e is) (λ m n c e h bad. tight_image x s.settings image accepted n c e h bad) (image_causes s image a accepted) (image_sound s image a accepted k k [] (keeps_first x)) met

pub image_fault : (s : Context) (image : Reference) (a : RegistryAuth) (accepted : List (List ℕ)) {old new : Link} {k l : AuthState} {r : Result ImageData OciDistributionError} → Meets is_memory (pull s image a accepted) old new k l r → r ≡ Err refusal.TransportFault → Increased old.faults new.faults
image_fault s image a accepted met is = faulted (λ m c n found. Unit {0}) (λ m c n e. RowCause s.settings image accepted c n e) (pull s image a accepted) (λ m n c h. failed_last h) (image_causes s image a accepted) met is

-- ---- manifests of images, and their configurations

pub found_reason : (s : Context) (image : Reference) (a : RegistryAuth) {old new : Link} {k l : AuthState} {r : Result (OciImageManifest × List ℕ × Option (List ℕ)) OciDistributionError} → Meets is_memory (pull_image_manifest_and_list_digest s image a) old new k l r → IfErr r (λ e. Told (λ c. FoundCause (BadHeader (pulling k s image (Some a)) s.settings manifest_types) s.settings image c new.faults e) old new)
found_reason s image a {k = k} met =
    let x = pulling k s image (Some a) in
    refusal_both (Carries x s.settings) (λ m c n found. Unit {0}) (λ m c n e. FoundLoose s.settings image c n e) (Keeps x) (Ended x s.settings manifest_types) (λ c n e. FoundCause (BadHeader x s.settings manifest_types) s.settings image c n e) (pull_image_manifest_and_list_digest s image a)
    (λ n c e is. found_free (BadHeader x s.settings manifest_types) s.settings image n c e is) (λ m n c e h bad. tight_found x s.settings image n c e h bad) (found_any s image a) (found_sound s image a k k [] (keeps_first x)) met

pub found_fault : (s : Context) (image : Reference) (a : RegistryAuth) {old new : Link} {k l : AuthState} {r : Result (OciImageManifest × List ℕ × Option (List ℕ)) OciDistributionError} → Meets is_memory (pull_image_manifest_and_list_digest s image a) old new k l r → r ≡ Err refusal.TransportFault → Increased old.faults new.faults
found_fault s image a met is = faulted (λ m c n found. Unit {0}) (λ m c n e. FoundLoose s.settings image c n e) (pull_image_manifest_and_list_digest s image a) (λ m n c h. failed_last h) (found_any s image a) met is

pub one_reason : (s : Context) (image : Reference) (a : RegistryAuth) {old new : Link} {k l : AuthState} {r : Result (OciImageManifest × List ℕ) OciDistributionError} → Meets is_memory (pull_image_manifest s image a) old new k l r → IfErr r (λ e. Told (λ c. FoundCause (BadHeader (pulling k s image (Some a)) s.settings manifest_types) s.settings image c new.faults e) old new)
one_reason s image a {k = k} met =
    let x = pulling k s image (Some a) in
    refusal_both (Carries x s.settings) (λ m c n found. Unit {0}) (λ m c n e. FoundLoose s.settings image c n e) (Keeps x) (Ended x s.settings manifest_types) (λ c n e. FoundCause (BadHeader x s.settings manifest_types) s.settings image c n e) (pull_image_manifest s image a)
    (λ n c e is. found_free (BadHeader x s.settings manifest_types) s.settings image n c e is) (λ m n c e h bad. tight_found x s.settings image n c e h bad) (one_causes s image a) (one_sound s image a k k [] (keeps_first x)) met

pub one_fault : (s : Context) (image : Reference) (a : RegistryAuth) {old new : Link} {k l : AuthState} {r : Result (OciImageManifest × List ℕ) OciDistributionError} → Meets is_memory (pull_image_manifest s image a) old new k l r → r ≡ Err refusal.TransportFault → Increased old.faults new.faults
one_fault s image a met is = faulted (λ m c n found. Unit {0}) (λ m c n e. FoundLoose s.settings image c n e) (pull_image_manifest s image a) (λ m n c h. failed_last h) (one_causes s image a) met is

pub config_reason : (s : Context) (image : Reference) (a : RegistryAuth) {old new : Link} {k l : AuthState} {r : Result (OciImageManifest × List ℕ × List ℕ × Option (List ℕ)) OciDistributionError} → Meets is_memory (pull_manifest_and_config_and_list_digest s image a) old new k l r → IfErr r (λ e. Told (λ c. ConfigCause (BadHeader (pulling k s image (Some a)) s.settings manifest_types) s.settings image c new.faults e) old new)
config_reason s image a {k = k} met =
    let x = pulling k s image (Some a) in
    refusal_both (Carries x s.settings) (λ m c n found. Unit {0}) (λ m c n e. ConfigRow s.settings image c n e) (Keeps x) (Ended x s.settings manifest_types) (λ c n e. ConfigCause (BadHeader x s.settings manifest_types) s.settings image c n e) (pull_manifest_and_config_and_list_digest s image a)
    (λ n c e is. config_free (BadHeader x s.settings manifest_types) s.settings image n c e is) (λ m n c e h bad. tight_config x s.settings image n c e h bad) (config_causes s image a) (config_sound s image a k k [] (keeps_first x)) met

pub config_fault : (s : Context) (image : Reference) (a : RegistryAuth) {old new : Link} {k l : AuthState} {r : Result (OciImageManifest × List ℕ × List ℕ × Option (List ℕ)) OciDistributionError} → Meets is_memory (pull_manifest_and_config_and_list_digest s image a) old new k l r → r ≡ Err refusal.TransportFault → Increased old.faults new.faults
config_fault s image a met is = faulted (λ m c n found. Unit {0}) (λ m c n e. ConfigRow s.settings image c n e) (pull_manifest_and_config_and_list_digest s image a) (λ m n c h. failed_last h) (config_causes s image a) met is

pub text_reason : (s : Context) (image : Reference) (a : RegistryAuth) {old new : Link} {k l : AuthState} {r : Result (OciImageManifest × List ℕ × List ℕ) OciDistributionError} → Meets is_memory (pull_manifest_and_config s image a) old new k l r → IfErr r (λ e. Told (λ c. ConfigCause (BadHeader (pulling k s image (Some a)) s.settings manifest_types) s.settings image c new.faults e) old new)
text_reason s image a {k = k} met =
    let x = pulling k s image (Some a) in
    refusal_both (Carries x s.settings) (λ m c n found. Unit {0}) (λ m c n e. ConfigRow s.settings image c n e) (Keeps x) (Ended x s.settings manifest_types) (λ c n e. ConfigCause (BadHeader x s.settings manifest_types) s.settings image c n e) (pull_manifest_and_config s image a)
    (λ n c e is. config_free (BadHeader x s.settings manifest_types) s.settings image n c e is) (λ m n c e h bad. tight_config x s.settings image n c e h bad) (text_causes s image a) (text_sound s image a k k [] (keeps_first x)) met

pub text_fault : (s : Context) (image : Reference) (a : RegistryAuth) {old new : Link} {k l : AuthState} {r : Result (OciImageManifest × List ℕ × List ℕ) OciDistributionError} → Meets is_memory (pull_manifest_and_config s image a) old new k l r → r ≡ Err refusal.TransportFault → Increased old.faults new.faults
text_fault s image a met is = faulted (λ m c n found. Unit {0}) (λ m c n e. ConfigRow s.settings image c n e) (pull_manifest_and_config s image a) (λ m n c h. failed_last h) (text_causes s image a) met is

-- ---- blobs

pub blob_reason : (to : Destination) (s : Context) (image : Reference) (layer : Layer) {old new : Link} {k l : AuthState} {r : Result (List ℕ) OciDistributionError} → Meets is_memory (blob_to to s image layer) old new k l r → IfErr r (λ e. Told (λ c. BlobCause (BlobUrl s.settings image layer) to (BadHeader (pulling k s image None) s.settings manifest_types) s.settings layer.digest c new.faults e) old new)
blob_reason to s image layer {k = k} met =
    let x = pulling k s image None in
    refusal_both (Carries x s.settings) (λ m c n bytes. Unit {0}) (λ m c n e. LooseBlob (BlobUrl s.settings image layer) to s.settings layer.digest c n e) (Keeps x) (Ended x s.settings manifest_types) (λ c n e. BlobCause (BlobUrl s.settings image layer) to (BadHeader x s.settings manifest_types) s.settings layer.digest c n e) (blob_to to s image layer)
    (λ n c e is. blob_free (BlobUrl s.settings image layer) to (BadHeader x s.settings manifest_types) s.settings layer.digest n c e is) (λ m n c e h bad. tight_blob (BlobUrl s.settings image layer) to x s.settings layer.digest n c e h bad) (blob_causes to s image layer) (blob_sound to s image layer k None k [] (keeps_first x)) met

pub blob_fault : (to : Destination) (s : Context) (image : Reference) (layer : Layer) {old new : Link} {k l : AuthState} {r : Result (List ℕ) OciDistributionError} → Meets is_memory (blob_to to s image layer) old new k l r → r ≡ Err refusal.TransportFault → Increased old.faults new.faults
blob_fault to s image layer met is = faulted (λ m c n bytes. Unit {0}) (λ m c n e. LooseBlob (BlobUrl s.settings image layer) to s.settings layer.digest c n e) (blob_to to s image layer) (λ m n c h. failed_last h) (blob_causes to s image layer) met is

-- into a sink
pub spilled_reason : (s : Context) (image : Reference) (layer : Layer) {old new : Link} {k l : AuthState} {before after : SinkState} {r : Result (Unit {0}) OciDistributionError} → MeetsIntoSink (pull_blob s image layer) old new k l before after r → IfErr r (λ e. Told (λ c. BlobCause (BlobUrl s.settings image layer) IntoSink (BadHeader (pulling k s image None) s.settings manifest_types) s.settings layer.digest c new.faults e) old new)
spilled_reason s image layer {old} {new} {k} {l} {before} {after} {r} spills = by_result r spills where
  by_result : (r : Result (Unit {0}) OciDistributionError) → MeetsIntoSink (pull_blob s image layer) old new k l before after r → IfErr r (λ e. Told (λ c. BlobCause (BlobUrl s.settings image layer) IntoSink (BadHeader (pulling k s image None) s.settings manifest_types) s.settings layer.digest c new.faults e) old new)
  by_result (Ok u) spills = tt
  by_result (Err e) spills = blob_reason IntoSink s image layer spills.met

pub spilled_fault : (s : Context) (image : Reference) (layer : Layer) {old new : Link} {k l : AuthState} {before after : SinkState} {r : Result (Unit {0}) OciDistributionError} → MeetsIntoSink (pull_blob s image layer) old new k l before after r → r ≡ Err refusal.TransportFault → Increased old.faults new.faults
spilled_fault s image layer {old} {new} {k} {l} {before} {after} {r} spills is = failed (rw is at spills) where
  failed : MeetsIntoSink (pull_blob s image layer) old new k l before after (Err refusal.TransportFault) → Increased old.faults new.faults
  failed spills = blob_fault IntoSink s image layer spills.met refl
