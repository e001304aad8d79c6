-- What a reader of layers returns: the one layer that an input results in for an image, or the first check that fails.
use Rattle.std.specs.Prelude.{◌≡◌, ◌⊎◌, ℕ, List, true, false, MatchBool, Option, Some, None}
use Rattle.std.specs.FinMap.{get}
use Rattle.base64.specs.Engines.{standard}
use Rattle.base64.specs.GeneralPurpose.{decoded_of}
use Rattle.oci_digests.specs.Names.{Names}
use Rattle.cosign_layers.specs.Checks.{Input}
use Rattle.cosign_parts.specs.Layer.{LayerOf, IsAboutImage, IsSignature, IsEntry, is_logged, evidence}
use Rattle.cosign_parts.specs.LogEntry.{LogSigned, log_text}
use Rattle.cosign_layers.specs.Rejection.{is_memory}
use Rattle.cosign_parts.specs.Shown.{shown, is_about}
use Rattle.cosign_parts.specs.Trust.{Trust, knows_no_log}
use Rattle.cosign_parts.specs.declared.layer.SignatureLayer.{SignatureLayer}
use Rattle.cosign_parts.specs.declared.log_entry.LogEntryBundle.{LogEntryBundle}
use Rattle.cosign_layers.specs.declared.rejection.LayerPart.TheVariants.{Content, Signature, LogEntry, Certificate}
use Rattle.cosign_layers.specs.declared.rejection.LayerRejection.{LayerRejection}
use Rattle.cosign_layers.specs.declared.rejection.LayerRejection.TheVariants as rejections
use Rattle.cosign_parts.specs.declared.shown.Found.{Found}
use Rattle.cosign_parts.specs.declared.shown.Found.TheVariants as founds
use Rattle.cosign_parts.specs.declared.shown.Shown.{Shown}

-- the digest names the content, which has the form of its kind
pub record HasContent (input : Input) (shows : Shown) : Type 0 where
  pub named : Names input.oci_digest input.content
  pub content : shown input.kind input.content input.annotations ≡ Some shows

-- the content is also about this image
pub record IsAbout (d : List ℕ) (input : Input) (shows : Shown) : Type 0 where
  pub has : HasContent input shows
  pub about : is_about d shows ≡ true

-- a log whose key is known did not sign the entry
abbrev pub NotLogSigned : Trust → LogEntryBundle → Type 0
NotLogSigned trust e =
    (key : List ℕ) × (get trust.log_keys e.log_id ≡ Some key)
    × (trust.valid key (log_text e) e.signed_entry_timestamp ≡ false)

-- the check of the content that fails first
abbrev pub ContentRejected : List ℕ → Input → LayerRejection → Type 0
ContentRejected d input rejections.DigestMismatch = ¬ Names input.oci_digest input.content
ContentRejected d input (rejections.Unreadable Content) =
    Names input.oci_digest input.content × (shown input.kind input.content input.annotations ≡ None)
ContentRejected d input rejections.OtherDigest = (shows : Shown) × HasContent input shows × (is_about d shows ≡ false)
ContentRejected d input _ = ⊥

-- the check of the signature that fails
abbrev pub SignatureRejected : Option (List ℕ) → LayerRejection → Type 0
SignatureRejected found rejections.NoSignature = found ≡ None
SignatureRejected found (rejections.Unreadable Signature) =
    (signature : List ℕ) × (found ≡ Some signature) × (decoded_of standard signature ≡ None)
SignatureRejected found _ = ⊥

-- the check of the log entry that fails first
abbrev pub EntryRejected : Trust → Input → List ℕ → Found LogEntryBundle → LayerRejection → Type 0
EntryRejected trust input bytes found (rejections.Unreadable LogEntry) = found ≡ founds.Unreadable
EntryRejected trust input bytes found (rejections.UnknownLogKey log_id) =
    (e : LogEntryBundle) × (found ≡ founds.Read e) × (get trust.log_keys e.log_id ≡ None) × (log_id ≡ e.log_id)
EntryRejected trust input bytes found rejections.BadLogSignature =
    (e : LogEntryBundle) × (found ≡ founds.Read e) × NotLogSigned trust e
EntryRejected trust input bytes found (rejections.OtherLogEntry body) =
    (e : LogEntryBundle) × (found ≡ founds.Read e) × LogSigned trust e
    × (is_logged input.kind input.content bytes e.body ≡ false) × (body ≡ e.body)
EntryRejected trust input bytes found _ = ⊥

-- the check of the certificate that fails first
abbrev pub CertificateRejected : Trust → Option LogEntryBundle → Found (List ℕ) → LayerRejection → Type 0
CertificateRejected trust entry found (rejections.Unreadable Certificate) = found ≡ founds.Unreadable
CertificateRejected trust entry found rejections.NoLogEntry =
    (certificate : List ℕ) × (found ≡ founds.Read certificate) × (entry ≡ None)
CertificateRejected trust entry found rejections.NotVouched =
    (certificate : List ℕ) × (e : LogEntryBundle) × (found ≡ founds.Read certificate) × (entry ≡ Some e)
    × (trust.vouched (evidence certificate e) ≡ None)
CertificateRejected trust entry found _ = ⊥

-- the certificate is rejected after everything before it passed
abbrev pub AfterSignature : Trust → Input → Shown → List ℕ → LayerRejection → Type 0
AfterSignature trust input shows bytes x =
    ((knows_no_log trust ≡ false) × EntryRejected trust input bytes shows.log_entry x)
    ⊎ ((entry : Option LogEntryBundle)
    × IsEntry trust input.kind input.content bytes shows.log_entry entry
    × CertificateRejected trust entry shows.certificate x)

-- the signature, or what is checked after it, is rejected
abbrev pub AfterContent : Trust → Input → Shown → LayerRejection → Type 0
AfterContent trust input shows x =
    SignatureRejected shows.signature x
    ⊎ ((signature bytes : List ℕ)
    × IsSignature shows.signature signature bytes
    × AfterSignature trust input shows bytes x)

-- the first check that fails is the one of this rejection
abbrev pub Rejected : Trust → List ℕ → Input → LayerRejection → Type 0
Rejected trust d input x =
    ContentRejected d input x ⊎ ((shows : Shown) × IsAbout d input shows × AfterContent trust input shows x)

-- a rejection other than out of memory is that of the first check that fails
abbrev pub RejectedUnlessMemory : Trust → List ℕ → Input → LayerRejection → Type 0
RejectedUnlessMemory trust d input x = MatchBool (is_memory x) (Unit {0}) (Rejected trust d input x)

-- the input of a layer
abbrev pub input_of : SignatureLayer → Input
input_of layer = record {
  kind = layer.kind;
  content = layer.content;
  oci_digest = layer.oci_digest;
  annotations = layer.annotations;
}

-- the layer is what this input results in, and is about this image
pub record Gives (trust : Trust) (d : List ℕ) (input : Input) (layer : SignatureLayer) : Type 0 where
  pub from : input_of layer ≡ input
  pub layer_of : LayerOf trust layer
  pub is_named : IsAboutImage layer d

-- the input results in exactly one of: a layer for the image, or one check that fails first
pub record HasOneOutcome (trust : Trust) (d : List ℕ) (input : Input) : Type 0 where
  pub one_of :
      ((layer : SignatureLayer) × Gives trust d input layer) ⊎ ((x : LayerRejection) × Rejected trust d input x)
  pub not_both :
      (layer : SignatureLayer) (x : LayerRejection) → Gives trust d input layer → Rejected trust d input x → ⊥
  pub one_layer : (a b : SignatureLayer) → Gives trust d input a → Gives trust d input b → a ≡ b
  pub one_rejection : (x y : LayerRejection) → Rejected trust d input x → Rejected trust d input y → x ≡ y
