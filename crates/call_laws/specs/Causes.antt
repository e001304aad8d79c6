-- Why a pull of blobs was refused.
use Rattle.std.specs.Prelude.{◌⊎◌, ℕ, List}
use Rattle.std.specs.List.{Contains}
use Rattle.oci_transport.specs.declared.message.Exchange.{Exchange}
use Rattle.oci_names.specs.declared.reference.Reference.{Reference}
use Rattle.oci_manifests.specs.declared.descriptor.OciDescriptor.{OciDescriptor}
use Rattle.engine_requests.specs.Sources.{described}
use Rattle.engine_terms.specs.declared.settings.Settings.{Settings}
use Rattle.engine_terms.specs.declared.error.OciDistributionError.{OciDistributionError}
use Rattle.engine_terms.specs.declared.error.OciDistributionError.TheVariants as refusal
use Rattle.engine_rows.specs.Causes.{Act, LastTooLong, AnswerCause, AskedDigest, BlobUrl, Cause}
use Rattle.call_laws.specs.Cut.{size_of}

-- Of one blob: as of a blob that is not cut, but its body has more bytes than its descriptor states, or another body
-- more than the settings allow. The fault count of the sinks is not exposed here.
abbrev pub CutCause : (Act → Type 0) → (List Exchange → Type 0) → Settings → OciDescriptor → List Exchange → ℕ
    → OciDistributionError → Type 0
CutCause Own Bad s x c now refusal.SinkFault = Unit {0}
CutCause Own Bad s x c now refusal.BodyTooLong = LastTooLong Own c (size_of x) ⊎ LastTooLong Own c s.max_body_bytes
CutCause Own Bad s x c now e = Cause Own (AnswerCause (AskedDigest x.digest)) Bad s c now e

-- of one of these blobs
pub record BlobsCause (Bad : List Exchange → Type 0) (s : Settings) (image : Reference) (xs : List OciDescriptor)
    (c : List Exchange) (now : ℕ) (e : OciDistributionError) : Type 0 where
  pub x : OciDescriptor
  pub among : Contains xs x
  pub cause : CutCause (BlobUrl s image (described x)) Bad s x c now e
