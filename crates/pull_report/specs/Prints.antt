-- Prints: a variant's name, then the values that it holds in their declared order, each after one space. A text
-- is printed as a canonical JSON string, a number in decimal, bytes as their count, and a list of a registry's
-- errors as its length.
use Rattle.std.specs.Prelude.{ℕ, List, [], ◌∷◌, length, codes, decimal}
use Rattle.std.specs.Fmt.{signed_decimal}
use Rattle.json_values.specs.Canon.{quoted_text}
use Rattle.oci_errors.specs.declared.envelope.OciEnvelope.{OciEnvelope}
use Rattle.oci_digests.specs.declared.error.DigestError.{DigestError}
use Rattle.oci_digests.specs.declared.error.DigestError.TheVariants as digest
use Rattle.engine_terms.specs.declared.error.GenericCause.{GenericCause}
use Rattle.engine_terms.specs.declared.error.GenericCause.TheVariants as cause
use Rattle.engine_terms.specs.declared.error.SpecViolation.{SpecViolation}
use Rattle.engine_terms.specs.declared.error.SpecViolation.TheVariants as violation
use Rattle.engine_terms.specs.declared.error.OciDistributionError.{OciDistributionError}
use Rattle.engine_terms.specs.declared.error.OciDistributionError.TheVariants as distribution
use Rattle.registry_calls.specs.declared.error.SigstoreError.{SigstoreError}
use Rattle.registry_calls.specs.declared.error.SigstoreError.TheVariants as sigstore
use Rattle.cosign_layers.specs.declared.rejection.LayerPart.{LayerPart}
use Rattle.cosign_layers.specs.declared.rejection.LayerPart.TheVariants as part
use Rattle.cosign_layers.specs.declared.rejection.LayerRejection.{LayerRejection}
use Rattle.cosign_layers.specs.declared.rejection.LayerRejection.TheVariants as rejection
use Rattle.cosign_rows.specs.declared.found.SourceKind.{SourceKind}
use Rattle.cosign_rows.specs.declared.found.SourceKind.TheVariants as source
use Rattle.cosign_rows.specs.declared.found.SkipCause.{SkipCause}
use Rattle.cosign_rows.specs.declared.found.SkipCause.TheVariants as skip
use Rattle.cosign_rows.specs.declared.found.Skipped.{Skipped}
use Rattle.cosign_rows.specs.declared.found.Skipped.TheVariants as skipped
use Rattle.cosign_rows.specs.declared.refusal.PullRefusal.{PullRefusal}
use Rattle.cosign_rows.specs.declared.refusal.PullRefusal.TheVariants as pull
use Rattle.pull_report.specs.Words.{spaced}

abbrev pub bytes_print : List ℕ → List ℕ
bytes_print bytes = decimal (length bytes)

abbrev pub envelope_print : OciEnvelope → List ℕ
envelope_print envelope = decimal (length envelope.errors)

abbrev pub digest_print : DigestError → List ℕ
digest_print (digest.InvalidHeader header) = spaced (codes "InvalidHeader" ∷ bytes_print header ∷ [])
digest_print (digest.UnsupportedAlgorithm name) = spaced (codes "UnsupportedAlgorithm" ∷ quoted_text name ∷ [])
digest_print digest.MissingAlgorithm = codes "MissingAlgorithm"
digest_print (digest.VerificationError expected actual) =
    spaced (codes "VerificationError" ∷ quoted_text expected ∷ quoted_text actual ∷ [])
digest_print digest.WantOfMemory = codes "WantOfMemory"

abbrev pub cause_print : GenericCause → List ℕ
cause_print cause.ConfigNotText = codes "ConfigNotText"
cause_print cause.HeaderText = codes "HeaderText"
cause_print cause.NoDigest = codes "NoDigest"
cause_print cause.NoSize = codes "NoSize"
cause_print cause.RangeOverflow = codes "RangeOverflow"
cause_print cause.SizeDiffers = codes "SizeDiffers"

abbrev pub violation_print : SpecViolation → List ℕ
violation_print (violation.ReferrersTag tag) = spaced (codes "ReferrersTag" ∷ quoted_text tag ∷ [])
violation_print (violation.Status expected got url) =
    spaced (codes "Status" ∷ decimal expected ∷ decimal got ∷ quoted_text url ∷ [])

abbrev pub distribution_print : OciDistributionError → List ℕ
distribution_print (distribution.AmbiguousManifest document) =
    spaced (codes "AmbiguousManifest" ∷ bytes_print document ∷ [])
distribution_print (distribution.AuthenticationFailure body) =
    spaced (codes "AuthenticationFailure" ∷ bytes_print body ∷ [])
distribution_print distribution.BodyTooLong = codes "BodyTooLong"
distribution_print (distribution.ConfigConversionError content) =
    spaced (codes "ConfigConversionError" ∷ bytes_print content ∷ [])
distribution_print (distribution.DigestError error) = spaced (codes "DigestError" ∷ digest_print error ∷ [])
distribution_print (distribution.GenericError cause) = spaced (codes "GenericError" ∷ cause_print cause ∷ [])
distribution_print (distribution.HeaderValueError value) = spaced (codes "HeaderValueError" ∷ bytes_print value ∷ [])
distribution_print distribution.ImageIndexParsingNoPlatformResolverError =
    codes "ImageIndexParsingNoPlatformResolverError"
distribution_print (distribution.ImageManifestNotFoundError digest) =
    spaced (codes "ImageManifestNotFoundError" ∷ quoted_text digest ∷ [])
distribution_print (distribution.IncompatibleLayerMediaTypeError media_type) =
    spaced (codes "IncompatibleLayerMediaTypeError" ∷ quoted_text media_type ∷ [])
distribution_print (distribution.JsonError body) = spaced (codes "JsonError" ∷ bytes_print body ∷ [])
distribution_print (distribution.ManifestEncodingError body) =
    spaced (codes "ManifestEncodingError" ∷ bytes_print body ∷ [])
distribution_print (distribution.ManifestParsingError document) =
    spaced (codes "ManifestParsingError" ∷ bytes_print document ∷ [])
distribution_print distribution.PullNoLayersError = codes "PullNoLayersError"
distribution_print distribution.PushNoDataError = codes "PushNoDataError"
distribution_print (distribution.RegistryError envelope url) =
    spaced (codes "RegistryError" ∷ envelope_print envelope ∷ quoted_text url ∷ [])
distribution_print distribution.RegistryNoLocationError = codes "RegistryNoLocationError"
distribution_print (distribution.RegistryTokenDecodeError body) =
    spaced (codes "RegistryTokenDecodeError" ∷ bytes_print body ∷ [])
distribution_print (distribution.ServerError code url message) =
    spaced (codes "ServerError" ∷ decimal code ∷ quoted_text url ∷ bytes_print message ∷ [])
distribution_print distribution.SinkFault = codes "SinkFault"
distribution_print distribution.SourceFault = codes "SourceFault"
distribution_print (distribution.SpecViolationError violation) =
    spaced (codes "SpecViolationError" ∷ violation_print violation ∷ [])
distribution_print distribution.StreamFailed = codes "StreamFailed"
distribution_print distribution.TransportFault = codes "TransportFault"
distribution_print (distribution.UnauthorizedError url) =
    spaced (codes "UnauthorizedError" ∷ quoted_text url ∷ [])
distribution_print (distribution.UnsupportedMediaTypeError media_type) =
    spaced (codes "UnsupportedMediaTypeError" ∷ quoted_text media_type ∷ [])
distribution_print (distribution.UnsupportedSchemaVersionError version) =
    spaced (codes "UnsupportedSchemaVersionError" ∷ signed_decimal version ∷ [])
distribution_print (distribution.UrlParseError text) = spaced (codes "UrlParseError" ∷ quoted_text text ∷ [])
distribution_print (distribution.VersionedParsingError document) =
    spaced (codes "VersionedParsingError" ∷ bytes_print document ∷ [])
distribution_print distribution.WantOfMemory = codes "WantOfMemory"

abbrev pub sigstore_print : SigstoreError → List ℕ
sigstore_print (sigstore.OciReferenceNotValidError reference) =
    spaced (codes "OciReferenceNotValidError" ∷ quoted_text reference ∷ [])
sigstore_print (sigstore.RegistryFetchManifestError image error) =
    spaced (codes "RegistryFetchManifestError" ∷ quoted_text image ∷ distribution_print error ∷ [])
sigstore_print (sigstore.RegistryPullError image error) =
    spaced (codes "RegistryPullError" ∷ quoted_text image ∷ distribution_print error ∷ [])
sigstore_print (sigstore.RegistryPullManifestError image error) =
    spaced (codes "RegistryPullManifestError" ∷ quoted_text image ∷ distribution_print error ∷ [])
sigstore_print (sigstore.RegistryPushError image error) =
    spaced (codes "RegistryPushError" ∷ quoted_text image ∷ distribution_print error ∷ [])
sigstore_print sigstore.WantOfMemory = codes "WantOfMemory"

abbrev pub part_print : LayerPart → List ℕ
part_print part.Content = codes "Content"
part_print part.Signature = codes "Signature"
part_print part.LogEntry = codes "LogEntry"
part_print part.Certificate = codes "Certificate"

abbrev pub rejection_print : LayerRejection → List ℕ
rejection_print rejection.DigestMismatch = codes "DigestMismatch"
rejection_print (rejection.Unreadable part) = spaced (codes "Unreadable" ∷ part_print part ∷ [])
rejection_print rejection.OtherDigest = codes "OtherDigest"
rejection_print rejection.NoSignature = codes "NoSignature"
rejection_print (rejection.UnknownLogKey log) = spaced (codes "UnknownLogKey" ∷ quoted_text log ∷ [])
rejection_print rejection.BadLogSignature = codes "BadLogSignature"
rejection_print (rejection.OtherLogEntry body) = spaced (codes "OtherLogEntry" ∷ quoted_text body ∷ [])
rejection_print rejection.NoLogEntry = codes "NoLogEntry"
rejection_print rejection.NotVouched = codes "NotVouched"
rejection_print rejection.LayerNotPulled = codes "LayerNotPulled"
rejection_print rejection.WantOfMemory = codes "WantOfMemory"

abbrev pub source_print : SourceKind → List ℕ
source_print source.Tag = codes "Tag"
source_print source.Referrers = codes "Referrers"

abbrev pub skip_print : SkipCause → List ℕ
skip_print (skip.NotAReference text) = spaced (codes "NotAReference" ∷ quoted_text text ∷ [])
skip_print skip.FoundIndex = codes "FoundIndex"
skip_print (skip.Refused error) = spaced (codes "Refused" ∷ sigstore_print error ∷ [])

abbrev pub skipped_print : Skipped → List ℕ
skipped_print (skipped.Source source cause) =
    spaced (codes "Source" ∷ source_print source ∷ skip_print cause ∷ [])
skipped_print (skipped.Referrer referrer cause) =
    spaced (codes "Referrer" ∷ quoted_text referrer ∷ skip_print cause ∷ [])
skipped_print (skipped.Layer source layer rejection) =
    spaced (codes "Layer" ∷ source_print source ∷ quoted_text layer ∷ rejection_print rejection ∷ [])

-- of the values that `Unsatisfied` holds, only the digest
abbrev pub refusal_print : PullRefusal → List ℕ
refusal_print pull.EmptyPolicy = codes "EmptyPolicy"
refusal_print (pull.OciReferenceNotValidError reference) =
    spaced (codes "OciReferenceNotValidError" ∷ quoted_text reference ∷ [])
refusal_print (pull.RegistryFetchManifestError image error) =
    spaced (codes "RegistryFetchManifestError" ∷ quoted_text image ∷ distribution_print error ∷ [])
refusal_print (pull.RegistryPullError image error) =
    spaced (codes "RegistryPullError" ∷ quoted_text image ∷ distribution_print error ∷ [])
refusal_print (pull.Unsatisfied digest collected skipped) =
    spaced (codes "Unsatisfied" ∷ quoted_text digest ∷ [])
refusal_print pull.WantOfMemory = codes "WantOfMemory"
