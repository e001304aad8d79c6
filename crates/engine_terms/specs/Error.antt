-- Refusals, and steps that make no request.
use Rattle.std.specs.Prelude.{ℕ, List, Bool, true, false, codes}
use Rattle.engine_terms.specs.declared.error.OciDistributionError.{OciDistributionError}
use Rattle.engine_terms.specs.declared.error.OciDistributionError.TheVariants as refusal

-- whether the refusal is out of memory
abbrev pub is_memory : OciDistributionError → Bool
is_memory refusal.WantOfMemory = true
is_memory _ = false

-- the name of the variant, which is printed for a refusal
abbrev pub name_of : OciDistributionError → List ℕ
name_of (refusal.AmbiguousManifest a) = codes "AmbiguousManifest"
name_of (refusal.AuthenticationFailure a) = codes "AuthenticationFailure"
name_of refusal.BodyTooLong = codes "BodyTooLong"
name_of (refusal.ConfigConversionError a) = codes "ConfigConversionError"
name_of (refusal.DigestError a) = codes "DigestError"
name_of (refusal.GenericError a) = codes "GenericError"
name_of (refusal.HeaderValueError a) = codes "HeaderValueError"
name_of refusal.ImageIndexParsingNoPlatformResolverError = codes "ImageIndexParsingNoPlatformResolverError"
name_of (refusal.ImageManifestNotFoundError a) = codes "ImageManifestNotFoundError"
name_of (refusal.IncompatibleLayerMediaTypeError a) = codes "IncompatibleLayerMediaTypeError"
name_of (refusal.JsonError a) = codes "JsonError"
name_of (refusal.ManifestEncodingError a) = codes "ManifestEncodingError"
name_of (refusal.ManifestParsingError a) = codes "ManifestParsingError"
name_of refusal.PullNoLayersError = codes "PullNoLayersError"
name_of refusal.PushNoDataError = codes "PushNoDataError"
name_of (refusal.RegistryError a b) = codes "RegistryError"
name_of refusal.RegistryNoLocationError = codes "RegistryNoLocationError"
name_of (refusal.RegistryTokenDecodeError a) = codes "RegistryTokenDecodeError"
name_of (refusal.ServerError a b c) = codes "ServerError"
name_of refusal.SinkFault = codes "SinkFault"
name_of refusal.SourceFault = codes "SourceFault"
name_of (refusal.SpecViolationError a) = codes "SpecViolationError"
name_of refusal.StreamFailed = codes "StreamFailed"
name_of refusal.TransportFault = codes "TransportFault"
name_of (refusal.UnauthorizedError a) = codes "UnauthorizedError"
name_of (refusal.UnsupportedMediaTypeError a) = codes "UnsupportedMediaTypeError"
name_of (refusal.UnsupportedSchemaVersionError a) = codes "UnsupportedSchemaVersionError"
name_of (refusal.UrlParseError a) = codes "UrlParseError"
name_of (refusal.VersionedParsingError a) = codes "VersionedParsingError"
name_of refusal.WantOfMemory = codes "WantOfMemory"
