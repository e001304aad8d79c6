-- Why a stream of a blob is refused, and what it asks for.
use Rattle.std.specs.Prelude.{◌≡◌, ◌⊎◌, ◌<◌, ◌≤◌, ◌+◌, ◌^◌, ℕ, List, [], Option, Some, None, Ok}
use Rattle.oci_transport.specs.declared.message.Exchange.{Exchange}
use Rattle.oci_transport.specs.declared.message.Request.{Request}
use Rattle.oci_names.specs.declared.reference.Reference.{Reference}
use Rattle.engine_requests.specs.Addresses.{blob_text}
use Rattle.engine_requests.specs.Sources.{Layer}
use Rattle.engine_terms.specs.declared.error.GenericCause.TheVariants.{RangeOverflow}
use Rattle.engine_terms.specs.declared.error.OciDistributionError.{OciDistributionError}
use Rattle.engine_terms.specs.declared.error.OciDistributionError.TheVariants as refusal
use Rattle.engine_terms.specs.declared.settings.Settings.{Settings}
use Rattle.engine_rows.specs.Causes.{Act, Reads, Sends, AsksText, AsksListed, Cause, AnswerCause, AskedDigest, BlobUrl}
use Rattle.engine_streams.specs.Range.{range_text, onward, with_range}
use Rattle.engine_streams.specs.declared.range.ByteRange.{ByteRange}

abbrev pub range_of : ℕ → Option ℕ → ByteRange
range_of offset length = record { offset = offset; length = length }

-- the end of the range is beyond 2^64 - 1
abbrev pub Overflows : Option ByteRange → Type 0
Overflows None = ⊥
Overflows (Some range) = (n : ℕ) × (range.length ≡ Some n) × (2 ^ 64 ≤ range.offset + n)

-- it is not, or the range is unspecified
abbrev pub Fits : Option ByteRange → Type 0
Fits None = Unit {0}
Fits (Some range) = (n : ℕ) → range.length ≡ Some n → range.offset + n < 2 ^ 64

-- an overflow, before any request; or what the last response shows, a malformed URL, or an invalid header value
abbrev pub StreamCause : Option ByteRange → (Act → Type 0) → (List Exchange → Type 0) → Settings → List ℕ
    → List Exchange → ℕ → OciDistributionError → Type 0
StreamCause range Own Bad s digest c now (refusal.GenericError RangeOverflow) = Overflows range × (c ≡ [])
StreamCause range Own Bad s digest c now e = Cause Own (AnswerCause (AskedDigest digest)) Bad s c now e

-- the request for the blob at its address, for this range of it
abbrev pub AsksRange : Option ByteRange → Settings → List ℕ → Request → Type 0
AsksRange range s address request = (whole : Request) × AsksText s address whole
    × (text : Option (List ℕ)) × (range_text range ≡ Ok text) × (with_range text whole ≡ Ok request)

-- the request for it at a URL of its descriptor, from the offset on
abbrev pub AsksOnward : Option ByteRange → Settings → List (List ℕ) → Request → Type 0
AsksOnward range s urls request = (whole : Request) × AsksListed s urls whole
    × (with_range (onward range) whole ≡ Ok request)

-- what is parsed for a blob, and requested with the range
abbrev pub StreamUrl : Option ByteRange → Settings → Reference → Layer → Act → Type 0
StreamUrl range s image layer (Reads text) = BlobUrl s image layer (Reads text)
StreamUrl range s image layer (Sends request) = AsksRange range s (blob_text s image layer.digest) request
    ⊎ AsksOnward range s layer.urls request
