-- Which bytes of a blob are requested (RFC 9110, section 14.1.2).
use Rattle.std.specs.Prelude.{ℕ, ◌+◌, ◌-◌, ◌^◌, List, ◌++◌, Bool, false, ◌==◌, Option, Some, None, Result, Ok, Err}
use Rattle.std.specs.Prelude.{codes, decimal, nat_lt, if◌then◌else◌}
use Rattle.oci_transport.specs.declared.message.Request.{Request}
use Rattle.engine_terms.specs.declared.error.GenericCause.TheVariants.{RangeOverflow}
use Rattle.engine_terms.specs.declared.error.OciDistributionError.{OciDistributionError}
use Rattle.engine_terms.specs.declared.error.OciDistributionError.TheVariants as refusal
use Rattle.json_values.specs.Refusals.{◌>>=◌}
use Rattle.engine_requests.specs.Requests.{with_header}
use Rattle.engine_streams.specs.declared.range.ByteRange.{ByteRange}

-- from the offset on
abbrev pub onward_text : ℕ → List ℕ
onward_text offset = codes "bytes=" ++ decimal offset ++ codes "-"

-- up to the byte before the end, but not to a byte before the first
abbrev pub text_to : ℕ → ℕ → Result (List ℕ) OciDistributionError
text_to offset end =
    if nat_lt end (2 ^ 64)
    then Ok (onward_text offset ++ decimal (end - 1))
    else Err (refusal.GenericError RangeOverflow)

abbrev pub text_by : ℕ → Option ℕ → Result (List ℕ) OciDistributionError
text_by offset None = Ok (onward_text offset)
text_by offset (Some n) = text_to offset (offset + n)

-- what is requested from the registry, if a part is requested
abbrev pub range_text : Option ByteRange → Result (Option (List ℕ)) OciDistributionError
range_text None = Ok None
range_text (Some range) = text_by range.offset range.length >>= (λ text. Ok (Some text))

-- what is requested from the other places: the bytes from the offset on, whatever the length
abbrev pub onward : Option ByteRange → Option (List ℕ)
onward None = None
onward (Some range) = Some (onward_text range.offset)

-- the request for these bytes
abbrev pub with_range : Option (List ℕ) → Request → Result Request OciDistributionError
with_range None request = Ok request
with_range (Some text) request =
    with_header request.headers (codes "range") text >>= (λ headers. Ok (record request { headers = headers }))

-- whether a response with this status is a part of the blob: only if one was requested
abbrev pub is_part : Option ByteRange → ℕ → Bool
is_part None status = false
is_part (Some range) status = status == 206
