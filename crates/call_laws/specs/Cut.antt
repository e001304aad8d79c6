-- One request for a blob, whose body is cut at the size that the blob's descriptor states (OCI image specification,
-- descriptor.md, `size`).
use Rattle.std.specs.Prelude.{ℕ, ℤ, pos, negsuc, List, [], ◌∷◌, Option, Some, None, if◌then◌else◌}
use Rattle.oci_transport.specs.declared.message.Request.{Request}
use Rattle.oci_transport.specs.declared.message.AnswerHead.{AnswerHead}
use Rattle.oci_manifests.specs.declared.descriptor.OciDescriptor.{OciDescriptor}
use Rattle.oci_protocol.specs.Proto.{Reading, Unread, Reply, Headed, Done, ◌>>=◌}
use Rattle.oci_protocol.specs.Follow.{follow}
use Rattle.engine_answers.specs.Answers.{is_error, is_success}
use Rattle.engine_requests.specs.Sources.{asked_at}
use Rattle.engine_requests.specs.declared.sources.Place.{Place}
use Rattle.engine_terms.specs.declared.settings.Settings.{Settings}
use Rattle.engine_rows.specs.Blobs.{IntoSink, blob_reading, blob_reply}
use Rattle.engine_rows.specs.Rows.{Row}

-- the number of bytes that a descriptor states; a negative size is none
abbrev pub bytes_in : ℤ → ℕ
bytes_in (pos n) = n
bytes_in (negsuc n) = 0

abbrev pub size_of : OciDescriptor → ℕ
size_of x = bytes_in x.size

-- the greatest number of bytes of a body: the blob's size, and the limit of the settings for any other body
abbrev pub most : Settings → ℕ → AnswerHead → ℕ
most s size head = if is_success head.status then size else s.max_body_bytes

-- what comes after a response with a 4xx or 5xx status, if anything is left to be requested
abbrev pub instead : Option (Row (List ℕ)) → AnswerHead → Option (Row (List ℕ))
instead None head = None
instead (Some next) head = if is_error head.status then Some next else None

abbrev pub unread_before : Option (Row (List ℕ)) → Reading → Reading
unread_before (Some next) reading = Unread
unread_before None reading = reading

abbrev pub or_row : Option (Row (List ℕ)) → Row (List ℕ) → Row (List ℕ)
or_row (Some next) row = next
or_row None row = row

unfoldable pub cut_reading : Settings → ℕ → List ℕ → Option (Row (List ℕ)) → AnswerHead → Reading
cut_reading s size digest next head = unread_before (instead next head)
    (blob_reading IntoSink (most s size head) digest head)

abbrev pub cut_reply : List ℕ → Option (Row (List ℕ)) → Request → Reply → Row (List ℕ)
cut_reply digest next last (Headed head) = or_row (instead next head) (blob_reply digest last (Headed head))
cut_reply digest next last reply = blob_reply digest last reply

-- one request for a blob of this size, and what comes next
unfoldable pub cut : Settings → ℕ → List ℕ → Option (Row (List ℕ)) → Request → Row (List ℕ)
cut s size digest next request = follow 10 request (cut_reading s size digest next) (cut_reply digest next)

-- one request for a blob, and then the places that are left
unfoldable pub cut_at : Settings → ℕ → List ℕ → List Place → Request → Row (List ℕ)
cut_at s size digest [] request = cut s size digest None request
cut_at s size digest (p ∷ ps) request = cut s size digest
    (Some (Done (asked_at s p) >>= (λ next. cut_at s size digest ps next))) request
