-- The codes of errors (OCI distribution specification, "Error Codes").
use Rattle.std.specs.Prelude.{ℕ, List, if◌then◌else◌, Option, Some, None, codes}
use Rattle.std.specs.Str.{bytes_eq}
use Rattle.serde_json.specs.Data.{Data, string}
use Rattle.json_tables.specs.Reading.{◌>>=◌, text_of}
use Rattle.oci_errors.specs.declared.error_code.OciErrorCode.{OciErrorCode}
use Rattle.oci_errors.specs.declared.error_code.OciErrorCode.TheVariants.{BlobUnknown, BlobUploadInvalid}
use Rattle.oci_errors.specs.declared.error_code.OciErrorCode.TheVariants.{BlobUploadUnknown, DigestInvalid}
use Rattle.oci_errors.specs.declared.error_code.OciErrorCode.TheVariants.{ManifestBlobUnknown, ManifestInvalid}
use Rattle.oci_errors.specs.declared.error_code.OciErrorCode.TheVariants.{ManifestUnknown, ManifestUnverified}
use Rattle.oci_errors.specs.declared.error_code.OciErrorCode.TheVariants.{NameInvalid, NameUnknown, NotFound}
use Rattle.oci_errors.specs.declared.error_code.OciErrorCode.TheVariants.{SizeInvalid, TagInvalid, Unauthorized, Denied}
use Rattle.oci_errors.specs.declared.error_code.OciErrorCode.TheVariants.{Unsupported, Toomanyrequests, Other}

-- the code of this text, if it is in the table
unfoldable pub known_code : List ℕ → Option OciErrorCode
known_code text =
    if bytes_eq text (codes "BLOB_UNKNOWN") then Some BlobUnknown
    else (if bytes_eq text (codes "BLOB_UPLOAD_INVALID") then Some BlobUploadInvalid
    else (if bytes_eq text (codes "BLOB_UPLOAD_UNKNOWN") then Some BlobUploadUnknown
    else (if bytes_eq text (codes "DIGEST_INVALID") then Some DigestInvalid
    else (if bytes_eq text (codes "MANIFEST_BLOB_UNKNOWN") then Some ManifestBlobUnknown
    else (if bytes_eq text (codes "MANIFEST_INVALID") then Some ManifestInvalid
    else (if bytes_eq text (codes "MANIFEST_UNKNOWN") then Some ManifestUnknown
    else (if bytes_eq text (codes "MANIFEST_UNVERIFIED") then Some ManifestUnverified
    else (if bytes_eq text (codes "NAME_INVALID") then Some NameInvalid
    else (if bytes_eq text (codes "NAME_UNKNOWN") then Some NameUnknown
    else (if bytes_eq text (codes "NOT_FOUND") then Some NotFound
    else (if bytes_eq text (codes "SIZE_INVALID") then Some SizeInvalid
    else (if bytes_eq text (codes "TAG_INVALID") then Some TagInvalid
    else (if bytes_eq text (codes "UNAUTHORIZED") then Some Unauthorized
    else (if bytes_eq text (codes "DENIED") then Some Denied
    else (if bytes_eq text (codes "UNSUPPORTED") then Some Unsupported
    else (if bytes_eq text (codes "TOOMANYREQUESTS") then Some Toomanyrequests else None))))))))))))))))

-- every other text is a code `Other`
abbrev pub code_by : List ℕ → Option OciErrorCode → OciErrorCode
code_by text (Some code) = code
code_by text None = Other text

unfoldable pub code_of : Data → Option OciErrorCode
code_of d = text_of d >>= λ text. Some (code_by text (known_code text))

-- the text of a code
unfoldable pub code_text : OciErrorCode → List ℕ
code_text BlobUnknown = codes "BLOB_UNKNOWN"
code_text BlobUploadInvalid = codes "BLOB_UPLOAD_INVALID"
code_text BlobUploadUnknown = codes "BLOB_UPLOAD_UNKNOWN"
code_text DigestInvalid = codes "DIGEST_INVALID"
code_text ManifestBlobUnknown = codes "MANIFEST_BLOB_UNKNOWN"
code_text ManifestInvalid = codes "MANIFEST_INVALID"
code_text ManifestUnknown = codes "MANIFEST_UNKNOWN"
code_text ManifestUnverified = codes "MANIFEST_UNVERIFIED"
code_text NameInvalid = codes "NAME_INVALID"
code_text NameUnknown = codes "NAME_UNKNOWN"
code_text NotFound = codes "NOT_FOUND"
code_text SizeInvalid = codes "SIZE_INVALID"
code_text TagInvalid = codes "TAG_INVALID"
code_text Unauthorized = codes "UNAUTHORIZED"
code_text Denied = codes "DENIED"
code_text Unsupported = codes "UNSUPPORTED"
code_text Toomanyrequests = codes "TOOMANYREQUESTS"
code_text (Other text) = text

unfoldable pub code_written : OciErrorCode → Data
code_written code = string (code_text code)

-- the normal form of an `Other` with a text of the table is that code; every other code is its own normal form
unfoldable pub normal_code : OciErrorCode → OciErrorCode
normal_code (Other text) = code_by text (known_code text)
normal_code code = code
