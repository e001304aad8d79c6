-- Written errors and envelopes round-trip.
use Rattle.std.proofs.Common.{◌≡◌, ℕ, List, false, Some, None, map, refl}
use Rattle.std.specs.List.{list_any}
use Rattle.serde_json.specs.Data.{Data, string}
use Rattle.serde_json.specs.Find.{get}
use Rattle.json_values.specs.Writing.{listed}
use Rattle.json_tables.specs.Reading.{list_of}
use Rattle.json_tables.specs.Member.{present}
use Rattle.json_tables.specs.Again.{ReadsAgain, MemberReadsAgain}
use Rattle.json_tables.proofs.Members.{among, get-fields, fields_plain}
use Rattle.oci_errors.specs.declared.error_code.OciErrorCode.{OciErrorCode}
use Rattle.oci_errors.specs.declared.error_code.OciErrorCode.TheVariants.{BlobUnknown, BlobUploadInvalid, BlobUploadUnknown, DigestInvalid, ManifestBlobUnknown, ManifestInvalid, ManifestUnknown, ManifestUnverified, NameInvalid, NameUnknown, NotFound, SizeInvalid, TagInvalid, Unauthorized, Denied, Unsupported, Toomanyrequests, Other}
use Rattle.oci_errors.specs.declared.envelope.OciError.{OciError}
use Rattle.oci_errors.specs.declared.envelope.OciEnvelope.{OciEnvelope}
use Rattle.oci_errors.specs.ErrorCode.{known_code, code_of, code_text, code_written, normal_code}
use Rattle.oci_errors.specs.Envelope.{error_of, error_fields, error_written, normal_error, detail_has_float, envelope_of, envelope_fields, envelope_written, normal_envelope, details_have_float}

code_reads : (code : OciErrorCode) → code_of (string (code_text code)) ≡ Some (normal_code code)
unfolding code_of code_text normal_code known_code
code_reads BlobUnknown = refl
code_reads BlobUploadInvalid = refl
code_reads BlobUploadUnknown = refl
code_reads DigestInvalid = refl
code_reads ManifestBlobUnknown = refl
code_reads ManifestInvalid = refl
code_reads ManifestUnknown = refl
code_reads ManifestUnverified = refl
code_reads NameInvalid = refl
code_reads NameUnknown = refl
code_reads NotFound = refl
code_reads SizeInvalid = refl
code_reads TagInvalid = refl
code_reads Unauthorized = refl
code_reads Denied = refl
code_reads Unsupported = refl
code_reads Toomanyrequests = refl
code_reads (Other text) = refl

pub code_again : (code : OciErrorCode) → ReadsAgain code_of (code_written code) (normal_code code) false
unfolding code_written
code_again code = record { reads = code_reads code; is_there = refl; plain = λ _. refl }

error_reads : (x : OciError) (d : Data) → ((q : List ℕ) → get q d ≡ among q (error_fields x) None) → code_of (code_written x.code) ≡ Some (normal_code x.code) → error_of d ≡ Some (normal_error x)
unfolding error_of
error_reads x d found code = simp (found, code)

pub error_again : (x : OciError) → MemberReadsAgain (present code_of) (Some (code_written x.code)) (normal_code x.code) false → ReadsAgain error_of (error_written x) (normal_error x) (detail_has_float x)
unfolding error_written
error_again x code = record {
  reads = error_reads x _ (λ q. get-fields q (error_fields x)) code.reads;
  is_there = refl;
  plain = λ none. fields_plain (error_fields x) (simp (code.plain refl, none));
}

envelope_reads : (x : OciEnvelope) (d : Data) → ((q : List ℕ) → get q d ≡ among q (envelope_fields x) None) → list_of error_of (listed error_written x.errors) ≡ Some (map normal_error x.errors) → envelope_of d ≡ Some (normal_envelope x)
unfolding envelope_of
envelope_reads x d found errors = simp (found, errors)

pub envelope_again : (x : OciEnvelope) → MemberReadsAgain (present (list_of error_of)) (Some (listed error_written x.errors)) (map normal_error x.errors) (list_any detail_has_float x.errors) → ReadsAgain envelope_of (envelope_written x) (normal_envelope x) (details_have_float x)
unfolding envelope_written
envelope_again x errors = record {
  reads = envelope_reads x _ (λ q. get-fields q (envelope_fields x)) errors.reads;
  is_there = refl;
  plain = λ none. fields_plain (envelope_fields x) (simp (errors.plain none));
}
