-- Results of steps that make no request, one after another.
use Rattle.std.proofs.Common.{ℕ, List, Result, Ok, Err, codes}
use Rattle.engine_terms.specs.declared.error.OciDistributionError.{OciDistributionError}
use Rattle.json_values.specs.Refusals.{Matches, ◌>>=◌}
use Rattle.engine_terms.specs.Error.{is_memory}
use Rattle.oci_transport.specs.Headers.{Fields}
use Rattle.engine_requests.specs.Requests.{with_header}
use Rattle.push_rows.specs.Contents.{range_text, octet_stream, with_length, with_type, with_fields}
use Rattle.push_rows.specs.declared.content.Content.TheVariants.{Whole, Chunk}
use Rattle.json_values.proofs.Refusals.{says_first, says_next}

-- ---- the fields of a chunk

module _ (start : ℕ) (bytes : List ℕ) (headers : Fields) where
  abbrev range : Result Fields OciDistributionError
  range = with_header headers (codes "content-range") (range_text start bytes)

  pub range_refused : (e : OciDistributionError) → Matches {A = Fields} is_memory (Err e) range → Matches {A = Fields} is_memory (Err e) (with_fields (Chunk start bytes) headers)
  range_refused e says = says_first is_memory e (range >>= with_length bytes) (with_type octet_stream) (says_first is_memory e range (with_length bytes) says)

  pub length_refused : (e : OciDistributionError) (ranged : Fields) → Matches is_memory (Ok ranged) range → Matches {A = Fields} is_memory (Err e) (with_length bytes ranged) → Matches {A = Fields} is_memory (Err e) (with_fields (Chunk start bytes) headers)
  length_refused e ranged is says = says_first is_memory e (range >>= with_length bytes) (with_type octet_stream) (rw is says)

  pub type_said : (r : Result Fields OciDistributionError) (ranged sized : Fields) → Matches is_memory (Ok ranged) range → Matches is_memory (Ok sized) (with_length bytes ranged) → Matches is_memory r (with_type octet_stream sized) → Matches is_memory r (with_fields (Chunk start bytes) headers)
  type_said r ranged sized is sized_is says = says_next is_memory (range >>= with_length bytes) sized (with_type octet_stream) r (rw is sized_is) says

-- and of a whole blob
pub whole_said : (bytes : List ℕ) (headers : Fields) (r : Result Fields OciDistributionError) (sized : Fields) → Matches is_memory (Ok sized) (with_length bytes headers) → Matches is_memory r (with_type octet_stream sized) → Matches is_memory r (with_fields (Whole bytes) headers)
whole_said bytes headers r sized is says = says_next is_memory (with_length bytes headers) sized (with_type octet_stream) r is says
