-- What the checks of a body against digest texts return.
use Rattle.std.specs.Prelude.{ℕ, Bool, ◌&&◌, ◌||◌, List, [], nat_le, ◌==◌, if◌then◌else◌, bytes_eq, Option, Some, None}
use Rattle.std.specs.Prelude.{Result, Ok, Err}
use Rattle.std.specs.List.{list_all, position_or_len, before_first, after_first}
use Rattle.oci_names.specs.Algorithms.{algorithm_of}
use Rattle.oci_digests.specs.Names.{digest_text}
use Rattle.oci_names.specs.declared.algorithm.Algorithm.{Algorithm}
use Rattle.oci_names.specs.declared.algorithm.Algorithm.TheVariants.{Sha256}
use Rattle.oci_digests.specs.declared.error.DigestError.{DigestError}
use Rattle.oci_digests.specs.declared.error.DigestError.TheVariants.{InvalidHeader, MissingAlgorithm, VerificationError}
use Rattle.std.specs.Prelude.{length, nat_lt, ok_or}
use Rattle.oci_digests.specs.declared.error.DigestError.TheVariants.{UnsupportedAlgorithm}

-- the texts before and after the first colon
abbrev pub parts_of : List ℕ → Option (List ℕ × List ℕ)
parts_of text =
    if nat_lt (position_or_len (λ b. b == 58) text) (length text)
    then Some (before_first (λ b. b == 58) text, after_first (λ b. b == 58) text)
    else None

-- the algorithm that a text of these parts names
abbrev pub named_by : Option (List ℕ × List ℕ) → Result Algorithm DigestError
named_by None = Err MissingAlgorithm
named_by (Some parts) = ok_or (algorithm_of parts.0) (UnsupportedAlgorithm parts.0)

-- the algorithm that a digest text names
abbrev pub named_algorithm : List ℕ → Result Algorithm DigestError
named_algorithm text = named_by (parts_of text)

-- the second result, unless the first one is an error
abbrev pub and_then : {A B : Type 0} → Result A DigestError → (A → Result B DigestError) → Result B DigestError
and_then (Err e) next = Err e
and_then (Ok a) next = next a

-- each byte is a tab, a space or a visible ASCII character
abbrev pub is_header_text : List ℕ → Bool
is_header_text value = list_all (λ b. b == 9 || (nat_le 32 b && nat_le b 126)) value

-- the digest in the value of a digest header: none if it is missing or empty
abbrev pub header_digest : Option (List ℕ) → Result (Option (List ℕ)) DigestError
header_digest None = Ok None
header_digest (Some []) = Ok None
header_digest (Some value) = if is_header_text value then Ok (Some value) else Err (InvalidHeader value)

-- the text, if it is that of the hash of the body by this algorithm
abbrev pub checked_by : Algorithm → List ℕ → List ℕ → Result (List ℕ) DigestError
checked_by a body text =
    if bytes_eq text (digest_text a body) then Ok text else Err (VerificationError text (digest_text a body))

-- the text, if it names the body by the algorithm with which it begins
abbrev pub checked : List ℕ → List ℕ → Result (List ℕ) DigestError
checked body text = and_then (named_algorithm text) (λ a. checked_by a body text)

-- one check if the texts are equal, otherwise the reference's and then the header's
abbrev pub both_checked : List ℕ → List ℕ → List ℕ → Result (List ℕ) DigestError
both_checked body header reference =
    if bytes_eq header reference
    then checked body header
    else and_then (checked body reference) (λ _. checked body header)

-- if both texts have parts, both are checked
abbrev pub both_validated : Option (List ℕ × List ℕ) → Option (List ℕ × List ℕ) → Result (List ℕ) DigestError
    → Result (List ℕ) DigestError
both_validated None reference answer = Err MissingAlgorithm
both_validated (Some header) None answer = Err MissingAlgorithm
both_validated (Some header) (Some reference) answer = answer

-- the digest of the body, by the texts of a header and of a reference
abbrev pub validated : List ℕ → Option (List ℕ) → Option (List ℕ) → Result (List ℕ) DigestError
validated body None None = Ok (digest_text Sha256 body)
validated body (Some header) None = checked body header
validated body None (Some reference) = checked body reference
validated body (Some header) (Some reference) =
    both_validated (parts_of header) (parts_of reference) (both_checked body header reference)
