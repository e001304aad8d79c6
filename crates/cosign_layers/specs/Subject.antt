-- Subjects and issuers of certificates.
use Rattle.std.specs.Prelude.{ℕ, List, Bool, true, false, bytes_eq, Option, Some, None}

-- there is a string, and it is this one
abbrev pub is_text : List ℕ → Option (List ℕ) → Bool
is_text text None = false
is_text text (Some found) = bytes_eq found text

-- the issuer is this one, if one is required
abbrev pub has_issuer : Option (List ℕ) → Option (List ℕ) → Bool
has_issuer None found = true
has_issuer (Some issuer) found = is_text issuer found
