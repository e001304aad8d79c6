-- When the given digests name a body.
use Rattle.std.specs.Prelude.{◌≡◌, ℕ, List, Option, unwrap_or, IfSome}
use Rattle.oci_digests.specs.Names.{Names, digest_text}
use Rattle.oci_names.specs.declared.algorithm.Algorithm.TheVariants.{Sha256}

-- each given digest names the body, and the result is the header's text, else the reference's, else the SHA-256 text
-- of the body
pub record Validates (body : List ℕ) (header reference : Option (List ℕ)) (text : List ℕ) : Type 0 where
  pub header_names : IfSome header (λ h. Names h body)
  pub reference_names : IfSome reference (λ r. Names r body)
  pub answer : text ≡ unwrap_or header (unwrap_or reference (digest_text Sha256 body))

-- no text is a valid result
abbrev pub ValidatesNone : List ℕ → Option (List ℕ) → Option (List ℕ) → Type 0
ValidatesNone body header reference = (text : List ℕ) → Validates body header reference text → ⊥
