-- The bytes of each class.
use Rattle.std.specs.Prelude.{ℕ, ◌==◌, Bool, ◌&&◌, not}
use Rattle.oci_auth.specs.declared.grammar.Class.{Class}
use Rattle.oci_auth.specs.declared.grammar.Class.TheVariants.{Blank, Token, Plain}
use Rattle.oci_auth.specs.Grammar.{is_blank_byte, is_token_byte}

abbrev pub has : Class → ℕ → Bool
has Blank = is_blank_byte
has Token = is_token_byte
has Plain = λ b. not (b == 34) && not (b == 92)
