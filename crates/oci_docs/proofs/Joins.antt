-- Parts of a text, and the steps of the parser.
use Rattle.std.proofs.Common.{◌≡◌, ℕ, ◌≤◌, List, ◌++◌, length, drop, Option, Some, refl, sym, ap, ◌∙◌, append_assoc}
use Rattle.std.proofs.lemmas.Bool.{le-ltb}
use Rattle.json_tables.specs.Reading.{◌>>=◌}
use Rattle.oci_docs.specs.Moment.{Moment}
use Rattle.oci_docs.specs.Reader.{fraction_length, nanoseconds, civil_of, in_utc, moment_of}
use Rattle.oci_docs.specs.Offset.{Offset, offset_of}

-- three parts are appended one after another
pub joined3 : (a b c d x y z : List ℕ) → b ≡ a ++ x → c ≡ b ++ y → d ≡ c ++ z → d ≡ a ++ (x ++ (y ++ z))
joined3 a b c d x y z first second third = third ∙ ap (λ t. t ++ z) (second ∙ ap (λ t. t ++ y) first) ∙ append_assoc (a ++ x) y z ∙ append_assoc a x (y ++ z)

-- the result of parsing, once the fraction and the civil time are parsed
pub moment_by : (text : List ℕ) (k n : ℕ) (civil : Moment) (o : Option Offset) (r : Option Moment) → 20 ≤ length text → Some k ≡ fraction_length (drop 19 text) → n ≡ nanoseconds (drop 19 text)
    → Some civil ≡ civil_of n text → o ≡ offset_of (drop k (drop 19 text)) → r ≡ (o >>= λ offset. in_utc offset civil) → r ≡ moment_of text
unfolding moment_of
moment_by text k n civil o r long fraction nanos shown offset then =
    let test = le-ltb (length text) 20 long in
    let civil_shown : civil_of (nanoseconds (drop 19 text)) text ≡ Some civil = sym (shown ∙ ap (λ x. civil_of x text) nanos) in
    then ∙ simp (test, sym fraction, civil_shown, sym offset) refl
