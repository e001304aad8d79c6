use Rattle.std.proofs.Common.{◌≡◌, ◌<◌, List, ℕ, [], ◌∷◌, Some, slice_get, length, get_or, ap, ◌∙◌, arith}
use Rattle.std.proofs.lemmas.Str.{IsCharBoundary-after_ascii}
use Rattle.oci_auth.proofs.grammar.after_byte.Goals as goal

first_is : (text : List ℕ) (b byte : ℕ) → Some b ≡ slice_get text 0 → b ≡ byte → byte < 128 → (0 < length text) × (get_or text 0 0 < 128)
first_is [] b byte is same small = cc is
first_is (x ∷ text) b byte is same small = let one : b ≡ x = cc is in (omega arith, omega (arith, one, same, small))

pub range_from-requires : goal.range_from-requires
range_from-requires c _ =
    let first = first_is c.args.text.now c.in-Some.first.now c.args.byte (c.in-Some.ensures.value ∙ ap (λ bytes. slice_get bytes 0) c.as_bytes.ensures.value) c.if-first-byte.true c.requires in
    IsCharBoundary-after_ascii c.args.text.now 0 c.utf8.text first.0 first.1
