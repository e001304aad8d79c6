-- Canonical strings have the same escapes as compact ones.
use Rattle.std.proofs.Common.{◌≡◌, ℕ, List, [], ◌∷◌, ◌++◌, flat_map, refl, ap, arith}
use Rattle.std.proofs.lemmas.Bool.Decides.{nat_tests}
use Rattle.json.specs.Print.{escape_byte}
use Rattle.json.specs.Print as json
use Rattle.json_values.specs.Canon.{escaped, quoted_text}

pub escaped-same : (b : ℕ) → escaped b ≡ escape_byte b
unfolding escape_byte
escaped-same b = grind (arith, nat_tests)

pub all_escaped : (bs : List ℕ) → flat_map escape_byte bs ≡ flat_map escaped bs
all_escaped [] = refl
all_escaped (b ∷ bs) = cc (escaped-same b, all_escaped bs)

pub quoted-same : (bs : List ℕ) → json.quoted bs ≡ quoted_text bs
quoted-same bs = ap (λ es. 34 ∷ (es ++ 34 ∷ [])) (all_escaped bs)
