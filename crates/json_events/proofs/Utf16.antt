-- How UTF-16 units are computed, and that they distinguish names.
use Rattle.std.proofs.Common.{◌≡◌, ℕ, ◌+◌, ◌-◌, ◌/◌, ◌%◌, ◌<◌, ◌≤◌, ◌⊎◌, Bool, true, false, ◌&&◌, List, [], ◌∷◌, ◌++◌, map, flat_map, refl, sym, ap, ◌∙◌, append_assoc, append-nil, IsUtf8, length, get_or, Some, arith}
use Rattle.std.proofs.lemmas.Bool.{cases_lt}
use Rattle.std.proofs.lemmas.Str.{chars_past_char, encodes-chars, scalars-chars, utf16_chars-nil, utf16_chars_lone, utf16_chars_pair}
use Rattle.std.proofs.str.Utf16.{IsPair, one_unit, two_units, lone_unit_char_low, lone_unit_char_high}
use Rattle.std.specs.Char.Utf16.{utf16_chars, surrogate_pair_char}
use Rattle.std.specs.Str.{encode_utf8_all}
use lib.Utf8.{scalar, scalars, scalar_cases}
use mathlib.Core.Logic.{⊎_elim}
use Rattle.std.proofs.lemmas.List.Concat.{flat_map-cons}
use Rattle.std.proofs.StrCases.{chars_of_empty}
use Rattle.std.specs.Char.{encode_utf8}
use Rattle.std.specs.Char.Escape.{encode_utf16}
use Rattle.std.specs.Str.{chars}
use Rattle.json_events.specs.Units.{units}

pub units_past_char : (bs rest : List ℕ) (c : ℕ) → IsUtf8 bs → bs ≡ encode_utf8 c ++ rest → units bs ≡ encode_utf16 c ++ units rest
unfolding units
units_past_char bs rest c text parts = ap (flat_map encode_utf16) (chars_past_char bs rest c text parts) ∙ flat_map-cons encode_utf16 c (chars rest)

pub units_of_empty : (bs : List ℕ) → length bs ≡ 0 → units bs ≡ []
unfolding units
units_of_empty bs none = ap (flat_map encode_utf16) (chars_of_empty bs none)

-- one more character was read from the rest
pub units_more : (all made bs rest : List ℕ) (c : ℕ) → IsUtf8 bs → bs ≡ encode_utf8 c ++ rest → made ++ units bs ≡ all → (made ++ encode_utf16 c) ++ units rest ≡ all
units_more all made bs rest c text parts so = append_assoc made (encode_utf16 c) (units rest) ∙ ap (λ us. made ++ us) (sym (units_past_char bs rest c text parts)) ∙ so

pub units_all : (all made bs : List ℕ) → length bs ≡ 0 → made ++ units bs ≡ all → made ≡ all
units_all all made bs none so = sym (append-nil made) ∙ ap (λ us. made ++ us) (sym (units_of_empty bs none)) ∙ so

lone_scalar : (c : ℕ) (us : List ℕ) → scalar c ≡ true → c < 0x1_0000 → utf16_chars (c ∷ us) ≡ Some c ∷ utf16_chars us
lone_scalar c us is below =
    let sides = scalar_cases c is in
    let lone : ¬ (IsPair c (get_or us 0 0)) = λ pair. ⊎_elim (λ low. absurd (omega (arith, pair.0, low))) (λ high. absurd (omega (arith, pair.1, high.0))) sides in
    utf16_chars_lone c us lone ∙ ap (λ o. o ∷ utf16_chars us) (⊎_elim (λ low. lone_unit_char_low c low) (λ high. lone_unit_char_high c high.0) sides)

pair_scalar : (c : ℕ) (us : List ℕ) → scalar c ≡ true → 0x1_0000 ≤ c → utf16_chars ((0xD800 + (c - 0x1_0000) / 0x400) ∷ (0xDC00 + (c - 0x1_0000) % 0x400) ∷ us) ≡ Some c ∷ utf16_chars us
pair_scalar c us is from =
    let top : c < 1114112 = ⊎_elim (λ low. omega (arith, low)) (λ high. high.1) (scalar_cases c is) in
    let pair : IsPair (0xD800 + (c - 0x1_0000) / 0x400) (0xDC00 + (c - 0x1_0000) % 0x400) = (omega arith, omega arith, omega arith, omega arith) in
    let same : surrogate_pair_char (0xD800 + (c - 0x1_0000) / 0x400) (0xDC00 + (c - 0x1_0000) % 0x400) ≡ c = omega arith in
    utf16_chars_pair _ _ us pair ∙ ap (λ d. Some d ∷ utf16_chars us) same

one_scalar : (c : ℕ) (us : List ℕ) → scalar c ≡ true → (c < 0x1_0000) ⊎ (0x1_0000 ≤ c) → utf16_chars (encode_utf16 c ++ us) ≡ Some c ∷ utf16_chars us
one_scalar c us is side = ⊎_elim
    (λ below. ap (λ u. utf16_chars (u ++ us)) (one_unit c below) ∙ lone_scalar c us is below)
    (λ from. ap (λ u. utf16_chars (u ++ us)) (two_units c from) ∙ pair_scalar c us is from) side

both : (a b : Bool) → (a && b) ≡ true → (a ≡ true) × (b ≡ true)
both true b e = (refl, e)
both false b e = cc

spelled : (cs : List ℕ) → scalars cs ≡ true → utf16_chars (flat_map encode_utf16 cs) ≡ map Some cs
spelled [] is = utf16_chars-nil
spelled (c ∷ cs) is =
    let parts = both _ _ is in
    ap utf16_chars (flat_map-cons encode_utf16 c cs) ∙ one_scalar c (flat_map encode_utf16 cs) parts.0 (cases_lt c 0x1_0000) ∙ ap (λ r. Some c ∷ r) (spelled cs parts.1)

unsome : (xs ys : List ℕ) → map Some xs ≡ map Some ys → xs ≡ ys
unsome [] [] e = refl
unsome [] (y ∷ ys) e = cc
unsome (x ∷ xs) [] e = cc
unsome (x ∷ xs) (y ∷ ys) e =
    let heads : Some x ≡ Some y = cc in
    let tails : map Some xs ≡ map Some ys = cc in
    let rest = unsome xs ys tails in
    cc

-- names with the same units are the same
pub same_units : (a b : List ℕ) → IsUtf8 a → IsUtf8 b → units a ≡ units b → a ≡ b
unfolding units
same_units a b text other same =
    let letters = unsome (chars a) (chars b) (sym (spelled (chars a) (scalars-chars a text)) ∙ ap utf16_chars same ∙ spelled (chars b) (scalars-chars b other)) in
    sym (encodes-chars a text) ∙ ap encode_utf8_all letters ∙ encodes-chars b other
