-- Numbers in decimal digits.
use Rattle.std.proofs.Common.{◌≡◌, ◌&&◌, ◌<◌, ◌^◌, ℕ, Bool, true, false, List, length, get_or, Some, None, Result, Ok, Err, OkIff, IsUtf8, refl, sym, ap, ◌∙◌, arith, nat_le}
use Rattle.std.specs.Prelude.{if◌then◌else◌, nat_lt, decimal}
use Rattle.std.specs.Result.{result_ok}
use Rattle.std.specs.List.{list_all}
use Rattle.std.specs.Str.Parse.{digits_value, ParsesUnsigned}
use Rattle.std.proofs.lemmas.Bool.{leb-true, le-leb, lt-ltb, le-ltb}
use Rattle.std.proofs.lemmas.Fmt.{decimal_nonempty, digits_decimal, digits_value-decimal}
use Rattle.std.proofs.lemmas.List.Folds.{list_all_at}
use Rattle.std.proofs.lemmas.Str.{IsUtf8-from_ascii}
use Rattle.std.proofs.lemmas.Str.Ascii.{IsAscii-from_reads}
use Rattle.std.proofs.lemmas.Str.Parse.{IsDigitsTest, IsNumeralModel, numerals_by_value, parse_digits}
use Rattle.json_values.specs.Decimals.{is_digit, is_decimal, decimal_of, DecimalsRoundTrip}

pub split : (a b : Bool) → (a && b) ≡ true → (a ≡ true) × (b ≡ true)
split true b e = (refl, e)
split false b e = absurd (cc e)

pub joined : (a b : Bool) → a ≡ true → b ≡ true → (a && b) ≡ true
joined true b a e = e
joined false b a e = absurd (cc a)

tells_digits : IsDigitsTest (λ ds. list_all is_digit ds ≡ true)
tells_digits = record {
  empty = refl;
  parts = λ c cs e. let k = split (is_digit c) (list_all is_digit cs) e in let m = split (nat_le 48 c) (nat_le c 57) k.0 in ((leb-true 48 c m.0, leb-true c 57 m.1), k.1);
  more = λ c cs k e. joined (is_digit c) (list_all is_digit cs) (joined (nat_le 48 c) (nat_le c 57) (le-leb 48 c k.0) (le-leb c 57 k.1)) e;
}

pub numeral : IsNumeralModel (λ ds. list_all is_digit ds ≡ true) (digits_value 10)
numeral = numerals_by_value (λ ds. list_all is_digit ds ≡ true) tells_digits

all_digits : (text : List ℕ) → is_decimal text ≡ true → (0 < length text) × (list_all is_digit text ≡ true)
all_digits text e = let k = split (nat_le 1 (length text)) (list_all is_digit text) e in (leb-true 1 (length text) k.0, k.1)

low : (b : ℕ) → is_digit b ≡ true → b < 128
low b h = grind arith

both : (t : Bool) → (t ≡ false → false ≡ true) → t ≡ true
both true h = λ i. true
both false h = h (λ i. false)

-- digits are UTF-8
pub not_utf8 : (text : List ℕ) → is_decimal text ≡ true → (IsUtf8 text → ⊥) → ⊥
not_utf8 text h no_text = no_text (IsUtf8-from_ascii text (IsAscii-from_reads text (length text) (omega arith) (λ k inside.
    low (get_or text k 0) (both _ (λ no_digit. sym (list_all_at _ text k 0 inside no_digit) ∙ (all_digits text h).1)))))

pub not_decimal : (text : List ℕ) → is_decimal text ≡ false → None ≡ decimal_of text
not_decimal text e = sym (ap (λ b. if b && nat_lt (digits_value 10 text) (2 ^ 64) then Some (digits_value 10 text) else None) e)

decimal_is : (text : List ℕ) → is_decimal text ≡ true → decimal_of text ≡ (if nat_lt (digits_value 10 text) (2 ^ 64) then Some (digits_value 10 text) else None)
decimal_is text e = ap (λ b. if b && nat_lt (digits_value 10 text) (2 ^ 64) then Some (digits_value 10 text) else None) e

pub decimal_read : {E : Type 0} (text : List ℕ) (r : Result ℕ E) → is_decimal text ≡ true → ParsesUnsigned 64 10 text r → result_ok r ≡ decimal_of text
decimal_read {E} text r e h = by_result r (parse_digits numeral 64 text r h (all_digits text e).1) ∙ sym (decimal_is text e) where
  by_result : (r : Result ℕ E) → OkIff r ((0 < length text) × (digits_value 10 text < 2 ^ 64)) (digits_value 10 text) → result_ok r ≡ (if nat_lt (digits_value 10 text) (2 ^ 64) then Some (digits_value 10 text) else None)
  by_result (Ok n) k = ap Some k.1 ∙ sym (ap (λ b. if b then Some (digits_value 10 text) else None) (lt-ltb (digits_value 10 text) (2 ^ 64) k.0.1))
  by_result (Err x) k = sym (ap (λ b. if b then Some (digits_value 10 text) else None) (le-ltb (digits_value 10 text) (2 ^ 64) (omega (arith, λ (fits : digits_value 10 text < 2 ^ 64). k ((all_digits text e).0, fits)))))

pub ruleset decimal_rules = (not_utf8, not_decimal, decimal_read)

-- what is written is read
pub round_trip : DecimalsRoundTrip
round_trip n small =
    decimal_is (decimal n) (joined (nat_le 1 (length (decimal n))) (list_all is_digit (decimal n)) (le-leb 1 (length (decimal n)) (decimal_nonempty n small)) (digits_decimal numeral n small))
    ∙ ap (λ m. if nat_lt m (2 ^ 64) then Some m else None) (digits_value-decimal numeral n small)
    ∙ ap (λ b. if b then Some n else None) (lt-ltb n (2 ^ 64) small)
