-- A written time parses to the same time.
use Rattle.std.proofs.Common.{◌≡◌, ℕ, suc, ◌+◌, ◌-◌, ◌*◌, ◌/◌, ◌%◌, ◌<◌, ◌≤◌, Bool, true, false, ◌&&◌, ◌==◌, nat_lt, nat_le, List, [], ◌∷◌, ◌++◌, length, drop, Some, None, is_none, true≢false, ◌||◌, ℤ, pos, refl, sym, ap, ◌∙◌, arith}
use Rattle.std.specs.Prelude.{if◌then◌else◌, codes}
use Rattle.std.proofs.lemmas.Bool.Decides.{nat_tests}
use Rattle.std.proofs.lemmas.Bool.{eqb-true, le-ltb, le-leb}
use Rattle.json_tables.specs.Again.{ReadsAgain}
use Rattle.jiff_core.specs.Calendar.{is_leap_year, days_in_month}
use Rattle.jiff.proofs.SpanFacts.{signed_arith}
use Rattle.oci_docs.specs.Moment.{Moment, is_day, is_clock, checked}
use Rattle.oci_docs.specs.Shift.{at_minute, minutes_of}
use Rattle.oci_docs.specs.Reader.{fraction_length, nanoseconds, civil_of, in_utc, moment_of, time_of}
use Rattle.oci_docs.specs.Offset.{offset_of}
use Rattle.oci_docs.specs.Digits.{is_digit, digit_value, two_digits}
use Rattle.oci_docs.proofs.Bridge.{day_told, clock_told}
use Rattle.oci_docs.specs.Writer.{digit, three, date_text, clock_text, fraction_text, moment_text, time_written}

digit_is : (n : ℕ) → is_digit (digit n) ≡ true
unfolding is_digit digit
digit_is n = grind (arith, nat_tests)

digit_counts : (n : ℕ) → digit_value (digit n) ≡ n % 10
unfolding digit
digit_counts n = omega arith

z_is_none : is_digit 90 ≡ false
unfolding is_digit
z_is_none = refl

two_read : (n : ℕ) → two_digits (digit (n / 10)) (digit n) ≡ Some (n % 100)
unfolding two_digits
two_read n =
    let e : n / 10 % 10 * 10 + n % 10 ≡ n % 100 = omega arith in
    simp (digit_is, digit_counts, e)

-- a fraction and `Z` round-trip
record FractionBack (f : List ℕ) (n : ℕ) : Type 0 where
  count : ℕ
  more : ℕ
  long : length (f ++ 90 ∷ []) ≡ suc more
  whole : fraction_length (f ++ 90 ∷ []) ≡ Some count
  nanos : nanoseconds (f ++ 90 ∷ []) ≡ n
  rest : drop count (f ++ 90 ∷ []) ≡ 90 ∷ []

three_sum : (n : ℕ) → n / 100 % 10 * 100 + n / 10 % 10 * 10 + n % 10 ≡ n % 1000
three_sum n = omega arith

sum_3 : (a b c n : ℕ) → a * 100 + b * 10 + c ≡ n → a * 100000000 + (b * 10000000 + (c * 1000000 + 0)) ≡ n * 1000000
sum_3 a b c n h = omega arith

sum_6 : (a b c d e f x y : ℕ) → a * 100 + b * 10 + c ≡ x → d * 100 + e * 10 + f ≡ y
    → a * 100000000 + (b * 10000000 + (c * 1000000 + (d * 100000 + (e * 10000 + (f * 1000 + 0))))) ≡ (x * 1000 + y) * 1000
sum_6 a b c d e f x y h k = omega arith

sum_9 : (a b c d e f g h i x y z : ℕ) → a * 100 + b * 10 + c ≡ x → d * 100 + e * 10 + f ≡ y → g * 100 + h * 10 + i ≡ z
    → a * 100000000 + (b * 10000000 + (c * 1000000 + (d * 100000 + (e * 10000 + (f * 1000 + (g * 100 + (h * 10 + (i * 1 + 0)))))))) ≡ (x * 1000 + y) * 1000 + z
sum_9 a b c d e f g h i x y z p q r = omega arith

parts_3 : (n : ℕ) → n < 1000000000 → n % 1000000 ≡ 0 → n / 1000000 % 1000 * 1000000 ≡ n
parts_3 n small whole = omega arith

parts_6 : (n : ℕ) → n < 1000000000 → n % 1000 ≡ 0 → (n / 1000000 % 1000 * 1000 + n / 1000 % 1000) * 1000 ≡ n
parts_6 n small whole = omega arith

parts_9 : (n : ℕ) → n < 1000000000 → (n / 1000000 % 1000 * 1000 + n / 1000 % 1000) * 1000 + n % 1000 ≡ n
parts_9 n small = omega arith

by_tests : (n : ℕ) (a b c : Bool) → n < 1000000000 → (n == 0) ≡ a → (n % 1000000 == 0) ≡ b → (n % 1000 == 0) ≡ c
    → FractionBack (if a then [] else (if b then codes "." ++ three (n / 1000000) else (if c then codes "." ++ three (n / 1000000) ++ three (n / 1000) else codes "." ++ three (n / 1000000) ++ three (n / 1000) ++ three n))) n
by_tests n true b c small none million thousand = record { count = 0; more = 0; long = refl; whole = refl; nanos = sym (eqb-true n 0 none); rest = refl }
by_tests n false true c small none million thousand =
    let e : n % 1000000 ≡ 0 = eqb-true (n % 1000000) 0 million in
    let k = sum_3 _ _ _ _ (three_sum (n / 1000000)) ∙ parts_3 n small e in
    record { count = 4; more = 4; long = refl; whole = simp (digit_is, z_is_none); nanos = simp (digit_is, digit_counts, z_is_none, k); rest = refl }
by_tests n false false true small none million thousand =
    let e : n % 1000 ≡ 0 = eqb-true (n % 1000) 0 thousand in
    let k = sum_6 _ _ _ _ _ _ _ _ (three_sum (n / 1000000)) (three_sum (n / 1000)) ∙ parts_6 n small e in
    record { count = 7; more = 7; long = refl; whole = simp (digit_is, z_is_none); nanos = simp (digit_is, digit_counts, z_is_none, k); rest = refl }
by_tests n false false false small none million thousand =
    let k = sum_9 _ _ _ _ _ _ _ _ _ _ _ _ (three_sum (n / 1000000)) (three_sum (n / 1000)) (three_sum n) ∙ parts_9 n small in
    record { count = 10; more = 10; long = refl; whole = simp (digit_is, z_is_none); nanos = simp (digit_is, digit_counts, z_is_none, k); rest = refl }

fraction_back : (n : ℕ) → n < 1000000000 → FractionBack (fraction_text n) n
fraction_back n small = by_tests n (n == 0) (n % 1000000 == 0) (n % 1000 == 0) small refl refl refl

record IsSmall (m : Moment) : Type 0 where
  year : m.year < 10000
  month : m.month < 100
  day : m.day < 100
  hour : m.hour < 24
  minute : m.minute < 60
  second : m.second < 60
  nanosecond : m.nanosecond < 1000000000

same_parts : (m : Moment) → IsSmall m
    → m ≡ record { year = m.year / 100 % 100 * 100 + m.year % 100; month = m.month % 100; day = m.day % 100; hour = m.hour % 100; minute = m.minute % 100; second = m.second % 100; nanosecond = m.nanosecond }
same_parts m s =
    let year : m.year ≡ m.year / 100 % 100 * 100 + m.year % 100 = omega (arith, s.year) in
    let month : m.month ≡ m.month % 100 = omega (arith, s.month) in
    let day : m.day ≡ m.day % 100 = omega (arith, s.day) in
    let hour : m.hour ≡ m.hour % 100 = omega (arith, s.hour) in
    let minute : m.minute ≡ m.minute % 100 = omega (arith, s.minute) in
    let second : m.second ≡ m.second % 100 = omega (arith, s.second) in
    λ i. record { year = year i; month = month i; day = day i; hour = hour i; minute = minute i; second = second i; nanosecond = m.nanosecond }

-- the date and the time of day, before any rest
front : Moment → List ℕ → List ℕ
front m rest = date_text m ++ codes "T" ++ clock_text m ++ rest

civil_back : (m : Moment) (rest : List ℕ) → IsSmall m → checked m ≡ Some m → civil_of m.nanosecond (front m rest) ≡ Some m
unfolding front
civil_back m rest s shown = simp two_read (sym (ap checked (same_parts m s)) ∙ shown)

picked : {X : Type 0} (b : Bool) (x y : X) → b ≡ true → (if b then x else y) ≡ x
picked b x y e = ap (λ t. if t then x else y) e

utc_back : (m : Moment) → IsSmall m → checked m ≡ Some m → in_utc (true, 0) m ≡ Some m
utc_back m s shown =
    let hour : (m.hour * 60 + m.minute) / 60 ≡ m.hour = omega (arith, s.minute) in
    let minute : (m.hour * 60 + m.minute) % 60 ≡ m.minute = omega (arith, s.minute) in
    let now : nat_le 0 (minutes_of m) ≡ true = le-leb 0 (minutes_of m) (omega arith) in
    let none_less : minutes_of m - 0 ≡ minutes_of m = omega arith in
    let same : at_minute m (minutes_of m) ≡ checked m = ap checked (λ i. record m { hour = hour i; minute = minute i }) in
    picked (nat_le 0 (minutes_of m)) _ _ now ∙ ap (at_minute m) none_less ∙ same ∙ shown

pieces : (text : List ℕ) (k : ℕ) (m : Moment) → nat_lt (length text) 20 ≡ false → fraction_length (drop 19 text) ≡ Some k → nanoseconds (drop 19 text) ≡ m.nanosecond
    → civil_of m.nanosecond text ≡ Some m → offset_of (drop k (drop 19 text)) ≡ Some (true, 0) → in_utc (true, 0) m ≡ Some m → moment_of text ≡ Some m
unfolding moment_of
pieces text k m long fraction nanos civil offset utc = simp (long, fraction, nanos, civil, offset, utc)

with_fraction : (m : Moment) (f : List ℕ) → IsSmall m → checked m ≡ Some m → FractionBack f m.nanosecond → moment_of (front m (f ++ 90 ∷ [])) ≡ Some m
unfolding front
with_fraction m f s shown back =
    pieces (front m (f ++ 90 ∷ [])) back.count m (le-ltb (length (front m (f ++ 90 ∷ []))) 20 (omega (arith, back.long))) back.whole back.nanos (civil_back m (f ++ 90 ∷ []) s shown) (ap offset_of back.rest) (utc_back m s shown)

days_few : (y : ℤ) (m : ℕ) → days_in_month y m ≤ 31
days_few y m = by (m == 2) (is_leap_year y) ((m == 4) || (m == 6) || (m == 9) || (m == 11))
  where
    by : (a b c : Bool) → (if a then (if b then 29 else 28) else (if c then 30 else 31)) ≤ 31
    by true true c = omega arith
    by true false c = omega arith
    by false b true = omega arith
    by false b false = omega arith

none_some : (m : Moment) → None ≡ Some m → ⊥
none_some m e = true≢false (ap is_none e)

are_small : (m : Moment) → checked m ≡ Some m → IsSmall m
are_small m shown = by (is_day m) (is_clock m) refl refl shown
  where
    by : (day clock : Bool) → is_day m ≡ day → is_clock m ≡ clock → (if day && clock then Some m else None) ≡ Some m → IsSmall m
    by true true day clock e =
        let d = day_told m day in
        let c = clock_told m clock in
        let few = days_few (pos m.year) m.month in
        record { year = omega (arith, signed_arith, d.0.1); month = omega (arith, signed_arith, d.1.1); day = omega (arith, signed_arith, d.2.1, few); hour = omega (arith, signed_arith, c.0.1); minute = omega (arith, signed_arith, c.1.1); second = omega (arith, signed_arith, c.2.1); nanosecond = omega (arith, signed_arith, c.3.1) }
    by true false day clock e = absurd (none_some m e)
    by false clock day c e = absurd (none_some m e)

moment_back : (m : Moment) → checked m ≡ Some m → moment_of (moment_text m) ≡ Some m
unfolding front moment_text
moment_back m shown =
    let s = are_small m shown in
    with_fraction m (fraction_text m.nanosecond) s shown (fraction_back m.nanosecond s.nanosecond)

pub time_again : (m : Moment) → checked m ≡ Some m → ReadsAgain time_of (time_written m) m false
unfolding time_of
time_again m shown = record { reads = moment_back m shown; is_there = refl; plain = λ _. refl }
