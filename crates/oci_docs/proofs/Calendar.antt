-- The day after and the day before are those of the calendar, so that offsets are added and subtracted.
use Rattle.std.proofs.Common.{◌≡◌, ℕ, ◌+◌, ◌-◌, ◌/◌, ◌%◌, ◌≤◌, Bool, true, false, ◌&&◌, ◌||◌, ◌==◌, nat_lt, nat_le, Option, Some, None, is_none, true≢false, ℤ, pos, refl, sym, ap, subst, ◌∙◌, arith}
use Rattle.std.specs.Prelude.{if◌then◌else◌, unwrap_or}
use Rattle.std.proofs.lemmas.Bool.{leb-true, leb-false, ltb-false, eqb-false}
use Rattle.jiff_core.specs.Calendar.{is_leap_year, days_in_month, day_count}
use Rattle.jiff_core.proofs.CalendarLemmas.{day_count-day, day_count-next_month, day_count-last_of_year, day_count-next_year}
use Rattle.jiff.proofs.SpanFacts.{signed_arith}
use Rattle.oci_docs.specs.Moment.{Moment, is_day, is_clock, checked}
use Rattle.oci_docs.specs.Shift.{or_else, on_day, day_after, minutes_of, at_minute, at_minute_of, later, on_last_day, day_before, earlier}
use Rattle.oci_docs.specs.Instant.{day_number, minute_number}
use Rattle.oci_docs.proofs.Bridge.{IsDayOf, day_told, day_test}

-- ---- days

pub some_days : (y : ℤ) (m : ℕ) → 1 ≤ days_in_month y m
some_days y m = by (m == 2) (is_leap_year y) ((m == 4) || (m == 6) || (m == 9) || (m == 11))
  where
    by : (a b c : Bool) → 1 ≤ (if a then (if b then 29 else 28) else (if c then 30 else 31))
    by true true c = omega arith
    by true false c = omega arith
    by false b true = omega arith
    by false b false = omega arith

pub last_of_month : (m : Moment) → IsDayOf m → is_day (record m { day = m.day + 1 }) ≡ false → m.day ≡ days_in_month (pos m.year) m.month
last_of_month m h past = by (nat_le (m.day + 1) (days_in_month (pos m.year) m.month)) refl
  where
    by : (t : Bool) → nat_le (m.day + 1) (days_in_month (pos m.year) m.month) ≡ t → m.day ≡ days_in_month (pos m.year) m.month
    by true e = absurd (true≢false (sym (day_test (record m { day = m.day + 1 }) (h.0, h.1, omega (arith, signed_arith, leb-true (m.day + 1) (days_in_month (pos m.year) m.month) e))) ∙ past))
    by false e = omega (arith, signed_arith, h.2.1, leb-false (m.day + 1) (days_in_month (pos m.year) m.month) e)

pub last_of_year : (m : Moment) → IsDayOf m → is_day (record m { month = m.month + 1; day = 1 }) ≡ false → m.month ≡ 12
last_of_year m h past = by (nat_le (m.month + 1) 12) refl
  where
    by : (t : Bool) → nat_le (m.month + 1) 12 ≡ t → m.month ≡ 12
    by true e =
        let some = some_days (pos m.year) (m.month + 1) in
        absurd (true≢false (sym (day_test (record m { month = m.month + 1; day = 1 }) (h.0, omega (arith, signed_arith, leb-true (m.month + 1) 12 e), omega (arith, signed_arith, some))) ∙ past))
    by false e = omega (arith, signed_arith, h.1.1, leb-false (m.month + 1) 12 e)

next_day : (m : Moment) → IsDayOf m → day_number (record m { day = m.day + 1 }) ≡ day_number m + 1
next_day m h = omega (arith, day_count-day (pos m.year) m.month m.day (m.day + 1) (omega (arith, signed_arith, h.2.0)) (omega arith))

next_month : (m : Moment) → IsDayOf m → m.day ≡ days_in_month (pos m.year) m.month → day_number (record m { month = m.month + 1; day = 1 }) ≡ day_number m + 1
next_month m h last = omega (arith, last, day_count-next_month (pos m.year) m.month (omega (arith, signed_arith, h.1.0)), day_count-day (pos m.year) m.month 1 m.day (omega arith) (omega (arith, signed_arith, h.2.0)))

new_year : (y : ℕ) → day_count (pos (y + 1)) 1 1 ≡ day_count (pos y) 12 31 + 1
new_year y = omega (arith, day_count-last_of_year (pos y), day_count-next_year (pos y) (pos (y + 1)) (omega (arith, signed_arith)) (omega (arith, signed_arith)))

next_year : (m : Moment) → m.day ≡ days_in_month (pos m.year) m.month → m.month ≡ 12 → day_number (record m { year = m.year + 1; month = 1; day = 1 }) ≡ day_number m + 1
next_year m last december =
    let day : m.day ≡ 31 = last ∙ ap (days_in_month (pos m.year)) december in
    let same : day_count (pos m.year) 12 31 ≡ day_number m = sym (ap (λ x. day_count (pos m.year) x m.day) december ∙ ap (day_count (pos m.year) 12) day) in
    new_year m.year ∙ ap (λ x. x + 1) same

-- ---- the choice

some_is : (x n : Moment) → Some x ≡ Some n → x ≡ n
some_is x n e = ap (λ o. unwrap_or o x) e

pub none_is : (n : Moment) → None ≡ Some n → ⊥
none_is n e = true≢false (ap is_none e)

pub no_day : (day clock : Bool) → clock ≡ true → (day && clock) ≡ false → day ≡ false
no_day true clock is past = absurd (true≢false (sym is ∙ past))
no_day false clock is past = refl

first_of : (P : Moment → Type 0) (a b c : Bool) (x y z n : Moment) → (a ≡ true → P x) → (a ≡ false → P y) → (a ≡ false → b ≡ false → P z)
    → or_else (if a then Some x else None) (or_else (if b then Some y else None) (if c then Some z else None)) ≡ Some n → P n
first_of P true b c x y z n p q r e = subst P (some_is x n e) (p refl)
first_of P false true c x y z n p q r e = subst P (some_is y n e) (q refl)
first_of P false false true x y z n p q r e = subst P (some_is z n e) (r refl refl)
first_of P false false false x y z n p q r e = absurd (none_is n e)

-- a day later, at the same time of day
abbrev IsNext : Moment → Moment → Type 0
IsNext m n = (day_number n ≡ day_number m + 1) × (minutes_of n ≡ minutes_of m)

pub day_after_is_next : (m n : Moment) → IsDayOf m → is_clock m ≡ true → day_after m ≡ Some n → IsNext m n
day_after_is_next m n h clock e =
    let x = record m { day = m.day + 1 } in
    let y = record m { month = m.month + 1; day = 1 } in
    let z = record m { year = m.year + 1; month = 1; day = 1 } in
    first_of (IsNext m) (is_day x && is_clock x) (is_day y && is_clock y) (is_day z && is_clock z) x y z n
    (λ _. (next_day m h, refl))
    (λ past. (next_month m h (last_of_month m h (no_day (is_day x) (is_clock x) clock past)), refl))
    (λ past past_too. (next_year m (last_of_month m h (no_day (is_day x) (is_clock x) clock past)) (last_of_year m h (no_day (is_day y) (is_clock y) clock past_too)), refl))
    e

-- ---- the offset

-- the day of m, at the given minute
abbrev IsAt : Moment → ℕ → Moment → Type 0
IsAt m minutes n = (day_number n ≡ day_number m) × (minutes_of n ≡ minutes)

at_minute_is : (m n : Moment) (minutes : ℕ) → at_minute m minutes ≡ Some n → IsAt m minutes n
at_minute_is m n minutes e = by (is_day x && is_clock x) e
  where
    x : Moment
    x = record m { hour = minutes / 60; minute = minutes % 60 }

    by : (b : Bool) → (if b then Some x else None) ≡ Some n → IsAt m minutes n
    by true e = subst (IsAt m minutes) (some_is x n e) (refl, omega arith)
    by false e = absurd (none_is n e)

at_minute_of_is : (m n : Moment) (minutes : ℕ) (o : Option Moment) → IsDayOf m → is_clock m ≡ true → day_after m ≡ o → at_minute_of o minutes ≡ Some n → (day_number n ≡ day_number m + 1) × (minutes_of n ≡ minutes)
at_minute_of_is m n minutes None h clock same e = absurd (none_is n e)
at_minute_of_is m n minutes (Some d) h clock same e =
    let next = day_after_is_next m d h clock same in
    let at = at_minute_is d n minutes e in
    (at.0 ∙ next.0, at.1)

pub parts_shown : (m : Moment) → checked m ≡ Some m → (is_day m ≡ true) × (is_clock m ≡ true)
parts_shown m shown = by (is_day m) (is_clock m) refl refl shown
  where
    by : (day clock : Bool) → is_day m ≡ day → is_clock m ≡ clock → (if day && clock then Some m else None) ≡ Some m → (is_day m ≡ true) × (is_clock m ≡ true)
    by true true day clock e = (day, clock)
    by true false day clock e = absurd (none_is m e)
    by false b day clock e = absurd (none_is m e)

-- adding minutes
pub later_is_sum : (m n : Moment) (minutes : ℕ) → checked m ≡ Some m → later m minutes ≡ Some n → minute_number n ≡ minute_number m + minutes
later_is_sum m n minutes shown e = by (nat_lt (minutes_of m + minutes) 1440) refl e
  where
    by : (t : Bool) → nat_lt (minutes_of m + minutes) 1440 ≡ t → (if t then at_minute m (minutes_of m + minutes) else at_minute_of (day_after m) (minutes_of m + minutes - 1440)) ≡ Some n → minute_number n ≡ minute_number m + minutes
    by true test e =
        let at = at_minute_is m n (minutes_of m + minutes) e in
        omega (arith, at.0, at.1)
    by false test e =
        let parts = parts_shown m shown in
        let at = at_minute_of_is m n (minutes_of m + minutes - 1440) (day_after m) (day_told m parts.0) parts.1 refl e in
        omega (arith, at.0, at.1, ltb-false (minutes_of m + minutes) 1440 test)

-- ---- the day before

few_days : (y : ℤ) (m : ℕ) → (28 ≤ days_in_month y m) × (days_in_month y m ≤ 31)
few_days y m = by (m == 2) (is_leap_year y) ((m == 4) || (m == 6) || (m == 9) || (m == 11))
  where
    by : (a b c : Bool) → (28 ≤ (if a then (if b then 29 else 28) else (if c then 30 else 31))) × ((if a then (if b then 29 else 28) else (if c then 30 else 31)) ≤ 31)
    by true true c = omega arith
    by true false c = omega arith
    by false b true = omega arith
    by false b false = omega arith

abbrev pub dated : Moment → ℕ → ℕ → ℕ → Moment
dated m year month day = record m { year = year; month = month; day = day }

-- the last day of the month in the calendar
record IsLast (m : Moment) (year month : ℕ) (n : Moment) : Type 0 where
  there : IsDayOf (dated m year month (days_in_month (pos year) month))
  same : n ≡ dated m year month (days_in_month (pos year) month)

last_at : (m n : Moment) (year month day : ℕ) → IsDayOf (dated m year month day) → day ≡ days_in_month (pos year) month → dated m year month day ≡ n → IsLast m year month n
last_at m n year month day h last e = record {
  there = subst (λ (d : ℕ). IsDayOf (dated m year month d)) last h;
  same = sym e ∙ ap (dated m year month) last;
}

last_of_four : (m n : Moment) (year month : ℕ) → is_clock m ≡ true → on_last_day m year month ≡ Some n → IsLast m year month n
last_of_four m n year month clock e = by (is_day (dated m year month 31)) (is_day (dated m year month 30)) (is_day (dated m year month 29)) (is_day (dated m year month 28)) (is_clock m) refl refl refl refl clock e
  where
    by : (a b c d t : Bool) → is_day (dated m year month 31) ≡ a → is_day (dated m year month 30) ≡ b → is_day (dated m year month 29) ≡ c → is_day (dated m year month 28) ≡ d → t ≡ true
        → or_else (if a && t then Some (dated m year month 31) else None) (or_else (if b && t then Some (dated m year month 30) else None) (or_else (if c && t then Some (dated m year month 29) else None) (if d && t then Some (dated m year month 28) else None))) ≡ Some n → IsLast m year month n
    by a b c d false p q r s clock e = absurd (true≢false (sym clock))
    by true b c d true p q r s clock e =
        let h = day_told (dated m year month 31) p in
        last_at m n year month 31 h (omega (arith, signed_arith, h.2.1, (few_days (pos year) month).1)) (some_is _ n e)
    by false true c d true p q r s clock e =
        let h = day_told (dated m year month 30) q in
        last_at m n year month 30 h (last_of_month (dated m year month 30) h p) (some_is _ n e)
    by false false true d true p q r s clock e =
        let h = day_told (dated m year month 29) r in
        last_at m n year month 29 h (last_of_month (dated m year month 29) h q) (some_is _ n e)
    by false false false true true p q r s clock e =
        let h = day_told (dated m year month 28) s in
        last_at m n year month 28 h (last_of_month (dated m year month 28) h r) (some_is _ n e)
    by false false false false true p q r s clock e = absurd (none_is n e)

-- every month of the calendar has a last day
pub first_month : (m : Moment) → IsDayOf m → is_clock m ≡ true → on_last_day m m.year (m.month - 1) ≡ None → m.month ≡ 1
first_month m h clock none = by (nat_le 2 m.month) refl
  where
    x : Moment
    x = dated m m.year (m.month - 1) 28

    some_last : (a b c d : Option Moment) → or_else a (or_else b (or_else c d)) ≡ None → d ≡ None
    some_last None None None d e = e
    some_last None None (Some z) d e = absurd (none_is z (sym e))
    some_last None (Some y) c d e = absurd (none_is y (sym e))
    some_last (Some w) b c d e = absurd (none_is w (sym e))

    no_some : (a t : Bool) → a ≡ true → t ≡ true → (if a && t then Some x else None) ≡ None → ⊥
    no_some true true p q e = none_is x (sym e)
    no_some false t p q e = true≢false (sym p)
    no_some true false p q e = true≢false (sym q)

    by : (t : Bool) → nat_le 2 m.month ≡ t → m.month ≡ 1
    by true e =
        let few = few_days (pos m.year) (m.month - 1) in
        let there = day_test x (h.0, omega (arith, signed_arith, h.1.1, leb-true 2 m.month e), omega (arith, signed_arith, few.0)) in
        absurd (no_some (is_day x) (is_clock m) there clock (some_last (on_day m m.year (m.month - 1) 31) (on_day m m.year (m.month - 1) 30) (on_day m m.year (m.month - 1) 29) (on_day m m.year (m.month - 1) 28) none))
    by false e = omega (arith, signed_arith, h.1.0, leb-false 2 m.month e)

pub first_day : (m : Moment) → IsDayOf m → is_day (record m { day = m.day - 1 }) ≡ false → m.day ≡ 1
first_day m h past = by (nat_le 2 m.day) refl
  where
    by : (t : Bool) → nat_le 2 m.day ≡ t → m.day ≡ 1
    by true e = absurd (true≢false (sym (day_test (record m { day = m.day - 1 }) (h.0, h.1, omega (arith, signed_arith, h.2.1, leb-true 2 m.day e))) ∙ past))
    by false e = omega (arith, signed_arith, h.2.0, leb-false 2 m.day e)

-- a day earlier, at the same time of day
abbrev IsPrevious : Moment → Moment → Type 0
IsPrevious m n = (day_number n + 1 ≡ day_number m) × (minutes_of n ≡ minutes_of m)

previous_day : (m : Moment) → is_day (record m { day = m.day - 1 }) ≡ true → IsPrevious m (record m { day = m.day - 1 })
previous_day m there =
    let x = day_told (record m { day = m.day - 1 }) there in
    let first : 2 ≤ m.day = omega (arith, signed_arith, x.2.0) in
    (omega (arith, first, day_count-day (pos m.year) m.month (m.day - 1) m.day (omega (arith, first)) (omega (arith, first))), refl)

previous_month : (m n : Moment) → m.day ≡ 1 → IsLast m m.year (m.month - 1) n → IsPrevious m n
previous_month m n first last =
    let h = last.there in
    let month : 1 ≤ m.month - 1 = omega (arith, signed_arith, h.1.0) in
    let back : m.month - 1 + 1 ≡ m.month = omega (arith, month) in
    let days = days_in_month (pos m.year) (m.month - 1) in
    let next = rw back at (day_count-next_month (pos m.year) (m.month - 1) month) in
    let within = day_count-day (pos m.year) (m.month - 1) 1 days (omega arith) (omega (arith, signed_arith, h.2.0)) in
    let number : day_count (pos m.year) (m.month - 1) days + 1 ≡ day_count (pos m.year) m.month 1 = omega (arith, next, within) in
    subst (IsPrevious m) (sym last.same) (number ∙ ap (day_count (pos m.year) m.month) (sym first), refl)

previous_year : (m n : Moment) → m.day ≡ 1 → m.month ≡ 1 → 1 ≤ m.year → IsLast m (m.year - 1) 12 n → IsPrevious m n
previous_year m n first january some last =
    let back : m.year - 1 + 1 ≡ m.year = omega (arith, some) in
    let number : day_count (pos m.year) 1 1 ≡ day_count (pos (m.year - 1)) 12 31 + 1 = rw back at (new_year (m.year - 1)) in
    subst (IsPrevious m) (sym last.same) (sym number ∙ sym (ap (λ x. day_count (pos m.year) x m.day) january ∙ ap (day_count (pos m.year) 1) first), refl)

pub day_before_is_previous : (m n : Moment) → IsDayOf m → is_clock m ≡ true → day_before m ≡ Some n → IsPrevious m n
day_before_is_previous m n h clock e = by (is_day x) (is_clock m) refl refl (on_last_day m m.year (m.month - 1)) refl (m.year == 0) refl e
  where
    x : Moment
    x = record m { day = m.day - 1 }

    by : (a t : Bool) → is_day x ≡ a → is_clock m ≡ t → (o : Option Moment) → on_last_day m m.year (m.month - 1) ≡ o → (zero : Bool) → (m.year == 0) ≡ zero
        → or_else (if a && t then Some x else None) (or_else o (if zero then None else on_last_day m (m.year - 1) 12)) ≡ Some n → IsPrevious m n
    by a false p q o s zero z e = absurd (true≢false (sym clock ∙ q))
    by true true p q o s zero z e = subst (IsPrevious m) (some_is x n e) (previous_day m p)
    by false true p q (Some y) s zero z e = previous_month m n (first_day m h p) (last_of_four m n m.year (m.month - 1) clock (s ∙ e))
    by false true p q None s true z e = absurd (none_is n e)
    by false true p q None s false z e = previous_year m n (first_day m h p) (first_month m h clock s) (omega (arith, eqb-false m.year 0 z)) (last_of_four m n (m.year - 1) 12 clock e)

at_minute_of_previous : (m n : Moment) (minutes : ℕ) (o : Option Moment) → IsDayOf m → is_clock m ≡ true → day_before m ≡ o → at_minute_of o minutes ≡ Some n → (day_number n + 1 ≡ day_number m) × (minutes_of n ≡ minutes)
at_minute_of_previous m n minutes None h clock same e = absurd (none_is n e)
at_minute_of_previous m n minutes (Some d) h clock same e =
    let previous = day_before_is_previous m d h clock same in
    let at = at_minute_is d n minutes e in
    (ap (λ x. x + 1) at.0 ∙ previous.0, at.1)

-- subtracting minutes, which adding them undoes
pub earlier_is_difference : (m n : Moment) (minutes : ℕ) → minutes ≤ 1440 → checked m ≡ Some m → earlier m minutes ≡ Some n → minute_number n + minutes ≡ minute_number m
earlier_is_difference m n minutes few shown e = by (nat_le minutes (minutes_of m)) refl e
  where
    by : (t : Bool) → nat_le minutes (minutes_of m) ≡ t → (if t then at_minute m (minutes_of m - minutes) else at_minute_of (day_before m) (minutes_of m + 1440 - minutes)) ≡ Some n → minute_number n + minutes ≡ minute_number m
    by true test e =
        let at = at_minute_is m n (minutes_of m - minutes) e in
        omega (arith, at.0, at.1, leb-true minutes (minutes_of m) test)
    by false test e =
        let parts = parts_shown m shown in
        let at = at_minute_of_previous m n (minutes_of m + 1440 - minutes) (day_before m) (day_told m parts.0) parts.1 refl e in
        omega (arith, few, at.0, at.1)
