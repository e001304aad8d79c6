-- An offset yields no time if and only if it leaves the years 0000 to 9999.
use Rattle.std.proofs.Common.{◌≡◌, ℕ, ◌+◌, ◌-◌, ◌/◌, ◌%◌, ◌<◌, ◌≤◌, Bool, true, false, ◌&&◌, ◌==◌, nat_lt, nat_le, Option, Some, None, true≢false, pos, refl, sym, ap, subst, ◌∙◌, arith}
use Rattle.std.specs.Prelude.{if◌then◌else◌, ⊤}
use Rattle.std.proofs.lemmas.Bool.Decides.{nat_tests}
use Rattle.std.proofs.lemmas.Bool.{leb-true, leb-false, ltb-false, ltb-true, eqb-true, eqb-false, le-ltb}
use Rattle.jiff_core.specs.Calendar.{days_in_month}
use Rattle.jiff.proofs.SpanFacts.{signed_arith}
use Rattle.oci_docs.specs.Moment.{Moment, is_day, is_clock, checked}
use Rattle.oci_docs.specs.Shift.{or_else, on_day, day_after, minutes_of, at_minute, at_minute_of, later, on_last_day, day_before, earlier}
use Rattle.oci_docs.specs.Instant.{IsFirstDay, IsLastDay, IsOutside, IsMoved, MovesMinutes, NoTimeOutside}
use Rattle.oci_docs.specs.Offset.{Offset}
use Rattle.oci_docs.proofs.Bridge.{IsDayOf, day_told, day_test, clock_told, clock_test}
use Rattle.oci_docs.proofs.Calendar.{some_days, last_of_month, last_of_year, none_is, no_day, parts_shown, first_month, first_day, dated, later_is_sum, earlier_is_difference}

-- ---- a valid day, at each minute

both : (a b : Bool) → a ≡ true → b ≡ true → (a && b) ≡ true
both a b p q = ap (λ x. x && b) p ∙ q

both_told : (a b : Bool) → (a && b) ≡ true → (a ≡ true) × (b ≡ true)
both_told true b e = (refl, e)
both_told false b e = absurd (true≢false (sym e))

some_clock : (m : Moment) (k : ℕ) → is_clock m ≡ true → k < 1440 → is_clock (record m { hour = k / 60; minute = k % 60 }) ≡ true
some_clock m k clock small =
    let h = clock_told m clock in
    clock_test (record m { hour = k / 60; minute = k % 60 }) (omega (arith, signed_arith, small), omega (arith, signed_arith), h.2, h.3)

not_none : (m : Moment) (k : ℕ) → is_day m ≡ true → is_clock m ≡ true → k < 1440 → at_minute m k ≡ None → ⊥
not_none m k day clock small e =
    let x = record m { hour = k / 60; minute = k % 60 } in
    none_is x (sym e ∙ ap (λ b. if b then Some x else None) (both (is_day m) (is_clock x) day (some_clock m k clock small)))

-- a moment that is valid in the calendar and on a clock
abbrev Shown : Option Moment → Type 0
Shown None = ⊤
Shown (Some n) = (is_day n && is_clock n) ≡ true

checked_shown : (m : Moment) → Shown (checked m)
checked_shown m = by (is_day m && is_clock m) refl
  where
    by : (b : Bool) → (is_day m && is_clock m) ≡ b → Shown (if b then Some m else None)
    by true e = e
    by false e = tt

or_shown : (o p : Option Moment) → Shown o → Shown p → Shown (or_else o p)
or_shown None p first second = second
or_shown (Some n) p first second = first

unless_shown : (b : Bool) (o : Option Moment) → Shown o → Shown (if b then None else o)
unless_shown true o so = tt
unless_shown false o so = so

day_shown : (m : Moment) (year month day : ℕ) → Shown (on_day m year month day)
day_shown m year month day = checked_shown (dated m year month day)

last_day_shown : (m : Moment) (year month : ℕ) → Shown (on_last_day m year month)
last_day_shown m year month =
    or_shown (on_day m year month 31) (or_else (on_day m year month 30) (or_else (on_day m year month 29) (on_day m year month 28))) (day_shown m year month 31)
    (or_shown (on_day m year month 30) (or_else (on_day m year month 29) (on_day m year month 28)) (day_shown m year month 30)
    (or_shown (on_day m year month 29) (on_day m year month 28) (day_shown m year month 29) (day_shown m year month 28)))

day_after_shown : (m : Moment) → Shown (day_after m)
day_after_shown m =
    let month = on_day m m.year (m.month + 1) 1 in
    let year = on_day m (m.year + 1) 1 1 in
    or_shown (on_day m m.year m.month (m.day + 1)) (or_else month year) (day_shown m m.year m.month (m.day + 1))
    (or_shown month year (day_shown m m.year (m.month + 1) 1) (day_shown m (m.year + 1) 1 1))

day_before_shown : (m : Moment) → Shown (day_before m)
day_before_shown m =
    let month = on_last_day m m.year (m.month - 1) in
    let year = if m.year == 0 then None else on_last_day m (m.year - 1) 12 in
    or_shown (on_day m m.year m.month (m.day - 1)) (or_else month year) (day_shown m m.year m.month (m.day - 1))
    (or_shown month year (last_day_shown m m.year (m.month - 1)) (unless_shown (m.year == 0) (on_last_day m (m.year - 1) 12) (last_day_shown m (m.year - 1) 12)))

no_day_there : (o : Option Moment) (k : ℕ) → Shown o → k < 1440 → at_minute_of o k ≡ None → o ≡ None
no_day_there None k so small e = refl
no_day_there (Some d) k so small e =
    let parts = both_told (is_day d) (is_clock d) so in
    absurd (not_none d k parts.0 parts.1 small e)

-- ---- the last day

unchecked : (m : Moment) → checked m ≡ None → (is_day m && is_clock m) ≡ false
unchecked m e = by (is_day m && is_clock m) e
  where
    by : (b : Bool) → (if b then Some m else None) ≡ None → b ≡ false
    by true e = absurd (none_is m (sym e))
    by false e = refl

neither : (o p : Option Moment) → or_else o p ≡ None → (o ≡ None) × (p ≡ None)
neither None p e = (refl, e)
neither (Some x) p e = absurd (none_is x (sym e))

last_year : (m : Moment) → IsDayOf m → is_day (record m { year = m.year + 1; month = 1; day = 1 }) ≡ false → m.year ≡ 9999
last_year m h past = by (nat_le (m.year + 1) 9999) refl
  where
    by : (t : Bool) → nat_le (m.year + 1) 9999 ≡ t → m.year ≡ 9999
    by true e =
        let some = some_days (pos (m.year + 1)) 1 in
        absurd (true≢false (sym (day_test (record m { year = m.year + 1; month = 1; day = 1 }) (omega (arith, signed_arith, leb-true (m.year + 1) 9999 e), omega (arith, signed_arith), omega (arith, signed_arith, some))) ∙ past))
    by false e = omega (arith, signed_arith, h.0.1, leb-false (m.year + 1) 9999 e)

past : (x : Moment) → checked x ≡ None → is_clock x ≡ true → is_day x ≡ false
past x none clock = no_day (is_day x) (is_clock x) clock (unchecked x none)

no_next : (m : Moment) → IsDayOf m → is_clock m ≡ true → day_after m ≡ None → IsLastDay m
no_next m h clock e =
    let first = neither (on_day m m.year m.month (m.day + 1)) _ e in
    let second = neither (on_day m m.year (m.month + 1) 1) (on_day m (m.year + 1) 1 1) first.1 in
    let day = last_of_month m h (past (record m { day = m.day + 1 }) first.0 clock) in
    let month = last_of_year m h (past (record m { month = m.month + 1; day = 1 }) second.0 clock) in
    let year = last_year m h (past (record m { year = m.year + 1; month = 1; day = 1 }) second.1 clock) in
    (year, month, day ∙ ap (days_in_month (pos m.year)) month)

last_has_none : (m : Moment) → IsLastDay m → day_after m ≡ None
last_has_none m last =
    let same : m ≡ record m { year = 9999; month = 12; day = 31 } = λ i. record m { year = last.0 i; month = last.1 i; day = last.2 i } in
    ap day_after same

-- ---- the first day

no_previous_year : (m : Moment) → IsDayOf m → is_clock m ≡ true → (if m.year == 0 then None else on_last_day m (m.year - 1) 12) ≡ None → m.year ≡ 0
no_previous_year m h clock e = by (m.year == 0) refl e
  where
    x : Moment
    x = dated m (m.year - 1) 12 31

    by : (zero : Bool) → (m.year == 0) ≡ zero → (if zero then None else on_last_day m (m.year - 1) 12) ≡ None → m.year ≡ 0
    by true z e = eqb-true m.year 0 z
    by false z e =
        let some = eqb-false m.year 0 z in
        let there : is_day x ≡ true = day_test x (omega (arith, signed_arith, h.0.1, some), omega (arith, signed_arith), omega (arith, signed_arith)) in
        absurd (true≢false (sym (both (is_day x) (is_clock m) there clock) ∙ unchecked x (neither (on_day m (m.year - 1) 12 31) _ e).0))

no_previous : (m : Moment) → IsDayOf m → is_clock m ≡ true → day_before m ≡ None → IsFirstDay m
no_previous m h clock e =
    let x = record m { day = m.day - 1 } in
    let first = neither (on_day m m.year m.month (m.day - 1)) _ e in
    let second = neither (on_last_day m m.year (m.month - 1)) _ first.1 in
    (no_previous_year m h clock second.1, first_month m h clock second.0, first_day m h (past x first.0 clock))

first_has_none : (m : Moment) → IsFirstDay m → day_before m ≡ None
first_has_none m first =
    let same : m ≡ record m { year = 0; month = 1; day = 1 } = λ i. record m { year = first.0 i; month = first.1 i; day = first.2 i } in
    ap day_before same

-- ---- the laws

later_none : (m : Moment) (k : ℕ) → checked m ≡ Some m → k < 1440 → later m k ≡ None → IsOutside false k m
later_none m k shown small e = by (nat_lt (minutes_of m + k) 1440) refl e
  where
    by : (t : Bool) → nat_lt (minutes_of m + k) 1440 ≡ t → (if t then at_minute m (minutes_of m + k) else at_minute_of (day_after m) (minutes_of m + k - 1440)) ≡ None → IsOutside false k m
    by true test e =
        let parts = parts_shown m shown in
        absurd (not_none m (minutes_of m + k) parts.0 parts.1 (ltb-true (minutes_of m + k) 1440 test) e)
    by false test e =
        let parts = parts_shown m shown in
        let c = clock_told m parts.1 in
        let few : minutes_of m + k - 1440 < 1440 = omega (arith, signed_arith, c.0.1, c.1.1, small) in
        (no_next m (day_told m parts.0) parts.1 (no_day_there (day_after m) (minutes_of m + k - 1440) (day_after_shown m) few e), ltb-false (minutes_of m + k) 1440 test)

earlier_none : (m : Moment) (k : ℕ) → checked m ≡ Some m → k < 1440 → earlier m k ≡ None → IsOutside true k m
earlier_none m k shown small e = by (nat_le k (minutes_of m)) refl e
  where
    by : (t : Bool) → nat_le k (minutes_of m) ≡ t → (if t then at_minute m (minutes_of m - k) else at_minute_of (day_before m) (minutes_of m + 1440 - k)) ≡ None → IsOutside true k m
    by true test e =
        let parts = parts_shown m shown in
        let c = clock_told m parts.1 in
        absurd (not_none m (minutes_of m - k) parts.0 parts.1 (omega (arith, signed_arith, c.0.1, c.1.1)) e)
    by false test e =
        let parts = parts_shown m shown in
        let less = leb-false k (minutes_of m) test in
        (no_previous m (day_told m parts.0) parts.1 (no_day_there (day_before m) (minutes_of m + 1440 - k) (day_before_shown m) (omega (arith, less)) e), less)

not_le : (a b : ℕ) → b < a → nat_le a b ≡ false
not_le a b less = grind (arith, nat_tests, less)

outside_none : (ahead : Bool) (m : Moment) (k : ℕ) → IsOutside ahead k m → (if ahead then earlier m k else later m k) ≡ None
outside_none true m k out =
    ap (λ t. if t then at_minute m (minutes_of m - k) else at_minute_of (day_before m) (minutes_of m + 1440 - k)) (not_le k (minutes_of m) out.1)
    ∙ ap (λ o. at_minute_of o (minutes_of m + 1440 - k)) (first_has_none m out.0)
outside_none false m k out =
    ap (λ t. if t then at_minute m (minutes_of m + k) else at_minute_of (day_after m) (minutes_of m + k - 1440)) (le-ltb (minutes_of m + k) 1440 out.1)
    ∙ ap (λ o. at_minute_of o (minutes_of m + k - 1440)) (last_has_none m out.0)

none_outside : (ahead : Bool) (m : Moment) (k : ℕ) → checked m ≡ Some m → k < 1440 → (if ahead then earlier m k else later m k) ≡ None → IsOutside ahead k m
none_outside true m k shown small e = earlier_none m k shown small e
none_outside false m k shown small e = later_none m k shown small e

pub no_time_outside : NoTimeOutside
no_time_outside offset m shown small = (none_outside offset.0 m offset.1 shown small, outside_none offset.0 m offset.1)

pub moves_minutes : MovesMinutes
moves_minutes offset m n shown small is = by offset.0 is
  where
    by : (ahead : Bool) → (if ahead then earlier m offset.1 else later m offset.1) ≡ Some n → IsMoved ahead offset.1 m n
    by true e = earlier_is_difference m n offset.1 (omega (arith, small)) shown e
    by false e = later_is_sum m n offset.1 shown e
