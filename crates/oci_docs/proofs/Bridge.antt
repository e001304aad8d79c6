-- The tests of a moment, and facts about the calendar.
use Rattle.std.proofs.Common.{◌≡◌, ℕ, ◌<◌, ◌≤◌, Bool, true, false, ◌&&◌, Some, None, refl, sym, ap, subst, ◌∙◌, arith, ℤ, to_z, w8, w16, w32, true≢false}
use Rattle.std.specs.Prelude.{pos, unsigned_abs, if◌then◌else◌}
use Rattle.std.proofs.lemmas.Bool.Decides.{nat_tests}
use Rattle.std.proofs.lemmas.Int.{to_z_pos}
use Rattle.jiff_core.specs.Calendar.{IsDate}
use Rattle.jiff_core.specs.Date.{IsYmd}
use Rattle.jiff_core.specs.Time.{IsTime, IsHms}
use Rattle.jiff_core.specs.declared.civil.datetime.DateTime.{DateTime}
use Rattle.oci_docs.specs.Moment.{Moment, is_day, is_clock, checked, moment_at}

abbrev pub IsDayOf : Moment → Type 0
IsDayOf m = IsDate (pos m.year) (pos m.month) (pos m.day)

abbrev pub IsClockOf : Moment → Type 0
IsClockOf m = IsTime (pos m.hour) (pos m.minute) (pos m.second) (pos m.nanosecond)

pub day_test : (m : Moment) → IsDayOf m → is_day m ≡ true
day_test m h = grind (arith, nat_tests, h.0.1, h.1.0, h.1.1, h.2.0, h.2.1)

pub clock_test : (m : Moment) → IsClockOf m → is_clock m ≡ true
clock_test m h = grind (arith, nat_tests, h.0.1, h.1.1, h.2.1, h.3.1)

pub day_told : (m : Moment) → is_day m ≡ true → IsDayOf m
day_told m e = grind (arith, nat_tests, e)

pub clock_told : (m : Moment) → is_clock m ≡ true → IsClockOf m
clock_told m e = grind (arith, nat_tests, e)

-- a moment that is not valid in the calendar and on a clock
pub checked_unmade : (m : Moment) → ((IsDayOf m × IsClockOf m) → ⊥) → None ≡ checked m
checked_unmade m h = by (is_day m) (is_clock m) refl refl
  where
    by : (day clock : Bool) → is_day m ≡ day → is_clock m ≡ clock → None ≡ (if day && clock then Some m else None)
    by true true day clock = absurd (h (day_told m day, clock_told m clock))
    by true false day clock = refl
    by false clock day e = refl

pub same_moment : (m : Moment) (utc : DateTime) → IsYmd (pos m.year) (pos m.month) (pos m.day) utc.date → IsHms (pos m.hour) (pos m.minute) (pos m.second) (pos m.nanosecond) utc.time → moment_at utc ≡ m
same_moment m utc date time = λ i. record {
  year = ap unsigned_abs date.0 i;
  month = ap unsigned_abs date.1 i;
  day = ap unsigned_abs date.2 i;
  hour = ap unsigned_abs time.0 i;
  minute = ap unsigned_abs time.1 i;
  second = ap unsigned_abs time.2 i;
  nanosecond = ap unsigned_abs time.3 i;
}

pub checked_made : (m : Moment) (utc : DateTime) → IsDayOf m → IsClockOf m → moment_at utc ≡ m → Some (moment_at utc) ≡ checked m
checked_made m utc day clock same = ap Some same ∙ sym (ap (λ b. if b then Some m else None) (ap (λ b. b && is_clock m) (day_test m day) ∙ clock_test m clock))

-- the signed numbers that the constructor takes
pub signed_date : (year month day : ℕ) → year ≤ 10000 → month < 100 → day < 100 → IsDate (pos year) (pos month) (pos day) → IsDate (to_z w16 year) (to_z w8 month) (to_z w8 day)
signed_date year month day small_year small_month small_day h =
    let y : to_z w16 year ≡ pos year = to_z_pos w16 year (omega arith) in
    let m : to_z w8 month ≡ pos month = to_z_pos w8 month (omega arith) in
    let d : to_z w8 day ≡ pos day = to_z_pos w8 day (omega arith) in
    subst (λ (x : ℤ). IsDate x (to_z w8 month) (to_z w8 day)) (sym y) (subst (λ (x : ℤ). IsDate (pos year) x (to_z w8 day)) (sym m) (subst (λ (x : ℤ). IsDate (pos year) (pos month) x) (sym d) h))

pub signed_clock : (hour minute second nanosecond : ℕ) → hour < 100 → minute < 100 → second < 100 → nanosecond < 1000000000 → IsTime (pos hour) (pos minute) (pos second) (pos nanosecond) → IsTime (to_z w8 hour) (to_z w8 minute) (to_z w8 second) (to_z w32 nanosecond)
signed_clock hour minute second nanosecond small_hour small_minute small_second small_nanosecond h =
    let a : to_z w8 hour ≡ pos hour = to_z_pos w8 hour (omega arith) in
    let b : to_z w8 minute ≡ pos minute = to_z_pos w8 minute (omega arith) in
    let c : to_z w8 second ≡ pos second = to_z_pos w8 second (omega arith) in
    let d : to_z w32 nanosecond ≡ pos nanosecond = to_z_pos w32 nanosecond (omega arith) in
    subst (λ (x : ℤ). IsTime x (to_z w8 minute) (to_z w8 second) (to_z w32 nanosecond)) (sym a) (subst (λ (x : ℤ). IsTime (pos hour) x (to_z w8 second) (to_z w32 nanosecond)) (sym b) (subst (λ (x : ℤ). IsTime (pos hour) (pos minute) x (to_z w32 nanosecond)) (sym c) (subst (λ (x : ℤ). IsTime (pos hour) (pos minute) (pos second) x) (sym d) h)))

pub false_true : false ≡ true → ⊥
false_true e = true≢false (sym e)
