use Rattle.oci_docs.proofs.Bridge.{checked_unmade, signed_date, signed_clock, false_true}
use Rattle.oci_docs.proofs.time.Time.from_parts.Goals as goal

pub returns-in-Err : goal.returns-in-Err
returns-in-Err c =
    let x = c.args in
    let date = c.requires.date in
    let clock = c.requires.clock in
    checked_unmade (record { year = x.year; month = x.month; day = x.day; hour = x.hour; minute = x.minute; second = x.second; nanosecond = x.nanosecond })
    (λ both. false_true (c.in-Err.ensures.succeeds.1 (signed_date x.year x.month x.day date.0 date.1 date.2 both.0, signed_clock x.hour x.minute x.second x.nanosecond clock.0 clock.1 clock.2 clock.3 both.1)))
