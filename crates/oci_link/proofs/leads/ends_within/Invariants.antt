use Rattle.std.proofs.Common.{◌≡◌, ◌-◌}
use Rattle.std.specs.Str.{IsUtf8}
use Rattle.oci_link.specs.Leads.{ends_within}
use Rattle.oci_link.proofs.leads.ends_within.Given as goal

abbrev pub invariant-loop-step : goal.invariant-loop-step
invariant-loop-step l = record {
  so : ends_within l.steps l.redirects l.fn.text ≡ ends_within (l.steps - l._step) l.redirects l.text;
  utf8 : IsUtf8 l.text;
}
