-- How the output was written.
use Rattle.std.specs.Prelude.{◌≡◌, true, false}
use Rattle.json_values.specs.Counts.{Increased, Unchanged}
use Rattle.byte_streams.specs.SinkState.{SinkState, Adds, AddsProperPrefix}
use Rattle.pulled_cases.specs.declared.report.Report.{Report}
use Rattle.pull_run.specs.declared.status.Status.{Status}
use Rattle.pull_run.specs.declared.status.Status.TheVariants as status

-- by the status; the sink's fault count increases if it failed, and is unchanged otherwise
abbrev pub Puts : Status → Report → SinkState → SinkState → Type 0
Puts status.Done made before after =
    (made.refused ≡ false) × Adds made.bytes before after × Unchanged before.faults after.faults
Puts status.Refused made before after =
    (made.refused ≡ true) × Adds made.bytes before after × Unchanged before.faults after.faults
Puts status.SinkFault made before after =
    AddsProperPrefix made.bytes before after × Increased before.faults after.faults
Puts status.WantOfMemory made before after =
    AddsProperPrefix made.bytes before after × Unchanged before.faults after.faults
Puts other made before after = ⊥
