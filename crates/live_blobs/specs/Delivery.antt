-- What is sent after a pull of blobs.
use Rattle.std.specs.Prelude.{◌≡◌, ◌⊎◌, ℕ, List, [], ◌∷◌, Result, Ok, Err, codes}
use Rattle.std.specs.Str.{IsUtf8}
use Rattle.engine_terms.specs.declared.error.OciDistributionError.{OciDistributionError}
use Rattle.live_host.specs.Heads.{refused_head}
use Rattle.live_host.specs.HostErrors.{SendsPrefix, TellCause}
use Rattle.live_host.specs.Wire.{Wire, SendsFrame}
use Rattle.live_host.specs.declared.streams.HostError.{HostError}
use Rattle.live_host.specs.declared.streams.HostError.TheVariants as host
use Rattle.live_pull.specs.declared.status.Status.{Status}
use Rattle.pull_report.specs.Prints.{distribution_print}
use Rattle.pull_report.specs.Words.{line}
use Rattle.live_blobs.specs.Ends.{DeliversBy}
use Rattle.live_blobs.specs.Heads.{stood_head}

-- the line of an error
abbrev pub refused_line : OciDistributionError → List ℕ
refused_line e = line (codes "refused" ∷ distribution_print e ∷ [])

-- the line, or nothing if it is not UTF-8
abbrev pub IsReport : OciDistributionError → List ℕ → Type 0
IsReport e report = (report ≡ refused_line e) ⊎ ((IsUtf8 (refused_line e) → ⊥) × (report ≡ []))

-- an error was sent
abbrev pub RefusalTold : OciDistributionError → Wire → Wire → Type 0
RefusalTold e old new = (report : List ℕ) × IsReport e report × SendsFrame (refused_head report) [] old new

-- the error, if there is one
abbrev pub ErrorTold : Result Unit OciDistributionError → Wire → Wire → Type 0
ErrorTold (Ok u) old new = new ≡ old
ErrorTold (Err e) old new = RefusalTold e old new

-- these digests were sent, and then the error, if there is one
abbrev pub BlobsTold : List (List ℕ) → Result Unit OciDistributionError → Wire → Wire → Type 0
BlobsTold digests r old new =
    (between : Wire) × SendsFrame (stood_head digests) [] old between × ErrorTold r between new

-- ---- not to its end

-- why an error was not sent
abbrev pub RefusalCut : OciDistributionError → HostError → Wire → Wire → Type 0
RefusalCut e host.Broken old new = ⊥
RefusalCut e host.Unwritten old new =
    (report : List ℕ) × IsReport e report × SendsPrefix (refused_head report, []) old new
RefusalCut e host.WantOfMemory old new = Unit {0}

-- why the error was not sent, if there is one
abbrev pub ErrorCut : Result Unit OciDistributionError → HostError → Wire → Wire → Type 0
ErrorCut (Ok u) h old new = ⊥
ErrorCut (Err e) h old new = RefusalCut e h old new

-- why the digests were not sent; or they were, and why the error was not
abbrev pub BlobsCut : List (List ℕ) → Result Unit OciDistributionError → HostError → Wire → Wire → Type 0
BlobsCut digests r h old new = TellCause (stood_head digests, []) h old new
    ⊎ ((between : Wire) × SendsFrame (stood_head digests) [] old between × ErrorCut r h between new)

-- how this result was sent after these digests, or why not
abbrev pub Delivers : List (List ℕ) → Result Unit OciDistributionError → Status → Wire → Wire → Type 0
Delivers digests = DeliversBy (BlobsTold digests) (BlobsCut digests)
