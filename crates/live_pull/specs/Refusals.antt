-- How an error is sent.
use Rattle.std.specs.Prelude.{◌≡◌, ◌⊎◌, ℕ, List, [], Bool, Result, Ok, Err}
use Rattle.std.specs.Str.{IsUtf8}
use Rattle.cosign_chain.specs.declared.image.VerifiedImage.{VerifiedImage}
use Rattle.cosign_rows.specs.declared.refusal.PullRefusal.{PullRefusal}
use Rattle.pull_report.specs.Report.{refusal_lines}
use Rattle.live_host.specs.Heads.{refused_head}
use Rattle.live_host.specs.HostErrors.{GiveCause, SendsPrefix}
use Rattle.live_host.specs.Items.{WereTold, image_sent}
use Rattle.live_host.specs.Wire.{Wire, SendsFrame}
use Rattle.live_host.specs.declared.streams.HostError.{HostError}
use Rattle.live_host.specs.declared.streams.HostError.TheVariants as host

-- the lines of an error, or nothing if they are not UTF-8
abbrev pub IsReport : PullRefusal → List ℕ → Type 0
IsReport refusal report = (report ≡ refusal_lines refusal) ⊎ ((IsUtf8 (refusal_lines refusal) → ⊥) × (report ≡ []))

-- an error was sent
abbrev pub RefusalTold : PullRefusal → Wire → Wire → Type 0
RefusalTold refusal old new =
    (report : List ℕ) × IsReport refusal report × SendsFrame (refused_head report) [] old new

-- an image, or a refusal
abbrev pub OutcomeTold : Bool → Result VerifiedImage PullRefusal → Wire → Wire → Type 0
OutcomeTold blobs (Ok v) old new = WereTold (image_sent blobs v) old new
OutcomeTold blobs (Err refusal) old new = RefusalTold refusal old new

-- ---- not to its end

-- why an error was not sent
abbrev pub RefusalCut : PullRefusal → HostError → Wire → Wire → Type 0
RefusalCut refusal host.Broken old new = ⊥
RefusalCut refusal host.Unwritten old new =
    (report : List ℕ) × IsReport refusal report × SendsPrefix (refused_head report, []) old new
RefusalCut refusal host.WantOfMemory old new = Unit {0}

-- why not all of an image was sent, or not its refusal
abbrev pub OutcomeCut : Bool → Result VerifiedImage PullRefusal → HostError → Wire → Wire → Type 0
OutcomeCut blobs (Ok v) e old new = GiveCause (image_sent blobs v) e old new
OutcomeCut blobs (Err refusal) e old new = RefusalCut refusal e old new
