-- What the core does, from the first frame on.
use Rattle.std.specs.Prelude.{◌≡◌, ◌⊎◌, []}
use Rattle.byte_streams.specs.Source.{SourceState}
use Rattle.live_host.specs.Heads.{begin_head}
use Rattle.live_host.specs.Wire.{Wire, SendsAndReceives}
use Rattle.live_admit.specs.Served.{Serves as ReviewsServe}
use Rattle.live_blobs.specs.Ends.{EndsBy}
use Rattle.live_blobs.specs.LiveBlobs.{LiveBlobs, LiveBlobsCut}
use Rattle.live_blobs.specs.CarryEnds.{CarryEnds}
use Rattle.live_check.specs.Checked.{Checked, CheckedCut}
use Rattle.live_check.specs.Ends.{EndsChecked}
use Rattle.live_copy.specs.Course.{CopyEnds}
use Rattle.live_pull.specs.Decided.{LiveDocumentsCut}
use Rattle.live_pull.specs.LiveDocuments.{LiveDocuments}
use Rattle.live_check.specs.LockChecked.{LockChecked, LockCheckedCut}
use Rattle.live_pull.specs.Live.{Ends, Live, LiveCut}
use Rattle.live_pull.specs.Parts.{FirstCause}
use Rattle.live_pull.specs.declared.status.Status.{Status}
use Rattle.roksnaep_core.specs.First.{first_of}
use Rattle.roksnaep_core.specs.declared.first.FirstFrame.{FirstFrame}
use Rattle.roksnaep_core.specs.declared.first.FirstFrame.TheVariants as first

-- how that which a first frame asks for ends; what is no carry leaves the second source as it was
abbrev pub Serves : FirstFrame → Status → SourceState → SourceState → Wire → Wire → Type 0
Serves (first.Image settings) s before after old new =
    (after ≡ before) × Ends (λ r. Live settings r old new) (λ e. LiveCut settings e old new) s
Serves (first.Documents settings) s before after old new =
    (after ≡ before) × Ends (λ r. LiveDocuments settings r old new) (λ e. LiveDocumentsCut settings e old new) s
Serves (first.Lock settings) s before after old new =
    (after ≡ before)
    × EndsChecked (λ held. LockChecked settings held old new) (λ e. LockCheckedCut settings e old new) s
Serves (first.Blobs settings) s before after old new =
    (after ≡ before) × EndsBy (λ r. LiveBlobs settings r old new) (λ e. LiveBlobsCut settings e old new) s
Serves (first.Copy settings) s before after old new = (after ≡ before) × CopyEnds settings s old new
Serves (first.Carry settings) s before after old new = CarryEnds settings s before after old new
Serves (first.Check settings) s before after old new =
    (after ≡ before) × EndsChecked (λ held. Checked settings held old new) (λ e. CheckedCut settings e old new) s
Serves (first.Admit settings) s before after old new =
    (after ≡ before) × ReviewsServe settings.rules settings.reviews s old new

-- a first frame was received, and what it asks for ended with this status
abbrev pub FirstServed : Status → SourceState → SourceState → Wire → Wire → Type 0
FirstServed s before after old new = (frame : FirstFrame) × (begun : Wire)
    × SendsAndReceives begin_head [] first_of frame old begun × Serves frame s before after begun new

-- what a status means: of what a first frame asks for; or why none was received, and the second source is as it was
abbrev pub CoreMeans : Status → SourceState → SourceState → Wire → Wire → Type 0
CoreMeans s before after old new =
    FirstServed s before after old new ⊎ ((after ≡ before) × FirstCause first_of s old new)
