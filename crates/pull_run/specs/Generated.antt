-- The output of `gen`: the lines of a pull of the generated image over its shelf.
use Rattle.std.specs.Prelude.{◌≡◌, ◌⊎◌, ℕ, false, List, [], ◌∷◌, ◌++◌, Some, Result, Ok, Err, codes, decimal, length}
use Rattle.json_values.specs.Counts.{Increased, Unchanged}
use Rattle.byte_streams.specs.SinkState.{SinkState, Adds, AddsProperPrefix}
use Rattle.oci_transport.specs.Link.{Link}
use Rattle.oci_transport.specs.declared.message.Exchange.{Exchange}
use Rattle.oci_link.specs.State.{answering}
use Rattle.byte_streams.specs.Source.{SourceState}
use Rattle.cosign_chain.specs.declared.image.VerifiedImage.{VerifiedImage}
use Rattle.cosign_rows.specs.declared.refusal.PullRefusal.{PullRefusal}
use Rattle.pull_generated.specs.Shelf.{generated_shelf}
use Rattle.pull_generated.specs.Terms.{PullsGenerated}
use Rattle.pull_report.specs.Words.{line}
use Rattle.pulled_cases.specs.declared.report.Report.{Report}
use Rattle.pull_run.specs.declared.status.Status.{Status}
use Rattle.pull_run.specs.declared.status.Status.TheVariants as status

-- the number of requests, the number of layers of the image, and its digest
abbrev pub generated_lines : ℕ → VerifiedImage → List ℕ
generated_lines requests image =
    line (codes "requests" ∷ decimal requests ∷ [])
    ++ line (codes "layers" ∷ decimal (length image.layers) ∷ [])
    ++ line (codes "ok" ∷ image.digest ∷ [])

-- the output of a pull; nothing if it returned no image
abbrev pub WritesGenerated : ℕ → Result VerifiedImage PullRefusal → Report → Type 0
WritesGenerated requests (Ok image) made =
    (made.bytes ≡ generated_lines requests image) × (made.refused ≡ false)
WritesGenerated requests (Err refusal) made = ⊥

-- A new transport of the generated shelf served the pull of this image, whose lines these are.
pub record Generated (n : ℕ) (made : Report) : Type 0 where
  pub before : Link
  pub answers : before.answers ≡ Some (answering (generated_shelf n))
  pub untold : before.told ≡ Some []
  pub after : Link
  pub asked : List Exchange
  pub told : after.told ≡ Some asked
  pub image : VerifiedImage
  pub pulled : PullsGenerated n before after (Ok image)
  pub written : made.bytes ≡ generated_lines (length asked) image
  pub refused_is : made.refused ≡ false

-- the output was written whole, or a proper prefix of it
abbrev pub PutsGenerated : ℕ → (List ℕ → SinkState → SinkState → Type 0) → SinkState → SinkState → Type 0
PutsGenerated n Out before after = (made : Report) × Generated n made × Out made.bytes before after

-- what the status means; nothing is read, and nothing was written unless it says so
abbrev pub GeneratedStatusMeans : ℕ → Status → SourceState → SourceState → SinkState → SinkState → Type 0
GeneratedStatusMeans n status.Done old new before after =
    (new ≡ old) × PutsGenerated n Adds before after × Unchanged before.faults after.faults
GeneratedStatusMeans n status.SinkFault old new before after =
    (new ≡ old) × PutsGenerated n AddsProperPrefix before after × Increased before.faults after.faults
GeneratedStatusMeans n status.WantOfMemory old new before after =
    (new ≡ old)
    × ((after ≡ before) ⊎ (PutsGenerated n AddsProperPrefix before after × Unchanged before.faults after.faults))
GeneratedStatusMeans n other old new before after = ⊥
