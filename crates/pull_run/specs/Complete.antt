-- Which cases end with 0: those whose registry is a shelf that has the image, signed as the policy requires.
use Rattle.std.specs.Prelude.{◌≡◌, ◌≤◌, ◌⊎◌, ℕ, List, length, Some, Ok}
use Rattle.json_values.specs.Counts.{Increased}
use Rattle.byte_streams.specs.SinkState.{SinkState}
use Rattle.byte_streams.specs.Source.{SourceState}
use Rattle.oci_link.specs.declared.shelf.Shelf.{Shelf}
use Rattle.oci_names.specs.Reference.{reference_of}
use Rattle.oci_names.specs.declared.reference.Reference.{Reference}
use Rattle.cosign_laws.specs.Shelves.{WideShelf}
use Rattle.recorded_case.specs.Case.{case_in}
use Rattle.recorded_case.specs.Policy.{meaning_of}
use Rattle.recorded_case.specs.declared.case.Case.{Case}
use Rattle.recorded_case.specs.declared.registry.Registry.TheVariants as registries
use Rattle.pull_run.specs.Input.{input_limit}
use Rattle.pulled_cases.specs.Pulls.{settings_of}
use Rattle.pull_run.specs.Word.{word_of}
use Rattle.pull_run.specs.declared.word.Word.TheVariants.{Pull}

-- its registry is a shelf that has the image, and a layer under its signature tag or of one of its referrers stands
-- for it
pub record HasImage (case : Case) : Type 0 where
  pub shelf : Shelf
  pub held : case.registry ≡ registries.Shelf shelf
  pub image : Reference
  pub reads : reference_of case.reference ≡ Ok image
  pub wide : WideShelf (meaning_of case) (settings_of case) image case.auth case.accepted shelf

-- with 0, unless memory ran out, or the source or the sink failed
abbrev pub EndsDone : ℕ → SourceState → SourceState → SinkState → SinkState → Type 0
EndsDone code old new before after =
    (code ≡ 0) ⊎ ((code ≡ 6) ⊎ (((code ≡ 4) × Increased old.faults new.faults)
    ⊎ ((code ≡ 5) × Increased before.faults after.faults)))

-- how the pull of such a case ends
abbrev pub EndsComplete : List (List ℕ) → ℕ → SourceState → SourceState → SinkState → SinkState → Type 0
EndsComplete words code old new before after = (bytes : List ℕ) (case : Case) → word_of words ≡ Some Pull
    → old.left ≡ Some bytes → length bytes ≤ input_limit → case_in bytes ≡ Some case → HasImage case
    → EndsDone code old new before after
