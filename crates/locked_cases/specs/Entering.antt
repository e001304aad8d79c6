-- The steps from cases to the entries of their images.
use Rattle.std.specs.Prelude.{◌≡◌, true, false, Result, Ok, Err}
use Rattle.oci_names.specs.Reference.{reference_of, whole_text}
use Rattle.registry_calls.specs.Direct.{reference_in}
use Rattle.cosign_chain.specs.declared.image.VerifiedImage.{VerifiedImage}
use Rattle.recorded_case.specs.declared.case.Case.{Case}
use Rattle.pull_lock.specs.Locked.{entry_with, is_text}
use Rattle.pull_lock.specs.declared.lock.Lock.{Lock}
use Rattle.pull_lock.specs.declared.lock.LockEntry.{LockEntry}
use Rattle.locked_cases.specs.Input.{whole_of}
use Rattle.locked_cases.specs.Locks.{HasEntry, HasCause, HaveEntries, RefusesCase}
use Rattle.locked_cases.specs.declared.input.LockInput.{LockInput}
use Rattle.locked_cases.specs.declared.lock.Asked.{Asked}
use Rattle.locked_cases.specs.declared.refused.Cause.TheVariants.{NotText}
use Rattle.locked_cases.specs.declared.refused.Refused.{Refused}

-- the parts of the case that its entry has
pub record AsksFor (case : Case) (asked : Asked) : Type 0 where
  pub whole : asked.whole ≡ whole_of case
  pub image : reference_of case.reference ≡ Ok (reference_in asked.image)
  pub accepted : asked.accepted ≡ case.accepted

-- the entry of an image, or its refusal if it is not UTF-8
abbrev pub Enters : Asked → VerifiedImage → Result LockEntry Refused → Type 0
Enters asked found (Ok e) =
    (is_text found ≡ true) × (e ≡ entry_with (whole_text (reference_in asked.image)) asked.accepted found)
Enters asked found (Err r) = (is_text found ≡ false) × (r ≡ record { image = asked.whole; cause = NotText })

-- the entry of a case, or its refusal
abbrev pub EntersCase : Case → Result LockEntry Refused → Type 0
EntersCase case (Ok e) = HasEntry case e
EntersCase case (Err r) = (r.image ≡ whole_of case) × HasCause case r.cause

-- the entries of all cases, or the refusal of the first one that has none
abbrev pub EntersAll : LockInput → Result Lock Refused → Type 0
EntersAll input (Ok lock) = HaveEntries input.cases lock.entries
EntersAll input (Err r) = RefusesCase input.cases r
