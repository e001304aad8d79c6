-- The output of `lockcheck`.
use Rattle.std.specs.Prelude.{◌≡◌, ℕ, true, false, List, [], ◌∷◌, Result, Ok, Err, codes}
use Rattle.json_values.specs.Canon.{quoted_text}
use Rattle.pull_report.specs.Words.{line}
use Rattle.recorded_case.specs.Policy.{meaning_of}
use Rattle.recorded_case.specs.declared.case.Case.{Case}
use Rattle.pulled_cases.specs.declared.report.Report.{Report}
use Rattle.pull_lock.specs.Files.{ReadsLock}
use Rattle.pull_lock.specs.Locked.{Locked, Judges}
use Rattle.pull_lock.specs.declared.lock.Lock.{Lock}
use Rattle.pull_lock.specs.declared.checking.LockVerdict.{LockVerdict}
use Rattle.pull_lock.specs.declared.checking.LockVerdict.TheVariants.{Holds, Fails}
use Rattle.pull_lock.specs.declared.error.LockError.{LockError}
use Rattle.pull_lock.specs.declared.error.LockError.TheVariants as error
use Rattle.locked_cases.specs.declared.input.CheckInput.{CheckInput}

-- the name of an error's variant
abbrev pub error_print : LockError → List ℕ
error_print error.NotText = codes "NotText"
error_print error.Order = codes "Order"
error_print error.Unreadable = codes "Unreadable"
error_print error.NotCanonical = codes "NotCanonical"
error_print error.WantOfMemory = codes "WantOfMemory"

abbrev pub verdict_report : LockVerdict → Report
verdict_report Holds = record { bytes = line (codes "lock holds" ∷ []); refused = false }
verdict_report (Fails image) = record { bytes = line (codes "lock fails" ∷ quoted_text image ∷ []); refused = true }

abbrev pub error_report : LockError → Report
error_report e = record { bytes = line (codes "lock refused" ∷ error_print e ∷ []); refused = true }

-- the line of the verdict on a lock under the case's policy, tables, keys of logs and platform
pub record PrintsVerdict (case : Case) (lock : Lock) (made : Report) : Type 0 where
  pub verdict : LockVerdict
  pub judges : Judges (Locked (meaning_of case) case.platform) lock.entries verdict
  pub line : made ≡ verdict_report verdict

-- the line of a lock that was read, or of why none was
abbrev pub Prints : CheckInput → Result Lock LockError → Report → Type 0
Prints input (Ok lock) made = PrintsVerdict input.case lock made
Prints input (Err e) made = ¬ (e ≡ error.WantOfMemory) × (made ≡ error_report e)

-- what is read from the file, and the line of it
pub record ChecksLock (input : CheckInput) (made : Report) : Type 0 where
  pub read : Result Lock LockError
  pub reads : ReadsLock input.lock read
  pub prints : Prints input read made
