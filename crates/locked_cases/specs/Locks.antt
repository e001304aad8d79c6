-- The output of `lock`.
use Rattle.std.specs.Prelude.{◌≡◌, ℕ, true, false, MatchBool, List, [], ◌∷◌, ◌++◌, Result, Ok, Err, ⊤, codes}
use Rattle.json_values.specs.Canon.{quoted_text}
use Rattle.cosign_rows.specs.declared.refusal.PullRefusal.{PullRefusal}
use Rattle.cosign_chain.specs.declared.image.VerifiedImage.{VerifiedImage}
use Rattle.recorded_case.specs.declared.case.Case.{Case}
use Rattle.pull_report.specs.Words.{line, spaced}
use Rattle.pull_report.specs.Prints.{refusal_print}
use Rattle.pulled_cases.specs.Pulls.{PullRecord, Pulled}
use Rattle.pulled_cases.specs.declared.report.Report.{Report}
use Rattle.pull_lock.specs.Files.{IsFileOf}
use Rattle.pull_lock.specs.Locked.{entry_with, is_text}
use Rattle.pull_lock.specs.declared.lock.LockEntry.{LockEntry}
use Rattle.locked_cases.specs.Input.{whole_of}
use Rattle.locked_cases.specs.declared.input.LockInput.{LockInput}
use Rattle.locked_cases.specs.declared.refused.Cause.{Cause}
use Rattle.locked_cases.specs.declared.refused.Cause.TheVariants.{NotText, Pull}
use Rattle.locked_cases.specs.declared.refused.Refused.{Refused}

-- a pull of the case by a new client gave this result, with all that `Pulled` says of it
pub record PulledTo (case : Case) (result : Result VerifiedImage PullRefusal) : Type 0 where
  pub talk : PullRecord
  pub pulled : Pulled case (talk ∷ [])
  pub is : talk.result ≡ result

-- the entry of the image that the case was pulled to
pub record HasEntry (case : Case) (e : LockEntry) : Type 0 where
  pub found : VerifiedImage
  pub pulled : PulledTo case (Ok found)
  pub text : is_text found ≡ true
  pub is : e ≡ entry_with (whole_of case) case.accepted found

-- why the case has no entry: its image is not UTF-8, or the pull was refused
abbrev pub HasCause : Case → Cause → Type 0
HasCause case NotText = (found : VerifiedImage) × PulledTo case (Ok found) × (is_text found ≡ false)
HasCause case (Pull refusal) = PulledTo case (Err refusal)

-- one entry for each case, in order
abbrev pub HaveEntries : List Case → List LockEntry → Type 0
HaveEntries [] [] = ⊤
HaveEntries [] (e ∷ es) = ⊥
HaveEntries (case ∷ cases) [] = ⊥
HaveEntries (case ∷ cases) (e ∷ es) = HasEntry case e × HaveEntries cases es

-- the file of the entries of all cases
pub record WritesFile (cases : List Case) (bytes : List ℕ) : Type 0 where
  pub entries : List LockEntry
  pub each : HaveEntries cases entries
  pub file : IsFileOf (record { entries = entries }) bytes

abbrev pub cause_print : Cause → List ℕ
cause_print NotText = codes "NotText"
cause_print (Pull refusal) = refusal_print refusal

-- the quoted whole text of the reference, and the print of the cause
abbrev pub refused_print : Refused → List ℕ
refused_print r = spaced (quoted_text r.image ∷ cause_print r.cause ∷ [])

-- the line of a refused case
abbrev pub refused_line : Refused → List ℕ
refused_line r = line (codes "refused" ∷ refused_print r ∷ [])

-- the first case that has no entry: each one before it has
pub record RefusesCase (cases : List Case) (r : Refused) : Type 0 where
  pub before : List Case
  pub case : Case
  pub after : List Case
  pub split : cases ≡ before ++ case ∷ after
  pub entries : List LockEntry
  pub each : HaveEntries before entries
  pub image : r.image ≡ whole_of case
  pub cause : HasCause case r.cause

-- the line of the first case that has no entry, and nothing else
pub record WritesRefusal (cases : List Case) (bytes : List ℕ) : Type 0 where
  pub refused : Refused
  pub first : RefusesCase cases refused
  pub line : bytes ≡ refused_line refused

-- the file if each case has an entry, else the line of the first one that has none
abbrev pub LocksCases : LockInput → Report → Type 0
LocksCases input made = MatchBool made.refused (WritesRefusal input.cases made.bytes) (WritesFile input.cases made.bytes)
