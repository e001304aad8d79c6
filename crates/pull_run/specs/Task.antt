-- The input and the output of each subcommand.
use Rattle.std.specs.Prelude.{ℕ, List, Option}
use Rattle.json_values.specs.JsonText.{json_of}
use Rattle.recorded_case.specs.Case.{case_in}
use Rattle.locked_cases.specs.ChainInput.{chain_input_in}
use Rattle.locked_cases.specs.Checks.{ChecksLock}
use Rattle.locked_cases.specs.Input.{cases_in, check_in}
use Rattle.locked_cases.specs.Locks.{LocksCases}
use Rattle.pull_run.specs.MirrorInput.{mirror_input_in}
use Rattle.pull_run.specs.Reports.{ReportsMirror}
use Rattle.pull_admit.specs.Input.{review_input_in}
use Rattle.pull_admit.specs.ReviewResponses.{ReportsReview}
use Rattle.pull_run.specs.Canon.{PrintsValue}
use Rattle.pull_run.specs.Check.{PrintsVerdict}
use Rattle.pulled_cases.specs.Pulls.{ReportsCase}
use Rattle.pulled_cases.specs.declared.report.Report.{Report}
use Rattle.pull_run.specs.declared.word.Word.{Word}
use Rattle.pull_run.specs.declared.word.Word.TheVariants.{Pull, Canon, Check, Lock, LockCheck, Review, Mirror}

-- what the input must parse as, and the output for it
pub record Task : Type 1 where
  pub Input : Type 0
  pub reads : List ℕ → Option Input
  pub Gives : Input → Report → Type 0

abbrev pub task_by : {X : Type 0} → (List ℕ → Option X) → (X → Report → Type 0) → Task
task_by {X} reads Gives = record { Input = X; reads = reads; Gives = Gives }

-- the task of a subcommand: what it reads, and what it writes
abbrev pub task_of : Word → Task
task_of Pull = task_by case_in ReportsCase
task_of Canon = task_by json_of PrintsValue
task_of Check = task_by chain_input_in PrintsVerdict
task_of Lock = task_by cases_in LocksCases
task_of LockCheck = task_by check_in ChecksLock
task_of Review = task_by review_input_in ReportsReview
task_of Mirror = task_by mirror_input_in ReportsMirror
