-- The exit status for a case whose registry has its image.
use Rattle.std.proofs.Common.{◌≡◌, ◌≤◌, inl, inr, ℕ, Bool, true, false, not, List, Option, Some, None, length, refl, sym, ap, subst, ◌∙◌}
use Rattle.byte_streams.specs.SinkState.{SinkState}
use Rattle.byte_streams.specs.Source.{SourceState}
use Rattle.recorded_case.specs.Case.{case_in}
use Rattle.recorded_case.specs.declared.case.Case.{Case}
use Rattle.pulled_cases.specs.declared.report.Report.{Report}
use Rattle.pull_run.specs.declared.status.Status.{Status}
use Rattle.pull_run.specs.declared.status.Status.TheVariants as status
use Rattle.pull_run.specs.declared.word.Word.{Word}
use Rattle.pull_run.specs.declared.word.Word.TheVariants.{Pull}
use Rattle.pull_run.specs.Complete.{HasImage, EndsDone, EndsComplete}
use Rattle.pull_run.specs.Input.{input_limit, IsRead}
use Rattle.pull_run.specs.Program.{TaskStatusMeans, StatusMeans}
use Rattle.pulled_cases.specs.Pulls.{PullRecord, all_answered, ReportsCase}
use Rattle.pull_run.specs.Status.{code_of}
use Rattle.pull_run.specs.Task.{task_by, task_of}
use Rattle.pull_run.specs.Word.{word_of}
use Rattle.pull_run.proofs.ShelfPulls.{answers_all}
use Rattle.pull_run.proofs.Inputs.{input_is}
use Rattle.pull_run.proofs.Statuses.{past_all, reads_word}

-- what was read is the case
same_case : (case other : Case) (told : List ℕ) (old new : SourceState) → old.left ≡ Some told → case_in told ≡ Some case → IsRead case_in other old new → other ≡ case
same_case case other told old new is reads h = cc (sym h.2 ∙ ap case_in (input_is h.0 told old new is h.1) ∙ reads)

-- its report contains no refusal
none_refused : (case other : Case) (made : Report) → HasImage case → other ≡ case → ReportsCase other made → made.refused ≡ true → ⊥
none_refused case other made has same gives refused =
    let reports : ReportsCase case made = subst (λ (x : Case). ReportsCase x made) same gives in
    let all : all_answered reports.talks ≡ true = answers_all case reports.talks has reports.pulled in
    cc (sym refused ∙ reports.refused ∙ ap not all)

complete_ends : (s : Status) (case : Case) (told : List ℕ) (old new : SourceState) (before after : SinkState) → old.left ≡ Some told → length told ≤ input_limit → case_in told ≡ Some case → HasImage case
    → TaskStatusMeans (task_by case_in ReportsCase) s old new before after → EndsDone (code_of s) old new before after
complete_ends status.Done case told old new before after is short reads has h = inl refl
complete_ends status.Refused case told old new before after is short reads has h =
    absurd (none_refused case h.makes.input h.made has (same_case case h.makes.input told old new is reads h.makes.is_read) h.makes.gives h.refused_is)
complete_ends status.Usage case told old new before after is short reads has h = absurd h
complete_ends status.UnreadableInput case told old new before after is short reads has h =
    absurd (cc (sym h.0.2 ∙ ap case_in (input_is h.0.0 told old new is h.0.1) ∙ reads))
complete_ends status.SourceFault case told old new before after is short reads has h = inr (inr (inl (refl, h.0.1)))
complete_ends status.SinkFault case told old new before after is short reads has h = inr (inr (inr (refl, h.1)))
complete_ends status.WantOfMemory case told old new before after is short reads has h = inr (inl refl)
complete_ends status.TooLong case told old new before after is short reads has h = absurd (past_all told old new is short h.0.0)

pub says_complete : (words : List (List ℕ)) (code : ℕ) (old new : SourceState) (before after : SinkState) → StatusMeans words code old new before after → EndsComplete words code old new before after
says_complete words code old new before after says told case word_is left short reads has =
    let h : TaskStatusMeans (task_of Pull) says.0 old new before after = rw (reads_word words Pull word_is) at says.2 in
    rw says.1 (complete_ends says.0 case told old new before after left short reads has h)
