-- The verdict on a chain.
use Rattle.std.proofs.Common.{◌≡◌, ◌↔◌, Bool, true, false, not, refl, subst, sym}
use Rattle.std.specs.Prelude.{IsTrue}
use Rattle.locked_cases.specs.Holds.{Holds}
use Rattle.locked_cases.specs.declared.chain_input.ChainInput.{ChainInput}
use Rattle.pull_run.specs.Check.{PrintsVerdict, verdict}
use Rattle.pulled_cases.specs.declared.report.Report.{Report}

judged_so : (input : ChainInput) (holds : Bool) → IsTrue holds ↔ Holds input → PrintsVerdict input (record { bytes = verdict (not holds); refused = not holds })
judged_so input true exact = record { exact = ((λ e. exact.0 refl), (λ h. refl)); line = refl }
judged_so input false exact = record { exact = ((λ e. absurd (cc e)), (λ h. absurd (cc (exact.1 h)))); line = refl }

pub judged : (input : ChainInput) (holds : Bool) (made : Report) → IsTrue holds ↔ Holds input → made ≡ record { bytes = verdict (not holds); refused = not holds } → PrintsVerdict input made
judged input holds made exact is = subst (λ (r : Report). PrintsVerdict input r) (sym is) (judged_so input holds exact)
