-- The output line of `check`.
use Rattle.std.specs.Prelude.{◌≡◌, ◌↔◌, ℕ, Bool, true, false, List, [], ◌∷◌, ◌++◌, codes}
use Rattle.locked_cases.specs.Holds.{Holds}
use Rattle.locked_cases.specs.declared.chain_input.ChainInput.{ChainInput}
use Rattle.pulled_cases.specs.declared.report.Report.{Report}

-- the line, by whether a chain is refused
abbrev pub verdict : Bool → List ℕ
verdict false = codes "chain holds" ++ 10 ∷ []
verdict true = codes "chain fails" ++ 10 ∷ []

-- `chain holds` if and only if the written chain holds, otherwise `chain fails`
pub record PrintsVerdict (input : ChainInput) (made : Report) : Type 0 where
  pub exact : made.refused ≡ false ↔ Holds input
  pub line : made.bytes ≡ verdict made.refused
