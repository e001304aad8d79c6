-- Properties of the case of each input.
use Rattle.std.proofs.Common.{Option, Some, None, IfSome, codes}
use Rattle.std.specs.Prelude.{[], ◌∷◌}
use Rattle.serde_json.specs.Data.{Data}
use Rattle.serde_json.specs.Find.{get}
use Rattle.json_tables.specs.Reading.{◌>>=◌}
use Rattle.json_tables.specs.Objects.{only}
use Rattle.json_tables.specs.Member.{required}
use Rattle.recorded_case.specs.Case.{case_of, IsReady}
use Rattle.recorded_case.proofs.CaseParts.{through}
use Rattle.locked_cases.proofs.Ready.{found_ready}
use Rattle.locked_cases.specs.ChainInput.{chain_of, chain_input_of}
use Rattle.locked_cases.specs.declared.chain_input.ChainInput.{ChainInput}

abbrev InputReady : ChainInput → Type 0
InputReady input = IsReady input.case

input_ready : (d : Data) → IfSome (chain_input_of d) InputReady
unfolding chain_input_of
input_ready d =
    through InputReady (only (codes "case" ∷ codes "chain" ∷ []) d) _ (λ known _.
    through InputReady (required chain_of (codes "chain") d) _ (λ chain _.
    through InputReady (required case_of (codes "case") d) _ (λ case is. found_ready (get (codes "case") d) case is)))

pub json_ready : (o : Option Data) → IfSome (o >>= chain_input_of) InputReady
json_ready None = tt
json_ready (Some d) = input_ready d
