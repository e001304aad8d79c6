-- The output line of `canon`.
use Rattle.std.specs.Prelude.{◌≡◌, ◌⊎◌, ℕ, Bool, true, false, List, [], ◌∷◌, ◌++◌, Some, codes}
use Rattle.serde_json.specs.Data.{Data}
use Rattle.json_events.specs.Canonical.{Canonical}
use Rattle.json_events.specs.Refused.{refused}
use Rattle.json_events.specs.declared.error.CanonError.TheVariants.{Float, IntegerOutOfRange}
use Rattle.pulled_cases.specs.declared.report.Report.{Report}

-- a line with the value's text
pub record PrintsText (value : Data) (out : List ℕ) : Type 0 where
  pub text : List ℕ
  pub canonical : Canonical value text
  pub line : out ≡ text ++ 10 ∷ []

-- a line that says why there is none
abbrev pub PrintsFloat : Data → List ℕ → Type 0
PrintsFloat value out = (refused value ≡ Some Float) × (out ≡ codes "refused Float" ++ 10 ∷ [])

abbrev pub PrintsInteger : Data → List ℕ → Type 0
PrintsInteger value out =
    (refused value ≡ Some IntegerOutOfRange) × (out ≡ codes "refused IntegerOutOfRange" ++ 10 ∷ [])

abbrev pub Prints : Data → Bool → List ℕ → Type 0
Prints value false out = PrintsText value out
Prints value true out = PrintsFloat value out ⊎ PrintsInteger value out

-- the canonical text of a value, or why it has none
abbrev pub PrintsValue : Data → Report → Type 0
PrintsValue value made = Prints value made.refused made.bytes
