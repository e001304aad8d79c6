-- Results that are fixed up to running out of memory, and sequences of steps that end at the first error.
use Rattle.std.specs.Prelude.{◌≡◌, Bool, MatchBool, Result, Ok, Err}

-- the result is this one, or out of memory
abbrev pub Matches : {A E : Type 0} → (E → Bool) → Result A E → Result A E → Type 0
Matches is_memory (Ok a) said = said ≡ Ok a
Matches is_memory (Err e) said = MatchBool (is_memory e) (Unit {0}) (said ≡ Err e)

-- the error is this one, or out of memory
abbrev pub MatchesError : {E : Type 0} → (E → Bool) → E → E → Type 0
MatchesError is_memory e said = MatchBool (is_memory e) (Unit {0}) (e ≡ said)

infixl 10 ◌>>=◌
-- the result of the next step, unless the step before it failed
abbrev pub ◌>>=◌ : {A B E : Type 0} → Result A E → (A → Result B E) → Result B E
(Ok a) >>= next = next a
(Err e) >>= next = Err e

infixl 10 ◌>>◌
-- the same, if the next step uses no value of the one before it
abbrev pub ◌>>◌ : {A B E : Type 0} → Result A E → Result B E → Result B E
first >> second = first >>= (λ _. second)
