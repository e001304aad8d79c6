-- The members of a frame.
use Rattle.std.proofs.Common.{◌≡◌, ℕ, true, false, List, [], ◌∷◌, Option, Some, None, refl, ap, ◌∙◌}
use Rattle.std.specs.Prelude.{is_some}
use Rattle.serde_json.specs.Data.{string}
use Rattle.serde_json.specs.Written.{has_float}
use Rattle.json_values.specs.Writing.{listed}
use Rattle.json_tables.specs.Reading.{◌>>=◌}
use Rattle.json_tables.specs.Outcomes.{Refuses}
use Rattle.json_tables.specs.declared.error.ReadError.{ReadError}
use Rattle.json_tables.specs.declared.error.ReadError.TheVariants as read

-- an error after a value that is present, whatever it is
pub behind_some : {A X : Type 0} (e : ReadError) (o : Option A) (k : A → Option X) → is_some o ≡ true → ((a : A) → Refuses e (k a)) → Refuses e (o >>= k)
behind_some e None k is h = absurd (cc is)
behind_some e (Some a) k is h = h a

-- an error of the next value
pub refused_here : {A X : Type 0} (e : ReadError) (o : Option A) (k : A → Option X) → Refuses e o → Refuses e (o >>= k)
refused_here read.Float o k h = absurd h
refused_here read.Shape o k h = ap (λ p. p >>= k) h
refused_here read.Ambiguous o k h = absurd h
refused_here read.WantOfMemory o k h = tt

-- a value that was read
pub next : {A X : Type 0} {o : Option A} {x : A} {r : Option X} (k : A → Option X) → o ≡ Some x → k x ≡ r → (o >>= k) ≡ r
next k same h = ap (λ p. p >>= k) same ∙ h

-- a value that is present, whatever it is
pub next_some : {A X : Type 0} {r : Option X} (o : Option A) (k : A → Option X) → is_some o ≡ true → ((a : A) → k a ≡ r) → (o >>= k) ≡ r
next_some None k is h = absurd (cc is)
next_some (Some a) k is h = h a

-- strings have no float
pub strings_plain : (xs : List (List ℕ)) → has_float (listed string xs) ≡ false
strings_plain [] = refl
strings_plain (x ∷ xs) = strings_plain xs
