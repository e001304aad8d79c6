-- What readers return.
use Rattle.std.specs.Prelude.{◌≡◌, true, false, Option, Some, None, Result, Ok, Err, ⊤}
use Rattle.serde_json.specs.Data.{Data}
use Rattle.serde_json.specs.Written.{has_float}
use Rattle.json_tables.specs.declared.error.ReadError.{ReadError}
use Rattle.json_tables.specs.declared.error.ReadError.TheVariants.{Float, Shape, Ambiguous, WantOfMemory}

-- `Shape` if and only if the value does not match, or out of memory
abbrev pub Refuses : {X : Type 0} → ReadError → Option X → Type 0
Refuses Float read = ⊥
Refuses Shape read = read ≡ None
Refuses Ambiguous read = ⊥
Refuses WantOfMemory read = ⊤

-- the value that was read, or its refusal
abbrev pub ReadsTo : {X : Type 0} → Result X ReadError → Option X → Type 0
ReadsTo (Ok x) read = read ≡ Some x
ReadsTo (Err e) read = Refuses e read

-- `Float` if and only if the value contains a float, otherwise `Shape` if and only if f does not match it, or out
-- of memory
abbrev pub RefusesDocument : {X : Type 0} → ReadError → (Data → Option X) → Data → Type 0
RefusesDocument Float f d = has_float d ≡ true
RefusesDocument Shape f d = (has_float d ≡ false) × (f d ≡ None)
RefusesDocument Ambiguous f d = ⊥
RefusesDocument WantOfMemory f d = ⊤

-- what f reads from a value without floats, or its refusal
abbrev pub ReadsDocument : {X : Type 0} → Result X ReadError → (Data → Option X) → Data → Type 0
ReadsDocument (Ok x) f d = (has_float d ≡ false) × (f d ≡ Some x)
ReadsDocument (Err e) f d = RefusesDocument e f d
