-- What readers of models return.
use Rattle.std.specs.Prelude.{◌≡◌, true, false, Option, Some, None, Result, Ok, Err}
use Rattle.serde_json.specs.Data.{Data}
use Rattle.serde_json.specs.Written.{has_float}
use Rattle.service_models.specs.declared.model_error.ModelError.{ModelError}
use Rattle.service_models.specs.declared.model_error.ModelError.TheVariants.{Float, Shape, WantOfMemory}

-- `Float` if and only if the value contains a float, else `Shape` if and only if f does not match it, or out of
-- memory
abbrev pub RefusesModel : {X : Type 0} → ModelError → (Data → Option X) → Data → Type 0
RefusesModel Float f d = has_float d ≡ true
RefusesModel Shape f d = (has_float d ≡ false) × (f d ≡ None)
RefusesModel WantOfMemory f d = Unit {0}

-- what f reads from a value without floats, or its refusal
abbrev pub ReadsModel : {X : Type 0} → Result X ModelError → (Data → Option X) → Data → Type 0
ReadsModel (Ok x) f d = (has_float d ≡ false) × (f d ≡ Some x)
ReadsModel (Err e) f d = RefusesModel e f d
