-- Written data round-trips.
use Rattle.std.specs.Prelude.{◌≡◌, Bool, false, Option, Some}
use Rattle.serde_json.specs.Data.{Data}
use Rattle.serde_json.specs.Written.{has_float}
use Rattle.json_tables.specs.Fields.{is_null, field_has_float}

-- d, which is not null, is read as x, and contains a float only if `floats` is true
pub record ReadsAgain {X : Type 0} (read : Data → Option X) (d : Data) (x : X) (floats : Bool) : Type 0 where
  pub reads : read d ≡ Some x
  pub is_there : is_null d ≡ false
  pub plain : floats ≡ false → has_float d ≡ false

-- the same of a member
pub record MemberReadsAgain {X : Type 0} (read : Option Data → Option X) (o : Option Data) (x : X) (floats : Bool)
    : Type 0 where
  pub reads : read o ≡ Some x
  pub plain : floats ≡ false → field_has_float o ≡ false
