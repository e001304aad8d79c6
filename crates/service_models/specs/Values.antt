-- Values of models.
use Rattle.std.specs.Prelude.{Option, Some}
use Rattle.serde_json.specs.Data.{Data}

-- any JSON value, verbatim
abbrev pub any_value : Data → Option Data
any_value = λ d. Some d
