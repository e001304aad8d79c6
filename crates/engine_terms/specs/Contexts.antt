-- The settings and the time of a client's call.
use Rattle.std.specs.Prelude.{ℕ}
use Rattle.engine_terms.specs.declared.settings.Settings.{Settings}
use Rattle.engine_terms.specs.declared.call.Call.{Call}

-- the settings, and the moment of the call in seconds since 1970
pub record Context : Type 0 where
  pub settings : Settings
  pub moment : ℕ

abbrev pub within : Settings → ℕ → Context
within settings moment = record { settings = settings; moment = moment }

-- the context of a call
abbrev pub context_of : Call → Context
context_of call = within call.settings.now call.moment
