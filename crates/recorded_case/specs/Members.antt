-- Members with rules of their own.
use Rattle.std.specs.Prelude.{ℕ, option_map, Bool, if◌then◌else◌, Option, Some, None, List, codes}
use Rattle.serde_json.specs.Data.{Data, null}
use Rattle.json_tables.specs.Reading.{u64_of}
use Rattle.std.specs.Str.{bytes_eq}
use Rattle.engine_terms.specs.declared.settings.ClientProtocol.{ClientProtocol}
use Rattle.engine_terms.specs.declared.settings.ClientProtocol.TheVariants.{Http, Https}

-- `x` if nothing was found, otherwise the value that `f` reads, also for null
abbrev pub unless_absent : {X : Type 0} → X → (Data → Option X) → Option Data → Option X
unless_absent x f None = Some x
unless_absent x f (Some d) = f d

-- the value, if it passes the test
abbrev pub passing : {X : Type 0} → (X → Bool) → X → Option X
passing test x = if test x then Some x else None

-- an integer, for a member that may be absent
abbrev pub number_of : Data → Option (Option ℕ)
number_of d = option_map Some (u64_of d)

-- `None` for null, otherwise the value that `f` reads
abbrev pub null_or : {X : Type 0} → (Data → Option X) → Data → Option (Option X)
null_or f null = Some None
null_or f d = option_map Some (f d)

-- the protocol with this name
abbrev pub protocol_named : List ℕ → Option ClientProtocol
protocol_named text =
    if bytes_eq text (codes "http") then Some Http
    else (if bytes_eq text (codes "https") then Some Https else None)
