-- A refusal after a registry that was not read yet.
use Rattle.std.proofs.Common.{◌≡◌, [], Option, Some, None, refl}
use Rattle.json_tables.specs.Reading.{◌>>=◌}
use Rattle.json_tables.specs.Outcomes.{Refuses}
use Rattle.json_tables.specs.declared.error.ReadError.{ReadError}
use Rattle.json_tables.specs.declared.error.ReadError.TheVariants.{Float, Shape, Ambiguous, WantOfMemory}
use Rattle.recorded_case.specs.declared.registry.Registry.{Registry}
use Rattle.recorded_case.specs.declared.registry.Registry.TheVariants.{Answers}

-- what is refused after any registry is refused, whether there is one or not
pub refused_later : {X : Type 0} (e : ReadError) (registry : Option Registry) (k : Registry → Option X) → ((r : Registry) → Refuses e (k r)) → Refuses e (registry >>= k)
refused_later Float registry k h = h (Answers [])
refused_later Shape None k h = refl
refused_later Shape (Some r) k h = h r
refused_later Ambiguous registry k h = h (Answers [])
refused_later WantOfMemory registry k h = tt
