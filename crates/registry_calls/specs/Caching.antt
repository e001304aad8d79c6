-- Cached calls: a fresh response is returned again; otherwise the call is made and its response is cached.
use Rattle.std.specs.Prelude.{ℕ, Bool, true, false, List, Option, Some, None, Ok, option_map}
use Rattle.oci_protocol.specs.Proto.{Done, Recall, Keep, ◌>>=◌, ◌>>◌}
use Rattle.oci_protocol.specs.Lift.{lifted}
use Rattle.registry_cache.specs.Answers.{keep, entry}
use Rattle.registry_calls.specs.Clients.{Plain, Row}
use Rattle.registry_cache.specs.Caching.{Cache, known}

-- the response is cached, if the client caches
unfoldable pub keeping : {A : Type 0} → Cache A → List ℕ → ℕ → A → Row (Unit {0})
keeping cache key now answer =
    Recall (λ k. Keep (k.0, option_map (keep (entry key now (cache.kept_as answer))) k.1) (Done (Ok tt)))

-- a known response is returned; otherwise the call is made, and its response is cached
abbrev pub known_or : {A : Type 0} → Cache A → List ℕ → ℕ → Plain A → Option A → Row A
known_or cache key now p (Some answer) = Done (Ok answer)
known_or cache key now p None = do
  answer ← lifted p
  keeping cache key now answer
  Done (Ok answer)

unfoldable pub recalled : {A : Type 0} → Cache A → List ℕ → ℕ → Plain A → Row A
recalled cache key now p = Recall (λ k. known_or cache key now p (known cache key now k.1))

-- only a call whose reference round-trips is cached
abbrev pub cached : {A : Type 0} → Bool → Cache A → List ℕ → ℕ → Plain A → Row A
cached true cache key now p = recalled cache key now p
cached false cache key now p = lifted p
