-- What a client keeps between decisions.
use Rattle.std.specs.Prelude.{◌≡◌, ℕ, true, List, Option, Some, None}
use Rattle.std.specs.FinMap as map
use Rattle.oci_auth.specs.declared.auth.RegistryAuth.{RegistryAuth}
use Rattle.oci_auth.specs.declared.auth_state.AuthState.{AuthState}
use Rattle.registry_cache.specs.Answers.{fits}
use Rattle.registry_cache.specs.declared.answers.Answers.{Answers}
use Rattle.registry_cache.specs.declared.answers.Bounds.{Bounds}

-- responses are cached within these bounds
abbrev pub IsWithin : Bounds → Option Answers → Type 0
IsWithin bounds None = ⊥
IsWithin bounds (Some answers) = (answers.bounds ≡ Some bounds) × (fits (Some bounds) answers.entries ≡ true)

-- no other credentials are stored, for any registry
abbrev pub StoresOnly : RegistryAuth → AuthState → Type 0
StoresOnly a k = (registry : List ℕ) (stored : RegistryAuth) → map.get k.credentials registry ≡ Some stored → stored ≡ a
