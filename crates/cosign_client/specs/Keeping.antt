-- What a client keeps after a pull.
use Rattle.std.specs.Prelude.{◌≡◌, ◌⊎◌, ℕ, List, Some, None}
use Rattle.std.specs.FinMap as map
use Rattle.oci_names.specs.declared.reference.Reference.{Reference}
use Rattle.oci_names.specs.Reference.{resolved_registry}
use Rattle.oci_auth.specs.Cache.{key_of, token_at}
use Rattle.oci_auth.specs.Kept.{Key}
use Rattle.oci_auth.specs.declared.auth.RegistryAuth.{RegistryAuth}
use Rattle.oci_auth.specs.declared.token_type.RegistryOperation.TheVariants.{Pull}
use Rattle.oci_auth.specs.declared.token_type.RegistryTokenType.{RegistryTokenType}
use Rattle.registry_calls.specs.Clients.{Kept}

-- A client that caches no responses still caches none. Each token was kept under its key before, or is kept under that
-- of the image: its registry, its repository and the operation. All credentials were stored before, but for these,
-- which may be stored for the image's registry.
pub record KeepsOnly (before : Kept) (image : Reference) (a : RegistryAuth) (after : Kept) : Type 0 where
  pub plain : before.1 ≡ None → after.1 ≡ None
  pub tokens : (key : Key) (moment : ℕ) (token : RegistryTokenType) → token_at after.0.tokens key moment ≡ Some token
      → (token_at before.0.tokens key moment ≡ Some token) ⊎ (key ≡ key_of image Pull)
  pub credentials : (registry : List ℕ) (stored : RegistryAuth) → map.get after.0.credentials registry ≡ Some stored
      → (map.get before.0.credentials registry ≡ Some stored)
      ⊎ ((registry ≡ resolved_registry image) × (stored ≡ a))
