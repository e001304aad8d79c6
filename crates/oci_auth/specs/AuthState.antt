-- The credentials and tokens that a client holds between calls.
use Rattle.std.specs.Prelude.{List, [], ℕ, None, is_some, if◌then◌else◌}
use Rattle.std.specs.FinMap as map
use Rattle.oci_auth.specs.declared.auth.RegistryAuth.{RegistryAuth}
use Rattle.oci_auth.specs.declared.auth_state.AuthState.{AuthState}

-- nothing is stored yet
abbrev pub fresh : ℕ → AuthState
fresh default = record {
  credentials = map.empty;
  tokens = record { default_expiration_secs = default; most = None; tokens = [] };
}

-- stored credentials are never replaced
abbrev pub stored : AuthState → List ℕ → RegistryAuth → AuthState
stored k registry auth =
    if is_some (map.get k.credentials registry) then k
    else record k { credentials = map.insert k.credentials registry auth }
