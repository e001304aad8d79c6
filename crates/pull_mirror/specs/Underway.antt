-- Pushes one after another, for the loop over them.
use Rattle.std.specs.Prelude.{◌≡◌, ℕ, List, ◌∷◌, ◌++◌, Result, Ok, Err}
use Rattle.oci_auth.specs.declared.auth_state.AuthState.{AuthState}
use Rattle.oci_names.specs.declared.reference.Reference.{Reference}
use Rattle.oci_protocol.specs.Runs.{Meets}
use Rattle.oci_transport.specs.Link.{Link}
use Rattle.engine_terms.specs.Contexts.{Context}
use Rattle.engine_terms.specs.Error.{is_memory}
use Rattle.engine_terms.specs.declared.error.OciDistributionError.{OciDistributionError}
use Rattle.pull_mirror.specs.Copies.{all_pushed}
use Rattle.pull_mirror.specs.Pushes.{Push}

-- these were made: whatever pushes after them then do, all of them did
pub record Made (s : Context) (target : Reference) (pushes : List Push) (old mid : Link) (k j : AuthState)
    : Type 0 where
  pub met : (rest : List Push) (new : Link) (l : AuthState) (r : Result (Unit {0}) OciDistributionError)
      → Meets is_memory (all_pushed s target rest) mid new j l r
      → Meets is_memory (all_pushed s target (pushes ++ rest)) old new k l r
