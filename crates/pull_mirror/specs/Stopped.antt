-- How far a refused copy came.
use Rattle.std.specs.Prelude.{◌≡◌, ℕ, List, ◌∷◌, ◌++◌, Ok, Err}
use Rattle.oci_auth.specs.declared.auth_state.AuthState.{AuthState}
use Rattle.oci_names.specs.declared.reference.Reference.{Reference}
use Rattle.oci_protocol.specs.Runs.{Performs}
use Rattle.oci_transport.specs.Link.{Link}
use Rattle.engine_terms.specs.Contexts.{Context}
use Rattle.engine_terms.specs.declared.error.OciDistributionError.{OciDistributionError}
use Rattle.pull_mirror.specs.Copies.{push_row, all_pushed}
use Rattle.pull_mirror.specs.Pushes.{Push, push_digest}

-- Of these pushes, those before one were each answered with a URL; then that one, of this digest, was refused with this
-- error. Each ran completely, from the client and the transport as those before it left them.
pub record Stopped (s : Context) (target : Reference) (pushes : List Push) (old new : Link) (k l : AuthState)
    (digest : List ℕ) (e : OciDistributionError) : Type 0 where
  pub made : List Push
  pub push : Push
  pub left : List Push
  pub split : pushes ≡ made ++ push ∷ left
  pub digest_is : digest ≡ push_digest push
  pub mid : Link
  pub between : AuthState
  pub pushed : Performs (all_pushed s target made) old mid k between (Ok tt)
  pub refused : Performs (push_row s target push) mid new between l (Err e)
