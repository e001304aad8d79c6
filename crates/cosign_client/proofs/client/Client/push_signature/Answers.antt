use Rattle.std.proofs.Common.{refl}
use Rattle.cosign_client.specs.State.{client_state}
use Rattle.cosign_client.proofs.PushedSignatures.{nothing_pushed, pushes, unsent}
use Rattle.cosign_client.proofs.client.Client.push_signature.Goals as goal

pub returns-in_err-auth-clause-run : goal.returns-in_err-auth-clause-run
returns-in_err-auth-clause-run g c = unsent _ _ _ _ _ _ c.from_residual.ensures.1

pub returns-in_err-built-clause-run : goal.returns-in_err-built-clause-run
returns-in_err-built-clause-run g c = unsent _ _ _ _ _ _ c.from_residual-in_err-built.ensures.1

pub returns-clause-run : goal.returns-clause-run
returns-clause-run g c = pushes _ _ _ _ _ c.in_ok-built.built _ c.in_ok-built.ensures (rw (c.reference.ensures.inner, c.in_ok-auth.ensures, c.as_slice.ensures) at ((c.push.ensures.run (client_state c.args.self.now).settings).made refl).1)

pub returns-clause-settings : goal.returns-clause-settings
returns-clause-settings g c = ((c.push.ensures.run (client_state c.args.self.now).settings).made refl).0

pub returns-in_err-auth-clause-confined : goal.returns-in_err-auth-clause-confined
returns-in_err-auth-clause-confined g c = nothing_pushed _ _ _ _ _ _

pub returns-in_err-built-clause-confined : goal.returns-in_err-built-clause-confined
returns-in_err-built-clause-confined g c = nothing_pushed _ _ _ _ _ _

pub returns-clause-confined : goal.returns-clause-confined
returns-clause-confined g c = rw (c.reference.ensures.inner, c.in_ok-auth.ensures) at c.push.ensures.confined
