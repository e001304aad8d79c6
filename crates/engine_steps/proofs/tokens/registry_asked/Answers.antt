use Rattle.engine_steps.proofs.HelperTrees.{not_ok}
use Rattle.engine_steps.proofs.RealmTokens.{left_untaken}
use Rattle.oci_protocol.proofs.Exits.{refused, and_then, said, passed_on}
use Rattle.engine_rows.proofs.Exits.{wanting}
use Rattle.engine_rows.specs.Rows.{registry_asked}
use Rattle.engine_steps.proofs.tokens.registry_asked.Goals as goal

pub returns-in_err-url : goal.returns-in_err-url
unfolding registry_asked
returns-in_err-url g c = record { run = λ k. refused _ (said _ c.in_err-url.ensures) c.from_residual.ensures.1; body_unread = not_ok _ _ _ c.from_residual.ensures.1 }

pub returns-in_err-request : goal.returns-in_err-request
unfolding registry_asked
returns-in_err-request g c = record { run = λ k. and_then _ (said _ c.in_ok-url.ensures) (refused _ (said _ c.in_err-request.ensures) c.from_residual-in_err-request.ensures.1); body_unread = not_ok _ _ _ c.from_residual-in_err-request.ensures.1 }

pub returns-in_err-head : goal.returns-in_err-head
unfolding registry_asked
returns-in_err-head g c = record { run = λ k. and_then _ (said _ c.in_ok-url.ensures) (and_then _ (said _ c.in_ok-request.ensures) (refused _ (c.in_err-head.ensures.run k) c.from_residual-in_err-head.ensures.1)); body_unread = not_ok _ _ _ c.from_residual-in_err-head.ensures.1 }

pub returns-in_err-wanted : goal.returns-in_err-wanted
unfolding registry_asked
returns-in_err-wanted g c = record { run = λ k. and_then _ (said _ c.in_ok-url.ensures) (and_then _ (said _ c.in_ok-request.ensures) (and_then _ (c.in_ok-head.ensures.run k) (wanting c.from_residual-in_err-wanted.ensures.1))); body_unread = not_ok _ _ _ c.from_residual-in_err-wanted.ensures.1 }

pub returns-in_err-token : goal.returns-in_err-token
unfolding registry_asked
returns-in_err-token g c = record { run = λ k. and_then _ (said _ c.in_ok-url.ensures) (and_then _ (said _ c.in_ok-request.ensures) (and_then _ (c.in_ok-head.ensures.run k) (rw c.in_ok-wanted.ensures at (passed_on (c.in_err-token.ensures.run k) c.from_residual-in_err-token.ensures.1)))); body_unread = not_ok _ _ _ c.from_residual-in_err-token.ensures.1 }

pub returns : goal.returns
unfolding registry_asked
returns g c = record { run = λ k. and_then _ (said _ c.in_ok-url.ensures) (and_then _ (said _ c.in_ok-request.ensures) (and_then _ (c.in_ok-head.ensures.run k) (rw c.in_ok-wanted.ensures at (c.in_ok-token.ensures.run k)))); body_unread = left_untaken _ _ _ c.in_ok-head.ensures.body_unread c.in_ok-token.ensures.unchanged }
