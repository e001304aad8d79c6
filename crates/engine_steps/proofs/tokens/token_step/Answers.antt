use Rattle.std.proofs.Common.{sym, ◌∙◌}
use Rattle.engine_steps.proofs.HelperTrees.{not_ok}
use Rattle.engine_steps.proofs.RealmTokens.{unasked_given}
use Rattle.oci_protocol.proofs.Exits.{done, passed_on}
use Rattle.engine_rows.proofs.Exits.{wanting}
use Rattle.engine_steps.proofs.tokens.token_step.Goals as goal

pub returns-in_err-unasked : goal.returns-in_err-unasked
returns-in_err-unasked g c = record { run = λ k. wanting c.from_residual.ensures.1; body_unread = not_ok _ _ _ c.from_residual.ensures.1 }

pub returns-in-Some : goal.returns-in-Some
returns-in-Some g c = record { run = λ k. rw (sym c.in_ok-unasked.ensures ∙ c.in-Some.is) done; body_unread = unasked_given _ c.args.auth.now _ (sym c.in_ok-unasked.ensures ∙ c.in-Some.is) }

pub returns-in_err-token-in-None : goal.returns-in_err-token-in-None
returns-in_err-token-in-None g c = record { run = λ k. rw (sym c.in_ok-unasked.ensures ∙ c.in-None.is) (passed_on (c.in_err-token-in-None.ensures.run k) c.from_residual-in_err-token-in-None.ensures.1); body_unread = not_ok _ _ _ c.from_residual-in_err-token-in-None.ensures.1 }

pub returns-in_ok-token-in-None : goal.returns-in_ok-token-in-None
returns-in_ok-token-in-None g c = record { run = λ k. rw (sym c.in_ok-unasked.ensures ∙ c.in-None.is) (c.in_ok-token-in-None.ensures.run k); body_unread = c.in_ok-token-in-None.ensures.body_unread }
