use Rattle.engine_steps.proofs.HelperTrees.{not_ok}
use Rattle.engine_steps.proofs.RealmTokens.{no_text}
use Rattle.oci_protocol.proofs.Exits.{refused, and_then, done}
use Rattle.engine_rows.proofs.Exits.{wanting, stores_as, keeps_text}
use Rattle.engine_rows.specs.Rows.{token_given}
use Rattle.engine_steps.proofs.given.token_given.Goals as goal

pub returns-in_err-store : goal.returns-in_err-store
returns-in_err-store g c = record { run = rw c.in_err-store.ensures.err (wanting c.from_residual.ensures.1); body_unread = not_ok _ _ _ c.from_residual.ensures.1 }

pub returns-in_err-token : goal.returns-in_err-token
unfolding token_given
returns-in_err-token g c = record { run = and_then _ (stores_as _ _ _ _ _ c.in_ok-store.ensures.ok c.resolve_registry.ensures) (refused _ (c.in_err-token.ensures.run _) c.from_residual-in_err-token.ensures.1); body_unread = not_ok _ _ _ c.from_residual-in_err-token.ensures.1 }

pub returns-in_default : goal.returns-in_default
unfolding token_given
returns-in_default g c = record { run = and_then _ (stores_as _ _ _ _ _ c.in_ok-store.ensures.ok c.resolve_registry.ensures) (and_then _ (rw c.in_default.is at (c.in_ok-token.ensures.run c.store.new.memory)) done); body_unread = λ none. rw c.in_default.is at c.in_ok-token.ensures.body_unread }

pub returns-in_err-text : goal.returns-in_err-text
unfolding token_given
returns-in_err-text g c = record { run = and_then _ (stores_as _ _ _ _ _ c.in_ok-store.ensures.ok c.resolve_registry.ensures) (and_then _ (rw c.in-Some.is at (c.in_ok-token.ensures.run c.store.new.memory)) (wanting c.from_residual-in_err-text.ensures.1)); body_unread = not_ok _ _ _ c.from_residual-in_err-text.ensures.1 }

pub returns-in_err-insert : goal.returns-in_err-insert
unfolding token_given
returns-in_err-insert g c = record { run = and_then _ (stores_as _ _ _ _ _ c.in_ok-store.ensures.ok c.resolve_registry.ensures) (and_then _ (rw c.in-Some.is at (c.in_ok-token.ensures.run c.store.new.memory)) (rw c.in_err-insert.ensures.err (wanting c.from_residual-in_err-insert.ensures.1))); body_unread = not_ok _ _ _ c.from_residual-in_err-insert.ensures.1 }

pub returns : goal.returns
unfolding token_given
returns g c = record { run = and_then _ (stores_as _ _ _ _ _ c.in_ok-store.ensures.ok c.resolve_registry.ensures) (and_then _ (rw c.in-Some.is at (c.in_ok-token.ensures.run c.store.new.memory)) (rw c.in_ok-text.ensures (keeps_text _ _ _ _ _ c.in_ok-insert.ensures.ok))); body_unread = no_text _ _ c.in_ok-text.ensures (rw c.in-Some.is at c.in_ok-token.ensures.body_unread) }
