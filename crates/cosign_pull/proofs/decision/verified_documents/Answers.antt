use Rattle.std.proofs.Common.{refl}
use Rattle.cosign_rows.proofs.Exits.{and_then, refused, passed}
use Rattle.cosign_rows.specs.Rows.{documents_row}
use Rattle.cosign_pull.proofs.Exits.{empty_passed, not_refused}
use Rattle.cosign_pull.proofs.decision.verified_documents.Goals as goal

pub returns-in_err-found-clause-run : goal.returns-in_err-found-clause-run
unfolding documents_row
returns-in_err-found-clause-run g c = λ s. refused _ (c.in_err-found.ensures.run s) c.from_residual.ensures.1

pub returns-in_err-documents-clause-run : goal.returns-in_err-documents-clause-run
unfolding documents_row
returns-in_err-documents-clause-run g c = λ s. and_then _ (c.in_ok-found.ensures.run s) (passed (c.in_err-documents.ensures s) c.from_residual-in_err-documents.ensures.1)

pub returns-clause-run : goal.returns-clause-run
unfolding documents_row
returns-clause-run g c = λ s. and_then _ (c.in_ok-found.ensures.run s) (c.in_ok-documents.ensures s)

pub returns-in_err-found-clause-unconstrained : goal.returns-in_err-found-clause-unconstrained
returns-in_err-found-clause-unconstrained g c = λ none. empty_passed (c.in_err-found.ensures.unconstrained none) c.from_residual.ensures.1

pub returns-in_err-documents-clause-unconstrained : goal.returns-in_err-documents-clause-unconstrained
returns-in_err-documents-clause-unconstrained g c = λ none. not_refused (c.in_ok-found.ensures.unconstrained none).0

pub returns-clause-unconstrained : goal.returns-clause-unconstrained
returns-clause-unconstrained g c = λ none. not_refused (c.in_ok-found.ensures.unconstrained none).0

pub returns-in_err-documents-clause-unread : goal.returns-in_err-documents-clause-unread
returns-in_err-documents-clause-unread g c = λ unread. absurd (cc (c.in_ok-found.ensures.unread unread).0)

pub returns-clause-unread : goal.returns-clause-unread
returns-clause-unread g c = λ unread. absurd (cc (c.in_ok-found.ensures.unread unread).0)
