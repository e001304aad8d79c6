use Rattle.std.proofs.Common.{rules}
use Rattle.live_check.proofs.Pieces.{compared, never, other_size}
use Rattle.live_check.proofs.Ends.{parts_cut, passed_on}
use Rattle.live_check.proofs.blobs.parts_stand.Goals as goal

pub returns-then-x-lt0-clause-checked : goal.returns-then-x-lt0-clause-checked
returns-then-x-lt0-clause-checked g c = never _ _ (search rules)

pub returns-in_default-clause-checked : goal.returns-in_default-clause-checked
returns-in_default-clause-checked g c = never _ _ (λ bytes b. (rw c.in_default.is at c.in_ok-digester.ensures) bytes (rw c.as_str.ensures b.1))

pub returns-then-not-sized-clause-checked : goal.returns-then-not-sized-clause-checked
returns-then-not-sized-clause-checked g c = other_size _ _ _ _ (search rules) (rw c.if-not-sized.true at c.in_ok-sized.ensures.hashed)

pub returns-clause-checked : goal.returns-clause-checked
returns-clause-checked g c =
    let found = rw c.as_str.ensures at (rw c.in-Some.is at c.in_ok-digester.ensures) in
    compared _ _ _ _ _ _ found.0 c.in_ok-text.text c.eq.result (search rules) found.1 found.2 (rw c.if-not-sized.false at c.in_ok-sized.ensures.hashed) (λ m h. c.in_ok-text.ensures.text _ m h) (search rules)

pub returns-in_err-sized-clause-cause : goal.returns-in_err-sized-clause-cause
returns-in_err-sized-clause-cause g c = passed_on _ _ _ (parts_cut c.args.x.now _ _ _ _ (search rules) c.in_err-sized.ensures.cause) c.from_residual-in_err-sized.ensures
