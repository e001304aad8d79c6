use Rattle.std.proofs.Common.{refl}
use Rattle.oci_protocol.proofs.Exits.{refused, and_then, passed_on}
use Rattle.engine_rows.proofs.Exits.{wanting}
use Rattle.push_rows.specs.Calls.{push_whole}
use Rattle.engine_push.proofs.CallTree.{none_given, some_given}
use Rattle.engine_push.proofs.bytes.push_whole.Goals as goal

pub same-location : goal.same-location
same-location g c = refl

pub returns-in_err-location : goal.returns-in_err-location
unfolding push_whole
returns-in_err-location g c = refused _ c.in_err-location.ensures.run c.from_residual.ensures.1

pub returns-then-content-eq0 : goal.returns-then-content-eq0
unfolding push_whole
returns-then-content-eq0 g c = and_then _ c.in_ok-location.ensures.run (none_given _ _ _ _ c.if-content-eq0.true)

pub returns-in_err-bytes : goal.returns-in_err-bytes
unfolding push_whole
returns-in_err-bytes g c = and_then _ c.in_ok-location.ensures.run (wanting c.from_residual-in_err-bytes.ensures.1)

pub returns-in_err-url : goal.returns-in_err-url
unfolding push_whole
returns-in_err-url g c = and_then _ c.in_ok-location.ensures.run (and_then _ (some_given _ _ _ c.if-content-eq0.false) (passed_on (rw c.in_ok-bytes.ensures at c.in_err-url.ensures.run) c.from_residual-in_err-url.ensures.1))

pub returns : goal.returns
unfolding push_whole
returns g c = and_then _ c.in_ok-location.ensures.run (and_then _ (some_given _ _ _ c.if-content-eq0.false) (rw c.in_ok-bytes.ensures at c.in_ok-url.ensures.run))
