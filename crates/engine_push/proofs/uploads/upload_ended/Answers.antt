use Rattle.oci_protocol.proofs.Exits.{refused, and_then, said, passed_on}
use Rattle.engine_rows.proofs.Exits.{wanting}
use Rattle.push_rows.specs.Uploads.{upload_ended}
use Rattle.push_rows.proofs.Carried.{carries_none, sends_nothing, sends_as}
use Rattle.engine_push.proofs.uploads.upload_ended.Goals as goal

pub returns-in_err-read-clause-run : goal.returns-in_err-read-clause-run
unfolding upload_ended
returns-in_err-read-clause-run g c = refused _ (said _ c.in_err-read.ensures) c.from_residual.ensures.1

pub returns-in_err-read-clause-sends : goal.returns-in_err-read-clause-sends
returns-in_err-read-clause-sends g c = sends_nothing _ _ _ c.from_residual.ensures.1 (carries_none _)

pub returns-in_err-url-clause-run : goal.returns-in_err-url-clause-run
unfolding upload_ended
returns-in_err-url-clause-run g c = and_then _ (said _ c.in_ok-read.ensures) (wanting c.from_residual-in_err-url.ensures.1)

pub returns-in_err-url-clause-sends : goal.returns-in_err-url-clause-sends
returns-in_err-url-clause-sends g c = sends_nothing _ _ _ c.from_residual-in_err-url.ensures.1 (carries_none _)

pub sent-requires : goal.sent-requires
sent-requires g c = c.requires

pub returns-in_err-location-clause-run : goal.returns-in_err-location-clause-run
unfolding upload_ended
returns-in_err-location-clause-run g c = and_then _ (said _ c.in_ok-read.ensures) (passed_on (rw c.in_ok-url.ensures at c.in_err-location.ensures.run) c.from_residual-in_err-location.ensures.1)

pub returns-in_err-location-clause-sends : goal.returns-in_err-location-clause-sends
returns-in_err-location-clause-sends g c = sends_as _ _ _ c.from_residual-in_err-location.ensures.1 c.in_err-location.ensures.sends

pub returns-clause-run : goal.returns-clause-run
unfolding upload_ended
returns-clause-run g c = and_then _ (said _ c.in_ok-read.ensures) (rw c.in_ok-url.ensures at c.in_ok-location.ensures.run)

pub returns-clause-sends : goal.returns-clause-sends
returns-clause-sends g c = c.in_ok-location.ensures.sends
