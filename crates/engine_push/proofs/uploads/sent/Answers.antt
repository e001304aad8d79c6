use Rattle.std.proofs.Common.{ℕ, List, Result, Ok}
use Rattle.engine_terms.specs.declared.error.OciDistributionError.{OciDistributionError}
use Rattle.push_rows.specs.Contents.{bytes_of}
use Rattle.push_rows.specs.PieceStates.{part}
use Rattle.oci_protocol.proofs.Exits.{refused, and_then, said, passed_on}
use Rattle.push_rows.specs.Uploads.{sent}
use Rattle.push_rows.proofs.Carried.{sends_behind, sends_nothing}
use Rattle.engine_push.proofs.LocationTree.{location_sends, as_sent}
use Rattle.push_rows.proofs.Quiet.{token_bodiless}
use Rattle.engine_push.proofs.uploads.sent.Goals as goal

pub returns-in_err-token-clause-run : goal.returns-in_err-token-clause-run
unfolding sent
returns-in_err-token-clause-run g c = refused _ c.in_err-token.ensures c.from_residual.ensures.1

pub returns-in_err-token-clause-sends : goal.returns-in_err-token-clause-sends
returns-in_err-token-clause-sends g c = sends_nothing _ _ _ c.from_residual.ensures.1 (token_bodiless _ _ _ _ c.in_err-token.ensures)

pub returns-in_err-bare-clause-run : goal.returns-in_err-bare-clause-run
unfolding sent
returns-in_err-bare-clause-run g c = and_then _ c.in_ok-token.ensures (refused _ (said _ c.in_err-bare.ensures) c.from_residual-in_err-bare.ensures.1)

pub returns-in_err-bare-clause-sends : goal.returns-in_err-bare-clause-sends
returns-in_err-bare-clause-sends g c = sends_nothing _ _ _ c.from_residual-in_err-bare.ensures.1 (token_bodiless _ _ _ _ c.in_ok-token.ensures)

pub with_content-requires : goal.with_content-requires
with_content-requires g c = c.requires

pub returns-in_err-request-clause-run : goal.returns-in_err-request-clause-run
unfolding sent
returns-in_err-request-clause-run g c = and_then _ c.in_ok-token.ensures (and_then _ (said _ c.in_ok-bare.ensures) (refused _ (said _ c.in_err-request.ensures) c.from_residual-in_err-request.ensures.1))

pub returns-in_err-request-clause-sends : goal.returns-in_err-request-clause-sends
returns-in_err-request-clause-sends g c = sends_nothing _ _ _ c.from_residual-in_err-request.ensures.1 (token_bodiless _ _ _ _ c.in_ok-token.ensures)

pub returns-in_err-location-clause-run : goal.returns-in_err-location-clause-run
unfolding sent
returns-in_err-location-clause-run g c = and_then _ c.in_ok-token.ensures (and_then _ (said _ c.in_ok-bare.ensures) (and_then _ (said _ c.in_ok-request.ensures) (passed_on (c.in_err-location.ensures _) c.from_residual-in_err-location.ensures.1)))

pub returns-in_err-location-clause-sends : goal.returns-in_err-location-clause-sends
returns-in_err-location-clause-sends g c = sends_behind _ _ _ _ _ (token_bodiless _ _ _ _ c.in_ok-token.ensures) (as_sent _ _ _ _ _ _ c.in_ok-request.ensures (location_sends _ _ _ _ _ (passed_on (c.in_err-location.ensures c.args.memory.now) c.from_residual-in_err-location.ensures.1)))

pub returns-clause-run : goal.returns-clause-run
unfolding sent
returns-clause-run g c = and_then _ c.in_ok-token.ensures (and_then _ (said _ c.in_ok-bare.ensures) (and_then _ (said _ c.in_ok-request.ensures) (c.in_ok-location.ensures _)))

pub returns-clause-sends : goal.returns-clause-sends
returns-clause-sends g c =
    let r : Result (List ℕ) OciDistributionError = Ok c.in_ok-location.location in
    sends_behind (part (bytes_of c.args.content)) _ _ _ r (token_bodiless _ _ _ _ c.in_ok-token.ensures) (as_sent c.args.content _ _ _ _ r c.in_ok-request.ensures (location_sends _ _ _ _ r (c.in_ok-location.ensures c.args.memory.now)))
