use Rattle.oci_protocol.proofs.Exits.{refused, and_then, said, done, passed_on}
use Rattle.engine_pull.proofs.documents.digest_by.Goals as goal

pub returns-in_err-_body-in-ByHeader : goal.returns-in_err-_body-in-ByHeader
returns-in_err-_body-in-ByHeader g c = rw c.in-ByHeader.is (refused _ (said _ c.in_err-_body-in-ByHeader.ensures) c.from_residual.ensures.1)

pub returns-in_err-digest-in-ByHeader : goal.returns-in_err-digest-in-ByHeader
returns-in_err-digest-in-ByHeader g c = rw c.in-ByHeader.is (and_then _ (said _ c.in_ok-_body-in-ByHeader.ensures) (passed_on (said _ c.in_err-digest-in-ByHeader.ensures) c.from_residual-in_err-digest-in-ByHeader.ensures.1))

pub returns-in_ok-digest-in-ByHeader : goal.returns-in_ok-digest-in-ByHeader
returns-in_ok-digest-in-ByHeader g c = rw c.in-ByHeader.is (and_then _ (said _ c.in_ok-_body-in-ByHeader.ensures) (said _ c.in_ok-digest-in-ByHeader.ensures))

pub returns-in_err-found-in-Unnamed : goal.returns-in_err-found-in-Unnamed
returns-in_err-found-in-Unnamed g c = rw c.in-Unnamed.is (refused _ c.in_err-found-in-Unnamed.ensures c.from_residual-in_err-found-in-Unnamed.ensures.1)

pub returns-in_ok-found-in-Unnamed : goal.returns-in_ok-found-in-Unnamed
returns-in_ok-found-in-Unnamed g c = rw c.in-Unnamed.is (and_then _ c.in_ok-found-in-Unnamed.ensures done)
