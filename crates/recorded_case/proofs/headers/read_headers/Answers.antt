use Rattle.std.proofs.Common.{sym, ap, ◌∙◌}
use Rattle.std.specs.FinMap.{empty}
use Rattle.recorded_case.specs.Answer.{headers_of}
use Rattle.recorded_case.specs.Members.{unless_absent}
use Rattle.recorded_case.proofs.HeaderReads.{headers_read}
use Rattle.recorded_case.proofs.headers.read_headers.Goals as goal

pub returns-in-Some-2 : goal.returns-in-Some-2
returns-in-Some-2 c = ap (unless_absent empty headers_of) (sym c.in-Some.ensures) ∙ headers_read _ _ _ _ _ c.in_ok-pairs.ensures c.as_slice.ensures c.in_ok-headers.ensures c.in-Some-2.is

pub returns : goal.returns
returns c = ap (unless_absent empty headers_of) (sym c.in-Some.ensures) ∙ headers_read _ _ _ _ _ c.in_ok-pairs.ensures c.as_slice.ensures c.in_ok-headers.ensures c.in-None.is
