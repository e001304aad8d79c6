use Rattle.std.proofs.Common.{[], refl}
use Rattle.live_host.specs.HostErrors.{GiveCause}
use Rattle.live_host.specs.Items.{index_sent}
use Rattle.live_host.proofs.Causes.{passed, tell_first}
use Rattle.live_host.proofs.items.give_index.Goals as goal

pub returns-in_err-give_document-clause-cause : goal.returns-in_err-give_document-clause-cause
returns-in_err-give_document-clause-cause g c =
    passed (GiveCause (index_sent c.args.list.now c.args.bytes.now)) _ _ _ _ (rw c.in-Some.is (tell_first _ [] _ _ _ c.in_err-give_document.ensures.cause)) c.from_residual.ensures

pub returns-clause-told : goal.returns-clause-told
returns-clause-told g c = rw c.in-Some.is (_, c.in_ok-give_document.ensures.told, refl)
