use Rattle.std.proofs.Common.{[], ◌∷◌, ◌++◌, refl}
use Rattle.live_host.specs.Items.{decided_sent, documents_sent}
use Rattle.live_host.specs.HostErrors.{GiveCause}
use Rattle.live_host.proofs.Causes.{give_first, give_later, passed, tell_first}
use Rattle.live_host.proofs.FramesOut.{told_both}
use Rattle.live_pull.proofs.documents_delivery.give_decided.Goals as goal

pub returns-clause-told : goal.returns-clause-told
returns-clause-told g c =
    told_both (documents_sent c.args.documents.now) (decided_sent c.args.documents.now ∷ []) _ _ _ c.in_ok-give_documents.ensures.told (_, c.in_ok-give_end.ensures.told, refl)

pub returns-in_err-give_documents-clause-cause : goal.returns-in_err-give_documents-clause-cause
returns-in_err-give_documents-clause-cause g c =
    passed (GiveCause (documents_sent c.args.documents.now ++ decided_sent c.args.documents.now ∷ [])) _ _ _ _
    (give_first (documents_sent c.args.documents.now) (decided_sent c.args.documents.now ∷ []) _ _ _ c.in_err-give_documents.ensures.cause) c.from_residual.ensures

pub returns-in_err-give_end-clause-cause : goal.returns-in_err-give_end-clause-cause
returns-in_err-give_end-clause-cause g c =
    passed (GiveCause (documents_sent c.args.documents.now ++ decided_sent c.args.documents.now ∷ [])) _ _ _ _
    (give_later (documents_sent c.args.documents.now) (decided_sent c.args.documents.now ∷ []) _ _ _ _ c.in_ok-give_documents.ensures.told (tell_first _ [] _ _ _ c.in_err-give_end.ensures.cause)) c.from_residual-in_err-give_end.ensures
