use Rattle.live_host.specs.HostErrors.{GiveCause}
use Rattle.live_host.specs.Items.{documents_sent}
use Rattle.live_host.proofs.Causes.{no_document, no_list, no_signature, passed}
use Rattle.live_host.proofs.FramesOut.{told_documents}
use Rattle.live_host.proofs.documents.give_documents.Goals as goal

pub returns-clause-told : goal.returns-clause-told
returns-clause-told g c = told_documents c.args.documents.now _ _ _ _ c.in_ok-give_index.ensures.told c.in_ok-give_manifest.ensures.told c.in_ok-give_signature.ensures.told

pub returns-in_err-give_index-clause-cause : goal.returns-in_err-give_index-clause-cause
returns-in_err-give_index-clause-cause g c = passed (GiveCause (documents_sent c.args.documents.now)) _ _ _ _ (no_list c.args.documents.now _ _ _ c.in_err-give_index.ensures.cause) c.from_residual.ensures

pub returns-in_err-give_manifest-clause-cause : goal.returns-in_err-give_manifest-clause-cause
returns-in_err-give_manifest-clause-cause g c = passed (GiveCause (documents_sent c.args.documents.now)) _ _ _ _ (no_document c.args.documents.now _ _ _ _ c.in_ok-give_index.ensures.told c.in_err-give_manifest.ensures.cause) c.from_residual-in_err-give_manifest.ensures

pub returns-in_err-give_signature-clause-cause : goal.returns-in_err-give_signature-clause-cause
returns-in_err-give_signature-clause-cause g c = passed (GiveCause (documents_sent c.args.documents.now)) _ _ _ _ (no_signature c.args.documents.now _ _ _ _ _ c.in_ok-give_index.ensures.told c.in_ok-give_manifest.ensures.told c.in_err-give_signature.ensures.cause) c.from_residual-in_err-give_signature.ensures
