use Rattle.std.proofs.Common.{◌∙◌, inl}
use Rattle.oci_engine.specs.Refusals.{at_moment}
use Rattle.live_copy.proofs.AskedTags.{passed_tag, tag_passed, tag_unasked}
use Rattle.live_copy.proofs.BothTags.{both_within, document_ended, document_free, first_only, not_tags, signature_stopped}
use Rattle.live_copy.proofs.targets.ask_tags.Goals as goal

pub returns-in_err-document-clause-run : goal.returns-in_err-document-clause-run
returns-in_err-document-clause-run g c = tag_unasked c.from_residual.result c.from_residual.ensures.1

pub returns-in_err-document-clause-confined : goal.returns-in_err-document-clause-confined
returns-in_err-document-clause-confined g c = not_tags (at_moment c.args.client.now c.args.moment) c.args.target.now _ c.args.auth.now _ _

pub returns-in_err-document-clause-stopped : goal.returns-in_err-document-clause-stopped
returns-in_err-document-clause-stopped g c = passed_tag _ c.from_residual.result _ c.from_residual.ensures.1 (inl tt)

pub returns-in_err-signature-clause-run : goal.returns-in_err-signature-clause-run
returns-in_err-signature-clause-run g c = tag_unasked c.from_residual-in_err-signature.result c.from_residual-in_err-signature.ensures.1

pub returns-in_err-signature-clause-confined : goal.returns-in_err-signature-clause-confined
returns-in_err-signature-clause-confined g c = not_tags (at_moment c.args.client.now c.args.moment) c.args.target.now _ c.args.auth.now _ _

pub returns-in_err-signature-clause-stopped : goal.returns-in_err-signature-clause-stopped
returns-in_err-signature-clause-stopped g c = passed_tag _ c.from_residual-in_err-signature.result _ c.from_residual-in_err-signature.ensures.1 (inl tt)

pub returns-in_err-ask_tag-clause-run : goal.returns-in_err-ask_tag-clause-run
returns-in_err-ask_tag-clause-run g c =
    tag_passed c.from_residual-in_err-ask_tag.result _ c.from_residual-in_err-ask_tag.ensures.1 (document_ended (at_moment c.args.client.now c.args.moment) c.args.target.now c.args.auth.now c.args.found.now _ (rw c.in_ok-document.ensures at c.in_err-ask_tag.ensures.run))

pub returns-in_err-ask_tag-clause-settings : goal.returns-in_err-ask_tag-clause-settings
returns-in_err-ask_tag-clause-settings g c = c.in_err-ask_tag.ensures.settings

pub returns-in_err-ask_tag-clause-confined : goal.returns-in_err-ask_tag-clause-confined
returns-in_err-ask_tag-clause-confined g c = first_only (at_moment c.args.client.now c.args.moment) c.args.target.now _ c.args.auth.now (rw c.in_ok-document.ensures at c.in_err-ask_tag.ensures.confined)

pub returns-in_err-ask_tag-clause-stopped : goal.returns-in_err-ask_tag-clause-stopped
returns-in_err-ask_tag-clause-stopped g c = passed_tag _ c.from_residual-in_err-ask_tag.result _ c.from_residual-in_err-ask_tag.ensures.1 (inl (rw c.in_ok-document.ensures at c.in_err-ask_tag.ensures.of_tag))

pub returns-clause-run : goal.returns-clause-run
returns-clause-run g c =
    document_free (at_moment c.args.client.now c.args.moment) c.args.target.now c.args.auth.now c.args.found.now (rw c.in_ok-document.ensures at c.in_ok-ask_tag.ensures.run)
    (rw (c.in_ok-ask_tag.ensures.settings, c.in_ok-signature.ensures) at c.ask_signature.ensures.run)

pub returns-clause-settings : goal.returns-clause-settings
returns-clause-settings g c = c.ask_signature.ensures.settings ∙ c.in_ok-ask_tag.ensures.settings

pub returns-clause-confined : goal.returns-clause-confined
returns-clause-confined g c =
    both_within (at_moment c.args.client.now c.args.moment) c.args.target.now _ c.args.auth.now (rw c.in_ok-document.ensures at c.in_ok-ask_tag.ensures.confined)
    (rw (c.in_ok-ask_tag.ensures.settings, c.in_ok-signature.ensures) at c.ask_signature.ensures.confined)

pub returns-clause-stopped : goal.returns-clause-stopped
returns-clause-stopped g c =
    signature_stopped (at_moment c.args.client.now c.args.moment) c.args.target.now c.args.auth.now c.args.found.now _ _ c.ask_signature.result (rw c.in_ok-document.ensures at c.in_ok-ask_tag.ensures.run)
    (rw (c.in_ok-ask_tag.ensures.settings, c.in_ok-signature.ensures) at c.ask_signature.ensures.of_tag)
