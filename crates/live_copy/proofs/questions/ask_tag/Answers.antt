use Rattle.oci_engine.specs.Refusals.{at_moment}
use Rattle.live_copy.proofs.AskedTags.{named_met, named_other, none_asked, passed_tag, refused_met, refused_unread, tag_unasked}
use Rattle.live_copy.proofs.questions.ask_tag.Goals as goal

pub returns-in_err-name-clause-run : goal.returns-in_err-name-clause-run
returns-in_err-name-clause-run g c = tag_unasked c.from_residual.result c.from_residual.ensures.1

pub returns-in_err-name-clause-confined : goal.returns-in_err-name-clause-confined
returns-in_err-name-clause-confined g c = none_asked (at_moment c.args.client.now c.args.moment) c.args.tag.now.reference c.args.auth.now _ _

pub returns-in_err-name-clause-of_tag : goal.returns-in_err-name-clause-of_tag
returns-in_err-name-clause-of_tag g c = passed_tag _ c.from_residual.result _ c.from_residual.ensures.1 tt

pub returns-in-Ok-clause-run : goal.returns-in-Ok-clause-run
returns-in-Ok-clause-run g c = named_met (at_moment c.args.client.now c.args.moment) c.args.auth.now c.args.tag.now c.in-Ok.digest c.tag_named.result c.tag_named.ensures.shown c.in-Ok.ensures.run

pub returns-in-Ok-clause-of_tag : goal.returns-in-Ok-clause-of_tag
returns-in-Ok-clause-of_tag g c = named_other (at_moment c.args.client.now c.args.moment) c.args.auth.now c.args.tag.now c.in-Ok.digest c.tag_named.result (rw c.in_ok-name.ensures at c.tag_named.ensures.says) c.in-Ok.ensures.run

pub returns-in-Err-clause-run : goal.returns-in-Err-clause-run
returns-in-Err-clause-run g c = refused_met (at_moment c.args.client.now c.args.moment) c.args.auth.now c.args.tag.now c.in-Err.error c.tag_refused.result c.tag_refused.ensures.read c.tag_refused.ensures.memory c.in-Err.ensures.run

pub returns-in-Err-clause-of_tag : goal.returns-in-Err-clause-of_tag
returns-in-Err-clause-of_tag g c = refused_unread (at_moment c.args.client.now c.args.moment) c.args.auth.now c.args.tag.now c.in-Err.error c.tag_refused.result (rw c.in_ok-name.ensures at c.tag_refused.ensures.says) c.in-Err.ensures.run
