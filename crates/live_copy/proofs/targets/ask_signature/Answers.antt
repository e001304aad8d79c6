use Rattle.oci_engine.specs.Refusals.{at_moment}
use Rattle.oci_protocol.proofs.Exits.{done}
use Rattle.live_copy.proofs.AskedTags.{none_asked}
use Rattle.live_copy.proofs.BothTags.{of_payload}
use Rattle.live_copy.proofs.targets.ask_signature.Goals as goal

pub returns-in-Bundle-clause-run : goal.returns-in-Bundle-clause-run
returns-in-Bundle-clause-run g c = rw c.in-Bundle.is done

pub returns-in-Bundle-clause-confined : goal.returns-in-Bundle-clause-confined
returns-in-Bundle-clause-confined g c = none_asked (at_moment c.args.client.now c.args.moment) c.args.tag.now.reference c.args.auth.now _ _

pub returns-in-Payload-clause-run : goal.returns-in-Payload-clause-run
returns-in-Payload-clause-run g c = rw c.in-Payload.is c.ask_tag.ensures.run

pub returns-in-Payload-clause-of_tag : goal.returns-in-Payload-clause-of_tag
returns-in-Payload-clause-of_tag g c = of_payload _ c.args.kind c.ask_tag.result c.in-Payload.is c.ask_tag.ensures.of_tag
