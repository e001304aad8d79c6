use Rattle.cosign_client.specs.State.{client_state}
use Rattle.live_pull.proofs.CourseParts.{asked_decides, asked_in_part}
use Rattle.live_pull.proofs.documents.ask_and_decide.Goals as goal

pub returns-in-Ok-clause-decided : goal.returns-in-Ok-clause-decided
returns-in-Ok-clause-decided g c =
    asked_decides _ c.args.terms.now c.args.client.now.rekor_pub_keys (client_state c.args.client.now).settings c.in-Ok.answers c.args.found _ _ _ _ _ c.finish.result.outcome (rw c.in-Ok.is at c.ask_layers-asked.ensures.asked) (rw (c.in-Ok.is, c.as_slice.ensures, c.as_slice-2.ensures) at c.ask_layers-asked.ensures.about) c.finish.ensures.decided

pub returns-in-Err-clause-decided : goal.returns-in-Err-clause-decided
returns-in-Err-clause-decided g c = rw (c.undecided.ensures, c.from.ensures) (asked_in_part (client_state c.args.client.now).kept _ _ c.in-Err.error (rw c.in-Err.is at c.ask_layers-asked.ensures.cause))
