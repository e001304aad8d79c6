use Rattle.std.proofs.Common.{sym, ap, ◌∙◌}
use Rattle.std.specs.Prelude.{option_copied}
use Rattle.live_host.proofs.QuestionSteps.{asks_none, log_asked}
use Rattle.live_host.proofs.questions.ask_log.Goals as goal

pub returns-in_default-clause-asked : goal.returns-in_default-clause-asked
returns-in_default-clause-asked g c = asks_none _ _

pub returns-in_default-get-clause-asked : goal.returns-in_default-get-clause-asked
returns-in_default-get-clause-asked g c = asks_none _ _

pub returns-clause-asked : goal.returns-clause-asked
returns-clause-asked g c = c.in_ok-ask_key.ensures.asked

pub returns-clause-about : goal.returns-clause-about
returns-clause-about g c =
    log_asked _ c.args.log_keys.now c.args.layer.now.bundle c.in-Some.entry c.in_ok-message.message c.in-Some-get.key.now c.in-Some.is (rw c.as_str.ensures at (sym c.get.ensures ∙ ap option_copied c.in-Some-get.is)) c.in_ok-message.ensures c.in_ok-ask_key.ensures.about
