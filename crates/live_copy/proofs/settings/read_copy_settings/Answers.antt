use Rattle.serde_json.specs.View.{view}
use Rattle.live_copy.proofs.Ready.{ready}
use Rattle.live_copy.proofs.settings.read_copy_settings.Goals as goal

pub returns-clause-ready : goal.returns-clause-ready
returns-clause-ready c = ready (view c.args.value.now) c.in_ok-settings.settings c.in_ok-settings.ensures
