use Rattle.serde_json.specs.View.{view}
use Rattle.live_blobs.proofs.CarryReady.{ready}
use Rattle.live_blobs.proofs.carry_settings.read_carry_settings.Goals as goal

pub returns-clause-ready : goal.returns-clause-ready
returns-clause-ready c = ready (view c.args.value.now) c.in_ok-settings.settings c.in_ok-settings.ensures
