use Rattle.serde_json.specs.View.{view}
use Rattle.live_pull.proofs.Ready.{documents_ready}
use Rattle.live_pull.proofs.settings.read_document_settings.Goals as goal

pub returns-clause-ready : goal.returns-clause-ready
returns-clause-ready c = documents_ready (view c.args.value.now) c.in_ok-settings.settings c.in_ok-settings.ensures
