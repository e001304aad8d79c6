use Rattle.json_values.specs.JsonText.{plain_json_of}
use Rattle.pull_admit.proofs.Ready.{json_ready}
use Rattle.pull_admit.proofs.input.read_review_input.Goals as goal

pub returns-clause-ready : goal.returns-clause-ready
returns-clause-ready c = rw c.in_ok-input.ensures (json_ready (plain_json_of c.args.bytes.now))
