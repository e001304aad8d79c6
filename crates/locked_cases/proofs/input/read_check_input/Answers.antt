use Rattle.json_values.specs.JsonText.{plain_json_of}
use Rattle.locked_cases.proofs.Ready.{json_check_ready}
use Rattle.locked_cases.proofs.input.read_check_input.Goals as goal

pub returns-clause-ready : goal.returns-clause-ready
returns-clause-ready c = rw c.in_ok-input.ensures (json_check_ready (plain_json_of c.args.bytes.now))
