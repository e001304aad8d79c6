use Rattle.json_values.specs.JsonText.{plain_json_of}
use Rattle.locked_cases.proofs.ChainReady.{json_ready}
use Rattle.locked_cases.proofs.chain_input.read_chain_input.Goals as goal

pub returns-clause-ready : goal.returns-clause-ready
returns-clause-ready c = rw c.in_ok-input.ensures (json_ready (plain_json_of c.args.bytes.now))
