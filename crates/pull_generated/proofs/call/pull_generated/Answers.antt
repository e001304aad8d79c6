use Rattle.std.proofs.Common.{refl}
use Rattle.oci_auth.specs.declared.auth.RegistryAuth.TheVariants.{Anonymous}
use Rattle.cosign_laws.proofs.Causes.{pull_cause}
use Rattle.cosign_laws.proofs.Chains.{chain_of, links_of, backed_of}
use Rattle.cosign_laws.proofs.Confinement.{pull_confined}
use Rattle.cosign_laws.proofs.Faults.{pull_no_memory, pull_faults}
use Rattle.cosign_laws.proofs.Refusals.{pull_fault, pull_no_sink}
use Rattle.pull_generated.specs.Terms.{generated_context, fresh, generated_reference, generated_types, generated_meaning}
use Rattle.pull_generated.proofs.call.pull_generated.Goals as goal

pub returns-clause-chain : goal.returns-clause-chain
returns-clause-chain g c = chain_of fresh generated_context (generated_meaning c.args.layers) generated_reference Anonymous generated_types c.pulled.result c.pulled.ensures.run.1

pub returns-clause-backed : goal.returns-clause-backed
returns-clause-backed g c = backed_of fresh generated_context (generated_meaning c.args.layers) generated_reference Anonymous generated_types c.pulled.result c.pulled.ensures.run.1

pub returns-clause-links : goal.returns-clause-links
returns-clause-links g c = links_of fresh generated_context (generated_meaning c.args.layers) generated_reference Anonymous generated_types c.pulled.result c.pulled.ensures.run.1

pub returns-clause-causes : goal.returns-clause-causes
returns-clause-causes g c = (c.pulled.ensures.run.0, pull_cause (generated_meaning c.args.layers) generated_context generated_reference Anonymous generated_types c.pulled.result c.pulled.ensures.run.1)

pub returns-clause-fault : goal.returns-clause-fault
returns-clause-fault g c = pull_fault (generated_meaning c.args.layers) generated_context generated_reference Anonymous generated_types c.pulled.result c.pulled.ensures.run.1

pub returns-clause-no_sink_fault : goal.returns-clause-no_sink_fault
returns-clause-no_sink_fault g c = pull_no_sink (generated_meaning c.args.layers) generated_context generated_reference Anonymous generated_types c.pulled.result c.pulled.ensures.run.1

pub returns-clause-no_memory : goal.returns-clause-no_memory
returns-clause-no_memory g c = pull_no_memory (generated_meaning c.args.layers) generated_context generated_reference Anonymous generated_types c.pulled.result c.pulled.ensures.run.1

pub returns-clause-faults : goal.returns-clause-faults
returns-clause-faults g c = pull_faults (generated_meaning c.args.layers) generated_context generated_reference Anonymous generated_types c.pulled.result c.pulled.ensures.run.1

pub returns-clause-confined : goal.returns-clause-confined
returns-clause-confined g c = (c.pulled.ensures.run.0, pull_confined (generated_meaning c.args.layers) generated_context generated_reference Anonymous generated_types c.pulled.result refl c.pulled.ensures.run.1)
