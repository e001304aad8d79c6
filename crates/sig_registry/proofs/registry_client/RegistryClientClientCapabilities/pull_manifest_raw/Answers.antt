use Rattle.sig_registry.proofs.registry_client.RegistryClientClientCapabilities.pull_manifest_raw.Goals as goal

pub returns-in-Plain : goal.returns-in-Plain
returns-in-Plain g c = rw c.in-Plain.is c.pull_manifest_raw.ensures

pub returns-in-Caching : goal.returns-in-Caching
returns-in-Caching g c = rw c.in-Caching.is c.pull_manifest_raw-in-Caching.ensures
