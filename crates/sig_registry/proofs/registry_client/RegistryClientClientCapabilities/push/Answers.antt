use Rattle.sig_registry.proofs.registry_client.RegistryClientClientCapabilities.push.Goals as goal

pub returns-in-Plain : goal.returns-in-Plain
returns-in-Plain g c = rw c.in-Plain.is c.push.ensures

pub returns-in-Caching : goal.returns-in-Caching
returns-in-Caching g c = rw c.in-Caching.is c.push-in-Caching.ensures
