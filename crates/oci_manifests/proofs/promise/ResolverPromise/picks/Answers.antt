use Rattle.oci_manifests.proofs.ExactPicks.{picked}
use Rattle.oci_manifests.proofs.promise.ResolverPromise.picks.Goals as goal

pub returns-clause-exact : goal.returns-clause-exact
returns-clause-exact c = picked _ _ _ _ c.is_picked.ensures
