use Rattle.pull_report.proofs.registry.SigstoreErrorPrinted.write_print.Goals as goal

pub returns-in-RegistryFetchManifestError : goal.returns-in-RegistryFetchManifestError
returns-in-RegistryFetchManifestError c =
    rw c.in-RegistryFetchManifestError.is c.print_row-in-RegistryFetchManifestError.ensures

pub returns-in-RegistryPullError : goal.returns-in-RegistryPullError
returns-in-RegistryPullError c = rw c.in-RegistryPullError.is c.print_row-in-RegistryPullError.ensures

pub returns-in-RegistryPullManifestError : goal.returns-in-RegistryPullManifestError
returns-in-RegistryPullManifestError c =
    rw c.in-RegistryPullManifestError.is c.print_row-in-RegistryPullManifestError.ensures

pub returns-in-RegistryPushError : goal.returns-in-RegistryPushError
returns-in-RegistryPushError c = rw c.in-RegistryPushError.is c.print_row-in-RegistryPushError.ensures

pub returns-in-WantOfMemory : goal.returns-in-WantOfMemory
returns-in-WantOfMemory c = rw c.in-WantOfMemory.is c.word.ensures
