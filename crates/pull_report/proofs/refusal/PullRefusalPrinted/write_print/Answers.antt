use Rattle.pull_report.proofs.refusal.PullRefusalPrinted.write_print.Goals as goal

pub returns-in-RegistryFetchManifestError : goal.returns-in-RegistryFetchManifestError
returns-in-RegistryFetchManifestError c =
    rw c.in-RegistryFetchManifestError.is c.print_row-in-RegistryFetchManifestError.ensures

pub returns-in-RegistryPullError : goal.returns-in-RegistryPullError
returns-in-RegistryPullError c = rw c.in-RegistryPullError.is c.print_row-in-RegistryPullError.ensures

pub returns-in-Unsatisfied : goal.returns-in-Unsatisfied
returns-in-Unsatisfied c = rw c.in-Unsatisfied.is c.print_row-in-Unsatisfied.ensures

pub returns-in-WantOfMemory : goal.returns-in-WantOfMemory
returns-in-WantOfMemory c = rw c.in-WantOfMemory.is c.word-in-WantOfMemory.ensures
