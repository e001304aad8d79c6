use Rattle.pull_report.proofs.registry.DigestErrorPrinted.write_print.Goals as goal

pub returns-in-VerificationError : goal.returns-in-VerificationError
returns-in-VerificationError c = rw c.in-VerificationError.is c.print_row-in-VerificationError.ensures

pub returns-in-WantOfMemory : goal.returns-in-WantOfMemory
returns-in-WantOfMemory c = rw c.in-WantOfMemory.is c.word-in-WantOfMemory.ensures
