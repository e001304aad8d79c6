use Rattle.pull_lock.proofs.EntryDocuments.{led}
use Rattle.pull_lock.proofs.documents.has_manifest.Goals as goal

pub returns : goal.returns
returns c = led _ c.args.entry.now c.leads.result c.leads.ensures
