use Rattle.std.proofs.Common.{sym}
use Rattle.registry_calls.specs.Direct.{reference_in}
use Rattle.index_mirrors.proofs.IndexEntries.{entries_read, other_digest}
use Rattle.index_mirrors.proofs.indexes.index_entries.Goals as goal

pub returns-then-not-has_digest : goal.returns-then-not-has_digest
returns-then-not-has_digest c = other_digest (reference_in c.args.index.now) c.args.documents.now (rw (c.digest.ensures, c.reference.ensures.inner) at (sym c.if-not-has_digest.ensures))

pub returns : goal.returns
returns c = entries_read (reference_in c.args.index.now) c.args.documents.now _ (rw (c.digest.ensures, c.reference.ensures.inner) at (sym c.if-not-has_digest.ensures)) c.in_ok-entries.ensures
