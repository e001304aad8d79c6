use Rattle.std.proofs.Common.{◌∙◌}
use Rattle.index_mirrors.specs.Terms.{source_of}
use Rattle.index_mirrors.proofs.WholeIndex.{image_stopped, index_ends, no_index, unbegun}
use Rattle.index_mirrors.proofs.indexes.mirror_index.Goals as goal

pub returns-in_err-entries-clause-course : goal.returns-in_err-entries-clause-course
returns-in_err-entries-clause-course g c = unbegun _ _ _ _ _ _ c.from_residual.result c.from_residual.ensures.1

pub returns-in_default-clause-course : goal.returns-in_default-clause-course
returns-in_default-clause-course g c = no_index (source_of c.args.terms.now) c.args.documents.now _ c.in_ok-entries.field-0 c.in_default.is c.in_ok-entries.ensures

pub returns-in_err-mirror_entries-clause-course : goal.returns-in_err-mirror_entries-clause-course
returns-in_err-mirror_entries-clause-course g c =
    image_stopped _ _ _ _ _ c.in_ok-entries.field-0 c.in-Some.entries _ _ c.from_residual-in_err-mirror_entries.result _ c.in-Some.is c.in_ok-entries.ensures c.from_residual-in_err-mirror_entries.ensures.1
    (rw c.as_slice-entries.ensures at c.in_err-mirror_entries.ensures.course)

pub returns-in_err-mirror_entries-clause-settings : goal.returns-in_err-mirror_entries-clause-settings
returns-in_err-mirror_entries-clause-settings g c = c.in_err-mirror_entries.ensures.settings

pub returns-clause-course : goal.returns-clause-course
returns-clause-course g c =
    index_ends _ _ _ _ _ c.in_ok-entries.field-0 c.in-Some.entries _ _ _ c.push_index.result c.in-Some.is c.in_ok-entries.ensures (rw c.as_slice-entries.ensures at c.in_ok-mirror_entries.ensures.course)
    (rw c.in_ok-mirror_entries.ensures.settings at (c.push_index.ensures.ends (g.A.Transport.state c.mirror_entries.new.transport)))

pub returns-clause-settings : goal.returns-clause-settings
returns-clause-settings g c = c.push_index.ensures.settings ∙ c.in_ok-mirror_entries.ensures.settings
