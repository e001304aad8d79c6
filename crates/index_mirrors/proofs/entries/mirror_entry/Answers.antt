use Rattle.index_mirrors.proofs.OneImage.{course_unbegun}
use Rattle.index_mirrors.proofs.entries.mirror_entry.Goals as goal

pub returns-in_err-name-clause-course : goal.returns-in_err-name-clause-course
returns-in_err-name-clause-course g c = course_unbegun _ _ _ _ _ c.from_residual.result c.from_residual.ensures.1

pub returns-clause-course : goal.returns-clause-course
returns-clause-course g c = record {
  result = c.pull_entry-pulled.result;
  pulled = c.pull_entry-pulled.ensures;
  pushed = rw c.in_ok-name.ensures at c.push_pulled.ensures.pushed;
}

pub returns-clause-settings : goal.returns-clause-settings
returns-clause-settings g c = c.push_pulled.ensures.settings
