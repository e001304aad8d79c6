use Rattle.index_mirrors.proofs.entries.push_owned.Goals as goal

pub returns-clause-pushed : goal.returns-clause-pushed
returns-clause-pushed g c = c.push_found-ended.ensures.pushed

pub returns-clause-settings : goal.returns-clause-settings
returns-clause-settings g c = c.push_found-ended.ensures.settings
