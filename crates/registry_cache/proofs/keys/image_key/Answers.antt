use Rattle.registry_cache.proofs.keys.image_key.Goals as goal

pub returns : goal.returns
returns c = rw (c.in_ok-key.ensures.key, c.in_ok-settings.ensures) at c.if_it_reads_back.ensures
