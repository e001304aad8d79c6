use Rattle.pull_generated.proofs.layers.add_layer.Goals as goal

pub returns-clause-descriptors : goal.returns-clause-descriptors
returns-clause-descriptors c = rw (c.in_ok-descriptor.ensures, c.as_str.ensures, c.in_ok-digest.ensures, c.as_slice-bytes.ensures, c.in_ok-content.ensures) at c.in_ok-push.ensures.ok
