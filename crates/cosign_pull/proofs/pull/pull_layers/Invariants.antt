use Rattle.std.proofs.Common.{drop}
use Rattle.engine_terms.specs.Contexts.{within}
use Rattle.engine_terms.specs.declared.settings.Settings.{Settings}
use Rattle.cosign_rows.specs.Image.{layers_row}
use Rattle.cosign_rows.proofs.Leads.{Leads}
use Rattle.cosign_pull.proofs.pull.pull_layers.Given as goal

-- the requests so far lead to the descriptors that are left
abbrev pub invariant-loop-descriptor : goal.invariant-loop-descriptor
invariant-loop-descriptor g l = (s : Settings) → Leads s (layers_row (within s l.moment) l.source l.descriptors l.fn.layers) (layers_row (within s l.moment) l.source (drop l.descriptor-index l.descriptors) l.layers) (g.C.ClientCapabilities.state l.fn.client) (g.C.ClientCapabilities.state l.client) (g.T.Transport.state l.fn.transport) (g.T.Transport.state l.transport)
