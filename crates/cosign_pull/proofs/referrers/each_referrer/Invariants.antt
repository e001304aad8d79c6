use Rattle.std.proofs.Common.{drop}
use Rattle.engine_terms.specs.Contexts.{within}
use Rattle.engine_terms.specs.declared.settings.Settings.{Settings}
use Rattle.cosign_parts.specs.Trust.{trust_of}
use Rattle.cosign_rows.specs.Search.{referrers_row}
use Rattle.cosign_rows.proofs.Leads.{Leads}
use Rattle.cosign_pull.specs.Gathered.{gathered}
use Rattle.cosign_pull.proofs.referrers.each_referrer.Given as goal

-- the requests so far lead to the referrers that are left
abbrev pub invariant-loop-entry : goal.invariant-loop-entry
invariant-loop-entry g l = (s : Settings) → let trust = trust_of g.V.SignatureVerifier.valid g.O.Offline.vouched l.referred.trusted.now in
    Leads s (gathered l.fn.part (referrers_row trust l.referred.digest.now (within s l.referred.moment) l.referred.image.now l.referred.auth.now l.entries)) (gathered l.part (referrers_row trust l.referred.digest.now (within s l.referred.moment) l.referred.image.now l.referred.auth.now (drop l.entry-index l.entries)))
    (g.C.ClientCapabilities.state l.fn.client) (g.C.ClientCapabilities.state l.client) (g.T.Transport.state l.fn.transport) (g.T.Transport.state l.transport)
