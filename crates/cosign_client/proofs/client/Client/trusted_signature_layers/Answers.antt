use Rattle.std.proofs.Common.{refl}
use Rattle.engine_terms.specs.Contexts.{within}
use Rattle.cosign_client.specs.State.{client_state, trusts}
use Rattle.cosign_rows.proofs.Exits.{meets_wanting}
use Rattle.registry_cache.specs.Auths.{registry_auth}
use Rattle.registry_calls.specs.Direct.{reference_in}
use Rattle.cosign_laws.proofs.Causes.{search_cause}
use Rattle.cosign_laws.proofs.Confinement.{search_confined}
use Rattle.cosign_laws.proofs.DigestStep.{search_decided}
use Rattle.cosign_laws.proofs.Faults.{search_no_memory, search_faults}
use Rattle.cosign_laws.proofs.Refusals.{search_fault, search_no_sink}
use Rattle.cosign_client.proofs.client.Client.trusted_signature_layers.Goals as goal

pub returns-in_err-auth-clause-run : goal.returns-in_err-auth-clause-run
returns-in_err-auth-clause-run g c = meets_wanting _ refl c.from_residual.ensures.1

pub returns-clause-run : goal.returns-clause-run
returns-clause-run g c = rw (c.reference.ensures.inner, c.in_ok-auth.ensures) at ((c.search.ensures (client_state c.args.self.now).settings).made refl).1

pub returns-clause-settings : goal.returns-clause-settings
returns-clause-settings g c = ((c.search.ensures (client_state c.args.self.now).settings).made refl).0

pub returns-in_err-auth-clause-causes : goal.returns-in_err-auth-clause-causes
returns-in_err-auth-clause-causes g c = search_cause (trusts (g.V.SignatureVerifier.valid c.args.verifier.now) (g.O.Offline.vouched c.args.judge.now) c.args.self.now) (within (client_state c.args.self.now).settings c.args.moment) (reference_in c.args.source_image.now) (registry_auth c.args.auth.now) c.from_residual.result (meets_wanting {k = (client_state c.args.self.now).kept} _ refl c.from_residual.ensures.1)

pub returns-clause-causes : goal.returns-clause-causes
returns-clause-causes g c = search_cause (trusts (g.V.SignatureVerifier.valid c.args.verifier.now) (g.O.Offline.vouched c.args.judge.now) c.args.self.now) _ _ (registry_auth c.args.auth.now) c.search.result (rw (c.reference.ensures.inner, c.in_ok-auth.ensures) at ((c.search.ensures (client_state c.args.self.now).settings).made refl).1)

pub returns-in_err-auth-clause-digest : goal.returns-in_err-auth-clause-digest
returns-in_err-auth-clause-digest g c = search_decided (trusts (g.V.SignatureVerifier.valid c.args.verifier.now) (g.O.Offline.vouched c.args.judge.now) c.args.self.now) (within (client_state c.args.self.now).settings c.args.moment) (reference_in c.args.source_image.now) (registry_auth c.args.auth.now) c.from_residual.result (meets_wanting {k = (client_state c.args.self.now).kept} _ refl c.from_residual.ensures.1)

pub returns-clause-digest : goal.returns-clause-digest
returns-clause-digest g c = search_decided (trusts (g.V.SignatureVerifier.valid c.args.verifier.now) (g.O.Offline.vouched c.args.judge.now) c.args.self.now) _ _ (registry_auth c.args.auth.now) c.search.result (rw (c.reference.ensures.inner, c.in_ok-auth.ensures) at ((c.search.ensures (client_state c.args.self.now).settings).made refl).1)

pub returns-in_err-auth-clause-no_memory : goal.returns-in_err-auth-clause-no_memory
returns-in_err-auth-clause-no_memory g c = search_no_memory (trusts (g.V.SignatureVerifier.valid c.args.verifier.now) (g.O.Offline.vouched c.args.judge.now) c.args.self.now) (within (client_state c.args.self.now).settings c.args.moment) (reference_in c.args.source_image.now) (registry_auth c.args.auth.now) c.from_residual.result (meets_wanting {k = (client_state c.args.self.now).kept} {link = g.T.Transport.state c.args.transport.now} _ refl c.from_residual.ensures.1)

pub returns-in_err-auth-clause-faults : goal.returns-in_err-auth-clause-faults
returns-in_err-auth-clause-faults g c = search_faults (trusts (g.V.SignatureVerifier.valid c.args.verifier.now) (g.O.Offline.vouched c.args.judge.now) c.args.self.now) (within (client_state c.args.self.now).settings c.args.moment) (reference_in c.args.source_image.now) (registry_auth c.args.auth.now) {old = g.T.Transport.state c.args.transport.now} {new = g.T.Transport.state c.args.transport.now} c.from_residual.result (meets_wanting {k = (client_state c.args.self.now).kept} {link = g.T.Transport.state c.args.transport.now} _ refl c.from_residual.ensures.1)

pub returns-clause-no_memory : goal.returns-clause-no_memory
returns-clause-no_memory g c = search_no_memory (trusts (g.V.SignatureVerifier.valid c.args.verifier.now) (g.O.Offline.vouched c.args.judge.now) c.args.self.now) _ _ (registry_auth c.args.auth.now) c.search.result (rw (c.reference.ensures.inner, c.in_ok-auth.ensures) at ((c.search.ensures (client_state c.args.self.now).settings).made refl).1)

pub returns-clause-faults : goal.returns-clause-faults
returns-clause-faults g c = search_faults (trusts (g.V.SignatureVerifier.valid c.args.verifier.now) (g.O.Offline.vouched c.args.judge.now) c.args.self.now) _ _ (registry_auth c.args.auth.now) c.search.result (rw (c.reference.ensures.inner, c.in_ok-auth.ensures) at ((c.search.ensures (client_state c.args.self.now).settings).made refl).1)

pub returns-in_err-auth-clause-fault : goal.returns-in_err-auth-clause-fault
returns-in_err-auth-clause-fault g c = search_fault (trusts (g.V.SignatureVerifier.valid c.args.verifier.now) (g.O.Offline.vouched c.args.judge.now) c.args.self.now) (within (client_state c.args.self.now).settings c.args.moment) (reference_in c.args.source_image.now) (registry_auth c.args.auth.now) {old = g.T.Transport.state c.args.transport.now} {new = g.T.Transport.state c.args.transport.now} c.from_residual.result (meets_wanting {k = (client_state c.args.self.now).kept} {link = g.T.Transport.state c.args.transport.now} _ refl c.from_residual.ensures.1)

pub returns-clause-fault : goal.returns-clause-fault
returns-clause-fault g c = search_fault (trusts (g.V.SignatureVerifier.valid c.args.verifier.now) (g.O.Offline.vouched c.args.judge.now) c.args.self.now) _ _ (registry_auth c.args.auth.now) c.search.result (rw (c.reference.ensures.inner, c.in_ok-auth.ensures) at ((c.search.ensures (client_state c.args.self.now).settings).made refl).1)

pub returns-in_err-auth-clause-no_sink_fault : goal.returns-in_err-auth-clause-no_sink_fault
returns-in_err-auth-clause-no_sink_fault g c = search_no_sink (trusts (g.V.SignatureVerifier.valid c.args.verifier.now) (g.O.Offline.vouched c.args.judge.now) c.args.self.now) (within (client_state c.args.self.now).settings c.args.moment) (reference_in c.args.source_image.now) (registry_auth c.args.auth.now) {old = g.T.Transport.state c.args.transport.now} {new = g.T.Transport.state c.args.transport.now} c.from_residual.result (meets_wanting {k = (client_state c.args.self.now).kept} {link = g.T.Transport.state c.args.transport.now} _ refl c.from_residual.ensures.1)

pub returns-clause-no_sink_fault : goal.returns-clause-no_sink_fault
returns-clause-no_sink_fault g c = search_no_sink (trusts (g.V.SignatureVerifier.valid c.args.verifier.now) (g.O.Offline.vouched c.args.judge.now) c.args.self.now) _ _ (registry_auth c.args.auth.now) c.search.result (rw (c.reference.ensures.inner, c.in_ok-auth.ensures) at ((c.search.ensures (client_state c.args.self.now).settings).made refl).1)

pub returns-in_err-auth-clause-confined : goal.returns-in_err-auth-clause-confined
returns-in_err-auth-clause-confined g c = search_confined (trusts (g.V.SignatureVerifier.valid c.args.verifier.now) (g.O.Offline.vouched c.args.judge.now) c.args.self.now) (within (client_state c.args.self.now).settings c.args.moment) (reference_in c.args.source_image.now) (registry_auth c.args.auth.now) c.from_residual.result c.args.source_image.now.direct (meets_wanting {k = (client_state c.args.self.now).kept} {link = g.T.Transport.state c.args.transport.now} _ refl c.from_residual.ensures.1)

pub returns-clause-confined : goal.returns-clause-confined
returns-clause-confined g c = search_confined (trusts (g.V.SignatureVerifier.valid c.args.verifier.now) (g.O.Offline.vouched c.args.judge.now) c.args.self.now) (within (client_state c.args.self.now).settings c.args.moment) (reference_in c.args.source_image.now) (registry_auth c.args.auth.now) c.search.result c.args.source_image.now.direct (returns-clause-run g c)
