use Rattle.registry_calls.specs.Direct.{reference_in}
use Rattle.cosign_client.specs.State.{client_state}
use Rattle.pull_admit.specs.OneImage.{terms_in}
use Rattle.pull_admit.proofs.OneImages.{decided, decided_ok, keeps}
use Rattle.pull_admit.proofs.decisions.pull.Goals as goal

pub returns-clause-decided : goal.returns-clause-decided
returns-clause-decided g c =
    decided_ok (terms_in g.V.SignatureVerifier.valid g.O.Offline.vouched (λ b. (goal.VerificationConstraint-dyn g (b.vtable, b.value)).accepts b.value) c.args.pulling.now c.args.client.now.rekor_pub_keys (client_state c.args.client.now).settings)
    (reference_in c.args.image.now) c.decide.result c.verified_pull-outcome.result c.decide.ensures.decision c.decide.ensures.whole
    (λ whole x parses. decided (terms_in g.V.SignatureVerifier.valid g.O.Offline.vouched (λ b. (goal.VerificationConstraint-dyn g (b.vtable, b.value)).accepts b.value) c.args.pulling.now c.args.client.now.rekor_pub_keys (client_state c.args.client.now).settings)
    x (reference_in c.args.image.now) c.verified_pull-outcome.result parses whole c.verified_pull-outcome.ensures.run c.verified_pull-outcome.ensures.fault c.verified_pull-outcome.ensures.no_memory c.verified_pull-outcome.ensures.completes_wide)

pub returns-clause-keeps : goal.returns-clause-keeps
returns-clause-keeps g c = λ x parses.
    keeps (terms_in g.V.SignatureVerifier.valid g.O.Offline.vouched (λ b. (goal.VerificationConstraint-dyn g (b.vtable, b.value)).accepts b.value) c.args.pulling.now c.args.client.now.rekor_pub_keys (client_state c.args.client.now).settings)
    x (reference_in c.args.image.now) parses c.verified_pull-outcome.ensures.confined c.verified_pull-outcome.ensures.settled
