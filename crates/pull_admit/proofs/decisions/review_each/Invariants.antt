use Rattle.std.proofs.Common.{◌≡◌, take}
use Rattle.cosign_client.specs.State.{client_state}
use Rattle.pull_admit.specs.OneImage.{DecidedSoFar, KeepsSoFar, terms_in}
use Rattle.pull_admit.proofs.decisions.review_each.Given as goal

-- the images so far; the settings and the keys of logs are unchanged
abbrev pub invariant-loop-image : goal.invariant-loop-image
invariant-loop-image g l =
    DecidedSoFar (terms_in g.V.SignatureVerifier.valid g.O.Offline.vouched (λ b. (goal.VerificationConstraint-dyn g (b.vtable, b.value)).accepts b.value) l.pulling l.fn.client.rekor_pub_keys (client_state l.fn.client).settings)
    (take l.image-index l.images) (g.T.Transport.state l.initial.transport) (g.T.Transport.state l.transport) (client_state l.fn.client).kept (client_state l.client).kept l.decisions
    × KeepsSoFar (terms_in g.V.SignatureVerifier.valid g.O.Offline.vouched (λ b. (goal.VerificationConstraint-dyn g (b.vtable, b.value)).accepts b.value) l.pulling l.fn.client.rekor_pub_keys (client_state l.fn.client).settings)
    (take l.image-index l.images) (g.T.Transport.state l.initial.transport) (g.T.Transport.state l.transport) (client_state l.fn.client).kept (client_state l.client).kept
    × ((client_state l.client).settings ≡ (client_state l.fn.client).settings)
    × (l.client.rekor_pub_keys ≡ l.fn.client.rekor_pub_keys)
