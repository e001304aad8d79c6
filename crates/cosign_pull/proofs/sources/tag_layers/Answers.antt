use Rattle.std.proofs.Common.{refl}
use Rattle.cosign_parts.specs.Trust.{trust_of}
use Rattle.cosign_rows.specs.Search.{document_part, pulled_part, tag_layers}
use Rattle.cosign_rows.proofs.Exits.{and_then, refused, wanting, said_next}
use Rattle.cosign_pull.proofs.sources.tag_layers.Goals as goal

pub returns-in_err-types : goal.returns-in_err-types
unfolding tag_layers
returns-in_err-types g c = λ s. wanting _ refl c.from_residual.ensures.1

pub returns-in_err-document : goal.returns-in_err-document
unfolding tag_layers
returns-in_err-document g c = λ s. refused _ (c.in_err-document.ensures.run s) c.from_residual-in_err-document.ensures.1

pub returns : goal.returns
unfolding tag_layers
returns g c = λ s.
    let trust = trust_of g.V.SignatureVerifier.valid g.O.Offline.vouched c.args.trusted.now in
    let document = c.in_ok-document.document.0 in
    and_then _ (c.in_ok-document.ensures.run s)
    (said_next (document_part trust c.args.digest.now document) (pulled_part trust c.args.digest.now document) c.pull-image.result (λ a. refl) (λ e. refl)
    (rw (c.as_slice.ensures, c.in_ok-types.ensures) at (c.pull-image.ensures.run s)) c.pulled_part.ensures)
