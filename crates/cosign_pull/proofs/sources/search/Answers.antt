use Rattle.std.proofs.Common.{Ok, refl}
use Rattle.oci_protocol.specs.Proto.{Done}
use Rattle.cosign_rows.specs.Search.{searched, trusted_layers}
use Rattle.cosign_rows.proofs.Exits.{and_then, refused, wanting, said, done}
use Rattle.cosign_pull.proofs.GatheredParts.{made_then}
use Rattle.cosign_pull.proofs.sources.search.Goals as goal

pub returns-in_err-digest : goal.returns-in_err-digest
unfolding searched
returns-in_err-digest g c = λ s. refused _ (c.in_err-digest.ensures.run s) c.from_residual.ensures.1

pub returns-in_err-source : goal.returns-in_err-source
unfolding searched
returns-in_err-source g c = λ s. and_then _ (c.in_ok-digest.ensures.run s) (wanting _ refl c.from_residual-in_err-source.ensures.1)

pub returns-in_err-reading_back : goal.returns-in_err-reading_back
unfolding searched
returns-in_err-reading_back g c = λ s. and_then _ (c.in_ok-digest.ensures.run s) (refused _ (said _ (rw (c.in_ok-source.ensures, c.as_str.ensures) at c.in_err-reading_back.ensures)) c.from_residual-in_err-reading_back.ensures.1)

pub returns-in_err-tag : goal.returns-in_err-tag
unfolding searched
returns-in_err-tag g c = λ s. and_then _ (c.in_ok-digest.ensures.run s) (and_then _ (said _ (rw (c.in_ok-source.ensures, c.as_str.ensures) at c.in_ok-reading_back.ensures)) (refused _ (rw c.as_str-2.ensures at (c.in_err-tag.ensures s)) c.from_residual-in_err-tag.ensures.1))

pub returns-in_err-found : goal.returns-in_err-found
unfolding searched
returns-in_err-found g c = λ s. and_then _ (c.in_ok-digest.ensures.run s) (and_then _ (said _ (rw (c.in_ok-source.ensures, c.as_str.ensures) at c.in_ok-reading_back.ensures)) (and_then _ (rw c.as_str-2.ensures at (c.in_ok-tag.ensures s)) (made_then c.in_ok-tag.tag _ (λ found. Done (Ok (trusted_layers c.in_ok-digest.digest found))) (refused _ (rw (c.as_str-3.ensures, c.in_ok-source.ensures, c.as_str.ensures) at (c.in_err-found.ensures s)) c.from_residual-in_err-found.ensures.1))))

pub returns : goal.returns
unfolding searched
returns g c = λ s. and_then _ (c.in_ok-digest.ensures.run s) (and_then _ (said _ (rw (c.in_ok-source.ensures, c.as_str.ensures) at c.in_ok-reading_back.ensures)) (and_then _ (rw c.as_str-2.ensures at (c.in_ok-tag.ensures s)) (made_then c.in_ok-tag.tag _ (λ found. Done (Ok (trusted_layers c.in_ok-digest.digest found))) (and_then _ (rw (c.as_str-3.ensures, c.in_ok-source.ensures, c.as_str.ensures) at (c.in_ok-found.ensures s)) done))))
