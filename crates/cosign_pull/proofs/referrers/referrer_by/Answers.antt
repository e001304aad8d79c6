use Rattle.std.proofs.Common.{refl, sym, ◌∙◌}
use Rattle.cosign_parts.specs.Trust.{trust_of}
use Rattle.oci_protocol.specs.Proto.{bind}
use Rattle.cosign_rows.specs.Search.{or_skipped, referrer_part}
use Rattle.cosign_rows.specs.declared.found.Skipped.TheVariants.{Referrer}
use Rattle.cosign_rows.proofs.Exits.{wanting, done, said_of}
use Rattle.cosign_pull.specs.Gathered.{put_behind}
use Rattle.cosign_pull.proofs.GatheredParts.{made_done}
use Rattle.cosign_pull.proofs.referrers.referrer_by.Goals as goal

pub returns-in_err-reads_back : goal.returns-in_err-reads_back
returns-in_err-reads_back g c = λ s. wanting _ refl c.from_residual.ensures.1

pub returns-then-reads_back : goal.returns-then-reads_back
returns-then-reads_back g c = λ s.
    let trust = trust_of g.V.SignatureVerifier.valid g.O.Offline.vouched c.args.referred.now.trusted.now in
    rw (sym c.in_ok-reads_back.ensures.value ∙ c.if-reads_back.true)
    (made_done c.args.part _ (λ r. or_skipped (Referrer c.args.digest.now) (referrer_part trust c.args.referred.now.digest.now r))
    (said_of (λ r. put_behind c.args.part (or_skipped (Referrer c.args.digest.now) (referrer_part trust c.args.referred.now.digest.now r))) c.pull_bundles-image.result (λ e is. rw is refl) (c.pull_bundles-image.ensures s) c.add_referrer.ensures))

pub returns-in_err-digest : goal.returns-in_err-digest
returns-in_err-digest g c = λ s. wanting _ refl c.from_residual-in_err-digest.ensures.1

pub returns-in_err-text : goal.returns-in_err-text
returns-in_err-text g c = λ s. wanting _ refl c.from_residual-in_err-text.ensures.1

pub returns-in_err-part : goal.returns-in_err-part
returns-in_err-part g c = λ s. wanting _ refl c.from_residual-in_err-part.ensures.1

pub returns : goal.returns
unfolding bind
returns g c = λ s. rw (sym c.in_ok-reads_back.ensures.value ∙ c.if-reads_back.false) (rw (c.in_ok-part.ensures, c.in_ok-text.ensures, c.in_ok-digest.ensures) done)
