use Rattle.std.proofs.Common.{refl, sym, ◌∙◌}
use Rattle.cosign_rows.specs.Search.{or_skipped}
use Rattle.cosign_rows.specs.declared.found.Skipped.TheVariants.{Source}
use Rattle.cosign_rows.specs.declared.found.SourceKind.TheVariants.{Tag}
use Rattle.cosign_rows.proofs.Exits.{wanting, done, said_of}
use Rattle.cosign_pull.proofs.sources.tag_by.Goals as goal

pub returns-in_err-reads_back : goal.returns-in_err-reads_back
returns-in_err-reads_back g c = λ s. wanting _ refl c.from_residual.ensures.1

pub returns-then-reads_back : goal.returns-then-reads_back
returns-then-reads_back g c = λ s.
    rw (sym c.in_ok-reads_back.ensures.value ∙ c.if-reads_back.true)
    (said_of (or_skipped (Source Tag)) c.tag_layers-part.result (λ e is. rw is refl) (c.tag_layers-part.ensures s) c.or_skipped.ensures)

pub returns-in_err-text : goal.returns-in_err-text
returns-in_err-text g c = λ s. wanting _ refl c.from_residual-in_err-text.ensures.1

pub returns-in_err-part : goal.returns-in_err-part
returns-in_err-part g c = λ s. wanting _ refl c.from_residual-in_err-part.ensures.1

pub returns : goal.returns
returns g c = λ s. rw (sym c.in_ok-reads_back.ensures.value ∙ c.if-reads_back.false) (rw (c.in_ok-part.ensures, c.in_ok-text.ensures) done)
