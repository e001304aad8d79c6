use Rattle.std.proofs.Common.{◌≡◌, sym, ap, ◌∙◌, subst, arith, IsUtf8}
use Rattle.json.specs.Value.{value_view}
use Rattle.cosign_parts.proofs.PlainTexts.{reads_back}
use Rattle.cosign_parts.proofs.statement.owned.Goals as goal

pub returns : goal.returns
returns c =
    let j = value_view c.args.member.now in
    let bytes = c.in_ok-text.text.items in
    rw c.as_slice.ensures.value at c.in_ok-found.ensures
    ∙ reads_back j bytes c.requires.nests c.in_ok-text.ensures.utf8 (c.in_ok-text.ensures.reads_back (omega (arith, c.requires.nests)))
