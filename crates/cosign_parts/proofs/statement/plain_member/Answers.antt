use Rattle.cosign_parts.proofs.PlainTexts.{unspelt}
use Rattle.cosign_parts.proofs.statement.plain_member.Goals as goal

pub returns-in_default : goal.returns-in_default
returns-in_default c = unspelt c.args.name.now c.args.bytes.now c.in_default.ensures.cases.0
