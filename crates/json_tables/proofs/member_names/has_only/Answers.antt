use Rattle.json_values.proofs.JsonTexts.{json_of-refused}
use Rattle.json_tables.proofs.member_names.has_only.Goals as goal

pub returns-in_default : goal.returns-in_default
returns-in_default c =
    rw (json_of-refused c.args.bytes.now (λ spelt. absurd (c.in_default.ensures.cases.0 spelt))) tt
