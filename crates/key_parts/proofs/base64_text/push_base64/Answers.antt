use Rattle.std.proofs.Common.{refl, ap, arith}
use Rattle.std.specs.Result.{result_ok}
use Rattle.base64.specs.GeneralPurpose.{decoded_of}
use Rattle.key_parts.proofs.Base64InJson.{unescaped}
use Rattle.key_parts.proofs.base64_text.push_base64.Goals as goal

pub returns-clause-back : goal.returns-clause-back
unfolding decoded_of
returns-clause-back c = ap result_ok (rw c.in_ok-coded.ensures.text at (c.in_ok-coded.ensures.round_trip refl))

pub returns-clause-plain : goal.returns-clause-plain
returns-clause-plain c = unescaped c.args.bytes.now (λ i. let f = c.type_inv.bytes i in omega arith)
