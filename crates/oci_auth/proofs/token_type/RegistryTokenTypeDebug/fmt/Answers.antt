use Rattle.std.proofs.Common.{refl}
use Rattle.oci_auth.proofs.Formatters.{then_written}
use Rattle.oci_auth.proofs.token_type.RegistryTokenTypeDebug.fmt.Goals as goal

pub returns-in_ok-fmt-in-Bearer-clause-styled : goal.returns-in_ok-fmt-in-Bearer-clause-styled
returns-in_ok-fmt-in-Bearer-clause-styled g c flush ok =
    let name = c.in_ok-write_str-in-Bearer.ensures.styled flush refl in
    let token = c.in_ok-fmt-in-Bearer.ensures.styled name.flush refl in
    let end = c.write_str-in-Bearer.ensures.styled token.flush ok in
    rw c.in-Bearer.is (then_written g.W.Write.write_str_gives _ _ _ _ _ name (then_written g.W.Write.write_str_gives _ _ _ _ _ token end))
