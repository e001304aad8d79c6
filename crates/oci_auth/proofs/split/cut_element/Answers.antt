use Rattle.std.proofs.Common.{arith}
use Rattle.std.proofs.lemmas.Str.{IsCharBoundary-after_ascii}
use Rattle.oci_auth.proofs.split.cut_element.Goals as goal

pub range_from-requires : goal.range_from-requires
range_from-requires c _ =
    let at = rw c.as_bytes.ensures.value at c.in-Some.ensures in
    IsCharBoundary-after_ascii c.args.text.now c.in-Some.at c.utf8.text at.within (omega (arith, at.comma))
