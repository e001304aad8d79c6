use Rattle.std.proofs.Common.{Some, None, sym}
use Rattle.std.proofs.lemmas.Str.Pattern.{split_parts}
use Rattle.oci_names.proofs.Cuts.{before-Lacks, before-at, after-Lacks, after-at}
use Rattle.oci_names.proofs.grammar.cut.Goals as goal

pub returns-in-Some : goal.returns-in-Some
returns-in-Some c =
    let parts = split_parts c.args.at c.args.text.now (Some (c.in-Some.before, c.in-Some.after)) c.in-Some.ensures.cases c.requires in
    record { before = rw parts.0 (sym (before-at _ _ _ parts.1)); after = rw parts.0 (sym (after-at _ _ _ parts.1)) }

pub returns-in-None : goal.returns-in-None
returns-in-None c =
    let lacks = split_parts c.args.at c.args.text.now None c.in-None.ensures.cases c.requires in
    record { before = sym (before-Lacks _ _ lacks); after = sym (after-Lacks _ _ lacks) }
