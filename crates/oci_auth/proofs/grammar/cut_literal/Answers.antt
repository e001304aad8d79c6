use Rattle.std.proofs.Common.{sym, ap, subst, ◌∙◌}
use Rattle.std.specs.Str.{IsCharBoundary, IsUtf8}
use Rattle.oci_auth.specs.Grammar.{literal_len, unquoted}
use Rattle.oci_auth.proofs.Fronts.{literal_cuts, after_byte_is}
use Rattle.oci_auth.proofs.Quotes.{escaped_front}
use Rattle.oci_auth.proofs.grammar.cut_literal.Goals as goal

pub split_at-requires : goal.split_at-requires
split_at-requires c =
    let len = c.literal_len.ensures ∙ ap literal_len c.as_bytes.ensures.value in
    subst (IsCharBoundary c.in-Some.escaped.now) (sym len) (literal_cuts c.in-Some.escaped.now (subst IsUtf8 c.as_bytes.ensures.value c.as_bytes.ensures.utf8))

pub returns-in-Some-clause-reads : goal.returns-in-Some-clause-reads
returns-in-Some-clause-reads c =
    let len = c.literal_len.ensures ∙ ap literal_len c.as_bytes.ensures.value in
    ap unquoted (after_byte_is 92 c.args.text.now c.in-Some.escaped.now (sym c.in-Some.ensures)) ∙ rw (c.split_at.ensures.front, c.split_at.ensures.back, len) (escaped_front c.in-Some.escaped.now)
