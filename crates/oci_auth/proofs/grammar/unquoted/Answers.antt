use Rattle.std.proofs.Common.{sym, ap, ◌∙◌, Some}
use Rattle.oci_auth.specs.Grammar.{unquoted, behind}
use Rattle.oci_auth.proofs.Fronts.{after_byte_is}
use Rattle.oci_auth.proofs.Quotes.{read_out, read_none, read_nothing}
use Rattle.oci_auth.proofs.grammar.unquoted.Goals as goal

pub returns-then-is_blank : goal.returns-then-is_blank
returns-then-is_blank c =
    let mark = after_byte_is 34 _ c.in-Some.behind.now (sym c.in-Some.ensures) in
    ap Some c.in_ok-push_str.ensures.ok ∙ sym (read_out c.args.text.now c.loop-rest.content c.loop-rest.rest.now _ c.in-Some.behind.now c.loop-rest.invariant.so (c.cut_plain.ensures.reads ∙ ap (λ text. behind c.cut_plain.result.0.now (unquoted text)) mark) (sym c.is_blank.ensures ∙ c.if-is_blank.true))

pub returns-in-Some : goal.returns-in-Some
returns-in-Some c =
    let mark = after_byte_is 34 _ c.in-Some.behind.now (sym c.in-Some.ensures) in
    sym (read_none c.args.text.now c.loop-rest.content c.loop-rest.rest.now _ c.in-Some.behind.now c.loop-rest.invariant.so (c.cut_plain.ensures.reads ∙ ap (λ text. behind c.cut_plain.result.0.now (unquoted text)) mark) (sym c.is_blank.ensures ∙ c.if-is_blank.false))

pub returns : goal.returns
returns c = sym (c.loop-rest.invariant.so ∙ read_nothing c.loop-rest.rest.now c.loop-rest.content (sym c.is_empty.ensures ∙ c.loop-rest-test.false))
