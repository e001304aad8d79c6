use Rattle.std.proofs.Common.{◌≡◌, true, rules, tests}
use Rattle.std.proofs.lemmas.Iterator.Search.{all_from_yields_List}
use Rattle.std.proofs.lemmas.Iterator.Splits.{YieldsList-from_slice_split}
use Rattle.oci_names.specs.Grammar.{is_dashes}
use Rattle.std.specs.Char.{is_ascii_alphanumeric}
use Rattle.oci_names.proofs.Joins.{joined_from}
use Rattle.oci_names.proofs.grammar.is_domain_component.Goals as goal
use Rattle.oci_names.proofs.grammar.is_domain_component.Goals.{then-is_ascii_alphanumeric, else-is_ascii_alphanumeric}

pub returns-then-is_ascii_alphanumeric-2 : goal.returns-then-is_ascii_alphanumeric-2
returns-then-is_ascii_alphanumeric-2 c =
    let first : is_ascii_alphanumeric c.in-Some-Some.first.now ≡ true = elim c.if-is_ascii_alphanumeric.branch [ then-is_ascii_alphanumeric w ↦ cc | else-is_ascii_alphanumeric w ↦ cc ] in
    let last : is_ascii_alphanumeric c.in-Some-Some.last.now ≡ true = elim c.if-is_ascii_alphanumeric.branch [ then-is_ascii_alphanumeric w ↦ cc | else-is_ascii_alphanumeric w ↦ cc ] in
    joined_from is_ascii_alphanumeric is_dashes c.args.component.now _ _ c.all.result c.in-Some-Some.ensures.value c.in-Some-Some.ensures'.value first last
    (all_from_yields_List is_dashes _ _ _ c.all.ensures.ran
    (YieldsList-from_slice_split _ is_ascii_alphanumeric c.args.component.now c.split.ensures.rest c.split.ensures.done c.split.ensures.closure (λ x r q k. search (rules, tests)))
    (λ x b q k. search (rules, tests)))
