use Rattle.std.proofs.Common.{◌≡◌, true, rules, tests}
use Rattle.std.proofs.lemmas.Iterator.Search.{all_from_yields_List}
use Rattle.std.proofs.lemmas.Iterator.Splits.{YieldsList-from_slice_split}
use Rattle.oci_names.specs.Grammar.{is_path_letter, is_path_separator}
use Rattle.oci_names.proofs.Joins.{joined_from}
use Rattle.oci_names.proofs.grammar.is_path_component.Goals as goal
use Rattle.oci_names.proofs.grammar.is_path_component.Goals.{then-is_path_letter, else-is_path_letter}

pub returns-then-is_path_letter-2 : goal.returns-then-is_path_letter-2
returns-then-is_path_letter-2 c =
    let first : is_path_letter c.in-Some-Some.first.now ≡ true = elim c.if-is_path_letter.branch [ then-is_path_letter w ↦ cc | else-is_path_letter w ↦ cc ] in
    let last : is_path_letter c.in-Some-Some.last.now ≡ true = elim c.if-is_path_letter.branch [ then-is_path_letter w ↦ cc | else-is_path_letter w ↦ cc ] in
    joined_from is_path_letter is_path_separator c.args.component.now _ _ c.all.result c.in-Some-Some.ensures.value c.in-Some-Some.ensures'.value first last
    (all_from_yields_List is_path_separator _ _ _ c.all.ensures.ran
    (YieldsList-from_slice_split _ is_path_letter c.args.component.now c.split.ensures.rest c.split.ensures.done c.split.ensures.closure (λ x r q k. search (rules, tests)))
    (λ x b q k. search (rules, tests)))
