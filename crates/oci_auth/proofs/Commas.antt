-- How a list of challenges is split at its first comma.
use Rattle.std.proofs.Common.{◌≡◌, ℕ, ◌+◌, ◌<◌, ◌≤◌, suc, Bool, true, false, cond, List, [], ◌∷◌, ◌++◌, length, get_or, take, drop, refl, sym, ap, ◌∙◌, arith, append_assoc, append-nil}
use Rattle.std.proofs.Math.Seq.{drop-cons}
use Rattle.std.proofs.lemmas.List.{take_more, take_all, drop_all}
use Rattle.std.proofs.Math.Numerals.{add-one}
use Rattle.std.proofs.lemmas.Bool.Decides.{nat_tests}
use Rattle.std.specs.List.{onto_first}
use Rattle.oci_auth.specs.declared.split.Place.{Place}
use Rattle.oci_auth.specs.declared.split.Place.TheVariants.{Outside, Quoted, Escaped}
use Rattle.std.proofs.Common.{Option, Some, None, map}
use Rattle.oci_auth.specs.declared.challenge.Challenge.{Challenge}
use Rattle.oci_auth.specs.declared.element.Element.{Element}
use Rattle.oci_auth.specs.Element.{element_of, whole}
use Rattle.oci_auth.specs.Split.{split_from, is_comma, place_after, split_rest}

-- prepends these bytes to the first element
abbrev pub onto_front : List ℕ → List (List ℕ) → List (List ℕ)
onto_front xs [] = xs ∷ []
onto_front xs (part ∷ parts) = (xs ++ part) ∷ parts

onto_front-onto_first : (xs : List ℕ) (b : ℕ) (parts : List (List ℕ)) → onto_front xs (onto_first b parts) ≡ onto_front (xs ++ b ∷ []) parts
onto_front-onto_first xs b [] = refl
onto_front-onto_first xs b (part ∷ parts) = ap (λ front. front ∷ parts) (sym (append_assoc xs (b ∷ []) part))

only_front : (front : List ℕ) (parts : List (List ℕ)) → onto_front front ([] ∷ parts) ≡ front ∷ parts
only_front front parts = ap (λ first. first ∷ parts) (append-nil front)

split_step : (text : List ℕ) (at : ℕ) (place : Place) → at < length text → split_from place (drop at text) ≡ cond (is_comma place (get_or text at 0)) ([] ∷ split_from Outside (drop (at + 1) text)) (onto_first (get_or text at 0) (split_from (place_after place (get_or text at 0)) (drop (at + 1) text)))
split_step text at place lt = rw (drop-cons text at 0 lt) (rw (add-one at) refl)

pub split_on : (text : List ℕ) (at : ℕ) (place : Place) (parts : List (List ℕ)) → at < length text → is_comma place (get_or text at 0) ≡ false → parts ≡ onto_front (take at text) (split_from place (drop at text)) → parts ≡ onto_front (take (at + 1) text) (split_from (place_after place (get_or text at 0)) (drop (at + 1) text))
split_on text at place parts lt else so =
    so ∙ ap (onto_front (take at text)) (split_step text at place lt ∙ rw else refl) ∙ onto_front-onto_first (take at text) (get_or text at 0) _ ∙ ap (λ front. onto_front front (split_from (place_after place (get_or text at 0)) (drop (at + 1) text))) (sym (take_more text at 0 lt))

split_comma : (text : List ℕ) (at : ℕ) (place : Place) → at < length text → is_comma place (get_or text at 0) ≡ true → split_from place (drop at text) ≡ [] ∷ split_from Outside (drop (at + 1) text)
split_comma text at place lt comma = split_step text at place lt ∙ rw comma refl

pub split_here : (text : List ℕ) (at : ℕ) (place : Place) (parts : List (List ℕ)) → at < length text → is_comma place (get_or text at 0) ≡ true → parts ≡ onto_front (take at text) (split_from place (drop at text)) → parts ≡ take at text ∷ split_from Outside (drop (at + 1) text)
split_here text at place parts lt comma so =
    so ∙ ap (onto_front (take at text)) (split_comma text at place lt comma) ∙ only_front (take at text) (split_from Outside (drop (at + 1) text))

pub comma_is : (place : Place) (b : ℕ) → is_comma place b ≡ true → b ≡ 44
comma_is Outside b h = grind (arith, nat_tests, h)
comma_is Quoted b h = cc h
comma_is Escaped b h = cc h

pub split_ends : (text : List ℕ) (at : ℕ) (place : Place) (parts : List (List ℕ)) → length text ≤ at → parts ≡ onto_front (take at text) (split_from place (drop at text)) → parts ≡ text ∷ []
split_ends text at place parts le so = so ∙ rw (drop_all at text le, take_all at text le) (ap (λ front. front ∷ []) (append-nil text))

onto_first-some : (b : ℕ) (parts : List (List ℕ)) → onto_front [] (onto_first b parts) ≡ onto_first b parts
onto_first-some b [] = refl
onto_first-some b (part ∷ parts) = refl

pub split_begins : (text : List ℕ) → split_from Outside text ≡ onto_front [] (split_from Outside text)
split_begins [] = refl
split_begins (b ∷ text) = by (is_comma Outside b) where
  by : (v : Bool) → cond v ([] ∷ split_from Outside text) (onto_first b (split_from (place_after Outside b) text)) ≡ onto_front [] (cond v ([] ∷ split_from Outside text) (onto_first b (split_from (place_after Outside b) text)))
  by true = refl
  by false = sym (onto_first-some b _)

-- the elements of what is left of a list
abbrev pub elements_left : Option (List ℕ) → List Element
elements_left text = map element_of (split_rest text)

abbrev pub bytes_left : Option (List ℕ) → ℕ
bytes_left None = 0
bytes_left (Some text) = suc (length text)

-- the element that was split off, and those after it
pub taken : (text rest element : List ℕ) (now left : Option (List ℕ)) (found : List Challenge) (last : Option Challenge) → whole None (map element_of (split_from Outside text)) ≡ found ++ whole last (elements_left now) → now ≡ Some rest → split_from Outside rest ≡ element ∷ split_rest left → whole None (map element_of (split_from Outside text)) ≡ found ++ whole last (element_of element ∷ elements_left left)
taken text rest element now left found last so is split = so ∙ ap (λ o. found ++ whole last (elements_left o)) is ∙ ap (λ parts. found ++ whole last (map element_of parts)) split
