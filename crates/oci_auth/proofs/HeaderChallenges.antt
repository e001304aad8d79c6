-- The challenges of a text.
use Rattle.std.proofs.Common.{◌≡◌, inl, inr, ◌⊎◌, ℕ, ◌+◌, suc, Bool, true, false, cond, ◌==◌, List, [], ◌∷◌, ◌++◌, length, drop, Option, Some, None, Err, map, refl, sym, ap, subst, ◌∙◌, append_assoc, append-nil, arith, length-append}
use Rattle.std.specs.List.{onto_first, prefix_len}
use Rattle.std.specs.Option.{option_to_list}
use Rattle.oci_auth.specs.declared.challenge.Challenge.{Challenge}
use Rattle.oci_auth.specs.declared.element.Element.{Element}
use Rattle.oci_auth.specs.declared.element.Element.TheVariants.{Empty, Parameter, Begins, BreaksOff, Unreadable}
use Rattle.oci_auth.specs.declared.split.Place.{Place}
use Rattle.oci_auth.specs.declared.split.Place.TheVariants.{Outside}
use Rattle.oci_auth.specs.Grammar.{is_blank_byte, is_token_byte, past_blanks, parameter_in}
use Rattle.oci_auth.specs.Element.{element_of, after_token, scheme_or_parameter, begun, with_parameter, whole, challenges_of}
use Rattle.oci_auth.specs.Split.{split_from, split_rest, is_comma, place_after}
use Rattle.oci_auth.specs.Bearer.{is_text, first_bearer, in_header}
use Rattle.oci_auth.specs.declared.bearer.ChallengeError.TheVariants.{NotText}
use Rattle.oci_auth.specs.Words.{BeginsScheme, begins, behind_comma, Whole, AreChallenges}
use Rattle.oci_auth.proofs.Commas.{elements_left, comma_is, onto_front}
use Rattle.oci_auth.proofs.ElementCommas.{Walks, split_closed, split_walk, join_walks, walk_blanks, walk_token, walk_added, walk_challenge}
use Rattle.oci_auth.proofs.ElementReadings.{no_byte, token_element, blanks_element, added_element, challenge_element}
use Rattle.oci_auth.proofs.Soundness.{IsRead, element_is}

-- the first element of a list, and what follows its comma
record FirstPart (place : Place) (text : List ℕ) : Type 0 where
  part : List ℕ
  tail : Option (List ℕ)
  is : text ≡ part ++ behind_comma tail
  split : split_from place text ≡ part ∷ split_rest tail

first_part : (place : Place) (text : List ℕ) → FirstPart place text
first_part place [] = record { part = []; tail = None; is = refl; split = refl }
first_part place (b ∷ text) = by (is_comma place b) refl (first_part (place_after place b) text) where
  by : (v : Bool) → is_comma place b ≡ v → FirstPart (place_after place b) text → FirstPart place (b ∷ text)
  by true is first = record {
    part = [];
    tail = Some text;
    is = ap (λ c. c ∷ text) (comma_is place b is);
    split = ap (λ v. cond v ([] ∷ split_from Outside text) (onto_first b (split_from (place_after place b) text))) is;
  }
  by false is first = record {
    part = b ∷ first.part;
    tail = first.tail;
    is = ap (λ t. b ∷ t) first.is;
    split = ap (λ v. cond v ([] ∷ split_from Outside text) (onto_first b (split_from (place_after place b) text))) is ∙ ap (onto_first b) first.split;
  }

-- an element that contains no separating comma, and those after it
read_part : (part : List ℕ) (tail : Option (List ℕ)) (element : Element) → Walks Outside part Outside → element_of part ≡ element → elements_left (Some (part ++ behind_comma tail)) ≡ element ∷ elements_left tail
read_part part tail element walk is = ap (map element_of) (split_closed part tail walk) ∙ ap (λ x. x ∷ elements_left tail) is

-- a challenge begins, whether or not the rest after its scheme parses
abbrev BeginsOne : Element → Type 0
BeginsOne element = ((challenge : Challenge) × (element ≡ Begins challenge)) ⊎ (element ≡ BreaksOff)

begun_one : (scheme : List ℕ) (o : Option (List ℕ × List ℕ)) → BeginsOne (begun scheme o)
begun_one scheme (Some parameter) = inl (record { scheme = scheme; params = parameter ∷ [] }, refl)
begun_one scheme None = inr refl

scheme_one : (scheme text : List ℕ) → begins (λ b. b == 61) text ≡ false → BeginsOne (after_token scheme text)
scheme_one scheme [] other = inl (record { scheme = scheme; params = [] }, refl)
scheme_one scheme (b ∷ text) other = subst (λ o. BeginsOne (scheme_or_parameter scheme (b ∷ text) o)) (sym (no_byte 61 (b ∷ text) other)) (begun_one scheme (parameter_in (b ∷ text)))

front_begins : (p : ℕ → Bool) (xs ys : List ℕ) → begins p (xs ++ ys) ≡ false → begins p xs ≡ false
front_begins p [] ys h = refl
front_begins p (x ∷ xs) ys h = h

one_more : (n : ℕ) → 1 + n ≡ suc n
one_more n = omega arith

passed_step : (b : ℕ) (text : List ℕ) → past_blanks (b ∷ text) ≡ cond (is_blank_byte b) (past_blanks text) (b ∷ text)
passed_step b text = by (is_blank_byte b) where
  by : (v : Bool) → drop (cond v (1 + prefix_len is_blank_byte text) 0) (b ∷ text) ≡ cond v (past_blanks text) (b ∷ text)
  by true = ap (λ n. drop n (b ∷ text)) (one_more (prefix_len is_blank_byte text))
  by false = refl

front_passed : (q : ℕ → Bool) (xs ys : List ℕ) → begins q (past_blanks (xs ++ ys)) ≡ false → begins q (past_blanks xs) ≡ false
front_passed q [] ys h = refl
front_passed q (x ∷ xs) ys h = ap (begins q) (passed_step x xs) ∙ by (is_blank_byte x) (sym (ap (begins q) (passed_step x (xs ++ ys))) ∙ h) (front_passed q xs ys) where
  by : (v : Bool) → begins q (cond v (past_blanks (xs ++ ys)) (x ∷ (xs ++ ys))) ≡ false → (begins q (past_blanks (xs ++ ys)) ≡ false → begins q (past_blanks xs) ≡ false) → begins q (cond v (past_blanks xs) (x ∷ xs)) ≡ false
  by true h rest = rest h
  by false h rest = h

-- the elements of a string that begins with a scheme
record SchemeFirst (text : List ℕ) : Type 0 where
  element : Element
  others : List Element
  is : elements_left (Some text) ≡ element ∷ others
  one : BeginsOne element

scheme_first : (text : List ℕ) → BeginsScheme text → SchemeFirst text
scheme_first text it =
    let first = first_part Outside it.rest in
    let front = it.front ++ it.scheme in
    let walk = join_walks it.front it.scheme Outside Outside Outside (walk_blanks it.front it.before) (walk_token it.scheme it.token) in
    let split = ap (split_from Outside) (it.is ∙ sym (append_assoc it.front it.scheme it.rest)) ∙ split_walk front it.rest Outside Outside walk ∙ ap (onto_front front) first.split in
    let ends = front_begins is_token_byte first.part (behind_comma first.tail) (sym (ap (begins is_token_byte) first.is) ∙ it.ends) in
    let no_value = front_passed (λ b. b == 61) first.part (behind_comma first.tail) (sym (ap (λ t. begins (λ b. b == 61) (past_blanks t)) first.is) ∙ it.no_value) in
    let element = ap element_of (append_assoc it.front it.scheme first.part) ∙ token_element it.front it.scheme first.part it.before it.token ends in
    record {
      element = element_of (front ++ first.part);
      others = elements_left first.tail;
      is = ap (map element_of) split;
      one = subst BeginsOne (sym element) (scheme_one it.scheme (past_blanks first.part) no_value);
    }

-- these challenges, and possibly more
abbrev Longer : List Challenge → List Challenge → Type 0
Longer all found = (more : List Challenge) × (all ≡ found ++ more)

longer_last : (last : Option Challenge) (element : Element) (others : List Element) → BeginsOne element → Longer (whole last (element ∷ others)) (option_to_list last)
longer_last last element others (inl (challenge, is)) = (whole (Some challenge) others, ap (λ x. whole last (x ∷ others)) is)
longer_last last element others (inr is) = ([], ap (λ x. whole last (x ∷ others)) is ∙ sym (append-nil (option_to_list last)))

-- complete challenges are found
longer : (last : Option Challenge) (tail : Option (List ℕ)) (found : List Challenge) → Whole last tail found → Longer (whole last (elements_left tail)) found
longer _ _ _ (Whole.at_end last) = ([], sym (append-nil (option_to_list last)))
longer _ _ _ (Whole.at_scheme last text it) =
    let first = scheme_first text it in
    let more = longer_last last first.element first.others first.one in
    (more.0, ap (whole last) first.is ∙ more.1)
longer _ _ _ (Whole.empty last part tail found blanks rest) =
    let more = longer last tail found rest in
    (more.0, ap (whole last) (read_part part tail Empty (walk_blanks part blanks) (blanks_element part blanks)) ∙ more.1)
longer _ _ _ (Whole.adds challenge parameter part tail found it rest) =
    let more = longer (Some (with_parameter challenge parameter)) tail found rest in
    (more.0, ap (whole (Some challenge)) (read_part part tail (Parameter parameter) (walk_added part parameter it) (added_element part parameter it)) ∙ more.1)
longer _ _ _ (Whole.next last challenge part tail found it rest) =
    let more = longer (Some challenge) tail found rest in
    (more.0, ap (whole last) (read_part part tail (Begins challenge) (walk_challenge part challenge it) (challenge_element part challenge it)) ∙ ap (λ cs. option_to_list last ++ cs) more.1 ∙ sym (append_assoc (option_to_list last) found more.0))

-- found challenges are complete, or none is found
abbrev Stands : Option Challenge → Option (List ℕ) → List Challenge → Type 0
Stands last tail found = (found ≡ []) ⊎ Whole last tail found

begins_here : (last : Option Challenge) (challenge : Challenge) (part : List ℕ) (tail : Option (List ℕ)) → IsRead (Begins challenge) part → Stands (Some challenge) tail (whole (Some challenge) (elements_left tail)) → Whole last (Some (part ++ behind_comma tail)) (option_to_list last ++ whole (Some challenge) (elements_left tail))
begins_here last challenge part tail read (inl none) = subst (Whole last (Some (part ++ behind_comma tail))) (sym (ap (λ cs. option_to_list last ++ cs) none ∙ append-nil (option_to_list last))) (Whole.at_scheme last (part ++ behind_comma tail) (read.1 tail))
begins_here last challenge part tail read (inr rest) = Whole.next last challenge part tail _ read.0 rest

by_element : (last : Option Challenge) (element : Element) (part : List ℕ) (tail : Option (List ℕ)) → IsRead element part → ((last : Option Challenge) → Stands last tail (whole last (elements_left tail))) → Stands last (Some (part ++ behind_comma tail)) (whole last (element ∷ elements_left tail))
by_element last Empty part tail read rest = by (rest last) where
  by : Stands last tail (whole last (elements_left tail)) → Stands last (Some (part ++ behind_comma tail)) (whole last (elements_left tail))
  by (inl none) = inl none
  by (inr stands) = inr (Whole.empty last part tail _ read stands)
by_element None (Parameter parameter) part tail read rest = inl refl
by_element (Some challenge) (Parameter parameter) part tail read rest = by (rest (Some (with_parameter challenge parameter))) where
  by : Stands (Some (with_parameter challenge parameter)) tail (whole (Some (with_parameter challenge parameter)) (elements_left tail)) → Stands (Some challenge) (Some (part ++ behind_comma tail)) (whole (Some (with_parameter challenge parameter)) (elements_left tail))
  by (inl none) = inl none
  by (inr stands) = inr (Whole.adds challenge parameter part tail _ read stands)
by_element last (Begins challenge) part tail read rest = inr (begins_here last challenge part tail read (rest (Some challenge)))
by_element last BreaksOff part tail read rest = inr (Whole.at_scheme last (part ++ behind_comma tail) (read tail))
by_element last Unreadable part tail read rest = inl refl

tail_is : (x y : List ℕ) (xs ys : List (List ℕ)) → x ∷ xs ≡ y ∷ ys → xs ≡ ys
tail_is x y xs ys h = cc h

stands : (parts : List (List ℕ)) (tail : Option (List ℕ)) (last : Option Challenge) → split_rest tail ≡ parts → Stands last tail (whole last (elements_left tail))
stands parts None last is = inr (Whole.at_end last)
stands [] (Some text) last is = let first = first_part Outside text in absurd (cc (first.split, is))
stands (part ∷ parts) (Some text) last is =
    let first = first_part Outside text in
    let rest = tail_is first.part part (split_rest first.tail) parts (sym first.split ∙ is) in
    subst (λ t. Stands last (Some t) (whole last (elements_left (Some text)))) (sym first.is)
    (subst (λ es. Stands last (Some (first.part ++ behind_comma first.tail)) (whole last es)) (sym (ap (map element_of) first.split))
    (by_element last (element_of first.part) first.part first.tail (element_is first.part) (λ last. stands parts first.tail last rest)))

pub are_challenges : (text : List ℕ) → AreChallenges text (challenges_of text)
unfolding challenges_of
are_challenges text = record {
  whole = stands (split_from Outside text) (Some text) None refl;
  most = λ others it. longer None (Some text) others it;
}

no_more : (xs more rest : List Challenge) → xs ≡ (xs ++ more) ++ rest → more ≡ []
no_more xs more rest h = none more (let len = ap length h in let one = length-append (xs ++ more) rest in let two = length-append xs more in omega (arith, len, one, two)) where
  none : (more : List Challenge) → length more ≡ 0 → more ≡ []
  none [] h = refl
  none (x ∷ more) h = absurd (omega (arith, h))

empty_front : (xs more : List Challenge) → [] ≡ xs ++ more → xs ≡ []
empty_front [] more h = refl
empty_front (x ∷ xs) more h = absurd (cc h)

-- a text has one list of challenges
pub same_challenges : (text : List ℕ) (a b : List Challenge) → AreChallenges text a → AreChallenges text b → a ≡ b
same_challenges text a b x y = by x.whole y.whole where
  by : (a ≡ []) ⊎ Whole None (Some text) a → (b ≡ []) ⊎ Whole None (Some text) b → a ≡ b
  by (inl none) (inl nothing) = none ∙ sym nothing
  by (inl none) (inr it) = let more = x.most b it in none ∙ sym (empty_front b more.0 (sym none ∙ more.1))
  by (inr it) (inl nothing) = let more = y.most a it in empty_front a more.0 (sym nothing ∙ more.1) ∙ sym nothing
  by (inr it) (inr other) =
      let more = x.most b other in
      let rest = y.most a it in
      let end : rest.0 ≡ [] = no_more a rest.0 more.0 (more.1 ∙ ap (λ t. t ++ more.0) rest.1) in
      sym (rest.1 ∙ ap (λ t. a ++ t) end ∙ append-nil a)

pub header_list : (value : List ℕ) (list : List Challenge) → is_text value ≡ true → AreChallenges value list → in_header value ≡ first_bearer list
unfolding in_header
header_list value list text are =
    ap (λ v. cond v (first_bearer (challenges_of value)) (Err NotText)) text ∙ ap first_bearer (same_challenges value (challenges_of value) list (are_challenges value) are)
