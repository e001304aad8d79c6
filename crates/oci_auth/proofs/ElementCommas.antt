-- No comma of an element is a comma of the list.
use Rattle.std.proofs.Common.{◌≡◌, inl, inr, ℕ, Bool, true, false, cond, ◌==◌, List, [], ◌∷◌, ◌++◌, Option, Some, None, refl, sym, ap, subst, ◌∙◌, append-nil, arith}
use Rattle.std.specs.List.{list_all, onto_first}
use Rattle.std.proofs.lemmas.Bool.Decides.{nat_tests}
use Rattle.oci_auth.specs.declared.challenge.Challenge.{Challenge}
use Rattle.oci_auth.specs.declared.split.Place.{Place}
use Rattle.oci_auth.specs.declared.split.Place.TheVariants.{Outside, Quoted as InString, Escaped}
use Rattle.oci_auth.specs.Grammar.{is_blank_byte, is_token_byte}
use Rattle.oci_auth.specs.Split.{split_from, split_rest, is_comma, place_after}
use Rattle.oci_auth.specs.Words.{Blanks, Token, Unescapes, Quoted, Value, IsParameter, AddsParameter, FirstParameter, BeginsChallenge, is_plain_byte, behind_comma}
use Rattle.oci_auth.proofs.Commas.{onto_front}
use Rattle.oci_auth.proofs.Cuts.{and_left, and_right, is_other}

-- no comma of the text separates elements; the scan moves from one place to another
pub data Walks : Place → List ℕ → Place → Type 0 where
  stays : (place : Place) → Walks place [] place
  steps : (from to : Place) (b : ℕ) (text : List ℕ) → is_comma from b ≡ false → Walks (place_after from b) text to → Walks from (b ∷ text) to

pub join_walks : (xs ys : List ℕ) (from via to : Place) → Walks from xs via → Walks via ys to → Walks from (xs ++ ys) to
join_walks _ ys _ _ to (Walks.stays place) after = after
join_walks _ ys _ via to (Walks.steps from _ b text other walk) after = Walks.steps from to b (text ++ ys) other (join_walks text ys (place_after from b) via to walk after)

onto_some : (b : ℕ) (parts : List (List ℕ)) → onto_front [] (onto_first b parts) ≡ onto_first b parts
onto_some b [] = refl
onto_some b (part ∷ parts) = refl

split_some : (place : Place) (text : List ℕ) → split_from place text ≡ onto_front [] (split_from place text)
split_some place [] = refl
split_some place (b ∷ text) = by (is_comma place b) where
  by : (v : Bool) → cond v ([] ∷ split_from Outside text) (onto_first b (split_from (place_after place b) text)) ≡ onto_front [] (cond v ([] ∷ split_from Outside text) (onto_first b (split_from (place_after place b) text)))
  by true = refl
  by false = sym (onto_some b _)

one_onto : (b : ℕ) (xs : List ℕ) (parts : List (List ℕ)) → onto_first b (onto_front xs parts) ≡ onto_front (b ∷ xs) parts
one_onto b xs [] = refl
one_onto b xs (part ∷ parts) = refl

pub split_walk : (xs rest : List ℕ) (from to : Place) → Walks from xs to → split_from from (xs ++ rest) ≡ onto_front xs (split_from to rest)
split_walk _ rest _ _ (Walks.stays place) = split_some place rest
split_walk _ rest _ _ (Walks.steps from to b text other walk) =
    ap (λ v. cond v ([] ∷ split_from Outside (text ++ rest)) (onto_first b (split_from (place_after from b) (text ++ rest)))) other
    ∙ ap (onto_first b) (split_walk text rest (place_after from b) to walk) ∙ one_onto b text (split_from to rest)

only_front : (front : List ℕ) (parts : List (List ℕ)) → onto_front front ([] ∷ parts) ≡ front ∷ parts
only_front front parts = ap (λ first. first ∷ parts) (append-nil front)

split_tail : (tail : Option (List ℕ)) → split_from Outside (behind_comma tail) ≡ [] ∷ split_rest tail
split_tail None = refl
split_tail (Some text) = refl

-- the first element, and those after it
pub split_closed : (part : List ℕ) (tail : Option (List ℕ)) → Walks Outside part Outside → split_from Outside (part ++ behind_comma tail) ≡ part ∷ split_rest tail
split_closed part tail walk = split_walk part (behind_comma tail) Outside Outside walk ∙ ap (onto_front part) (split_tail tail) ∙ only_front part (split_rest tail)

outside_after : (b : ℕ) → (b == 34) ≡ false → place_after Outside b ≡ Outside
outside_after b other = ap (λ v. cond v InString Outside) other

walk_all : (p : ℕ → Bool) (xs : List ℕ) → p 34 ≡ false → p 44 ≡ false → list_all p xs ≡ true → Walks Outside xs Outside
walk_all p [] quote comma all = Walks.stays Outside
walk_all p (b ∷ xs) quote comma all =
    let yes = and_left (p b) (list_all p xs) all in
    Walks.steps Outside Outside b xs (is_other p 44 b comma yes)
    (subst (λ place. Walks place xs Outside) (sym (outside_after b (is_other p 34 b quote yes))) (walk_all p xs quote comma (and_right (p b) (list_all p xs) all)))

pub walk_blanks : (text : List ℕ) → Blanks text → Walks Outside text Outside
walk_blanks text blanks = walk_all is_blank_byte text refl refl blanks

pub walk_token : (text : List ℕ) → Token text → Walks Outside text Outside
walk_token text token = walk_all is_token_byte text refl refl token.1

string_after : (b : ℕ) → is_plain_byte b ≡ true → place_after InString b ≡ InString
string_after b plain =
    let quote : (b == 34) ≡ false = grind (arith, nat_tests, plain) in
    let slash : (b == 92) ≡ false = grind (arith, nat_tests, plain) in
    ap (λ v. cond v Outside (cond (b == 92) Escaped InString)) quote ∙ ap (λ v. cond v Escaped InString) slash

walk_says : (text content : List ℕ) → Unescapes text content → Walks InString text InString
walk_says _ _ Unescapes.nothing = Walks.stays InString
walk_says _ _ (Unescapes.plain b text content plain says) = Walks.steps InString InString b text refl (subst (λ place. Walks place text InString) (sym (string_after b plain)) (walk_says text content says))
walk_says _ _ (Unescapes.literal b text content says) = Walks.steps InString InString 92 (b ∷ text) refl (Walks.steps Escaped InString b text refl (walk_says text content says))

walk_quoted : (text content : List ℕ) → Quoted text content → Walks Outside text Outside
walk_quoted text content quoted =
    subst (λ t. Walks Outside t Outside) (sym quoted.is)
    (Walks.steps Outside Outside 34 (quoted.inner ++ 34 ∷ []) refl (join_walks quoted.inner (34 ∷ []) InString InString Outside (walk_says quoted.inner content quoted.says) (Walks.steps InString Outside 34 [] refl (Walks.stays Outside))))

walk_value : (text value : List ℕ) → Value text value → Walks Outside text Outside
walk_value text value (inl token) = walk_token text token.0
walk_value text value (inr quoted) = walk_quoted text value quoted

walk_parameter : (text : List ℕ) (parameter : List ℕ × List ℕ) → IsParameter text parameter → Walks Outside text Outside
walk_parameter text parameter is =
    subst (λ t. Walks Outside t Outside) (sym is.is)
    (join_walks parameter.0 (is.gap ++ 61 ∷ is.written) Outside Outside Outside (walk_token parameter.0 is.name)
    (join_walks is.gap (61 ∷ is.written) Outside Outside Outside (walk_blanks is.gap is.blanks) (Walks.steps Outside Outside 61 is.written refl (walk_value is.written parameter.1 is.value))))

pub walk_added : (text : List ℕ) (parameter : List ℕ × List ℕ) → AddsParameter text parameter → Walks Outside text Outside
walk_added text parameter adds =
    subst (λ t. Walks Outside t Outside) (sym adds.is)
    (join_walks adds.front (adds.word ++ adds.back) Outside Outside Outside (walk_blanks adds.front adds.before)
    (join_walks adds.word adds.back Outside Outside Outside (walk_parameter adds.word parameter adds.parameter_is) (walk_blanks adds.back adds.behind)))

walk_first : (text : List ℕ) (params : List (List ℕ × List ℕ)) → FirstParameter text params → Walks Outside text Outside
walk_first text params (inl none) = walk_blanks text none.0
walk_first text params (inr (b, rest, parameter, is, blank, adds, same)) =
    subst (λ t. Walks Outside t Outside) (sym is)
    (Walks.steps Outside Outside b rest (is_other is_blank_byte 44 b refl blank) (subst (λ place. Walks place rest Outside) (sym (outside_after b (is_other is_blank_byte 34 b refl blank))) (walk_added rest parameter adds)))

pub walk_challenge : (text : List ℕ) (challenge : Challenge) → BeginsChallenge text challenge → Walks Outside text Outside
walk_challenge text challenge begins =
    subst (λ t. Walks Outside t Outside) (sym begins.is)
    (join_walks begins.front (challenge.scheme ++ begins.rest) Outside Outside Outside (walk_blanks begins.front begins.before)
    (join_walks challenge.scheme begins.rest Outside Outside Outside (walk_token challenge.scheme begins.scheme) (walk_first begins.rest challenge.params begins.params)))
