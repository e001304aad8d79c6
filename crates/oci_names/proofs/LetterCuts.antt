-- Tests of strings that are cut at their letters, and the words that they find.
use Rattle.std.proofs.Common.{◌≡◌, ◌≢◌, ◌==◌, ◌&&◌, ℕ, suc, Bool, true, false, cond, List, [], ◌∷◌, ◌++◌, Some, length, refl, sym, ap, ◌∙◌, subst, true≢false}
use Rattle.std.specs.Prelude.{slice_get}
use Rattle.std.specs.List.{list_all, slice_split, onto_first}
use Rattle.std.specs.Option.{option_map_or}
use Rattle.std.proofs.lemmas.List.{append_assoc}
use Rattle.std.proofs.Math.Numerals.{sub-one}
use Rattle.std.proofs.Common.{eqb-true, eq-eqb}
use Rattle.oci_names.specs.Grammar.{has_letter_ends, is_joined}
use Rattle.oci_names.specs.Words.{Run, Joined}

pub and_left : (a b : Bool) → (a && b) ≡ true → a ≡ true
and_left true b h = refl
and_left false b h = h

pub and_right : (a b : Bool) → (a && b) ≡ true → b ≡ true
and_right true b h = h
and_right false b h = absurd (true≢false (sym h))

pub both_true : (a b : Bool) → a ≡ true → b ≡ true → (a && b) ≡ true
both_true true b h k = k
both_true false b h k = h

-- no byte passes the test
abbrev pub Free : (ℕ → Bool) → List ℕ → Type 0
Free p [] = Unit {0}
Free p (x ∷ xs) = (p x ≡ false) × Free p xs

pub Free-append : (p : ℕ → Bool) (xs ys : List ℕ) → Free p xs → Free p ys → Free p (xs ++ ys)
Free-append p [] ys f g = g
Free-append p (x ∷ xs) ys f g = (f.0, Free-append p xs ys f.1 g)

-- the first part ends at the first byte that passes the test
pub split_gap : (p : ℕ → Bool) (gap : List ℕ) (y : ℕ) (ys : List ℕ) → Free p gap → p y ≡ true → slice_split p (gap ++ (y ∷ ys)) ≡ gap ∷ slice_split p ys
split_gap p [] y ys f h = ap (λ b. cond b ([] ∷ slice_split p ys) (onto_first y (slice_split p ys))) h
split_gap p (x ∷ xs) y ys f h =
    ap (λ b. cond b ([] ∷ slice_split p (xs ++ (y ∷ ys))) (onto_first x (slice_split p (xs ++ (y ∷ ys))))) f.0
    ∙ ap (onto_first x) (split_gap p xs y ys f.1 h)

pub split_free : (p : ℕ → Bool) (xs : List ℕ) → Free p xs → slice_split p xs ≡ xs ∷ []
split_free p [] f = refl
split_free p (x ∷ xs) f =
    ap (λ b. cond b ([] ∷ slice_split p xs) (onto_first x (slice_split p xs))) f.0 ∙ ap (onto_first x) (split_free p xs f.1)

-- the last of a text
abbrev last_of : ℕ → List ℕ → ℕ
last_of x [] = x
last_of x (y ∷ ys) = last_of y ys

last_read : (x : ℕ) (xs : List ℕ) → slice_get (x ∷ xs) (length xs) ≡ Some (last_of x xs)
last_read x [] = refl
last_read x (y ∷ ys) = last_read y ys

last_after : (x : ℕ) (gap : List ℕ) (y : ℕ) (ys : List ℕ) → last_of x (gap ++ (y ∷ ys)) ≡ last_of y ys
last_after x [] y ys = refl
last_after x (g ∷ gs) y ys = last_after g gs y ys

last_free : (p : ℕ → Bool) (x : ℕ) (xs : List ℕ) → p x ≡ false → Free p xs → p (last_of x xs) ≡ false
last_free p x [] h f = h
last_free p x (y ∷ ys) h f = last_free p y ys f.0 f.1

module _ (letter : ℕ → Bool) (test : List ℕ → Bool) (Separator : List ℕ → Type 0) (nothing : test [] ≡ true)
    (sound : (gap : List ℕ) → gap ≢ [] → test gap ≡ true → Separator gap) (complete : (gap : List ℕ) → Separator gap → test gap ≡ true) (free : (gap : List ℕ) → Separator gap → Free letter gap) where
  abbrev Spelled : List ℕ → Type 0
  Spelled text = Joined (Run letter) Separator text

  run_longer : (x : ℕ) (text : List ℕ) → letter x ≡ true → Run letter text → Run letter (x ∷ text)
  run_longer x text h run = ((λ e. cc), both_true (letter x) (list_all letter text) h run.1)

  one_letter : (x : ℕ) → letter x ≡ true → Run letter (x ∷ [])
  one_letter x h = ((λ e. cc), both_true (letter x) true h refl)

  -- a letter before a first run
  longer : (x : ℕ) (text : List ℕ) → letter x ≡ true → Spelled text → Spelled (x ∷ text)
  longer x text h (Joined.alone _ run) = Joined.alone (x ∷ text) (run_longer x text h run)
  longer x text h (Joined.more _ item gap rest e run s j) = Joined.more (x ∷ text) (x ∷ item) gap rest (ap (λ t. x ∷ t) e) (run_longer x item h run) s j

  in_front : (x : ℕ) (gap text : List ℕ) → letter x ≡ true → test gap ≡ true → Spelled text → Spelled (x ∷ (gap ++ text))
  in_front x [] text h t j = longer x text h j
  in_front x (g ∷ gs) text h t j = Joined.more (x ∷ ((g ∷ gs) ++ text)) (x ∷ []) (g ∷ gs) text refl (one_letter x h) (sound (g ∷ gs) (λ e. cc) t) j

  walk : (x : ℕ) (gap ys : List ℕ) → letter x ≡ true → Free letter gap → list_all test (slice_split letter (gap ++ ys)) ≡ true → letter (last_of x (gap ++ ys)) ≡ true → Spelled (x ∷ (gap ++ ys))
  walk x [] [] h f s l = Joined.alone (x ∷ []) (one_letter x h)
  walk x (g ∷ gs) [] h f s l = absurd (true≢false (sym l ∙ last_free letter g (gs ++ []) f.0 (Free-append letter gs [] f.1 tt)))
  walk x gap (y ∷ zs) h f s l =
      elim (letter y) as (λ b. letter y ≡ b → Spelled (x ∷ (gap ++ (y ∷ zs)))) [
        | true ↦ λ e.
            let parts : (test gap && list_all test (slice_split letter zs)) ≡ true = sym (ap (list_all test) (split_gap letter gap y zs f e)) ∙ s in
            in_front x gap (y ∷ zs) h (and_left (test gap) (list_all test (slice_split letter zs)) parts)
            (walk y [] zs e tt (and_right (test gap) (list_all test (slice_split letter zs)) parts) (sym (ap letter (last_after x gap y zs)) ∙ l))
        | false ↦ λ e.
            let again = append_assoc gap (y ∷ []) zs in
            let P : List ℕ → Type 0 = λ t. Spelled (x ∷ t) in
            subst P again (walk x (gap ++ (y ∷ [])) zs h (Free-append letter gap (y ∷ []) f (e, tt)) (ap (λ t. list_all test (slice_split letter t)) again ∙ s) (ap (λ t. letter (last_of x t)) again ∙ l))
      ] refl

  ends : (x : ℕ) (xs : List ℕ) → has_letter_ends letter (x ∷ xs) ≡ (letter x && letter (last_of x xs))
  ends x xs = ap (λ o. letter x && option_map_or letter o false) (ap (slice_get (x ∷ xs)) (sub-one (suc (length xs))) ∙ last_read x xs)

  after_letter : (x : ℕ) (xs : List ℕ) → letter x ≡ true → list_all test (slice_split letter (x ∷ xs)) ≡ list_all test (slice_split letter xs)
  after_letter x xs h =
      ap (λ b. list_all test (cond b ([] ∷ slice_split letter xs) (onto_first x (slice_split letter xs)))) h ∙ ap (λ b. b && list_all test (slice_split letter xs)) nothing

  pub spelled : (text : List ℕ) → is_joined letter test text ≡ true → Spelled text
  spelled [] h = absurd (true≢false (sym h))
  spelled (x ∷ xs) h =
      let both : (letter x && letter (last_of x xs)) ≡ true = sym (ends x xs) ∙ and_left (has_letter_ends letter (x ∷ xs)) (list_all test (slice_split letter (x ∷ xs))) h in
      let first = and_left (letter x) (letter (last_of x xs)) both in
      let last = and_right (letter x) (letter (last_of x xs)) both in
      let parts = and_right (has_letter_ends letter (x ∷ xs)) (list_all test (slice_split letter (x ∷ xs))) h in
      walk x [] xs first tt (sym (after_letter x xs first) ∙ parts) last

  -- a string that begins and ends with a letter, and has separators between its letters
  record Word (text : List ℕ) : Type 0 where
    first : ℕ
    rest : List ℕ
    is : text ≡ first ∷ rest
    first_letter : letter first ≡ true
    last_letter : letter (last_of first rest) ≡ true
    gaps : list_all test (slice_split letter rest) ≡ true

  gaps_of_run : (run text : List ℕ) → list_all letter run ≡ true → list_all test (slice_split letter text) ≡ true → list_all test (slice_split letter (run ++ text)) ≡ true
  gaps_of_run [] text h s = s
  gaps_of_run (x ∷ xs) text h s =
      after_letter x (xs ++ text) (and_left (letter x) (list_all letter xs) h) ∙ gaps_of_run xs text (and_right (letter x) (list_all letter xs) h) s

  last_of_run : (x : ℕ) (xs : List ℕ) → letter x ≡ true → list_all letter xs ≡ true → letter (last_of x xs) ≡ true
  last_of_run x [] h k = h
  last_of_run x (y ∷ ys) h k = last_of_run y ys (and_left (letter y) (list_all letter ys) k) (and_right (letter y) (list_all letter ys) k)

  no_gaps : (xs : List ℕ) → list_all letter xs ≡ true → list_all test (slice_split letter xs) ≡ true
  no_gaps [] h = both_true (test []) true nothing refl
  no_gaps (x ∷ xs) h = after_letter x xs (and_left (letter x) (list_all letter xs) h) ∙ no_gaps xs (and_right (letter x) (list_all letter xs) h)

  run_word : (text : List ℕ) → Run letter text → Word text
  run_word [] run = absurd (run.0 refl)
  run_word (x ∷ xs) run =
      let h = and_left (letter x) (list_all letter xs) run.1 in
      let k = and_right (letter x) (list_all letter xs) run.1 in
      record { first = x; rest = xs; is = refl; first_letter = h; last_letter = last_of_run x xs h k; gaps = no_gaps xs k }

  more_word : (text item gap rest : List ℕ) → text ≡ item ++ (gap ++ rest) → Run letter item → Separator gap → Word rest → Word text
  more_word text [] gap rest e run s w = absurd (run.0 refl)
  more_word text (x ∷ xs) gap rest e run s w =
      let h = and_left (letter x) (list_all letter xs) run.1 in
      let k = and_right (letter x) (list_all letter xs) run.1 in
      let whole : (xs ++ (gap ++ rest)) ≡ xs ++ (gap ++ (w.first ∷ w.rest)) = ap (λ t. xs ++ (gap ++ t)) w.is in
      let behind : list_all test (slice_split letter (gap ++ (w.first ∷ w.rest))) ≡ true
      = ap (list_all test) (split_gap letter gap w.first w.rest (free gap s) w.first_letter) ∙ both_true (test gap) (list_all test (slice_split letter w.rest)) (complete gap s) w.gaps in
      let end : last_of x (xs ++ (gap ++ (w.first ∷ w.rest))) ≡ last_of w.first w.rest
      = ap (last_of x) (sym (append_assoc xs gap (w.first ∷ w.rest))) ∙ last_after x (xs ++ gap) w.first w.rest in
      record {
        first = x;
        rest = xs ++ (gap ++ rest);
        is = e;
        first_letter = h;
        last_letter = ap (λ t. letter (last_of x t)) whole ∙ (ap letter end ∙ w.last_letter);
        gaps = ap (λ t. list_all test (slice_split letter t)) whole ∙ gaps_of_run xs (gap ++ (w.first ∷ w.rest)) k behind;
      }

  word : (text : List ℕ) → Spelled text → Word text
  word text (Joined.alone _ run) = run_word text run
  word text (Joined.more _ item gap rest e run s j) = more_word text item gap rest e run s (word rest j)

  tested : (x : ℕ) (xs : List ℕ) → letter x ≡ true → letter (last_of x xs) ≡ true → list_all test (slice_split letter xs) ≡ true → is_joined letter test (x ∷ xs) ≡ true
  tested x xs h l s =
      both_true (has_letter_ends letter (x ∷ xs)) (list_all test (slice_split letter (x ∷ xs))) (ends x xs ∙ both_true (letter x) (letter (last_of x xs)) h l) (after_letter x xs h ∙ s)

  pub is_spelled : (text : List ℕ) → Spelled text → is_joined letter test text ≡ true
  is_spelled text j = let w = word text j in ap (is_joined letter test) w.is ∙ tested w.first w.rest w.first_letter w.last_letter w.gaps

module _ (c : ℕ) (test : List ℕ → Bool) (Item : List ℕ → Type 0) (sound : (t : List ℕ) → test t ≡ true → Item t) (complete : (t : List ℕ) → Item t → test t ≡ true)
    (free : (t : List ℕ) → Item t → Free (λ b. b == c) t) where
  abbrev Listed : List ℕ → Type 0
  Listed text = Joined Item (λ gap. gap ≡ c ∷ []) text

  walk_items : (item ys : List ℕ) → Free (λ b. b == c) item → list_all test (slice_split (λ b. b == c) (item ++ ys)) ≡ true → Listed (item ++ ys)
  walk_items item [] f s =
      let last : (test (item ++ []) && true) ≡ true = sym (ap (list_all test) (split_free (λ b. b == c) (item ++ []) (Free-append (λ b. b == c) item [] f tt))) ∙ s in
      Joined.alone (item ++ []) (sound (item ++ []) (and_left (test (item ++ [])) true last))
  walk_items item (y ∷ zs) f s =
      elim (y == c) as (λ b. (y == c) ≡ b → Listed (item ++ (y ∷ zs))) [
        | true ↦ λ e.
            let parts : (test item && list_all test (slice_split (λ b. b == c) zs)) ≡ true = sym (ap (list_all test) (split_gap (λ b. b == c) item y zs f e)) ∙ s in
            Joined.more (item ++ (y ∷ zs)) item (c ∷ []) zs (ap (λ b. item ++ (b ∷ zs)) (eqb-true y c e)) (sound item (and_left (test item) (list_all test (slice_split (λ b. b == c) zs)) parts)) refl
            (walk_items [] zs tt (and_right (test item) (list_all test (slice_split (λ b. b == c) zs)) parts))
        | false ↦ λ e.
            let again = append_assoc item (y ∷ []) zs in
            subst Listed again (walk_items (item ++ (y ∷ [])) zs (Free-append (λ b. b == c) item (y ∷ []) f (e, tt)) (ap (λ t. list_all test (slice_split (λ b. b == c) t)) again ∙ s))
      ] refl

  pub listed : (text : List ℕ) → list_all test (slice_split (λ b. b == c) text) ≡ true → Listed text
  listed text h = walk_items [] text tt h

  pub is_listed : (text : List ℕ) → Listed text → list_all test (slice_split (λ b. b == c) text) ≡ true
  is_listed text (Joined.alone _ i) = ap (list_all test) (split_free (λ b. b == c) text (free text i)) ∙ both_true (test text) true (complete text i) refl
  is_listed text (Joined.more _ item gap rest e i s j) =
      let whole : text ≡ item ++ (c ∷ rest) = e ∙ ap (λ g. item ++ (g ++ rest)) s in
      ap (λ t. list_all test (slice_split (λ b. b == c) t)) whole
      ∙ ap (list_all test) (split_gap (λ b. b == c) item c rest (free item i) (eq-eqb c c refl))
      ∙ both_true (test item) (list_all test (slice_split (λ b. b == c) rest)) (complete item i) (is_listed rest j)

pub free_joined : (p : ℕ → Bool) (Item Separator : List ℕ → Type 0) → ((t : List ℕ) → Item t → Free p t) → ((t : List ℕ) → Separator t → Free p t) → (text : List ℕ) → Joined Item Separator text → Free p text
free_joined p Item Separator f g text (Joined.alone _ i) = f text i
free_joined p Item Separator f g text (Joined.more _ item gap rest e i s j) =
    subst (Free p) (sym e) (Free-append p item (gap ++ rest) (f item i) (Free-append p gap rest (g gap s) (free_joined p Item Separator f g rest j)))

pub free_of : (p letter : ℕ → Bool) → ((b : ℕ) → letter b ≡ true → p b ≡ false) → (text : List ℕ) → list_all letter text ≡ true → Free p text
free_of p letter f [] h = tt
free_of p letter f (x ∷ xs) h = (f x (and_left (letter x) (list_all letter xs) h), free_of p letter f xs (and_right (letter x) (list_all letter xs) h))

-- a letter differs from the byte c
pub apart : (letter : ℕ → Bool) (c : ℕ) → letter c ≡ false → (b : ℕ) → letter b ≡ true → (b == c) ≡ false
apart letter c k b h =
    elim (b == c) as (λ t. (b == c) ≡ t → t ≡ false) [ true ↦ λ e. absurd (true≢false (sym h ∙ (ap letter (eqb-true b c e) ∙ k))) | false ↦ λ e. refl ] refl

-- repetitions of c contain no letters, if c is not a letter
pub unlettered : (letter : ℕ → Bool) (c : ℕ) → letter c ≡ false → (b : ℕ) → (b == c) ≡ true → letter b ≡ false
unlettered letter c k b e = ap letter (eqb-true b c e) ∙ k
