-- The tests of a reference's parts accept the words of its grammar.
use Rattle.std.proofs.Common.{◌≡◌, ◌≢◌, ◌==◌, ◌&&◌, ◌||◌, not, ◌⊎◌, inl, inr, ℕ, zero, suc, Bool, true, false, List, [], ◌∷◌, ◌++◌, Option, Some, None, length, nat_le, codes, refl, sym, ap, ◌∙◌, subst, true≢false, arith, eqb-true, eq-eqb}
use Rattle.std.specs.Prelude.{bytes_eq, IfSome}
use Rattle.std.specs.List.{list_all}
use Rattle.std.specs.Option.{option_map_or}
use Rattle.std.specs.Char.{is_ascii_alphanumeric, is_ascii_digit, is_ascii_hexdigit}
use Rattle.std.specs.Cmp.Lexicographic.{same_text}
use Rattle.std.proofs.lemmas.Bool.{leb-true, le-leb}
use Rattle.std.proofs.lemmas.Bool.Decides.{nat_tests}
use Rattle.oci_names.proofs.Cuts.{Lacks, before-Lacks, before-at, after-Lacks, after-at}
use Rattle.oci_names.proofs.LetterCuts.{and_left, and_right, both_true, Free, spelled, is_spelled, listed, is_listed, free_joined, free_of, apart, unlettered}
use Rattle.oci_names.specs.Grammar.{before, after, is_dashes, is_domain_component, is_host, is_digits, is_domain, is_path_letter, is_path_separator, is_path_component, is_path, is_tag_start, is_tag_byte, is_tag, is_algorithm_separator, is_algorithm, is_hexadecimal, is_digest}
use Rattle.oci_names.specs.Parts.{Parts, is_grammatical}
use Rattle.oci_names.specs.Words.{Run, Dashes, DomainComponent, Host, Domain, PathSeparator, PathComponent, Path, Tag, AlgorithmSeparator, Algorithm, Encoded, InGrammar}

or_cases : (a b : Bool) → (a || b) ≡ true → (a ≡ true) ⊎ (b ≡ true)
or_cases true b h = inl refl
or_cases false b h = inr h

or_left : (a b : Bool) → a ≡ true → (a || b) ≡ true
or_left true b h = refl
or_left false b h = absurd (true≢false (sym h))

same : (xs ys : List ℕ) → bytes_eq xs ys ≡ true → xs ≡ ys
same xs ys h = same_text xs ys (sym h)

-- domains

dashes_free : (gap : List ℕ) → Dashes gap → Free is_ascii_alphanumeric gap
dashes_free gap s = free_of is_ascii_alphanumeric (λ b. b == 45) (unlettered is_ascii_alphanumeric 45 refl) gap s.1

component : (text : List ℕ) → is_domain_component text ≡ true → DomainComponent text
component = spelled is_ascii_alphanumeric is_dashes Dashes refl (λ gap ne t. (ne, t)) (λ gap s. s.1) dashes_free

is_component : (text : List ℕ) → DomainComponent text → is_domain_component text ≡ true
is_component = is_spelled is_ascii_alphanumeric is_dashes Dashes refl (λ gap ne t. (ne, t)) (λ gap s. s.1) dashes_free

component_free : (c : ℕ) → is_ascii_alphanumeric c ≡ false → (45 == c) ≡ false → (text : List ℕ) → DomainComponent text → Free (λ b. b == c) text
component_free c k d text j =
    free_joined (λ b. b == c) (Run is_ascii_alphanumeric) Dashes (λ t run. free_of (λ b. b == c) is_ascii_alphanumeric (apart is_ascii_alphanumeric c k) t run.1)
    (λ t s. free_of (λ b. b == c) (λ b. b == 45) (unlettered (λ b. b == c) 45 d) t s.1) text j

host : (text : List ℕ) → is_host text ≡ true → Host text
host = listed 46 is_domain_component DomainComponent component is_component (component_free 46 refl refl)

is_host_from : (text : List ℕ) → Host text → is_host text ≡ true
is_host_from = is_listed 46 is_domain_component DomainComponent component is_component (component_free 46 refl refl)

host_free : (text : List ℕ) → Host text → Free (λ b. b == 58) text
host_free text j =
    free_joined (λ b. b == 58) DomainComponent (λ gap. gap ≡ codes ".") (component_free 58 refl refl) (λ t e. let P : List ℕ → Type 0 = Free (λ b. b == 58) in subst P (sym e) (refl, tt)) text j

-- paths

path_separator : (gap : List ℕ) → gap ≢ [] → is_path_separator gap ≡ true → PathSeparator gap
path_separator gap ne h =
    elim (or_cases (is_dashes gap || bytes_eq gap (codes ".") || bytes_eq gap (codes "_")) (bytes_eq gap (codes "__")) h) [
      | inr e ↦ inr (inr (inl (same gap (codes "__") e)))
      | inl k ↦ elim (or_cases (is_dashes gap || bytes_eq gap (codes ".")) (bytes_eq gap (codes "_")) k) [
        | inr e ↦ inr (inl (same gap (codes "_") e))
        | inl l ↦ elim (or_cases (is_dashes gap) (bytes_eq gap (codes ".")) l) [
          | inr e ↦ inl (same gap (codes ".") e)
          | inl d ↦ inr (inr (inr (ne, d)))
        ]
      ]
    ]

is_separator : (gap : List ℕ) → PathSeparator gap → is_path_separator gap ≡ true
is_separator gap (inl e) = ap is_path_separator e
is_separator gap (inr (inl e)) = ap is_path_separator e
is_separator gap (inr (inr (inl e))) = ap is_path_separator e
is_separator gap (inr (inr (inr d))) =
    or_left (is_dashes gap || bytes_eq gap (codes ".") || bytes_eq gap (codes "_")) (bytes_eq gap (codes "__"))
    (or_left (is_dashes gap || bytes_eq gap (codes ".")) (bytes_eq gap (codes "_")) (or_left (is_dashes gap) (bytes_eq gap (codes ".")) d.1))

separator_free : (p : ℕ → Bool) → p 46 ≡ false → p 95 ≡ false → p 45 ≡ false → (gap : List ℕ) → PathSeparator gap → Free p gap
separator_free p a b c gap (inl e) = subst (Free p) (sym e) (a, tt)
separator_free p a b c gap (inr (inl e)) = subst (Free p) (sym e) (b, tt)
separator_free p a b c gap (inr (inr (inl e))) = subst (Free p) (sym e) (b, (b, tt))
separator_free p a b c gap (inr (inr (inr d))) = free_of p (λ x. x == 45) (unlettered p 45 c) gap d.1

path_component : (text : List ℕ) → is_path_component text ≡ true → PathComponent text
path_component = spelled is_path_letter is_path_separator PathSeparator refl path_separator is_separator (separator_free is_path_letter refl refl refl)

is_path_component_from : (text : List ℕ) → PathComponent text → is_path_component text ≡ true
is_path_component_from = is_spelled is_path_letter is_path_separator PathSeparator refl path_separator is_separator (separator_free is_path_letter refl refl refl)

path_component_free : (text : List ℕ) → PathComponent text → Free (λ b. b == 47) text
path_component_free text j =
    free_joined (λ b. b == 47) (Run is_path_letter) PathSeparator (λ t run. free_of (λ b. b == 47) is_path_letter (apart is_path_letter 47 refl) t run.1)
    (separator_free (λ b. b == 47) refl refl refl) text j

pub path : (text : List ℕ) → is_path text ≡ true → Path text
path = listed 47 is_path_component PathComponent path_component is_path_component_from path_component_free

pub is_path_from : (text : List ℕ) → Path text → is_path text ≡ true
is_path_from = is_listed 47 is_path_component PathComponent path_component is_path_component_from path_component_free

-- cuts at a colon

colon_cases : (xs : List ℕ) → Free (λ b. b == 58) xs ⊎ ((a : List ℕ) × (b : List ℕ) × (xs ≡ a ++ (58 ∷ b)) × Free (λ b. b == 58) a)
colon_cases [] = inl tt
colon_cases (x ∷ xs) =
    let rest = colon_cases xs in
    elim (x == 58) as (λ t. (x == 58) ≡ t → Free (λ b. b == 58) (x ∷ xs) ⊎ ((a : List ℕ) × (b : List ℕ) × (x ∷ xs ≡ a ++ (58 ∷ b)) × Free (λ b. b == 58) a)) [
      | true ↦ λ e. inr ([], xs, ap (λ y. y ∷ xs) (eqb-true x 58 e), tt)
      | false ↦ λ e. elim rest [ inl f ↦ inl (e, f) | inr p ↦ inr (x ∷ p.0, p.1, ap (λ ys. x ∷ ys) p.2, (e, p.3)) ]
    ] refl

lacks : (xs : List ℕ) → Free (λ b. b == 58) xs → Lacks 58 xs
lacks [] f i lt = absurd (omega arith)
lacks (x ∷ xs) f zero lt = λ e. true≢false (sym (eq-eqb x 58 e) ∙ f.0)
lacks (x ∷ xs) f (suc i) lt = lacks xs f.1 i (omega arith)

uncut : (head : List ℕ → Bool) (tail : List ℕ → Bool) (d : Bool) (xs : List ℕ) → Free (λ b. b == 58) xs → (head (before 58 xs) && option_map_or tail (after 58 xs) d) ≡ (head xs && d)
uncut head tail d xs f = λ i. head (before-Lacks 58 xs (lacks xs f) i) && option_map_or tail (after-Lacks 58 xs (lacks xs f) i) d

cut_at : (head : List ℕ → Bool) (tail : List ℕ → Bool) (d : Bool) (xs a b : List ℕ) → xs ≡ a ++ (58 ∷ b) → Free (λ b. b == 58) a → (head (before 58 xs) && option_map_or tail (after 58 xs) d) ≡ (head a && tail b)
cut_at head tail d xs a b e f =
    ap (λ t. head (before 58 t) && option_map_or tail (after 58 t) d) e ∙ (λ i. head (before-at 58 a b (lacks a f) i) && option_map_or tail (after-at 58 a b (lacks a f) i) d)

some_of : (letter : ℕ → Bool) (xs : List ℕ) → (not (length xs == 0) && list_all letter xs) ≡ true → Run letter xs
some_of letter [] h = absurd (true≢false (sym h))
some_of letter (x ∷ xs) h = ((λ e. cc), and_right (not (length (x ∷ xs) == 0)) (list_all letter (x ∷ xs)) h)

not_none : (x : ℕ) (xs : List ℕ) → not (length (x ∷ xs) == 0) ≡ true
not_none x xs = grind (arith, nat_tests)

is_some_of : (letter : ℕ → Bool) (xs : List ℕ) → Run letter xs → (not (length xs == 0) && list_all letter xs) ≡ true
is_some_of letter [] run = absurd (run.0 refl)
is_some_of letter (x ∷ xs) run = both_true (not (length (x ∷ xs) == 0)) (list_all letter (x ∷ xs)) (not_none x xs) run.1

pub domain : (text : List ℕ) → is_domain text ≡ true → Domain text
domain text h =
    elim (colon_cases text) [
      | inl f ↦ inl (host text (and_left (is_host text) true (sym (uncut is_host is_digits true text f) ∙ h)))
      | inr p ↦
          let k : (is_host p.0 && is_digits p.1) ≡ true = sym (cut_at is_host is_digits true text p.0 p.1 p.2 p.3) ∙ h in
          inr (p.0, p.1, p.2, host p.0 (and_left (is_host p.0) (is_digits p.1) k), some_of is_ascii_digit p.1 (and_right (is_host p.0) (is_digits p.1) k))
    ]

pub is_domain_from : (text : List ℕ) → Domain text → is_domain text ≡ true
is_domain_from text (inl j) = uncut is_host is_digits true text (host_free text j) ∙ both_true (is_host text) true (is_host_from text j) refl
is_domain_from text (inr (a, b, e, j, run)) =
    cut_at is_host is_digits true text a b e (host_free a j) ∙ both_true (is_host a) (is_digits b) (is_host_from a j) (is_some_of is_ascii_digit b run)

-- digests

algorithm_separator : (gap : List ℕ) → gap ≢ [] → is_algorithm_separator gap ≡ true → AlgorithmSeparator gap
algorithm_separator [] ne h = absurd (ne refl)
algorithm_separator (b ∷ []) ne h =
    let k = and_left (b == 43 || b == 46 || b == 95 || b == 45) true h in
    let alone : (c : ℕ) → b ≡ c → (b ∷ []) ≡ (c ∷ []) = λ c e. ap (λ y. y ∷ []) e in
    elim (or_cases (b == 43 || b == 46 || b == 95) (b == 45) k) [
      | inr e ↦ inr (inr (inr (alone 45 (eqb-true b 45 e))))
      | inl l ↦ elim (or_cases (b == 43 || b == 46) (b == 95) l) [
        | inr e ↦ inr (inr (inl (alone 95 (eqb-true b 95 e))))
        | inl m ↦ elim (or_cases (b == 43) (b == 46) m) [
          | inr e ↦ inr (inl (alone 46 (eqb-true b 46 e)))
          | inl e ↦ inl (alone 43 (eqb-true b 43 e))
        ]
      ]
    ]
algorithm_separator (b ∷ (c ∷ cs)) ne h = absurd (too_long (and_right (b == 43 || b == 46 || b == 95 || b == 45) (length (c ∷ cs) == 0) h)) where
  too_long : (length (c ∷ cs) == 0) ≡ true → ⊥
  too_long e = absurd (omega (arith, eqb-true (length (c ∷ cs)) 0 e))

is_algorithm_separator_from : (gap : List ℕ) → AlgorithmSeparator gap → is_algorithm_separator gap ≡ true
is_algorithm_separator_from gap (inl e) = ap is_algorithm_separator e
is_algorithm_separator_from gap (inr (inl e)) = ap is_algorithm_separator e
is_algorithm_separator_from gap (inr (inr (inl e))) = ap is_algorithm_separator e
is_algorithm_separator_from gap (inr (inr (inr e))) = ap is_algorithm_separator e

one_free : (p : ℕ → Bool) → p 43 ≡ false → p 46 ≡ false → p 95 ≡ false → p 45 ≡ false → (gap : List ℕ) → AlgorithmSeparator gap → Free p gap
one_free p a b c d gap (inl e) = subst (Free p) (sym e) (a, tt)
one_free p a b c d gap (inr (inl e)) = subst (Free p) (sym e) (b, tt)
one_free p a b c d gap (inr (inr (inl e))) = subst (Free p) (sym e) (c, tt)
one_free p a b c d gap (inr (inr (inr e))) = subst (Free p) (sym e) (d, tt)

algorithm : (text : List ℕ) → is_algorithm text ≡ true → Algorithm text
algorithm = spelled is_ascii_alphanumeric is_algorithm_separator AlgorithmSeparator refl algorithm_separator is_algorithm_separator_from (one_free is_ascii_alphanumeric refl refl refl refl)

is_algorithm_from : (text : List ℕ) → Algorithm text → is_algorithm text ≡ true
is_algorithm_from = is_spelled is_ascii_alphanumeric is_algorithm_separator AlgorithmSeparator refl algorithm_separator is_algorithm_separator_from (one_free is_ascii_alphanumeric refl refl refl refl)

algorithm_free : (text : List ℕ) → Algorithm text → Free (λ b. b == 58) text
algorithm_free text j =
    free_joined (λ b. b == 58) (Run is_ascii_alphanumeric) AlgorithmSeparator (λ t run. free_of (λ b. b == 58) is_ascii_alphanumeric (apart is_ascii_alphanumeric 58 refl) t run.1)
    (one_free (λ b. b == 58) refl refl refl refl) text j

no_colon : (b : Bool) → (b && false) ≡ true → ⊥
no_colon true h = true≢false (sym h)
no_colon false h = true≢false (sym h)

pub encoded : (text : List ℕ) → is_digest text ≡ true → Encoded text
encoded text h =
    elim (colon_cases text) [
      | inl f ↦ absurd (no_colon (is_algorithm text) (sym (uncut is_algorithm is_hexadecimal false text f) ∙ h))
      | inr p ↦
          let k : (is_algorithm p.0 && is_hexadecimal p.1) ≡ true = sym (cut_at is_algorithm is_hexadecimal false text p.0 p.1 p.2 p.3) ∙ h in
          (p.0, p.1, p.2, algorithm p.0 (and_left (is_algorithm p.0) (is_hexadecimal p.1) k), some_of is_ascii_hexdigit p.1 (and_right (is_algorithm p.0) (is_hexadecimal p.1) k))
    ]

pub is_digest_from : (text : List ℕ) → Encoded text → is_digest text ≡ true
is_digest_from text (a, b, e, j, run) =
    cut_at is_algorithm is_hexadecimal false text a b e (algorithm_free a j) ∙ both_true (is_algorithm a) (is_hexadecimal b) (is_algorithm_from a j) (is_some_of is_ascii_hexdigit b run)

-- tags

pub tag : (text : List ℕ) → is_tag text ≡ true → Tag text
tag [] h = absurd (true≢false (sym h))
tag (x ∷ xs) h =
    let two = and_left (is_tag_start x && nat_le (length xs) 127) (list_all is_tag_byte xs) h in (
      x,
      xs,
      refl,
      and_left (is_tag_start x) (nat_le (length xs) 127) two,
      leb-true (length xs) 127 (and_right (is_tag_start x) (nat_le (length xs) 127) two),
      and_right (is_tag_start x && nat_le (length xs) 127) (list_all is_tag_byte xs) h,
    )

pub is_tag_from : (text : List ℕ) → Tag text → is_tag text ≡ true
is_tag_from text (x, xs, e, start, len, rest) =
    ap is_tag e ∙ both_true (is_tag_start x && nat_le (length xs) 127) (list_all is_tag_byte xs) (both_true (is_tag_start x) (nat_le (length xs) 127) start (le-leb (length xs) 127 len)) rest

-- all parts

perhaps : (Word : List ℕ → Type 0) (test : List ℕ → Bool) → ((t : List ℕ) → test t ≡ true → Word t) → (o : Option (List ℕ)) → option_map_or test o true ≡ true → IfSome o Word
perhaps Word test f None h = tt
perhaps Word test f (Some t) h = f t h

is_perhaps : (Word : List ℕ → Type 0) (test : List ℕ → Bool) → ((t : List ℕ) → Word t → test t ≡ true) → (o : Option (List ℕ)) → IfSome o Word → option_map_or test o true ≡ true
is_perhaps Word test f None w = refl
is_perhaps Word test f (Some t) w = f t w

pub in_grammar : (p : Parts) → is_grammatical p ≡ true → InGrammar p
in_grammar p h =
    let a = is_domain p.domain in
    let b = is_path p.path in
    let c = option_map_or is_tag p.tag true in
    let d = option_map_or is_digest p.digest true in
    let three = and_left ((a && b) && c) d h in
    let two = and_left (a && b) c three in
    record {
      domain = domain p.domain (and_left a b two);
      path = path p.path (and_right a b two);
      tag = perhaps Tag is_tag tag p.tag (and_right (a && b) c three);
      digest = perhaps Encoded is_digest encoded p.digest (and_right ((a && b) && c) d h);
    }

pub is_in_grammar : (p : Parts) → InGrammar p → is_grammatical p ≡ true
is_in_grammar p g =
    let a = is_domain p.domain in
    let b = is_path p.path in
    let c = option_map_or is_tag p.tag true in
    let d = option_map_or is_digest p.digest true in
    both_true ((a && b) && c) d (both_true (a && b) c (both_true a b (is_domain_from p.domain g.domain) (is_path_from p.path g.path)) (is_perhaps Tag is_tag is_tag_from p.tag g.tag))
    (is_perhaps Encoded is_digest is_digest_from p.digest g.digest)
