-- Repositories, tags and digests are plain paths, and a domain has no slash.
use Rattle.std.specs.Prelude.{codes, not}
use Rattle.std.specs.List.{list_all}
use Rattle.std.specs.Char.{is_ascii_alphanumeric, is_ascii_digit}
use Rattle.std.proofs.Common.{◌≡◌, inl, inr, ℕ, Bool, true, false, ◌==◌, List, [], ◌∷◌, ◌++◌, refl, sym, ap, ◌∙◌, subst, arith, append_assoc}
use Rattle.std.proofs.lemmas.Bool.Decides.{nat_tests}
use Rattle.oci_names.specs.Grammar.{is_path_letter, is_tag_byte}
use Rattle.oci_names.specs.Words.{Run, Joined, Dashes, DomainComponent, Host, Domain, PathSeparator, PathComponent, Path, Tag}
use Rattle.oci_names.proofs.Algorithms.{each}
use Rattle.oci_digests.specs.Names.{digest_text, prefix_of}
use Rattle.oci_digests.specs.Hashes.{hash_of}
use Rattle.oci_names.specs.declared.algorithm.Algorithm.{Algorithm}
use Rattle.hex.specs.Hex.{encode_lower}
use Rattle.oci_link.specs.PlainPaths.{is_first_byte, is_segment_byte, Segment, PlainPath}
use Rattle.oci_digests.proofs.HexDigits.{and_left, and_right, and_both, all_append, all_more, is_lower_digit}
use Rattle.oci_digests.proofs.Algorithms.{digits_of_hash}

-- ---- tests that all bytes of a concatenation pass

pub joined_all : (p : ℕ → Bool) (Item Separator : List ℕ → Type 0) → ((t : List ℕ) → Item t → list_all p t ≡ true) → ((t : List ℕ) → Separator t → list_all p t ≡ true) → (t : List ℕ) → Joined Item Separator t → list_all p t ≡ true
joined_all p Item Separator item separator _ (Joined.alone t is) = item t is
joined_all p Item Separator item separator _ (Joined.more t front gap rest is one between others) =
    subst (λ (x : List ℕ). list_all p x ≡ true) (sym is) (all_append p front (gap ++ rest) (item front one) (all_append p gap rest (separator gap between) (joined_all p Item Separator item separator rest others)))

-- the first byte passes the test
abbrev Begins : (ℕ → Bool) → List ℕ → Type 0
Begins p t = (b : ℕ) × (rest : List ℕ) × (t ≡ b ∷ rest) × (p b ≡ true)

joined_begins : (p : ℕ → Bool) (Item Separator : List ℕ → Type 0) → ((t : List ℕ) → Item t → Begins p t) → (t : List ℕ) → Joined Item Separator t → Begins p t
joined_begins p Item Separator item _ (Joined.alone t is) = item t is
joined_begins p Item Separator item _ (Joined.more t front gap rest is one between others) = let first = item front one in (first.0, first.1 ++ (gap ++ rest), is ∙ ap (λ (x : List ℕ). x ++ (gap ++ rest)) first.2, first.3)

run_begins : (p : ℕ → Bool) (t : List ℕ) → Run p t → Begins p t
run_begins p [] run = absurd (run.0 refl)
run_begins p (b ∷ t) run = (b, t, refl, and_left (p b) (list_all p t) run.1)

-- ---- segments

segment_from : (t : List ℕ) → Begins is_first_byte t → list_all is_segment_byte t ≡ true → Segment t
segment_from t (b, rest, is, first) all = (b, rest, is, first, and_right (is_segment_byte b) (list_all is_segment_byte rest) (subst (λ (x : List ℕ). list_all is_segment_byte x ≡ true) is all))

letter_plain : (b : ℕ) → is_path_letter b ≡ true → is_segment_byte b ≡ true
letter_plain b h = grind (arith, nat_tests, h)

letter_first : (b : ℕ) → is_path_letter b ≡ true → is_first_byte b ≡ true
letter_first b h = grind (arith, nat_tests, h)

dash_plain : (b : ℕ) → (b == 45) ≡ true → is_segment_byte b ≡ true
dash_plain b h = grind (arith, nat_tests, h)

gap_plain : (t : List ℕ) → PathSeparator t → list_all is_segment_byte t ≡ true
gap_plain t (inl dot) = subst (λ (x : List ℕ). list_all is_segment_byte x ≡ true) (sym dot) refl
gap_plain t (inr (inl one)) = subst (λ (x : List ℕ). list_all is_segment_byte x ≡ true) (sym one) refl
gap_plain t (inr (inr (inl two))) = subst (λ (x : List ℕ). list_all is_segment_byte x ≡ true) (sym two) refl
gap_plain t (inr (inr (inr dashes))) = all_more (λ b. b == 45) is_segment_byte t dash_plain dashes.1

component_segment : (t : List ℕ) → PathComponent t → Segment t
component_segment t is =
    let first = joined_begins is_path_letter (Run is_path_letter) PathSeparator (run_begins is_path_letter) t is in
    segment_from t (first.0, first.1, first.2, letter_first first.0 first.3)
    (joined_all is_segment_byte (Run is_path_letter) PathSeparator (λ x run. all_more is_path_letter is_segment_byte x letter_plain run.1) gap_plain t is)

tag_plain : (b : ℕ) → is_tag_byte b ≡ true → is_segment_byte b ≡ true
tag_plain b h = grind (arith, nat_tests, h)

pub tag_segment : (t : List ℕ) → Tag t → Segment t
tag_segment t (first, rest, is, start, short, all) = (first, rest, is, start, all_more is_tag_byte is_segment_byte rest tag_plain all)

digit_plain : (b : ℕ) → is_lower_digit b ≡ true → is_segment_byte b ≡ true
digit_plain b h = grind (arith, nat_tests, h)

digits_plain : (a : Algorithm) (bytes : List ℕ) → list_all is_segment_byte (encode_lower (hash_of a bytes)) ≡ true
digits_plain a bytes = all_more is_lower_digit is_segment_byte (encode_lower (hash_of a bytes)) digit_plain (digits_of_hash a bytes)

-- the first byte, if there is one, passes the test
abbrev pub begins_by : (ℕ → Bool) → List ℕ → Bool
begins_by p [] = false
begins_by p (b ∷ rest) = p b

begins_from : (p : ℕ → Bool) (front rest : List ℕ) → begins_by p front ≡ true → Begins p (front ++ rest)
begins_from p [] rest h = absurd (cc h)
begins_from p (b ∷ front) rest h = (b, front ++ rest, refl, h)

-- a text before the digits of a hash
pub hash_segment : (front : List ℕ) (a : Algorithm) (bytes : List ℕ) → begins_by is_first_byte front ≡ true → list_all is_segment_byte front ≡ true → Segment (front ++ encode_lower (hash_of a bytes))
hash_segment front a bytes first all = segment_from (front ++ encode_lower (hash_of a bytes)) (begins_from is_first_byte front (encode_lower (hash_of a bytes)) first) (all_append is_segment_byte front (encode_lower (hash_of a bytes)) all (digits_plain a bytes))

pub digest_segment : (a : Algorithm) (bytes : List ℕ) → Segment (digest_text a bytes)
digest_segment a bytes = hash_segment (prefix_of a) a bytes (each (λ a. begins_by is_first_byte (prefix_of a)) refl a) (each (λ a. list_all is_segment_byte (prefix_of a)) refl a)

-- ---- paths

under : (t rest : List ℕ) → Path t → PlainPath rest → PlainPath (47 ∷ (t ++ rest))
under _ rest (Joined.alone t is) plain = PlainPath.more t rest (component_segment t is) plain
under _ rest (Joined.more t front gap others is one between further) plain =
    let below : PlainPath (47 ∷ (others ++ rest)) = under others rest further plain in
    let whole : t ++ rest ≡ front ++ 47 ∷ (others ++ rest) = ap (λ (x : List ℕ). x ++ rest) (is ∙ ap (λ (g : List ℕ). front ++ (g ++ others)) between) ∙ append_assoc front (47 ∷ others) rest in
    subst (λ (x : List ℕ). PlainPath (47 ∷ x)) (sym whole) (PlainPath.more front (47 ∷ (others ++ rest)) (component_segment front one) below)

word : (t : List ℕ) → Segment t → PlainPath (47 ∷ t)
word t is = PlainPath.last t (inr is)

-- `/v2/`
pub base_plain : PlainPath (codes "/v2/")
base_plain = PlainPath.more (codes "v2") (codes "/") (118, codes "2", refl, refl, refl) (PlainPath.last [] (inl refl))

-- `/v2/<repository>/<kind>/<name>`
pub item_plain : (repository kind name : List ℕ) → Path repository → Segment kind → Segment name → PlainPath (codes "/v2/" ++ (repository ++ (47 ∷ (kind ++ 47 ∷ name))))
item_plain repository kind name path is named =
    PlainPath.more (codes "v2") (47 ∷ (repository ++ (47 ∷ (kind ++ 47 ∷ name)))) (118, codes "2", refl, refl, refl)
    (under repository (47 ∷ (kind ++ 47 ∷ name)) path (PlainPath.more kind (47 ∷ name) is (word name named)))

-- no byte of a plain path is a question mark
other_byte : (b : ℕ) → is_segment_byte b ≡ true → not (b == 63) ≡ true
other_byte b h = grind (arith, nat_tests, h)

first_other : (b : ℕ) → is_first_byte b ≡ true → not (b == 63) ≡ true
first_other b h = grind (arith, nat_tests, h)

segment_asks_nothing : (t : List ℕ) → Segment t → list_all (λ b. not (b == 63)) t ≡ true
segment_asks_nothing t (first, rest, is, first_is, all) = subst (λ (x : List ℕ). list_all (λ b. not (b == 63)) x ≡ true) (sym is) (and_both (not (first == 63)) (list_all (λ b. not (b == 63)) rest) (first_other first first_is) (all_more is_segment_byte (λ b. not (b == 63)) rest other_byte all))

pub plain_asks_nothing : (path : List ℕ) → PlainPath path → list_all (λ b. not (b == 63)) path ≡ true
plain_asks_nothing _ (PlainPath.last segment (inl none)) = subst (λ (x : List ℕ). list_all (λ b. not (b == 63)) (47 ∷ x) ≡ true) (sym none) refl
plain_asks_nothing _ (PlainPath.last segment (inr is)) = segment_asks_nothing segment is
plain_asks_nothing _ (PlainPath.more segment path is rest) = all_append (λ b. not (b == 63)) segment path (segment_asks_nothing segment is) (plain_asks_nothing path rest)

-- ---- domains

no_slash : (b : ℕ) → is_ascii_alphanumeric b ≡ true → not (b == 47) ≡ true
no_slash b h = grind (arith, nat_tests, h)

digit_no_slash : (b : ℕ) → is_ascii_digit b ≡ true → not (b == 47) ≡ true
digit_no_slash b h = grind (arith, nat_tests, h)

dash_no_slash : (b : ℕ) → (b == 45) ≡ true → not (b == 47) ≡ true
dash_no_slash b h = grind (arith, nat_tests, h)

host_slashless : (t : List ℕ) → Host t → list_all (λ b. not (b == 47)) t ≡ true
host_slashless t host =
    joined_all (λ b. not (b == 47)) DomainComponent (λ gap. gap ≡ codes ".")
    (joined_all (λ b. not (b == 47)) (Run is_ascii_alphanumeric) Dashes (λ x run. all_more is_ascii_alphanumeric (λ b. not (b == 47)) x no_slash run.1) (λ x run. all_more (λ b. b == 45) (λ b. not (b == 47)) x dash_no_slash run.1))
    (λ gap is. subst (λ (x : List ℕ). list_all (λ b. not (b == 47)) x ≡ true) (sym is) refl) t host

pub domain_slashless : (t : List ℕ) → Domain t → list_all (λ b. not (b == 47)) t ≡ true
domain_slashless t (inl host) = host_slashless t host
domain_slashless t (inr (host, port, is, host_is, digits)) =
    subst (λ (x : List ℕ). list_all (λ b. not (b == 47)) x ≡ true) (sym is) (all_append (λ b. not (b == 47)) host (codes ":" ++ port) (host_slashless host host_is) (all_more is_ascii_digit (λ b. not (b == 47)) port digit_no_slash digits.1))
