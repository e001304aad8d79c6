-- Blobs that are planned once.
use Rattle.std.proofs.Common.{◌≡◌, ◌||◌, ℕ, Bool, true, false, cond, List, [], ◌∷◌, ◌++◌, map, Option, Some, None, is_some, bytes_eq, refl, sym, ap, subst, ◌∙◌, append_assoc, append-nil}
use Rattle.std.specs.FinMap.{FinMap, insert, get, contains_key, empty, get-insert, get-empty}
use Rattle.std.specs.Ordering.{eq_by_cmp}
use Rattle.std.specs.Cmp.Lexicographic.{texts_ties, nat_list_cmp_total}
use Rattle.std.proofs.lemmas.Slice.Eq.{bytes_eq-Decides}
use Rattle.json_values.specs.Places.{by_bytes}
use Rattle.pull_mirror.specs.Pushes.{Push, push_digest, unless_before, is_among, not_before, without_repeats, digests_of}

-- ---- digests

or_false : (b : Bool) → (b || false) ≡ b
or_false true = refl
or_false false = refl

or_assoc : (a b c : Bool) → ((a || b) || c) ≡ (a || (b || c))
or_assoc true b c = refl
or_assoc false b c = refl

or_comm : (a b : Bool) → (a || b) ≡ (b || a)
or_comm true true = refl
or_comm true false = refl
or_comm false true = refl
or_comm false false = refl

pub among_more : (digest : List ℕ) (xs : List (List ℕ)) (x : List ℕ) → is_among digest (xs ++ x ∷ []) ≡ (is_among digest xs || bytes_eq digest x)
among_more digest [] x = or_false (bytes_eq digest x)
among_more digest (y ∷ xs) x = ap (λ b. bytes_eq digest y || b) (among_more digest xs x) ∙ sym (or_assoc (bytes_eq digest y) (is_among digest xs) (bytes_eq digest x))

-- one that is among them already adds nothing
pub among_still : (digest : List ℕ) (xs : List (List ℕ)) (x : List ℕ) → is_among x xs ≡ true → is_among digest (xs ++ x ∷ []) ≡ is_among digest xs
among_still digest xs x there = among_more digest xs x ∙ by_test (bytes_eq digest x) refl where
  by_test : (b : Bool) → bytes_eq digest x ≡ b → (is_among digest xs || b) ≡ is_among digest xs
  by_test true same =
      let is : is_among digest xs ≡ true = ap (λ d. is_among d xs) ((bytes_eq-Decides digest x).0 same) ∙ there in
      or_comm (is_among digest xs) true ∙ sym is
  by_test false other = or_false (is_among digest xs)

digests_more : (ps : List Push) (p : Push) → digests_of (ps ++ p ∷ []) ≡ digests_of ps ++ push_digest p ∷ []
digests_more [] p = refl
digests_more (q ∷ ps) p = ap (λ ds. push_digest q ∷ ds) (digests_more ps p)

-- ---- one more push

-- what is left of one more push, after those in the list and these digests
one_more : (before : List (List ℕ)) (ps : List Push) (p : Push) → not_before before (ps ++ p ∷ []) ≡ not_before before ps ++ unless_before (is_among (push_digest p) (before ++ digests_of ps)) p
one_more before [] p = append-nil (unless_before (is_among (push_digest p) before) p) ∙ ap (λ ds. unless_before (is_among (push_digest p) ds) p) (sym (append-nil before))
one_more before (q ∷ ps) p =
    let first = unless_before (is_among (push_digest q) before) q in
    let after = before ++ push_digest q ∷ [] in
    ap (λ rest. first ++ rest) (one_more after ps p)
    ∙ sym (append_assoc first (not_before after ps) (unless_before (is_among (push_digest p) (after ++ digests_of ps)) p))
    ∙ ap (λ ds. (first ++ not_before after ps) ++ unless_before (is_among (push_digest p) ds) p) (append_assoc before (push_digest q ∷ []) (digests_of ps))

pub left_out : (ps : List Push) (p : Push) → is_among (push_digest p) (digests_of ps) ≡ true → without_repeats (ps ++ p ∷ []) ≡ without_repeats ps
left_out ps p there = one_more [] ps p ∙ ap (λ b. not_before [] ps ++ unless_before b p) there ∙ append-nil (not_before [] ps)

pub kept : (ps : List Push) (p : Push) → is_among (push_digest p) (digests_of ps) ≡ false → without_repeats (ps ++ p ∷ []) ≡ without_repeats ps ++ p ∷ []
kept ps p new = one_more [] ps p ∙ ap (λ b. not_before [] ps ++ unless_before b p) new

-- ---- the digests that were seen

abbrev Seen : FinMap by_bytes (Unit {0}) → List Push → Type 0
Seen s ps = (digest : List ℕ) → contains_key s digest ≡ is_among digest (digests_of ps)

pub seen_none : Seen empty []
seen_none digest = ap is_some (get-empty by_bytes digest)

pub seen_still : (s : FinMap by_bytes (Unit {0})) (ps : List Push) (p : Push) → is_among (push_digest p) (digests_of ps) ≡ true → Seen s ps → Seen s (ps ++ p ∷ [])
seen_still s ps p there seen digest = seen digest ∙ sym (ap (is_among digest) (digests_more ps p) ∙ among_still digest (digests_of ps) (push_digest p) there)

pub some_or : (b : Bool) (o : Option (Unit {0})) → is_some (cond b (Some tt) o) ≡ (is_some o || b)
some_or true o = or_comm true (is_some o)
some_or false o = sym (or_false (is_some o))

pub seen_more : (s : FinMap by_bytes (Unit {0})) (ps : List Push) (p : Push) → Seen s ps → Seen (insert s (push_digest p) tt) (ps ++ p ∷ [])
seen_more s ps p seen digest =
    ap is_some (get-insert nat_list_cmp_total s (push_digest p) tt digest) ∙ some_or (eq_by_cmp by_bytes digest (push_digest p)) (get s digest)
    ∙ ap (λ b. is_some (get s digest) || b) (sym (texts_ties digest (push_digest p)))
    ∙ ap (λ b. b || bytes_eq digest (push_digest p)) (seen digest)
    ∙ sym (ap (is_among digest) (digests_more ps p) ∙ among_more digest (digests_of ps) (push_digest p))
