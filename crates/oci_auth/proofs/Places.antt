-- A token that is stored, the others beside it, and what a lookup then finds.
use Rattle.std.proofs.Common.{◌≡◌, ◌≢◌, ◌&&◌, ◌≤◌, ◌<◌, ◌⊎◌, inl, inr, ℕ, zero, suc, max, Bool, true, false, cond, not, List, [], ◌∷◌, Option, Some, None, nat_le, refl, sym, ap, ◌∙◌, true≢false, subst, arith}
use Rattle.std.specs.Prelude.{take, option_and_then}
use Rattle.std.specs.List.{find, filter, All}
use Rattle.std.specs.Option.{option_map_or}
use Rattle.std.specs.Str.{bytes_eq}
use Rattle.std.specs.Cmp.Lexicographic.{same_text, nat_list_eq_equiv}
use Rattle.std.proofs.lemmas.Bool.Decides.{nat_tests}
use Rattle.std.proofs.lemmas.List.{length-take}
use Rattle.std.proofs.lemmas.List.Elements.{All-nil, All-cons, All-head, All-tail, All-take, All-weaker, filter_passes}
use Rattle.std.proofs.lemmas.List.Kept.{AllPairs-cons, AllPairs-filter}
use Rattle.oci_auth.specs.declared.cache.TokenCache.{TokenCache}
use Rattle.oci_auth.specs.declared.kept.KeptToken.{KeptToken}
use Rattle.oci_auth.specs.declared.token_type.RegistryOperation.{RegistryOperation}
use Rattle.oci_auth.specs.declared.token_type.RegistryOperation.TheVariants.{Push, Pull}
use Rattle.oci_auth.specs.declared.token_type.RegistryTokenType.{RegistryTokenType}
use Rattle.oci_auth.specs.Cache.{kept_until, kept_token, with_token, given_at, token_at, GivesUntil}
use Rattle.oci_auth.specs.Operations.{is_same_operation}
use Rattle.oci_auth.specs.Kept.{Key, key_in, is_under, kept_under, HaveOwnKeys, is_valid, unexpired, within, inserted, AreWithin, NoneOr, IsKept}

and_left : (a b : Bool) → (a && b) ≡ true → a ≡ true
and_left true b h = refl
and_left false b h = h

and_right : (a b : Bool) → (a && b) ≡ true → b ≡ true
and_right true b h = h
and_right false b h = cc

same_operation : (a b : RegistryOperation) → is_same_operation a b ≡ true → a ≡ b
same_operation Push Push h = refl
same_operation Push Pull h = absurd (true≢false (sym h))
same_operation Pull Push h = absurd (true≢false (sym h))
same_operation Pull Pull h = refl

operation_itself : (a : RegistryOperation) → is_same_operation a a ≡ true
operation_itself Push = refl
operation_itself Pull = refl

-- a token under a key has this key
pub same_key : (key : Key) (t : KeptToken) → is_under key t ≡ true → key_in t ≡ key
same_key key t h =
    let a = bytes_eq t.registry key.registry in
    let b = bytes_eq t.repository key.repository in
    let c = is_same_operation t.operation key.operation in
    let two = and_left (a && b) c h in
    let e1 = same_text t.registry key.registry (sym (and_left a b two)) in
    let e2 = same_text t.repository key.repository (sym (and_right a b two)) in
    let e3 = same_operation t.operation key.operation (and_right (a && b) c h) in
    λ i. record { registry = e1 i; repository = e2 i; operation = e3 i }

pub under_itself : (t : KeptToken) → is_under (key_in t) t ≡ true
under_itself t = rw (nat_list_eq_equiv.refl t.registry, nat_list_eq_equiv.refl t.repository, operation_itself t.operation)

not_true : (b : Bool) → (b ≡ true → ⊥) → b ≡ false
not_true true h = absurd (h refl)
not_true false h = refl

not_not : (b : Bool) → not b ≡ true → b ≡ false
not_not true h = absurd (true≢false (sym h))
not_not false h = refl

-- a token is not under another key
pub under_no_other : (key : Key) (t : KeptToken) → key ≢ key_in t → is_under key t ≡ false
under_no_other key t other = not_true (is_under key t) (λ h. other (sym (same_key key t h)))

-- ---- lookups among some of the tokens

-- a test that agrees on all tokens that the lookup may find
find_filtered : (p q : KeptToken → Bool) (b : Bool) → ((t : KeptToken) → p t ≡ true → q t ≡ b) → (ts : List KeptToken) → find p (filter q ts) ≡ cond b (find p ts) None
find_filtered p q b same [] = elim b as (λ b. find p [] ≡ cond b (find p []) None) [ true ↦ refl | false ↦ refl ]
find_filtered p q b same (t ∷ ts) = by_found (find_filtered p q b same ts) (p t) refl where
  here : (x : Bool) → p t ≡ true → q t ≡ x → find p (filter q ts) ≡ cond x (find p ts) None → find p (cond (q t) (t ∷ filter q ts) (filter q ts)) ≡ cond x (Some t) None
  here true is e r = ap (λ y. find p (cond y (t ∷ filter q ts) (filter q ts))) e ∙ ap (λ y. cond y (Some t) (find p (filter q ts))) is
  here false is e r = ap (λ y. find p (cond y (t ∷ filter q ts) (filter q ts))) e ∙ r

  by_found : find p (filter q ts) ≡ cond b (find p ts) None → (c : Bool) → p t ≡ c → find p (cond (q t) (t ∷ filter q ts) (filter q ts)) ≡ cond b (cond c (Some t) (find p ts)) None
  by_found rest true is = here b is (same t is) rest
  by_found rest false is = elim (q t) as (λ x. find p (cond x (t ∷ filter q ts) (filter q ts)) ≡ cond b (find p ts) None) [
    | true ↦ ap (λ y. cond y (Some t) (find p (filter q ts))) is ∙ rest
    | false ↦ rest
  ]

find_taken : (p : KeptToken → Bool) (n : ℕ) (ts : List KeptToken) → NoneOr (find p (take n ts)) (find p ts)
find_taken p zero ts = inl refl
find_taken p (suc n) [] = inr refl
find_taken p (suc n) (t ∷ ts) = elim (p t) as (λ x. NoneOr (cond x (Some t) (find p (take n ts))) (cond x (Some t) (find p ts))) [ true ↦ inr refl | false ↦ find_taken p n ts ]

found_within : (p : KeptToken → Bool) (most : Option ℕ) (ts : List KeptToken) → NoneOr (find p (within most ts)) (find p ts)
found_within p None ts = inr refl
found_within p (Some most) ts = find_taken p (max most 1) ts

first_taken : (p : KeptToken → Bool) (n : ℕ) (t : KeptToken) (ts : List KeptToken) → 0 < n → p t ≡ true → find p (take n (t ∷ ts)) ≡ Some t
first_taken p zero t ts h is = absurd (omega arith)
first_taken p (suc n) t ts h is = ap (λ x. cond x (Some t) (find p (take n ts))) is

first_within : (p : KeptToken → Bool) (most : Option ℕ) (t : KeptToken) (ts : List KeptToken) → p t ≡ true → find p (within most (t ∷ ts)) ≡ Some t
first_within p None t ts is = ap (λ x. cond x (Some t) (find p ts)) is
first_within p (Some most) t ts is = first_taken p (max most 1) t ts (omega arith) is

kept_valid : (key : Key) (moment : ℕ) (ts : List KeptToken) → kept_under key (unexpired moment ts) ≡ cond (is_valid moment key ts) (kept_under key ts) None
kept_valid key moment ts = find_filtered (is_under key) (λ t. is_valid moment (key_in t) ts) (is_valid moment key ts) (λ t is. ap (λ (k : Key). is_valid moment k ts) (same_key key t is)) ts

kept_apart : (key : Key) (t : KeptToken) (ts : List KeptToken) → key ≢ key_in t → kept_under key (filter (λ other. not (is_under (key_in t) other)) ts) ≡ kept_under key ts
kept_apart key t ts other = find_filtered (is_under key) (λ u. not (is_under (key_in t) u)) true (λ u is. ap not (under_no_other (key_in t) u (λ h. other (sym (same_key key u is) ∙ sym h)))) ts

-- the token and the others, without a bound
abbrev put : ℕ → List KeptToken → KeptToken → List KeptToken
put moment old t = t ∷ filter (λ other. not (is_under (key_in t) other)) (unexpired moment old)

put_others : (moment : ℕ) (old : List KeptToken) (t : KeptToken) (key : Key) → key ≢ key_in t → kept_under key (put moment old t) ≡ cond (is_valid moment key old) (kept_under key old) None
put_others moment old t key other =
    ap (λ x. cond x (Some t) (kept_under key (filter (λ u. not (is_under (key_in t) u)) (unexpired moment old)))) (under_no_other key t other)
    ∙ kept_apart key t (unexpired moment old) other ∙ kept_valid key moment old

none_or : {A : Type 0} (v : Bool) (a b c : Option A) → NoneOr a b → b ≡ cond v c None → NoneOr a c
none_or v a b c (inl none) is = inl none
none_or true a b c (inr same) is = inr (same ∙ is)
none_or false a b c (inr same) is = inl (same ∙ is)

unbounded : (most : Option ℕ) (ts : List KeptToken) → most ≡ None → within most ts ≡ ts
unbounded None ts none = refl
unbounded (Some n) ts none = absurd (cc none)

pub is_kept : (most : Option ℕ) (moment : ℕ) (old : List KeptToken) (t : KeptToken) → IsKept most moment old (inserted most moment old t) t
is_kept most moment old t = record {
  here = first_within (is_under (key_in t)) most t _ (under_itself t);
  others = λ key other. none_or (is_valid moment key old) _ _ _ (found_within (is_under key) most (put moment old t)) (put_others moment old t key other);
  valid = λ key other none valid. ap (kept_under key) (unbounded most (put moment old t) none) ∙ put_others moment old t key other ∙ ap (λ b. cond b (kept_under key old) None) valid;
}

pub are_within : (most : Option ℕ) (ts : List KeptToken) → AreWithin most (within most ts)
are_within None ts = tt
are_within (Some most) ts = let e = length-take (max most 1) ts in omega (e, arith)

-- ---- the tokens have their own keys

pub own_put : (moment : ℕ) (old kept : List KeptToken) (t : KeptToken) → kept ≡ put moment old t → HaveOwnKeys old → HaveOwnKeys kept
own_put moment old kept t is h =
    let R : KeptToken → KeptToken → Type 0 = λ a b. is_under (key_in a) b ≡ false in
    let apart : KeptToken → Bool = λ other. not (is_under (key_in t) other) in
    let rest = AllPairs-filter R apart (unexpired moment old) (AllPairs-filter R (λ u. is_valid moment (key_in u) old) old h) in
    let head = All-weaker (λ u. apart u ≡ true) (R t) (λ u passes. not_not (is_under (key_in t) u) passes) (filter apart (unexpired moment old)) (filter_passes apart (unexpired moment old)) in
    subst HaveOwnKeys (sym is) (AllPairs-cons R t (filter apart (unexpired moment old)) head rest)

own_taken : (n : ℕ) (ts : List KeptToken) → HaveOwnKeys ts → HaveOwnKeys (take n ts)
own_taken zero ts h = λ i j d lt inside. absurd (omega arith)
own_taken (suc n) [] h = h
own_taken (suc n) (t ∷ ts) h =
    let R : KeptToken → KeptToken → Type 0 = λ a b. is_under (key_in a) b ≡ false in
    let head : All (R t) ts = λ k d inside. h zero (suc k) d (omega arith) (omega arith) in
    AllPairs-cons R t (take n ts) (All-take (R t) n ts head) (own_taken n ts (λ i j d lt inside. h (suc i) (suc j) d (omega arith) (omega arith)))

pub own_within : (n : ℕ) (ts kept : List KeptToken) → kept ≡ take n ts → HaveOwnKeys ts → HaveOwnKeys kept
own_within n ts kept is h = subst HaveOwnKeys (sym is) (own_taken n ts h)

-- each is the one that is found under its key
own_found : (ts : List KeptToken) → HaveOwnKeys ts → All (λ t. kept_under (key_in t) ts ≡ Some t) ts
own_found [] h = All-nil (λ t. kept_under (key_in t) [] ≡ Some t)
own_found (t ∷ ts) h = All-cons (λ u. kept_under (key_in u) (t ∷ ts) ≡ Some u) t ts (ap (λ x. cond x (Some t) (kept_under (key_in t) ts)) (under_itself t)) (later (own_found ts (λ i j d lt inside. h (suc i) (suc j) d (omega arith) (omega arith)))) where
  apart : (u : KeptToken) → is_under (key_in t) u ≡ false → kept_under (key_in u) ts ≡ Some u → kept_under (key_in u) (t ∷ ts) ≡ Some u
  apart u unlike found = ap (λ x. cond x (Some t) (kept_under (key_in u) ts)) (under_no_other (key_in u) t (λ same. true≢false (sym (under_itself u) ∙ ap (λ (k : Key). is_under k u) same ∙ unlike))) ∙ found

  later : All (λ u. kept_under (key_in u) ts ≡ Some u) ts → All (λ u. kept_under (key_in u) (t ∷ ts) ≡ Some u) ts
  later found k d inside = apart _ (h zero (suc k) d (omega arith) (omega arith)) (found k d inside)

filter_alike : (p q : KeptToken → Bool) (ts : List KeptToken) → All (λ t. p t ≡ q t) ts → filter p ts ≡ filter q ts
filter_alike p q [] h = refl
filter_alike p q (t ∷ ts) h = λ i. cond (All-head (λ t. p t ≡ q t) t ts h i) (t ∷ filter_alike p q ts (All-tail (λ t. p t ≡ q t) t ts h) i) (filter_alike p q ts (All-tail (λ t. p t ≡ q t) t ts h) i)

-- so to drop each that has expired is to drop those whose keys have no valid one
pub expired_dropped : (moment : ℕ) (ts : List KeptToken) → HaveOwnKeys ts → filter (λ t. nat_le moment t.expiration) ts ≡ unexpired moment ts
expired_dropped moment ts h = filter_alike (λ t. nat_le moment t.expiration) (λ t. is_valid moment (key_in t) ts) ts
    (All-weaker (λ t. kept_under (key_in t) ts ≡ Some t) (λ t. nat_le moment t.expiration ≡ is_valid moment (key_in t) ts) (λ t found. sym (ap (λ o. option_map_or (λ (u : KeptToken). nat_le moment u.expiration) o false) found)) ts (own_found ts h))

-- ---- the tokens that a cache returns

given_valid : (moment at : ℕ) (o : Option KeptToken) → moment ≤ at → option_map_or (λ (t : KeptToken). nat_le moment t.expiration) o false ≡ false → option_and_then (given_at at) o ≡ None
given_valid moment at None le h = refl
given_valid moment at (Some t) le h =
    let late : nat_le at t.expiration ≡ false = grind (arith, nat_tests) in
    ap (λ b. cond b (Some t.token) None) late

given_none_or : (at : ℕ) (a b : Option KeptToken) → NoneOr a b → NoneOr (option_and_then (given_at at) a) (option_and_then (given_at at) b)
given_none_or at a b (inl none) = inl (ap (option_and_then (given_at at)) none)
given_none_or at a b (inr same) = inr (ap (option_and_then (given_at at)) same)

gives_until : (cache : TokenCache) (key : Key) (token : RegistryTokenType) (moment until : ℕ) → GivesUntil cache (record cache { tokens = inserted cache.most moment cache.tokens (kept_token key token until) }) key token moment until
gives_until cache key token moment until = record {
  here = λ at. ap (option_and_then (given_at at)) kept.here;
  others = λ other at apart. given_none_or at _ _ (kept.others other apart);
  later = λ other at apart none le. by_valid other at apart none le (is_valid moment other cache.tokens) refl;
} where
  t : KeptToken
  t = kept_token key token until

  kept : IsKept cache.most moment cache.tokens (inserted cache.most moment cache.tokens (kept_token key token until)) (kept_token key token until)
  kept = is_kept cache.most moment cache.tokens (kept_token key token until)

  by_valid : (other : Key) (at : ℕ) → other ≢ key → cache.most ≡ None → moment ≤ at → (b : Bool) → is_valid moment other cache.tokens ≡ b → option_and_then (given_at at) (kept_under other (inserted cache.most moment cache.tokens (kept_token key token until))) ≡ option_and_then (given_at at) (kept_under other cache.tokens)
  by_valid other at apart none le true valid = ap (option_and_then (given_at at)) (kept.valid other apart none valid)
  by_valid other at apart none le false expired =
      let nothing = given_valid moment at (kept_under other cache.tokens) le expired in
      by_none (kept.others other apart) nothing where
        by_none : NoneOr (kept_under other (inserted cache.most moment cache.tokens (kept_token key token until))) (kept_under other cache.tokens) → option_and_then (given_at at) (kept_under other cache.tokens) ≡ None → option_and_then (given_at at) (kept_under other (inserted cache.most moment cache.tokens (kept_token key token until))) ≡ option_and_then (given_at at) (kept_under other cache.tokens)
        by_none (inl gone) nothing = ap (option_and_then (given_at at)) gone ∙ sym nothing
        by_none (inr same) nothing = ap (option_and_then (given_at at)) same

-- what is returned for a key was returned before, or is the token that was stored
pub token_after : (cache : TokenCache) (key other : Key) (token found : RegistryTokenType) (moment at : ℕ) → token_at (with_token cache key token moment) other at ≡ Some found → (token_at cache other at ≡ Some found) ⊎ ((other ≡ key) × (found ≡ token))
token_after cache key other token found moment at is = by_until (kept_until token cache.default_expiration_secs moment) is where
  here : (until : ℕ) → other ≡ key → token_at (record cache { tokens = inserted cache.most moment cache.tokens (kept_token key token until) }) other at ≡ Some found → found ≡ token
  here until same is = by_test (nat_le at until) (sym ((gives_until cache key token moment until).here at) ∙ ap (λ (k : Key). token_at (record cache { tokens = inserted cache.most moment cache.tokens (kept_token key token until) }) k at) (sym same) ∙ is) where
    by_test : (b : Bool) → cond b (Some token) None ≡ Some found → found ≡ token
    by_test true given = cc given
    by_test false given = absurd (cc given)

  apart : (until : ℕ) → other ≢ key → token_at (record cache { tokens = inserted cache.most moment cache.tokens (kept_token key token until) }) other at ≡ Some found → token_at cache other at ≡ Some found
  apart until differs is = by_none ((gives_until cache key token moment until).others other at differs) where
    by_none : NoneOr (token_at (record cache { tokens = inserted cache.most moment cache.tokens (kept_token key token until) }) other at) (token_at cache other at) → token_at cache other at ≡ Some found
    by_none (inl none) = absurd (cc (sym is ∙ none))
    by_none (inr same) = sym same ∙ is

  by_under : (until : ℕ) (b : Bool) → is_under other (kept_token key token until) ≡ b → token_at (record cache { tokens = inserted cache.most moment cache.tokens (kept_token key token until) }) other at ≡ Some found → (token_at cache other at ≡ Some found) ⊎ ((other ≡ key) × (found ≡ token))
  by_under until true under is = let same = sym (same_key other (kept_token key token until) under) in inr (same, here until same is)
  by_under until false unlike is = inl (apart until (λ same. true≢false (sym (under_itself (kept_token key token until)) ∙ ap (λ (k : Key). is_under k (kept_token key token until)) (sym same) ∙ unlike)) is)

  by_until : (until : Option ℕ) → token_at (option_map_or (λ u. record cache { tokens = inserted cache.most moment cache.tokens (kept_token key token u) }) until cache) other at ≡ Some found → (token_at cache other at ≡ Some found) ⊎ ((other ≡ key) × (found ≡ token))
  by_until None is = inl is
  by_until (Some until) is = by_under until (is_under other (kept_token key token until)) refl is

-- under a key stands what stood there or nothing, or the token that was stored
pub stored_after : (cache : TokenCache) (key other : Key) (token : RegistryTokenType) (moment : ℕ)
    → NoneOr (kept_under other (with_token cache key token moment).tokens) (kept_under other cache.tokens)
    ⊎ ((other ≡ key) × (until : ℕ) × (kept_under other (with_token cache key token moment).tokens ≡ Some (kept_token key token until)))
stored_after cache key other token moment = by_until (kept_until token cache.default_expiration_secs moment) where
  after : Option ℕ → Option KeptToken
  after until = kept_under other (option_map_or (λ u. record cache { tokens = inserted cache.most moment cache.tokens (kept_token key token u) }) until cache).tokens

  by_under : (until : ℕ) (b : Bool) → is_under other (kept_token key token until) ≡ b → NoneOr (after (Some until)) (kept_under other cache.tokens) ⊎ ((other ≡ key) × (u : ℕ) × (after (Some until) ≡ Some (kept_token key token u)))
  by_under until true is =
      let same = sym (same_key other (kept_token key token until) is) in
      let kept = is_kept cache.most moment cache.tokens (kept_token key token until) in
      inr (same, until, ap (λ (k : Key). kept_under k (inserted cache.most moment cache.tokens (kept_token key token until))) same ∙ kept.here)
  by_under until false unlike = inl ((is_kept cache.most moment cache.tokens (kept_token key token until)).others other (λ same. true≢false (sym (under_itself (kept_token key token until)) ∙ ap (λ (k : Key). is_under k (kept_token key token until)) (sym same) ∙ unlike)))

  by_until : (until : Option ℕ) → NoneOr (after until) (kept_under other cache.tokens) ⊎ ((other ≡ key) × (u : ℕ) × (after until ≡ Some (kept_token key token u)))
  by_until None = inl (inr refl)
  by_until (Some until) = by_under until (is_under other (kept_token key token until)) refl
