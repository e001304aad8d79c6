-- A prefix whose bytes pass a test, and the rest.
use Rattle.std.proofs.Common.{◌≡◌, ◌≢◌, ℕ, ◌+◌, suc, Bool, true, false, cond, ◌&&◌, ◌||◌, ◌==◌, List, [], ◌∷◌, ◌++◌, length, drop, refl, sym, ap, ◌∙◌, arith, true≢false}
use Rattle.std.specs.List.{list_all, prefix_len, take_while}
use Rattle.std.proofs.lemmas.List.{take_at, drop_at, take-append-drop}
use Rattle.std.proofs.lemmas.Bool.Decides.{nat_tests}
use Rattle.oci_auth.specs.Grammar.{is_blank_byte, is_token_byte}
use Rattle.oci_auth.specs.Words.{begins}

pub and_left : (a b : Bool) → (a && b) ≡ true → a ≡ true
and_left true b h = refl
and_left false b h = cc h

pub and_right : (a b : Bool) → (a && b) ≡ true → b ≡ true
and_right true b h = h
and_right false b h = cc h

pub both_true : (a b : Bool) → a ≡ true → b ≡ true → (a && b) ≡ true
both_true true b h k = k
both_true false b h k = cc h

one_more : (n : ℕ) → 1 + n ≡ suc n
one_more n = omega arith

pub front_len : (p : ℕ → Bool) (xs ys : List ℕ) → list_all p xs ≡ true → begins p ys ≡ false → prefix_len p (xs ++ ys) ≡ length xs
front_len p [] [] all stops = refl
front_len p [] (y ∷ ys) all stops = ap (λ v. cond v (1 + prefix_len p ys) 0) stops
front_len p (x ∷ xs) ys all stops =
    ap (λ v. cond v (1 + prefix_len p (xs ++ ys)) 0) (and_left (p x) (list_all p xs) all)
    ∙ ap (λ n. 1 + n) (front_len p xs ys (and_right (p x) (list_all p xs) all) stops) ∙ one_more (length xs)

pub front_is : (p : ℕ → Bool) (xs ys : List ℕ) → list_all p xs ≡ true → begins p ys ≡ false → take_while p (xs ++ ys) ≡ xs
front_is p xs ys all stops = take_at xs ys _ (sym (front_len p xs ys all stops))

pub rest_is : (p : ℕ → Bool) (xs ys : List ℕ) → list_all p xs ≡ true → begins p ys ≡ false → drop (prefix_len p (xs ++ ys)) (xs ++ ys) ≡ ys
rest_is p xs ys all stops = drop_at xs ys _ (sym (front_len p xs ys all stops))

-- a text cut after its prefix
record Cut (p : ℕ → Bool) (text : List ℕ) : Type 0 where
  front : List ℕ
  rest : List ℕ
  is : text ≡ front ++ rest
  all : list_all p front ≡ true
  stops : begins p rest ≡ false

cut : (p : ℕ → Bool) (text : List ℕ) → Cut p text
cut p [] = record { front = []; rest = []; is = refl; all = refl; stops = refl }
cut p (b ∷ text) = by (p b) refl (cut p text) where
  by : (v : Bool) → p b ≡ v → Cut p text → Cut p (b ∷ text)
  by true is c = record { front = b ∷ c.front; rest = c.rest; is = ap (λ t. b ∷ t) c.is; all = both_true (p b) (list_all p c.front) is c.all; stops = c.stops }
  by false is c = record { front = []; rest = b ∷ text; is = refl; all = refl; stops = is }

pub front_all : (p : ℕ → Bool) (text : List ℕ) → list_all p (take_while p text) ≡ true
front_all p text = let c = cut p text in ap (list_all p) (ap (take_while p) c.is ∙ front_is p c.front c.rest c.all c.stops) ∙ c.all

pub rest_stops : (p : ℕ → Bool) (text : List ℕ) → begins p (drop (prefix_len p text) text) ≡ false
rest_stops p text = let c = cut p text in ap (begins p) (ap (λ t. drop (prefix_len p t) t) c.is ∙ rest_is p c.front c.rest c.all c.stops) ∙ c.stops

pub cut_whole : (p : ℕ → Bool) (text : List ℕ) → text ≡ take_while p text ++ drop (prefix_len p text) text
cut_whole p text = sym (take-append-drop (prefix_len p text) text)

pub all_append : (p : ℕ → Bool) (xs ys : List ℕ) → list_all p xs ≡ true → list_all p ys ≡ true → list_all p (xs ++ ys) ≡ true
all_append p [] ys h k = k
all_append p (x ∷ xs) ys h k = both_true (p x) (list_all p (xs ++ ys)) (and_left (p x) (list_all p xs) h) (all_append p xs ys (and_right (p x) (list_all p xs) h) k)

-- a text does not begin with such a byte if neither of its parts does
pub begins_append : (p : ℕ → Bool) (xs ys : List ℕ) → begins p xs ≡ false → begins p ys ≡ false → begins p (xs ++ ys) ≡ false
begins_append p [] ys h k = k
begins_append p (x ∷ xs) ys h k = h

-- a non-empty prefix decides how a text begins
pub begins_front : (p : ℕ → Bool) (xs ys : List ℕ) (v : Bool) → xs ≢ [] → begins p xs ≡ v → begins p (xs ++ ys) ≡ v
begins_front p [] ys v some h = absurd (some refl)
begins_front p (x ∷ xs) ys v some h = h

-- bytes that pass one test fail the other
abbrev pub AreApart : (ℕ → Bool) → (ℕ → Bool) → Type 0
AreApart p q = (b : ℕ) → p b ≡ true → q b ≡ false

-- if all bytes pass one test, the text does not begin with one that passes the other
pub begins_apart : (p q : ℕ → Bool) (xs : List ℕ) → AreApart p q → list_all p xs ≡ true → begins q xs ≡ false
begins_apart p q [] apart all = refl
begins_apart p q (x ∷ xs) apart all = apart x (and_left (p x) (list_all p xs) all)

pub all_begins : (p : ℕ → Bool) (xs : List ℕ) → xs ≢ [] → list_all p xs ≡ true → begins p xs ≡ true
all_begins p [] some all = absurd (some refl)
all_begins p (x ∷ xs) some all = and_left (p x) (list_all p xs) all

-- a test that fails at one byte
pub is_other : (p : ℕ → Bool) (c b : ℕ) → p c ≡ false → p b ≡ true → (b == c) ≡ false
is_other p c b off passes = by (b == c) refl where
  by : (v : Bool) → (b == c) ≡ v → v ≡ false
  by true is = let same : b ≡ c = grind (arith, nat_tests, is) in absurd (true≢false (sym passes ∙ ap p same ∙ off))
  by false is = refl

pub not_blank : (b : ℕ) → is_token_byte b ≡ true → is_blank_byte b ≡ false
not_blank b h =
    let space = is_other is_token_byte 32 b refl h in
    let tab = is_other is_token_byte 9 b refl h in
    ap (λ v. v || (b == 9)) space ∙ tab

pub not_token : (b : ℕ) → is_blank_byte b ≡ true → is_token_byte b ≡ false
not_token b h = by (is_token_byte b) refl where
  by : (v : Bool) → is_token_byte b ≡ v → v ≡ false
  by true is = absurd (true≢false (sym h ∙ not_blank b is))
  by false is = refl
