-- The exposed exchanges, with requests that were sent and requests that were not.
use Rattle.std.proofs.Common.{◌≡◌, ℕ, zero, suc, ◌+◌, ◌≤◌, Bool, true, false, ◌&&◌, List, [], ◌∷◌, ◌++◌, length, take, drop, map, Option, Some, None, refl, sym, ap, ◌∙◌, arith}
use Rattle.std.proofs.lemmas.List.{take_all, drop_all}
use Rattle.oci_transport.specs.declared.message.Exchange.{Exchange}
use Rattle.oci_link.specs.Guard.{counted, refused_exchange, told_with, places, keep_after, last_realm, unless_answered}
use Rattle.oci_link.specs.Guard.{realm_of}
use Rattle.oci_link.specs.Rules.{passes}
use Rattle.oci_link.specs.declared.rules.Rules.{Rules}
use Rattle.oci_link.specs.declared.guarded.Unsent.{Unsent}
use Rattle.oci_link.proofs.Lists.{take_front, drop_front, drop_count, map_joined, joined}

suc_out : (n m : ℕ) → suc n + m ≡ n + suc m
suc_out n m = omega arith

no_more : (n : ℕ) → n ≡ n + 0
no_more n = omega arith

-- a sent request comes last
pub told_sent : (n : ℕ) (xs : List Unsent) (c a : List Exchange) → places xs ≤ length c
    → told_with n xs (c ++ a) ≡ told_with n xs c ++ map (counted (n + length xs)) a
unfolding told_with places
told_sent n [] c a le = map_joined (counted n) c a ∙ ap (λ m. map (counted n) c ++ map (counted m) a) (no_more n)
told_sent n (x ∷ xs) c a le =
    let here : x.after ≤ length c = omega (arith, le) in
    let counts : length (drop x.after c) + x.after ≡ length c = drop_count x.after c here in
    let rest : told_with (suc n) xs (drop x.after c ++ a) ≡ told_with (suc n) xs (drop x.after c) ++ map (counted (suc n + length xs)) a = told_sent (suc n) xs (drop x.after c) a (omega (arith, le, counts)) in
    ap (λ front. map (counted n) front ++ refused_exchange x ∷ told_with (suc n) xs (drop x.after (c ++ a))) (take_front x.after c a here)
    ∙ ap (λ back. map (counted n) (take x.after c) ++ refused_exchange x ∷ told_with (suc n) xs back) (drop_front x.after c a here)
    ∙ ap (λ back. map (counted n) (take x.after c) ++ refused_exchange x ∷ back) rest
    ∙ ap (λ m. map (counted n) (take x.after c) ++ refused_exchange x ∷ (told_with (suc n) xs (drop x.after c) ++ map (counted m) a)) (suc_out n (length xs))
    ∙ sym (joined (map (counted n) (take x.after c)) (refused_exchange x ∷ told_with (suc n) xs (drop x.after c)) (map (counted (n + suc (length xs))) a))

-- and so does one that was not sent
pub told_refused : (n : ℕ) (xs : List Unsent) (x : Unsent) (c : List Exchange) → length c ≡ places xs + x.after
    → told_with n (xs ++ x ∷ []) c ≡ told_with n xs c ++ refused_exchange x ∷ []
unfolding told_with places
told_refused n [] x c is =
    ap (λ front. map (counted n) front ++ refused_exchange x ∷ map (counted (suc n)) (drop x.after c)) (take_all x.after c (omega (arith, is)))
    ∙ ap (λ back. map (counted n) c ++ refused_exchange x ∷ map (counted (suc n)) back) (drop_all x.after c (omega (arith, is)))
told_refused n (y ∷ xs) x c is =
    let counts : length (drop y.after c) + y.after ≡ length c = drop_count y.after c (omega (arith, is)) in
    let rest : told_with (suc n) (xs ++ x ∷ []) (drop y.after c) ≡ told_with (suc n) xs (drop y.after c) ++ refused_exchange x ∷ [] = told_refused (suc n) xs x (drop y.after c) (omega (arith, is, counts)) in
    ap (λ back. map (counted n) (take y.after c) ++ refused_exchange y ∷ back) rest
    ∙ sym (joined (map (counted n) (take y.after c)) (refused_exchange y ∷ told_with (suc n) xs (drop y.after c)) (refused_exchange x ∷ []))

pub places_refused : (xs : List Unsent) (x : Unsent) → places (xs ++ x ∷ []) ≡ places xs + x.after
unfolding places
places_refused [] x = omega arith
places_refused (y ∷ xs) x = let rest : places (xs ++ x ∷ []) ≡ places xs + x.after = places_refused xs x in omega (arith, rest)

pub last_is : (realm : Option (List ℕ)) (c : List Exchange) (e : Exchange) → last_realm realm (c ++ e ∷ []) ≡ realm_of e
unfolding last_realm
last_is realm [] e = refl
last_is realm (x ∷ c) e = last_is (realm_of x) c e

pub both : (a b : Bool) → a ≡ true → b ≡ true → (a && b) ≡ true
both a b ha hb = rw ha hb

pub left : (a b : Bool) → (a && b) ≡ true → a ≡ true
left true b h = refl
left false b h = cc h

pub right : (a b : Bool) → (a && b) ≡ true → b ≡ true
right true b h = h
right false b h = cc h

pub keeps_more : (rules : Rules) (realm : Option (List ℕ)) (c : List Exchange) (e : Exchange) → keep_after rules realm c ≡ true
    → unless_answered e.answer (passes rules (last_realm realm c) e.request) ≡ true → keep_after rules realm (c ++ e ∷ []) ≡ true
unfolding keep_after last_realm
keeps_more rules realm [] e before now = both _ true now refl
keeps_more rules realm (x ∷ c) e before now =
    let here = unless_answered x.answer (passes rules realm x.request) in
    let rest = keep_after rules (realm_of x) c in
    both here (keep_after rules (realm_of x) (c ++ e ∷ [])) (left here rest before) (keeps_more rules (realm_of x) c e (right here rest before) now)
