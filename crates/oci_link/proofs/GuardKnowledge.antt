-- The state of a guard continues to fit the exchanges of the inner transport.
use Rattle.std.proofs.Common.{◌≡◌, ℕ, suc, ◌+◌, ◌≤◌, Bool, true, false, not, ◌&&◌, ◌||◌, List, [], ◌∷◌, ◌++◌, length, map, Option, Some, None, refl, sym, ap, ◌∙◌, arith, subst, length-append}
use Rattle.std.specs.Cmp.Lexicographic.{same_text}
use Rattle.std.specs.Prelude.{nat_eq, nat_le, bytes_eq}
use Rattle.std.proofs.lemmas.Bool.Decides.{nat_tests}
use Rattle.oci_transport.specs.declared.message.Request.{Request}
use Rattle.oci_transport.specs.declared.message.Exchange.{Exchange}
use Rattle.oci_link.specs.Guard.{counted, refused_exchange, told_with, places, keep, keep_after, last_realm, unless_answered, is_known, has_places, was_kept, fits}
use Rattle.oci_link.specs.Guard.{realm_of, realm_by}
use Rattle.url.specs.Parts.{Parts}
use Rattle.oci_transport.specs.Urls.{request_url}
use Rattle.oci_link.specs.Rules.{passes, url_passes, may_show, is_realm, shows, has_scheme, has_host, is_path}
use Rattle.oci_link.specs.declared.rules.Rules.{Rules}
use Rattle.oci_link.specs.declared.guarded.Unsent.{Unsent}
use Rattle.oci_link.proofs.Told.{told_sent, told_refused, places_refused, last_is, keeps_more, both, left, right}

-- what fits, part by part
pub record Known (rules : Rules) (unsent : List Unsent) (since : ℕ) (lost : Bool) (realm : Option (List ℕ)) (c : List Exchange) : Type 0 where
  pub within : places unsent ≤ length c
  pub placed : lost ≡ false → length c ≡ places unsent + since
  pub keeps : keep rules (told_with 0 unsent c) ≡ true
  pub named : is_known realm (last_realm None (told_with 0 unsent c)) ≡ true

not_lost : (lost here : Bool) → (lost || here) ≡ true → lost ≡ false → here ≡ true
not_lost true here h is = absurd (cc is)
not_lost false here h is = h

unless_lost : (lost here : Bool) → (lost ≡ false → here ≡ true) → (lost || here) ≡ true
unless_lost true here h = refl
unless_lost false here h = h refl

le_from : (a b : ℕ) → nat_le a b ≡ true → a ≤ b
le_from a b h = grind (arith, nat_tests)

le_to : (a b : ℕ) → a ≤ b → nat_le a b ≡ true
le_to a b h = grind (arith, nat_tests)

eq_from : (a b : ℕ) → nat_eq a b ≡ true → a ≡ b
eq_from a b h = grind (arith, nat_tests)

eq_to : (a b : ℕ) → a ≡ b → nat_eq a b ≡ true
eq_to a b h = grind (arith, nat_tests)

pub known_of : (rules : Rules) (unsent : List Unsent) (since : ℕ) (lost : Bool) (realm : Option (List ℕ)) (c : List Exchange)
    → fits rules unsent since lost realm c ≡ true → Known rules unsent since lost realm c
known_of rules unsent since lost realm c h =
    let place = has_places unsent since lost (length c) in
    let kept = was_kept rules realm (told_with 0 unsent c) in
    let before = nat_le (places unsent) (length c) in
    let here = nat_eq (length c) (places unsent + since) in
    let keeps = keep rules (told_with 0 unsent c) in
    let named = is_known realm (last_realm None (told_with 0 unsent c)) in
    record {
      within = le_from (places unsent) (length c) (left before (lost || here) (left place kept h));
      placed = λ is. eq_from (length c) (places unsent + since) (not_lost lost here (right before (lost || here) (left place kept h)) is);
      keeps = left keeps named (right place kept h);
      named = right keeps named (right place kept h);
    }

pub fits_by : (rules : Rules) (unsent : List Unsent) (since : ℕ) (lost : Bool) (realm : Option (List ℕ)) (c : List Exchange)
    → Known rules unsent since lost realm c → fits rules unsent since lost realm c ≡ true
fits_by rules unsent since lost realm c k =
    let here = nat_eq (length c) (places unsent + since) in
    both (has_places unsent since lost (length c)) (was_kept rules realm (told_with 0 unsent c))
    (both (nat_le (places unsent) (length c)) (lost || here) (le_to (places unsent) (length c) k.within)
    (unless_lost lost here (λ is. eq_to (length c) (places unsent + since) (k.placed is))))
    (both (keep rules (told_with 0 unsent c)) (is_known realm (last_realm None (told_with 0 unsent c))) k.keeps k.named)

-- ---- requests that pass

-- a known realm allows only what the last named one allows
at_least : (shown below at more : Bool) → (at ≡ true → more ≡ true) → (shown || (below || at)) ≡ true → (shown || (below || more)) ≡ true
at_least true below at more h is = refl
at_least false true at more h is = refl
at_least false false at more h is = h is

same_realm : (a b : List ℕ) → bytes_eq a b ≡ true → a ≡ b
same_realm a b h = same_text a b (sym h)

more : (rules : Rules) (last : Option (List ℕ)) (request : Request) → passes rules None request ≡ true → passes rules last request ≡ true
unfolding passes
more rules last request h = by (shows request) (request_url request.url) h where
  by : (shown : Bool) (url : Option Parts) → url_passes rules None shown url ≡ true → url_passes rules last shown url ≡ true
  by shown None h = h
  by shown (Some url) h =
      let scheme = has_scheme rules url in
      let host = has_host rules.hosts url in
      let less = may_show shown None url in
      both scheme (host && may_show shown last url) (left scheme (host && less) h)
      (both host (may_show shown last url) (left host less (right scheme (host && less) h))
      (at_least (not shown) (is_path url.path) false (is_realm url last) (λ no. absurd (cc no)) (right host less (right scheme (host && less) h))))

passes_last : (rules : Rules) (realm last : Option (List ℕ)) (request : Request) → is_known realm last ≡ true
    → passes rules realm request ≡ true → passes rules last request ≡ true
passes_last rules None last request k h = more rules last request h
passes_last rules (Some realm) None request k h = absurd (cc k)
passes_last rules (Some realm) (Some last) request k h = subst (λ text. passes rules (Some text) request ≡ true) (same_realm realm last k) h

-- ---- the steps

-- a request that kept the rules was sent
pub known_sent : (rules : Rules) (unsent : List Unsent) (since next : ℕ) (lost now : Bool) (realm named : Option (List ℕ)) (c : List Exchange) (e : Exchange)
    → Known rules unsent since lost realm c → passes rules realm e.request ≡ true → (now ≡ false → (lost ≡ false) × (next ≡ since + 1))
    → is_known named (realm_by e.request e.answer) ≡ true → Known rules unsent next now named (c ++ e ∷ [])
known_sent rules unsent since next lost now realm named c e k pass goes name =
    let told : told_with 0 unsent (c ++ e ∷ []) ≡ told_with 0 unsent c ++ counted (0 + length unsent) e ∷ [] = told_sent 0 unsent c (e ∷ []) k.within in
    let longer : length (c ++ e ∷ []) ≡ length c + 1 = length-append c (e ∷ []) in
    let shown = counted (0 + length unsent) e in
    record {
      within = let h = k.within in omega (arith, h, longer);
      placed = λ is. let two = goes is in let place : length c ≡ places unsent + since = k.placed two.0 in let n = two.1 in omega (arith, longer, place, n);
      keeps = subst (λ t. keep rules t ≡ true) (sym told) (keeps_more rules None (told_with 0 unsent c) shown k.keeps
          (answered e.answer (passes_last rules realm (last_realm None (told_with 0 unsent c)) e.request k.named pass)));
      named = subst (λ t. is_known named t ≡ true) (sym (ap (last_realm None) told ∙ last_is None (told_with 0 unsent c) shown)) name;
    }
  where
    answered : (answer : Option _) → passes rules (last_realm None (told_with 0 unsent c)) e.request ≡ true → unless_answered answer (passes rules (last_realm None (told_with 0 unsent c)) e.request) ≡ true
    answered None h = refl
    answered (Some a) h = h

-- a request was not sent
pub known_refused : (rules : Rules) (unsent : List Unsent) (since : ℕ) (lost : Bool) (realm : Option (List ℕ)) (c : List Exchange) (x : Unsent)
    → Known rules unsent since lost realm c → lost ≡ false → x.after ≡ since → Known rules (unsent ++ x ∷ []) 0 lost None c
known_refused rules unsent since lost realm c x k sure after =
    let place : length c ≡ places unsent + since = k.placed sure in
    let more : places (unsent ++ x ∷ []) ≡ places unsent + x.after = places_refused unsent x in
    let told : told_with 0 (unsent ++ x ∷ []) c ≡ told_with 0 unsent c ++ refused_exchange x ∷ [] = told_refused 0 unsent x c (omega (arith, place, after)) in
    record {
      within = omega (arith, place, more, after);
      placed = λ is. omega (arith, place, more, after);
      keeps = subst (λ t. keep rules t ≡ true) (sym told) (keeps_more rules None (told_with 0 unsent c) (refused_exchange x) k.keeps refl);
      named = refl;
    }
