-- Header text is UTF-8, lookup ignores the case of names, and the invariant of headers is preserved.
use Rattle.std.proofs.Common.{◌≡◌, ◌↔◌, ◌<◌, ◌≤◌, ◌+◌, ℕ, suc, Bool, true, false, not, cond, List, [], ◌∷◌, ◌++◌, Option, Some, None}
use Rattle.std.proofs.Common.{refl, sym, ap, subst, ◌∙◌, IsTrue, true≢false, length, length-append, arith}
use Rattle.std.specs.Prelude.{All, T, ◌&&◌, sum_by, unwrap_or, nat_le}
use Rattle.std.specs.Str.{IsUtf8}
use Rattle.std.specs.declared.cmp.Ordering.{Ordering}
use Rattle.std.specs.declared.cmp.Ordering.TheVariants.{Less, Equal, Greater}
use Rattle.std.proofs.lemmas.Str.{IsUtf8-from_ascii}
use Rattle.std.proofs.lemmas.Str.Ascii.{IsAscii-from_all}
use Rattle.std.proofs.lemmas.List.Elements.{All-nil, All-cons, All-head, All-tail, All-same, All-filter}
use Rattle.std.proofs.lemmas.List.Sums.{AllPass-from_list_all, sum_by-cons}
use Rattle.std.proofs.lemmas.Bool.Decides.{nat_tests, same_from_decides}
use Rattle.std.specs.FinMap as map
use Rattle.std.specs.FinMap.{FinMap, entries_sorted, entries-insert, len-empty, len-entries}
use Rattle.std.specs.FinMap.{same_map, get-remove, get-from_entries, get-entries, slice_cmp-IsAntisymmetric, nat_cmp-IsAntisymmetric}
use Rattle.std.specs.FinMap.Entries.{find, put, by_order, where_key, below_all, is_sorted, find-where_key}
use Rattle.std.specs.Ordering.{eq_by_cmp, is_eq, is_lt}
use Rattle.std.specs.Cmp.{eq_by_cmp_equiv}
use Rattle.std.specs.Cmp.{alike_right, tied_itself}
use Rattle.std.specs.Cmp.Lexicographic.{nat_list_cmp_total}
use Rattle.http_header.specs.FieldName.{IsHeaderName}
use Rattle.http_header.specs.Token.{lowercase}
use Rattle.json_values.specs.Places.{by_bytes}
use Rattle.oci_transport.specs.Headers.{Fields, AreFields, held, with_value, is_text, is_text_byte, kept_fields, without}

text_below : (b : ℕ) → is_text_byte b ≡ true → b < 128
text_below b h = grind (arith, nat_tests, h)

all_below : (bs : List ℕ) → is_text bs ≡ true → All (λ b. b < 128) bs
all_below bs h = λ k d lt. text_below _ (AllPass-from_list_all is_text_byte bs h k d lt)

pub text_is_utf8 : (bs : List ℕ) → is_text bs ≡ true → IsUtf8 bs
text_is_utf8 bs h = IsUtf8-from_ascii bs (IsAscii-from_all bs (all_below bs h))

-- ---- lookup ignoring case

tied : (r : Ordering) → IsTrue (is_eq r) → r ≡ Equal
tied Less h = absurd (true≢false (sym h))
tied Equal h = refl
tied Greater h = absurd (true≢false (sym h))

same_name : (x y : List ℕ) → IsTrue (eq_by_cmp by_bytes x y) ↔ (x ≡ y)
same_name x y = (
  λ h. slice_cmp-IsAntisymmetric nat_cmp-IsAntisymmetric x y (tied (by_bytes x y) h),
  λ e. subst (λ z. IsTrue (eq_by_cmp by_bytes x z)) e (ap is_eq (tied_itself nat_list_cmp_total x)),
)

pub named : (b : Bool) (lower name : List ℕ) → IsHeaderName lower → (IsTrue b ↔ (lowercase name ≡ lowercase lower)) → b ≡ eq_by_cmp by_bytes (lowercase name) lower
named b lower name is same = same_from_decides b (eq_by_cmp by_bytes (lowercase name) lower) (λ t. same.0 t ∙ is.1, λ e. same.1 (e ∙ sym is.1)) (same_name (lowercase name) lower)

turned : {A : Type 0} (b : Bool) (x y : A) → cond (not b) x y ≡ cond b y x
turned true x y = refl
turned false x y = refl

pub kept_is_without : (name : List ℕ) (m : Fields) → kept_fields name (map.entries m) ≡ without name m
kept_is_without name m = same_map nat_list_cmp_total (slice_cmp-IsAntisymmetric nat_cmp-IsAntisymmetric) _ _ (λ q.
    get-from_entries nat_list_cmp_total _ q
    ∙ find-where_key by_bytes (λ x. not (eq_by_cmp by_bytes (lowercase name) x)) q (λ x t. ap (λ r. not (is_eq r)) (sym (alike_right nat_list_cmp_total q x (lowercase name) t))) (map.entries m)
    ∙ turned (eq_by_cmp by_bytes (lowercase name) q) _ _
    ∙ ap (λ b. cond b None (find by_bytes q (map.entries m))) ((eq_by_cmp_equiv nat_list_cmp_total).symm (lowercase name) q)
    ∙ ap (λ o. cond (eq_by_cmp by_bytes q (lowercase name)) None o) (sym (get-entries m q))
    ∙ sym (get-remove nat_list_cmp_total m (lowercase name) q))

-- ---- the invariant of headers

abbrev Entries : Type 0
Entries = List (List ℕ × List (List ℕ))

abbrev size : List ℕ × List (List ℕ) → ℕ
size e = length e.1

no_length : (es : Entries) → length es ≡ 0 → es ≡ []
no_length [] e = refl
no_length (x ∷ es) e = absurd (omega (arith, e))

no_entries : map.entries (map.empty {X = List (List ℕ)} {R = by_bytes}) ≡ []
no_entries = no_length _ (sym (len-entries map.empty) ∙ len-empty by_bytes (List (List ℕ)))

pub fields_empty : AreFields map.empty
fields_empty = record {
  names = All-same (λ (e : List ℕ × List (List ℕ)). IsHeaderName e.0) _ [] no_entries (All-nil _);
  most = subst (λ (es : Entries). sum_by size es ≤ 1000) (sym no_entries) (omega arith);
}

names_put : (k : List ℕ) (v : List (List ℕ)) (es : Entries) → IsHeaderName k → All (λ e. IsHeaderName e.0) es → All (λ e. IsHeaderName e.0) (put by_bytes k v es)
names_put k v [] is all = All-cons (λ (e : List ℕ × List (List ℕ)). IsHeaderName e.0) (k, v) [] is (All-nil _)
names_put k v (e ∷ es) is all =
    let P : List ℕ × List (List ℕ) → Type 0 = λ f. IsHeaderName f.0 in
    elim (by_bytes k e.0) as (λ r. All P (by_order r ((k, v) ∷ e ∷ es) ((e.0, v) ∷ es) (e ∷ put by_bytes k v es))) [
      | Less ↦ All-cons P (k, v) (e ∷ es) is all
      | Equal ↦ All-cons P (e.0, v) es (All-head P e es all) (All-tail P e es all)
      | Greater ↦ All-cons P e (put by_bytes k v es) (All-head P e es all) (names_put k v es is (All-tail P e es all))
    ]

both : (a b : Bool) → T a → T b → T (a && b)
both true b p q = q
both false b p q = p

left : (a b : Bool) → T (a && b) → T a
left true b p = tt
left false b p = p

right : (a b : Bool) → T (a && b) → T b
right true b p = p
right false b p = absurd p

less : (r : Ordering) → T (is_lt r) → r ≡ Less
less Less p = refl
less Equal p = absurd p
less Greater p = absurd p

below : (x y : List ℕ) (es : Entries) → by_bytes x y ≡ Less → T (below_all by_bytes y es) → T (below_all by_bytes x es)
below x y [] p h = tt
below x y (e ∷ es) p h = both _ _ (subst (λ r. T (is_lt r)) (sym (nat_list_cmp_total.trans x y e.0 p (less _ (left _ _ h)))) tt) (below x y es p (right _ _ h))

not_found : (q : List ℕ) (es : Entries) → T (below_all by_bytes q es) → find by_bytes q es ≡ None
not_found q [] h = refl
not_found q (e ∷ es) h = ap (λ r. cond (is_eq r) (Some e.1) (find by_bytes q es)) (less _ (left _ _ h)) ∙ not_found q es (right _ _ h)

one_more : (v : List ℕ) (vs : List (List ℕ)) → length (vs ++ v ∷ []) ≡ suc (length vs)
one_more v [] = refl
one_more v (x ∷ vs) = ap suc (one_more v vs)

held_put : (k v : List ℕ) (es : Entries) → T (is_sorted by_bytes es) → sum_by size (put by_bytes k (unwrap_or (find by_bytes k es) [] ++ v ∷ []) es) ≡ suc (sum_by size es)
held_put k v [] s = refl
held_put k v (e ∷ es) s =
    elim (by_bytes k e.0) as (λ r. by_bytes k e.0 ≡ r → sum_by size (by_order r ((k, unwrap_or (cond (is_eq r) (Some e.1) (find by_bytes k es)) [] ++ v ∷ []) ∷ e ∷ es) ((e.0, unwrap_or (cond (is_eq r) (Some e.1) (find by_bytes k es)) [] ++ v ∷ []) ∷ es) (e ∷ put by_bytes k (unwrap_or (cond (is_eq r) (Some e.1) (find by_bytes k es)) [] ++ v ∷ []) es)) ≡ suc (sum_by size (e ∷ es))) [
      | Less ↦ λ p. subst (λ (o : Option (List (List ℕ))). sum_by size ((k, unwrap_or o [] ++ v ∷ []) ∷ e ∷ es) ≡ suc (sum_by size (e ∷ es))) (sym (not_found k es (below k e.0 es p (left _ _ s)))) (sum_by-cons size (k, v ∷ []) (e ∷ es) ∙ omega arith)
      | Equal ↦ λ p. let a = sum_by-cons size (e.0, e.1 ++ v ∷ []) es in let b = sum_by-cons size e es in let c : length (e.1 ++ v ∷ []) ≡ suc (length e.1) = one_more v e.1 in a ∙ omega (arith, b, c)
      | Greater ↦ λ p. let a = sum_by-cons size e (put by_bytes k (unwrap_or (find by_bytes k es) [] ++ v ∷ []) es) in let b = sum_by-cons size e es in let c : sum_by size (put by_bytes k (unwrap_or (find by_bytes k es) [] ++ v ∷ []) es) ≡ suc (sum_by size es) = held_put k v es (right _ _ s) in a ∙ omega (arith, b, c)
    ] refl

held_with : (m : Fields) (lower value : List ℕ) → held (with_value m lower value) ≡ suc (held m)
held_with m lower value =
    ap (sum_by size) (entries-insert nat_list_cmp_total m lower (unwrap_or (map.get m lower) [] ++ value ∷ []))
    ∙ ap (λ (o : Option (List (List ℕ))). sum_by size (put by_bytes lower (unwrap_or o [] ++ value ∷ []) (map.entries m))) (get-entries m lower)
    ∙ held_put lower value (map.entries m) (entries_sorted m)

names_insert : (m : Fields) (k : List ℕ) (v : List (List ℕ)) → IsHeaderName k → All (λ e. IsHeaderName e.0) (map.entries m) → All (λ e. IsHeaderName e.0) (map.entries (map.insert m k v))
names_insert m k v is all = All-same (λ (e : List ℕ × List (List ℕ)). IsHeaderName e.0) _ _ (entries-insert nat_list_cmp_total m k v) (names_put k v (map.entries m) is all)

pub fields_inserted : (old new : Fields) (lower value : List ℕ) → AreFields old → IsHeaderName lower → held old < 1000 → new ≡ with_value old lower value → AreFields new
fields_inserted old new lower value are is few same = subst AreFields (sym same) (record {
  names = names_insert old lower (unwrap_or (map.get old lower) [] ++ value ∷ []) is are.names;
  most = omega (arith, held_with old lower value, few);
})

pub few_held : (b : Bool) (es : Entries) (m view : Fields) → b ≡ nat_le 1000 (sum_by (λ e. length e.1) es) → es ≡ map.entries m → m ≡ view → b ≡ false → held view < 1000
few_held b es m view is same seen not_full =
    let few : sum_by size es < 1000 = let test : nat_le 1000 (sum_by size es) ≡ false = sym is ∙ not_full in grind (arith, nat_tests, test) in
    subst (λ v. held v < 1000) seen (subst (λ (xs : Entries). sum_by size xs < 1000) same few)

held_where : (p : List ℕ → Bool) (es : Entries) → sum_by size (where_key by_bytes p es) ≤ sum_by size es
held_where p [] = omega arith
held_where p (e ∷ es) =
    let kept = where_key by_bytes p es in
    let fewer : sum_by size kept ≤ sum_by size es = held_where p es in
    let whole = sum_by-cons size e es in
    elim (p e.0) as (λ b. sum_by size (cond b (e ∷ kept) kept) ≤ sum_by size (e ∷ es)) [
      | true ↦ let here = sum_by-cons size e kept in omega (arith, here, whole, fewer)
      | false ↦ omega (arith, whole, fewer)
    ]

held_any : (k : List ℕ) (v : List (List ℕ)) (es : Entries) → sum_by size (put by_bytes k v es) ≤ length v + sum_by size es
held_any k v [] = let a = sum_by-cons size (k, v) [] in omega (arith, a)
held_any k v (e ∷ es) =
    let whole = sum_by-cons size e es in
    elim (by_bytes k e.0) as (λ r. sum_by size (by_order r ((k, v) ∷ e ∷ es) ((e.0, v) ∷ es) (e ∷ put by_bytes k v es)) ≤ length v + sum_by size (e ∷ es)) [
      | Less ↦ let a = sum_by-cons size (k, v) (e ∷ es) in omega (arith, a)
      | Equal ↦ let a = sum_by-cons size (e.0, v) es in omega (arith, a, whole)
      | Greater ↦ let a = sum_by-cons size e (put by_bytes k v es) in let more = held_any k v es in omega (arith, a, whole, more)
    ]

fields_from : (es : Entries) → All (λ e. IsHeaderName e.0) es → All (λ e. IsHeaderName e.0) (map.entries (map.from_entries {R = by_bytes} es)) × (held (map.from_entries es) ≤ sum_by size es)
fields_from [] all = (fields_empty.names, subst (λ (es : Entries). sum_by size es ≤ 0) (sym no_entries) (omega arith))
fields_from (e ∷ es) all =
    let P : List ℕ × List (List ℕ) → Type 0 = λ f. IsHeaderName f.0 in
    let made : Fields = map.from_entries es in
    let rest = fields_from es (All-tail P e es all) in
    let here = ap (sum_by size) (entries-insert nat_list_cmp_total made e.0 e.1) in
    let most = held_any e.0 e.1 (map.entries made) in
    let whole = sum_by-cons size e es in
    let before = rest.1 in
    (names_insert made e.0 e.1 (All-head P e es all) rest.0, omega (arith, here, most, whole, before))

pub fields_kept : (name : List ℕ) (m kept : Fields) → AreFields m → kept ≡ kept_fields name (map.entries m) → AreFields kept
fields_kept name m kept are same =
    let p : List ℕ → Bool = λ x. not (eq_by_cmp by_bytes (lowercase name) x) in
    let made = fields_from (where_key by_bytes p (map.entries m)) (All-filter (λ e. p e.0) (λ e. IsHeaderName e.0) (map.entries m) are.names) in
    let fewer = held_where p (map.entries m) in
    let most = are.most in
    let held_is = made.1 in
    subst AreFields (sym same) (record { names = made.0; most = omega (arith, held_is, fewer, most) })
