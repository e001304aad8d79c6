-- Lookup in written fields, and absence of floats.
use Rattle.std.proofs.Common.{◌≡◌, ℕ, List, [], ◌∷◌, Bool, true, false, ◌||◌, cond, Option, Some, None, bytes_eq, true≢false, Less, Equal, Greater, refl, sym, ap, subst, ◌∙◌}
use Rattle.std.specs.Ordering.{nat_cmp, match_ordering}
use Rattle.std.specs.Cmp.Lexicographic.{slice_cmp}
use Rattle.std.proofs.lemmas.Bool.{or_parts}
use Rattle.std.proofs.lemmas.Slice.Eq.{bytes_eq-Decides}
use Rattle.serde_json.specs.Data.{Data, Members, no_members, member, put}
use Rattle.serde_json.specs.Find.{get, get_member}
use Rattle.serde_json.specs.Written.{has_float, members_have_float}
use Rattle.serde_json.proofs.Views.{get_member-put, get_member-put_other}
use Rattle.json_tables.specs.Fields.{Field, put_some, with_fields, fields, field_has_float, fields_have_float}

-- the value at a name, or o if the name is missing
abbrev pub or_else : {A : Type 0} → Option A → Option A → Option A
or_else None o = o
or_else (Some d) o = Some d

abbrev pub among : List ℕ → List Field → Option Data → Option Data
among q [] o = o
among q (f ∷ fs) o = among q fs (cond (bytes_eq q f.0) (or_else f.1 o) o)

get-put_at : (b : Bool) (q k : List ℕ) (d : Data) (ms : Members) → bytes_eq q k ≡ b → get_member q (put k d ms) ≡ cond b (Some d) (get_member q ms)
get-put_at true q k d ms e = let same : q ≡ k = (bytes_eq-Decides q k).0 e in subst (λ p. get_member p (put k d ms) ≡ Some d) (sym same) (get_member-put k d ms)
get-put_at false q k d ms e = get_member-put_other q k d ms (λ same. true≢false (sym ((bytes_eq-Decides q k).1 same) ∙ e))

cond_same : {A : Type 0} (b : Bool) (x : A) → cond b x x ≡ x
cond_same true x = refl
cond_same false x = refl

get-put_some : (q k : List ℕ) (o : Option Data) (ms : Members) → get_member q (put_some k o ms) ≡ cond (bytes_eq q k) (or_else o (get_member q ms)) (get_member q ms)
get-put_some q k None ms = sym (cond_same (bytes_eq q k) (get_member q ms))
get-put_some q k (Some d) ms = get-put_at (bytes_eq q k) q k d ms refl

get-with_fields : (q : List ℕ) (fs : List Field) (ms : Members) → get_member q (with_fields ms fs) ≡ among q fs (get_member q ms)
get-with_fields q [] ms = refl
get-with_fields q (f ∷ fs) ms = get-with_fields q fs (put_some f.0 f.1 ms) ∙ ap (among q fs) (get-put_some q f.0 f.1 ms)

-- a member of written fields
pub get-fields : (q : List ℕ) (fs : List Field) → get q (fields fs) ≡ among q fs None
get-fields q fs = get-with_fields q fs no_members

pub or_else-none : {A : Type 0} (o : Option A) → or_else o None ≡ o
or_else-none None = refl
or_else-none (Some x) = refl

neither : (a b : Bool) → a ≡ false → b ≡ false → (a || b) ≡ false
neither a b p q = ap (λ c. c || b) p ∙ q

pub put_plain : (k : List ℕ) (d : Data) (ms : Members) → has_float d ≡ false → members_have_float ms ≡ false → members_have_float (put k d ms) ≡ false
put_plain k d no_members p q = neither (has_float d) false p refl
put_plain k d (member l e ms) p q =
    let parts = or_parts (has_float e) (members_have_float ms) q in
    elim (slice_cmp nat_cmp k l) as (λ o. members_have_float (match_ordering o (member k d (member l e ms)) (member l d ms) (member l e (put k d ms))) ≡ false) [
      | Less ↦ neither (has_float d) (has_float e || members_have_float ms) p q
      | Equal ↦ neither (has_float d) (members_have_float ms) p parts.1
      | Greater ↦ neither (has_float e) (members_have_float (put k d ms)) parts.0 (put_plain k d ms p parts.1)
    ]

put_some_plain : (k : List ℕ) (o : Option Data) (ms : Members) → field_has_float o ≡ false → members_have_float ms ≡ false → members_have_float (put_some k o ms) ≡ false
put_some_plain k None ms p q = q
put_some_plain k (Some d) ms p q = put_plain k d ms p q

with_fields_plain : (fs : List Field) (ms : Members) → fields_have_float fs ≡ false → members_have_float ms ≡ false → members_have_float (with_fields ms fs) ≡ false
with_fields_plain [] ms p q = q
with_fields_plain (f ∷ fs) ms p q =
    let parts = or_parts (field_has_float f.1) (fields_have_float fs) p in
    with_fields_plain fs (put_some f.0 f.1 ms) parts.1 (put_some_plain f.0 f.1 ms parts.0 q)

-- an object of fields without floats contains no float
pub fields_plain : (fs : List Field) → fields_have_float fs ≡ false → has_float (fields fs) ≡ false
fields_plain fs p = with_fields_plain fs no_members p refl
