-- When a field is added.
use Rattle.std.proofs.Common.{◌≡◌, ◌∙◌, sym, ap, ℕ, ◌<◌, ◌≤◌, List, Bool, true, false, ◌&&◌, if◌then◌else◌, nat_lt, nat_le, length, Option, Some, None, IsTrue, All, refl, arith}
use Rattle.std.specs.List.{list_all}
use Rattle.std.proofs.lemmas.List.Sums.{list_all-from_AllPass}
use Rattle.std.proofs.lemmas.Bool.Decides.{nat_tests}
use Rattle.http_header.specs.FieldName.{IsFieldName, is_field_name, is_header_name}
use Rattle.http_header.specs.Token.{is_token_byte, token_test}
use Rattle.http_header.proofs.TokenLemmas.{IsFieldName-from_test, IsHeaderName-from_test}
use Rattle.oci_transport.specs.Headers.{Fields, added, held, has_room, is_header_value, with_header, with_named}

-- three tests before a value
passes : {X : Type 0} (a b c : Bool) (x : X) → a ≡ true → b ≡ true → c ≡ true → (if a then (if b && c then Some x else None) else None) ≡ Some x
passes true true true x p q r = refl
passes false b c x p q r = cc
passes true false c x p q r = cc
passes true true false x p q r = cc

first_fails : {X : Type 0} (a : Bool) (o : Option X) → a ≡ false → (if a then o else None) ≡ None
first_fails true o p = cc
first_fails false o p = refl

second_fails : {X : Type 0} (a b c : Bool) (x : X) → b ≡ false → (if a then (if b && c then Some x else None) else None) ≡ None
second_fails true true c x p = cc
second_fails true false c x p = refl
second_fails false b c x p = refl

third_fails : {X : Type 0} (a b c : Bool) (x : X) → c ≡ false → (if a then (if b && c then Some x else None) else None) ≡ None
third_fails true true true x p = cc
third_fails true true false x p = refl
third_fails true false c x p = refl
third_fails false b c x p = refl

all_three : (a b c : Bool) → a ≡ true → b ≡ true → c ≡ true → ((a && b) && c) ≡ true
all_three true true true p q r = refl
all_three false b c p q r = cc
all_three true false c p q r = cc
all_three true true false p q r = cc

chosen : {X : Type 0} (a : Bool) (o n : Option X) → a ≡ true → (if a then o else n) ≡ o
chosen true o n p = refl
chosen false o n p = cc

not_true : (b : Bool) → (b ≡ true → ⊥) → b ≡ false
not_true true h = absurd (h refl)
not_true false h = refl

not_false : (b : Bool) → (b ≡ false → ⊥) → b ≡ true
not_false true h = refl
not_false false h = absurd (h refl)

both : (b : Bool) → b ≡ true → b ≡ false → ⊥
both b p q = cc

below : (n k : ℕ) → n < k → nat_lt n k ≡ true
below n k h = grind (arith, nat_tests)

not_below : (n k : ℕ) → k ≤ n → nat_lt n k ≡ false
not_below n k h = grind (arith, nat_tests)

within : (n k : ℕ) → n ≤ k → nat_le n k ≡ true
within n k h = grind (arith, nat_tests)

-- a field name passes the test
token_bytes : (name : List ℕ) → All (λ b. IsTrue (is_token_byte b)) name → list_all token_test name ≡ true
unfolding is_token_byte
token_bytes name h = list_all-from_AllPass token_test name h

name_passes : (name : List ℕ) → IsFieldName name → is_field_name name ≡ true
name_passes name h =
    all_three (nat_lt 0 (length name)) (list_all token_test name) (nat_le (length name) 65535)
    (below 0 (length name) h.0.0) (token_bytes name h.0.1) (within (length name) 65535 h.1)

name_fails : (name : List ℕ) → (IsFieldName name → ⊥) → is_field_name name ≡ false
name_fails name h = not_true (is_field_name name) (λ e. h (IsFieldName-from_test name e))

name_given : (name : List ℕ) → ((IsFieldName name → ⊥) → ⊥) → is_field_name name ≡ true
name_given name h = not_false (is_field_name name) (λ e. h (λ n. both (is_field_name name) (name_passes name n) e))

-- ---- each way out of adding a field

pub bad_name : (m : Fields) (name value : List ℕ) → (IsFieldName name → ⊥) → with_named m name value ≡ None
bad_name m name value h = first_fails (is_field_name name) (with_header m name value) (name_fails name h)

pub bad_value : (m : Fields) (name value : List ℕ) → is_header_value value ≡ false → with_named m name value ≡ None
bad_value m name value h = second_fails (is_field_name name) (is_header_value value) (has_room m) (added m name value) h

pub too_many : (m : Fields) (name value : List ℕ) → 1000 ≤ held m → with_named m name value ≡ None
too_many m name value h =
    third_fails (is_field_name name) (is_header_value value) (has_room m) (added m name value) (not_below (held m) 1000 h)

pub is_added : (m new : Fields) (name value : List ℕ) → ((IsFieldName name → ⊥) → ⊥) → is_header_value value ≡ true → held m < 1000 → new ≡ added m name value → with_named m name value ≡ Some new
is_added m new name value named valued room is =
    passes (is_field_name name) (is_header_value value) (has_room m) (added m name value) (name_given name named) valued (below (held m) 1000 room)
    ∙ ap Some (sym is)

-- a name in lower case is a field name
pub named_header : (m : Fields) (name value : List ℕ) → IsTrue (is_header_name name) → with_named m name value ≡ with_header m name value
named_header m name value is =
    chosen (is_field_name name) (with_header m name value) None (name_passes name (IsHeaderName-from_test name is).0)
