-- Lists of values and texts, as definitions see them.
use Rattle.std.proofs.Common.{◌≡◌, ℕ, List, [], ◌∷◌, length, ◌==◌, Bool, true, false, IsUtf8, if◌then◌else◌, Some, None, refl, arith, ne_eqb}
use Rattle.std.specs.Str.{is_utf8}
use Rattle.std.proofs.lemmas.Str.{IsUtf8-from_is_utf8, is_utf8-from_IsUtf8}
use Rattle.serde_json.specs.declared.value.Value.{Value}
use Rattle.serde_json.specs.View.{items_view}
use Rattle.sig_services.specs.Body.{text_body}
use Rattle.sig_services.specs.Entities.{no_items_in}

pub none_in : (vs : List Value) → (length vs == 0) ≡ no_items_in (items_view vs)
none_in [] = refl
none_in (v ∷ vs) = ne_eqb (length (v ∷ vs)) 0 (λ e. omega (arith, e))

pub is_text : (bytes text : List ℕ) → text ≡ bytes → IsUtf8 bytes → Some text ≡ text_body bytes
is_text bytes text same utf8 = rw (is_utf8-from_IsUtf8 bytes utf8, same) refl

pub is_no_text : (bytes : List ℕ) → (IsUtf8 bytes → ⊥) → None ≡ text_body bytes
is_no_text bytes other = by_test (is_utf8 bytes) refl where
  by_test : (b : Bool) → is_utf8 bytes ≡ b → None ≡ (if b then Some bytes else None)
  by_test true e = absurd (other (IsUtf8-from_is_utf8 bytes e))
  by_test false e = refl
