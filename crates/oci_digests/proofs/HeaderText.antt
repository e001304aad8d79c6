-- Header text is UTF-8.
use Rattle.std.proofs.Common.{◌≡◌, ℕ, ◌<◌, Bool, true, false, ◌&&◌, ◌||◌, ◌==◌, nat_le, List, length, get_or, IsUtf8, sym, ◌∙◌, arith}
use Rattle.std.proofs.lemmas.List.Folds.{list_all_at}
use Rattle.std.proofs.lemmas.Str.Ascii.{IsAscii-from_reads}
use Rattle.std.proofs.lemmas.Str.{IsUtf8-from_ascii}
use Rattle.oci_digests.specs.Checks.{is_header_text}

low : (b : ℕ) → (b == 9 || (nat_le 32 b && nat_le b 126)) ≡ true → b < 128
low b h = grind arith

both : (t : Bool) → (t ≡ false → false ≡ true) → t ≡ true
both true h = λ i. true
both false h = h (λ i. false)

pub is_text : (value : List ℕ) → is_header_text value ≡ true → IsUtf8 value
is_text value h =
    IsUtf8-from_ascii value (IsAscii-from_reads value (length value) (omega arith) (λ k inside.
    low (get_or value k 0) (both _ (λ no_text. sym (list_all_at _ value k 0 inside no_text) ∙ h))))

pub not_text : (value : List ℕ) → is_header_text value ≡ true → (IsUtf8 value → ⊥) → ⊥
not_text value h no_text = no_text (is_text value h)
