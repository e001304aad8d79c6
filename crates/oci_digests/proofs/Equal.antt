-- `bool` values that decide an equality of texts.
use Rattle.std.proofs.Common.{◌≡◌, ◌↔◌, ◌⊎◌, inl, inr, ℕ, List, Bool, true, false, IsTrue, ◌||◌, ◌++◌, [], ◌∷◌, refl, sym, ap, ◌∙◌, true≢false}
use Rattle.std.specs.List.{list_any}
use Rattle.std.proofs.lemmas.List.{append_cancel_left}
use Rattle.std.proofs.lemmas.Slice.Eq.{bytes_eq-Decides}
use Rattle.std.proofs.lemmas.Bool.Decides.{same_from_decides}
use Rattle.hex.specs.Hex.{encode_lower}
use Rattle.oci_names.specs.Algorithms.{all}
use Rattle.oci_names.specs.declared.algorithm.Algorithm.{Algorithm}
use Rattle.oci_names.proofs.Algorithms.{some}
use Rattle.oci_digests.specs.Hashes.{hash_of}
use Rattle.oci_digests.specs.Names.{Names, names, names_by, digest_text, prefix_of}

either_true : (a b : Bool) → IsTrue (a || b) → IsTrue a ⊎ IsTrue b
either_true true b h = inl refl
either_true false b h = inr h

-- digits after an algorithm's name
pub by_digits : (b : Bool) (a : Algorithm) (text bytes digits : List ℕ) → text ≡ prefix_of a ++ digits → (IsTrue b ↔ (digits ≡ encode_lower (hash_of a bytes))) → b ≡ names_by a text bytes
by_digits b a text bytes digits is same =
    same_from_decides b (names_by a text bytes)
    (λ t. is ∙ ap (λ ds. prefix_of a ++ ds) (same.0 t), λ e. same.1 (append_cancel_left (prefix_of a) digits (encode_lower (hash_of a bytes)) (sym is ∙ e)))
    (bytes_eq-Decides text (digest_text a bytes))

-- a text that begins otherwise
pub no_digits : (a : Algorithm) (text bytes : List ℕ) → ((rest : List ℕ) → text ≡ prefix_of a ++ rest → ⊥) → false ≡ names_by a text bytes
no_digits a text bytes none = by_test (names_by a text bytes) (bytes_eq-Decides text (digest_text a bytes)).0 where
  by_test : (b : Bool) → (IsTrue b → text ≡ digest_text a bytes) → false ≡ b
  by_test true is = absurd (none (encode_lower (hash_of a bytes)) (is refl))
  by_test false is = refl

-- one of these algorithms names the bytes
pub named_among : (text bytes : List ℕ) (list : List Algorithm) → IsTrue (list_any (λ a. names_by a text bytes) list) → Names text bytes
named_among text bytes [] h = absurd (true≢false (sym h))
named_among text bytes (a ∷ others) h = elim (either_true (names_by a text bytes) (list_any (λ a. names_by a text bytes) others) h) [
  | inl one ↦ (a, (bytes_eq-Decides text (digest_text a bytes)).0 one)
  | inr more ↦ named_among text bytes others more
]

-- the test is true if and only if the text names the bytes
pub named : (text bytes : List ℕ) → IsTrue (names text bytes) ↔ Names text bytes
named text bytes = (named_among text bytes all, λ n. some (λ a. names_by a text bytes) n.0 ((bytes_eq-Decides text (digest_text n.0 bytes)).1 n.1))
