-- Texts that begin with the name of an algorithm and a colon.
use Rattle.std.proofs.Common.{◌≡◌, ℕ, List, ◌++◌, codes, sym, ap, ◌∙◌, append_assoc}
use Rattle.std.proofs.lemmas.List.{append_cancel_left}
use Rattle.oci_names.specs.Algorithms.{name_of}
use Rattle.oci_names.specs.declared.algorithm.Algorithm.{Algorithm}
use Rattle.oci_digests.specs.Names.{prefix_of}

pub both : (a : Algorithm) (text rest digits : List ℕ) → text ≡ name_of a ++ rest → rest ≡ codes ":" ++ digits → text ≡ prefix_of a ++ digits
both a text rest digits name colon = name ∙ ap (λ t. name_of a ++ t) colon ∙ sym (append_assoc (name_of a) (codes ":") digits)

pub no_name : (a : Algorithm) (text : List ℕ) → ((rest : List ℕ) → text ≡ name_of a ++ rest → ⊥) → (digits : List ℕ) → text ≡ prefix_of a ++ digits → ⊥
no_name a text none digits is = none (codes ":" ++ digits) (is ∙ append_assoc (name_of a) (codes ":") digits)

pub no_colon : (a : Algorithm) (text rest : List ℕ) → text ≡ name_of a ++ rest → ((more : List ℕ) → rest ≡ codes ":" ++ more → ⊥) → (digits : List ℕ) → text ≡ prefix_of a ++ digits → ⊥
no_colon a text rest name none digits is = none digits (append_cancel_left (name_of a) rest (codes ":" ++ digits) (sym name ∙ is ∙ append_assoc (name_of a) (codes ":") digits))

pub ruleset rules = (both, no_name, no_colon)
