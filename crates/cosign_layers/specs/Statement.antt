-- Which statements a bundle may sign.
use Rattle.std.specs.Prelude.{ℕ, List, Bool, true, false, bytes_eq, Option, Some, None}
use Rattle.std.specs.List.{list_any}
use Rattle.cosign_parts.specs.Statement.{predicate_in}
use Rattle.cosign_parts.specs.declared.layer.LayerKind.{LayerKind}
use Rattle.cosign_parts.specs.declared.layer.LayerKind.TheVariants.{Payload, Bundle}

abbrev pub is_predicate : List ℕ → List ℕ → Bool
is_predicate found known = bytes_eq known found

-- there is a type, and it is one of these
abbrev pub has_predicate : List (List ℕ) → Option (List ℕ) → Bool
has_predicate types None = false
has_predicate types (Some found) = list_any (is_predicate found) types

-- the layer is a payload, or a bundle that signs an in-toto statement with one of these types of predicates
abbrev pub has_statement : List (List ℕ) → LayerKind → List ℕ → Bool
has_statement types Payload content = true
has_statement types Bundle content = has_predicate types (predicate_in content)
