-- What is read of a list of headers.
use Rattle.std.proofs.Common.{◌≡◌, ◌∙◌, sym, ap, ℕ, List, Option, Some, map}
use Rattle.std.proofs.lemmas.List.{map-id}
use Rattle.std.specs.FinMap.{empty}
use Rattle.json_tables.specs.Reading.{◌>>=◌}
use Rattle.oci_transport.specs.Headers.{Fields, with_headers}

-- the headers of these pairs
pub headers_read : (read : Option (List (List ℕ × List ℕ))) (pairs given : List (List ℕ × List ℕ)) (made result : Option Fields)
    → read ≡ Some pairs → given ≡ pairs → made ≡ with_headers empty (map (λ field. (field.0, field.1)) given) → made ≡ result → (read >>= with_headers empty) ≡ result
headers_read read pairs given made result gave same is answer =
    ap (λ r. r >>= with_headers empty) gave ∙ ap (with_headers empty) (sym same) ∙ ap (with_headers empty) (sym (map-id given)) ∙ sym is ∙ answer
