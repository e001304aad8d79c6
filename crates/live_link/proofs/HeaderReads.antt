-- What is read of a list of headers.
use Rattle.std.proofs.Common.{◌≡◌, ◌∙◌, sym, ap, ℕ, List, Option, Some, None, map}
use Rattle.std.proofs.lemmas.List.{map-id}
use Rattle.std.specs.FinMap.{empty}
use Rattle.json_tables.specs.Reading.{◌>>=◌}
use Rattle.oci_transport.specs.Headers.{Fields, with_headers}

-- what follows a value that was read
read_on : {A B C : Type 0} (o : Option A) (f : A → Option B) (g : B → Option C) (b : B) → (o >>= f) ≡ Some b → (o >>= λ x. f x >>= g) ≡ g b
read_on None f g b is = absurd (cc is)
read_on (Some x) f g b is = ap (λ r. r >>= g) is

-- the headers of these pairs
pub headers_read : {A : Type 0} (o : Option A) (f : A → Option (List (List ℕ × List ℕ))) (pairs given : List (List ℕ × List ℕ)) (made result : Option Fields)
    → (o >>= f) ≡ Some pairs → given ≡ pairs → made ≡ with_headers empty (map (λ field. (field.0, field.1)) given) → made ≡ result → (o >>= λ x. f x >>= with_headers empty) ≡ result
headers_read o f pairs given made result read same is answer =
    read_on o f (with_headers empty) pairs read ∙ ap (with_headers empty) (sym same) ∙ ap (with_headers empty) (sym (map-id given)) ∙ sym is ∙ answer
