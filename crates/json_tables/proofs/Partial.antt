-- A partly read list.
use Rattle.std.proofs.Common.{◌≡◌, List, [], ◌∷◌, ◌++◌, Option, Some, None, refl, sym, ap, ◌∙◌, append_assoc}
use Rattle.serde_json.specs.Data.{Data, Items, item}
use Rattle.json_tables.specs.Reading.{◌>>=◌, items_by}
use Rattle.json_tables.specs.Outcomes.{Refuses}
use Rattle.json_tables.specs.declared.error.ReadError.{ReadError}
use Rattle.json_tables.specs.declared.error.ReadError.TheVariants.{Float, Shape, Ambiguous, WantOfMemory}

-- what was read before the rest
abbrev pub with_front : {X : Type 0} → List X → Option (List X) → Option (List X)
with_front xs None = None
with_front xs (Some ys) = Some (xs ++ ys)

pub nothing_before : {X : Type 0} (r : Option (List X)) → with_front [] r ≡ r
nothing_before None = refl
nothing_before (Some ys) = refl

one_moved : {X : Type 0} (xs : List X) (x : X) (r : Option (List X)) → with_front xs (r >>= λ ys. Some (x ∷ ys)) ≡ with_front (xs ++ x ∷ []) r
one_moved xs x None = refl
one_moved xs x (Some ys) = ap Some (sym (append_assoc xs (x ∷ []) ys))

-- one more item is read
pub items_step : {X : Type 0} (f : Data → Option X) (xs : List X) (x : X) (d : Data) (ds : Items) → f d ≡ Some x → with_front xs (items_by f (item d ds)) ≡ with_front (xs ++ x ∷ []) (items_by f ds)
items_step f xs x d ds e = ap (λ o. with_front xs (o >>= λ y. items_by f ds >>= λ ys. Some (y ∷ ys))) e ∙ one_moved xs x (items_by f ds)

-- if an item is refused, the list is
pub items_refused : {X : Type 0} (f : Data → Option X) (xs : List X) (e : ReadError) (d : Data) (ds : Items) → Refuses e (f d) → Refuses e (with_front xs (items_by f (item d ds)))
items_refused f xs Float d ds h = h
items_refused f xs Shape d ds h = ap (λ o. with_front xs (o >>= λ y. items_by f ds >>= λ ys. Some (y ∷ ys))) h
items_refused f xs Ambiguous d ds h = h
items_refused f xs WantOfMemory d ds h = tt
