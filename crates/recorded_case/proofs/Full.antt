-- Pieces none of which is empty.
use Rattle.std.proofs.Common.{◌≡◌, ◌∙◌, ℕ, ◌<◌, List, [], ◌∷◌, length, Some, None, option_map, refl, ap, arith}
use Rattle.std.proofs.Math.Nat.{zero-lt-suc}
use Rattle.std.proofs.Props.{props}
use Rattle.std.proofs.lemmas.List.Elements.{All-nil, All-cons, All-head, All-tail}
use Rattle.oci_transport.specs.Pieces.{NoneEmpty}
use Rattle.recorded_case.specs.Answer.{none_empty}

abbrev IsFull : List ℕ → Type 0
IsFull piece = 0 < length piece

NoneEmpty-prop : (pieces : List (List ℕ)) → IsProp (NoneEmpty pieces)
NoneEmpty-prop pieces = hlevel props

pub none_empty-given : (pieces : List (List ℕ)) (h : NoneEmpty pieces) → none_empty pieces ≡ Some h
none_empty-given [] h = ap Some (NoneEmpty-prop [] _ h)
none_empty-given ([] ∷ pieces) h = let e : 0 < 0 = All-head IsFull [] pieces h in absurd (omega (arith, e))
none_empty-given ((b ∷ bs) ∷ pieces) h =
    ap (option_map (All-cons IsFull (b ∷ bs) pieces (zero-lt-suc (length bs)))) (none_empty-given pieces (All-tail IsFull (b ∷ bs) pieces h))
    ∙ ap Some (NoneEmpty-prop ((b ∷ bs) ∷ pieces) _ h)

pub none_empty-not : (pieces : List (List ℕ)) → (NoneEmpty pieces → ⊥) → none_empty pieces ≡ None
none_empty-not [] h = absurd (h (All-nil IsFull))
none_empty-not ([] ∷ pieces) h = refl
none_empty-not ((b ∷ bs) ∷ pieces) h =
    ap (option_map (All-cons IsFull (b ∷ bs) pieces (zero-lt-suc (length bs)))) (none_empty-not pieces (λ rest. h (All-cons IsFull (b ∷ bs) pieces (zero-lt-suc (length bs)) rest)))
