-- How many sinks were told that they have their blob.
use Rattle.std.proofs.Common.{◌≡◌, ◌≤◌, ◌+◌, ℕ, Bool, List, [], ◌∷◌, ◌++◌, map, ap, ◌∙◌, arith}
use Rattle.std.proofs.lemmas.List.{map-append}
use Rattle.std.specs.Prelude.{if◌then◌else◌}
use Rattle.http_server.specs.declared.log.Log.{Log}
use Rattle.image_blobs.specs.SinksState.{Closed}
use Rattle.live_blobs.specs.Discarded.{closed_by, stood_among}

abbrev one_if : Bool → ℕ
one_if stood = if stood then 1 else 0

stood_more : (zs : List Closed) (z : Closed) → stood_among (zs ++ z ∷ []) ≡ stood_among zs + one_if z.stood
stood_more [] z = omega arith
stood_more (w ∷ zs) z = let rest = stood_more zs z in omega (arith, rest)

-- one more sink was closed
pub count_more : (items more : List (Log ℕ Unit × Bool)) (name : Log ℕ Unit) (stood : Bool) (n m : ℕ) → more ≡ items ++ (name, stood) ∷ [] → n ≤ stood_among (map closed_by items) → m ≤ (if stood then 1 else 0) + n → m ≤ stood_among (map closed_by more)
count_more items more name stood n m is counted few =
    let all : stood_among (map closed_by more) ≡ stood_among (map closed_by items ++ closed_by (name, stood) ∷ []) = ap (λ xs. stood_among (map closed_by xs)) is ∙ ap stood_among (map-append closed_by items ((name, stood) ∷ [])) in
    let last = stood_more (map closed_by items) (closed_by (name, stood)) in
    omega (arith, all, last, counted, few)
