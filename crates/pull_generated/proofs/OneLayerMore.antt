-- One more layer.
use Rattle.std.proofs.Common.{◌≡◌, ◌+◌, ℕ, suc, arith, List, [], ◌∷◌, ◌++◌, map, refl, sym, ap, ◌∙◌}
use Rattle.std.specs.FinMap.{FinMap, insert, empty}
use Rattle.json_values.specs.Places.{by_bytes}
use Rattle.pull_generated.specs.Shelf.{with_each}
use Rattle.pull_generated.specs.Texts.{sha256_text, layer_content, layer_contents, layer_type, descriptor_of}

next_is : (n : ℕ) → n + 1 ≡ suc n
next_is n = omega arith

grown : (n : ℕ) → layer_contents (suc n) ≡ layer_contents n ++ layer_content n ∷ []
unfolding layer_contents
grown n = refl

one_more : (n : ℕ) → layer_contents (n + 1) ≡ layer_contents n ++ layer_content n ∷ []
one_more n = ap layer_contents (next_is n) ∙ grown n

each_more : (m : FinMap by_bytes (List ℕ)) (xs : List (List ℕ)) (x : List ℕ) → with_each m (xs ++ x ∷ []) ≡ insert (with_each m xs) (sha256_text x) x
each_more m [] x = refl
each_more m (y ∷ xs) x = each_more (insert m (sha256_text y) y) xs x

map_more : {X Y : Type 0} (f : X → Y) (xs : List X) (x : X) → map f (xs ++ x ∷ []) ≡ map f xs ++ f x ∷ []
map_more f [] x = refl
map_more f (y ∷ xs) x = ap (λ ys. f y ∷ ys) (map_more f xs x)

pub blobs_grow : (old new : FinMap by_bytes (List ℕ)) (n : ℕ) → old ≡ with_each empty (layer_contents n) → new ≡ insert old (sha256_text (layer_content n)) (layer_content n) → new ≡ with_each empty (layer_contents (n + 1))
blobs_grow old new n before more =
    more ∙ ap (λ (m : FinMap by_bytes (List ℕ)). insert m (sha256_text (layer_content n)) (layer_content n)) before
    ∙ sym (each_more empty (layer_contents n) (layer_content n)) ∙ ap (with_each empty) (sym (one_more n))

pub descriptors_grow : (old new : List (List ℕ)) (n : ℕ) → old ≡ map (descriptor_of layer_type []) (layer_contents n) → new ≡ old ++ descriptor_of layer_type [] (layer_content n) ∷ [] → new ≡ map (descriptor_of layer_type []) (layer_contents (n + 1))
descriptors_grow old new n before more =
    more ∙ ap (λ (xs : List (List ℕ)). xs ++ descriptor_of layer_type [] (layer_content n) ∷ []) before
    ∙ sym (map_more (descriptor_of layer_type []) (layer_contents n) (layer_content n)) ∙ ap (map (descriptor_of layer_type [])) (sym (one_more n))
