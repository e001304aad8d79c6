-- The lengths of the image's texts.
use Rattle.std.proofs.Common.{◌≡◌, ◌<◌, ◌≤◌, ◌+◌, ◌*◌, ◌^◌, ℕ, zero, suc, List, [], ◌∷◌, ◌++◌, length, flat_map, codes, refl, arith, length-append}
use Rattle.std.specs.Prelude.{decimal}
use Rattle.std.specs.List.{repeat}
use Rattle.std.proofs.lemmas.Fmt.{length-decimal-le}
use Rattle.oci_names.specs.declared.algorithm.Algorithm.TheVariants.{Sha256}
use Rattle.oci_digests.proofs.Algorithms.{digest_length}
use Rattle.pull_generated.specs.Texts.{sha256_text, thousandfold, layer_content, layer_contents, descriptor_text, joined}
use Rattle.pull_generated.proofs.Manifests.{Each}

pub both_within : (xs ys : List ℕ) (a b : ℕ) → length xs ≤ a → length ys ≤ b → length (xs ++ ys) ≤ a + b
both_within xs ys a b h k = let is = length-append xs ys in omega (arith, is, h, k)

pub digest_within : (bytes : List ℕ) → length (sha256_text bytes) ≤ 71
digest_within bytes = let is = digest_length Sha256 bytes in omega (arith, is)

-- ---- layers

repeated : (n : ℕ) (line : List ℕ) → length line ≤ 17 → length (repeat n line) ≤ n * 17
repeated zero line h = omega arith
repeated (suc n) line h = let more = repeated n line h in let is = length-append line (repeat n line) in omega (arith, h, more, is)

thousand : (line : List ℕ) → length line ≤ 17 → length (thousandfold line) ≤ 17000
unfolding thousandfold
thousand line h = repeated 1000 line h

pub layer_within : (place : ℕ) → place < 2 ^ 32 → length (layer_content place) ≤ 17000
unfolding layer_content
layer_within place small =
    let digits = length-decimal-le 10 place (omega arith) (omega (arith, small)) (omega (arith, small)) in
    thousand _ (both_within (codes "layer ") (decimal place ++ (codes "\n" ++ [])) 6 11 (omega arith) (both_within (decimal place) (codes "\n" ++ []) 10 1 digits (omega arith)))

pub each_more : {X : Type 0} (P : X → Type 0) (xs : List X) (x : X) → Each P xs → P x → Each P (xs ++ x ∷ [])
each_more P [] x each one = (one, tt)
each_more P (y ∷ xs) x each one = (each.0, each_more P xs x each.1 one)

pub layers_within : (n : ℕ) → n ≤ 2 ^ 32 → Each (λ content. length content ≤ 17000) (layer_contents n)
unfolding layer_contents
layers_within zero small = tt
layers_within (suc n) small = each_more (λ content. length content ≤ 17000) (layer_contents n) (layer_content n) (layers_within n (omega (arith, small))) (layer_within n (omega (arith, small)))

pub layers_count : (n : ℕ) → length (layer_contents n) ≡ n
unfolding layer_contents
layers_count zero = refl
layers_count (suc n) = let is = length-append (layer_contents n) (layer_content n ∷ []) in let more = layers_count n in omega (arith, is, more)

-- ---- descriptors and manifests

pub descriptor_within : (kind digest : List ℕ) (size : ℕ) (more : List ℕ) → length kind ≤ 60 → length digest ≤ 71 → size < 2 ^ 64 → length more ≤ 80 → length (descriptor_text kind digest size more) ≤ 300
descriptor_within kind digest size more hk hd small hm =
    let digits = length-decimal-le 20 size (omega arith) (omega (arith, small)) small in
    let a = both_within more (codes "}" ++ []) 80 1 hm (omega arith) in
    let b = both_within (decimal size) (more ++ (codes "}" ++ [])) 20 81 digits a in
    let c = both_within (codes "\",\"size\":") (decimal size ++ (more ++ (codes "}" ++ []))) 9 101 (omega arith) b in
    let d = both_within digest (codes "\",\"size\":" ++ (decimal size ++ (more ++ (codes "}" ++ [])))) 71 110 hd c in
    let e = both_within (codes "\",\"digest\":\"") (digest ++ (codes "\",\"size\":" ++ (decimal size ++ (more ++ (codes "}" ++ []))))) 12 181 (omega arith) d in
    let f = both_within kind (codes "\",\"digest\":\"" ++ (digest ++ (codes "\",\"size\":" ++ (decimal size ++ (more ++ (codes "}" ++ [])))))) 60 193 hk e in
    let g = both_within (codes "{\"mediaType\":\"") (kind ++ (codes "\",\"digest\":\"" ++ (digest ++ (codes "\",\"size\":" ++ (decimal size ++ (more ++ (codes "}" ++ []))))))) 14 253 (omega arith) f in
    omega (arith, g)

behind_within : (texts : List (List ℕ)) → Each (λ one. length one ≤ 300) texts → length (flat_map (λ one. codes "," ++ one) texts) ≤ length texts * 301
behind_within [] each = omega arith
behind_within (one ∷ texts) each =
    let more = behind_within texts each.1 in
    let here = both_within (codes ",") one 1 300 (omega arith) each.0 in
    let is = length-append (codes "," ++ one) (flat_map (λ one. codes "," ++ one) texts) in
    omega (arith, more, here, is)

pub joined_within : (texts : List (List ℕ)) → Each (λ one. length one ≤ 300) texts → length (joined texts) ≤ length texts * 301
joined_within [] each = omega arith
joined_within (one ∷ texts) each =
    let more = behind_within texts each.1 in
    let is = length-append one (flat_map (λ one. codes "," ++ one) texts) in
    let here = each.0 in
    omega (arith, more, here, is)
