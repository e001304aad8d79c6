-- The shelf that the code builds is the generated shelf.
use Rattle.std.proofs.Common.{◌≡◌, ℕ, List, [], map, Result, IfOk, OnOk, refl}
use Rattle.std.specs.FinMap.{FinMap, empty}
use Rattle.json_values.specs.Places.{by_bytes}
use Rattle.oci_link.specs.declared.shelf.Shelf.{Shelf}
use Rattle.pull_generated.specs.Shelf.{with_each, shelf_with, payload_of, generated_shelf, HasTwoDigests}
use Rattle.pull_generated.specs.Texts.{sha256_text, layer_contents, layer_type, descriptor_of, plain_manifest, image_text, signatures_text}

pub image_is : (n : ℕ) → plain_manifest (map (descriptor_of layer_type []) (layer_contents n)) ≡ image_text n
unfolding image_text
image_is n = refl

pub shelf_is : {E : Type 0} (n : ℕ) (r : Result Shelf E) (image payload signatures : List ℕ) (blobs : FinMap by_bytes (List ℕ)) → image ≡ image_text n → payload ≡ payload_of n → signatures ≡ signatures_text (payload_of n) → blobs ≡ with_each empty (layer_contents n)
    → IfOk r (λ shelf. shelf ≡ shelf_with image payload signatures blobs) → IfOk r (λ shelf. shelf ≡ generated_shelf n)
unfolding generated_shelf
shelf_is n r image payload signatures blobs hi hp hs hb made = rw (hi, hp, hs, hb) at made

pub two_are : {E : Type 0} (n : ℕ) (r : Result Shelf E) (image signatures : List ℕ) → image ≡ image_text n → signatures ≡ signatures_text (payload_of n) → OnOk r (sha256_text image ≡ sha256_text signatures → ⊥) → OnOk r (HasTwoDigests n)
two_are n r image signatures hi hs apart = rw (hi, hs) at apart

pub digest_is : {E : Type 0} (n : ℕ) (r : Result (List ℕ) E) (payload : List ℕ) → payload ≡ payload_of n → IfOk r (λ digest. digest ≡ sha256_text payload) → IfOk r (λ digest. digest ≡ sha256_text (payload_of n))
digest_is n r payload hp made = rw hp at made
