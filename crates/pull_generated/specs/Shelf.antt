-- The registry in memory that has the generated image and its signature.
use Rattle.std.specs.Prelude.{◌≡◌, ℕ, List, [], ◌∷◌, ◌++◌, codes}
use Rattle.std.specs.FinMap as map
use Rattle.std.specs.FinMap.{FinMap, insert, empty}
use Rattle.hex.specs.Hex.{encode_lower}
use Rattle.sha2.specs.Sha256.{sha256}
use Rattle.json_values.specs.Places.{by_bytes}
use Rattle.oci_link.specs.declared.shelf.Shelf.{Shelf}
use Rattle.oci_link.specs.declared.shelf.ShelfDocument.{ShelfDocument}
use Rattle.pull_generated.specs.Texts.{sha256_text, layer_contents, config_content, image_text, payload_text}
use Rattle.pull_generated.specs.Texts.{signatures_text}

abbrev pub Blobs : Type 0
Blobs = FinMap by_bytes (List ℕ)

-- each of these byte strings under its digest
abbrev pub with_each : Blobs → List (List ℕ) → Blobs
with_each blobs [] = blobs
with_each blobs (bytes ∷ more) = with_each (insert blobs (sha256_text bytes) bytes) more

abbrev pub manifest_document : List ℕ → ShelfDocument
manifest_document content = record {
  media_type = codes "application/vnd.oci.image.manifest.v1+json";
  content = content;
}

-- the tag of the signatures of these bytes
abbrev pub tag_for : List ℕ → List ℕ
tag_for bytes = codes "sha256-" ++ encode_lower (sha256 bytes) ++ codes ".sig"

-- an image of this text, with its blobs, and a signature of it
abbrev pub shelf_with : List ℕ → List ℕ → List ℕ → Blobs → Shelf
shelf_with image payload signatures layers = record {
  repository = codes "gen";
  tags = insert (insert empty (tag_for image) (sha256_text signatures)) (codes "v1") (sha256_text image);
  documents = insert (insert empty (sha256_text signatures) (manifest_document signatures))
      (sha256_text image) (manifest_document image);
  blobs = insert (insert layers (sha256_text config_content) config_content) (sha256_text payload) payload;
  referrers = empty;
  redirects = empty;
}

abbrev pub payload_of : ℕ → List ℕ
payload_of n = payload_text (sha256_text (image_text n))

-- the image with `n` layers under the tag `v1`, and one payload of it under the tag of its signatures
unfoldable pub generated_shelf : ℕ → Shelf
generated_shelf n =
    shelf_with (image_text n) (payload_of n) (signatures_text (payload_of n)) (with_each empty (layer_contents n))

-- the image's document and the signatures' have two digests
abbrev pub HasTwoDigests : ℕ → Type 0
HasTwoDigests n = sha256_text (image_text n) ≡ sha256_text (signatures_text (payload_of n)) → ⊥
