-- The texts of the generated image: the lines of its layers, its manifest, its payload, and the manifest of that.
use Rattle.std.specs.Prelude.{ℕ, zero, suc, List, [], ◌∷◌, ◌++◌, length, map, codes, decimal}
use Rattle.std.specs.List.{concat, repeat, join_by}
use Rattle.oci_digests.specs.Names.{digest_text}
use Rattle.oci_names.specs.declared.algorithm.Algorithm.TheVariants.{Sha256}

-- the SHA-256 text of the bytes
abbrev pub sha256_text : List ℕ → List ℕ
sha256_text bytes = digest_text Sha256 bytes

-- ---- layers

unfoldable pub thousandfold : List ℕ → List ℕ
thousandfold line = repeat 1000 line

-- the layer at this index, from 0
unfoldable pub layer_content : ℕ → List ℕ
layer_content place = thousandfold (concat (codes "layer " ∷ decimal place ∷ codes "\n" ∷ []))

-- the layers before this index
unfoldable pub layer_contents : ℕ → List (List ℕ)
layer_contents zero = []
layer_contents (suc n) = layer_contents n ++ layer_content n ∷ []

-- ---- documents

abbrev pub layer_type : List ℕ
layer_type = codes "application/vnd.oci.image.layer.v1.tar"

abbrev pub payload_type : List ℕ
payload_type = codes "application/vnd.dev.cosign.simplesigning.v1+json"

abbrev pub config_type : List ℕ
config_type = codes "application/vnd.oci.image.config.v1+json"

abbrev pub config_content : List ℕ
config_content = codes "{}"

-- the descriptor of a blob of this media type, digest and size, with these members at its end
abbrev pub descriptor_around : List ℕ → List ℕ → List ℕ → List ℕ → List ℕ
descriptor_around media_type digest size more =
    concat (codes "{\"mediaType\":\"" ∷ media_type ∷ codes "\",\"digest\":\"" ∷ digest
    ∷ codes "\",\"size\":" ∷ size ∷ more ∷ codes "}" ∷ [])

abbrev pub descriptor_text : List ℕ → List ℕ → ℕ → List ℕ → List ℕ
descriptor_text media_type digest size more = descriptor_around media_type digest (decimal size) more

-- the descriptor of these bytes
abbrev pub descriptor_of : List ℕ → List ℕ → List ℕ → List ℕ
descriptor_of media_type more bytes = descriptor_text media_type (sha256_text bytes) (length bytes) more

-- a manifest with this descriptor of its configuration and these of its layers
abbrev pub manifest_around : List ℕ → List ℕ → List ℕ
manifest_around config layers =
    concat (codes "{\"schemaVersion\":2,\"mediaType\":\"application/vnd.oci.image.manifest.v1+json\",\"config\":"
    ∷ config ∷ codes ",\"layers\":[" ∷ layers ∷ codes "]}" ∷ [])

abbrev pub joined : List (List ℕ) → List ℕ
joined texts = join_by (λ one. one) (codes ",") texts

-- a manifest with these texts of descriptors of its layers, whose configuration is `{}`
abbrev pub plain_manifest : List (List ℕ) → List ℕ
plain_manifest layers = manifest_around (descriptor_of config_type [] config_content) (joined layers)

-- the manifest of the image with `n` layers
unfoldable pub image_text : ℕ → List ℕ
image_text n = plain_manifest (map (descriptor_of layer_type []) (layer_contents n))

-- the payload that the image's signature signs (simple signing)
unfoldable pub payload_text : List ℕ → List ℕ
payload_text digest =
    concat (codes "{\"critical\":{\"identity\":{\"docker-reference\":\"localhost:5000/gen\"},"
    ∷ codes "\"image\":{\"docker-manifest-digest\":\"" ∷ digest
    ∷ codes "\"},\"type\":\"cosign container image signature\"},\"optional\":null}" ∷ [])

-- the signature, in base64
abbrev pub signature_note : List ℕ
signature_note = codes ",\"annotations\":{\"dev.cosignproject.cosign/signature\":\"c2lnMQ==\"}"

-- the manifest of a payload
unfoldable pub signatures_text : List ℕ → List ℕ
signatures_text payload = plain_manifest (descriptor_of payload_type signature_note payload ∷ [])
