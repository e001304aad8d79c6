-- The bytes of an image of one layer, of its signatures, and of the documents that list them.
use Rattle.std.specs.Prelude.{ℕ, List, [], ◌∷◌, codes}
use Rattle.std.specs.List.{concat}
use Rattle.base64.specs.Engines.{standard}
use Rattle.base64.specs.GeneralPurpose.{encode_of}

-- ---- an image

abbrev pub layer : List ℕ
layer = codes "hello world"

abbrev pub config : List ℕ
config = codes "{}"

-- a manifest of that configuration and of one layer of this media type, digest and size, with these members at its end
abbrev pub manifest_of : List ℕ → List ℕ → List ℕ → List ℕ → List ℕ
manifest_of media_type digest size more = concat (
    codes "{\"schemaVersion\":2,\"mediaType\":\"application/vnd.oci.image.manifest.v1+json\","
    ∷ codes "\"config\":{\"mediaType\":\"application/vnd.oci.image.config.v1+json\","
    ∷ codes "\"digest\":\"sha256:44136fa355b3678a1146ad16f7e8649e94fb4fc21fe77e8310c060f61caaff8a\",\"size\":2},"
    ∷ codes "\"layers\":[{\"mediaType\":\"" ∷ media_type ∷ codes "\",\"digest\":\"" ∷ digest
    ∷ codes "\",\"size\":" ∷ size ∷ more ∷ codes "}]}" ∷ [])

abbrev pub layer_type : List ℕ
layer_type = codes "application/vnd.oci.image.layer.v1.tar"

abbrev pub image : List ℕ
image = manifest_of layer_type
    (codes "sha256:b94d27b9934d3e08a52e52d7da7dabfac484efe37a5380ee9088f7ace2efcde9") (codes "11") []

-- an index of that image, for Linux on amd64
abbrev pub index : List ℕ
index = concat (
    codes "{\"schemaVersion\":2,\"mediaType\":\"application/vnd.oci.image.index.v1+json\",\"manifests\":["
    ∷ codes "{\"mediaType\":\"application/vnd.oci.image.manifest.v1+json\","
    ∷ codes "\"digest\":\"sha256:517b86da29754bfa57e312c35d4cf22caa38dbce39ecd24684830c1f9777a635\",\"size\":393,"
    ∷ codes "\"platform\":{\"architecture\":\"amd64\",\"os\":\"linux\"}}]}" ∷ [])

-- ---- a signature under the tag of the image's digest

-- what the signature signs (simple signing)
abbrev pub payload : List ℕ
payload = concat (
    codes "{\"critical\":{\"identity\":{\"docker-reference\":\"localhost:5000/app\"},\"image\":{"
    ∷ codes "\"docker-manifest-digest\":\"sha256:517b86da29754bfa57e312c35d4cf22caa38dbce39ecd24684830c1f9777a635\"},"
    ∷ codes "\"type\":\"cosign container image signature\"},\"optional\":null}" ∷ [])

abbrev pub payload_type : List ℕ
payload_type = codes "application/vnd.dev.cosign.simplesigning.v1+json"

-- the manifest of the payload, with the signature in base64
abbrev pub signatures : List ℕ
signatures = manifest_of payload_type
    (codes "sha256:bec3f566a399bddd277a387434dcaf295311323236c6b1e2b5dd93ccd6795098") (codes "234")
    (codes ",\"annotations\":{\"dev.cosignproject.cosign/signature\":\"c2lnMQ==\"}")

-- ---- bundles that refer to a digest

-- the in-toto statement about the digest with these digits, by this algorithm
abbrev pub statement : List ℕ → List ℕ → List ℕ
statement algorithm digits = concat (
    codes "{\"_type\":\"https://in-toto.io/Statement/v1\",\"subject\":[{\"digest\":{\"" ∷ algorithm
    ∷ codes "\":\"" ∷ digits
    ∷ codes "\"}}],\"predicateType\":\"https://sigstore.dev/cosign/sign/v1\",\"predicate\":{}}" ∷ [])

-- the bundle of that statement and a signature
abbrev pub bundle : List ℕ → List ℕ → List ℕ
bundle algorithm digits = concat (
    codes "{\"mediaType\":\"application/vnd.dev.sigstore.bundle.v0.3+json\",\"verificationMaterial\":{},"
    ∷ codes "\"dsseEnvelope\":{\"payload\":\"" ∷ encode_of standard (statement algorithm digits)
    ∷ codes "\",\"payloadType\":\"application/vnd.in-toto+json\",\"signatures\":[{\"sig\":\"c2lnMQ==\"}]}}" ∷ [])

abbrev pub bundle_type : List ℕ
bundle_type = codes "application/vnd.dev.sigstore.bundle.v0.3+json"

-- the manifest of a bundle of this digest and size
abbrev pub referrer : List ℕ → List ℕ → List ℕ
referrer digest size = manifest_of bundle_type digest size []

-- the list of one referrer, whose manifest has this digest
abbrev pub listed : List ℕ → List ℕ
listed digest = concat (
    codes "{\"schemaVersion\":2,\"mediaType\":\"application/vnd.oci.image.index.v1+json\",\"manifests\":["
    ∷ codes "{\"mediaType\":\"application/vnd.oci.image.manifest.v1+json\",\"digest\":\"" ∷ digest
    ∷ codes "\",\"size\":401}]}" ∷ [])

-- a bundle with its manifest and the list of it
pub record Referred : Type 0 where
  pub bundle : List ℕ
  pub manifest : List ℕ
  pub list : List ℕ

-- to the image by its SHA-256 digest
abbrev pub to_image : Referred
to_image = record {
  bundle = bundle (codes "sha256") (codes "517b86da29754bfa57e312c35d4cf22caa38dbce39ecd24684830c1f9777a635");
  manifest = referrer (codes "sha256:8f90743cc43d129778c32fd3a25c60348c0160ccb47aa07d9dcb1985f86add38") (codes "480");
  list = listed (codes "sha256:0d22dceb2f4767a2fcc4073409a4b307c0cca0e7c2b4ab45d711ca9ea4cd38bc");
}

-- to the index by its SHA-256 digest
abbrev pub to_index : Referred
to_index = record {
  bundle = bundle (codes "sha256") (codes "28f616d938d849005e1dca8332490d44c59f0908c81ac142e27c24b72d4501bb");
  manifest = referrer (codes "sha256:dd39bb1e5657e7d414e73283e12d1e9b9472a7ec96ab5d875ebab7112935461b") (codes "480");
  list = listed (codes "sha256:8dee11cace379afeacec08a7a5531c2fd0ac546101852cbc2a0c52a05e6a7f1c");
}

-- to the image by its SHA-512 digest
abbrev pub to_image_by_sha512 : Referred
to_image_by_sha512 = record {
  bundle = bundle (codes "sha512") (concat (
      codes "0c85e500299144474d92fc114e29c49af9ee9b2eef612f1ea1b6d5ff9c24a381"
      ∷ codes "b3db92cc8649cc39db8a7e553ee58232781c32052b234bc2289e9cea0c15d871" ∷ []));
  manifest = referrer (codes "sha256:97f1a01c7573552dc7851555c6f73cdec1b359901bd524f6c832d2264bfbb955") (codes "568");
  list = listed (codes "sha256:83664db07a6ab9506d6a45e943c1db2d37325df38cd784a7da526c5cd30acb59");
}
