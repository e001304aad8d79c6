-- The image of a written chain.
use Rattle.std.specs.Prelude.{◌≡◌, ℕ, List, [], ◌∷◌, length, ◌==◌, if◌then◌else◌, Option, Some, None}
use Rattle.json_tables.specs.Plain.{read_plain}
use Rattle.json_tables.specs.Reading.{◌>>=◌}
use Rattle.oci_digests.specs.Names.{digest_text}
use Rattle.oci_names.specs.declared.algorithm.Algorithm.TheVariants.{Sha256}
use Rattle.oci_manifests.specs.Manifest.{manifest_of}
use Rattle.oci_manifests.specs.declared.blob.ImageLayer.{ImageLayer}
use Rattle.oci_manifests.specs.declared.descriptor.OciDescriptor.{OciDescriptor}
use Rattle.oci_manifests.specs.declared.manifest.OciImageManifest.{OciImageManifest}
use Rattle.engine_rows.specs.Image.{layer_of, config_of}
use Rattle.cosign_layers.specs.Checks.{Input}
use Rattle.cosign_layers.specs.Read.{Gives}
use Rattle.cosign_parts.specs.Trust.{Trust}
use Rattle.cosign_parts.specs.declared.layer.SignatureLayer.{SignatureLayer}
use Rattle.cosign_chain.specs.declared.image.VerifiedImage.{VerifiedImage}
use Rattle.locked_cases.specs.declared.chain_input.WrittenChain.{WrittenChain}
use Rattle.locked_cases.specs.declared.chain_input.WrittenEntry.{WrittenEntry}
use Rattle.locked_cases.specs.declared.chain_input.WrittenSignature.{WrittenSignature}
use Rattle.locked_cases.specs.declared.built.Parts.{Parts}

-- the document of the manifest: the entry's, or the first one if there is no entry
abbrev pub manifest_bytes : Option WrittenEntry → List ℕ → List ℕ
manifest_bytes None first = first
manifest_bytes (Some entry) first = entry.content

-- its digest
abbrev pub manifest_digest : Option WrittenEntry → List ℕ → List ℕ
manifest_digest None digest = digest
manifest_digest (Some entry) digest = entry.digest

-- the digest of the index that led to it, if one did
abbrev pub list_digest : Option WrittenEntry → List ℕ → Option (List ℕ)
list_digest None digest = None
list_digest (Some entry) digest = Some digest

-- a layer for each descriptor and its bytes, as in a pull
abbrev pub layers_of : List OciDescriptor → List (List ℕ) → List ImageLayer
layers_of [] contents = []
layers_of (x ∷ xs) [] = []
layers_of (x ∷ xs) (content ∷ contents) = layer_of x content ∷ layers_of xs contents

-- the image of these parts: media types and annotations are those of the manifest and its descriptors, as in a pull
abbrev pub image_of : WrittenChain → OciImageManifest → SignatureLayer → VerifiedImage
image_of chain manifest signature = record {
  digest = chain.digest;
  first = chain.first;
  manifest_bytes = manifest_bytes chain.entry chain.first;
  manifest = manifest;
  manifest_digest = manifest_digest chain.entry chain.digest;
  list_digest = list_digest chain.entry chain.digest;
  config = config_of manifest chain.config;
  layers = layers_of manifest.layers chain.layers;
  signature = signature;
}

-- what the signature layer is read from, if it has this digest
abbrev pub input_by : List ℕ → WrittenSignature → Input
input_by digest signature = record {
  kind = signature.kind;
  content = signature.content;
  oci_digest = digest;
  annotations = signature.annotations;
}

-- with the SHA-256 text of its bytes as its digest
abbrev pub input_of : WrittenSignature → Input
input_of signature = input_by (digest_text Sha256 signature.content) signature

-- a manifest that has a descriptor for each of `n` layers
abbrev pub of_layers : ℕ → OciImageManifest → Option OciImageManifest
of_layers count manifest = if length manifest.layers == count then Some manifest else None

-- the manifest, if its document parses as one that has a descriptor for each layer
abbrev pub manifest_in : WrittenChain → Option OciImageManifest
manifest_in chain =
    read_plain manifest_of (manifest_bytes chain.entry chain.first) >>= of_layers (length chain.layers)

-- the image can be built from what is written: its document parses as the manifest, and the signature layer is what its
-- bytes and annotations say about this digest
pub record IsBuilt (trust : Trust) (chain : WrittenChain) (found : VerifiedImage) : Type 0 where
  pub reads : manifest_in chain ≡ Some found.manifest
  pub gives : Gives trust chain.digest (input_of chain.signature) found.signature
  pub is : found ≡ image_of chain found.manifest found.signature

-- the one layer that the input yields for an image, or `None` if it yields none
abbrev pub GivesOne : Trust → List ℕ → Input → Option SignatureLayer → Type 0
GivesOne trust d input (Some layer) =
    Gives trust d input layer × ((other : SignatureLayer) → Gives trust d input other → other ≡ layer)
GivesOne trust d input None = (layer : SignatureLayer) → Gives trust d input layer → ⊥

-- the one image that can be built, or `None` if none can be
abbrev pub Builds : Trust → WrittenChain → Option VerifiedImage → Type 0
Builds trust chain (Some found) =
    IsBuilt trust chain found × ((other : VerifiedImage) → IsBuilt trust chain other → other ≡ found)
Builds trust chain None = (found : VerifiedImage) → IsBuilt trust chain found → ⊥

-- the parts that are written
abbrev pub parts_of : WrittenChain → OciImageManifest → Parts
parts_of chain manifest = record {
  digest = chain.digest;
  first = chain.first;
  manifest_bytes = manifest_bytes chain.entry chain.first;
  manifest_digest = manifest_digest chain.entry chain.digest;
  list_digest = list_digest chain.entry chain.digest;
  config = config_of manifest chain.config;
  layers = layers_of manifest.layers chain.layers;
}

-- the image of these parts
abbrev pub image_with : Parts → OciImageManifest → SignatureLayer → VerifiedImage
image_with parts manifest signature = record {
  digest = parts.digest;
  first = parts.first;
  manifest_bytes = parts.manifest_bytes;
  manifest = manifest;
  manifest_digest = parts.manifest_digest;
  list_digest = parts.list_digest;
  config = parts.config;
  layers = parts.layers;
  signature = signature;
}
