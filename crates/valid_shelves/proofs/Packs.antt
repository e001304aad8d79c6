-- Manifests with the bytes of their configuration and their layer, read by evaluation.
use Rattle.std.proofs.Common.{◌≡◌, ℕ, List, [], ◌∷◌, None, Result, Ok, Err, refl}
use Rattle.std.specs.Prelude.{pos}
use Rattle.oci_manifests.specs.declared.descriptor.OciDescriptor.{OciDescriptor}
use Rattle.oci_manifests.specs.Build.{manifest_with}
use Rattle.oci_manifests.specs.declared.document.OciManifest.{OciManifest}
use Rattle.oci_manifests.specs.declared.document.OciManifest.TheVariants.{Image, ImageIndex}
use Rattle.oci_manifests.specs.declared.index_entry.ImageIndexEntry.{ImageIndexEntry}
use Rattle.oci_manifests.specs.declared.index.OciImageIndex.{OciImageIndex}
use Rattle.oci_manifests.specs.declared.manifest.OciImageManifest.{OciImageManifest}
use Rattle.engine_answers.specs.Documents.{document_read}
use Rattle.engine_answers.specs.Referrers.{no_referrers, index_read}
use Rattle.engine_terms.specs.declared.error.OciDistributionError.{OciDistributionError}
use Rattle.cosign_laws.specs.Small.{sha256, Packed}
use Rattle.valid_shelves.specs.Examples.{HasBytes}

abbrev blank : OciDescriptor
blank = record { media_type = []; digest = []; size = pos 0; urls = None; annotations = None; artifact_type = None }

-- the manifest that was read
abbrev pub manifest_in : Result OciManifest OciDistributionError → OciImageManifest
manifest_in (Ok (Image manifest)) = manifest
manifest_in (Ok (ImageIndex index)) = manifest_with blank [] None
manifest_in (Err e) = manifest_with blank [] None

abbrev pub first_of : List OciDescriptor → OciDescriptor
first_of [] = blank
first_of (x ∷ xs) = x

abbrev pub manifest_read : List ℕ → OciImageManifest
manifest_read bytes = manifest_in (document_read bytes)

abbrev pub descriptor_in : List ℕ → OciDescriptor
descriptor_in bytes = first_of (manifest_read bytes).layers

-- the bytes are a manifest of this configuration and of this layer alone, which has this media type
abbrev pub IsPack : List ℕ → List ℕ → List ℕ → List ℕ → Type 0
IsPack bytes config layer media_type =
    (document_read bytes ≡ Ok (Image (manifest_read bytes)))
    × ((manifest_read bytes).config.digest ≡ sha256 config)
    × ((manifest_read bytes).layers ≡ descriptor_in bytes ∷ [])
    × ((descriptor_in bytes).digest ≡ sha256 layer)
    × ((descriptor_in bytes).media_type ≡ media_type)

abbrev pub packed : (bytes config layer media_type : List ℕ) → IsPack bytes config layer media_type → Packed
packed bytes config layer media_type p = record {
  bytes = bytes;
  config = config;
  layer = layer;
  manifest = manifest_read bytes;
  descriptor = descriptor_in bytes;
  reads = p.0;
  config_is = p.1;
  layers_are = p.2;
  layer_is = p.3;
}

pub has_bytes : (bytes config layer media_type : List ℕ) (p : IsPack bytes config layer media_type) → HasBytes bytes config layer (packed bytes config layer media_type p)
has_bytes bytes config layer media_type p = record { bytes_are = refl; config_is = refl; layer_is = refl }

-- ---- indexes

-- the index that was read
abbrev pub index_in : Result OciManifest OciDistributionError → OciImageIndex
index_in (Ok (Image manifest)) = no_referrers
index_in (Ok (ImageIndex index)) = index
index_in (Err e) = no_referrers

abbrev pub listed_in : Result OciImageIndex OciDistributionError → OciImageIndex
listed_in (Ok index) = index
listed_in (Err e) = no_referrers

abbrev blank_entry : ImageIndexEntry
blank_entry = record { media_type = []; digest = []; size = pos 0; platform = None; annotations = None; artifact_type = None }

abbrev pub first_entry : List ImageIndexEntry → ImageIndexEntry
first_entry [] = blank_entry
first_entry (x ∷ xs) = x

abbrev pub entry_read : List ℕ → ImageIndexEntry
entry_read list = first_entry (listed_in (index_read list)).manifests

-- the bytes are a list of this digest alone
abbrev pub IsListed : List ℕ → List ℕ → Type 0
IsListed list digest =
    (index_read list ≡ Ok (listed_in (index_read list)))
    × ((listed_in (index_read list)).manifests ≡ entry_read list ∷ [])
    × ((entry_read list).digest ≡ digest)
