-- The settings of a pull of blobs.
use Rattle.std.specs.Prelude.{ℕ, List, [], ◌∷◌, Option, Some, codes}
use Rattle.serde_json.specs.Data.{Data}
use Rattle.json_tables.specs.Reading.{◌>>=◌, u64_of}
use Rattle.json_tables.specs.Objects.{only}
use Rattle.json_tables.specs.Member.{required}
use Rattle.oci_manifests.specs.declared.descriptor.OciDescriptor.{OciDescriptor}
use Rattle.oci_manifests.specs.Manifest.{manifest_of}
use Rattle.call_laws.specs.Blobs.{descriptors_of, range_of}
use Rattle.live_host.specs.Names.{frame_named}
use Rattle.live_pull.specs.Settings.{IsReady, documents_of}
use Rattle.live_blobs.specs.declared.settings.BlobSettings.{BlobSettings}

-- the members of the frame
abbrev pub members : List (List ℕ)
members = codes "settings" ∷ codes "manifest" ∷ codes "first" ∷ codes "end" ∷ codes "frame" ∷ []

-- The frame `blobs`, with no other members: a frame `documents` of the image, its manifest, and the blobs from one
-- index up to another one.
unfoldable pub blobs_of : Data → Option BlobSettings
blobs_of d = do
  known ← only members d
  name ← frame_named (codes "blobs") d
  first ← required u64_of (codes "first") d
  end ← required u64_of (codes "end") d
  manifest ← required manifest_of (codes "manifest") d
  settings ← required documents_of (codes "settings") d
  Some (record { settings = settings; manifest = manifest; first = first; end = end })

-- the descriptors of the blobs
abbrev pub blobs_in : BlobSettings → List OciDescriptor
blobs_in settings = range_of settings.first settings.end (descriptors_of settings.manifest)

-- the reference parses
abbrev pub AreReady : BlobSettings → Type 0
AreReady settings = IsReady settings.settings
