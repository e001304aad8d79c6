-- A written document matches one table only.
use Rattle.std.proofs.Common.{◌≡◌, Option, Some, None, Ok, codes, refl, ap, ◌∙◌}
use Rattle.serde_json.specs.Data.{Data}
use Rattle.serde_json.specs.Find.{get}
use Rattle.json_tables.specs.Reading.{◌>>=◌, text_of, u8_of, list_of, map_of}
use Rattle.json_tables.specs.Member.{required, optional}
use Rattle.json_tables.specs.Outcomes.{ReadsDocument}
use Rattle.json_tables.proofs.Members.{get-fields}
use Rattle.oci_manifests.specs.declared.manifest.OciImageManifest.{OciImageManifest}
use Rattle.oci_manifests.specs.declared.index.OciImageIndex.{OciImageIndex}
use Rattle.oci_manifests.specs.declared.document.OciManifest.TheVariants.{Image, ImageIndex}
use Rattle.oci_manifests.specs.Descriptor.{descriptor_of}
use Rattle.oci_manifests.specs.IndexEntry.{entry_of}
use Rattle.oci_manifests.specs.Manifest.{manifest_of, manifest_fields, manifest_written}
use Rattle.oci_manifests.specs.Index.{index_of, index_fields, index_written}
use Rattle.oci_manifests.specs.Document.{document_of, one_of, ReadsManifest}

abbrev nothing : (C : Type 0) → Option C
nothing C = None

nothing_behind : (A B C : Type 0) (o : Option A) (p : Option B) → (o >>= λ _. p >>= λ _. nothing C) ≡ nothing C
nothing_behind A B C None p = refl
nothing_behind A B C (Some x) None = refl
nothing_behind A B C (Some x) (Some y) = refl

no_index : (d : Data) → get (codes "manifests") d ≡ None → index_of d ≡ None
unfolding index_of
no_index d missing =
    ap (λ found. required u8_of (codes "schemaVersion") d >>= λ schema_version. optional text_of (codes "mediaType") d >>= λ media_type.
    (found >>= list_of entry_of) >>= λ manifests. optional text_of (codes "artifactType") d >>= λ artifact_type. optional (map_of text_of) (codes "annotations") d >>= λ annotations.
    Some (record { schema_version = schema_version; media_type = media_type; manifests = manifests; artifact_type = artifact_type; annotations = annotations })) missing
    ∙ nothing_behind _ _ OciImageIndex (required u8_of (codes "schemaVersion") d) (optional text_of (codes "mediaType") d)

no_manifest : (d : Data) → get (codes "config") d ≡ None → manifest_of d ≡ None
unfolding manifest_of
no_manifest d missing =
    ap (λ found. required u8_of (codes "schemaVersion") d >>= λ schema_version. optional text_of (codes "mediaType") d >>= λ media_type.
    (found >>= descriptor_of) >>= λ config. required (list_of descriptor_of) (codes "layers") d >>= λ layers. optional descriptor_of (codes "subject") d >>= λ subject.
    optional text_of (codes "artifactType") d >>= λ artifact_type. optional (map_of text_of) (codes "annotations") d >>= λ annotations.
    Some (record { schema_version = schema_version; media_type = media_type; config = config; layers = layers; subject = subject; artifact_type = artifact_type; annotations = annotations })) missing
    ∙ nothing_behind _ _ OciImageManifest (required u8_of (codes "schemaVersion") d) (optional text_of (codes "mediaType") d)

manifest_lacks : (x : OciImageManifest) → get (codes "manifests") (manifest_written x) ≡ None
unfolding manifest_written
manifest_lacks x = get-fields (codes "manifests") (manifest_fields x)

index_lacks : (x : OciImageIndex) → get (codes "config") (index_written x) ≡ None
unfolding index_written
index_lacks x = get-fields (codes "config") (index_fields x)

pub image_again : (x : OciImageManifest) (d : Data) → d ≡ manifest_written x → ReadsDocument (Ok x) manifest_of d → ReadsManifest (Ok (Image x)) d
unfolding document_of
image_again x d same again = (again.0, ap (λ m. one_of m (index_of d)) again.1 ∙ ap (one_of (Some x)) (no_index d (ap (get (codes "manifests")) same ∙ manifest_lacks x)))

pub image_index_again : (x : OciImageIndex) (d : Data) → d ≡ index_written x → ReadsDocument (Ok x) index_of d → ReadsManifest (Ok (ImageIndex x)) d
unfolding document_of
image_index_again x d same again = (again.0, ap (one_of (manifest_of d)) again.1 ∙ ap (λ m. one_of m (Some x)) (no_manifest d (ap (get (codes "config")) same ∙ index_lacks x)))
