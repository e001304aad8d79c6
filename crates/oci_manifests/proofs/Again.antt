-- Written manifests and indexes round-trip.
use Rattle.std.proofs.Common.{◌≡◌, ℕ, List, false, Option, Some, None, option_map, refl}
use Rattle.serde_json.specs.Data.{Data, string, number, unsigned}
use Rattle.serde_json.specs.Find.{get, of_integer}
use Rattle.json_values.specs.Writing.{listed, map_written}
use Rattle.json_tables.specs.Reading.{text_of, u8_of, i64_of, list_of, map_of}
use Rattle.json_tables.specs.Member.{present, unless_null}
use Rattle.json_tables.specs.Fields.{fields}
use Rattle.json_tables.specs.Again.{ReadsAgain, MemberReadsAgain}
use Rattle.json_tables.proofs.Members.{among, or_else, or_else-none, get-fields, fields_plain}
use Rattle.oci_manifests.specs.declared.descriptor.OciDescriptor.{OciDescriptor}
use Rattle.oci_manifests.specs.declared.index_entry.ImageIndexEntry.{ImageIndexEntry}
use Rattle.oci_manifests.specs.declared.manifest.OciImageManifest.{OciImageManifest}
use Rattle.oci_manifests.specs.declared.index.OciImageIndex.{OciImageIndex}
use Rattle.oci_manifests.specs.Descriptor.{descriptor_of, descriptor_written}
use Rattle.oci_manifests.specs.IndexEntry.{entry_of, entry_written}
use Rattle.oci_manifests.proofs.MembersAgain.{Optional, Present}
use Rattle.oci_manifests.specs.Manifest.{manifest_of, manifest_fields, manifest_written}
use Rattle.oci_manifests.specs.Index.{index_of, index_fields, index_written}

manifest_reads : (x : OciImageManifest) (d : Data) → ((q : List ℕ) → get q d ≡ among q (manifest_fields x) None)
    → u8_of (number (unsigned x.schema_version)) ≡ Some x.schema_version
    → unless_null text_of (option_map string x.media_type) ≡ Some x.media_type
    → descriptor_of (descriptor_written x.config) ≡ Some x.config
    → list_of descriptor_of (listed descriptor_written x.layers) ≡ Some x.layers
    → unless_null descriptor_of (option_map descriptor_written x.subject) ≡ Some x.subject
    → unless_null text_of (option_map string x.artifact_type) ≡ Some x.artifact_type
    → unless_null (map_of text_of) (option_map (map_written string) x.annotations) ≡ Some x.annotations
    → manifest_of d ≡ Some x
unfolding manifest_of
manifest_reads x d found schema_version media_type config layers subject artifact_type annotations = simp (found, or_else-none, schema_version, media_type, config, layers, subject, artifact_type, annotations)

pub manifest_again : (x : OciImageManifest) → Present u8_of (λ n. number (unsigned n)) x.schema_version → Optional text_of string x.media_type → Present descriptor_of descriptor_written x.config → Present (list_of descriptor_of) (listed descriptor_written) x.layers → Optional descriptor_of descriptor_written x.subject → Optional text_of string x.artifact_type → Optional (map_of text_of) (map_written string) x.annotations
    → ReadsAgain manifest_of (manifest_written x) x false
unfolding manifest_written
manifest_again x schema_version media_type config layers subject artifact_type annotations = record {
  reads = manifest_reads x _ (λ q. get-fields q (manifest_fields x)) schema_version.reads media_type.reads config.reads layers.reads subject.reads artifact_type.reads annotations.reads;
  is_there = refl;
  plain = λ _. fields_plain (manifest_fields x) (simp (schema_version.plain refl, media_type.plain refl, config.plain refl, layers.plain refl, subject.plain refl, artifact_type.plain refl, annotations.plain refl));
}

index_reads : (x : OciImageIndex) (d : Data) → ((q : List ℕ) → get q d ≡ among q (index_fields x) None)
    → u8_of (number (unsigned x.schema_version)) ≡ Some x.schema_version
    → unless_null text_of (option_map string x.media_type) ≡ Some x.media_type
    → list_of entry_of (listed entry_written x.manifests) ≡ Some x.manifests
    → unless_null text_of (option_map string x.artifact_type) ≡ Some x.artifact_type
    → unless_null (map_of text_of) (option_map (map_written string) x.annotations) ≡ Some x.annotations
    → index_of d ≡ Some x
unfolding index_of
index_reads x d found schema_version media_type manifests artifact_type annotations = simp (found, or_else-none, schema_version, media_type, manifests, artifact_type, annotations)

pub index_again : (x : OciImageIndex) → Present u8_of (λ n. number (unsigned n)) x.schema_version → Optional text_of string x.media_type → Present (list_of entry_of) (listed entry_written) x.manifests → Optional text_of string x.artifact_type → Optional (map_of text_of) (map_written string) x.annotations
    → ReadsAgain index_of (index_written x) x false
unfolding index_written
index_again x schema_version media_type manifests artifact_type annotations = record {
  reads = index_reads x _ (λ q. get-fields q (index_fields x)) schema_version.reads media_type.reads manifests.reads artifact_type.reads annotations.reads;
  is_there = refl;
  plain = λ _. fields_plain (index_fields x) (simp (schema_version.plain refl, media_type.plain refl, manifests.plain refl, artifact_type.plain refl, annotations.plain refl));
}
