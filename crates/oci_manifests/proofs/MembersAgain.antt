-- Written descriptors and index entries round-trip.
use Rattle.std.proofs.Common.{◌≡◌, ℕ, List, false, Option, Some, None, option_map, refl}
use Rattle.serde_json.specs.Data.{Data, string, number, unsigned}
use Rattle.serde_json.specs.Find.{get, of_integer}
use Rattle.json_values.specs.Writing.{listed, map_written}
use Rattle.json_tables.specs.Reading.{text_of, u8_of, i64_of, list_of, map_of}
use Rattle.json_tables.specs.Member.{present, unless_null}
use Rattle.json_tables.specs.Fields.{fields}
use Rattle.json_tables.specs.Again.{ReadsAgain, MemberReadsAgain}
use Rattle.json_tables.proofs.Members.{among, or_else, or_else-none, get-fields, fields_plain}
use Rattle.oci_manifests.specs.declared.descriptor.OciDescriptor.{OciDescriptor}
use Rattle.oci_manifests.specs.declared.platform.Platform.{Platform}
use Rattle.oci_manifests.specs.declared.index_entry.ImageIndexEntry.{ImageIndexEntry}
use Rattle.oci_manifests.specs.Descriptor.{descriptor_of, descriptor_fields, descriptor_written}
use Rattle.oci_manifests.specs.Platform.{platform_of, platform_fields, platform_written}
use Rattle.oci_manifests.specs.IndexEntry.{entry_of, entry_fields, entry_written}

-- an option that round-trips, and its data
abbrev pub Optional : {X : Type 0} → (Data → Option X) → (X → Data) → Option X → Type 0
Optional f w x = MemberReadsAgain (unless_null f) (option_map w x) x false

abbrev pub Present : {X : Type 0} → (Data → Option X) → (X → Data) → X → Type 0
Present f w x = MemberReadsAgain (present f) (Some (w x)) x false

descriptor_reads : (x : OciDescriptor) (d : Data) → ((q : List ℕ) → get q d ≡ among q (descriptor_fields x) None)
    → i64_of (number (of_integer x.size)) ≡ Some x.size
    → unless_null (list_of text_of) (option_map (listed string) x.urls) ≡ Some x.urls
    → unless_null (map_of text_of) (option_map (map_written string) x.annotations) ≡ Some x.annotations
    → unless_null text_of (option_map string x.artifact_type) ≡ Some x.artifact_type
    → descriptor_of d ≡ Some x
unfolding descriptor_of
descriptor_reads x d found size urls annotations artifact_type = simp (found, or_else-none, size, urls, annotations, artifact_type)

pub descriptor_again : (x : OciDescriptor) → Present i64_of (λ z. number (of_integer z)) x.size → Optional (list_of text_of) (listed string) x.urls → Optional (map_of text_of) (map_written string) x.annotations → Optional text_of string x.artifact_type
    → ReadsAgain descriptor_of (descriptor_written x) x false
unfolding descriptor_written
descriptor_again x size urls annotations artifact_type = record {
  reads = descriptor_reads x _ (λ q. get-fields q (descriptor_fields x)) size.reads urls.reads annotations.reads artifact_type.reads;
  is_there = refl;
  plain = λ _. fields_plain (descriptor_fields x) (simp (size.plain refl, urls.plain refl, annotations.plain refl, artifact_type.plain refl));
}

platform_reads : (x : Platform) (d : Data) → ((q : List ℕ) → get q d ≡ among q (platform_fields x) None)
    → unless_null text_of (option_map string x.os_version) ≡ Some x.os_version
    → unless_null (list_of text_of) (option_map (listed string) x.os_features) ≡ Some x.os_features
    → unless_null text_of (option_map string x.variant) ≡ Some x.variant
    → unless_null (list_of text_of) (option_map (listed string) x.features) ≡ Some x.features
    → platform_of d ≡ Some x
unfolding platform_of
platform_reads x d found os_version os_features variant features = simp (found, or_else-none, os_version, os_features, variant, features)

pub platform_again : (x : Platform) → Optional text_of string x.os_version → Optional (list_of text_of) (listed string) x.os_features → Optional text_of string x.variant → Optional (list_of text_of) (listed string) x.features
    → ReadsAgain platform_of (platform_written x) x false
unfolding platform_written
platform_again x os_version os_features variant features = record {
  reads = platform_reads x _ (λ q. get-fields q (platform_fields x)) os_version.reads os_features.reads variant.reads features.reads;
  is_there = refl;
  plain = λ _. fields_plain (platform_fields x) (simp (os_version.plain refl, os_features.plain refl, variant.plain refl, features.plain refl));
}

entry_reads : (x : ImageIndexEntry) (d : Data) → ((q : List ℕ) → get q d ≡ among q (entry_fields x) None)
    → i64_of (number (of_integer x.size)) ≡ Some x.size
    → unless_null platform_of (option_map platform_written x.platform) ≡ Some x.platform
    → unless_null (map_of text_of) (option_map (map_written string) x.annotations) ≡ Some x.annotations
    → unless_null text_of (option_map string x.artifact_type) ≡ Some x.artifact_type
    → entry_of d ≡ Some x
unfolding entry_of
entry_reads x d found size platform annotations artifact_type = simp (found, or_else-none, size, platform, annotations, artifact_type)

pub entry_again : (x : ImageIndexEntry) → Present i64_of (λ z. number (of_integer z)) x.size → Optional platform_of platform_written x.platform → Optional (map_of text_of) (map_written string) x.annotations → Optional text_of string x.artifact_type
    → ReadsAgain entry_of (entry_written x) x false
unfolding entry_written
entry_again x size platform annotations artifact_type = record {
  reads = entry_reads x _ (λ q. get-fields q (entry_fields x)) size.reads platform.reads annotations.reads artifact_type.reads;
  is_there = refl;
  plain = λ _. fields_plain (entry_fields x) (simp (size.plain refl, platform.plain refl, annotations.plain refl, artifact_type.plain refl));
}
