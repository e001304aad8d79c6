-- The contents of a document that was read.
use Rattle.std.proofs.Common.{◌≡◌, ℕ, Bool, true, false, List, Option, Some, None, Result, Ok, Err, refl, ap, ◌∙◌}
use Rattle.std.specs.Prelude.{if◌then◌else◌, option_map, option_and_then, unwrap_or, pos}
use Rattle.std.specs.Ordering.{int_eq}
use Rattle.serde_json.specs.Data.{Data}
use Rattle.json_values.specs.JsonText.{json_of, is_plain}
use Rattle.oci_manifests.specs.Types.{is_manifest_type}
use Rattle.oci_manifests.specs.Versioned.{versioned_of, is_known_version, IsVersioned}
use Rattle.oci_manifests.specs.Document.{document_of}
use Rattle.oci_manifests.specs.declared.versioned.Versioned.{Versioned}
use Rattle.oci_manifests.specs.declared.document.OciManifest.{OciManifest}
use Rattle.oci_manifests.specs.declared.document.OciManifest.TheVariants.{Image, ImageIndex}
use Rattle.oci_manifests.specs.declared.manifest.OciImageManifest.{OciImageManifest}
use Rattle.engine_terms.specs.declared.error.OciDistributionError.{OciDistributionError}
use Rattle.engine_terms.specs.declared.error.OciDistributionError.TheVariants as refusal
use Rattle.json_values.specs.Refusals.{◌>>=◌}
use Rattle.engine_answers.specs.Documents.{plain_of, type_checked, version_checked, versioned_in, or_unread, reads_twice, tables_read, document_read}
use Rattle.engine_answers.specs.Index.{entry_manifest}
use Rattle.cosign_chain.specs.Chain.{IsDocument}

-- both steps succeeded
pub both : {A B : Type 0} (r : Result A OciDistributionError) (f : A → Result B OciDistributionError) (b : B) → (r >>= f) ≡ Ok b → (a : A) × (r ≡ Ok a) × (f a ≡ Ok b)
both (Ok a) f b is = (a, refl, is)
both (Err e) f b is = absurd (cc is)

type_known : (kind : Option (List ℕ)) (u : Unit) → type_checked kind ≡ Ok u → unwrap_or (option_map is_manifest_type kind) true ≡ true
type_known None u is = refl
type_known (Some kind) u is = by_test (is_manifest_type kind) refl is where
  by_test : (b : Bool) → is_manifest_type kind ≡ b → (let r : Result Unit OciDistributionError = if b then Ok tt else Err (refusal.UnsupportedMediaTypeError kind) in r) ≡ Ok u → is_manifest_type kind ≡ true
  by_test true same h = same
  by_test false same h = absurd (cc h)

version_known : (body : List ℕ) (v : Option Versioned) (u : Unit) → version_checked body v ≡ Ok u → unwrap_or (option_map is_known_version v) false ≡ true
version_known body None u is = absurd (cc is)
version_known body (Some v) u is = by_test (int_eq v.schema_version (pos 2)) refl is where
  by_test : (b : Bool) → int_eq v.schema_version (pos 2) ≡ b → (if b then type_checked v.media_type else Err (refusal.UnsupportedSchemaVersionError v.schema_version)) ≡ Ok u → is_known_version v ≡ true
  by_test true same h = rw (same, type_known v.media_type u h) refl
  by_test false same h = absurd (cc h)

-- the data of a text whose version was checked
versioned : (body : List ℕ) (o : Option Data) (u : Unit) → version_checked body (versioned_in o) ≡ Ok u → (d : Data) × (o ≡ Some d) × (is_plain d ≡ true) × IsVersioned d
versioned body None u is = absurd (cc (version_known body None u is))
versioned body (Some d) u is = by_test (is_plain d) refl is where
  by_test : (b : Bool) → is_plain d ≡ b → version_checked body (option_and_then versioned_of (if b then Some d else None)) ≡ Ok u → (e : Data) × (Some d ≡ Some e) × (is_plain e ≡ true) × IsVersioned e
  by_test true plain h = (d, refl, plain, rw (plain, version_known body (versioned_of d) u h) refl)
  by_test false plain h = absurd (cc (version_known body None u h))

read_one : (body : List ℕ) (o : Option OciManifest) (document : OciManifest) → or_unread body o ≡ Ok document → o ≡ Some document
read_one body None document is = absurd (cc is)
read_one body (Some found) document is = let same : found ≡ document = cc is in ap Some same

table : (body : List ℕ) (d : Data) (document : OciManifest) → is_plain d ≡ true → tables_read body (plain_of (Some d)) ≡ Ok document → document_of d ≡ Some document
table body d document plain is = by_plain (rw plain at is) where
  by_test : (b : Bool) → (if b then Err (refusal.AmbiguousManifest body) else or_unread body (document_of d)) ≡ Ok document → document_of d ≡ Some document
  by_test true h = absurd (cc h)
  by_test false h = read_one body (document_of d) document h

  by_plain : tables_read body (Some d) ≡ Ok document → document_of d ≡ Some document
  by_plain h = by_test (reads_twice d) h

-- the document in the bytes
pub document_is : (body : List ℕ) (document : OciManifest) → document_read body ≡ Ok document → IsDocument body document
document_is body document read =
    let parts = both (version_checked body (versioned_in (json_of body))) (λ u. tables_read body (plain_of (json_of body))) document read in
    let v = versioned body (json_of body) parts.0 parts.1 in
    record {
      value = v.0;
      json = v.1;
      versioned = v.3;
      reads = table body v.0 document v.2 (rw v.1 at parts.2);
    }

-- the manifest in an entry's document
pub entry_is : (entry : List ℕ) (document : OciManifest) (manifest : OciImageManifest) → entry_manifest entry document ≡ Ok manifest → document ≡ Image manifest
entry_is entry (Image found) manifest is = let same : found ≡ manifest = cc is in ap Image same
entry_is entry (ImageIndex index) manifest is = absurd (cc is)
