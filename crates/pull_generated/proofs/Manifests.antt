-- What the texts of manifests parse as.
use Rattle.std.proofs.Common.{◌≡◌, ◌<◌, ◌≤◌, ◌^◌, ◌||◌, ◌&&◌, ℕ, pos, Bool, true, false, List, [], ◌∷◌, map, codes, Option, Some, None, Result, Ok, Err, option_map, option_and_then, max, refl, sym, ap, ◌∙◌, arith}
use Rattle.std.specs.Prelude.{decimal, nat_lt, not, is_some, if◌then◌else◌}
use Rattle.std.specs.FinMap as map_of
use Rattle.std.proofs.lemmas.Bool.{lt-ltb}
use Rattle.json.specs.Print.{IsNumber}
use Rattle.json.specs.Tree as tree
use Rattle.json.specs.Tree.{HasNumbers, ItemsHaveNumbers}
use Rattle.json.proofs.Printed.Decimals.{IsNumber-decimal}
use Rattle.serde_json.specs.Data.{Data, number, unsigned, string, array, object, Items, no_items, item, Members, no_members, member, put}
use Rattle.serde_json.specs.Read.{number_of, of_json, of_items}
use Rattle.serde_json.specs.Written.{outline, items_outline, has_float, items_have_float}
use Rattle.serde_json.proofs.Numbers.{number_of-decimal}
use Rattle.json_values.specs.JsonText.{json_of}
use Rattle.json_values.specs.Places.{by_bytes}
use Rattle.json_tables.specs.Reading.{◌>>=◌, items_by}
use Rattle.oci_manifests.specs.Descriptor.{descriptor_of}
use Rattle.oci_manifests.specs.Document.{document_of, one_of}
use Rattle.oci_manifests.specs.Index.{index_of}
use Rattle.oci_manifests.specs.Manifest.{manifest_of}
use Rattle.oci_manifests.specs.Versioned.{versioned_of}
use Rattle.oci_manifests.specs.declared.descriptor.OciDescriptor.{OciDescriptor}
use Rattle.oci_manifests.specs.declared.document.OciManifest.{OciManifest}
use Rattle.oci_manifests.specs.declared.document.OciManifest.TheVariants.{Image}
use Rattle.oci_manifests.specs.declared.index.OciImageIndex.{OciImageIndex}
use Rattle.oci_manifests.specs.declared.manifest.OciImageManifest.{OciImageManifest}
use Rattle.engine_answers.specs.Documents.{document_read, document_from, plain_of, version_checked, tables_read, or_unread}
use Rattle.json_values.specs.Refusals.{◌>>◌ as ◌and_then◌}
use Rattle.engine_terms.specs.declared.error.OciDistributionError.{OciDistributionError}
use Rattle.engine_terms.specs.declared.error.OciDistributionError.TheVariants as refusal
use Rattle.pull_generated.proofs.ImageTexts.{descriptor_data, items, manifest_data}

-- ---- descriptors

abbrev pub note_name : List ℕ
note_name = codes "dev.cosignproject.cosign/signature"

abbrev pub notes_data : Data
notes_data = object (member note_name (string (codes "c2lnMQ==")) no_members)

-- no annotations, or those of a signature
abbrev pub more_of : Bool → Members
more_of false = no_members
more_of true = member (codes "annotations") notes_data no_members

-- the members in the order of their names
abbrev pub plain_members : List ℕ → List ℕ → ℕ → Members
plain_members kind digest size = member (codes "digest") (string digest) (member (codes "mediaType") (string kind) (member (codes "size") (number (unsigned size)) no_members))

abbrev pub sorted_descriptor : Bool → List ℕ → List ℕ → ℕ → Data
sorted_descriptor false kind digest size = object (plain_members kind digest size)
sorted_descriptor true kind digest size = object (member (codes "annotations") notes_data (plain_members kind digest size))

pub descriptor_reads : (noted : Bool) (kind digest : List ℕ) (size : ℕ) → size < 2 ^ 64 → of_json (outline (descriptor_data kind digest size (more_of noted))) ≡ Some (sorted_descriptor noted kind digest size)
descriptor_reads false kind digest size small =
    ap (λ (o : Option Data). option_map object (option_and_then (λ d. Some (put (codes "size") d (put (codes "digest") (string digest) (put (codes "mediaType") (string kind) no_members)))) o)) (ap (option_map number) (number_of-decimal size small))
descriptor_reads true kind digest size small =
    ap (λ (o : Option Data). option_map object (option_and_then (λ d. Some (put (codes "annotations") notes_data (put (codes "size") d (put (codes "digest") (string digest) (put (codes "mediaType") (string kind) no_members))))) o)) (ap (option_map number) (number_of-decimal size small))

pub descriptor_numbers : (noted : Bool) (kind digest : List ℕ) (size : ℕ) → size < 2 ^ 63 → HasNumbers (outline (descriptor_data kind digest size (more_of noted)))
descriptor_numbers false kind digest size small = (tt, (tt, (IsNumber-decimal size (omega (arith, small)), tt)))
descriptor_numbers true kind digest size small = (tt, (tt, (IsNumber-decimal size (omega (arith, small)), ((tt, tt), tt))))

pub descriptor_shallow : (noted : Bool) (kind digest : List ℕ) (size : ℕ) → tree.depth (outline (descriptor_data kind digest size (more_of noted))) ≤ 2
descriptor_shallow false kind digest size = omega arith
descriptor_shallow true kind digest size = omega arith

pub descriptor_plain : (noted : Bool) (kind digest : List ℕ) (size : ℕ) → has_float (sorted_descriptor noted kind digest size) ≡ false
descriptor_plain false kind digest size = refl
descriptor_plain true kind digest size = refl

abbrev pub notes : map_of.FinMap by_bytes (List ℕ)
notes = map_of.insert map_of.empty note_name (codes "c2lnMQ==")

abbrev pub notes_of : Bool → Option (map_of.FinMap by_bytes (List ℕ))
notes_of false = None
notes_of true = Some notes

abbrev pub described : Bool → List ℕ → List ℕ → ℕ → OciDescriptor
described noted kind digest size = record { media_type = kind; digest = digest; size = pos size; urls = None; annotations = notes_of noted; artifact_type = None }

pub descriptor_is : (noted : Bool) (kind digest : List ℕ) (size : ℕ) → size < 2 ^ 63 → descriptor_of (sorted_descriptor noted kind digest size) ≡ Some (described noted kind digest size)
unfolding descriptor_of
descriptor_is false kind digest size small = ap (λ b. (if b then Some (pos size) else None) >>= (λ s. Some (record { media_type = kind; digest = digest; size = s; urls = None; annotations = None; artifact_type = None }))) (lt-ltb size (2 ^ 63) small)
descriptor_is true kind digest size small = ap (λ b. (if b then Some (pos size) else None) >>= (λ s. Some (record { media_type = kind; digest = digest; size = s; urls = None; annotations = Some notes; artifact_type = None }))) (lt-ltb size (2 ^ 63) small)

-- ---- lists of descriptors

-- the property holds for each
abbrev pub Each : {X : Type 0} → (X → Type 0) → List X → Type 0
Each P [] = Unit {0}
Each P (x ∷ xs) = P x × Each P xs

pub items_read : {X : Type 0} (P : X → Type 0) (g h : X → Data) → ((x : X) → P x → of_json (outline (g x)) ≡ Some (h x)) → (xs : List X) → Each P xs → of_items (items_outline (items (map g xs))) ≡ Some (items (map h xs))
items_read P g h reads [] each = refl
items_read P g h reads (x ∷ xs) each = rw (reads x each.0, items_read P g h reads xs each.1)

pub items_numbers : {X : Type 0} (P : X → Type 0) (g : X → Data) → ((x : X) → P x → HasNumbers (outline (g x))) → (xs : List X) → Each P xs → ItemsHaveNumbers (items_outline (items (map g xs)))
items_numbers P g numbers [] each = tt
items_numbers P g numbers (x ∷ xs) each = (numbers x each.0, items_numbers P g numbers xs each.1)

pub items_shallow : {X : Type 0} (g : X → Data) → ((x : X) → tree.depth (outline (g x)) ≤ 2) → (xs : List X) → tree.items_depth (items_outline (items (map g xs))) ≤ 2
items_shallow g shallow [] = omega arith
items_shallow g shallow (x ∷ xs) = let one = shallow x in let more = items_shallow g shallow xs in omega (arith, one, more)

pub items_plain : {X : Type 0} (h : X → Data) → ((x : X) → has_float (h x) ≡ false) → (xs : List X) → items_have_float (items (map h xs)) ≡ false
items_plain h plain [] = refl
items_plain h plain (x ∷ xs) = ap (λ b. b || items_have_float (items (map h xs))) (plain x) ∙ items_plain h plain xs

pub items_are : {X : Type 0} (P : X → Type 0) (h : X → Data) (f : X → OciDescriptor) → ((x : X) → P x → descriptor_of (h x) ≡ Some (f x)) → (xs : List X) → Each P xs → items_by descriptor_of (items (map h xs)) ≡ Some (map f xs)
items_are P h f is [] each = refl
items_are P h f is (x ∷ xs) each = rw (is x each.0, items_are P h f is xs each.1)

-- ---- manifests

abbrev oci_type : List ℕ
oci_type = codes "application/vnd.oci.image.manifest.v1+json"

abbrev pub sorted_manifest : Data → Items → Data
sorted_manifest config layers = object (member (codes "config") config (member (codes "layers") (array layers) (member (codes "mediaType") (string oci_type) (member (codes "schemaVersion") (number (unsigned 2)) no_members))))

abbrev begun : Members
begun = member (codes "mediaType") (string oci_type) (member (codes "schemaVersion") (number (unsigned 2)) no_members)

pub manifest_reads : (config : Data) (layers : List Data) (c : Data) (ls : Items) → of_json (outline config) ≡ Some c → of_items (items_outline (items layers)) ≡ Some ls → of_json (outline (manifest_data config layers)) ≡ Some (sorted_manifest c ls)
manifest_reads config layers c ls hc hl =
    ap (λ (o : Option Data). option_map object (option_and_then (λ v. option_and_then (λ d. option_and_then (λ l. Some (put (codes "layers") l (put (codes "config") d (put (codes "mediaType") (string oci_type) (put (codes "schemaVersion") v no_members))))) (option_map array (of_items (items_outline (items layers))))) (of_json (outline config))) o)) (ap (option_map number) (number_of-decimal 2 (omega arith)))
    ∙ ap (λ (o : Option Data). option_map object (option_and_then (λ d. option_and_then (λ l. Some (put (codes "layers") l (put (codes "config") d begun))) (option_map array (of_items (items_outline (items layers))))) o)) hc
    ∙ ap (λ (o : Option Items). option_map object (option_and_then (λ l. Some (put (codes "layers") l (put (codes "config") c begun))) (option_map array o))) hl

abbrev pub manifest_with : OciDescriptor → List OciDescriptor → OciImageManifest
manifest_with config layers = record { schema_version = 2; media_type = Some oci_type; config = config; layers = layers; subject = None; artifact_type = None; annotations = None }

manifest_is : (c : Data) (ls : Items) (config : OciDescriptor) (layers : List OciDescriptor) → descriptor_of c ≡ Some config → items_by descriptor_of ls ≡ Some layers → manifest_of (sorted_manifest c ls) ≡ Some (manifest_with config layers)
unfolding manifest_of
manifest_is c ls config layers hc hl =
    ap (λ (o : Option OciDescriptor). o >>= (λ config. items_by descriptor_of ls >>= (λ layers. Some (manifest_with config layers)))) hc
    ∙ ap (λ (o : Option (List OciDescriptor)). o >>= (λ layers. Some (manifest_with config layers))) hl

no_index : (c : Data) (ls : Items) → index_of (sorted_manifest c ls) ≡ None
unfolding index_of
no_index c ls = refl

abbrev tables_by : List ℕ → Option OciImageManifest → Option OciImageIndex → Result OciManifest OciDistributionError
tables_by body m i = if is_some m && is_some i then Err (refusal.AmbiguousManifest body) else or_unread body (one_of m i)

tables_are : (body : List ℕ) (d : Data) (manifest : OciImageManifest) → manifest_of d ≡ Some manifest → index_of d ≡ None → tables_read body (Some d) ≡ Ok (Image manifest)
unfolding document_of
tables_are body d manifest hm hi = ap (λ (m : Option OciImageManifest). tables_by body m (index_of d)) hm ∙ ap (tables_by body (Some manifest)) hi

plain_is : (c : Data) (ls : Items) → has_float c ≡ false → items_have_float ls ≡ false → plain_of (Some (sorted_manifest c ls)) ≡ Some (sorted_manifest c ls)
plain_is c ls fc fl =
    ap (λ b. if not (b || (items_have_float ls || (false || (false || false)))) then Some (sorted_manifest c ls) else None) fc
    ∙ ap (λ b. if not (false || (b || (false || (false || false)))) then Some (sorted_manifest c ls) else None) fl

version_is : (body : List ℕ) (c : Data) (ls : Items) → version_checked body (versioned_of (sorted_manifest c ls)) ≡ Ok tt
unfolding versioned_of
version_is body c ls = refl

pub manifest_read : (body : List ℕ) (c : Data) (ls : Items) (config : OciDescriptor) (layers : List OciDescriptor) → json_of body ≡ Some (sorted_manifest c ls) → has_float c ≡ false → items_have_float ls ≡ false → descriptor_of c ≡ Some config → items_by descriptor_of ls ≡ Some layers → document_read body ≡ Ok (Image (manifest_with config layers))
manifest_read body c ls config layers said fc fl hc hl =
    let d = sorted_manifest c ls in
    ap (document_from body) said
    ∙ ap (λ (o : Option Data). version_checked body (option_and_then versioned_of o) and_then tables_read body o) (plain_is c ls fc fl)
    ∙ ap (λ (r : Result (Unit {0}) OciDistributionError). r and_then tables_read body (Some d)) (version_is body c ls)
    ∙ tables_are body d (manifest_with config layers) (manifest_is c ls config layers hc hl) (no_index c ls)
