-- The generated shelf is a valid one for its pull, which returns the image or runs out of memory.
use Rattle.std.proofs.Common.{◌≡◌, ◌≤◌, ℕ, Bool, true, false, inl, cond, ◌||◌, ◌&&◌, List, [], ◌∷◌, ◌++◌, codes, length, Option, Some, None, Result, Ok, Err, IsTrue, unwrap_or, refl, sym, ap, subst, ◌∙◌, arith}
use Rattle.std.specs.Prelude.{find}
use Rattle.std.specs.List.{list_any, list_all}
use Rattle.std.specs.FinMap as map
use Rattle.std.specs.FinMap.{get, entries, empty, len-entries, len-empty}
use Rattle.std.proofs.lemmas.List.Elements.{All-nil, All-cons}
use Rattle.hex.specs.Hex.{encode_lower}
use Rattle.sha2.specs.Sha256.{sha256}
use Rattle.std.specs.Fmt.{digits}
use Rattle.percent_encoding.specs.Percent.{percent_decode, percent_encode, percent_encode_byte}
use Rattle.percent_encoding.specs.AsciiSet.{should_percent_encode}
use Rattle.url.specs.Head.{head_parts}
use Rattle.url.specs.Host.{ascii_domain, parse_special_host}
use Rattle.url.specs.Input.{trim_c0_control_and_space, strip_tabs_and_new_lines, split_once, rsplit_once}
use Rattle.url.specs.Ipv4.{ends_in_a_number, parse_number}
use Rattle.url.specs.Parser.{host_len, parse_port, parse_authority, leading_slashes, after_double_slash, parse_body, parse_parts, split_scheme, parse_url}
use Rattle.url.specs.Path.{dot_count, is_windows_drive_letter, push_segment, parse_segments, parse_path_start}
use Rattle.url.specs.Scheme.{default_port, scheme_type, scheme_len}
use Rattle.url.specs.Parts.{Parts, serialize}
use Rattle.url.specs.declared.host.Host.TheVariants.{Domain}
use Rattle.json_values.specs.Places.{by_bytes}
use Rattle.oci_digests.specs.Names.{names}
use Rattle.oci_names.specs.declared.algorithm.Algorithm.TheVariants.{Sha256}
use Rattle.oci_digests.proofs.Equal.{named}
use Rattle.oci_names.specs.Reference.{reads_back}
use Rattle.oci_auth.specs.declared.auth.RegistryAuth.TheVariants.{Anonymous}
use Rattle.oci_manifests.specs.declared.blob.ImageLayer.{ImageLayer}
use Rattle.oci_manifests.specs.declared.descriptor.OciDescriptor.{OciDescriptor}
use Rattle.oci_transport.specs.Urls.{request_url}
use Rattle.oci_link.specs.Leads.{entry_leads, redirects_lead}
use Rattle.engine_rows.specs.Image.{layer_of}
use Rattle.shelf_laws.specs.IsHosted.{IsWrittenPlainly, base_of}
use Rattle.shelf_laws.specs.Shelves.{layer_on, layers_on}
use Rattle.shelf_laws.proofs.DigestTags.{dashed_text}
use Rattle.serde_json.specs.Data.{null}
use Rattle.cosign_layers.specs.Constraint.{accepts, has_text_member}
use Rattle.cosign_layers.specs.Satisfying.{PolicyContext, CustomVerdict, StandsFor, SatisfiesPolicy, Signed, text_of}
use Rattle.cosign_layers.specs.declared.constraint.Constraint.{Constraint}
use Rattle.cosign_parts.specs.declared.layer.SignatureLayer.{SignatureLayer}
use Rattle.cosign_layers.proofs.Layers.{gives}
use Rattle.cosign_rows.specs.Part.{named_layer, read_layer}
use Rattle.cosign_rows.specs.References.{signature_tag}
use Rattle.cosign_laws.specs.Shelves.{IsAsked, HasSatisfyingLayer, SignedByTag, ValidShelf, read_on, digest_on}
use Rattle.pull_generated.specs.Shelf.{tag_for, payload_of, generated_shelf, HasTwoDigests}
use Rattle.pull_generated.specs.Texts.{sha256_text, image_text, payload_type, signatures_text}
use Rattle.pull_generated.proofs.Layer.{input_of, layer_for, layer_is, spells}
use Rattle.pull_generated.proofs.ManifestTexts.{describing, signatures_manifest}
use Rattle.pull_generated.proofs.ShelfContents.{image_on, has_signatures, payload_blobs, payload_there, tagged, signatures_tagged, is_short}
use Rattle.pull_generated.specs.Terms.{generated_settings, generated_reference, generated_types, any_layer, generated_trust, meaning_with}

-- ---- the reference and the registry

reads_itself : reads_back generated_reference ≡ true
reads_itself = refl

abbrev registry_url : Parts
registry_url = record { scheme = codes "http"; username = []; password = []; host = Some (Domain (codes "localhost")); port = Some 5000; path = codes "/"; query = None; fragment = None }

registry_reads : request_url (codes "http://localhost:5000") ≡ Some registry_url
unfolding request_url parse_url split_scheme scheme_len split_once strip_tabs_and_new_lines trim_c0_control_and_space parse_parts parse_body scheme_type default_port after_double_slash leading_slashes parse_authority host_len parse_port rsplit_once parse_special_host ascii_domain percent_decode ends_in_a_number parse_number head_parts dot_count is_windows_drive_letter push_segment parse_segments parse_path_start should_percent_encode percent_encode percent_encode_byte
registry_reads = refl

registry_written : serialize registry_url ≡ codes "http://localhost:5000/"
unfolding digits
registry_written = refl

written : IsWrittenPlainly generated_settings (codes "localhost:5000")
written = record { url = registry_url; reads = registry_reads; text = registry_written }

-- an empty map has no entries
none_of : {A : Type 0} (xs : List A) → length xs ≡ 0 → xs ≡ []
none_of [] h = refl
none_of (x ∷ xs) h = absurd (omega (arith, h))

no_entries : (A : Type 0) → entries (empty {X = A} {R = by_bytes}) ≡ []
no_entries A = none_of (entries (empty {X = A} {R = by_bytes})) (sym (len-entries (empty {X = A} {R = by_bytes})) ∙ len-empty by_bytes A)

pub lead : (n : ℕ) → IsTrue (redirects_lead (generated_shelf n))
unfolding redirects_lead generated_shelf
lead n = ap (list_all (entry_leads empty)) (no_entries (List ℕ))

repository : (n : ℕ) → generated_reference.repository ≡ (generated_shelf n).repository
unfolding generated_shelf
repository n = refl

asked : (n : ℕ) → IsAsked generated_settings generated_reference Anonymous (generated_shelf n)
asked n = record {
  reads_back_is = reads_itself;
  repository_is = repository n;
  written = written;
  agent = refl;
  credentials = tt;
  lead = lead n;
}

-- ---- the layer that satisfies the policy

names_itself : (bytes : List ℕ) → names (sha256_text bytes) bytes ≡ true
names_itself bytes = (named (sha256_text bytes) bytes).1 (Sha256, refl)

abbrev payload_descriptor : ℕ → OciDescriptor
payload_descriptor n = describing true payload_type (payload_of n)

read_is : (n : ℕ) → read_on (generated_trust n) (sha256_text (image_text n)) (generated_shelf n) (signatures_manifest (payload_of n)) (payload_descriptor n) ≡ Ok (layer_for (image_text n))
read_is n =
    let x = payload_descriptor n in
    let p = payload_of n in
    let d = sha256_text (image_text n) in
    ap (λ (o : Option (List ℕ)). read_layer (generated_trust n) d x (named_layer (sha256_text p) (layer_of x (unwrap_or o []) ∷ []))) (payload_there n)
    ∙ ap (λ b. read_layer (generated_trust n) d x (cond b (Some (layer_of x p)) None)) (names_itself p)
    ∙ layer_is (generated_trust n) (image_text n)

no_annotations : {V : Type 0} {H : V → Type 0} (own : CustomVerdict V H) (image : List ℕ) → IsTrue (accepts own any_layer (layer_for image))
no_annotations own image = ap (list_all (has_text_member null)) (no_entries (List ℕ))

stands : {V : Type 0} {H : V → Type 0} (own : CustomVerdict V H) (n : ℕ) → StandsFor (meaning_with own n) (sha256_text (image_text n)) (layer_for (image_text n))
stands {V} {H} own n =
    let layer = layer_for (image_text n) in
    let m : PolicyContext V H = meaning_with own n in
    let g = gives (generated_trust n) (sha256_text (image_text n)) (input_of (image_text n)) (Ok layer) (layer_is (generated_trust n) (image_text n)) in
    record {
      layer_of = g.layer_of;
      is_named = g.is_named;
      constrained = omega arith;
      supports = record {
        signed = record { bytes = codes "sig1"; spells = spells; under = (0, codes "k1", omega arith, refl, ap (λ b. (true && b) || false) (names_itself (payload_of n))) };
        accepted = All-cons (λ c. IsTrue (accepts own c layer)) any_layer [] (no_annotations own (image_text n)) (All-nil (λ c. IsTrue (accepts own c layer)));
      };
    }

signed : {V : Type 0} {H : V → Type 0} (own : CustomVerdict V H) (n : ℕ) → n ≤ 1000 → HasTwoDigests n → SignedByTag (meaning_with own n) (sha256_text (image_text n)) (generated_shelf n)
signed own n small two = record {
  signatures = sha256_text (signatures_text (payload_of n));
  tagged = ap (λ (t : List ℕ). get (generated_shelf n).tags (t ++ codes ".sig")) (dashed_text Sha256 (image_text n)) ∙ signatures_tagged n;
  manifest = signatures_manifest (payload_of n);
  there = has_signatures n two;
  payloads = payload_blobs n small;
  standing = record {
    descriptor = payload_descriptor n;
    listed = (0, omega arith, refl);
    layer = layer_for (image_text n);
    reads = read_is n;
    stands_for = stands own n;
  };
}

pub valid : {V : Type 0} {H : V → Type 0} (own : CustomVerdict V H) (n : ℕ) → 1 ≤ n → n ≤ 1000 → HasTwoDigests n → ValidShelf (meaning_with own n) generated_settings generated_reference Anonymous generated_types (generated_shelf n)
unfolding signed
valid own n one small two = record {
  asked = asked n;
  digest = sha256_text (image_text n);
  named = tagged n;
  sha256 = (encode_lower (sha256 (image_text n)), refl);
  image_on = image_on generated_settings n one small;
  signed = signed own n small two;
  no_entry = refl;
  no_certificate = refl;
  short = is_short generated_settings n small (omega arith);
}
