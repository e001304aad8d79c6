-- The reference, the registry's URL, and the policy.
use Rattle.std.proofs.Common.{◌≡◌, ℕ, true, false, ◌||◌, ◌&&◌, List, [], codes, Option, Some, None, Ok, IsTrue, refl, sym, ap, ◌∙◌, arith}
use Rattle.std.specs.List.{list_all}
use Rattle.std.specs.FinMap as map
use Rattle.std.specs.FinMap.{entries, empty, len-entries, len-empty}
use Rattle.std.proofs.lemmas.List.{nil_from_length}
use Rattle.std.proofs.lemmas.List.Elements.{All-nil, All-cons}
use Rattle.std.specs.Fmt.{digits}
use Rattle.percent_encoding.specs.Percent.{percent_decode, percent_encode, percent_encode_byte}
use Rattle.percent_encoding.specs.AsciiSet.{should_percent_encode}
use Rattle.url.specs.Head.{head_parts}
use Rattle.url.specs.Host.{ascii_domain, parse_special_host}
use Rattle.url.specs.Input.{trim_c0_control_and_space, strip_tabs_and_new_lines, split_once, rsplit_once}
use Rattle.url.specs.Ipv4.{ends_in_a_number, parse_number}
use Rattle.url.specs.Parser.{host_len, parse_port, parse_authority, leading_slashes, after_double_slash, parse_body, parse_parts, split_scheme, parse_url}
use Rattle.url.specs.Path.{dot_count, is_windows_drive_letter, push_segment, parse_segments, parse_path_start}
use Rattle.url.specs.Scheme.{default_port, scheme_type, scheme_len}
use Rattle.url.specs.Parts.{Parts, serialize}
use Rattle.url.specs.declared.host.Host.TheVariants.{Domain}
use Rattle.json_values.specs.Places.{by_bytes}
use Rattle.oci_names.specs.Reference.{reads_back}
use Rattle.oci_names.specs.declared.algorithm.Algorithm.TheVariants.{Sha256}
use Rattle.oci_digests.specs.Names.{digest_text}
use Rattle.oci_manifests.specs.declared.promise.ResolverPromise.{ResolverPromise}
use Rattle.oci_transport.specs.Urls.{request_url}
use Rattle.shelf_laws.specs.IsHosted.{IsWrittenPlainly}
use Rattle.cosign_parts.specs.Envelope.{signed_text}
use Rattle.cosign_parts.specs.Items.{has_no_item}
use Rattle.cosign_parts.specs.declared.layer.LayerKind.{LayerKind}
use Rattle.cosign_parts.specs.declared.layer.SimpleSigning.{SimpleSigning}
use Rattle.cosign_parts.specs.Shown.{Notes}
use Rattle.cosign_layers.specs.Checks.{input, layer_read}
use Rattle.cosign_layers.specs.Constraint.{accepts, has_annotations, has_text_member}
use Rattle.cosign_layers.specs.Satisfying.{StandsFor}
use Rattle.cosign_layers.specs.declared.constraint.Constraint.{Constraint}
use Rattle.cosign_layers.specs.declared.constraint.Constraint.TheVariants.{Annotations}
use Rattle.cosign_layers.proofs.Layers.{gives}
use Rattle.valid_shelves.specs.Examples.{settings, reference, context, trusting}
use Rattle.valid_shelves.proofs.Layers.{signed_layer, spells, names_itself}

pub reads_itself : reads_back reference ≡ true
reads_itself = refl

abbrev registry_url : Parts
registry_url = record { scheme = codes "http"; username = []; password = []; host = Some (Domain (codes "localhost")); port = Some 5000; path = codes "/"; query = None; fragment = None }

registry_reads : request_url (codes "http://localhost:5000") ≡ Some registry_url
unfolding request_url parse_url split_scheme scheme_len split_once strip_tabs_and_new_lines trim_c0_control_and_space parse_parts parse_body scheme_type default_port after_double_slash leading_slashes parse_authority host_len parse_port rsplit_once parse_special_host ascii_domain percent_decode ends_in_a_number parse_number head_parts dot_count is_windows_drive_letter push_segment parse_segments parse_path_start should_percent_encode percent_encode percent_encode_byte
registry_reads = refl

registry_written : serialize registry_url ≡ codes "http://localhost:5000/"
unfolding digits
registry_written = refl

pub written : (resolver : Option ResolverPromise) → IsWrittenPlainly (settings resolver) (codes "localhost:5000")
written resolver = record { url = registry_url; reads = registry_reads; text = registry_written }

-- ---- a layer that satisfies the policy

no_entries : entries (empty {X = List ℕ} {R = by_bytes}) ≡ []
no_entries = nil_from_length _ (sym (len-entries map.empty) ∙ len-empty by_bytes _)

abbrev any_layer : Constraint ⊥ (λ v. ⊥)
any_layer = Annotations (record { annotations = map.empty })

accepted : (signing : Option SimpleSigning) → has_annotations map.empty signing ≡ true
accepted None = ap has_no_item no_entries
accepted (Some signing) = ap (list_all (has_text_member signing.optional)) no_entries

-- what is read as such a layer for a digest stands for it
pub stands : (kind : LayerKind) (content : List ℕ) (notes : Notes) (signing : Option SimpleSigning) (d : List ℕ)
    → layer_read (trusting (signed_text kind content)) d (input kind content (digest_text Sha256 content) notes) ≡ Ok (signed_layer kind content notes signing)
    → StandsFor (context kind content) d (signed_layer kind content notes signing)
stands kind content notes signing d read =
    let layer = signed_layer kind content notes signing in
    let g = gives (trusting (signed_text kind content)) d (input kind content (digest_text Sha256 content) notes) (Ok layer) read in
    record {
      layer_of = g.layer_of;
      is_named = g.is_named;
      constrained = omega arith;
      supports = record {
        signed = record { bytes = codes "sig1"; spells = spells; under = (0, codes "k1", omega arith, refl, ap (λ b. (true && b) || false) (names_itself (signed_text kind content))) };
        accepted = All-cons (λ c. IsTrue (accepts (λ box l. false) c layer)) any_layer [] (accepted signing) (All-nil (λ c. IsTrue (accepts (λ box l. false) c layer)));
      };
    }
