-- The signature layer that is read from the payload.
use Rattle.std.proofs.Common.{◌≡◌, ℕ, Bool, true, false, List, [], ◌∷◌, codes, Option, Some, None, Result, Ok, Err, option_map, refl, sym, ap, ◌∙◌}
use Rattle.std.specs.Prelude.{bytes_eq, ok_or, if◌then◌else◌}
use Rattle.std.specs.Cmp.Lexicographic.{nat_list_eq_equiv}
use Rattle.std.specs.Ordering.{eq_by_cmp}
use Rattle.std.specs.FinMap.{FinMap, get, insert, empty, get-empty}
use Rattle.base64.specs.Decode.{groups_error, scan_steps, groups_bytes}
use Rattle.base64.specs.Engines.{standard}
use Rattle.base64.specs.GeneralPurpose.{decoded_of}
use Rattle.json_values.specs.Places.{by_bytes}
use Rattle.oci_digests.specs.Names.{names, Names}
use Rattle.oci_names.specs.declared.algorithm.Algorithm.TheVariants.{Sha256}
use Rattle.oci_digests.proofs.Equal.{named}
use Rattle.cosign_layers.specs.Checks.{Input, input, unless, content_checked, signature_checked, entry_checked, certificate_checked, layer_read, layer_with}
use Rattle.cosign_parts.specs.Payload.{content_of}
use Rattle.json_values.specs.Refusals.{◌>>=◌}
use Rattle.cosign_parts.specs.Shown.{Notes, shown, is_about, payload_shown, noted_entry, noted_certificate}
use Rattle.cosign_parts.specs.Trust.{Trust, knows_no_log}
use Rattle.cosign_parts.specs.declared.layer.LayerKind.TheVariants as kinds
use Rattle.cosign_parts.specs.declared.layer.SignatureLayer.{SignatureLayer}
use Rattle.cosign_parts.specs.declared.layer.SimpleSigning.{SimpleSigning}
use Rattle.cosign_parts.specs.declared.log_entry.LogEntryBundle.{LogEntryBundle}
use Rattle.cosign_parts.specs.declared.certificate.CertificateSignature.{CertificateSignature}
use Rattle.cosign_layers.specs.declared.rejection.LayerPart.TheVariants.{Signature}
use Rattle.cosign_layers.specs.declared.rejection.LayerRejection.{LayerRejection}
use Rattle.cosign_layers.specs.declared.rejection.LayerRejection.TheVariants as rejections
use Rattle.pull_generated.specs.Texts.{sha256_text, payload_text}
use Rattle.pull_generated.proofs.Manifests.{notes, note_name}
use Rattle.pull_generated.proofs.Maps.{inserted, others_by}
use Rattle.pull_generated.proofs.Payload.{signing_of, content_is}

note_there : get notes note_name ≡ Some (codes "c2lnMQ==")
note_there = inserted empty note_name (codes "c2lnMQ==")

none_at : (q : List ℕ) → eq_by_cmp by_bytes q note_name ≡ false → get notes q ≡ None
none_at q other = others_by empty note_name (codes "c2lnMQ==") q other ∙ get-empty by_bytes q

pub spells : decoded_of standard (codes "c2lnMQ==") ≡ Some (codes "sig1")
unfolding decoded_of groups_error scan_steps groups_bytes
spells = refl

-- ---- the checks, in their order

about_itself : (text : List ℕ) → bytes_eq text text ≡ true
about_itself text = nat_list_eq_equiv.refl text

abbrev pub input_of : List ℕ → Input
input_of image = input kinds.Payload (payload_text (sha256_text image)) (sha256_text (payload_text (sha256_text image))) notes

names_itself : (bytes : List ℕ) → names (sha256_text bytes) bytes ≡ true
names_itself bytes = (named (sha256_text bytes) bytes).1 (Sha256, refl)

checked_content : (image : List ℕ) → content_checked (sha256_text image) (input_of image) ≡ Ok (payload_shown notes (signing_of (sha256_text image)))
checked_content image =
    rw (names_itself (payload_text (sha256_text image)), ap (option_map (payload_shown notes)) (content_is image), about_itself (sha256_text image)) refl

checked_signature : signature_checked (get notes note_name) ≡ Ok (codes "c2lnMQ==", codes "sig1")
checked_signature = ap signature_checked note_there ∙ ap (λ (o : Option (List ℕ)). ok_or o (rejections.Unreadable Signature) >>= (λ bytes. Ok (codes "c2lnMQ==", bytes))) spells

checked_entry : (trust : Trust) (content : List ℕ) → entry_checked trust kinds.Payload content (codes "sig1") (noted_entry (get notes (codes "dev.sigstore.cosign/bundle"))) ≡ Ok None
checked_entry trust content =
    ap (λ (o : Option (List ℕ)). entry_checked trust kinds.Payload content (codes "sig1") (noted_entry o)) (none_at (codes "dev.sigstore.cosign/bundle") refl)
    ∙ by_test (knows_no_log trust) where
      by_test : (b : Bool) → ◌≡◌ {A = Result (Option LogEntryBundle) LayerRejection} (if b then Ok None else Ok None) (Ok None)
      by_test true = refl
      by_test false = refl

checked_certificate : (trust : Trust) → certificate_checked trust.vouched None (noted_certificate (get notes (codes "dev.sigstore.cosign/certificate"))) ≡ Ok None
checked_certificate trust = ap (λ (o : Option (List ℕ)). certificate_checked trust.vouched None (noted_certificate o)) (none_at (codes "dev.sigstore.cosign/certificate") refl)

-- the layer that is read from the payload of this image
abbrev pub layer_for : List ℕ → SignatureLayer
layer_for image = layer_with (input_of image) (payload_shown notes (signing_of (sha256_text image))) (codes "c2lnMQ==") None None

pub layer_is : (trust : Trust) (image : List ℕ) → layer_read trust (sha256_text image) (input_of image) ≡ Ok (layer_for image)
layer_is trust image = rw (checked_content image, checked_signature, checked_entry trust (payload_text (sha256_text image)), checked_certificate trust) refl
