-- The layer that is pushed for a payload is read as a layer of this payload and signature.
use Rattle.std.proofs.Common.{◌≡◌, ℕ, Bool, true, false, cond, List, codes, Option, Some, None, Result, Ok, option_map, refl, ap, ◌∙◌}
use Rattle.std.specs.Prelude.{bytes_eq, ok_or, if◌then◌else◌}
use Rattle.std.specs.Cmp.Lexicographic.{nat_list_eq_equiv, nat_list_cmp_total}
use Rattle.std.specs.Ordering.{eq_by_cmp}
use Rattle.std.specs.FinMap.{get, insert, empty, get-insert, get-empty}
use Rattle.base64.specs.Engines.{standard}
use Rattle.base64.specs.GeneralPurpose.{decoded_of}
use Rattle.json_values.specs.Places.{by_bytes}
use Rattle.json_values.specs.Refusals.{◌>>=◌}
use Rattle.oci_digests.specs.Names.{digest_text, names}
use Rattle.oci_names.specs.declared.algorithm.Algorithm.TheVariants.{Sha256}
use Rattle.oci_digests.proofs.Equal.{named}
use Rattle.cosign_layers.specs.Checks.{Input, input, content_checked, signature_checked, entry_checked, certificate_checked}
use Rattle.cosign_layers.specs.declared.rejection.LayerPart.TheVariants.{Signature}
use Rattle.cosign_layers.specs.declared.rejection.LayerRejection.{LayerRejection}
use Rattle.cosign_layers.specs.declared.rejection.LayerRejection.TheVariants as rejections
use Rattle.cosign_parts.specs.Shown.{Notes, payload_shown, noted_entry, noted_certificate}
use Rattle.cosign_parts.specs.Trust.{Trust, knows_no_log}
use Rattle.cosign_parts.specs.declared.layer.LayerKind.TheVariants as kinds
use Rattle.cosign_parts.specs.declared.log_entry.LogEntryBundle.{LogEntryBundle}
use Rattle.cosign_client.specs.Signature.{Signed, IsPayloadText, CanBeRead, SignaturesAreFound, signature_notes}
use Rattle.cosign_client.proofs.PushedPayload.{content_is}

abbrev note_name : List ℕ
note_name = codes "dev.cosignproject.cosign/signature"

noted : (m : Notes) (k v q : List ℕ) → get (insert m k v) q ≡ cond (eq_by_cmp by_bytes q k) (Some v) (get m q)
noted m k v q = get-insert nat_list_cmp_total m k v q

note_there : (signature : List ℕ) → get (signature_notes signature) note_name ≡ Some signature
note_there signature = noted empty note_name signature note_name

others_by : (m : Notes) (k v q : List ℕ) → eq_by_cmp by_bytes q k ≡ false → get (insert m k v) q ≡ get m q
others_by m k v q other = noted m k v q ∙ ap (λ b. cond b (Some v) (get m q)) other

none_at : (signature q : List ℕ) → eq_by_cmp by_bytes q note_name ≡ false → get (signature_notes signature) q ≡ None
none_at signature q other = others_by empty note_name signature q other ∙ get-empty by_bytes q

-- ---- the checks, in their order

about_itself : (text : List ℕ) → bytes_eq text text ≡ true
about_itself text = nat_list_eq_equiv.refl text

names_itself : (bytes : List ℕ) → names (digest_text Sha256 bytes) bytes ≡ true
names_itself bytes = (named (digest_text Sha256 bytes) bytes).1 (Sha256, refl)

abbrev input_of : Signed → List ℕ → Input
input_of signed text = input kinds.Payload text (digest_text Sha256 text) (signature_notes signed.1)

checked_content : (signed : Signed) (text : List ℕ) → IsPayloadText signed.0 text → CanBeRead signed → content_checked signed.0.docker_manifest_digest (input_of signed text) ≡ Ok (payload_shown (signature_notes signed.1) signed.0)
checked_content signed text is can =
    rw (names_itself text, ap (option_map (payload_shown (signature_notes signed.1))) (content_is signed text is can), about_itself signed.0.docker_manifest_digest) refl

checked_signature : (signature bytes : List ℕ) → decoded_of standard signature ≡ Some bytes → signature_checked (get (signature_notes signature) note_name) ≡ Ok (signature, bytes)
checked_signature signature bytes spells = ap signature_checked (note_there signature) ∙ ap (λ (o : Option (List ℕ)). ok_or o (rejections.Unreadable Signature) >>= (λ bytes. Ok (signature, bytes))) spells

checked_entry : (trust : Trust) (signature content bytes : List ℕ) → entry_checked trust kinds.Payload content bytes (noted_entry (get (signature_notes signature) (codes "dev.sigstore.cosign/bundle"))) ≡ Ok None
checked_entry trust signature content bytes =
    ap (λ (o : Option (List ℕ)). entry_checked trust kinds.Payload content bytes (noted_entry o)) (none_at signature (codes "dev.sigstore.cosign/bundle") refl)
    ∙ by_test (knows_no_log trust) where
      by_test : (b : Bool) → ◌≡◌ {A = Result (Option LogEntryBundle) LayerRejection} (if b then Ok None else Ok None) (Ok None)
      by_test true = refl
      by_test false = refl

checked_certificate : (trust : Trust) (signature : List ℕ) → certificate_checked trust.vouched None (noted_certificate (get (signature_notes signature) (codes "dev.sigstore.cosign/certificate"))) ≡ Ok None
checked_certificate trust signature = ap (λ (o : Option (List ℕ)). certificate_checked trust.vouched None (noted_certificate o)) (none_at signature (codes "dev.sigstore.cosign/certificate") refl)

pub signatures_found : SignaturesAreFound
signatures_found trust signed image is can =
    rw (checked_content signed image.content is.content can, checked_signature signed.1 can.bytes can.spells, checked_entry trust signed.1 image.content can.bytes, checked_certificate trust signed.1) refl
