-- How a layer is read whose signature is `sig1`.
use Rattle.std.proofs.Common.{◌≡◌, ℕ, Bool, true, false, List, codes, Option, Some, None, Result, Ok, refl, ap}
use Rattle.std.specs.Prelude.{ok_or, if◌then◌else◌}
use Rattle.base64.specs.Decode.{groups_error, scan_steps, groups_bytes}
use Rattle.base64.specs.Engines.{standard}
use Rattle.base64.specs.GeneralPurpose.{decoded_of}
use Rattle.oci_names.specs.declared.algorithm.Algorithm.TheVariants.{Sha256}
use Rattle.oci_digests.specs.Names.{names, digest_text}
use Rattle.oci_digests.proofs.Equal.{named}
use Rattle.json_values.specs.Refusals.{◌>>=◌}
use Rattle.cosign_parts.specs.Shown.{Notes, shown, is_about}
use Rattle.cosign_parts.specs.Trust.{Trust, knows_no_log}
use Rattle.cosign_parts.specs.declared.layer.LayerKind.{LayerKind}
use Rattle.cosign_parts.specs.declared.layer.SignatureLayer.{SignatureLayer}
use Rattle.cosign_parts.specs.declared.layer.SimpleSigning.{SimpleSigning}
use Rattle.cosign_parts.specs.declared.log_entry.LogEntryBundle.{LogEntryBundle}
use Rattle.cosign_parts.specs.declared.shown.Found.TheVariants.{Absent}
use Rattle.cosign_parts.specs.declared.shown.Shown.{Shown}
use Rattle.cosign_parts.specs.declared.shown.Subject.{Subject}
use Rattle.cosign_layers.specs.Checks.{input, content_checked, signature_checked, entry_checked, layer_read}
use Rattle.cosign_layers.specs.declared.rejection.LayerPart.TheVariants.{Signature}
use Rattle.cosign_layers.specs.declared.rejection.LayerRejection.{LayerRejection}
use Rattle.cosign_layers.specs.declared.rejection.LayerRejection.TheVariants as rejections

-- the layer, without a log entry and without a certificate
abbrev pub signed_layer : LayerKind → List ℕ → Notes → Option SimpleSigning → SignatureLayer
signed_layer kind content notes signing = record {
  kind = kind;
  content = content;
  oci_digest = digest_text Sha256 content;
  annotations = notes;
  simple_signing = signing;
  signature = codes "c2lnMQ==";
  certificate_signature = None;
  bundle = None;
}

-- what is found in it
abbrev pub shows_plainly : Option SimpleSigning → List Subject → Shown
shows_plainly signing subjects = record {
  signing = signing;
  subjects = subjects;
  signature = Some (codes "c2lnMQ==");
  log_entry = Absent;
  certificate = Absent;
}

pub spells : decoded_of standard (codes "c2lnMQ==") ≡ Some (codes "sig1")
unfolding decoded_of groups_error scan_steps groups_bytes
spells = refl

pub names_itself : (bytes : List ℕ) → names (digest_text Sha256 bytes) bytes ≡ true
names_itself bytes = (named (digest_text Sha256 bytes) bytes).1 (Sha256, refl)

checked_signature : signature_checked (Some (codes "c2lnMQ==")) ≡ Ok (codes "c2lnMQ==", codes "sig1")
checked_signature = ap (λ (o : Option (List ℕ)). ok_or o (rejections.Unreadable Signature) >>= (λ bytes. Ok (codes "c2lnMQ==", bytes))) spells

checked_entry : (trust : Trust) (kind : LayerKind) (content : List ℕ) → entry_checked trust kind content (codes "sig1") Absent ≡ Ok None
checked_entry trust kind content = by_test (knows_no_log trust) where
  by_test : (b : Bool) → ◌≡◌ {A = Result (Option LogEntryBundle) LayerRejection} (if b then Ok None else Ok None) (Ok None)
  by_test true = refl
  by_test false = refl

module _ (trust : Trust) (kind : LayerKind) (content d : List ℕ) (notes : Notes) (signing : Option SimpleSigning) (subjects : List Subject)
    (found : shown kind content notes ≡ Some (shows_plainly signing subjects)) (about : is_about d (shows_plainly signing subjects) ≡ true) where
  checked_content : content_checked d (input kind content (digest_text Sha256 content) notes) ≡ Ok (shows_plainly signing subjects)
  checked_content = rw (names_itself content, found, about) refl

  pub is_read : layer_read trust d (input kind content (digest_text Sha256 content) notes) ≡ Ok (signed_layer kind content notes signing)
  is_read = rw (checked_content, checked_signature, checked_entry trust kind content) refl
