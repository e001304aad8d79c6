-- The checks of a layer in their order, each with the rejection that it returns.
use Rattle.std.specs.Prelude.{ℕ, List, Bool, true, false, Option, Some, None, ok_or, Result}
use Rattle.std.specs.Prelude.{Ok, Err, if◌then◌else◌}
use Rattle.std.specs.FinMap.{get}
use Rattle.base64.specs.Engines.{standard}
use Rattle.base64.specs.GeneralPurpose.{decoded_of}
use Rattle.oci_digests.specs.Names.{names}
use Rattle.cosign_parts.specs.Layer.{is_logged, evidence}
use Rattle.cosign_parts.specs.LogEntry.{log_text}
use Rattle.json_values.specs.Refusals.{◌>>=◌}
use Rattle.cosign_parts.specs.Shown.{Notes, shown, is_about}
use Rattle.cosign_parts.specs.Trust.{Trust, Vouching, knows_no_log}
use Rattle.cosign_parts.specs.declared.certificate.CertificateSignature.{CertificateSignature}
use Rattle.cosign_parts.specs.declared.certificate.Vouched.{Vouched}
use Rattle.cosign_layers.specs.declared.checks.Came.{Came}
use Rattle.cosign_layers.specs.declared.checks.Pulled.{Pulled}
use Rattle.cosign_parts.specs.declared.layer.LayerKind.{LayerKind}
use Rattle.cosign_parts.specs.declared.layer.SignatureLayer.{SignatureLayer}
use Rattle.cosign_parts.specs.declared.log_entry.LogEntryBundle.{LogEntryBundle}
use Rattle.cosign_layers.specs.declared.rejection.LayerPart.TheVariants.{Content, Signature, LogEntry, Certificate}
use Rattle.cosign_layers.specs.declared.rejection.LayerRejection.{LayerRejection}
use Rattle.cosign_layers.specs.declared.rejection.LayerRejection.TheVariants as rejections
use Rattle.cosign_parts.specs.declared.shown.Found.{Found}
use Rattle.cosign_parts.specs.declared.shown.Found.TheVariants as founds
use Rattle.cosign_parts.specs.declared.shown.Shown.{Shown}

-- what is read: the kind of the layer, its content, the digest by which it was pulled, and its annotations
pub record Input : Type 0 where
  pub kind : LayerKind
  pub content : List ℕ
  pub oci_digest : List ℕ
  pub annotations : Notes

abbrev pub input : LayerKind → List ℕ → List ℕ → Notes → Input
input kind content oci_digest annotations = record {
  kind = kind;
  content = content;
  oci_digest = oci_digest;
  annotations = annotations;
}

-- the same, as it is borrowed
abbrev pub input_from : Pulled → Input
input_from p = input p.kind p.content.now p.oci_digest.now p.annotations.now

-- the same, copied
abbrev pub came_from : Pulled → Came
came_from p = record { content = p.content.now; oci_digest = p.oci_digest.now; annotations = p.annotations.now }

-- continue if `ok` is true, else reject
abbrev pub unless : LayerRejection → Bool → Result (Unit {0}) LayerRejection
unless rejection true = Ok tt
unless rejection false = Err rejection

-- the digest names the content, which has the form of its kind and is about this image
abbrev pub content_checked : List ℕ → Input → Result Shown LayerRejection
content_checked d input = do
  named ← unless rejections.DigestMismatch (names input.oci_digest input.content)
  shows ← ok_or (shown input.kind input.content input.annotations) (rejections.Unreadable Content)
  about ← unless rejections.OtherDigest (is_about d shows)
  Ok shows

-- a signature with the bytes that it decodes to (RFC 4648)
abbrev pub Spelled : Type 0
Spelled = List ℕ × List ℕ

-- the signature is present and decodes to bytes
abbrev pub signature_checked : Option (List ℕ) → Result Spelled LayerRejection
signature_checked found = do
  signature ← ok_or found rejections.NoSignature
  bytes ← ok_or (decoded_of standard signature) (rejections.Unreadable Signature)
  Ok (signature, bytes)

-- a log with a known key signed the entry, which names this signature of the content
abbrev pub entry_verified : Trust → LayerKind → List ℕ → List ℕ → LogEntryBundle
    → Result (Option LogEntryBundle) LayerRejection
entry_verified trust kind content bytes e = do
  key ← ok_or (get trust.log_keys e.log_id) (rejections.UnknownLogKey e.log_id)
  signed ← unless rejections.BadLogSignature (trust.valid key (log_text e) e.signed_entry_timestamp)
  named ← unless (rejections.OtherLogEntry e.body) (is_logged kind content bytes e.body)
  Ok (Some e)

abbrev pub entry_found : Trust → LayerKind → List ℕ → List ℕ → Found LogEntryBundle
    → Result (Option LogEntryBundle) LayerRejection
entry_found trust kind content bytes founds.Absent = Ok None
entry_found trust kind content bytes founds.Unreadable = Err (rejections.Unreadable LogEntry)
entry_found trust kind content bytes (founds.Read e) = entry_verified trust kind content bytes e

-- the log entry, if a log is known
abbrev pub entry_checked : Trust → LayerKind → List ℕ → List ℕ → Found LogEntryBundle
    → Result (Option LogEntryBundle) LayerRejection
entry_checked trust kind content bytes found =
    if knows_no_log trust then Ok None else entry_found trust kind content bytes found

abbrev pub certificate_signature : List ℕ → Vouched → CertificateSignature
certificate_signature certificate vouched = record { certificate = certificate; vouched = vouched }

-- the certificate is vouched for at the time of the log entry
abbrev pub certificate_vouched : Vouching → Option LogEntryBundle → List ℕ
    → Result (Option CertificateSignature) LayerRejection
certificate_vouched vouching entry certificate = do
  e ← ok_or entry rejections.NoLogEntry
  vouched ← ok_or (vouching (evidence certificate e)) rejections.NotVouched
  Ok (Some (certificate_signature certificate vouched))

abbrev pub certificate_checked : Vouching → Option LogEntryBundle → Found (List ℕ)
    → Result (Option CertificateSignature) LayerRejection
certificate_checked vouching entry founds.Absent = Ok None
certificate_checked vouching entry founds.Unreadable = Err (rejections.Unreadable Certificate)
certificate_checked vouching entry (founds.Read certificate) = certificate_vouched vouching entry certificate

-- the layer with these parts
abbrev pub layer_with : Input → Shown → List ℕ → Option LogEntryBundle → Option CertificateSignature → SignatureLayer
layer_with input shows signature entry certificate = record {
  kind = input.kind;
  content = input.content;
  oci_digest = input.oci_digest;
  annotations = input.annotations;
  simple_signing = shows.signing;
  signature = signature;
  certificate_signature = certificate;
  bundle = entry;
}

-- the layer that the input results in for this image, or the first check that fails
abbrev pub layer_read : Trust → List ℕ → Input → Result SignatureLayer LayerRejection
layer_read trust d input = do
  shows ← content_checked d input
  spelled ← signature_checked shows.signature
  entry ← entry_checked trust input.kind input.content spelled.1 shows.log_entry
  certificate ← certificate_checked trust.vouched entry shows.certificate
  Ok (layer_with input shows spelled.0 entry certificate)
