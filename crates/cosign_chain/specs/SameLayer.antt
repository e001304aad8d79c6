-- Whether two signature layers with equal bytes and annotations have the same other fields, compared one by one.
use Rattle.std.specs.Prelude.{Bool, ◌&&◌, bytes_eq}
use Rattle.std.specs.Ordering.{int_eq}
use Rattle.cosign_parts.specs.declared.certificate.CertificateSignature.{CertificateSignature}
use Rattle.cosign_parts.specs.declared.certificate.Vouched.{Vouched}
use Rattle.cosign_parts.specs.declared.layer.SignatureLayer.{SignatureLayer}
use Rattle.cosign_parts.specs.declared.layer.SimpleSigning.{SimpleSigning}
use Rattle.cosign_parts.specs.declared.log_entry.LogEntryBundle.{LogEntryBundle}
use Rattle.cosign_chain.specs.Same.{same_data}
use Rattle.cosign_chain.specs.SameManifest.{same_option}

abbrev pub same_signing : SimpleSigning → SimpleSigning → Bool
same_signing a b =
    bytes_eq a.docker_reference b.docker_reference && bytes_eq a.docker_manifest_digest b.docker_manifest_digest
    && same_data a.optional b.optional

abbrev pub same_vouched : Vouched → Vouched → Bool
same_vouched a b =
    bytes_eq a.key b.key && same_option bytes_eq a.email b.email && same_option bytes_eq a.url b.url
    && same_option bytes_eq a.issuer b.issuer

abbrev pub same_certificate : CertificateSignature → CertificateSignature → Bool
same_certificate a b = bytes_eq a.certificate b.certificate && same_vouched a.vouched b.vouched

abbrev pub same_entry : LogEntryBundle → LogEntryBundle → Bool
same_entry a b =
    bytes_eq a.signed_entry_timestamp b.signed_entry_timestamp && bytes_eq a.body b.body
    && int_eq a.integrated_time b.integrated_time && int_eq a.log_index b.log_index && bytes_eq a.log_id b.log_id

-- the fields that are read from a layer's bytes and annotations
abbrev pub same_reading : SignatureLayer → SignatureLayer → Bool
same_reading a b =
    same_option same_signing a.simple_signing b.simple_signing && bytes_eq a.signature b.signature
    && same_option same_certificate a.certificate_signature b.certificate_signature
    && same_option same_entry a.bundle b.bundle
