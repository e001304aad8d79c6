-- What the tests of sameness establish about signature layers.
use Rattle.std.proofs.Common.{◌≡◌, ◌&&◌, true, false, bytes_eq, Option, Some, None, refl, ap}
use Rattle.std.specs.Bool.{Decides}
use Rattle.std.proofs.lemmas.Slice.Eq.{bytes_eq-Decides}
use Rattle.std.proofs.lemmas.Bool.Decides.{Decides-int_eq}
use Rattle.serde_json.specs.Written.{has_float}
use Rattle.cosign_parts.specs.declared.certificate.CertificateSignature.{CertificateSignature}
use Rattle.cosign_parts.specs.declared.certificate.Vouched.{Vouched}
use Rattle.cosign_parts.specs.declared.layer.SignatureLayer.{SignatureLayer}
use Rattle.cosign_parts.specs.declared.layer.SimpleSigning.{SimpleSigning}
use Rattle.cosign_parts.specs.declared.log_entry.LogEntryBundle.{LogEntryBundle}
use Rattle.cosign_chain.specs.Same.{same_data}
use Rattle.cosign_chain.specs.SameManifest.{same_option}
use Rattle.cosign_chain.specs.SameLayer.{same_signing, same_vouched, same_certificate, same_entry, same_reading}
use Rattle.cosign_chain.proofs.LinkTests.{both, more}
use Rattle.cosign_chain.proofs.Sameness.{split, joined, data_is, data_same}
use Rattle.cosign_chain.proofs.SameManifests.{options, texts}

vouched : (a b : Vouched) → Decides (same_vouched a b) (a ≡ b)
vouched a b = more
    (λ h. rw (h.0.0.0, h.0.0.1, h.0.1, h.1) refl)
    (λ is. (((ap (λ x. x.key) is, ap (λ x. x.email) is), ap (λ x. x.url) is), ap (λ x. x.issuer) is))
    (both _ _ (both _ _ (both (bytes_eq a.key b.key) (same_option bytes_eq a.email b.email)
    (bytes_eq-Decides a.key b.key) (texts a.email b.email)) (texts a.url b.url)) (texts a.issuer b.issuer))

certificate : (a b : CertificateSignature) → Decides (same_certificate a b) (a ≡ b)
certificate a b = more (λ h. rw (h.0, h.1) refl) (λ is. (ap (λ x. x.certificate) is, ap (λ x. x.vouched) is))
    (both (bytes_eq a.certificate b.certificate) (same_vouched a.vouched b.vouched)
    (bytes_eq-Decides a.certificate b.certificate) (vouched a.vouched b.vouched))

entry : (a b : LogEntryBundle) → Decides (same_entry a b) (a ≡ b)
entry a b = more
    (λ h. rw (h.0.0.0.0, h.0.0.0.1, h.0.0.1, h.0.1, h.1) refl)
    (λ is. (
      (
        ((ap (λ x. x.signed_entry_timestamp) is, ap (λ x. x.body) is), ap (λ x. x.integrated_time) is),
        ap (λ x. x.log_index) is,
      ),
      ap (λ x. x.log_id) is,
    ))
    (both _ _ (both _ _ (both _ _ (both (bytes_eq a.signed_entry_timestamp b.signed_entry_timestamp) (bytes_eq a.body b.body)
    (bytes_eq-Decides a.signed_entry_timestamp b.signed_entry_timestamp) (bytes_eq-Decides a.body b.body))
    (Decides-int_eq a.integrated_time b.integrated_time)) (Decides-int_eq a.log_index b.log_index))
    (bytes_eq-Decides a.log_id b.log_id))

signing_is : (a b : SimpleSigning) → same_signing a b ≡ true → a ≡ b
signing_is a b h =
    let parts = split (bytes_eq a.docker_reference b.docker_reference
    && bytes_eq a.docker_manifest_digest b.docker_manifest_digest) (same_data a.optional b.optional) h in
    let front = split (bytes_eq a.docker_reference b.docker_reference)
    (bytes_eq a.docker_manifest_digest b.docker_manifest_digest) parts.0 in
    rw (
      (bytes_eq-Decides a.docker_reference b.docker_reference).0 front.0,
      (bytes_eq-Decides a.docker_manifest_digest b.docker_manifest_digest).0 front.1,
      data_is a.optional b.optional parts.1,
    ) refl

signings_are : (a b : Option SimpleSigning) → same_option same_signing a b ≡ true → a ≡ b
signings_are None None h = refl
signings_are None (Some b) h = absurd (cc h)
signings_are (Some a) None h = absurd (cc h)
signings_are (Some a) (Some b) h = ap Some (signing_is a b h)

-- the fields that are read from a layer's bytes and annotations
pub record Reading (a b : SignatureLayer) : Type 0 where
  pub signing : a.simple_signing ≡ b.simple_signing
  pub signature : a.signature ≡ b.signature
  pub certificate : a.certificate_signature ≡ b.certificate_signature
  pub entry : a.bundle ≡ b.bundle

pub reading_is : (a b : SignatureLayer) → same_reading a b ≡ true → Reading a b
reading_is a b h =
    let last = split (same_option same_signing a.simple_signing b.simple_signing && bytes_eq a.signature b.signature
    && same_option same_certificate a.certificate_signature b.certificate_signature)
    (same_option same_entry a.bundle b.bundle) h in
    let third = split (same_option same_signing a.simple_signing b.simple_signing && bytes_eq a.signature b.signature)
    (same_option same_certificate a.certificate_signature b.certificate_signature) last.0 in
    let second = split (same_option same_signing a.simple_signing b.simple_signing)
    (bytes_eq a.signature b.signature) third.0 in
    record {
      signing = signings_are a.simple_signing b.simple_signing second.0;
      signature = (bytes_eq-Decides a.signature b.signature).0 second.1;
      certificate = (options same_certificate certificate a.certificate_signature b.certificate_signature).0 third.1;
      entry = (options same_entry entry a.bundle b.bundle).0 last.1;
    }

signing_same : (a : SimpleSigning) → has_float a.optional ≡ false → same_signing a a ≡ true
signing_same a plain = joined (bytes_eq a.docker_reference a.docker_reference
    && bytes_eq a.docker_manifest_digest a.docker_manifest_digest) (same_data a.optional a.optional)
    (joined (bytes_eq a.docker_reference a.docker_reference)
    (bytes_eq a.docker_manifest_digest a.docker_manifest_digest)
    ((bytes_eq-Decides a.docker_reference a.docker_reference).1 refl)
    ((bytes_eq-Decides a.docker_manifest_digest a.docker_manifest_digest).1 refl)) (data_same a.optional plain)

-- the members of a payload that are not strings contain no float
abbrev pub IsPlain : Option SimpleSigning → Type 0
IsPlain None = Unit {0}
IsPlain (Some signing) = has_float signing.optional ≡ false

signings_same : (o : Option SimpleSigning) → IsPlain o → same_option same_signing o o ≡ true
signings_same None plain = refl
signings_same (Some a) plain = signing_same a plain

pub reading_same : (a : SignatureLayer) → IsPlain a.simple_signing → same_reading a a ≡ true
reading_same a plain = joined (same_option same_signing a.simple_signing a.simple_signing && bytes_eq a.signature a.signature
    && same_option same_certificate a.certificate_signature a.certificate_signature)
    (same_option same_entry a.bundle a.bundle)
    (joined (same_option same_signing a.simple_signing a.simple_signing && bytes_eq a.signature a.signature)
    (same_option same_certificate a.certificate_signature a.certificate_signature)
    (joined (same_option same_signing a.simple_signing a.simple_signing) (bytes_eq a.signature a.signature)
    (signings_same a.simple_signing plain) ((bytes_eq-Decides a.signature a.signature).1 refl))
    ((options same_certificate certificate a.certificate_signature a.certificate_signature).1 refl))
    ((options same_entry entry a.bundle a.bundle).1 refl)
