-- Certificates of registries: their encodings and their order.
use Rattle.std.specs.Prelude.{◌≡◌, ℕ, Bool, Some, ◌&&◌, nat_eq, bytes_eq}
use Rattle.std.specs.Ordering.{nat_cmp, ordering_then, eq_by_cmp}
use Rattle.std.specs.Cmp.{IsEquivalence, IsTotalOrder, on_equiv, on_total, nat_eq_equiv, nat_cmp_total}
use Rattle.std.specs.Cmp.{IsPartialOrder, and_equiv, then_total, po, both_tied, unsigned_ties}
use Rattle.std.specs.Cmp.Lexicographic.{slice_cmp, on_texts, on_texts_equal, texts_ties}
use Rattle.std.specs.declared.cmp.Ordering.{Ordering}
use Rattle.oci_engine.specs.declared.certificate.Certificate.{Certificate as OciCertificate}
use Rattle.oci_engine.specs.declared.certificate.CertificateEncoding.{CertificateEncoding as OciEncoding}
use Rattle.oci_engine.specs.declared.certificate.CertificateEncoding.TheVariants as engine
use Rattle.sig_registry.specs.declared.certificate.Certificate.{Certificate}
use Rattle.sig_registry.specs.declared.certificate.CertificateEncoding.{CertificateEncoding}
use Rattle.sig_registry.specs.declared.certificate.CertificateEncoding.TheVariants.{Der, Pem}

abbrev pub oci_encoding : CertificateEncoding → OciEncoding
oci_encoding Der = engine.Der
oci_encoding Pem = engine.Pem

abbrev pub oci_certificate : Certificate → OciCertificate
oci_certificate c = record { encoding = oci_encoding c.encoding; content = c.content }

-- DER comes before PEM
abbrev pub place : CertificateEncoding → ℕ
place Der = 0
place Pem = 1

abbrev pub is_same_encoding : CertificateEncoding → CertificateEncoding → Bool
is_same_encoding a b = nat_eq (place a) (place b)

pub equal_encodings : IsEquivalence is_same_encoding
equal_encodings = on_equiv place nat_eq_equiv

-- the same content and the same encoding
abbrev pub is_same : Certificate → Certificate → Bool
is_same a b = bytes_eq a.content b.content && is_same_encoding a.encoding b.encoding

-- by content, byte by byte, and then by encoding
abbrev pub order : Certificate → Certificate → Ordering
order a b = ordering_then (slice_cmp nat_cmp a.content b.content) (nat_cmp (place a.encoding) (place b.encoding))

pub equal : IsEquivalence is_same
equal = and_equiv (on_texts_equal (λ (c : Certificate). c.content))
    (on_equiv (λ (c : Certificate). place c.encoding) nat_eq_equiv)

pub ordered : IsTotalOrder order
ordered = then_total (on_texts (λ (c : Certificate). c.content))
    (on_total (λ (c : Certificate). place c.encoding) nat_cmp_total)

ties : (a b : Certificate) → is_same a b ≡ eq_by_cmp order a b
ties a b = both_tied (bytes_eq a.content b.content) (is_same_encoding a.encoding b.encoding)
    (slice_cmp nat_cmp a.content b.content) (nat_cmp (place a.encoding) (place b.encoding))
    (texts_ties a.content b.content) (unsigned_ties (place a.encoding) (place b.encoding))

pub partly_ordered : IsPartialOrder is_same (λ a b. Some (order a b))
partly_ordered = po ordered ties
