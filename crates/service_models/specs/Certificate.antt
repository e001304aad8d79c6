-- The response of Fulcio (its API, `SigningCertificate`).
use Rattle.std.specs.Prelude.{ℕ, List, if◌then◌else◌, Option, Some, None, option_map, codes}
use Rattle.std.specs.Str.{bytes_eq}
use Rattle.serde_json.specs.Data.{Data}
use Rattle.json_tables.specs.Bytes.{base64_of}
use Rattle.json_tables.specs.Plain.{read_plain}
use Rattle.json_tables.specs.Reading.{◌>>=◌, text_of, list_of}
use Rattle.json_tables.specs.Member.{required}
use Rattle.service_models.specs.Sct.{inner_sct_of}
use Rattle.service_models.specs.Single.{single_of}
use Rattle.service_models.specs.declared.certificate.CertificateChain.{CertificateChain}
use Rattle.service_models.specs.declared.certificate.SigningCertificateDetachedSCT.{SigningCertificateDetachedSCT}
use Rattle.service_models.specs.declared.certificate.SigningCertificateEmbeddedSCT.{SigningCertificateEmbeddedSCT}
use Rattle.service_models.specs.declared.certificate.SigningCertificate.{SigningCertificate}
use Rattle.service_models.specs.declared.certificate.SigningCertificate.TheVariants.{SignedCertificateDetachedSct}
use Rattle.service_models.specs.declared.certificate.SigningCertificate.TheVariants.{SignedCertificateEmbeddedSct}

unfoldable pub chain_of : Data → Option CertificateChain
chain_of d = do
  certificates ← required (list_of text_of) (codes "certificates") d
  Some (record { certificates = certificates })

-- the timestamp is JSON in base64
unfoldable pub detached_of : Data → Option SigningCertificateDetachedSCT
detached_of d = do
  chain ← required chain_of (codes "chain") d
  bytes ← required base64_of (codes "signedCertificateTimestamp") d
  sct ← read_plain inner_sct_of bytes
  Some (record { chain = chain; signed_certificate_timestamp = sct })

unfoldable pub embedded_of : Data → Option SigningCertificateEmbeddedSCT
embedded_of d = do
  chain ← required chain_of (codes "chain") d
  Some (record { chain = chain })

-- the name of the only member decides between the two forms
abbrev pub certificate_named : List ℕ × Data → Option SigningCertificate
certificate_named (name, d) =
    if bytes_eq name (codes "signedCertificateDetachedSct")
    then option_map SignedCertificateDetachedSct (detached_of d)
    else (if bytes_eq name (codes "signedCertificateEmbeddedSct")
    then option_map SignedCertificateEmbeddedSct (embedded_of d)
    else None)

unfoldable pub signing_certificate_of : Data → Option SigningCertificate
signing_certificate_of d = single_of d >>= certificate_named
