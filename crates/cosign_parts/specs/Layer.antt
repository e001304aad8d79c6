-- The definition of a signature layer: its fields are computed from its bytes and annotations.
use Rattle.std.specs.Prelude.{◌≡◌, ◌⊎◌, ℕ, List, Bool, true, false, IsTrue, Option, Some, None, IsSomeAnd}
use Rattle.base64.specs.Engines.{standard}
use Rattle.base64.specs.GeneralPurpose.{decoded_of}
use Rattle.oci_digests.specs.Names.{Names}
use Rattle.cosign_parts.specs.LogEntry.{LogSigned, logs}
use Rattle.cosign_parts.specs.Shown.{shown, is_about}
use Rattle.cosign_parts.specs.Trust.{Trust, knows_no_log}
use Rattle.cosign_parts.specs.declared.certificate.CertificateSignature.{CertificateSignature}
use Rattle.cosign_parts.specs.declared.certificate.Evidence.{Evidence}
use Rattle.cosign_parts.specs.declared.layer.LayerKind.{LayerKind}
use Rattle.cosign_parts.specs.declared.layer.LayerKind.TheVariants as kinds
use Rattle.cosign_parts.specs.declared.layer.SignatureLayer.{SignatureLayer}
use Rattle.cosign_parts.specs.declared.log_entry.LogEntryBundle.{LogEntryBundle}
use Rattle.cosign_parts.specs.declared.shown.Found.{Found}
use Rattle.cosign_parts.specs.declared.shown.Found.TheVariants.{Absent, Read}
use Rattle.cosign_parts.specs.declared.shown.Shown.{Shown}

-- there is a signature, which decodes to these bytes (padded standard base64; RFC 4648, 4)
pub record IsSignature (shown : Option (List ℕ)) (signature bytes : List ℕ) : Type 0 where
  pub there : shown ≡ Some signature
  pub spells : decoded_of standard signature ≡ Some bytes

-- the entry names the signature that it logs; the entry of a bundle need not
abbrev pub is_logged : LayerKind → List ℕ → List ℕ → List ℕ → Bool
is_logged kinds.Payload content bytes body = logs body content bytes
is_logged kinds.Bundle content bytes body = true

-- the entry is signed by its log and names this signature of the content
pub record IsLogged (trust : Trust) (kind : LayerKind) (content bytes : List ℕ) (e : LogEntryBundle) : Type 0 where
  pub signed : LogSigned trust e
  pub names : IsTrue (is_logged kind content bytes e.body)

-- the entry of a layer: `None` if no log is known or no entry is present, else the entry that is present
abbrev pub IsEntry : Trust → LayerKind → List ℕ → List ℕ → Found LogEntryBundle → Option LogEntryBundle → Type 0
IsEntry trust kind content bytes found None = IsTrue (knows_no_log trust) ⊎ (found ≡ Absent)
IsEntry trust kind content bytes found (Some e) =
    (knows_no_log trust ≡ false) × (found ≡ Read e) × IsLogged trust kind content bytes e

abbrev pub evidence : List ℕ → LogEntryBundle → Evidence
evidence certificate e = record { certificate = certificate; integrated_time = e.integrated_time }

-- the certificate of a layer: `None` if none is present, else it is vouched for at the time of the log entry
abbrev pub IsCertificate : Trust → Option LogEntryBundle → Found (List ℕ) → Option CertificateSignature → Type 0
IsCertificate trust entry found None = found ≡ Absent
IsCertificate trust entry found (Some c) =
    (e : LogEntryBundle) × (found ≡ Read c.certificate) × (entry ≡ Some e)
    × (trust.vouched (evidence c.certificate e) ≡ Some c.vouched)

-- the fields of a layer are computed from its bytes and annotations
pub record LayerOf (trust : Trust) (layer : SignatureLayer) : Type 0 where
  pub named : Names layer.oci_digest layer.content
  pub shows : Shown
  pub content : shown layer.kind layer.content layer.annotations ≡ Some shows
  pub signing : layer.simple_signing ≡ shows.signing
  pub bytes : List ℕ
  pub signature : IsSignature shows.signature layer.signature bytes
  pub entry : IsEntry trust layer.kind layer.content bytes shows.log_entry layer.bundle
  pub certificate : IsCertificate trust layer.bundle shows.certificate layer.certificate_signature

-- the layer is about the image of this digest: a payload by its digest, a bundle by a subject of its statement
abbrev pub IsAboutImage : SignatureLayer → List ℕ → Type 0
IsAboutImage layer d = IsSomeAnd (shown layer.kind layer.content layer.annotations) (λ s. IsTrue (is_about d s))
