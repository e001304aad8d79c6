-- Questions to the host, and its answers.
use Rattle.std.specs.Prelude.{◌≡◌, ℕ, Bool, List, [], ◌∷◌, ◌++◌, All, length, Option, Some, None, codes}
use Rattle.std.specs.FinMap.{FinMap, get as key_of}
use Rattle.base64.specs.Engines.{standard}
use Rattle.base64.specs.GeneralPurpose.{decoded_of}
use Rattle.serde_json.specs.Data.{Data}
use Rattle.json_tables.specs.Bytes.{base64_of}
use Rattle.json_tables.specs.Reading.{◌>>=◌, bool_of, text_of}
use Rattle.json_tables.specs.Objects.{only}
use Rattle.json_tables.specs.Member.{required, optional}
use Rattle.json_values.specs.Places.{by_bytes}
use Rattle.cosign_parts.specs.Envelope.{signed_text}
use Rattle.cosign_parts.specs.Layer.{evidence}
use Rattle.cosign_parts.specs.LogEntry.{log_text}
use Rattle.cosign_parts.specs.declared.certificate.CertificateSignature.{CertificateSignature}
use Rattle.cosign_parts.specs.declared.certificate.Evidence.{Evidence}
use Rattle.cosign_parts.specs.declared.certificate.Vouched.{Vouched}
use Rattle.cosign_parts.specs.declared.layer.SignatureLayer.{SignatureLayer}
use Rattle.cosign_parts.specs.declared.log_entry.LogEntryBundle.{LogEntryBundle}
use Rattle.live_host.specs.Heads.{verify_head, judge_head}
use Rattle.live_host.specs.Names.{frame_named}
use Rattle.live_host.specs.Wire.{Wire, SendsAndReceives}
use Rattle.live_host.specs.declared.answers.HostAnswer.{HostAnswer}
use Rattle.live_host.specs.declared.answers.HostAnswer.TheVariants.{Signature, Certificate}

-- the frame `verified`
unfoldable pub verified_of : Data → Option Bool
verified_of d = do
  known ← only (codes "frame" ∷ codes "valid" ∷ []) d
  name ← frame_named (codes "verified") d
  required bool_of (codes "valid") d

-- what is vouched for a certificate
unfoldable pub vouched_of : Data → Option Vouched
vouched_of d = do
  known ← only (codes "key" ∷ codes "email" ∷ codes "url" ∷ codes "issuer" ∷ []) d
  key ← required base64_of (codes "key") d
  email ← optional text_of (codes "email") d
  url ← optional text_of (codes "url") d
  issuer ← optional text_of (codes "issuer") d
  Some (record { key = key; email = email; url = url; issuer = issuer })

-- the frame `vouched`; null vouches for nothing
unfoldable pub answer_of : Data → Option (Option Vouched)
answer_of d = do
  known ← only (codes "frame" ∷ codes "vouched" ∷ []) d
  name ← frame_named (codes "vouched") d
  optional vouched_of (codes "vouched") d

-- this question was sent, and this answer was received
abbrev pub WasAsked : HostAnswer → Wire → Wire → Type 0
WasAsked (Signature a) old new =
    SendsAndReceives (verify_head a.key a.signature (length a.message)) a.message verified_of a.valid old new
WasAsked (Certificate a) old new =
    SendsAndReceives (judge_head a.evidence.certificate a.evidence.integrated_time) [] answer_of a.vouched old new

-- one after another
abbrev pub WereAsked : List HostAnswer → Wire → Wire → Type 0
WereAsked [] old new = old ≡ new
WereAsked (a ∷ more) old new = (between : Wire) × WasAsked a old between × WereAsked more between new

-- these questions were asked after those
pub record AsksMore (before after : List HostAnswer) (old new : Wire) : Type 0 where
  pub more : List HostAnswer
  pub behind : after ≡ before ++ more
  pub asked : WereAsked more old new

-- ---- what was asked about a layer

-- this is one of the answers
abbrev pub IsAmong : HostAnswer → List HostAnswer → Type 0
IsAmong a answers = (before after : List HostAnswer) × answers ≡ before ++ a ∷ after

-- whether this key makes the signature of the message valid
abbrev pub KeyAsked : List HostAnswer → List ℕ → List ℕ → List ℕ → Type 0
KeyAsked answers message signature key = (valid : Bool) × IsAmong (Signature (record {
  key = key;
  message = message;
  signature = signature;
  valid = valid;
})) answers

-- the same of the key that was vouched for, if one was
abbrev pub VouchedAsked : List HostAnswer → List ℕ → List ℕ → Option Vouched → Type 0
VouchedAsked answers message signature None = Unit {0}
VouchedAsked answers message signature (Some vouched) = KeyAsked answers message signature vouched.key

-- what is vouched for a certificate, and the same of the key that is
abbrev pub CertificateAsked : List HostAnswer → List ℕ → List ℕ → Evidence → Type 0
CertificateAsked answers message signature evidence = (vouched : Option Vouched)
    × IsAmong (Certificate (record { evidence = evidence; vouched = vouched })) answers
    × VouchedAsked answers message signature vouched

-- a signature, by its certificate, or else under each of these keys
abbrev pub SignatureAsked : List HostAnswer → List (List ℕ) → List ℕ → List ℕ → Option Evidence → Type 0
SignatureAsked answers keys message signature None = All (KeyAsked answers message signature) keys
SignatureAsked answers keys message signature (Some evidence) = CertificateAsked answers message signature evidence

-- whether its log signed an entry, if the log's key is known
abbrev pub LogAsked : List HostAnswer → FinMap by_bytes (List ℕ) → Option LogEntryBundle → Type 0
LogAsked answers log_keys None = Unit {0}
LogAsked answers log_keys (Some entry) = (key : List ℕ) → key_of log_keys entry.log_id ≡ Some key
    → KeyAsked answers (log_text entry) entry.signed_entry_timestamp key

-- a certificate at the time of the log entry
abbrev pub evidence_at : Option LogEntryBundle → Option CertificateSignature → Option Evidence
evidence_at None certificate = None
evidence_at (Some entry) None = None
evidence_at (Some entry) (Some c) = Some (evidence c.certificate entry)

-- a layer whose signature is Base64: about its log entry, and about its signature
abbrev pub LayerAsked : List HostAnswer → List (List ℕ) → FinMap by_bytes (List ℕ) → SignatureLayer → Type 0
LayerAsked answers keys log_keys layer = (signature : List ℕ) → decoded_of standard layer.signature ≡ Some signature
    → LogAsked answers log_keys layer.bundle
    × SignatureAsked answers keys (signed_text layer.kind layer.content) signature
    (evidence_at layer.bundle layer.certificate_signature)
