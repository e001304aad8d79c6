-- The contents of a bundle (sigstore bundle v0.3, in this project's profile).
use Rattle.std.specs.Prelude.{ℕ, List, [], ◌∷◌, Bool, false, Option, Some, None, is_some, option_map, codes}
use Rattle.std.specs.FinMap.{get as digits_by}
use Rattle.json_tables.specs.Bytes.{base64_of}
use Rattle.json_tables.specs.Reading.{◌>>=◌, text_of, list_of, map_of}
use Rattle.json_tables.specs.Paths.{text_at}
use Rattle.json_tables.specs.Objects.{an_object}
use Rattle.json_tables.specs.Member.{required, optional}
use Rattle.json_values.specs.JsonText.{plain_json_of}
use Rattle.oci_digests.specs.Checks.{parts_of}
use Rattle.serde_json.specs.Data.{Data, null, Items, no_items, item, array}
use Rattle.serde_json.specs.Find.{get, as_array}
use Rattle.cosign_parts.specs.LogEntry.{bundle_entry_of}
use Rattle.cosign_parts.specs.Payload.{equal_to}
use Rattle.cosign_parts.specs.declared.bundle.BundleParts.{BundleParts}
use Rattle.cosign_parts.specs.declared.bundle.Envelope.{Envelope}
use Rattle.cosign_parts.specs.declared.log_entry.LogEntryBundle.{LogEntryBundle}
use Rattle.cosign_parts.specs.declared.shown.Found.{Found}
use Rattle.cosign_parts.specs.declared.shown.Found.TheVariants.{Absent, Unreadable, Read}
use Rattle.cosign_parts.specs.declared.shown.Subject.{Subject}

-- a subject of an in-toto statement
abbrev pub subject_of : Data → Option Subject
subject_of d = required (map_of text_of) (codes "digest") d >>= λ digest. Some (record { digest = digest })

-- the subjects of the statement that the bytes encode in JSON without floats
abbrev pub subjects_of : List ℕ → Option (List Subject)
subjects_of payload = plain_json_of payload >>= required (list_of subject_of) (codes "subject")

-- the value, if it is an object
abbrev pub object_only : Data → Option Data
object_only d = an_object d >>= λ known. Some d

-- the one item, if it is an object
abbrev pub only_object : Items → Option Data
only_object no_items = None
only_object (item d no_items) = object_only d
only_object (item d (item e ds)) = None

-- the one object of a list
abbrev pub one_object : Data → Option Data
one_object d = as_array d >>= only_object

-- the one object of the envelope's signatures
abbrev pub signature_object : Data → Option Data
signature_object d = get (codes "dsseEnvelope") d >>= get (codes "signatures") >>= one_object

-- an object whose `certificate` is an object and whose `tlogEntries` is a list, if they are present and not null
abbrev pub material_of : Data → Option Data
material_of d = do
  material ← get (codes "verificationMaterial") d
  known ← an_object material
  certificate ← optional an_object (codes "certificate") material
  entries ← optional as_array (codes "tlogEntries") material
  Some material

-- the envelope of a value that has the form of a bundle
unfoldable pub envelope_of : Data → Option Envelope
envelope_of d = do
  media_type ← text_at (codes "mediaType" ∷ []) d
  known ← equal_to (codes "application/vnd.dev.sigstore.bundle.v0.3+json") media_type
  payload_type ← text_at (codes "dsseEnvelope" ∷ codes "payloadType" ∷ []) d
  signature ← signature_object d
  material ← material_of d
  encoded ← get (codes "dsseEnvelope") d
  payload ← required base64_of (codes "payload") encoded
  Some (record { payload_type = payload_type; payload = payload })

-- the envelope of the bundle that the bytes encode in JSON without floats
abbrev pub envelope_in : List ℕ → Option Envelope
envelope_in bytes = plain_json_of bytes >>= envelope_of

-- the subjects of the statement in a bundle's envelope
abbrev pub statement_of : Data → Option (List Subject)
statement_of d = envelope_of d >>= λ envelope. subjects_of envelope.payload

-- the string of the one signature
abbrev pub signature_at : Data → Option (List ℕ)
signature_at d = signature_object d >>= get (codes "sig") >>= text_of

-- what was parsed, if something is present
abbrev pub read_or_not : {X : Type 0} → Option X → Found X
read_or_not None = Unreadable
read_or_not (Some x) = Read x

-- the certificate's bytes, if there is one
abbrev pub certificate_in : Option Data → Found (List ℕ)
certificate_in None = Absent
certificate_in (Some null) = Absent
certificate_in (Some d) = read_or_not (required base64_of (codes "rawBytes") d)

abbrev pub certificate_at : Data → Found (List ℕ)
certificate_at d = certificate_in (get (codes "verificationMaterial") d >>= get (codes "certificate"))

-- the first item of a list
abbrev pub first_item : Data → Option Data
first_item (array (item d ds)) = Some d
first_item d = None

-- the first log entry, if it has a promise of the log
abbrev pub promised_entry : Data → Option Data
promised_entry d = do
  entry ← get (codes "verificationMaterial") d >>= get (codes "tlogEntries") >>= first_item
  promise ← get (codes "inclusionPromise") entry >>= get (codes "signedEntryTimestamp")
  Some entry

abbrev pub entry_in : Option Data → Found LogEntryBundle
entry_in None = Absent
entry_in (Some d) = read_or_not (bundle_entry_of d)

abbrev pub entry_at : Data → Found LogEntryBundle
entry_at d = entry_in (promised_entry d)

-- for private clauses: what a bundle holds, with the payload of its envelope
abbrev pub held_with : Data → Envelope → BundleParts
held_with d envelope = record {
  payload = envelope.payload;
  signature = signature_at d;
  log_entry = entry_at d;
  certificate = certificate_at d;
}

abbrev pub held_by : Data → Option BundleParts
held_by d = option_map (held_with d) (envelope_of d)

abbrev pub held_in : List ℕ → Option BundleParts
held_in content = plain_json_of content >>= held_by

-- whether the subject has these digits for this algorithm
abbrev pub has_digits : Option (List ℕ × List ℕ) → Subject → Bool
has_digits None subject = false
has_digits (Some parts) subject = is_some (digits_by subject.digest parts.0 >>= equal_to parts.1)

-- whether the subject's digests have the digits of the digest text for its algorithm
abbrev pub has_digest : List ℕ → Subject → Bool
has_digest d subject = has_digits (parts_of d) subject
