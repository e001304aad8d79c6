-- Entries of a transparency log: how they are parsed, what the log signs of them, and which signature they log.
use Rattle.std.specs.Prelude.{◌≡◌, ◌⊎◌, ℕ, ℤ, pos, List, [], ◌∷◌, Bool, IsTrue, nat_le, length, Option}
use Rattle.std.specs.Prelude.{Some, None, is_some, codes, if◌then◌else◌}
use Rattle.std.specs.Fmt.{signed_decimal}
use Rattle.std.specs.FinMap.{get as key_of}
use Rattle.base64.specs.Engines.{standard}
use Rattle.base64.specs.GeneralPurpose.{decoded_of}
use Rattle.hex.specs.Hex.{encode_lower}
use Rattle.sha2.specs.Sha256.{sha256}
use Rattle.json_events.specs.Canonical.{Canonical, object_text}
use Rattle.json_tables.specs.Bytes.{base64_of}
use Rattle.json_tables.specs.Reading.{◌>>=◌, text_of, i64_of, within}
use Rattle.json_tables.specs.Paths.{text_at}
use Rattle.json_tables.specs.Member.{required}
use Rattle.json_values.specs.Canon.{quoted_text}
use Rattle.json_values.specs.Decimals.{decimal_of}
use Rattle.json_values.specs.JsonText.{json_of, plain_json_of}
use Rattle.serde_json.specs.Data.{Data, unsigned, negative, string, number, object, no_members, member}
use Rattle.serde_json.specs.Find.{get}
use Rattle.cosign_parts.specs.Payload.{equal_to}
use Rattle.cosign_parts.specs.Trust.{Trust}
use Rattle.cosign_parts.specs.declared.log_entry.LogEntryBundle.{LogEntryBundle}

-- from 0 to 2^53 - 1, the greatest integer that every JSON parser preserves
abbrev pub in_log : ℤ → Option ℤ
in_log z = within (pos 0) (pos 9007199254740991) z

-- a time or an index, as an integer
abbrev pub whole_of : Data → Option ℤ
whole_of d = i64_of d >>= in_log

-- the number that 1 to 16 decimal digits denote
abbrev pub short_decimal_of : List ℕ → Option ℤ
short_decimal_of text = if nat_le (length text) 16 then decimal_of text >>= (λ number. in_log (pos number)) else None

-- a time or an index of a bundle: an integer, or a string with its decimal digits
abbrev pub whole_or_text_of : Data → Option ℤ
whole_or_text_of (string text) = short_decimal_of text
whole_or_text_of d = whole_of d

-- the log entry of a payload
unfoldable pub payload_entry_of : Data → Option LogEntryBundle
payload_entry_of d = do
  payload ← get (codes "Payload") d
  body ← required text_of (codes "body") payload
  integrated_time ← required whole_of (codes "integratedTime") payload
  log_index ← required whole_of (codes "logIndex") payload
  log_id ← required text_of (codes "logID") payload
  timestamp ← required base64_of (codes "SignedEntryTimestamp") d
  Some (record {
    signed_entry_timestamp = timestamp;
    body = body;
    integrated_time = integrated_time;
    log_index = log_index;
    log_id = log_id;
  })

-- the entry in the annotation of a payload
abbrev pub annotated_entry : List ℕ → Option LogEntryBundle
annotated_entry text = json_of text >>= payload_entry_of

-- the entry in a bundle; its log's id is the lower-case hexadecimal of the key's id
unfoldable pub bundle_entry_of : Data → Option LogEntryBundle
bundle_entry_of d = do
  body ← required text_of (codes "canonicalizedBody") d
  integrated_time ← required whole_or_text_of (codes "integratedTime") d
  log_index ← required whole_or_text_of (codes "logIndex") d
  log ← get (codes "logId") d
  key_id ← required base64_of (codes "keyId") log
  promise ← get (codes "inclusionPromise") d
  timestamp ← required base64_of (codes "signedEntryTimestamp") promise
  Some (record {
    signed_entry_timestamp = timestamp;
    body = body;
    integrated_time = integrated_time;
    log_index = log_index;
    log_id = encode_lower key_id;
  })

-- an integer as JSON data
abbrev pub whole : ℤ → Data
whole (pos n) = number (unsigned n)
whole z = number (negative z)

-- what a log signs of an entry: an object with its body, its time, its log's id and its index
abbrev pub log_object : LogEntryBundle → Data
log_object e =
    object (member (codes "body") (string e.body)
    (member (codes "integratedTime") (whole e.integrated_time)
    (member (codes "logID") (string e.log_id)
    (member (codes "logIndex") (whole e.log_index) no_members))))

-- the canonical text of that object (RFC 8785)
abbrev pub log_text : LogEntryBundle → List ℕ
log_text e = object_text (
    (codes "body", quoted_text e.body)
    ∷ (codes "integratedTime", signed_decimal e.integrated_time)
    ∷ (codes "logID", quoted_text e.log_id)
    ∷ (codes "logIndex", signed_decimal e.log_index)
    ∷ [])

-- a log whose key is known signed the entry, over its canonical text
pub record LogSigned (trust : Trust) (e : LogEntryBundle) : Type 0 where
  pub key : List ℕ
  pub known : key_of trust.log_keys e.log_id ≡ Some key
  pub signed : IsTrue (trust.valid key (log_text e) e.signed_entry_timestamp)

-- this string is at the end of the path
abbrev pub text_is : List (List ℕ) → List ℕ → Data → Option (List ℕ)
text_is path text d = text_at path d >>= equal_to text

-- the kind of a `hashedrekord` entry, if it logs this text with this signature
unfoldable pub logged : List ℕ → List ℕ → Data → Option (List ℕ)
logged text signature d = do
  kind ← text_is (codes "kind" ∷ []) (codes "hashedrekord") d
  algorithm ← text_is (codes "spec" ∷ codes "data" ∷ codes "hash" ∷ codes "algorithm" ∷ []) (codes "sha256") d
  hash ← text_is (codes "spec" ∷ codes "data" ∷ codes "hash" ∷ codes "value" ∷ []) (encode_lower (sha256 text)) d
  content ← text_at (codes "spec" ∷ codes "signature" ∷ codes "content" ∷ []) d
  bytes ← decoded_of standard content
  equal_to signature bytes

-- whether the body of an entry states that it logs this text with this signature
abbrev pub logs : List ℕ → List ℕ → List ℕ → Bool
logs body text signature = is_some (decoded_of standard body >>= plain_json_of >>= logged text signature)

-- the number is in the log's range
abbrev pub IsInLog : ℤ → Type 0
IsInLog z = in_log z ≡ Some z

-- the entry's time and index are in the log's range
pub record InLog (e : LogEntryBundle) : Type 0 where
  pub time : IsInLog e.integrated_time
  pub index : IsInLog e.log_index

-- the text that a log signs is canonical
abbrev pub TextsAreCanonical : Type 0
TextsAreCanonical = (e : LogEntryBundle) → InLog e → Canonical (log_object e) (log_text e)

-- the time and the index of each entry that is parsed are in the log's range
abbrev pub EntriesAreInLog : Type 0
EntriesAreInLog =
    (d : Data) (e : LogEntryBundle) → (payload_entry_of d ≡ Some e) ⊎ (bundle_entry_of d ≡ Some e) → InLog e
