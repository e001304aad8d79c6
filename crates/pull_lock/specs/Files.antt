-- The file of a lock: the canonical text (RFC 8785) of its value.
use Rattle.std.specs.Prelude.{◌≡◌, ℕ, Bool, true, List, [], ◌∷◌, Option, Some, None, Result, Ok, Err, IsTrue, ⊤, codes}
use Rattle.std.specs.Prelude.{if◌then◌else◌, bytes_eq, ◌==◌}
use Rattle.std.specs.List.{list_all, zip}
use Rattle.std.specs.Ordering.{is_lt}
use Rattle.serde_json.specs.Data.{Data, string, number, unsigned, object, no_members, member}
use Rattle.json_values.specs.JsonText.{plain_json_of}
use Rattle.json_values.specs.Places.{by_bytes}
use Rattle.json_values.specs.Writing.{listed, map_written}
use Rattle.json_events.specs.Canonical.{Canonical}
use Rattle.json_events.specs.Values.{IsValue}
use Rattle.json_tables.specs.Reading.{◌>>=◌, text_of, u8_of, list_of, map_of}
use Rattle.json_tables.specs.Member.{required}
use Rattle.json_tables.specs.Objects.{only}
use Rattle.json_tables.specs.Plain.{read_plain}
use Rattle.cosign_parts.specs.declared.layer.LayerKind.{LayerKind}
use Rattle.cosign_parts.specs.declared.layer.LayerKind.TheVariants.{Payload, Bundle}
use Rattle.pull_lock.specs.declared.lock.Lock.{Lock}
use Rattle.pull_lock.specs.declared.lock.LockEntry.{LockEntry}
use Rattle.pull_lock.specs.declared.lock.LockedSignature.{LockedSignature}
use Rattle.pull_lock.specs.declared.error.LockError.{LockError}
use Rattle.pull_lock.specs.declared.error.LockError.TheVariants as error

-- ---- the value

-- the name of a layer's form
abbrev pub kind_text : LayerKind → List ℕ
kind_text Payload = codes "payload"
kind_text Bundle = codes "bundle"

unfoldable pub signature_data : LockedSignature → Data
signature_data s = object (
    member (codes "annotations") (map_written string s.annotations) (
    member (codes "content") (string s.content) (
    member (codes "kind") (string (kind_text s.kind)) (
    member (codes "oci_digest") (string s.oci_digest) no_members))))

unfoldable pub entry_data : LockEntry → Data
entry_data e = object (
    member (codes "accepted") (listed string e.accepted) (
    member (codes "digest") (string e.digest) (
    member (codes "first") (string e.first) (
    member (codes "image") (string e.image) (
    member (codes "manifest") (string e.manifest) (
    member (codes "manifest_digest") (string e.manifest_digest) (
    member (codes "signature") (signature_data e.signature) no_members)))))))

unfoldable pub lock_data : Lock → Data
lock_data lock = object (
    member (codes "entries") (listed entry_data lock.entries) (
    member (codes "version") (number (unsigned 1)) no_members))

-- ---- what is read

abbrev pub kind_named : List ℕ → Option LayerKind
kind_named text =
    if bytes_eq text (codes "payload") then Some Payload
    else (if bytes_eq text (codes "bundle") then Some Bundle else None)

abbrev pub kind_of : Data → Option LayerKind
kind_of d = text_of d >>= kind_named

-- the version 1
abbrev pub version_of : Data → Option ℕ
version_of d = u8_of d >>= λ version. if version == 1 then Some version else None

abbrev pub signature_names : List (List ℕ)
signature_names = codes "annotations" ∷ codes "content" ∷ codes "kind" ∷ codes "oci_digest" ∷ []

abbrev pub entry_names : List (List ℕ)
entry_names =
    codes "accepted"
    ∷ codes "digest"
    ∷ codes "first"
    ∷ codes "image"
    ∷ codes "manifest"
    ∷ codes "manifest_digest"
    ∷ codes "signature"
    ∷ []

-- all members must be present, and no others
unfoldable pub signature_of : Data → Option LockedSignature
signature_of d = do
  known ← only signature_names d
  kind ← required kind_of (codes "kind") d
  annotations ← required (map_of text_of) (codes "annotations") d
  content ← required text_of (codes "content") d
  oci_digest ← required text_of (codes "oci_digest") d
  Some (record { kind = kind; oci_digest = oci_digest; content = content; annotations = annotations })

unfoldable pub entry_of : Data → Option LockEntry
entry_of d = do
  known ← only entry_names d
  accepted ← required (list_of text_of) (codes "accepted") d
  digest ← required text_of (codes "digest") d
  first ← required text_of (codes "first") d
  image ← required text_of (codes "image") d
  manifest ← required text_of (codes "manifest") d
  manifest_digest ← required text_of (codes "manifest_digest") d
  signature ← required signature_of (codes "signature") d
  Some (record {
    image = image;
    accepted = accepted;
    digest = digest;
    first = first;
    manifest_digest = manifest_digest;
    manifest = manifest;
    signature = signature;
  })

unfoldable pub lock_of : Data → Option Lock
lock_of d = do
  known ← only (codes "entries" ∷ codes "version" ∷ []) d
  version ← required version_of (codes "version") d
  entries ← required (list_of entry_of) (codes "entries") d
  Some (record { entries = entries })

-- the lock in a JSON text without floats
abbrev pub lock_in : List ℕ → Option Lock
lock_in bytes = read_plain lock_of bytes

-- ---- files

abbrev pub is_before : LockEntry → LockEntry → Bool
is_before e next = is_lt (by_bytes e.image next.image)

-- whether the entries increase strictly by the bytes of their images: each is before the next one
abbrev pub increases : List LockEntry → Bool
increases [] = true
increases (e ∷ es) = list_all (λ p. is_before p.0 p.1) (zip (e ∷ es) es)

-- the bytes are the file of the lock: its canonical text, and its entries increase
pub record IsFileOf (lock : Lock) (bytes : List ℕ) : Type 0 where
  pub value : IsValue (lock_data lock)
  pub canonical : Canonical (lock_data lock) bytes
  pub order : IsTrue (increases lock.entries)

-- the file, or `Order` if the entries do not increase, or out of memory
abbrev pub WritesLock : Lock → Result (List ℕ) LockError → Type 0
WritesLock lock (Ok bytes) = IsFileOf lock bytes
WritesLock lock (Err error.Order) = ¬ IsTrue (increases lock.entries)
WritesLock lock (Err error.WantOfMemory) = ⊤
WritesLock lock (Err _) = ⊥

-- the bytes are JSON of this value, without floats, and the value is read as this lock
pub record IsJsonOf (lock : Lock) (value : Data) (bytes : List ℕ) : Type 0 where
  pub json : plain_json_of bytes ≡ Some value
  pub reads : lock_of value ≡ Some lock

-- the lock of the file, or the first check that fails: the table, the canonical text, the order; or out of memory
abbrev pub ReadsLock : List ℕ → Result Lock LockError → Type 0
ReadsLock bytes (Ok lock) = (lock_in bytes ≡ Some lock) × IsFileOf lock bytes
ReadsLock bytes (Err error.Unreadable) = lock_in bytes ≡ None
ReadsLock bytes (Err error.NotCanonical) =
    (lock : Lock) × (value : Data) × IsJsonOf lock value bytes × ¬ Canonical value bytes
ReadsLock bytes (Err error.Order) =
    (lock : Lock) × (value : Data) × IsJsonOf lock value bytes × Canonical value bytes × ¬ IsTrue (increases lock.entries)
ReadsLock bytes (Err error.NotText) = ⊥
ReadsLock bytes (Err error.WantOfMemory) = ⊤

-- the result is this lock, or out of memory
abbrev pub IsLockOrMemory : Lock → Result Lock LockError → Type 0
IsLockOrMemory lock (Ok found) = found ≡ lock
IsLockOrMemory lock (Err e) = e ≡ error.WantOfMemory

-- the file of a lock is read as this lock
abbrev pub ReadsBack : List ℕ → Result Lock LockError → Type 0
ReadsBack bytes result = (lock : Lock) → IsFileOf lock bytes → IsLockOrMemory lock result
