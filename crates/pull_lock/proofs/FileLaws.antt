-- The file of a lock is read as the lock.
use Rattle.std.proofs.Common.{◌≡◌, ◌↔◌, ◌≤◌, ℕ, Bool, true, false, not, IsTrue, List, ◌∷◌, Option, Some, None, Result, Ok, Err, refl, sym, ap, subst, ◌∙◌, arith, nat_le}
use Rattle.std.specs.Prelude.{if◌then◌else◌, option_and_then}
use Rattle.std.proofs.lemmas.Bool.{leb-true, le-leb}
use Rattle.serde_json.specs.Data.{Data, depth}
use Rattle.serde_json.specs.Read.{max_depth}
use Rattle.serde_json.specs.Written.{has_float}
use Rattle.json_values.specs.JsonText.{json_of, is_plain, plain_json_of}
use Rattle.json_tables.specs.Reading.{◌>>=◌}
use Rattle.json_events.specs.Canonical.{Canonical}
use Rattle.json_events.specs.Values.{IsValue}
use Rattle.json_canon.specs.AsMaps.{as_maps}
use Rattle.json_canon.proofs.PipedBack.{texts_tell, texts_read_back}
use Rattle.std.specs.List.{list_all, zip}
use Rattle.pull_lock.specs.Files.{lock_data, lock_of, lock_in, is_before, increases, IsFileOf, IsJsonOf, ReadsLock, ReadsBack, IsLockOrMemory}
use Rattle.pull_lock.specs.declared.lock.Lock.{Lock}
use Rattle.pull_lock.specs.declared.lock.LockEntry.{LockEntry}
use Rattle.pull_lock.specs.declared.error.LockError.{LockError}
use Rattle.pull_lock.specs.declared.error.LockError.TheVariants as error
use Rattle.pull_lock.proofs.Unique.{value_is}
use Rattle.pull_lock.proofs.Values.{lock_in_order, lock_depth, lock_plain, lock_read}

-- the value of a text that nests no deeper than the limit
json_is : (d : Data) (t : List ℕ) → IsValue d → Canonical d t → depth d ≤ max_depth → as_maps d ≡ d → json_of t ≡ Some d
json_is d t value canonical low same =
    texts_read_back d t value canonical
    ∙ ap (λ b. if b then Some (as_maps d) else None) (le-leb (depth d) max_depth low)
    ∙ ap Some same

-- the file of a lock is JSON of the lock
pub file_read : (lock : Lock) (t : List ℕ) → IsValue (lock_data lock) → Canonical (lock_data lock) t → lock_in t ≡ Some lock
file_read lock t value canonical =
    let shallow : depth (lock_data lock) ≤ max_depth = let low = lock_depth lock in omega (arith, low) in
    ap (λ o. option_and_then (λ d. if is_plain d then Some d else None) o >>= lock_of) (json_is (lock_data lock) t value canonical shallow (lock_in_order lock))
    ∙ ap (λ b. (if not b then Some (lock_data lock) else None) >>= lock_of) (lock_plain lock)
    ∙ lock_read lock

-- a lock has one text
pub one_text : (lock : Lock) (t u : List ℕ) → IsValue (lock_data lock) → Canonical (lock_data lock) t → Canonical (lock_data lock) u → t ≡ u
one_text lock t u value is also = (texts_tell (lock_data lock) (lock_data lock) t u value value is also).1 refl

some_is : (a b : Lock) → (let o : Option Lock = Some a in o) ≡ Some b → a ≡ b
some_is a b is = cc is

-- ---- what the reader returns

-- the value that a lock was read from is that of the lock
record FromValue (lock : Lock) (bytes : List ℕ) : Type 0 where
  json : IsJsonOf lock (lock_data lock) bytes

from_json : (o : Option Data) (bytes : List ℕ) (lock : Lock) → plain_json_of bytes ≡ o → (o >>= lock_of) ≡ Some lock → FromValue lock bytes
from_json None bytes lock json is = absurd (cc is)
from_json (Some d) bytes lock json is =
    let same : d ≡ lock_data lock = value_is bytes d lock json is in
    record { json = record { json = json ∙ ap Some same; reads = subst (λ (v : Data). lock_of v ≡ Some lock) same is } }

from_value : (bytes : List ℕ) (lock : Lock) → lock_in bytes ≡ Some lock → FromValue lock bytes
from_value bytes lock is = from_json (plain_json_of bytes) bytes lock refl is

pub not_canonical : (bytes text : List ℕ) (lock : Lock) (b : Bool) → Some lock ≡ lock_in bytes → IsValue (lock_data lock) → Canonical (lock_data lock) text → IsTrue b ↔ (text ≡ bytes) → b ≡ false → ReadsLock bytes (Err error.NotCanonical)
not_canonical bytes text lock b reads value canonical same differs =
    (lock, lock_data lock, (from_value bytes lock (sym reads)).json, λ also. absurd (cc (sym differs ∙ same.1 (one_text lock text bytes value canonical also))))

pub not_in_order : (bytes text : List ℕ) (lock : Lock) (b c : Bool) → Some lock ≡ lock_in bytes → Canonical (lock_data lock) text → IsTrue b ↔ (text ≡ bytes) → b ≡ true → c ≡ increases lock.entries → c ≡ false → ReadsLock bytes (Err error.Order)
not_in_order bytes text lock b c reads canonical same passed is falls =
    (lock, lock_data lock, (from_value bytes lock (sym reads)).json, subst (Canonical (lock_data lock)) (same.0 passed) canonical, λ rises. absurd (cc (sym falls ∙ is ∙ rises)))

-- ---- a file is read back

reads_file : (bytes : List ℕ) (lock : Lock) → IsFileOf lock bytes → lock_in bytes ≡ Some lock
reads_file bytes lock file = file_read lock bytes file.value file.canonical

-- a value that is read as this lock, of a file of another one
same_lock : (bytes : List ℕ) (lock other : Lock) (value : Data) → IsJsonOf lock value bytes → IsFileOf other bytes → lock ≡ other
same_lock bytes lock other value json file =
    some_is lock other (sym (ap (λ (o : Option Data). o >>= lock_of) json.json ∙ json.reads) ∙ reads_file bytes other file)

pub reads_back : (bytes : List ℕ) (r : Result Lock LockError) → ReadsLock bytes r → ReadsBack bytes r
reads_back bytes (Ok found) h lock file = some_is found lock (sym h.0 ∙ reads_file bytes lock file)
reads_back bytes (Err error.Unreadable) h lock file = absurd (cc (sym h ∙ reads_file bytes lock file))
reads_back bytes (Err error.NotCanonical) (found, value, json, other) lock file =
    let same : found ≡ lock = same_lock bytes found lock value json file in
    let is : value ≡ lock_data lock = value_is bytes value found json.json json.reads ∙ ap lock_data same in
    absurd (other (subst (λ (d : Data). Canonical d bytes) (sym is) file.canonical))
reads_back bytes (Err error.Order) (found, value, json, canonical, falls) lock file =
    let same : found ≡ lock = same_lock bytes found lock value json file in
    absurd (falls (subst (λ (l : Lock). IsTrue (increases l.entries)) (sym same) file.order))
reads_back bytes (Err error.NotText) h lock file = absurd h
reads_back bytes (Err error.WantOfMemory) h lock file = refl

-- ---- the order of entries

pub rises : (entries others : List LockEntry) (e : LockEntry) (b : Bool) → entries ≡ e ∷ others → b ≡ list_all (λ p. is_before p.0 p.1) (zip entries others) → b ≡ increases entries
rises entries others e b split is = is ∙ ap (λ (es : List LockEntry). list_all (λ p. is_before p.0 p.1) (zip es others)) split ∙ ap increases (sym split)
