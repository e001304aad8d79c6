-- The value of a lock: its members are in the order of their names, no number in it is refused, and its table reads it as
-- the lock.
use Rattle.std.proofs.Common.{◌≡◌, ◌≤◌, ℕ, T, Bool, false, ◌||◌, List, [], ◌∷◌, ◌++◌, map, Option, Some, None, codes, is_lt, refl, sym, ap, subst, ◌∙◌, append_assoc, append-nil, arith, max}
use Rattle.std.specs.FinMap.{FinMap, entries, entries_sorted}
use Rattle.std.specs.FinMap.Entries.{below_all}
use Rattle.std.specs.Str.{chars}
use Rattle.serde_json.specs.Data.{Data, string, number, unsigned, array, object, Items, no_items, item, Members, no_members, member, depth, items_depth, members_depth}
use Rattle.serde_json.specs.View.{items_of}
use Rattle.serde_json.specs.Written.{has_float, items_have_float, members_have_float}
use Rattle.json_values.specs.Places.{by_bytes, Sorted}
use Rattle.json_values.specs.Writing.{listed, members_list, map_written}
use Rattle.json_values.proofs.Fronts.{both, both_0, both_1, put_last}
use Rattle.json_values.proofs.Maps.{Entries}
use Rattle.json_events.specs.declared.error.CanonError.{CanonError}
use Rattle.json_events.specs.Refused.{refused, refused_items, refused_members, first_of_two}
use Rattle.json_canon.specs.AsMaps.{put_all, as_maps, items_as_maps, members_as_maps}
use Rattle.json_tables.specs.Again.{ReadsAgain}
use Rattle.json_tables.specs.Fields.{fields}
use Rattle.json_tables.specs.Reading.{◌>>=◌, text_of, items_by, list_of, map_of}
use Rattle.json_tables.proofs.Entries.{map_again}
use Rattle.cosign_parts.specs.declared.layer.LayerKind.{LayerKind}
use Rattle.cosign_parts.specs.declared.layer.LayerKind.TheVariants.{Payload, Bundle}
use Rattle.pull_lock.specs.Files.{kind_text, kind_of, signature_data, entry_data, lock_data, signature_of, entry_of, lock_of}
use Rattle.pull_lock.specs.declared.lock.Lock.{Lock}
use Rattle.pull_lock.specs.declared.lock.LockEntry.{LockEntry}
use Rattle.pull_lock.specs.declared.lock.LockedSignature.{LockedSignature}

abbrev Notes : Type 0
Notes = FinMap by_bytes (List ℕ)

-- ---- the members are in the order of their names

texts_in_order : (ts : List (List ℕ)) → items_as_maps (items_of (map string ts)) ≡ items_of (map string ts)
texts_in_order [] = refl
texts_in_order (t ∷ ts) = ap (item (string t)) (texts_in_order ts)

notes_kept : (es : Entries (List ℕ)) → members_as_maps (members_list string es) ≡ members_list string es
notes_kept [] = refl
notes_kept (e ∷ es) = ap (member e.0 (string e.1)) (notes_kept es)

below_front : (x : List ℕ) (es fs : Entries (List ℕ)) → T (below_all by_bytes x (es ++ fs)) → T (below_all by_bytes x es)
below_front x [] fs h = tt
below_front x (z ∷ es) fs h = both _ _ (both_0 _ _ h) (below_front x es fs (both_1 (is_lt (by_bytes x z.0)) _ h))

sorted_front : (es fs : Entries (List ℕ)) → Sorted (es ++ fs) → Sorted es
sorted_front [] fs h = tt
sorted_front (y ∷ es) fs h = both _ _ (below_front y.0 es fs (both_0 _ _ h)) (sorted_front es fs (both_1 (below_all by_bytes y.0 (es ++ fs)) _ h))

-- sorted members that are inserted one after another stay as they are
notes_put : (before es : Entries (List ℕ)) → Sorted (before ++ es) → put_all (members_list string es) (members_list string before) ≡ members_list string (before ++ es)
notes_put before [] sorted = ap (members_list string) (sym (append-nil before))
notes_put before (e ∷ es) sorted =
    let joined = append_assoc before (e ∷ []) es in
    let sorted_both = subst Sorted (sym joined) sorted in
    ap (put_all (members_list string es)) (put_last string before e (sorted_front (before ++ e ∷ []) es sorted_both))
    ∙ notes_put (before ++ e ∷ []) es sorted_both ∙ ap (members_list string) joined

notes_in_order : (m : Notes) → as_maps (map_written string m) ≡ map_written string m
notes_in_order m = ap (λ ms. object (put_all ms no_members)) (notes_kept (entries m)) ∙ ap object (notes_put [] (entries m) (entries_sorted m))

signature_in_order : (s : LockedSignature) → as_maps (signature_data s) ≡ signature_data s
unfolding signature_data chars
signature_in_order s = ap (λ notes. object (
    member (codes "annotations") notes (
    member (codes "content") (string s.content) (
    member (codes "kind") (string (kind_text s.kind)) (
    member (codes "oci_digest") (string s.oci_digest) no_members))))) (notes_in_order s.annotations)

entry_in_order : (e : LockEntry) → as_maps (entry_data e) ≡ entry_data e
unfolding entry_data chars
entry_in_order e = λ i. object (
    member (codes "accepted") (array (texts_in_order e.accepted i)) (
    member (codes "digest") (string e.digest) (
    member (codes "first") (string e.first) (
    member (codes "image") (string e.image) (
    member (codes "manifest") (string e.manifest) (
    member (codes "manifest_digest") (string e.manifest_digest) (
    member (codes "signature") (signature_in_order e.signature i) no_members)))))))

entries_in_order : (es : List LockEntry) → items_as_maps (items_of (map entry_data es)) ≡ items_of (map entry_data es)
entries_in_order [] = refl
entries_in_order (e ∷ es) = λ i. item (entry_in_order e i) (entries_in_order es i)

pub lock_in_order : (lock : Lock) → as_maps (lock_data lock) ≡ lock_data lock
unfolding lock_data chars
lock_in_order lock = ap (λ es. object (
    member (codes "entries") (array es) (
    member (codes "version") (number (unsigned 1)) no_members))) (entries_in_order lock.entries)

-- ---- how deep it nests

max_within : (a b n : ℕ) → a ≤ n → b ≤ n → max a b ≤ n
max_within a b n h k = omega (arith, h, k)

texts_flat : (ts : List (List ℕ)) → items_depth (items_of (map string ts)) ≤ 0
texts_flat [] = omega arith
texts_flat (t ∷ ts) = max_within 0 _ 0 (omega arith) (texts_flat ts)

notes_flat : (es : Entries (List ℕ)) → members_depth (members_list string es) ≤ 0
notes_flat [] = omega arith
notes_flat (e ∷ es) = max_within 0 _ 0 (omega arith) (notes_flat es)

entry_depth : (e : LockEntry) → depth (entry_data e) ≤ 3
unfolding entry_data signature_data
entry_depth e =
    let notes = notes_flat (entries e.signature.annotations) in
    let texts = texts_flat e.accepted in
    omega (arith, notes, texts)

entries_depth : (es : List LockEntry) → items_depth (items_of (map entry_data es)) ≤ 3
entries_depth [] = omega arith
entries_depth (e ∷ es) = max_within (depth (entry_data e)) (items_depth (items_of (map entry_data es))) 3 (entry_depth e) (entries_depth es)

pub lock_depth : (lock : Lock) → depth (lock_data lock) ≤ 5
unfolding lock_data
lock_depth lock = let entries = entries_depth lock.entries in omega (arith, entries)

-- ---- it contains no float, and none of its numbers is refused

texts_plain : (ts : List (List ℕ)) → items_have_float (items_of (map string ts)) ≡ false
texts_plain [] = refl
texts_plain (t ∷ ts) = texts_plain ts

pub notes_read : (m : Notes) → ReadsAgain (map_of text_of) (map_written string m) m false
notes_read m = map_again text_of string (λ _. refl) (λ _. refl) m

pub signature_plain : (s : LockedSignature) → has_float (signature_data s) ≡ false
unfolding signature_data
signature_plain s = ap (λ b. b || false) ((notes_read s.annotations).plain refl)

pub entry_plain : (e : LockEntry) → has_float (entry_data e) ≡ false
unfolding entry_data
entry_plain e = ap (λ b. b || (has_float (signature_data e.signature) || false)) (texts_plain e.accepted) ∙ ap (λ b. b || false) (signature_plain e.signature)

entries_plain : (es : List LockEntry) → items_have_float (items_of (map entry_data es)) ≡ false
entries_plain [] = refl
entries_plain (e ∷ es) = ap (λ b. b || items_have_float (items_of (map entry_data es))) (entry_plain e) ∙ entries_plain es

pub lock_plain : (lock : Lock) → has_float (lock_data lock) ≡ false
unfolding lock_data
lock_plain lock = ap (λ b. b || false) (entries_plain lock.entries)

texts_taken : (ts : List (List ℕ)) → refused_items (items_of (map string ts)) ≡ None
texts_taken [] = refl
texts_taken (t ∷ ts) = texts_taken ts

notes_taken : (es : Entries (List ℕ)) → refused_members (members_list string es) ≡ None
notes_taken [] = refl
notes_taken (e ∷ es) = notes_taken es

entry_taken : (e : LockEntry) → refused (entry_data e) ≡ None
unfolding entry_data signature_data
entry_taken e =
    ap (λ o. first_of_two o (first_of_two (first_of_two (refused_members (members_list string (entries e.signature.annotations))) None) None)) (texts_taken e.accepted)
    ∙ ap (λ o. first_of_two (first_of_two o None) None) (notes_taken (entries e.signature.annotations))

entries_taken : (es : List LockEntry) → refused_items (items_of (map entry_data es)) ≡ None
entries_taken [] = refl
entries_taken (e ∷ es) = ap (λ o. first_of_two o (refused_items (items_of (map entry_data es)))) (entry_taken e) ∙ entries_taken es

-- none of its numbers is refused
pub lock_taken : (lock : Lock) → refused (lock_data lock) ≡ None
unfolding lock_data
lock_taken lock = ap (λ o. first_of_two o None) (entries_taken lock.entries)

-- ---- the table reads it

texts_read : (ts : List (List ℕ)) → items_by text_of (items_of (map string ts)) ≡ Some ts
texts_read [] = refl
texts_read (t ∷ ts) = ap (λ o. o >>= λ us. Some (t ∷ us)) (texts_read ts)

kind_read : (kind : LayerKind) → kind_of (string (kind_text kind)) ≡ Some kind
unfolding chars
kind_read Payload = refl
kind_read Bundle = refl

pub signature_read : (s : LockedSignature) → signature_of (signature_data s) ≡ Some s
unfolding signature_of signature_data chars
signature_read s = rw (kind_read s.kind, (notes_read s.annotations).reads) refl

pub entry_read : (e : LockEntry) → entry_of (entry_data e) ≡ Some e
unfolding entry_of entry_data chars
entry_read e = rw (texts_read e.accepted, signature_read e.signature) refl

entries_read : (es : List LockEntry) → items_by entry_of (items_of (map entry_data es)) ≡ Some es
entries_read [] = refl
entries_read (e ∷ es) =
    ap (λ o. o >>= λ x. items_by entry_of (items_of (map entry_data es)) >>= λ xs. Some (x ∷ xs)) (entry_read e)
    ∙ ap (λ o. o >>= λ xs. Some (e ∷ xs)) (entries_read es)

pub lock_read : (lock : Lock) → lock_of (lock_data lock) ≡ Some lock
unfolding lock_of lock_data chars
lock_read lock = rw (entries_read lock.entries) refl

-- ---- it is what the writers write

pub signature_written : (s : LockedSignature) (kind : List ℕ) → kind ≡ kind_text s.kind
    → fields ((codes "annotations", Some (map_written string s.annotations)) ∷ (codes "content", Some (string s.content)) ∷ (codes "kind", Some (string kind)) ∷ (codes "oci_digest", Some (string s.oci_digest)) ∷ []) ≡ signature_data s
unfolding signature_data chars
signature_written s kind is = ap (λ (text : List ℕ). object (
    member (codes "annotations") (map_written string s.annotations) (
    member (codes "content") (string s.content) (
    member (codes "kind") (string text) (
    member (codes "oci_digest") (string s.oci_digest) no_members))))) is

pub entry_written : (e : LockEntry)
    → fields ((codes "accepted", Some (listed string e.accepted)) ∷ (codes "digest", Some (string e.digest)) ∷ (codes "first", Some (string e.first)) ∷ (codes "image", Some (string e.image)) ∷ (codes "manifest", Some (string e.manifest)) ∷ (codes "manifest_digest", Some (string e.manifest_digest)) ∷ (codes "signature", Some (signature_data e.signature)) ∷ []) ≡ entry_data e
unfolding entry_data chars
entry_written e = refl

pub lock_written : (lock : Lock) → fields ((codes "entries", Some (listed entry_data lock.entries)) ∷ (codes "version", Some (number (unsigned 1))) ∷ []) ≡ lock_data lock
unfolding lock_data chars
lock_written lock = refl

pub signature_again : (s : LockedSignature) → ReadsAgain signature_of (signature_data s) s false
unfolding signature_data
signature_again s = record { reads = signature_read s; is_there = refl; plain = λ _. signature_plain s }

pub entry_again : (e : LockEntry) → ReadsAgain entry_of (entry_data e) e false
unfolding entry_data
entry_again e = record { reads = entry_read e; is_there = refl; plain = λ _. entry_plain e }
