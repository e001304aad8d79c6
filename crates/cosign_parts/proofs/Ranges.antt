-- The time and the index of an entry that is parsed are in the log's range.
use Rattle.std.proofs.Common.{◌≡◌, inl, inr, ℕ, ℤ, pos, List, Bool, true, false, Option, Some, None, refl, sym, subst, codes}
use Rattle.std.specs.Prelude.{if◌then◌else◌, int_lt, length, nat_le}
use Rattle.json_values.specs.Decimals.{decimal_of}
use Rattle.json_tables.specs.Reading.{◌>>=◌, i64_of, text_of}
use Rattle.json_tables.specs.Member.{required}
use Rattle.json_tables.specs.Bytes.{base64_of}
use Rattle.hex.specs.Hex.{encode_lower}
use Rattle.serde_json.specs.Data.{Data, null, boolean, number, string, array, object}
use Rattle.serde_json.specs.Find.{get}
use Rattle.cosign_parts.specs.LogEntry.{in_log, whole_of, short_decimal_of, whole_or_text_of, payload_entry_of, bundle_entry_of, IsInLog, InLog, EntriesAreInLog}
use Rattle.cosign_parts.specs.declared.log_entry.LogEntryBundle.{LogEntryBundle}

before : {A B : Type 0} (o : Option A) (f : A → Option B) (b : B) → (o >>= f) ≡ Some b → (a : A) × (o ≡ Some a) × (f a ≡ Some b)
before None f b e = absurd (cc e)
before (Some a) f b e = (a, refl, e)

some_same : {A : Type 0} (a b : A) → (let o : Option A = Some a in o) ≡ Some b → a ≡ b
some_same a b e = cc e

-- a number in the range is returned unchanged
in_range : (z y : ℤ) → in_log z ≡ Some y → IsInLog y
in_range z y e = by_tests (int_lt z (pos 0)) (int_lt (pos 9007199254740991) z) e where
  by_tests : (a b : Bool) → (if a then None else (if b then None else Some z)) ≡ Some y → IsInLog y
  by_tests true b h = absurd (cc h)
  by_tests false true h = absurd (cc h)
  by_tests false false h = let same : z ≡ y = cc h in subst (λ x. in_log x ≡ Some x) same (subst (λ x. in_log z ≡ Some x) (sym same) e)

whole_in_range : (d : Data) (y : ℤ) → whole_of d ≡ Some y → IsInLog y
whole_in_range d y e = let z = before (i64_of d) in_log y e in in_range z.0 y z.2

decimal_in_range : (text : List ℕ) (y : ℤ) → short_decimal_of text ≡ Some y → IsInLog y
decimal_in_range text y e = by_test (nat_le (length text) 16) e where
  by_test : (b : Bool) → (if b then decimal_of text >>= (λ number. in_log (pos number)) else None) ≡ Some y → IsInLog y
  by_test true h = let number = before (decimal_of text) (λ number. in_log (pos number)) y h in in_range (pos number.0) y number.2
  by_test false h = absurd (cc h)

text_in_range : (d : Data) (y : ℤ) → whole_or_text_of d ≡ Some y → IsInLog y
text_in_range (string text) y e = decimal_in_range text y e
text_in_range null y e = whole_in_range null y e
text_in_range (boolean b) y e = whole_in_range (boolean b) y e
text_in_range (number n) y e = whole_in_range (number n) y e
text_in_range (array ds) y e = whole_in_range (array ds) y e
text_in_range (object ms) y e = whole_in_range (object ms) y e

member_in_range : (f : Data → Option ℤ) (name : List ℕ) (d : Data) (y : ℤ) → ((d : Data) (y : ℤ) → f d ≡ Some y → IsInLog y) → required f name d ≡ Some y → IsInLog y
member_in_range f name d y each e = let found = before (get name d) f y e in each found.0 y found.2

-- what holds for each entry that `f` returns holds for the whole
along : {A : Type 0} (o : Option A) (f : A → Option LogEntryBundle) → ((a : A) → o ≡ Some a → (e : LogEntryBundle) → f a ≡ Some e → InLog e) → (e : LogEntryBundle) → (o >>= f) ≡ Some e → InLog e
along o f each e h = let found = before o f e h in each found.0 found.1 e found.2

made : (x e : LogEntryBundle) → IsInLog x.integrated_time → IsInLog x.log_index → (let o : Option LogEntryBundle = Some x in o) ≡ Some e → InLog e
made x e time index h = subst InLog (some_same x e h) (record { time = time; index = index })

payload : (d : Data) (e : LogEntryBundle) → payload_entry_of d ≡ Some e → InLog e
unfolding payload_entry_of
payload d =
    along (get (codes "Payload") d) _ (λ payload p.
    along (required text_of (codes "body") payload) _ (λ body b.
    along (required whole_of (codes "integratedTime") payload) _ (λ time t.
    along (required whole_of (codes "logIndex") payload) _ (λ index i.
    along (required text_of (codes "logID") payload) _ (λ id l.
    along (required base64_of (codes "SignedEntryTimestamp") d) _ (λ timestamp s e.
    made (record { signed_entry_timestamp = timestamp; body = body; integrated_time = time; log_index = index; log_id = id }) e
    (member_in_range whole_of (codes "integratedTime") payload time whole_in_range t)
    (member_in_range whole_of (codes "logIndex") payload index whole_in_range i)))))))

bundle : (d : Data) (e : LogEntryBundle) → bundle_entry_of d ≡ Some e → InLog e
unfolding bundle_entry_of
bundle d =
    along (required text_of (codes "canonicalizedBody") d) _ (λ body b.
    along (required whole_or_text_of (codes "integratedTime") d) _ (λ time t.
    along (required whole_or_text_of (codes "logIndex") d) _ (λ index i.
    along (get (codes "logId") d) _ (λ log l.
    along (required base64_of (codes "keyId") log) _ (λ key k.
    along (get (codes "inclusionPromise") d) _ (λ promise p.
    along (required base64_of (codes "signedEntryTimestamp") promise) _ (λ timestamp s e.
    made (record { signed_entry_timestamp = timestamp; body = body; integrated_time = time; log_index = index; log_id = encode_lower key }) e
    (member_in_range whole_or_text_of (codes "integratedTime") d time text_in_range t)
    (member_in_range whole_or_text_of (codes "logIndex") d index text_in_range i))))))))

pub entries : EntriesAreInLog
entries d e h = elim h [ inl p ↦ payload d e p | inr b ↦ bundle d e b ]
