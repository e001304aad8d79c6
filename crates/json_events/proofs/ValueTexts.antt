-- The result of the events of a value: its canonical text, where the value is due.
use Rattle.std.proofs.Common.{◌≡◌, ℕ, ℤ, List, [], ◌∷◌, ◌++◌, Bool, true, false, if◌then◌else◌, Option, Some, None, refl, sym, ap, subst, ◌∙◌, append_assoc, append-nil, codes}
use Rattle.std.specs.BTreeSet.{insert_key}
use Rattle.std.specs.Fmt.{signed_decimal}
use Rattle.std.specs.List.{join_with_byte, list_any, AllByRecursion}
use Rattle.std.specs.List.Sorted.{IsStrictlySortedBy}
use Rattle.std.specs.Ordering.{is_eq}
use Rattle.serde_json.specs.Data.{Num, Data, null, boolean, number, string, array, object, Items, no_items, item, Members, no_members, member}
use Rattle.serde_json.specs.Find.{as_integer}
use Rattle.serde_json.specs.Written.{comma_if}
use Rattle.json_values.specs.Canon.{quoted_text}
use Rattle.json_events.specs.declared.error.CanonError.TheVariants.{IntegerOutOfRange, DuplicateKey}
use Rattle.json_events.specs.declared.property.JsonProperty.{JsonProperty}
use Rattle.json_events.specs.declared.spot.Spot.{Spot}
use Rattle.json_events.specs.declared.spot.Spot.TheVariants.{Start, Whole, Finished, Items as AtItems, ItemDue, ItemDone, Names, NameDue, NameDone, Named, ValueDue, ValueDone}
use Rattle.json_events.specs.Canonical.{Canonical, CanonicalItems, CanonicalMembers, Entry, in_range, truth_text, array_text}
use Rattle.json_events.specs.Drafts.{Draft, Turn, refused as refuses, moves, Stage, step, carried_out, act, run, fresh, writes, at, after_value, level, where_due, is_at, places, by_key}
use Rattle.json_events.specs.Events.{Event, write_null, write_bool, write_integer, write_string, begin_array, begin_array_value, end_array_value, end_array, begin_object, begin_object_key, end_object_key, begin_object_value, end_object_value, end_object}
use Rattle.json_events.specs.Members.{property, Keeps, kept_object}
use Rattle.json_events.specs.Refused.{refused, refused_items, refused_members, refused_by}
use Rattle.json_events.specs.Spelling.{spelled, spelled_items, spelled_members, number_event}
use Rattle.json_events.specs.Values.{IsValue, AreValues, AreMembers, IsOther}
use Rattle.json_events.proofs.SortedMembers.{keeps_none, keeps_more, kept_name, insert_sorted}
use Rattle.json_events.proofs.Written.{none_first, none_later, absent, others_more, kept_is_object}

abbrev pub going : Draft → Stage
going d = record { refusal = None; draft = d }

-- a piece of text, and where it is written
abbrev pub with_text : List ℕ → Draft → Draft
with_text t d = record d { text = if d.inner.held then d.text ++ t else d.text }

abbrev pub sent : List ℕ → Draft → List ℕ
sent t d = if d.inner.held then [] else t

written_by : (b : Bool) (t : List ℕ) (d : Draft) → (if b then moves (record d { text = d.text ++ t }) [] else moves d t) ≡ moves (record d { text = if b then d.text ++ t else d.text }) (if b then [] else t)
written_by true t d = refl
written_by false t d = refl

pub written : (t : List ℕ) (d : Draft) → writes t d ≡ moves (with_text t d) (sent t d)
written t d = written_by d.inner.held t d

text_twice : (b : Bool) (x a c : List ℕ) → (if b then (if b then x ++ a else x) ++ c else (if b then x ++ a else x)) ≡ (if b then x ++ (a ++ c) else x)
text_twice true x a c = append_assoc x a c
text_twice false x a c = refl

pub with_both : (a c : List ℕ) (d : Draft) → with_text c (with_text a d) ≡ with_text (a ++ c) d
with_both a c d = ap (λ t. record d { text = t }) (text_twice d.inner.held d.text a c)

sent_twice : (b : Bool) (a c : List ℕ) → (if b then [] else a) ++ (if b then [] else c) ≡ (if b then [] else (a ++ c))
sent_twice true a c = refl
sent_twice false a c = refl

pub sent_both : (a c : List ℕ) (d : Draft) → sent a d ++ sent c d ≡ sent (a ++ c) d
sent_both a c d = sent_twice d.inner.held a c

text_none : (b : Bool) (x : List ℕ) → (if b then x ++ [] else x) ≡ x
text_none true x = append-nil x
text_none false x = refl

with_none : (d : Draft) → with_text [] d ≡ d
with_none d = ap (λ t. record d { text = t }) (text_none d.inner.held d.text)

abbrev nothing : List ℕ
nothing = []

sent_none : (b : Bool) → (if b then nothing else nothing) ≡ nothing
sent_none true = refl
sent_none false = refl

pub run-append : (xs ys : List Event) (s : Stage) → run (xs ++ ys) s ≡ record { stage = (run ys (run xs s).stage).stage; out = (run xs s).out ++ (run ys (run xs s).stage).out }
run-append [] ys s = refl
run-append (x ∷ xs) ys s =
    let first = step x s in
    ap (λ r. record { stage = r.stage; out = first.out ++ r.out }) (run-append xs ys first.stage)
    ∙ ap (λ o. record { stage = (run ys (run xs first.stage).stage).stage; out = o }) (sym (append_assoc first.out (run xs first.stage).out (run ys (run xs first.stage).stage).out))

-- these events leave this draft, with this output
abbrev pub Leaves : List Event → Draft → Draft → List ℕ → Type 0
Leaves xs d new out = run xs (going d) ≡ record { stage = going new; out = out }

pub one : (x : Event) (d new : Draft) (out : List ℕ) → act x d ≡ moves new out → Leaves (x ∷ []) d new out
one x d new out is = ap (λ t. record { stage = (carried_out t d).stage; out = (carried_out t d).out ++ [] }) is ∙ ap (λ o. record { stage = going new; out = o }) (append-nil out)

pub first_then : (x : Event) (xs : List Event) (d mid new : Draft) (out more : List ℕ) → act x d ≡ moves mid out → Leaves xs mid new more → Leaves (x ∷ xs) d new (out ++ more)
first_then x xs d mid new out more is rest =
    ap (λ t. record { stage = (run xs (carried_out t d).stage).stage; out = (carried_out t d).out ++ (run xs (carried_out t d).stage).out }) is
    ∙ ap (λ r. record { stage = r.stage; out = out ++ r.out }) rest

pub joins : (xs ys : List Event) (d mid new : Draft) (out more : List ℕ) → Leaves xs d mid out → Leaves ys mid new more → Leaves (xs ++ ys) d new (out ++ more)
joins xs ys d mid new out more first second =
    run-append xs ys (going d) ∙ ap (λ r. record { stage = (run ys r.stage).stage; out = r.out ++ (run ys r.stage).out }) first
    ∙ ap (λ r. record { stage = r.stage; out = out ++ r.out }) second

-- the text of the value is written where it is due
pub record Comes (v : Data) (d : Draft) (s : Spot) : Type 0 where
  pub text : List ℕ
  pub canonical : Canonical v text
  pub leaves : Leaves (spelled v) d (with_text text (at s d)) (sent text d)

placed : (t : List ℕ) (d : Draft) (s : Spot) (turn : Spot → Turn) → after_value d.inner.spot ≡ Some s → turn s ≡ writes t (at s d) → where_due (after_value d.inner.spot) turn ≡ moves (with_text t (at s d)) (sent t d)
placed t d s turn due is = ap (λ o. where_due o turn) due ∙ is ∙ written t (at s d)

scalar : (v : Data) (x : Event) (t : List ℕ) (d : Draft) (s : Spot) → spelled v ≡ x ∷ [] → Canonical v t → act x d ≡ moves (with_text t (at s d)) (sent t d) → Comes v d s
scalar v x t d s spells canonical is = record {
  text = t;
  canonical = canonical;
  leaves = subst (λ xs. Leaves xs d (with_text t (at s d)) (sent t d)) (sym spells) (one x d _ _ is);
}

-- ---- arrays

abbrev pub in_array : Spot → Bool → Draft → Draft
in_array s later e = record e { inner = record (level AtItems e.inner.held []) { begun = later }; outer = (at s e).inner ∷ e.outer }

abbrev pub in_item : Spot → Draft → Draft
in_item s e = record e { inner = record (level ItemDue e.inner.held []) { begun = true }; outer = (at s e).inner ∷ e.outer }

abbrev pub commas_from : Bool → List (List ℕ) → List ℕ
commas_from later [] = []
commas_from later (t ∷ ts) = comma_if later ++ (t ++ commas_from true ts)

joined_more : (t : List ℕ) (ts : List (List ℕ)) → join_with_byte 44 (t ∷ ts) ≡ t ++ commas_from true ts
joined_more t [] = sym (append-nil t)
joined_more t (u ∷ us) = ap (λ r. t ++ 44 ∷ r) (joined_more u us)

pub joined : (ts : List (List ℕ)) → commas_from false ts ≡ join_with_byte 44 ts
joined [] = refl
joined (t ∷ ts) = sym (joined_more t ts)

-- whether an item began
abbrev pub begun_after : Bool → List (List ℕ) → Bool
begun_after later [] = later
begun_after later (t ∷ ts) = true

begun_still : (ts : List (List ℕ)) → begun_after true ts ≡ true
begun_still [] = refl
begun_still (t ∷ ts) = refl

pub record ItemsCome (ds : Items) (s : Spot) (later : Bool) (e : Draft) : Type 0 where
  pub texts : List (List ℕ)
  pub canonical : CanonicalItems ds texts
  pub begun : Bool
  pub commas : begun ≡ begun_after later texts
  pub leaves : Leaves (spelled_items ds) (in_array s later e) (in_array s begun (with_text (commas_from later texts) e)) (sent (commas_from later texts) e)

no_items_come : (s : Spot) (later : Bool) (e : Draft) → ItemsCome no_items s later e
no_items_come s later e = record {
  texts = [];
  canonical = tt;
  begun = later;
  commas = refl;
  leaves = ap (λ x. record { stage = going (in_array s later x); out = [] }) (sym (with_none e)) ∙ ap (λ o. record { stage = going (in_array s later (with_text [] e)); out = o }) (sym (sent_none e.inner.held));
}

item_comes : (v : Data) (ds : Items) (s : Spot) (later : Bool) (e : Draft) (c : Comes v (in_item s (with_text (comma_if later) e)) ItemDone) → ItemsCome ds s true (with_text c.text (with_text (comma_if later) e)) → ItemsCome (item v ds) s later e
item_comes v ds s later e c rest =
    let comma = comma_if later in
    let e1 = with_text comma e in
    let e2 = with_text c.text e1 in
    let more = commas_from true rest.texts in
    let ends = first_then end_array_value (spelled_items ds) (record e2 { inner = record (level ItemDone e.inner.held []) { begun = true }; outer = (at s e).inner ∷ e.outer }) (in_array s true e2) _ [] _ refl rest.leaves in
    let all = first_then begin_array_value (spelled v ++ end_array_value ∷ spelled_items ds) (in_array s later e) (in_item s e1) _ (sent comma e) _ (written comma (in_item s e)) (joins (spelled v) (end_array_value ∷ spelled_items ds) (in_item s e1) _ _ _ _ c.leaves ends) in
    let texts : with_text more e2 ≡ with_text (comma ++ (c.text ++ more)) e = with_both c.text more e1 ∙ with_both comma (c.text ++ more) e in
    let outs : sent comma e ++ (sent c.text e ++ sent more e) ≡ sent (comma ++ (c.text ++ more)) e = ap (λ o. sent comma e ++ o) (sent_both c.text more e) ∙ sent_both comma (c.text ++ more) e in
    record {
      texts = c.text ∷ rest.texts;
      canonical = (c.canonical, rest.canonical);
      begun = rest.begun;
      commas = rest.commas ∙ begun_still rest.texts;
      leaves = all ∙ ap (λ x. record { stage = going (in_array s rest.begun x); out = sent comma e ++ (sent c.text e ++ sent more e) }) texts
          ∙ ap (λ o. record { stage = going (in_array s rest.begun (with_text (comma ++ (c.text ++ more)) e)); out = o }) outs;
    }

array_comes : (ds : Items) (d : Draft) (s : Spot) → after_value d.inner.spot ≡ Some s → ItemsCome ds s false (with_text (91 ∷ []) d) → Comes (array ds) d s
array_comes ds d s due items =
    let e0 = with_text (91 ∷ []) d in
    let x = commas_from false items.texts in
    let e1 = with_text x e0 in
    let ends = one end_array (in_array s items.begun e1) _ _ (written (93 ∷ []) (at s e1)) in
    let all = first_then begin_array (spelled_items ds ++ end_array ∷ []) d (in_array s false e0) _ (sent (91 ∷ []) d) _ (ap (λ o. where_due o (λ t. writes (91 ∷ []) (in_array t false d))) due ∙ written (91 ∷ []) (in_array s false d))
    (joins (spelled_items ds) (end_array ∷ []) (in_array s false e0) _ _ _ _ items.leaves ends) in
    let whole : 91 ∷ (x ++ 93 ∷ []) ≡ array_text items.texts = ap (λ j. 91 ∷ (j ++ 93 ∷ [])) (joined items.texts) in
    let texts : with_text (93 ∷ []) (at s e1) ≡ with_text (91 ∷ (x ++ 93 ∷ [])) (at s d) = with_both x (93 ∷ []) (at s e0) ∙ with_both (91 ∷ []) (x ++ 93 ∷ []) (at s d) in
    let outs : sent (91 ∷ []) d ++ (sent x d ++ sent (93 ∷ []) d) ≡ sent (91 ∷ (x ++ 93 ∷ [])) d = ap (λ o. sent (91 ∷ []) d ++ o) (sent_both x (93 ∷ []) d) ∙ sent_both (91 ∷ []) (x ++ 93 ∷ []) d in
    record {
      text = array_text items.texts;
      canonical = (items.texts, items.canonical, refl);
      leaves = all ∙ ap (λ y. record { stage = going y; out = sent (91 ∷ []) d ++ (sent x d ++ sent (93 ∷ []) d) }) texts
          ∙ ap (λ o. record { stage = going (with_text (91 ∷ (x ++ 93 ∷ [])) (at s d)); out = o }) outs
          ∙ ap (λ t. record { stage = going (with_text t (at s d)); out = sent t d }) whole;
    }

-- ---- objects

abbrev pub in_object : Spot → Spot → List JsonProperty → List ℕ → List ℕ → Draft → Draft
in_object s place ps n t d = record { text = t; inner = record (level place true d.text) { members = ps; name = n }; outer = (at s d).inner ∷ d.outer }

pub record MembersCome (ms : Members) (s : Spot) (d : Draft) (ps : List JsonProperty) (n : List ℕ) (es : List Entry) : Type 0 where
  pub entries : List Entry
  pub canonical : CanonicalMembers ms entries
  pub kept : List JsonProperty
  pub name : List ℕ
  pub keeps : Keeps kept (es ++ entries)
  pub leaves : Leaves (spelled_members ms) (in_object s Names ps n [] d) (in_object s Names kept name [] d) []

no_members_come : (s : Spot) (d : Draft) (ps : List JsonProperty) (n : List ℕ) (es : List Entry) → Keeps ps es → MembersCome no_members s d ps n es
no_members_come s d ps n es keeps = record { entries = []; canonical = tt; kept = ps; name = n; keeps = subst (Keeps ps) (sym (append-nil es)) keeps; leaves = refl }

member_is_new : (s : Spot) (d : Draft) (ps : List JsonProperty) (k t : List ℕ) → list_any (λ p. is_eq (by_key (property (k, t)) p)) ps ≡ false
    → act end_object_value (in_object s ValueDone ps k t d) ≡ moves (in_object s Names (insert_key by_key ps (property (k, t))) k [] d) []
member_is_new s d ps k t apart = ap (λ b. if b then refuses DuplicateKey else moves (in_object s Names (insert_key by_key ps (property (k, t))) k [] d) []) apart

member_comes : (k : List ℕ) (v : Data) (ms : Members) (s : Spot) (d : Draft) (ps : List JsonProperty) (n : List ℕ) (es : List Entry) (c : Comes v (in_object s ValueDue ps k [] d) ValueDone)
    → list_any (λ p. is_eq (by_key (property (k, c.text)) p)) ps ≡ false
    → MembersCome ms s d (insert_key by_key ps (property (k, c.text))) k (es ++ (k, c.text) ∷ []) → MembersCome (member k v ms) s d ps n es
member_comes k v ms s d ps n es c apart rest =
    let more = spelled_members ms in
    let kept = insert_key by_key ps (property (k, c.text)) in
    let ends = first_then end_object_value more (in_object s ValueDone ps k c.text d) (in_object s Names kept k [] d) _ [] _ (member_is_new s d ps k c.text apart) rest.leaves in
    let value = joins (spelled v) (end_object_value ∷ more) (in_object s ValueDue ps k [] d) (in_object s ValueDone ps k c.text d) _ [] _ c.leaves ends in
    let from_value = first_then begin_object_value (spelled v ++ end_object_value ∷ more) (in_object s Named ps k [] d) (in_object s ValueDue ps k [] d) _ [] _ refl value in
    let from_end = first_then end_object_key (begin_object_value ∷ (spelled v ++ end_object_value ∷ more)) (in_object s NameDone ps k [] d) (in_object s Named ps k [] d) _ [] _ refl from_value in
    let from_name = first_then (write_string k) (end_object_key ∷ begin_object_value ∷ (spelled v ++ end_object_value ∷ more)) (in_object s NameDue ps n [] d) (in_object s NameDone ps k [] d) _ [] _ refl from_end in
    record {
      entries = (k, c.text) ∷ rest.entries;
      canonical = (refl, c.canonical, rest.canonical);
      kept = rest.kept;
      name = rest.name;
      keeps = subst (Keeps rest.kept) (append_assoc es ((k, c.text) ∷ []) rest.entries) rest.keeps;
      leaves = first_then begin_object_key (write_string k ∷ end_object_key ∷ begin_object_value ∷ (spelled v ++ end_object_value ∷ more)) (in_object s Names ps n [] d) (in_object s NameDue ps n [] d) _ [] _ refl from_name;
    }

object_comes : (ms : Members) (d : Draft) (s : Spot) → after_value d.inner.spot ≡ Some s → MembersCome ms s d [] [] [] → Comes (object ms) d s
object_comes ms d s due members =
    let o = kept_object members.kept in
    let ends = one end_object (in_object s Names members.kept members.name [] d) _ _ (written o (at s d)) in
    record {
      text = o;
      canonical = (members.entries, members.canonical, kept_is_object members.kept members.entries members.keeps);
      leaves = first_then begin_object (spelled_members ms ++ end_object ∷ []) d (in_object s Names [] [] [] d) _ [] _ (ap (λ x. where_due x (λ t. moves (in_object t Names [] [] [] d) [])) due)
          (joins (spelled_members ms) (end_object ∷ []) (in_object s Names [] [] [] d) _ _ [] _ members.leaves ends);
    }

pub sorted_none : IsStrictlySortedBy by_key []
unfolding IsStrictlySortedBy
sorted_none = tt

-- ---- values

in_range_from : (b : Bool) → (if b then None else Some IntegerOutOfRange) ≡ None → b ≡ true
in_range_from true e = refl
in_range_from false e = cc

number_comes : (n : Num) (o : Option ℤ) (d : Draft) (s : Spot) → as_integer n ≡ o → refused_by o ≡ None → after_value d.inner.spot ≡ Some s → Comes (number n) d s
number_comes n None d s is plain due = cc
number_comes n (Some z) d s is plain due =
    let within = in_range_from (in_range z) plain in
    scalar (number n) (write_integer z) (signed_decimal z) d s (ap (λ o. number_event o ∷ []) is) (z, is, within, refl)
    (placed (signed_decimal z) d s (λ t. if in_range z then writes (signed_decimal z) (at t d) else refuses IntegerOutOfRange) due
    (ap (λ b. if b then writes (signed_decimal z) (at s d) else refuses IntegerOutOfRange) within))

string_places : (q : Spot) (s : Spot) → after_value q ≡ Some s → is_at q NameDue ≡ false
string_places Start s e = refl
string_places Whole s e = cc
string_places Finished s e = cc
string_places AtItems s e = cc
string_places ItemDue s e = refl
string_places ItemDone s e = cc
string_places Names s e = cc
string_places NameDue s e = cc
string_places NameDone s e = cc
string_places Named s e = cc
string_places ValueDue s e = refl
string_places ValueDone s e = cc

pub string_acts : (t : List ℕ) (d : Draft) (s : Spot) → after_value d.inner.spot ≡ Some s → act (write_string t) d ≡ places (quoted_text t) d
string_acts t d s due = ap (λ b. if b then moves (record d { inner = record d.inner { spot = NameDone; name = t } }) [] else places (quoted_text t) d) (string_places d.inner.spot s due)

mutual
  pub comes : (v : Data) (d : Draft) (s : Spot) → after_value d.inner.spot ≡ Some s → refused v ≡ None → IsValue v → Comes v d s
  comes null d s due plain value = scalar null write_null (codes "null") d s refl refl (placed (codes "null") d s (λ t. writes (codes "null") (at t d)) due refl)
  comes (boolean b) d s due plain value = scalar (boolean b) (write_bool b) (truth_text b) d s refl refl (placed (truth_text b) d s (λ t. writes (truth_text b) (at t d)) due refl)
  comes (number n) d s due plain value = number_comes n (as_integer n) d s refl plain due
  comes (string t) d s due plain value = scalar (string t) (write_string t) (quoted_text t) d s refl refl (string_acts t d s due ∙ placed (quoted_text t) d s (λ q. writes (quoted_text t) (at q d)) due refl)
  comes (array ds) d s due plain value = array_comes ds d s due (items_come ds s false (with_text (91 ∷ []) d) plain value)
  comes (object ms) d s due plain value = object_comes ms d s due (members_come ms s d [] [] [] plain value keeps_none sorted_none tt)

  pub items_come : (ds : Items) (s : Spot) (later : Bool) (e : Draft) → refused_items ds ≡ None → AreValues ds → ItemsCome ds s later e
  items_come no_items s later e plain values = no_items_come s later e
  items_come (item v ds) s later e plain values =
      let c = comes v (in_item s (with_text (comma_if later) e)) ItemDone refl (none_first _ _ plain) values.0 in
      item_comes v ds s later e c (items_come ds s true (with_text c.text (with_text (comma_if later) e)) (none_later _ _ plain) values.1)

  pub members_come : (ms : Members) (s : Spot) (d : Draft) (ps : List JsonProperty) (n : List ℕ) (es : List Entry) → refused_members ms ≡ None → AreMembers ms → Keeps ps es → IsStrictlySortedBy by_key ps
      → AllByRecursion (λ e. IsOther e.0 ms) es → MembersCome ms s d ps n es
  members_come no_members s d ps n es plain values keeps up others = no_members_come s d ps n es keeps
  members_come (member k v ms) s d ps n es plain values keeps up others =
      let c = comes v (in_object s ValueDue ps k [] d) ValueDone refl (none_first _ _ plain) values.2 in
      let fresh = absent es k v ms others in
      let apart = kept_name ps es k c.text values.0 keeps ∙ fresh in
      let sorted = insert_sorted ps (property (k, c.text)) apart up in
      member_comes k v ms s d ps n es c apart
      (members_come ms s d (insert_key by_key ps (property (k, c.text))) k (es ++ (k, c.text) ∷ []) (none_later _ _ plain) values.3
      (keeps_more ps (insert_key by_key ps (property (k, c.text))) es k c.text values.0 keeps fresh refl sorted) sorted (others_more es k v ms c.text others values.1))

-- a new formatter
pub new_comes : (v : Data) → refused v ≡ None → IsValue v → Comes v fresh.draft Whole
new_comes v plain value = comes v fresh.draft Whole refl plain value
