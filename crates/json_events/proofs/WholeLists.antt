-- A list of events that was accepted to its end is that of a value.
use Rattle.std.proofs.Common.{◌≡◌, ◌≢◌, ℕ, ℤ, pos, List, [], ◌∷◌, ◌++◌, Bool, true, false, ◌||◌, if◌then◌else◌, Option, Some, None, refl, sym, ap, subst, ◌∙◌, inl, inr, append_assoc, IsUtf8}
use Rattle.std.specs.Cmp.{tied_itself}
use Rattle.std.specs.Cmp.Lexicographic.{nat_list_cmp_total}
use Rattle.std.specs.Fmt.{signed_decimal}
use Rattle.std.specs.Ordering.{is_eq}
use Rattle.std.specs.BTreeSet.{insert_key}
use Rattle.serde_json.specs.Data.{Num, unsigned, negative, Data, null, boolean, number, string, array as list, object as map_of, Items, no_items, item, Members, no_members, member}
use Rattle.serde_json.specs.Find.{as_integer}
use Rattle.json_events.specs.declared.error.CanonError.{CanonError}
use Rattle.json_events.specs.declared.error.CanonError.TheVariants.{Float, IntegerOutOfRange, DuplicateKey, RawFragment, NotWellNested}
use Rattle.json_events.specs.declared.property.JsonProperty.{JsonProperty}
use Rattle.json_events.specs.declared.spot.Spot.{Spot}
use Rattle.json_events.specs.declared.spot.Spot.TheVariants.{Items as AtItems, ItemDue, ItemDone, Names, ValueDue, ValueDone, Whole, Finished}
use Rattle.json_events.specs.Canonical.{in_range}
use Rattle.json_events.specs.Drafts.{Level, Draft, Turn, refused as refuses, moves, carried_out, act, fresh, writes, at, after_value, where_due, is_at, ends_member}
use Rattle.json_events.specs.Events.{Event, begin_array, begin_array_value, end_array_value, end_array, begin_object, end_object_value, end_object, finish}
use Rattle.json_events.specs.Laws.{FinishedSpells}
use Rattle.json_events.specs.Members.{property}
use Rattle.json_events.specs.Refused.{refused, refused_items, refused_members, refused_by, first_of_two}
use Rattle.json_events.specs.Spelling.{spelled, spelled_items, spelled_members, number_event, AreTexts}
use Rattle.json_events.specs.Units.{units, by_units}
use Rattle.json_events.specs.Values.{IsValue, AreValues, AreMembers, IsOther}
use Rattle.json_events.specs.WellNested.{Scalar, a_null, a_truth, a_whole, a_float, a_string, a_fragment, Tree, scalar, array, object, Trees, no_trees, and_tree, Fields, no_fields, and_field, nested, nested_items, nested_fields, name_events, has_field}
use Rattle.json_events.proofs.SortedMembers.{by_key}
use Rattle.json_events.proofs.ValueTexts.{going}
use Rattle.json_events.proofs.TreeEvents.{after, after-append, stays, Passes, AtSpot, InPlace, NoMembers, FieldsIn, ties, array_begin, item_begin, object_begin, items_passes, fields_passes, name_passes, named, tree_passes}
use Rattle.json_events.proofs.EventPlaces.{fits, Opens, same_spot}
use Rattle.json_events.proofs.Causes.{unrefused, going_is}

-- ---- texts

pub texts_front : (xs ys : List Event) → AreTexts (xs ++ ys) → AreTexts xs
texts_front [] ys texts = tt
texts_front (x ∷ xs) ys texts = (texts.0, texts_front xs ys texts.1)

pub texts_rest : (xs ys : List Event) → AreTexts (xs ++ ys) → AreTexts ys
texts_rest [] ys texts = texts
texts_rest (x ∷ xs) ys texts = texts_rest xs ys texts.1

-- ---- accepted events, one part after another

pub record Parts (P : Level → Type 0) (ls : List Level) (xs ys : List Event) (d : Draft) : Type 0 where
  pub new : Draft
  pub inner : P new.inner
  pub outer : new.outer ≡ ls
  pub first : (after xs (going d)).refusal ≡ None
  pub second : (after ys (going new)).refusal ≡ None

pub parts : (P : Level → Type 0) (ls : List Level) (xs ys : List Event) (d : Draft) → Passes P ls (after xs (going d)) → (after (xs ++ ys) (going d)).refusal ≡ None → Parts P ls xs ys d
parts P ls xs ys d (inl goes) none = record {
  new = goes.new;
  inner = goes.inner;
  outer = goes.outer;
  first = ap (λ s. s.refusal) goes.is;
  second = sym (ap (λ s. s.refusal) (after-append xs ys (going d) ∙ ap (after ys) goes.is)) ∙ none;
}
parts P ls xs ys d (inr stop) none =
    let all : Some stop.why ≡ None = sym (ap (λ s. s.refusal) (after-append xs ys (going d) ∙ stays ys (after xs (going d)) stop.why stop.is) ∙ stop.is) ∙ none in
    cc

-- ---- values at the end of others

abbrev push_item : Items → Data → Items
push_item no_items v = item v no_items
push_item (item w ds) v = item w (push_item ds v)

abbrev push_member : Members → List ℕ → Data → Members
push_member no_members k v = member k v no_members
push_member (member l w ms) k v = member l w (push_member ms k v)

none_both : (a b : Option CanonError) → a ≡ None → b ≡ None → first_of_two a b ≡ None
none_both a b p q = ap (λ o. first_of_two o b) p ∙ q

none_first : (a b : Option CanonError) → first_of_two a b ≡ None → a ≡ None
none_first None b e = refl
none_first (Some x) b e = e

none_later : (a b : Option CanonError) → first_of_two a b ≡ None → b ≡ None
none_later None b e = e
none_later (Some x) b e = cc

-- these events spell the value
pub record Spells (xs : List Event) : Type 0 where
  pub value : Data
  pub is : spelled value ≡ xs
  pub plain : refused value ≡ None
  pub good : IsValue value

pub record SpellsItems (xs : List Event) : Type 0 where
  pub values : Items
  pub is : spelled_items values ≡ xs
  pub plain : refused_items values ≡ None
  pub good : AreValues values

-- this name differs from all of the names
abbrev Apart : List ℕ → Members → Type 0
Apart k no_members = Unit {0}
Apart k (member l v ms) = (l ≢ k) × Apart k ms

pub record SpellsFields (fs : Fields) : Type 0 where
  pub values : Members
  pub is : spelled_members values ≡ nested_fields fs
  pub plain : refused_members values ≡ None
  pub good : AreMembers values
  pub apart : (k : List ℕ) → has_field k fs ≡ false → Apart k values

items_plain : (ds : Items) (v : Data) → refused_items ds ≡ None → refused v ≡ None → refused_items (push_item ds v) ≡ None
items_plain no_items v p q = none_both (refused v) None q refl
items_plain (item w ds) v p q = none_both (refused w) (refused_items (push_item ds v)) (none_first (refused w) (refused_items ds) p) (items_plain ds v (none_later (refused w) (refused_items ds) p) q)

items_good : (ds : Items) (v : Data) → AreValues ds → IsValue v → AreValues (push_item ds v)
items_good no_items v p q = (q, tt)
items_good (item w ds) v p q = (p.0, items_good ds v p.1 q)

items_spelled : (ds : Items) (v : Data) → spelled_items (push_item ds v) ≡ spelled_items ds ++ begin_array_value ∷ (spelled v ++ end_array_value ∷ [])
items_spelled no_items v = refl
items_spelled (item w ds) v = ap (λ l. begin_array_value ∷ (spelled w ++ end_array_value ∷ l)) (items_spelled ds v) ∙ ap (λ l. begin_array_value ∷ l) (sym (append_assoc (spelled w) (end_array_value ∷ spelled_items ds) (begin_array_value ∷ (spelled v ++ end_array_value ∷ []))))

members_plain : (ms : Members) (k : List ℕ) (v : Data) → refused_members ms ≡ None → refused v ≡ None → refused_members (push_member ms k v) ≡ None
members_plain no_members k v p q = none_both (refused v) None q refl
members_plain (member l w ms) k v p q = none_both (refused w) (refused_members (push_member ms k v)) (none_first (refused w) (refused_members ms) p) (members_plain ms k v (none_later (refused w) (refused_members ms) p) q)

other_more : (l k : List ℕ) (v : Data) (ms : Members) → IsOther l ms → l ≢ k → IsOther l (push_member ms k v)
other_more l k v no_members p q = (q, tt)
other_more l k v (member n w ms) p q = (p.0, other_more l k v ms p.1 q)

members_good : (ms : Members) (k : List ℕ) (v : Data) → AreMembers ms → Apart k ms → IsUtf8 k → IsValue v → AreMembers (push_member ms k v)
members_good no_members k v p apart text q = (text, tt, q, tt)
members_good (member l w ms) k v p apart text q = (p.0, other_more l k v ms p.1 apart.0, p.2, members_good ms k v p.3 apart.1 text q)

members_spelled : (ms : Members) (k : List ℕ) (v : Data) → spelled_members (push_member ms k v) ≡ spelled_members ms ++ (name_events k ++ (spelled v ++ end_object_value ∷ []))
members_spelled no_members k v = refl
members_spelled (member l w ms) k v =
    ap (λ r. name_events l ++ (spelled w ++ end_object_value ∷ r)) (members_spelled ms k v)
    ∙ ap (λ r. name_events l ++ r) (sym (append_assoc (spelled w) (end_object_value ∷ spelled_members ms) (name_events k ++ (spelled v ++ end_object_value ∷ []))))

apart_more : (q k : List ℕ) (v : Data) (ms : Members) → Apart q ms → k ≢ q → Apart q (push_member ms k v)
apart_more q k v no_members p other = (other, tt)
apart_more q k v (member l w ms) p other = (p.0, apart_more q k v ms p.1 other)

apart_none : (k : List ℕ) → Apart k no_members
apart_none k = tt

-- ---- scalars

abbrev num_of : ℤ → Num
num_of (pos n) = unsigned n
num_of z = negative z

its_integer : (z : ℤ) → as_integer (num_of z) ≡ Some z
its_integer (pos n) = refl
its_integer z = refl

taken_due : (turn : Spot → Turn) (d : Draft) (s : Spot) → after_value d.inner.spot ≡ Some s → (carried_out (where_due (after_value d.inner.spot) turn) d).stage.refusal ≡ None → (carried_out (turn s) d).stage.refusal ≡ None
taken_due turn d s due none = sym (ap (λ o. (carried_out (where_due o turn) d).stage.refusal) due) ∙ none

within_range : (b : Bool) (t : Turn) (d : Draft) → (carried_out (if b then t else refuses IntegerOutOfRange) d).stage.refusal ≡ None → b ≡ true
within_range true t d none = refl
within_range false t d none = cc

scalar_spells : (c : Scalar) (d : Draft) (s : Spot) → after_value d.inner.spot ≡ Some s → AreTexts (nested (scalar c)) → (after (nested (scalar c)) (going d)).refusal ≡ None → Spells (nested (scalar c))
scalar_spells a_null d s due texts none = record { value = null; is = refl; plain = refl; good = tt }
scalar_spells (a_truth b) d s due texts none = record { value = boolean b; is = refl; plain = refl; good = tt }
scalar_spells (a_whole z) d s due texts none =
    let within = within_range (in_range z) (writes (signed_decimal z) (at s d)) d (taken_due (λ t. if in_range z then writes (signed_decimal z) (at t d) else refuses IntegerOutOfRange) d s due none) in
    record {
      value = number (num_of z);
      is = ap (λ o. number_event o ∷ []) (its_integer z);
      plain = ap refused_by (its_integer z) ∙ ap (λ b. if b then None else Some IntegerOutOfRange) within;
      good = tt;
    }
scalar_spells a_float d s due texts none = let taken : Some Float ≡ None = taken_due (λ t. refuses Float) d s due none in cc
scalar_spells (a_string t) d s due texts none = record { value = string t; is = refl; plain = refl; good = texts.0 }
scalar_spells a_fragment d s due texts none = let taken : Some RawFragment ≡ None = taken_due (λ t. refuses RawFragment) d s due none in cc

-- ---- members

either_false : (a b : Bool) → (a || b) ≡ false → (a ≡ false) × (b ≡ false)
either_false true b e = cc
either_false false b e = (refl, e)

other_name : (q k : List ℕ) → is_eq (by_units q k) ≡ false → k ≢ q
other_name q k apart same =
    let tied = tied_itself nat_list_cmp_total (units q) in
    let is : is_eq (by_units q q) ≡ true = ap is_eq tied in
    let all : true ≡ false = sym is ∙ ap (λ n. is_eq (by_units q n)) (sym same) ∙ apart in
    cc

once_by : (b : Bool) (g : Draft) → ties g.inner.name g.inner.members ≡ b → g.inner.spot ≡ ValueDone → (after (end_object_value ∷ []) (going g)).refusal ≡ None → b ≡ false
once_by false g is spot none = refl
once_by true g is spot none =
    let new = record g { text = []; inner = record g.inner { spot = Names; members = insert_key by_key g.inner.members (property (g.inner.name, g.text)) } } in
    let turn : act end_object_value g ≡ refuses DuplicateKey = ap (λ q. if is_at q ValueDone then ends_member g else refuses NotWellNested) spot ∙ ap (λ c. if c then refuses DuplicateKey else moves new []) is in
    let all : Some DuplicateKey ≡ None = sym (ap (λ t. (carried_out t g).stage.refusal) turn) ∙ none in
    cc

-- ---- trees

item_spells : (t : Tree) (e : Draft) (ls : List Level) → ((f : Draft) → f.inner.spot ≡ ItemDue → (after (nested t) (going f)).refusal ≡ None → Spells (nested t)) → AtSpot AtItems e.inner → e.outer ≡ ls
    → (after (begin_array_value ∷ (nested t ++ end_array_value ∷ [])) (going e)).refusal ≡ None → Spells (nested t)
item_spells t e ls value spot out none =
    let first = parts (AtSpot ItemDue) ls (begin_array_value ∷ []) (nested t ++ end_array_value ∷ []) e (item_begin e ls spot out) none in
    let second = parts (InPlace first.new ItemDone) first.new.outer (nested t) (end_array_value ∷ []) first.new (tree_passes t first.new ItemDone (ap after_value first.inner)) first.second in
    value first.new first.inner second.first

record FieldSpells (k : List ℕ) (fs : Fields) (t : Tree) : Type 0 where
  value : Spells (nested t)
  once : has_field k fs ≡ false

field_spells : (fs : Fields) (k : List ℕ) (t : Tree) (e : Draft) → ((f : Draft) → f.inner.spot ≡ ValueDue → (after (nested t) (going f)).refusal ≡ None → Spells (nested t)) → FieldsIn fs e.inner
    → (after (name_events k ++ (nested t ++ end_object_value ∷ [])) (going e)).refusal ≡ None → FieldSpells k fs t
field_spells fs k t e value so none =
    let first = parts (λ l. l ≡ named k e.inner) e.outer (name_events k) (nested t ++ end_object_value ∷ []) e (name_passes k e e.outer so.spot refl) none in
    let spot : first.new.inner.spot ≡ ValueDue = ap (λ l. l.spot) first.inner in
    let second = parts (InPlace first.new ValueDone) first.new.outer (nested t) (end_object_value ∷ []) first.new (tree_passes t first.new ValueDone (ap after_value spot)) first.second in
    let g = second.new in
    let done : g.inner.spot ≡ ValueDone = ap (λ l. l.spot) second.inner in
    let name : g.inner.name ≡ k = ap (λ l. l.name) second.inner ∙ ap (λ l. l.name) first.inner in
    let members : g.inner.members ≡ e.inner.members = ap (λ l. l.members) second.inner ∙ ap (λ l. l.members) first.inner in
    let once : ties g.inner.name g.inner.members ≡ false = once_by (ties g.inner.name g.inner.members) g refl done second.second in
    record {
      value = value first.new spot second.first;
      once = sym (so.has k) ∙ ap (ties k) (sym members) ∙ ap (λ n. ties n g.inner.members) (sym name) ∙ once;
    }

mutual
  pub tree_spells : (t : Tree) (d : Draft) (s : Spot) → after_value d.inner.spot ≡ Some s → AreTexts (nested t) → (after (nested t) (going d)).refusal ≡ None → Spells (nested t)
  tree_spells (scalar c) d s due texts none = scalar_spells c d s due texts none
  tree_spells (array ts) d s due texts none =
      let first = parts (AtSpot AtItems) ((at s d).inner ∷ d.outer) (begin_array ∷ []) (nested_items ts ++ end_array ∷ []) d (array_begin d s due) none in
      let second = parts (AtSpot AtItems) first.new.outer (nested_items ts) (end_array ∷ []) first.new (items_passes ts first.new first.inner) first.second in
      let so = items_spell ts first.new first.inner (texts_front (nested_items ts) (end_array ∷ []) texts.1) second.first in
      record { value = list so.values; is = ap (λ l. begin_array ∷ (l ++ end_array ∷ [])) so.is; plain = so.plain; good = so.good }
  tree_spells (object fs) d s due texts none =
      let first = parts NoMembers ((at s d).inner ∷ d.outer) (begin_object ∷ []) (nested_fields fs ++ end_object ∷ []) d (object_begin d s due) none in
      let second = parts (FieldsIn fs) first.new.outer (nested_fields fs) (end_object ∷ []) first.new (fields_passes fs first.new first.inner) first.second in
      let so = fields_spell fs first.new first.inner (texts_front (nested_fields fs) (end_object ∷ []) texts.1) second.first in
      record { value = map_of so.values; is = ap (λ l. begin_object ∷ (l ++ end_object ∷ [])) so.is; plain = so.plain; good = so.good }

  pub items_spell : (ts : Trees) (d : Draft) → d.inner.spot ≡ AtItems → AreTexts (nested_items ts) → (after (nested_items ts) (going d)).refusal ≡ None → SpellsItems (nested_items ts)
  items_spell no_trees d spot texts none = record { values = no_items; is = refl; plain = refl; good = tt }
  items_spell (and_tree ts t) d spot texts none =
      let last = begin_array_value ∷ (nested t ++ end_array_value ∷ []) in
      let first = parts (AtSpot AtItems) d.outer (nested_items ts) last d (items_passes ts d spot) none in
      let so = items_spell ts d spot (texts_front (nested_items ts) last texts) first.first in
      let ends = texts_rest (nested_items ts) last texts in
      let value = item_spells t first.new d.outer (λ f due taken. tree_spells t f ItemDone (ap after_value due) (texts_front (nested t) (end_array_value ∷ []) ends.1) taken) first.inner first.outer first.second in
      record {
        values = push_item so.values value.value;
        is = items_spelled so.values value.value ∙ ap (λ l. l ++ begin_array_value ∷ (spelled value.value ++ end_array_value ∷ [])) so.is ∙ ap (λ l. nested_items ts ++ begin_array_value ∷ (l ++ end_array_value ∷ [])) value.is;
        plain = items_plain so.values value.value so.plain value.plain;
        good = items_good so.values value.value so.good value.good;
      }

  pub fields_spell : (fs : Fields) (d : Draft) → NoMembers d.inner → AreTexts (nested_fields fs) → (after (nested_fields fs) (going d)).refusal ≡ None → SpellsFields fs
  fields_spell no_fields d begun texts none = record { values = no_members; is = refl; plain = refl; good = tt; apart = λ k is. apart_none k }
  fields_spell (and_field fs k t) d begun texts none =
      let last = name_events k ++ (nested t ++ end_object_value ∷ []) in
      let first = parts (FieldsIn fs) d.outer (nested_fields fs) last d (fields_passes fs d begun) none in
      let so = fields_spell fs d begun (texts_front (nested_fields fs) last texts) first.first in
      let ends = texts_rest (nested_fields fs) last texts in
      let field = field_spells fs k t first.new (λ f due taken. tree_spells t f ValueDone (ap after_value due) (texts_front (nested t) (end_object_value ∷ []) (texts_rest (name_events k) (nested t ++ end_object_value ∷ []) ends)) taken) first.inner first.second in
      let v = field.value.value in
      record {
        values = push_member so.values k v;
        is = members_spelled so.values k v ∙ ap (λ l. l ++ (name_events k ++ (spelled v ++ end_object_value ∷ []))) so.is ∙ ap (λ l. nested_fields fs ++ (name_events k ++ (l ++ end_object_value ∷ []))) field.value.is;
        plain = members_plain so.values k v so.plain field.value.plain;
        good = members_good so.values k v so.good (so.apart k field.once) ends.1.0 field.value.good;
        apart = λ q none. let both = either_false (is_eq (by_units q k)) (has_field q fs) none in apart_more q k v so.values (so.apart q both.1) (other_name q k both.0);
      }

-- ---- the law

at_whole : (ls : List Level) (n : List ℕ) (ms : List JsonProperty) (xs : List Event) → Opens Whole n ms ls xs → (t : Tree) × (xs ≡ nested t)
at_whole [] n ms xs so = so
at_whole (l ∷ ls) n ms xs so = absurd so.4

ended_at : (b : Bool) (d : Draft) (t : Turn) → is_at d.inner.spot Whole ≡ b → (carried_out (if b then t else refuses NotWellNested) d).stage.refusal ≡ None → b ≡ true
ended_at true d t is none = refl
ended_at false d t is none = cc

pub finished_spells : FinishedSpells
finished_spells xs texts none =
    let first = unrefused xs (finish ∷ []) none in
    let d = (after xs fresh).draft in
    let there : after (xs ++ finish ∷ []) fresh ≡ (carried_out (act finish d) d).stage = after-append xs (finish ∷ []) fresh ∙ ap (after (finish ∷ [])) (going_is (after xs fresh) first) in
    let spot = same_spot d.inner.spot Whole (ended_at (is_at d.inner.spot Whole) d (moves (at Finished d) []) refl (sym (ap (λ s. s.refusal) there) ∙ none)) in
    let tree = at_whole d.outer d.inner.name d.inner.members xs (subst (λ q. Opens q d.inner.name d.inner.members d.outer xs) spot (fits xs first)) in
    let so = tree_spells tree.0 fresh.draft Whole refl (subst AreTexts tree.1 texts) (ap (λ l. (after l fresh).refusal) (sym tree.1) ∙ first) in
    (so.value, record { events = tree.1 ∙ sym so.is; plain = so.plain; value = so.good })
