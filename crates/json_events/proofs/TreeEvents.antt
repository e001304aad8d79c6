-- The result of the events of a tree: the next place, or a refusal that is not a nesting fault.
use Rattle.std.proofs.Common.{◌≡◌, ◌≢◌, ℕ, List, [], ◌∷◌, ◌++◌, Bool, true, false, ◌||◌, if◌then◌else◌, Some, None, refl, sym, ap, subst, ◌∙◌, ◌⊎◌, inl, inr, codes, Ordering, Less, Equal, Greater}
use Rattle.std.specs.BTreeSet.{insert_key}
use Rattle.std.specs.Cmp.Lexicographic.{slice_cmp}
use Rattle.std.specs.Fmt.{signed_decimal}
use Rattle.std.specs.List.{list_any}
use Rattle.std.specs.Ordering.{nat_cmp, is_eq, match_ordering}
use Rattle.serde_json.specs.Written.{comma_if}
use Rattle.json_values.specs.Canon.{quoted_text}
use Rattle.json_events.specs.declared.error.CanonError.{CanonError}
use Rattle.json_events.specs.declared.error.CanonError.TheVariants.{Float, IntegerOutOfRange, DuplicateKey, RawFragment, NotWellNested}
use Rattle.json_events.specs.declared.property.JsonProperty.{JsonProperty}
use Rattle.json_events.specs.declared.spot.Spot.{Spot}
use Rattle.json_events.specs.declared.spot.Spot.TheVariants.{Whole, Finished, Items, ItemDue, ItemDone, Names, NameDue, ValueDue, ValueDone}
use Rattle.json_events.specs.Canonical.{in_range, truth_text}
use Rattle.json_events.specs.Drafts.{Level, Draft, Turn, refused, moves, Stage, step, carried_out, run, fresh, writes, at, after_value, level, opened, where_due, where_around, is_at, places, begins_item, ends_array, ends_object, ends_member}
use Rattle.json_events.specs.Events.{Event, write_string, begin_array, begin_array_value, end_array_value, end_array, begin_object, begin_object_key, end_object_key, begin_object_value, end_object_value, end_object, finish}
use Rattle.json_events.specs.Members.{property, kept_object}
use Rattle.json_events.specs.Units.{units, by_units}
use Rattle.json_events.specs.WellNested.{Scalar, a_null, a_truth, a_whole, a_float, a_string, a_fragment, Tree, scalar, array, object, Trees, no_trees, and_tree, Fields, no_fields, and_field, nested, nested_items, nested_fields, name_events, has_field, Begins}
use Rattle.json_events.proofs.SortedMembers.{by_key}
use Rattle.json_events.proofs.ValueTexts.{going, run-append, with_text, sent, written, Leaves, first_then, string_acts}

abbrev pub after : List Event → Stage → Stage
after xs s = (run xs s).stage

pub after-append : (xs ys : List Event) (s : Stage) → after (xs ++ ys) s ≡ after ys (after xs s)
after-append xs ys s = ap (λ r. r.stage) (run-append xs ys s)

step_refused : (x : Event) (s : Stage) (e : CanonError) → s.refusal ≡ Some e → step x s ≡ record { stage = s; out = [] }
step_refused x s e is = ap (λ o. step x (record { refusal = o; draft = s.draft })) is ∙ ap (λ o. record { stage = record { refusal = o; draft = s.draft }; out = [] }) (sym is)

-- after a refusal nothing changes
pub run_refused : (xs : List Event) (s : Stage) (e : CanonError) → s.refusal ≡ Some e → run xs s ≡ record { stage = s; out = [] }
run_refused [] s e is = refl
run_refused (x ∷ xs) s e is =
    ap (λ first. record { stage = (run xs first.stage).stage; out = first.out ++ (run xs first.stage).out }) (step_refused x s e is)
    ∙ ap (λ r. record { stage = r.stage; out = r.out }) (run_refused xs s e is)

pub stays : (xs : List Event) (s : Stage) (e : CanonError) → s.refusal ≡ Some e → after xs s ≡ s
stays xs s e is = ap (λ r. r.stage) (run_refused xs s e is)

pub record Goes (P : Level → Type 0) (ls : List Level) (s : Stage) : Type 0 where
  pub new : Draft
  pub is : s ≡ going new
  pub inner : P new.inner
  pub outer : new.outer ≡ ls

pub record Stops (s : Stage) : Type 0 where
  pub why : CanonError
  pub is : s.refusal ≡ Some why
  pub other : why ≢ NotWellNested

abbrev pub Passes : (Level → Type 0) → List Level → Stage → Type 0
Passes P ls s = Goes P ls s ⊎ Stops s

stop_on : (ys : List Event) (s : Stage) → Stops s → Stops (after ys s)
stop_on ys s stop = subst Stops (sym (stays ys s stop.why stop.is)) stop

pub and_then : (xs ys : List Event) (d : Draft) (P Q : Level → Type 0) (ls ms : List Level) → Passes P ls (after xs (going d))
    → ((new : Draft) → P new.inner → new.outer ≡ ls → Passes Q ms (after ys (going new))) → Passes Q ms (after (xs ++ ys) (going d))
and_then xs ys d P Q ls ms (inl goes) next = subst (λ s. Passes Q ms s) (sym (after-append xs ys (going d) ∙ ap (after ys) goes.is)) (next goes.new goes.inner goes.outer)
and_then xs ys d P Q ls ms (inr stop) next = subst (λ s. Passes Q ms s) (sym (after-append xs ys (going d))) (inr (stop_on ys (after xs (going d)) stop))

weaker : (P Q : Level → Type 0) (ls ms : List Level) (s : Stage) → ls ≡ ms → ((l : Level) → P l → Q l) → Passes P ls s → Passes Q ms s
weaker P Q ls ms s same step (inl goes) = inl (record { new = goes.new; is = goes.is; inner = step goes.new.inner goes.inner; outer = goes.outer ∙ same })
weaker P Q ls ms s same step (inr stop) = inr stop

moved : (P : Level → Type 0) (ls : List Level) (t : Turn) (d new : Draft) (out : List ℕ) → t ≡ moves new out → P new.inner → new.outer ≡ ls → Passes P ls (carried_out t d).stage
moved P ls t d new out is inner outer = inl (record { new = new; is = ap (λ u. (carried_out u d).stage) is; inner = inner; outer = outer })

barred : (P : Level → Type 0) (ls : List Level) (t : Turn) (d : Draft) (e : CanonError) → t ≡ refused e → e ≢ NotWellNested → Passes P ls (carried_out t d).stage
barred P ls t d e is other = inr (record { why = e; is = ap (λ u. (carried_out u d).stage.refusal) is; other = other })

wrote : (P : Level → Type 0) (ls : List Level) (t : Turn) (piece : List ℕ) (e d : Draft) → t ≡ writes piece e → P e.inner → e.outer ≡ ls → Passes P ls (carried_out t d).stage
wrote P ls t piece e d is inner outer = moved P ls t d (with_text piece e) (sent piece e) (is ∙ written piece e) inner outer

either : (P : Level → Type 0) (ls : List Level) (b : Bool) (t u : Turn) (d : Draft) → Passes P ls (carried_out t d).stage → Passes P ls (carried_out u d).stage → Passes P ls (carried_out (if b then t else u) d).stage
either P ls true t u d first second = first
either P ls false t u d first second = second

-- the level where a value is due
abbrev pub InPlace : Draft → Spot → Level → Type 0
InPlace d s l = l ≡ (at s d).inner

due_passes : (P : Level → Type 0) (ls : List Level) (turn : Spot → Turn) (d : Draft) (s : Spot) → after_value d.inner.spot ≡ Some s → Passes P ls (carried_out (turn s) d).stage → Passes P ls (carried_out (where_due (after_value d.inner.spot) turn) d).stage
due_passes P ls turn d s due is = subst (λ t. Passes P ls (carried_out t d).stage) (sym (ap (λ o. where_due o turn) due)) is

piece_passes : (piece : List ℕ) (d : Draft) (s : Spot) → after_value d.inner.spot ≡ Some s → Passes (InPlace d s) d.outer (carried_out (places piece d) d).stage
piece_passes piece d s due = due_passes (InPlace d s) d.outer (λ t. writes piece (at t d)) d s due (wrote (InPlace d s) d.outer _ piece (at s d) d refl refl refl)

scalar_passes : (c : Scalar) (d : Draft) (s : Spot) → after_value d.inner.spot ≡ Some s → Passes (InPlace d s) d.outer (after (nested (scalar c)) (going d))
scalar_passes a_null d s due = piece_passes (codes "null") d s due
scalar_passes (a_truth b) d s due = piece_passes (truth_text b) d s due
scalar_passes (a_whole z) d s due =
    due_passes (InPlace d s) d.outer (λ t. if in_range z then writes (signed_decimal z) (at t d) else refused IntegerOutOfRange) d s due
    (either (InPlace d s) d.outer (in_range z) _ _ d (wrote (InPlace d s) d.outer _ (signed_decimal z) (at s d) d refl refl refl) (barred (InPlace d s) d.outer _ d IntegerOutOfRange refl (λ e. cc)))
scalar_passes a_float d s due = due_passes (InPlace d s) d.outer (λ t. refused Float) d s due (barred (InPlace d s) d.outer _ d Float refl (λ e. cc))
scalar_passes (a_string t) d s due = subst (λ u. Passes (InPlace d s) d.outer (carried_out u d).stage) (sym (string_acts t d s due)) (piece_passes (quoted_text t) d s due)
scalar_passes a_fragment d s due = due_passes (InPlace d s) d.outer (λ t. refused RawFragment) d s due (barred (InPlace d s) d.outer _ d RawFragment refl (λ e. cc))

here : (q r : Spot) (t : Turn) → q ≡ r → is_at r r ≡ true → (if is_at q r then t else refused NotWellNested) ≡ t
here q r t is same = ap (λ b. if b then t else refused NotWellNested) (ap (λ p. is_at p r) is ∙ same)

abbrev pub AtSpot : Spot → Level → Type 0
AtSpot q l = l.spot ≡ q

-- ---- arrays

pub item_begin : (e : Draft) (ls : List Level) → e.inner.spot ≡ Items → e.outer ≡ ls → Passes (AtSpot ItemDue) ls (after (begin_array_value ∷ []) (going e))
item_begin e ls spot outer = wrote (AtSpot ItemDue) ls _ (comma_if e.inner.begun) (record e { inner = record e.inner { spot = ItemDue; begun = true } }) e (here e.inner.spot Items (begins_item e) spot refl) refl outer

pub item_end : (e : Draft) (ls : List Level) → e.inner.spot ≡ ItemDone → e.outer ≡ ls → Passes (AtSpot Items) ls (after (end_array_value ∷ []) (going e))
item_end e ls spot outer = moved (AtSpot Items) ls _ e (at Items e) [] (here e.inner.spot ItemDone (moves (at Items e) []) spot refl) refl outer

array_end : (e : Draft) (l : Level) (ls : List Level) → e.inner.spot ≡ Items → e.outer ≡ l ∷ ls → Passes (λ m. m ≡ l) ls (after (end_array ∷ []) (going e))
array_end e l ls spot outer =
    wrote (λ m. m ≡ l) ls _ (93 ∷ []) (record e { inner = l; outer = ls }) e
    (here e.inner.spot Items (ends_array e) spot refl ∙ ap (λ o. where_around o (λ m ms. writes (93 ∷ []) (record e { inner = m; outer = ms }))) outer) refl refl

pub array_begin : (d : Draft) (s : Spot) → after_value d.inner.spot ≡ Some s → Passes (AtSpot Items) ((at s d).inner ∷ d.outer) (after (begin_array ∷ []) (going d))
array_begin d s due =
    due_passes (AtSpot Items) ((at s d).inner ∷ d.outer) (λ t. writes (91 ∷ []) (opened (level Items d.inner.held []) (at t d))) d s due
    (wrote (AtSpot Items) ((at s d).inner ∷ d.outer) _ (91 ∷ []) (opened (level Items d.inner.held []) (at s d)) d refl refl refl)

item_passes : (t : Tree) (e : Draft) (ls : List Level) → ((f : Draft) → f.inner.spot ≡ ItemDue → Passes (InPlace f ItemDone) f.outer (after (nested t) (going f)))
    → e.inner.spot ≡ Items → e.outer ≡ ls → Passes (AtSpot Items) ls (after (begin_array_value ∷ (nested t ++ end_array_value ∷ [])) (going e))
item_passes t e ls value spot outer =
    and_then (begin_array_value ∷ []) (nested t ++ end_array_value ∷ []) e (AtSpot ItemDue) (AtSpot Items) ls ls (item_begin e ls spot outer)
    (λ f due around. and_then (nested t) (end_array_value ∷ []) f (InPlace f ItemDone) (AtSpot Items) f.outer ls (value f due) (λ g inner out. item_end g ls (ap (λ l. l.spot) inner) (out ∙ around)))

-- ---- objects

-- whether a member ties with the name
abbrev pub ties : List ℕ → List JsonProperty → Bool
ties k ps = list_any (λ p. is_eq (slice_cmp nat_cmp (units k) p.sorting_key)) ps

or_swap : (a b c : Bool) → (a || (b || c)) ≡ (b || (a || c))
or_swap true true c = refl
or_swap true false c = refl
or_swap false b c = refl

ties_more_at : (o : Ordering) (q k t : List ℕ) (p : JsonProperty) (ps : List JsonProperty) → is_eq o ≡ false → ties q (insert_key by_key ps (property (k, t))) ≡ (is_eq (by_units q k) || ties q ps)
    → ties q (match_ordering o (property (k, t) ∷ p ∷ ps) (p ∷ ps) (p ∷ insert_key by_key ps (property (k, t)))) ≡ (is_eq (by_units q k) || ties q (p ∷ ps))
ties_more_at Less q k t p ps apart rest = refl
ties_more_at Equal q k t p ps apart rest = cc
ties_more_at Greater q k t p ps apart rest = ap (λ b. is_eq (slice_cmp nat_cmp (units q) p.sorting_key) || b) rest ∙ or_swap _ (is_eq (by_units q k)) (ties q ps)

neither : (a b : Bool) → (a || b) ≡ false → (a ≡ false) × (b ≡ false)
neither true b e = cc
neither false b e = (refl, e)

pub ties_more : (q k t : List ℕ) (ps : List JsonProperty) → ties k ps ≡ false → ties q (insert_key by_key ps (property (k, t))) ≡ (is_eq (by_units q k) || ties q ps)
ties_more q k t [] apart = refl
ties_more q k t (p ∷ ps) apart =
    let parts = neither _ _ apart in
    ties_more_at (slice_cmp nat_cmp (units k) p.sorting_key) q k t p ps parts.0 (ties_more q k t ps parts.1)

-- the members so far
pub record FieldsIn (fs : Fields) (l : Level) : Type 0 where
  pub spot : l.spot ≡ Names
  pub has : (k : List ℕ) → ties k l.members ≡ has_field k fs

abbrev pub named : List ℕ → Level → Level
named k l = record l { spot = ValueDue; name = k }

pub name_passes : (k : List ℕ) (e : Draft) (ls : List Level) → e.inner.spot ≡ Names → e.outer ≡ ls → Passes (λ l. l ≡ named k e.inner) ls (after (name_events k) (going e))
name_passes k e ls spot outer =
    let end = record e { inner = named k e.inner } in
    let rest : Leaves (write_string k ∷ end_object_key ∷ begin_object_value ∷ []) (at NameDue e) end [] = refl in
    let leaves : Leaves (name_events k) e end [] = first_then begin_object_key (write_string k ∷ end_object_key ∷ begin_object_value ∷ []) e (at NameDue e) end [] [] (here e.inner.spot Names (moves (at NameDue e) []) spot refl) rest in
    inl (record { new = end; is = ap (λ r. r.stage) leaves; inner = refl; outer = outer })

member_end_by : (b : Bool) (fs : Fields) (k : List ℕ) (t : Tree) (g : Draft) (ls : List Level) → ties g.inner.name g.inner.members ≡ b → g.inner.spot ≡ ValueDone → g.inner.name ≡ k → ((q : List ℕ) → ties q g.inner.members ≡ has_field q fs) → g.outer ≡ ls
    → Passes (FieldsIn (and_field fs k t)) ls (after (end_object_value ∷ []) (going g))
member_end_by true fs k t g ls twice spot name has outer =
    let new = record g { text = []; inner = record g.inner { spot = Names; members = insert_key by_key g.inner.members (property (g.inner.name, g.text)) } } in
    barred (FieldsIn (and_field fs k t)) ls _ g DuplicateKey (here g.inner.spot ValueDone (ends_member g) spot refl ∙ ap (λ c. if c then refused DuplicateKey else moves new []) twice) (λ e. cc)
member_end_by false fs k t g ls once spot name has outer =
    let new = record g { text = []; inner = record g.inner { spot = Names; members = insert_key by_key g.inner.members (property (g.inner.name, g.text)) } } in
    moved (FieldsIn (and_field fs k t)) ls _ g new [] (here g.inner.spot ValueDone (ends_member g) spot refl ∙ ap (λ c. if c then refused DuplicateKey else moves new []) once)
    (record {
      spot = refl;
      has = λ q. ties_more q g.inner.name g.text g.inner.members once ∙ ap (λ n. is_eq (by_units q n) || ties q g.inner.members) name ∙ ap (λ c. is_eq (by_units q k) || c) (has q);
    }) outer

field_passes : (fs : Fields) (k : List ℕ) (t : Tree) (e : Draft) (ls : List Level) → ((f : Draft) → f.inner.spot ≡ ValueDue → Passes (InPlace f ValueDone) f.outer (after (nested t) (going f)))
    → FieldsIn fs e.inner → e.outer ≡ ls → Passes (FieldsIn (and_field fs k t)) ls (after (name_events k ++ (nested t ++ end_object_value ∷ [])) (going e))
field_passes fs k t e ls value so outer =
    and_then (name_events k) (nested t ++ end_object_value ∷ []) e (λ l. l ≡ named k e.inner) (FieldsIn (and_field fs k t)) ls ls (name_passes k e ls so.spot outer)
    (λ f begun around. and_then (nested t) (end_object_value ∷ []) f (InPlace f ValueDone) (FieldsIn (and_field fs k t)) f.outer ls (value f (ap (λ l. l.spot) begun))
    (λ g inner out. member_end_by _ fs k t g ls refl (ap (λ l. l.spot) inner) (ap (λ l. l.name) inner ∙ ap (λ l. l.name) begun)
    (λ q. ap (ties q) (ap (λ l. l.members) inner ∙ ap (λ l. l.members) begun) ∙ so.has q) (out ∙ around)))

-- a member whose value is complete
pub field_ready : (k : List ℕ) (t : Tree) (e : Draft) (ls : List Level) (P : Level → Type 0) → ((f : Draft) → f.inner.spot ≡ ValueDue → Passes (InPlace f ValueDone) f.outer (after (nested t) (going f))) → e.inner.spot ≡ Names → e.outer ≡ ls
    → ((l : Level) → l.spot ≡ ValueDone → l.name ≡ k → l.members ≡ e.inner.members → P l) → Passes P ls (after (name_events k ++ nested t) (going e))
field_ready k t e ls P value spot outer ready =
    and_then (name_events k) (nested t) e (λ l. l ≡ named k e.inner) P ls ls (name_passes k e ls spot outer)
    (λ f begun around. weaker (InPlace f ValueDone) P f.outer ls (after (nested t) (going f)) around
    (λ l inner. ready l (ap (λ m. m.spot) inner) (ap (λ m. m.name) inner ∙ ap (λ m. m.name) begun) (ap (λ m. m.members) inner ∙ ap (λ m. m.members) begun)) (value f (ap (λ l. l.spot) begun)))

object_end : (e : Draft) (l : Level) (ls : List Level) → e.inner.spot ≡ Names → e.outer ≡ l ∷ ls → Passes (λ m. m ≡ l) ls (after (end_object ∷ []) (going e))
object_end e l ls spot outer =
    wrote (λ m. m ≡ l) ls _ (kept_object e.inner.members) (record { text = e.inner.around; inner = l; outer = ls }) e
    (here e.inner.spot Names (ends_object e) spot refl ∙ ap (λ o. where_around o (λ m ms. writes (kept_object e.inner.members) (record { text = e.inner.around; inner = m; outer = ms }))) outer) refl refl

abbrev pub NoMembers : Level → Type 0
NoMembers l = (l.spot ≡ Names) × (l.members ≡ [])

pub object_begin : (d : Draft) (s : Spot) → after_value d.inner.spot ≡ Some s → Passes NoMembers ((at s d).inner ∷ d.outer) (after (begin_object ∷ []) (going d))
object_begin d s due =
    due_passes NoMembers ((at s d).inner ∷ d.outer) (λ t. moves (record (opened (level Names true d.text) (at t d)) { text = [] }) []) d s due
    (moved NoMembers ((at s d).inner ∷ d.outer) _ d (record (opened (level Names true d.text) (at s d)) { text = [] }) [] refl (refl, refl) refl)

mutual
  pub tree_passes : (t : Tree) (d : Draft) (s : Spot) → after_value d.inner.spot ≡ Some s → Passes (InPlace d s) d.outer (after (nested t) (going d))
  tree_passes (scalar c) d s due = scalar_passes c d s due
  tree_passes (array ts) d s due =
      and_then (begin_array ∷ []) (nested_items ts ++ end_array ∷ []) d (AtSpot Items) (InPlace d s) ((at s d).inner ∷ d.outer) d.outer
      (array_begin d s due)
      (λ e spot out. and_then (nested_items ts) (end_array ∷ []) e (AtSpot Items) (InPlace d s) e.outer d.outer (items_passes ts e spot)
      (λ f ended around. array_end f (at s d).inner d.outer ended (around ∙ out)))
  tree_passes (object fs) d s due =
      and_then (begin_object ∷ []) (nested_fields fs ++ end_object ∷ []) d NoMembers (InPlace d s) ((at s d).inner ∷ d.outer) d.outer (object_begin d s due)
      (λ e begun out. and_then (nested_fields fs) (end_object ∷ []) e (FieldsIn fs) (InPlace d s) e.outer d.outer (fields_passes fs e begun)
      (λ f ended around. object_end f (at s d).inner d.outer ended.spot (around ∙ out)))

  pub items_passes : (ts : Trees) (d : Draft) → d.inner.spot ≡ Items → Passes (AtSpot Items) d.outer (after (nested_items ts) (going d))
  items_passes no_trees d spot = inl (record { new = d; is = refl; inner = spot; outer = refl })
  items_passes (and_tree ts t) d spot =
      and_then (nested_items ts) (begin_array_value ∷ (nested t ++ end_array_value ∷ [])) d (AtSpot Items) (AtSpot Items) d.outer d.outer (items_passes ts d spot)
      (λ e now out. item_passes t e d.outer (λ f due. tree_passes t f ItemDone (ap after_value due)) now out)

  pub fields_passes : (fs : Fields) (d : Draft) → NoMembers d.inner → Passes (FieldsIn fs) d.outer (after (nested_fields fs) (going d))
  fields_passes no_fields d begun = inl (record { new = d; is = refl; inner = record { spot = begun.0; has = λ k. ap (ties k) begun.1 }; outer = refl })
  fields_passes (and_field fs k t) d begun =
      and_then (nested_fields fs) (name_events k ++ (nested t ++ end_object_value ∷ [])) d (FieldsIn fs) (FieldsIn (and_field fs k t)) d.outer d.outer (fields_passes fs d begun)
      (λ e now out. field_passes fs k t e d.outer (λ f due. tree_passes t f ValueDone (ap after_value due)) now out)

text_passes : (t : Tree) → Passes (AtSpot Finished) [] (after (nested t ++ finish ∷ []) fresh)
text_passes t =
    and_then (nested t) (finish ∷ []) fresh.draft (InPlace fresh.draft Whole) (AtSpot Finished) [] [] (tree_passes t fresh.draft Whole refl)
    (λ e inner out. moved (AtSpot Finished) [] _ e (at Finished e) [] (here e.inner.spot Whole (moves (at Finished e) []) (ap (λ l. l.spot) inner) refl) refl out)

no_refusal : (P : Level → Type 0) (ls : List Level) (s : Stage) → Passes P ls s → s.refusal ≢ Some NotWellNested
no_refusal P ls s (inl goes) is = let all : None ≡ Some NotWellNested = sym (ap (λ t. t.refusal) goes.is) ∙ is in cc
no_refusal P ls s (inr stop) is = let all : Some stop.why ≡ Some NotWellNested = sym stop.is ∙ is in stop.other cc

-- a prefix of a well-nested list is not refused for nesting
pub front_passes : (xs : List Event) → Begins xs → (after xs fresh).refusal ≢ Some NotWellNested
front_passes xs front is =
    let whole : after (nested front.value ++ finish ∷ []) fresh ≡ after xs fresh = ap (λ l. after l fresh) (sym front.is) ∙ after-append xs front.rest fresh ∙ stays front.rest (after xs fresh) NotWellNested is in
    no_refusal (AtSpot Finished) [] _ (text_passes front.value) (ap (λ s. s.refusal) whole ∙ is)
