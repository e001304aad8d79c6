-- An event is refused if and only if it has a cause.
use Rattle.std.proofs.Common.{◌≡◌, ℕ, ℤ, List, [], ◌∷◌, ◌++◌, Bool, true, false, if◌then◌else◌, Option, Some, None, refl, sym, ap, subst, ◌∙◌, ◌⊎◌, inl, inr, append_assoc, append-nil, codes}
use Rattle.std.specs.BTreeSet.{insert_key}
use Rattle.std.specs.Fmt.{signed_decimal}
use Rattle.serde_json.specs.Written.{comma_if}
use Rattle.json_values.specs.Canon.{quoted_text}
use Rattle.json_events.specs.declared.error.CanonError.{CanonError}
use Rattle.json_events.specs.declared.error.CanonError.TheVariants.{Float, IntegerOutOfRange, DuplicateKey, RawFragment, NotWellNested, Unreadable, SinkFault, WantOfMemory}
use Rattle.json_events.specs.declared.property.JsonProperty.{JsonProperty}
use Rattle.json_events.specs.declared.spot.Spot.{Spot}
use Rattle.json_events.specs.declared.spot.Spot.TheVariants.{Start, Whole, Finished, Items, ItemDue, ItemDone, Names, NameDue, NameDone, Named, ValueDue, ValueDone}
use Rattle.json_events.specs.Canonical.{in_range, truth_text}
use Rattle.json_events.specs.Drafts.{Level, Draft, Turn, refused, moves, Stage, carried_out, act, run, fresh, writes, at, after_value, level, opened, where_due, where_around, is_at, only_at, places, begins_item, ends_array, ends_object, ends_member}
use Rattle.json_events.specs.Events.{Event, write_null, write_bool, write_integer, write_float, write_string, write_raw_fragment, begin_array, begin_array_value, end_array_value, end_array, begin_object, begin_object_key, end_object_key, begin_object_value, end_object_value, end_object, finish}
use Rattle.json_events.specs.Laws.{FirstBad, RefusalStays}
use Rattle.json_events.specs.Members.{property, kept_object}
use Rattle.json_events.specs.WellNested.{a_null, a_float, a_whole, a_fragment, Tree, scalar, array, object, Trees, and_tree, Fields, and_field, nested, nested_items, nested_fields, name_events, has_field, Begins, ComesTwice, Cause, IsGood, IsBad}
use Rattle.json_events.proofs.SortedMembers.{by_key}
use Rattle.json_events.proofs.ValueTexts.{going, written, run-append}
use Rattle.json_events.proofs.TreeEvents.{after, after-append, stays, run_refused, front_passes, ties, Passes, and_then, NoMembers, object_begin, FieldsIn, fields_passes, tree_passes, field_ready}
use Rattle.json_events.proofs.EventPlaces.{Opens, Fits, Within, arrives, same_spot, act_fits, fits, TurnFits, longer_array, longer_object}

-- ---- events that fit can be continued to a well-nested list

-- the events of a container can be continued to a value
record Ends (xs : List Event) : Type 0 where
  tree : Tree
  rest : List Event
  is : xs ++ rest ≡ nested tree

ends_more : (xs ys : List Event) → Ends (xs ++ ys) → Ends xs
ends_more xs ys e = record { tree = e.tree; rest = ys ++ e.rest; is = sym (append_assoc xs ys e.rest) ∙ e.is }

ends_items : (ts : Trees) (xs : List Event) → xs ≡ begin_array ∷ nested_items ts → Ends xs
ends_items ts xs is = record { tree = array ts; rest = end_array ∷ []; is = ap (λ l. l ++ end_array ∷ []) is }

ends_item : (ts : Trees) (t : Tree) (xs : List Event) → xs ≡ begin_array ∷ (nested_items ts ++ begin_array_value ∷ nested t) → Ends xs
ends_item ts t xs is = ends_more xs (end_array_value ∷ []) (ends_items (and_tree ts t) (xs ++ end_array_value ∷ []) (longer_array ts (begin_array_value ∷ nested t) (end_array_value ∷ []) xs is))

ends_item_due : (ts : Trees) (xs : List Event) → xs ≡ begin_array ∷ (nested_items ts ++ begin_array_value ∷ []) → Ends xs
ends_item_due ts xs is = ends_more xs (write_null ∷ []) (ends_item ts (scalar a_null) (xs ++ write_null ∷ []) (longer_array ts (begin_array_value ∷ []) (write_null ∷ []) xs is))

ends_names : (fs : Fields) (xs : List Event) → xs ≡ begin_object ∷ nested_fields fs → Ends xs
ends_names fs xs is = record { tree = object fs; rest = end_object ∷ []; is = ap (λ l. l ++ end_object ∷ []) is }

member_over : (fs : Fields) (n : List ℕ) (t : Tree) (xs : List Event) → xs ≡ begin_object ∷ (nested_fields fs ++ (name_events n ++ nested t)) → xs ++ end_object_value ∷ [] ≡ begin_object ∷ nested_fields (and_field fs n t)
member_over fs n t xs is = longer_object fs (name_events n ++ nested t) (end_object_value ∷ []) xs is ∙ ap (λ l. begin_object ∷ (nested_fields fs ++ l)) (append_assoc (name_events n) (nested t) (end_object_value ∷ []))

ends_member_done : (fs : Fields) (n : List ℕ) (t : Tree) (xs : List Event) → xs ≡ begin_object ∷ (nested_fields fs ++ (name_events n ++ nested t)) → Ends xs
ends_member_done fs n t xs is = ends_more xs (end_object_value ∷ []) (ends_names (and_field fs n t) (xs ++ end_object_value ∷ []) (member_over fs n t xs is))

ends_member_due : (fs : Fields) (n : List ℕ) (xs : List Event) → xs ≡ begin_object ∷ (nested_fields fs ++ name_events n) → Ends xs
ends_member_due fs n xs is = ends_more xs (write_null ∷ []) (ends_member_done fs n (scalar a_null) (xs ++ write_null ∷ []) (longer_object fs (name_events n) (write_null ∷ []) xs is))

ends_from : (fs : Fields) (n : List ℕ) (a b xs : List Event) → a ++ b ≡ name_events n → xs ≡ begin_object ∷ (nested_fields fs ++ a) → Ends xs
ends_from fs n a b xs parts is = ends_more xs b (ends_member_due fs n (xs ++ b) (longer_object fs a b xs is ∙ ap (λ l. begin_object ∷ (nested_fields fs ++ l)) parts))

ends : (q : Spot) (n : List ℕ) (ms : List JsonProperty) (xs : List Event) → Within q n ms xs → Ends xs
ends Start n ms xs w = absurd w
ends Whole n ms xs w = absurd w
ends Finished n ms xs w = absurd w
ends Items n ms xs w = ends_items w.0 xs w.1
ends ItemDue n ms xs w = ends_item_due w.0 xs w.1
ends ItemDone n ms xs w = ends_item w.0 w.1 xs w.2
ends Names n ms xs w = ends_names w.0 xs w.2
ends NameDue n ms xs w = ends_from w.0 [] (begin_object_key ∷ []) (write_string [] ∷ end_object_key ∷ begin_object_value ∷ []) xs refl w.2
ends NameDone n ms xs w = ends_from w.0 n (begin_object_key ∷ write_string n ∷ []) (end_object_key ∷ begin_object_value ∷ []) xs refl w.2
ends Named n ms xs w = ends_from w.0 n (begin_object_key ∷ write_string n ∷ end_object_key ∷ []) (begin_object_value ∷ []) xs refl w.2
ends ValueDue n ms xs w = ends_member_due w.0 n xs w.2
ends ValueDone n ms xs w = ends_member_done w.0 n w.1 xs w.3

begins_more : (xs ys : List Event) → Begins (xs ++ ys) → Begins xs
begins_more xs ys b = record { value = b.value; rest = ys ++ b.rest; is = sym (append_assoc xs ys b.rest) ∙ b.is }

outside_begins : (q : Spot) (n : List ℕ) (ms : List JsonProperty) (xs : List Event) → Opens q n ms [] xs → Begins xs
outside_begins Start n ms xs is = record { value = scalar a_null; rest = write_null ∷ finish ∷ []; is = ap (λ l. l ++ write_null ∷ finish ∷ []) is }
outside_begins Whole n ms xs so = record { value = so.0; rest = finish ∷ []; is = ap (λ l. l ++ finish ∷ []) so.1 }
outside_begins Finished n ms xs so = record { value = so.0; rest = []; is = append-nil xs ∙ so.1 }
outside_begins Items n ms xs so = absurd so
outside_begins ItemDue n ms xs so = absurd so
outside_begins ItemDone n ms xs so = absurd so
outside_begins Names n ms xs so = absurd so
outside_begins NameDue n ms xs so = absurd so
outside_begins NameDone n ms xs so = absurd so
outside_begins Named n ms xs so = absurd so
outside_begins ValueDue n ms xs so = absurd so
outside_begins ValueDone n ms xs so = absurd so

-- a container that can be continued to a value, at a place where a value is due
ends_begins : (before mid : List Event) → ((t : Tree) → Begins (before ++ nested t)) → Ends mid → Begins (before ++ mid)
ends_begins before mid around e = begins_more (before ++ mid) e.rest (subst Begins (sym (append_assoc before mid e.rest ∙ ap (λ l. before ++ l) e.is)) (around e.tree))

opens_begins : (ls : List Level) (q : Spot) (n : List ℕ) (ms : List JsonProperty) (xs : List Event) → Opens q n ms ls xs → Begins xs
opens_begins [] q n ms xs so = outside_begins q n ms xs so
opens_begins (l ∷ ls) q n ms xs so =
    subst Begins (sym so.3) (ends_begins so.0 so.1 (λ t. opens_begins ls l.spot l.name l.members (so.0 ++ nested t) (arrives so.2 l.spot l.name l.members ls so.0 t so.5 so.6)) (ends q n ms so.1 so.4))

fits_begins : (xs : List Event) (d : Draft) → Fits xs d → Begins xs
fits_begins xs d so = opens_begins d.outer d.inner.spot d.inner.name d.inner.members xs so

-- ---- why a turn is refused

abbrev Why : List Event → Event → CanonError → Type 0
Why xs x NotWellNested = Unit {0}
Why xs x DuplicateKey = Begins (xs ++ x ∷ []) × Cause DuplicateKey xs x
Why xs x Unreadable = ⊥
Why xs x SinkFault = ⊥
Why xs x WantOfMemory = ⊥
Why xs x e = Cause e xs x

abbrev TurnWhy : List Event → Event → Turn → Type 0
TurnWhy xs x (refused e) = Why xs x e
TurnWhy xs x (moves d out) = Unit {0}

write_why : (xs : List Event) (x : Event) (piece : List ℕ) (d : Draft) → TurnWhy xs x (writes piece d)
write_why xs x piece d = subst (λ t. TurnWhy xs x t) (sym (written piece d)) tt

due_why : (xs : List Event) (x : Event) (q : Spot) (o : Option Spot) (turn : Spot → Turn) → after_value q ≡ o → ((s : Spot) → after_value q ≡ Some s → TurnWhy xs x (turn s)) → TurnWhy xs x (where_due o turn)
due_why xs x q None turn is why = tt
due_why xs x q (Some s) turn is why = why s is

choice_why : (xs : List Event) (x : Event) (b : Bool) (t u : Turn) → (b ≡ true → TurnWhy xs x t) → (b ≡ false → TurnWhy xs x u) → TurnWhy xs x (if b then t else u)
choice_why xs x true t u first second = first refl
choice_why xs x false t u first second = second refl

around_why : (xs : List Event) (x : Event) (ls : List Level) (turn : Level → List Level → Turn) → ((l : Level) (ms : List Level) → TurnWhy xs x (turn l ms)) → TurnWhy xs x (where_around ls turn)
around_why xs x [] turn why = tt
around_why xs x (l ∷ ls) turn why = why l ls

only_why : (xs : List Event) (x : Event) (d : Draft) (r : Spot) (t : Turn) → (d.inner.spot ≡ r → TurnWhy xs x t) → TurnWhy xs x (only_at r d t)
only_why xs x d r t why = choice_why xs x (is_at d.inner.spot r) t (refused NotWellNested) (λ is. why (same_spot d.inner.spot r is)) (λ is. tt)

piece_why : (xs : List Event) (x : Event) (piece : List ℕ) (d : Draft) → TurnWhy xs x (places piece d)
piece_why xs x piece d = due_why xs x d.inner.spot (after_value d.inner.spot) (λ s. writes piece (at s d)) refl (λ s due. write_why xs x piece (at s d))

arrives_begins : (xs : List Event) (d : Draft) (s : Spot) (t : Tree) → after_value d.inner.spot ≡ Some s → Fits xs d → Begins (xs ++ nested t)
arrives_begins xs d s t due so = opens_begins d.outer s d.inner.name d.inner.members (xs ++ nested t) (arrives d.inner.spot s d.inner.name d.inner.members d.outer xs t due so)

twice : (xs : List Event) (n : List ℕ) (ms : List JsonProperty) (ls : List Level) → ties n ms ≡ true → Opens ValueDone n ms ls xs → Why xs end_object_value DuplicateKey
twice xs n ms [] has so = absurd so
twice xs n ms (l ∷ ls) has so =
    let w = so.4 in (
      subst Begins (sym (ap (λ y. y ++ end_object_value ∷ []) so.3 ∙ append_assoc so.0 so.1 (end_object_value ∷ [])))
          (ends_begins so.0 (so.1 ++ end_object_value ∷ []) (λ t. opens_begins ls l.spot l.name l.members (so.0 ++ nested t) (arrives so.2 l.spot l.name l.members ls so.0 t so.5 so.6))
          (ends_names (and_field w.0 n w.1) (so.1 ++ end_object_value ∷ []) (member_over w.0 n w.1 so.1 w.3))),
      (refl, record { before = so.0; fields = w.0; name = n; value = w.1; is = so.3 ∙ ap (λ l. so.0 ++ l) w.3; has = sym (w.2 n) ∙ has }),
    )

member_why : (xs : List Event) (d : Draft) → d.inner.spot ≡ ValueDone → Fits xs d → TurnWhy xs end_object_value (ends_member d)
member_why xs d is so =
    choice_why xs end_object_value (ties d.inner.name d.inner.members) (refused DuplicateKey)
    (moves (record d { text = []; inner = record d.inner { spot = Names; members = insert_key by_key d.inner.members (property (d.inner.name, d.text)) } }) [])
    (λ has. twice xs d.inner.name d.inner.members d.outer has (subst (λ r. Opens r d.inner.name d.inner.members d.outer xs) is so)) (λ once. tt)

act_why : (x : Event) (d : Draft) (xs : List Event) → Fits xs d → TurnWhy xs x (act x d)
act_why write_null d xs so = piece_why xs write_null (codes "null") d
act_why (write_bool b) d xs so = piece_why xs (write_bool b) (truth_text b) d
act_why (write_integer z) d xs so =
    due_why xs (write_integer z) d.inner.spot (after_value d.inner.spot) (λ s. if in_range z then writes (signed_decimal z) (at s d) else refused IntegerOutOfRange) refl
    (λ s due. choice_why xs (write_integer z) (in_range z) _ _ (λ within. write_why xs (write_integer z) (signed_decimal z) (at s d)) (λ past. (arrives_begins xs d s (scalar (a_whole z)) due so, (z, refl, past))))
act_why write_float d xs so = due_why xs write_float d.inner.spot (after_value d.inner.spot) (λ s. refused Float) refl (λ s due. (arrives_begins xs d s (scalar a_float) due so, refl))
act_why (write_string k) d xs so = choice_why xs (write_string k) (is_at d.inner.spot NameDue) _ _ (λ is. tt) (λ is. piece_why xs (write_string k) (quoted_text k) d)
act_why write_raw_fragment d xs so = due_why xs write_raw_fragment d.inner.spot (after_value d.inner.spot) (λ s. refused RawFragment) refl (λ s due. (arrives_begins xs d s (scalar a_fragment) due so, refl))
act_why begin_array d xs so =
    due_why xs begin_array d.inner.spot (after_value d.inner.spot) (λ s. writes (91 ∷ []) (opened (level Items d.inner.held []) (at s d))) refl (λ s due. write_why xs begin_array (91 ∷ []) (opened (level Items d.inner.held []) (at s d)))
act_why begin_array_value d xs so = only_why xs begin_array_value d Items (begins_item d) (λ is. write_why xs begin_array_value (comma_if d.inner.begun) (record d { inner = record d.inner { spot = ItemDue; begun = true } }))
act_why end_array_value d xs so = only_why xs end_array_value d ItemDone (moves (at Items d) []) (λ is. tt)
act_why end_array d xs so = only_why xs end_array d Items (ends_array d) (λ is. around_why xs end_array d.outer _ (λ l ls. write_why xs end_array (93 ∷ []) (record d { inner = l; outer = ls })))
act_why begin_object d xs so = due_why xs begin_object d.inner.spot (after_value d.inner.spot) (λ s. moves (record (opened (level Names true d.text) (at s d)) { text = [] }) []) refl (λ s due. tt)
act_why begin_object_key d xs so = only_why xs begin_object_key d Names (moves (at NameDue d) []) (λ is. tt)
act_why end_object_key d xs so = only_why xs end_object_key d NameDone (moves (at Named d) []) (λ is. tt)
act_why begin_object_value d xs so = only_why xs begin_object_value d Named (moves (at ValueDue d) []) (λ is. tt)
act_why end_object_value d xs so = only_why xs end_object_value d ValueDone (ends_member d) (λ is. member_why xs d is so)
act_why end_object d xs so = only_why xs end_object d Names (ends_object d) (λ is. around_why xs end_object d.outer _ (λ l ls. write_why xs end_object (kept_object d.inner.members) (record { text = d.inner.around; inner = l; outer = ls })))
act_why finish d xs so = only_why xs finish d Whole (moves (at Finished d) []) (λ is. tt)

-- ---- the event after accepted events

pub going_is : (s : Stage) → s.refusal ≡ None → s ≡ going s.draft
going_is s is = ap (λ o. record { refusal = o; draft = s.draft }) is

next_is : (xs : List Event) (x : Event) → (after xs fresh).refusal ≡ None → after (xs ++ x ∷ []) fresh ≡ (carried_out (act x (after xs fresh).draft) (after xs fresh).draft).stage
next_is xs x none = after-append xs (x ∷ []) fresh ∙ ap (after (x ∷ [])) (going_is (after xs fresh) none)

turn_refusal : (t : Turn) (d : Draft) (e : CanonError) → (carried_out t d).stage.refusal ≡ Some e → t ≡ refused e
turn_refusal (refused c) d e is = cc
turn_refusal (moves new out) d e is = cc

cause_by : (e : CanonError) (xs : List Event) (x : Event) → Why xs x e → (after (xs ++ x ∷ []) fresh).refusal ≡ Some e → Cause e xs x
cause_by Float xs x why is = why
cause_by IntegerOutOfRange xs x why is = why
cause_by DuplicateKey xs x why is = why.1
cause_by RawFragment xs x why is = why
cause_by NotWellNested xs x why is = λ front. front_passes (xs ++ x ∷ []) front is
cause_by Unreadable xs x why is = absurd why
cause_by SinkFault xs x why is = absurd why
cause_by WantOfMemory xs x why is = absurd why

cause_of : (xs : List Event) (x : Event) → (after xs fresh).refusal ≡ None → (e : CanonError) → (after (xs ++ x ∷ []) fresh).refusal ≡ Some e → Cause e xs x
cause_of xs x none e is =
    let d = (after xs fresh).draft in
    let turn : act x d ≡ refused e = turn_refusal (act x d) d e (sym (ap (λ s. s.refusal) (next_is xs x none)) ∙ is) in
    cause_by e xs x (subst (λ t. TurnWhy xs x t) turn (act_why x d xs (fits xs none))) is

is_refused : (xs : List Event) (x : Event) → (after xs fresh).refusal ≡ None → (e : CanonError) → act x (after xs fresh).draft ≡ refused e → (after (xs ++ x ∷ []) fresh).refusal ≡ Some e
is_refused xs x none e is = ap (λ s. s.refusal) (next_is xs x none) ∙ ap (λ t. (carried_out t (after xs fresh).draft).stage.refusal) is

-- an event that no well-nested list has here
unnested_by : (e : CanonError) (xs : List Event) (x : Event) → Why xs x e → (Begins (xs ++ x ∷ []) → ⊥) → e ≡ NotWellNested
unnested_by Float xs x why never = absurd (never why.0)
unnested_by IntegerOutOfRange xs x why never = absurd (never why.0)
unnested_by DuplicateKey xs x why never = absurd (never why.0)
unnested_by RawFragment xs x why never = absurd (never why.0)
unnested_by NotWellNested xs x why never = refl
unnested_by Unreadable xs x why never = absurd why
unnested_by SinkFault xs x why never = absurd why
unnested_by WantOfMemory xs x why never = absurd why

unnested_turn : (t : Turn) (xs : List Event) (x : Event) → TurnWhy xs x t → ((new : Draft) (out : List ℕ) → t ≡ moves new out → Fits (xs ++ x ∷ []) new) → (Begins (xs ++ x ∷ []) → ⊥) → t ≡ refused NotWellNested
unnested_turn (refused e) xs x why fit never = ap refused (unnested_by e xs x why never)
unnested_turn (moves new out) xs x why fit never = absurd (never (fits_begins (xs ++ x ∷ []) new (fit new out refl)))

unnested : (xs : List Event) (x : Event) → (after xs fresh).refusal ≡ None → (Begins (xs ++ x ∷ []) → ⊥) → (after (xs ++ x ∷ []) fresh).refusal ≡ Some NotWellNested
unnested xs x none never =
    let d = (after xs fresh).draft in
    is_refused xs x none NotWellNested
    (unnested_turn (act x d) xs x (act_why x d xs (fits xs none)) (λ new out is. subst (λ t. TurnFits (xs ++ x ∷ []) t) is (act_fits x d xs (fits xs none))) never)

-- an event that is refused for nesting or for this cause only
settled : (xs : List Event) (x : Event) (e : CanonError) → (after xs fresh).refusal ≡ None → Begins (xs ++ x ∷ []) → (act x (after xs fresh).draft ≡ refused NotWellNested) ⊎ (act x (after xs fresh).draft ≡ refused e) → (after (xs ++ x ∷ []) fresh).refusal ≡ Some e
settled xs x e none front (inl is) = absurd (front_passes (xs ++ x ∷ []) front (is_refused xs x none NotWellNested is))
settled xs x e none front (inr is) = is_refused xs x none e is

one_of : (o : Option Spot) (e : CanonError) → (where_due o (λ s. refused e) ≡ refused NotWellNested) ⊎ (where_due o (λ s. refused e) ≡ refused e)
one_of None e = inl refl
one_of (Some s) e = inr refl

past_range : (z : ℤ) (d : Draft) → in_range z ≡ false → (act (write_integer z) d ≡ refused NotWellNested) ⊎ (act (write_integer z) d ≡ refused IntegerOutOfRange)
past_range z d past =
    let turn : act (write_integer z) d ≡ where_due (after_value d.inner.spot) (λ s. refused IntegerOutOfRange) = ap (λ b. where_due (after_value d.inner.spot) (λ s. if b then writes (signed_decimal z) (at s d) else refused IntegerOutOfRange)) past in
    elim (one_of (after_value d.inner.spot) IntegerOutOfRange) [ inl is ↦ inl (turn ∙ is) | inr is ↦ inr (turn ∙ is) ]

-- ---- a duplicate name

unrefused_at : (o : Option CanonError) (ys : List Event) (s : Stage) → s.refusal ≡ o → (after ys s).refusal ≡ None → o ≡ None
unrefused_at None ys s is none = refl
unrefused_at (Some e) ys s is none = let all : Some e ≡ None = sym (ap (λ t. t.refusal) (stays ys s e is) ∙ is) ∙ none in cc

pub unrefused : (xs ys : List Event) → (after (xs ++ ys) fresh).refusal ≡ None → (after xs fresh).refusal ≡ None
unrefused xs ys none = unrefused_at (after xs fresh).refusal ys (after xs fresh) refl (sym (ap (λ s. s.refusal) (after-append xs ys fresh)) ∙ none)

due_at : (o : Option Spot) (turn : Spot → Turn) (d : Draft) (ys : List Event) → (after ys (carried_out (where_due o turn) d).stage).refusal ≡ None → (s : Spot) × (o ≡ Some s)
due_at None turn d ys none = let all : Some NotWellNested ≡ None = sym (ap (λ t. t.refusal) (stays ys (record { refusal = Some NotWellNested; draft = d }) NotWellNested refl)) ∙ none in cc
due_at (Some s) turn d ys none = (s, refl)

-- a member whose value is complete
record Ready (fs : Fields) (k : List ℕ) (l : Level) : Type 0 where
  spot : l.spot ≡ ValueDone
  name : l.name ≡ k
  has : (q : List ℕ) → ties q l.members ≡ has_field q fs

object_ready : (fs : Fields) (k : List ℕ) (t : Tree) (d : Draft) (s : Spot) → after_value d.inner.spot ≡ Some s
    → Passes (Ready fs k) ((at s d).inner ∷ d.outer) (after (begin_object ∷ (nested_fields fs ++ (name_events k ++ nested t))) (going d))
object_ready fs k t d s due =
    let ls = (at s d).inner ∷ d.outer in
    and_then (begin_object ∷ []) (nested_fields fs ++ (name_events k ++ nested t)) d NoMembers (Ready fs k) ls ls (object_begin d s due)
    (λ e begun out. and_then (nested_fields fs) (name_events k ++ nested t) e (FieldsIn fs) (Ready fs k) e.outer ls (fields_passes fs e begun)
    (λ f so around. field_ready k t f ls (Ready fs k) (λ g here. tree_passes t g ValueDone (ap after_value here)) so.spot (around ∙ out)
    (λ l spot name members. record { spot = spot; name = name; has = λ q. ap (ties q) members ∙ so.has q })))

ready_refused : (fs : Fields) (k : List ℕ) (ls : List Level) (s : Stage) → has_field k fs ≡ true → s.refusal ≡ None → Passes (Ready fs k) ls s → act end_object_value s.draft ≡ refused DuplicateKey
ready_refused fs k ls s has none (inr stop) = let all : Some stop.why ≡ None = sym stop.is ∙ none in cc
ready_refused fs k ls s has none (inl goes) =
    let g = goes.new in
    let same : s.draft ≡ g = ap (λ t. t.draft) goes.is in
    let twice : ties g.inner.name g.inner.members ≡ true = goes.inner.has g.inner.name ∙ ap (λ n. has_field n fs) goes.inner.name ∙ has in
    let new = record g { text = []; inner = record g.inner { spot = Names; members = insert_key by_key g.inner.members (property (g.inner.name, g.text)) } } in
    ap (act end_object_value) same ∙ ap (λ q. if is_at q ValueDone then ends_member g else refused NotWellNested) goes.inner.spot ∙ ap (λ c. if c then refused DuplicateKey else moves new []) twice

comes_twice : (xs : List Event) → (after xs fresh).refusal ≡ None → ComesTwice xs → (after (xs ++ end_object_value ∷ []) fresh).refusal ≡ Some DuplicateKey
comes_twice xs none so =
    let ys = begin_object ∷ (nested_fields so.fields ++ (name_events so.name ++ nested so.value)) in
    let whole : (after (so.before ++ ys) fresh).refusal ≡ None = ap (λ l. (after l fresh).refusal) (sym so.is) ∙ none in
    let first = unrefused so.before ys whole in
    let d = (after so.before fresh).draft in
    let there : after xs fresh ≡ after ys (going d) = ap (λ l. after l fresh) so.is ∙ after-append so.before ys fresh ∙ ap (after ys) (going_is (after so.before fresh) first) in
    let due = due_at (after_value d.inner.spot) (λ t. moves (record (opened (level Names true d.text) (at t d)) { text = [] }) []) d (nested_fields so.fields ++ (name_events so.name ++ nested so.value)) (sym (ap (λ s. s.refusal) there) ∙ none) in
    is_refused xs end_object_value none DuplicateKey
    (ready_refused so.fields so.name ((at due.0 d).inner ∷ d.outer) (after xs fresh) so.has none
    (subst (λ s. Passes (Ready so.fields so.name) ((at due.0 d).inner ∷ d.outer) s) (sym there) (object_ready so.fields so.name so.value d due.0 due.1)))

-- ---- the laws

is_caused : (e : CanonError) (xs : List Event) (x : Event) → (after xs fresh).refusal ≡ None → Cause e xs x → (after (xs ++ x ∷ []) fresh).refusal ≡ Some e
is_caused Float xs x none cause =
    settled xs x Float none cause.0 (subst (λ y. (act y (after xs fresh).draft ≡ refused NotWellNested) ⊎ (act y (after xs fresh).draft ≡ refused Float)) (sym cause.1) (one_of (after_value (after xs fresh).draft.inner.spot) Float))
is_caused IntegerOutOfRange xs x none cause =
    settled xs x IntegerOutOfRange none cause.0
    (subst (λ y. (act y (after xs fresh).draft ≡ refused NotWellNested) ⊎ (act y (after xs fresh).draft ≡ refused IntegerOutOfRange)) (sym cause.1.1) (past_range cause.1.0 (after xs fresh).draft cause.1.2))
is_caused DuplicateKey xs x none cause = subst (λ y. (after (xs ++ y ∷ []) fresh).refusal ≡ Some DuplicateKey) (sym cause.0) (comes_twice xs none cause.1)
is_caused RawFragment xs x none cause =
    settled xs x RawFragment none cause.0
    (subst (λ y. (act y (after xs fresh).draft ≡ refused NotWellNested) ⊎ (act y (after xs fresh).draft ≡ refused RawFragment)) (sym cause.1) (one_of (after_value (after xs fresh).draft.inner.spot) RawFragment))
is_caused NotWellNested xs x none cause = unnested xs x none cause
is_caused Unreadable xs x none cause = absurd cause
is_caused SinkFault xs x none cause = absurd cause
is_caused WantOfMemory xs x none cause = absurd cause

good_so_far : (xs : List Event) → (after xs fresh).refusal ≡ None → IsGood xs
good_so_far xs none before later x e is cause =
    let whole : (after (before ++ x ∷ later) fresh).refusal ≡ None = ap (λ l. (after l fresh).refusal) (sym is) ∙ none in
    let there = unrefused (before ++ x ∷ []) later (ap (λ l. (after l fresh).refusal) (append_assoc before (x ∷ []) later) ∙ whole) in
    let all : Some e ≡ None = sym (is_caused e before x (unrefused before (x ∷ later) whole) cause) ∙ there in
    cc

first_next : (o : Option CanonError) (before : List Event) (x : Event) (xs : List Event) (e : CanonError) → (after before fresh).refusal ≡ None → (after (before ++ x ∷ []) fresh).refusal ≡ o
    → (after (before ++ x ∷ xs) fresh).refusal ≡ Some e → (o ≡ None → IsBad (before ++ x ∷ xs) e) → IsBad (before ++ x ∷ xs) e
first_next None before x xs e none there is more = more refl
first_next (Some c) before x xs e none there is more =
    let s = after (before ++ x ∷ []) fresh in
    let whole : after (before ++ x ∷ xs) fresh ≡ s = ap (λ l. after l fresh) (sym (append_assoc before (x ∷ []) xs)) ∙ after-append (before ++ x ∷ []) xs fresh ∙ stays xs s c there in
    record { before = before; bad = x; later = xs; is = refl; good = good_so_far before none; cause = cause_of before x none e (sym (ap (λ t. t.refusal) whole) ∙ is) }

-- the first refusal of more events
first_from : (xs before : List Event) (e : CanonError) → (after before fresh).refusal ≡ None → (after (before ++ xs) fresh).refusal ≡ Some e → IsBad (before ++ xs) e
first_from [] before e none is = let all : None ≡ Some e = sym none ∙ ap (λ l. (after l fresh).refusal) (sym (append-nil before)) ∙ is in cc
first_from (x ∷ xs) before e none is =
    let o = (after (before ++ x ∷ []) fresh).refusal in
    first_next o before x xs e none refl is
    (λ there. subst (λ l. IsBad l e) (append_assoc before (x ∷ []) xs) (first_from xs (before ++ x ∷ []) e there (ap (λ l. (after l fresh).refusal) (append_assoc before (x ∷ []) xs) ∙ is)))

good_unrefused : (o : Option CanonError) (xs : List Event) → (after xs fresh).refusal ≡ o → IsGood xs → o ≡ None
good_unrefused None xs is good = refl
good_unrefused (Some e) xs is good = let bad = first_from xs [] e refl is in absurd (good bad.before bad.later bad.bad e bad.is bad.cause)

bad_refused : (xs : List Event) (e : CanonError) → IsBad xs e → (after xs fresh).refusal ≡ Some e
bad_refused xs e bad =
    let before = bad.before in
    let s = after (before ++ bad.bad ∷ []) fresh in
    let none : (after before fresh).refusal ≡ None = good_unrefused _ before refl bad.good in
    let there : s.refusal ≡ Some e = is_caused e before bad.bad none bad.cause in
    let whole : after xs fresh ≡ s = ap (λ l. after l fresh) (bad.is ∙ sym (append_assoc before (bad.bad ∷ []) bad.later)) ∙ after-append (before ++ bad.bad ∷ []) bad.later fresh ∙ stays bad.later s e there in
    ap (λ t. t.refusal) whole ∙ there

pub first_is_bad : FirstBad
first_is_bad xs None = (good_so_far xs, good_unrefused _ xs refl)
first_is_bad xs (Some e) = (first_from xs [] e refl, bad_refused xs e)

pub refusal_stays : RefusalStays
refusal_stays xs ys e is =
    run-append xs ys fresh ∙ ap (λ r. record { stage = r.stage; out = (run xs fresh).out ++ r.out }) (run_refused ys (after xs fresh) e is)
    ∙ ap (λ o. record { stage = after xs fresh; out = o }) (append-nil (run xs fresh).out)
