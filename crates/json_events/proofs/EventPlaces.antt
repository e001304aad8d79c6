-- Accepted events as prefixes of well-nested lists.
use Rattle.std.proofs.Common.{◌≡◌, ℕ, List, [], ◌∷◌, ◌++◌, Bool, true, false, ◌||◌, if◌then◌else◌, Option, Some, None, refl, sym, ap, subst, ◌∙◌, append_assoc, append-nil, codes, ◌==◌}
use Rattle.std.specs.BTreeSet.{insert_key}
use Rattle.std.specs.Fmt.{signed_decimal}
use Rattle.std.specs.Ordering.{is_eq}
use Rattle.std.proofs.lemmas.Bool.{eqb-true}
use Rattle.serde_json.specs.Written.{comma_if}
use Rattle.json_values.specs.Canon.{quoted_text}
use Rattle.json_events.specs.declared.error.CanonError.TheVariants.{Float, IntegerOutOfRange, DuplicateKey, RawFragment, NotWellNested}
use Rattle.json_events.specs.declared.property.JsonProperty.{JsonProperty}
use Rattle.json_events.specs.declared.spot.Spot.{Spot}
use Rattle.json_events.specs.declared.spot.Spot.TheVariants.{Start, Whole, Finished, Items, ItemDue, ItemDone, Names, NameDue, NameDone, Named, ValueDue, ValueDone}
use Rattle.json_events.specs.Canonical.{in_range, truth_text}
use Rattle.json_events.specs.Drafts.{Level, Draft, Turn, refused, moves, step, carried_out, act, fresh, writes, at, after_value, level, opened, where_due, where_around, spot_index, is_at, only_at, places, begins_item, ends_array, ends_object, ends_member}
use Rattle.json_events.specs.Events.{Event, write_null, write_bool, write_integer, write_float, write_string, write_raw_fragment, begin_array, begin_array_value, end_array_value, end_array, begin_object, begin_object_key, end_object_key, begin_object_value, end_object_value, end_object, finish}
use Rattle.json_events.specs.Members.{property, kept_object}
use Rattle.json_events.specs.Units.{by_units}
use Rattle.json_events.specs.WellNested.{a_null, a_truth, a_whole, a_string, Tree, scalar, array, object, Trees, no_trees, and_tree, Fields, no_fields, and_field, nested, nested_items, nested_fields, name_events, has_field}
use Rattle.json_events.proofs.SortedMembers.{by_key}
use Rattle.json_events.proofs.ValueTexts.{going, with_text, sent, written}
use Rattle.json_events.proofs.TreeEvents.{ties, ties_more, after, stays}

-- the events, if no container is unclosed
abbrev pub Outside : Spot → List Event → Type 0
Outside Start xs = xs ≡ []
Outside Whole xs = (t : Tree) × (xs ≡ nested t)
Outside Finished xs = (t : Tree) × (xs ≡ nested t ++ finish ∷ [])
Outside q xs = ⊥

-- the members so far, with these names
abbrev pub Has : List JsonProperty → Fields → Type 0
Has ms fs = (k : List ℕ) → ties k ms ≡ has_field k fs

abbrev of_array : Trees → List Event → List Event
of_array ts more = begin_array ∷ (nested_items ts ++ more)

abbrev of_object : Fields → List Event → List Event
of_object fs more = begin_object ∷ (nested_fields fs ++ more)

-- the events since an unclosed container began
abbrev pub Within : Spot → List ℕ → List JsonProperty → List Event → Type 0
Within Items n ms xs = (ts : Trees) × (xs ≡ begin_array ∷ nested_items ts)
Within ItemDue n ms xs = (ts : Trees) × (xs ≡ of_array ts (begin_array_value ∷ []))
Within ItemDone n ms xs = (ts : Trees) × (t : Tree) × (xs ≡ of_array ts (begin_array_value ∷ nested t))
Within Names n ms xs = (fs : Fields) × Has ms fs × (xs ≡ begin_object ∷ nested_fields fs)
Within NameDue n ms xs = (fs : Fields) × Has ms fs × (xs ≡ of_object fs (begin_object_key ∷ []))
Within NameDone n ms xs = (fs : Fields) × Has ms fs × (xs ≡ of_object fs (begin_object_key ∷ write_string n ∷ []))
Within Named n ms xs = (fs : Fields) × Has ms fs × (xs ≡ of_object fs (begin_object_key ∷ write_string n ∷ end_object_key ∷ []))
Within ValueDue n ms xs = (fs : Fields) × Has ms fs × (xs ≡ of_object fs (name_events n))
Within ValueDone n ms xs = (fs : Fields) × (t : Tree) × Has ms fs × (xs ≡ of_object fs (name_events n ++ nested t))
Within q n ms xs = ⊥

-- the events since an unclosed container began, and those before it
abbrev pub Opens : Spot → List ℕ → List JsonProperty → List Level → List Event → Type 0
Opens q n ms [] xs = Outside q xs
Opens q n ms (l ∷ ls) xs = (before : List Event) × (mid : List Event) × (due : Spot) × (xs ≡ before ++ mid) × Within q n ms mid × (after_value due ≡ Some l.spot) × Opens due l.name l.members ls before

abbrev pub Fits : List Event → Draft → Type 0
Fits xs d = Opens d.inner.spot d.inner.name d.inner.members d.outer xs

-- the draft that a turn leaves fits, if the turn was made
abbrev pub TurnFits : List Event → Turn → Type 0
TurnFits xs (refused e) = Unit {0}
TurnFits xs (moves d out) = Fits xs d

-- ---- a value where one is due

abbrev AtSome : Option Spot → (Spot → Type 0) → Type 0
AtSome None P = Unit {0}
AtSome (Some s) P = P s

outside_more : (q : Spot) (xs : List Event) (t : Tree) → Outside q xs → AtSome (after_value q) (λ s. Outside s (xs ++ nested t))
outside_more Start xs t is = (t, ap (λ l. l ++ nested t) is)
outside_more Whole xs t so = tt
outside_more Finished xs t so = tt
outside_more Items xs t so = tt
outside_more ItemDue xs t so = absurd so
outside_more ItemDone xs t so = tt
outside_more Names xs t so = tt
outside_more NameDue xs t so = tt
outside_more NameDone xs t so = tt
outside_more Named xs t so = tt
outside_more ValueDue xs t so = absurd so
outside_more ValueDone xs t so = tt

-- more events at the end of a container's
pub longer_array : (ts : Trees) (a b xs : List Event) → xs ≡ of_array ts a → xs ++ b ≡ of_array ts (a ++ b)
longer_array ts a b xs is = ap (λ l. l ++ b) is ∙ append_assoc (begin_array ∷ nested_items ts) a b

pub longer_object : (fs : Fields) (a b xs : List Event) → xs ≡ of_object fs a → xs ++ b ≡ of_object fs (a ++ b)
longer_object fs a b xs is = ap (λ l. l ++ b) is ∙ append_assoc (begin_object ∷ nested_fields fs) a b

within_more : (q : Spot) (n : List ℕ) (ms : List JsonProperty) (xs : List Event) (t : Tree) → Within q n ms xs → AtSome (after_value q) (λ s. Within s n ms (xs ++ nested t))
within_more Start n ms xs t so = absurd so
within_more Whole n ms xs t so = tt
within_more Finished n ms xs t so = tt
within_more Items n ms xs t so = tt
within_more ItemDue n ms xs t so = (so.0, t, longer_array so.0 (begin_array_value ∷ []) (nested t) xs so.1)
within_more ItemDone n ms xs t so = tt
within_more Names n ms xs t so = tt
within_more NameDue n ms xs t so = tt
within_more NameDone n ms xs t so = tt
within_more Named n ms xs t so = tt
within_more ValueDue n ms xs t so = (so.0, t, so.1, longer_object so.0 (name_events n) (nested t) xs so.2)
within_more ValueDone n ms xs t so = tt

at_some : (o : Option Spot) (P Q : Spot → Type 0) → ((s : Spot) → P s → Q s) → AtSome o P → AtSome o Q
at_some None P Q step h = tt
at_some (Some s) P Q step h = step s h

opens_more : (q : Spot) (n : List ℕ) (ms : List JsonProperty) (ls : List Level) (xs : List Event) (t : Tree) → Opens q n ms ls xs → AtSome (after_value q) (λ s. Opens s n ms ls (xs ++ nested t))
opens_more q n ms [] xs t so = outside_more q xs t so
opens_more q n ms (l ∷ ls) xs t so =
    at_some (after_value q) (λ s. Within s n ms (so.1 ++ nested t)) (λ s. Opens s n ms (l ∷ ls) (xs ++ nested t))
    (λ s within. (so.0, so.1 ++ nested t, so.2, ap (λ y. y ++ nested t) so.3 ∙ append_assoc so.0 so.1 (nested t), within, so.5, so.6)) (within_more q n ms so.1 t so.4)

pub arrives : (q s : Spot) (n : List ℕ) (ms : List JsonProperty) (ls : List Level) (xs : List Event) (t : Tree) → after_value q ≡ Some s → Opens q n ms ls xs → Opens s n ms ls (xs ++ nested t)
arrives q s n ms ls xs t due so = subst (λ o. AtSome o (λ r. Opens r n ms ls (xs ++ nested t))) due (opens_more q n ms ls xs t so)

-- ---- turns

made : (xs : List Event) (t : Turn) (d : Draft) (out : List ℕ) → t ≡ moves d out → Fits xs d → TurnFits xs t
made xs t d out is so = subst (λ u. TurnFits xs u) (sym is) so

wrote : (xs : List Event) (piece : List ℕ) (d : Draft) → Fits xs d → TurnFits xs (writes piece d)
wrote xs piece d so = made xs (writes piece d) (with_text piece d) (sent piece d) (written piece d) so

where_fits : (xs : List Event) (q : Spot) (o : Option Spot) (turn : Spot → Turn) → after_value q ≡ o → ((s : Spot) → after_value q ≡ Some s → TurnFits xs (turn s)) → TurnFits xs (where_due o turn)
where_fits xs q None turn is made = tt
where_fits xs q (Some s) turn is made = made s is

choice : (xs : List Event) (b : Bool) (t u : Turn) → (b ≡ true → TurnFits xs t) → (b ≡ false → TurnFits xs u) → TurnFits xs (if b then t else u)
choice xs true t u first second = first refl
choice xs false t u first second = second refl

abbrev spot_of : ℕ → Spot
spot_of n = if n == 0 then Start else if n == 1 then Whole else if n == 2 then Finished else if n == 3 then Items else if n == 4 then ItemDue else if n == 5 then ItemDone else if n == 6 then Names else if n == 7 then NameDue else if n == 8 then NameDone else if n == 9 then Named else if n == 10 then ValueDue else ValueDone

its_spot : (q : Spot) → spot_of (spot_index q) ≡ q
its_spot Start = refl
its_spot Whole = refl
its_spot Finished = refl
its_spot Items = refl
its_spot ItemDue = refl
its_spot ItemDone = refl
its_spot Names = refl
its_spot NameDue = refl
its_spot NameDone = refl
its_spot Named = refl
its_spot ValueDue = refl
its_spot ValueDone = refl

pub same_spot : (q r : Spot) → is_at q r ≡ true → q ≡ r
same_spot q r is = sym (its_spot q) ∙ ap spot_of (eqb-true (spot_index q) (spot_index r) is) ∙ its_spot r

only : (xs : List Event) (d : Draft) (r : Spot) (t : Turn) → (d.inner.spot ≡ r → TurnFits xs t) → TurnFits xs (only_at r d t)
only xs d r t so = choice xs (is_at d.inner.spot r) t (refused NotWellNested) (λ is. so (same_spot d.inner.spot r is)) (λ is. tt)

piece_fits : (piece : List ℕ) (t : Tree) (d : Draft) (xs : List Event) → Fits xs d → TurnFits (xs ++ nested t) (places piece d)
piece_fits piece t d xs so =
    where_fits (xs ++ nested t) d.inner.spot (after_value d.inner.spot) (λ s. writes piece (at s d)) refl
    (λ s due. wrote (xs ++ nested t) piece (at s d) (arrives d.inner.spot s d.inner.name d.inner.members d.outer xs t due so))

-- the events of a container continue with its next event
goes_on : (q r : Spot) (n m : List ℕ) (ms ns : List JsonProperty) (x : Event) (ls : List Level) (xs : List Event) → (Outside q xs → Outside r (xs ++ x ∷ [])) → ((mid : List Event) → Within q n ms mid → Within r m ns (mid ++ x ∷ []))
    → Opens q n ms ls xs → Opens r m ns ls (xs ++ x ∷ [])
goes_on q r n m ms ns x [] xs out step so = out so
goes_on q r n m ms ns x (l ∷ ls) xs out step so = (so.0, so.1 ++ x ∷ [], so.2, ap (λ y. y ++ x ∷ []) so.3 ∙ append_assoc so.0 so.1 (x ∷ []), step so.1 so.4, so.5, so.6)

from : (q : Spot) (d : Draft) (xs : List Event) → d.inner.spot ≡ q → Fits xs d → Opens q d.inner.name d.inner.members d.outer xs
from q d xs is so = subst (λ r. Opens r d.inner.name d.inner.members d.outer xs) is so

-- a container that ends is a value of the enclosing one
closed : (t : Tree) (x : Event) (q due s : Spot) (n m : List ℕ) (ms ns : List JsonProperty) (ls : List Level) (before mid xs : List Event) → xs ≡ before ++ mid → mid ++ x ∷ [] ≡ nested t → after_value due ≡ Some s → Opens due m ns ls before
    → Opens s m ns ls (xs ++ x ∷ [])
closed t x q due s n m ms ns ls before mid xs parts ends is so =
    subst (λ l. Opens s m ns ls l) (sym (ap (λ l. l ++ x ∷ []) parts ∙ append_assoc before mid (x ∷ []) ∙ ap (λ l. before ++ l) ends)) (arrives due s m ns ls before t is so)

array_closes : (d : Draft) (xs : List Event) (ls : List Level) → d.outer ≡ ls → Opens Items d.inner.name d.inner.members ls xs
    → TurnFits (xs ++ end_array ∷ []) (where_around ls (λ l ms. writes (93 ∷ []) (record d { inner = l; outer = ms })))
array_closes d xs [] is so = tt
array_closes d xs (l ∷ ls) is so =
    wrote (xs ++ end_array ∷ []) (93 ∷ []) (record d { inner = l; outer = ls })
    (closed (array so.4.0) end_array Items so.2 l.spot d.inner.name l.name d.inner.members l.members ls so.0 so.1 xs so.3 (ap (λ y. y ++ end_array ∷ []) so.4.1) so.5 so.6)

object_closes : (d : Draft) (xs : List Event) (ls : List Level) → d.outer ≡ ls → Opens Names d.inner.name d.inner.members ls xs
    → TurnFits (xs ++ end_object ∷ []) (where_around ls (λ l ms. writes (kept_object d.inner.members) (record { text = d.inner.around; inner = l; outer = ms })))
object_closes d xs [] is so = tt
object_closes d xs (l ∷ ls) is so =
    wrote (xs ++ end_object ∷ []) (kept_object d.inner.members) (record { text = d.inner.around; inner = l; outer = ls })
    (closed (object so.4.0) end_object Names so.2 l.spot d.inner.name l.name d.inner.members l.members ls so.0 so.1 xs so.3 (ap (λ y. y ++ end_object ∷ []) so.4.2) so.5 so.6)

string_fits : (k : List ℕ) (q : Spot) (d : Draft) (xs : List Event) → d.inner.spot ≡ q → Fits xs d
    → TurnFits (xs ++ write_string k ∷ []) (if is_at q NameDue then moves (record d { inner = record d.inner { spot = NameDone; name = k } }) [] else places (quoted_text k) d)
string_fits k q d xs is so =
    choice (xs ++ write_string k ∷ []) (is_at q NameDue) _ _
    (λ due. goes_on NameDue NameDone d.inner.name k d.inner.members d.inner.members (write_string k) d.outer xs (λ out. absurd out)
    (λ mid w. (w.0, w.1, longer_object w.0 (begin_object_key ∷ []) (write_string k ∷ []) mid w.2)) (from NameDue d xs (is ∙ same_spot q NameDue due) so))
    (λ other. piece_fits (quoted_text k) (scalar (a_string k)) d xs so)

member_fits : (d : Draft) (xs : List Event) → d.inner.spot ≡ ValueDone → Fits xs d → TurnFits (xs ++ end_object_value ∷ []) (ends_member d)
member_fits d xs is so =
    let ms = d.inner.members in
    let new = insert_key by_key ms (property (d.inner.name, d.text)) in
    choice (xs ++ end_object_value ∷ []) (ties d.inner.name ms) (refused DuplicateKey) (moves (record d { text = []; inner = record d.inner { spot = Names; members = new } }) []) (λ twice. tt)
    (λ once. goes_on ValueDone Names d.inner.name d.inner.name ms new end_object_value d.outer xs (λ out. absurd out)
    (λ mid w. (
      and_field w.0 d.inner.name w.1,
      (λ q. ties_more q d.inner.name d.text ms once ∙ ap (λ b. is_eq (by_units q d.inner.name) || b) (w.2 q)),
      longer_object w.0 (name_events d.inner.name ++ nested w.1) (end_object_value ∷ []) mid w.3
          ∙ ap (λ l. of_object w.0 l) (append_assoc (name_events d.inner.name) (nested w.1) (end_object_value ∷ [])),
    )) (from ValueDone d xs is so))

pub act_fits : (x : Event) (d : Draft) (xs : List Event) → Fits xs d → TurnFits (xs ++ x ∷ []) (act x d)
act_fits write_null d xs so = piece_fits (codes "null") (scalar a_null) d xs so
act_fits (write_bool b) d xs so = piece_fits (truth_text b) (scalar (a_truth b)) d xs so
act_fits (write_integer z) d xs so =
    where_fits (xs ++ write_integer z ∷ []) d.inner.spot (after_value d.inner.spot) (λ s. if in_range z then writes (signed_decimal z) (at s d) else refused IntegerOutOfRange) refl
    (λ s due. choice (xs ++ write_integer z ∷ []) (in_range z) _ _
    (λ within. wrote (xs ++ write_integer z ∷ []) (signed_decimal z) (at s d) (arrives d.inner.spot s d.inner.name d.inner.members d.outer xs (scalar (a_whole z)) due so)) (λ past. tt))
act_fits write_float d xs so = where_fits (xs ++ write_float ∷ []) d.inner.spot (after_value d.inner.spot) (λ s. refused Float) refl (λ s due. tt)
act_fits (write_string k) d xs so = string_fits k d.inner.spot d xs refl so
act_fits write_raw_fragment d xs so = where_fits (xs ++ write_raw_fragment ∷ []) d.inner.spot (after_value d.inner.spot) (λ s. refused RawFragment) refl (λ s due. tt)
act_fits begin_array d xs so =
    where_fits (xs ++ begin_array ∷ []) d.inner.spot (after_value d.inner.spot) (λ s. writes (91 ∷ []) (opened (level Items d.inner.held []) (at s d))) refl
    (λ s due. wrote (xs ++ begin_array ∷ []) (91 ∷ []) (opened (level Items d.inner.held []) (at s d)) (xs, begin_array ∷ [], d.inner.spot, refl, (no_trees, refl), due, so))
act_fits begin_array_value d xs so = only (xs ++ begin_array_value ∷ []) d Items (begins_item d) (λ is.
    wrote (xs ++ begin_array_value ∷ []) (comma_if d.inner.begun) (record d { inner = record d.inner { spot = ItemDue; begun = true } })
    (goes_on Items ItemDue d.inner.name d.inner.name d.inner.members d.inner.members begin_array_value d.outer xs (λ out. absurd out) (λ mid w. (w.0, ap (λ l. l ++ begin_array_value ∷ []) w.1)) (from Items d xs is so)))
act_fits end_array_value d xs so = only (xs ++ end_array_value ∷ []) d ItemDone (moves (at Items d) []) (λ is.
    goes_on ItemDone Items d.inner.name d.inner.name d.inner.members d.inner.members end_array_value d.outer xs (λ out. absurd out)
    (λ mid w. (and_tree w.0 w.1, longer_array w.0 (begin_array_value ∷ nested w.1) (end_array_value ∷ []) mid w.2)) (from ItemDone d xs is so))
act_fits end_array d xs so = only (xs ++ end_array ∷ []) d Items (ends_array d) (λ is. array_closes d xs d.outer refl (from Items d xs is so))
act_fits begin_object d xs so =
    where_fits (xs ++ begin_object ∷ []) d.inner.spot (after_value d.inner.spot) (λ s. moves (record (opened (level Names true d.text) (at s d)) { text = [] }) []) refl
    (λ s due. (xs, begin_object ∷ [], d.inner.spot, refl, (no_fields, (λ k. refl), refl), due, so))
act_fits begin_object_key d xs so = only (xs ++ begin_object_key ∷ []) d Names (moves (at NameDue d) []) (λ is.
    goes_on Names NameDue d.inner.name d.inner.name d.inner.members d.inner.members begin_object_key d.outer xs (λ out. absurd out) (λ mid w. (w.0, w.1, ap (λ l. l ++ begin_object_key ∷ []) w.2)) (from Names d xs is so))
act_fits end_object_key d xs so = only (xs ++ end_object_key ∷ []) d NameDone (moves (at Named d) []) (λ is.
    goes_on NameDone Named d.inner.name d.inner.name d.inner.members d.inner.members end_object_key d.outer xs (λ out. absurd out)
    (λ mid w. (w.0, w.1, longer_object w.0 (begin_object_key ∷ write_string d.inner.name ∷ []) (end_object_key ∷ []) mid w.2)) (from NameDone d xs is so))
act_fits begin_object_value d xs so = only (xs ++ begin_object_value ∷ []) d Named (moves (at ValueDue d) []) (λ is.
    goes_on Named ValueDue d.inner.name d.inner.name d.inner.members d.inner.members begin_object_value d.outer xs (λ out. absurd out)
    (λ mid w. (w.0, w.1, longer_object w.0 (begin_object_key ∷ write_string d.inner.name ∷ end_object_key ∷ []) (begin_object_value ∷ []) mid w.2)) (from Named d xs is so))
act_fits end_object_value d xs so = only (xs ++ end_object_value ∷ []) d ValueDone (ends_member d) (λ is. member_fits d xs is so)
act_fits end_object d xs so = only (xs ++ end_object ∷ []) d Names (ends_object d) (λ is. object_closes d xs d.outer refl (from Names d xs is so))
act_fits finish d xs so = only (xs ++ finish ∷ []) d Whole (moves (at Finished d) []) (λ is.
    goes_on Whole Finished d.inner.name d.inner.name d.inner.members d.inner.members finish d.outer xs (λ out. (out.0, ap (λ l. l ++ finish ∷ []) out.1)) (λ mid w. absurd w) (from Whole d xs is so))

run_fits_by : (t : Turn) (d : Draft) (ps xs : List Event) → ((new : Draft) (qs : List Event) → Fits qs new → (after xs (going new)).refusal ≡ None → Fits (qs ++ xs) (after xs (going new)).draft) → TurnFits ps t
    → (after xs (carried_out t d).stage).refusal ≡ None → Fits (ps ++ xs) (after xs (carried_out t d).stage).draft
run_fits_by (refused e) d ps xs more so is = let all : Some e ≡ None = sym (ap (λ s. s.refusal) (stays xs (record { refusal = Some e; draft = d }) e refl)) ∙ is in cc
run_fits_by (moves new out) d ps xs more so is = more new ps so is

pub run_fits : (xs ps : List Event) (d : Draft) → Fits ps d → (after xs (going d)).refusal ≡ None → Fits (ps ++ xs) (after xs (going d)).draft
run_fits [] ps d so is = subst (λ l. Fits l d) (sym (append-nil ps)) so
run_fits (x ∷ xs) ps d so is =
    subst (λ l. Fits l (after (x ∷ xs) (going d)).draft) (append_assoc ps (x ∷ []) xs)
    (run_fits_by (act x d) d (ps ++ x ∷ []) xs (λ new qs fits none. run_fits xs qs new fits none) (act_fits x d ps so) is)

pub fits : (xs : List Event) → (after xs fresh).refusal ≡ None → Fits xs (after xs fresh).draft
fits xs is = run_fits xs [] fresh.draft refl is
