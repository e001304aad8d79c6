-- The draft that the events of a part of a value leave.
use Rattle.std.proofs.Common.{◌≡◌, ℕ, List, [], ◌∷◌, ◌++◌, Bool, true, false, if◌then◌else◌, Some, None, refl, sym, ap, subst, ◌∙◌, append_assoc, append-nil}
use Rattle.std.specs.Prelude.{⊤}
use Rattle.std.specs.List.{join_with_byte}
use Rattle.serde_json.specs.Data.{Data, Items, Members}
use Rattle.serde_json.specs.Written.{comma_if}
use Rattle.json_events.specs.declared.property.JsonProperty.{JsonProperty}
use Rattle.json_events.specs.declared.spot.Spot.{Spot}
use Rattle.json_events.specs.declared.spot.Spot.TheVariants.{ItemDue, ItemDone, Names, NameDue, NameDone, Named, ValueDue, ValueDone}
use Rattle.json_events.specs.Canonical.{Canonical, CanonicalItems}
use Rattle.json_events.specs.Drafts.{Draft, moves, at, after_value, writes, where_due}
use Rattle.json_events.specs.Events.{Event, write_string, begin_array, begin_array_value, begin_object, begin_object_key, end_object_key, begin_object_value}
use Rattle.json_events.specs.Refused.{refused, refused_items, refused_members}
use Rattle.json_events.specs.Spelling.{spelled, spelled_items, spelled_members}
use Rattle.json_events.specs.TextSoFar.{NamePart, no_name, due_name, told_name, whole_name, Part, no_part, whole_part, items_part, item_part, members_part, member_part, name_part_events, value_due, part_events, begun_array, begun_item, TextSoFar, has_object, inner_text, MemberTextSoFar}
use Rattle.json_events.specs.Values.{IsValue, AreValues, AreMembers}
use Rattle.json_events.proofs.SortedMembers.{keeps_none}
use Rattle.json_events.proofs.ValueTexts.{going, with_text, sent, written, with_both, sent_both, Leaves, first_then, joins, comes, items_come, members_come, in_array, in_item, in_object, commas_from, joined, begun_after, sorted_none}

-- its values have canonical texts
abbrev pub IsPlainPart : Part → Type 0
IsPlainPart no_part = ⊤
IsPlainPart (whole_part v) = (refused v ≡ None) × IsValue v
IsPlainPart (items_part vs) = (refused_items vs ≡ None) × AreValues vs
IsPlainPart (item_part vs p) = (refused_items vs ≡ None) × AreValues vs × IsPlainPart p
IsPlainPart (members_part ms n) = (refused_members ms ≡ None) × AreMembers ms
IsPlainPart (member_part ms k p) = (refused_members ms ≡ None) × AreMembers ms × IsPlainPart p

-- the text after these events and their output, depending on whether an enclosing object is unclosed, and
-- whether one of the part is
abbrev pub Leaving : Bool → Bool → Part → List ℕ → List ℕ → List ℕ → Type 0
Leaving false false p before after out = TextSoFar p out × (after ≡ before)
Leaving false true p before after out = TextSoFar p out × MemberTextSoFar p after
Leaving true false p before after out = (out ≡ []) × (t : List ℕ) × TextSoFar p t × (after ≡ before ++ t)
Leaving true true p before after out = (out ≡ []) × MemberTextSoFar p after

pub record PartComes (p : Part) (d : Draft) : Type 0 where
  pub new : Draft
  pub out : List ℕ
  pub leaves : Leaves (part_events p) d new out
  pub texts : Leaving d.inner.held (has_object p) p d.text new.text out

put : (b : Bool) (p : Part) (x t : List ℕ) → TextSoFar p t → Leaving b false p x (if b then x ++ t else x) (if b then [] else t)
put true p x t so = (refl, t, so, refl)
put false p x t so = (so, refl)

still : (b : Bool) (x : List ℕ) → Leaving b false no_part x x []
still true x = (refl, [], refl, sym (append-nil x))
still false x = (refl, refl)

-- ---- arrays

bracket : (later : List (List ℕ)) → 91 ∷ (commas_from false later ++ comma_if (begun_after false later)) ≡ begun_item later
bracket [] = refl
bracket (t ∷ ts) = ap (λ j. 91 ∷ (j ++ 44 ∷ [])) (joined (t ∷ ts))

item_leaving : (b o : Bool) (vs : Items) (p : Part) (ts : List (List ℕ)) (g x after out : List ℕ) → CanonicalItems vs ts → g ≡ begun_item ts
    → Leaving b o p (if b then x ++ g else x) after out → Leaving b o (item_part vs p) x after ((if b then [] else g) ++ out)
item_leaving false false vs p ts g x after out canonical is so = ((ts, out, canonical, so.0, ap (λ y. y ++ out) is), so.1)
item_leaving false true vs p ts g x after out canonical is so = ((ts, out, canonical, so.0, ap (λ y. y ++ out) is), so.1)
item_leaving true false vs p ts g x after out canonical is so =
    (so.0, g ++ so.1, (ts, so.1, canonical, so.2, ap (λ y. y ++ so.1) is), so.3 ∙ append_assoc x g so.1)
item_leaving true true vs p ts g x after out canonical is so = (so.0, so.1)

array_acts : (d : Draft) (s : Spot) → after_value d.inner.spot ≡ Some s
    → where_due (after_value d.inner.spot) (λ t. writes (91 ∷ []) (in_array t false d)) ≡ moves (in_array s false (with_text (91 ∷ []) d)) (sent (91 ∷ []) d)
array_acts d s due = ap (λ o. where_due o (λ t. writes (91 ∷ []) (in_array t false d))) due ∙ written (91 ∷ []) (in_array s false d)

items_leave : (vs : Items) (d : Draft) (s : Spot) → after_value d.inner.spot ≡ Some s → refused_items vs ≡ None → AreValues vs → PartComes (items_part vs) d
items_leave vs d s due plain good =
    let e0 = with_text (91 ∷ []) d in
    let c = items_come vs s false e0 plain good in
    let x = commas_from false c.texts in
    let text : (with_text x e0).text ≡ (with_text (91 ∷ x) d).text = ap (λ e. e.text) (with_both (91 ∷ []) x d) in
    let outs : sent (91 ∷ []) d ++ sent x d ≡ sent (91 ∷ x) d = sent_both (91 ∷ []) x d in
    let so = put d.inner.held (items_part vs) d.text (91 ∷ x) (c.texts, c.canonical, ap (λ j. 91 ∷ j) (joined c.texts)) in
    record {
      new = in_array s c.begun (with_text x e0);
      out = sent (91 ∷ []) d ++ sent x d;
      leaves = first_then begin_array (spelled_items vs) d (in_array s false e0) _ (sent (91 ∷ []) d) _ (array_acts d s due) c.leaves;
      texts = subst (λ o. Leaving d.inner.held false (items_part vs) d.text (with_text x e0).text o) (sym outs)
          (subst (λ t. Leaving d.inner.held false (items_part vs) d.text t (sent (91 ∷ x) d)) (sym text) so);
    }

item_leaves : (vs : Items) (p : Part) (d : Draft) (s : Spot) → after_value d.inner.spot ≡ Some s → refused_items vs ≡ None → AreValues vs
    → ((e : Draft) → e.inner.spot ≡ ItemDue → PartComes p e) → PartComes (item_part vs p) d
item_leaves vs p d s due plain good next =
    let e0 = with_text (91 ∷ []) d in
    let c = items_come vs s false e0 plain good in
    let x = commas_from false c.texts in
    let e1 = with_text x e0 in
    let comma = comma_if c.begun in
    let e2 = with_text comma e1 in
    let r = next (in_item s e2) refl in
    let g = 91 ∷ (x ++ comma) in
    let text : e2.text ≡ (with_text g d).text = ap (λ e. e.text) (with_both x comma e0 ∙ with_both (91 ∷ []) (x ++ comma) d) in
    let outs : sent (91 ∷ []) d ++ (sent x d ++ sent comma d) ≡ sent g d = ap (λ o. sent (91 ∷ []) d ++ o) (sent_both x comma d) ∙ sent_both (91 ∷ []) (x ++ comma) d in
    let all : sent (91 ∷ []) d ++ (sent x d ++ (sent comma d ++ r.out)) ≡ sent g d ++ r.out =
    ap (λ o. sent (91 ∷ []) d ++ o) (sym (append_assoc (sent x d) (sent comma d) r.out)) ∙ sym (append_assoc (sent (91 ∷ []) d) (sent x d ++ sent comma d) r.out) ∙ ap (λ o. o ++ r.out) outs in
    let is : g ≡ begun_item c.texts = ap (λ b. 91 ∷ (x ++ comma_if b)) c.commas ∙ bracket c.texts in
    let so = item_leaving d.inner.held (has_object p) vs p c.texts g d.text r.new.text r.out c.canonical is
    (subst (λ t. Leaving d.inner.held (has_object p) p t r.new.text r.out) text r.texts) in
    record {
      new = r.new;
      out = sent (91 ∷ []) d ++ (sent x d ++ (sent comma d ++ r.out));
      leaves = first_then begin_array (spelled_items vs ++ begin_array_value ∷ part_events p) d (in_array s false e0) _ (sent (91 ∷ []) d) _ (array_acts d s due)
          (joins (spelled_items vs) (begin_array_value ∷ part_events p) (in_array s false e0) (in_array s c.begun e1) _ _ _ c.leaves
          (first_then begin_array_value (part_events p) (in_array s c.begun e1) (in_item s e2) _ (sent comma d) _ (written comma (in_item s e1)) r.leaves));
      texts = subst (λ o. Leaving d.inner.held (has_object p) (item_part vs p) d.text r.new.text o) (sym all) so;
    }

-- ---- objects

abbrev name_place : NamePart → Spot
name_place no_name = Names
name_place due_name = NameDue
name_place (told_name k) = NameDone
name_place (whole_name k) = Named

abbrev name_told : NamePart → List ℕ → List ℕ
name_told no_name n = n
name_told due_name n = n
name_told (told_name k) n = k
name_told (whole_name k) n = k

name_leaves : (n : NamePart) (s : Spot) (ps : List JsonProperty) (m : List ℕ) (d : Draft) → Leaves (name_part_events n) (in_object s Names ps m [] d) (in_object s (name_place n) ps (name_told n m) [] d) []
name_leaves no_name s ps m d = refl
name_leaves due_name s ps m d = refl
name_leaves (told_name k) s ps m d = refl
name_leaves (whole_name k) s ps m d = refl

value_leaves : (k : List ℕ) (s : Spot) (ps : List JsonProperty) (m : List ℕ) (d : Draft) → Leaves (value_due k) (in_object s Names ps m [] d) (in_object s ValueDue ps k [] d) []
value_leaves k s ps m d = refl

no_text : (b : Bool) (ms : Members) (n : NamePart) (x : List ℕ) → Leaving b true (members_part ms n) x [] []
no_text true ms n x = (refl, refl)
no_text false ms n x = (refl, refl)

members_leave : (ms : Members) (n : NamePart) (d : Draft) (s : Spot) → after_value d.inner.spot ≡ Some s → refused_members ms ≡ None → AreMembers ms → PartComes (members_part ms n) d
members_leave ms n d s due plain good =
    let m = members_come ms s d [] [] [] plain good keeps_none sorted_none tt in
    record {
      new = in_object s (name_place n) m.kept (name_told n m.name) [] d;
      out = [];
      leaves = first_then begin_object (spelled_members ms ++ name_part_events n) d (in_object s Names [] [] [] d) _ [] [] (ap (λ o. where_due o (λ t. moves (in_object t Names [] [] [] d) [])) due)
          (joins (spelled_members ms) (name_part_events n) (in_object s Names [] [] [] d) (in_object s Names m.kept m.name [] d) _ [] [] m.leaves (name_leaves n s m.kept m.name d));
      texts = no_text d.inner.held ms n d.text;
    }

member_leaving : (b o : Bool) (ms : Members) (k : List ℕ) (p : Part) (x after out : List ℕ) → has_object p ≡ o → Leaving true o p [] after out → Leaving b true (member_part ms k p) x after out
member_leaving true false ms k p x after out is so = (so.0, subst (λ c. inner_text c (MemberTextSoFar p after) (TextSoFar p after)) (sym is) (subst (TextSoFar p) (sym so.3) so.2))
member_leaving true true ms k p x after out is so = (so.0, subst (λ c. inner_text c (MemberTextSoFar p after) (TextSoFar p after)) (sym is) so.1)
member_leaving false false ms k p x after out is so = (so.0, subst (λ c. inner_text c (MemberTextSoFar p after) (TextSoFar p after)) (sym is) (subst (TextSoFar p) (sym so.3) so.2))
member_leaving false true ms k p x after out is so = (so.0, subst (λ c. inner_text c (MemberTextSoFar p after) (TextSoFar p after)) (sym is) so.1)

member_leaves : (ms : Members) (k : List ℕ) (p : Part) (d : Draft) (s : Spot) → after_value d.inner.spot ≡ Some s → refused_members ms ≡ None → AreMembers ms
    → ((e : Draft) → e.inner.spot ≡ ValueDue → PartComes p e) → PartComes (member_part ms k p) d
member_leaves ms k p d s due plain good next =
    let m = members_come ms s d [] [] [] plain good keeps_none sorted_none tt in
    let e = in_object s ValueDue m.kept k [] d in
    let r = next e refl in
    record {
      new = r.new;
      out = r.out;
      leaves = first_then begin_object (spelled_members ms ++ (value_due k ++ part_events p)) d (in_object s Names [] [] [] d) _ [] r.out (ap (λ o. where_due o (λ t. moves (in_object t Names [] [] [] d) [])) due)
          (joins (spelled_members ms) (value_due k ++ part_events p) (in_object s Names [] [] [] d) (in_object s Names m.kept m.name [] d) _ [] r.out m.leaves
          (joins (value_due k) (part_events p) (in_object s Names m.kept m.name [] d) e _ [] r.out (value_leaves k s m.kept m.name d) r.leaves));
      texts = member_leaving d.inner.held (has_object p) ms k p d.text r.new.text r.out refl r.texts;
    }

-- ---- parts

pub part_comes : (p : Part) (d : Draft) (s : Spot) → after_value d.inner.spot ≡ Some s → IsPlainPart p → PartComes p d
part_comes no_part d s due plain = record { new = d; out = []; leaves = refl; texts = still d.inner.held d.text }
part_comes (whole_part v) d s due plain =
    let c = comes v d s due plain.0 plain.1 in
    record { new = with_text c.text (at s d); out = sent c.text d; leaves = c.leaves; texts = put d.inner.held (whole_part v) d.text c.text c.canonical }
part_comes (items_part vs) d s due plain = items_leave vs d s due plain.0 plain.1
part_comes (item_part vs p) d s due plain = item_leaves vs p d s due plain.0 plain.1 (λ e is. part_comes p e ItemDone (ap after_value is) plain.2)
part_comes (members_part ms n) d s due plain = members_leave ms n d s due plain.0 plain.1
part_comes (member_part ms k p) d s due plain = member_leaves ms k p d s due plain.0 plain.1 (λ e is. part_comes p e ValueDone (ap after_value is) plain.2)
