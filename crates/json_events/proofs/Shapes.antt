-- Accepted events are those of a part of a value.
use Rattle.std.proofs.Common.{◌≡◌, ℕ, List, [], ◌∷◌, ◌++◌, Bool, true, false, Some, None, refl, sym, ap, subst, ◌∙◌, ◌⊎◌, inl, inr, append_assoc, append-nil, if◌then◌else◌}
use Rattle.json_events.specs.declared.error.CanonError.TheVariants.{NotWellNested}
use Rattle.json_events.specs.declared.property.JsonProperty.{JsonProperty}
use Rattle.json_events.specs.declared.spot.Spot.{Spot}
use Rattle.json_events.specs.declared.spot.Spot.TheVariants.{Start, Whole, Finished, Items as AtItems, ItemDue, ItemDone, Names, NameDue, NameDone, Named, ValueDue, ValueDone}
use Rattle.json_events.specs.Drafts.{Level, Draft, Turn, refused as refuses, moves, Stage, carried_out, act, run, fresh, at, after_value, is_at}
use Rattle.json_events.specs.Events.{Event, begin_array, begin_array_value, begin_object, begin_object_key, write_string, end_object_key, finish}
use Rattle.json_events.specs.Laws.{TextsSoFar}
use Rattle.json_events.specs.Spelling.{spelled_items, spelled_members, AreTexts}
use Rattle.json_events.specs.TextSoFar.{NamePart, no_name, due_name, told_name, whole_name, Part, no_part, whole_part, items_part, item_part, members_part, member_part, name_part_events, part_events, TextSoFar, has_object, MemberTextSoFar, SoFar}
use Rattle.json_events.specs.WellNested.{Tree, Trees, Fields, nested, nested_items, nested_fields, name_events}
use Rattle.json_events.proofs.ValueTexts.{going, run-append}
use Rattle.json_events.proofs.TreeEvents.{after, AtSpot, NoMembers, FieldsIn, array_begin, item_begin, object_begin, items_passes, fields_passes, name_passes, named}
use Rattle.json_events.proofs.EventPlaces.{fits, Opens, Outside, Within, longer_array, longer_object}
use Rattle.json_events.proofs.Causes.{unrefused}
use Rattle.json_events.proofs.WholeLists.{texts_front, texts_rest, Parts, parts, Spells, tree_spells, items_spell, fields_spell}
use Rattle.json_events.proofs.PartTexts.{IsPlainPart, Leaving, PartComes, part_comes}

-- a part whose values are trees
data Shape : Type 0 where
  nothing : Shape
  tree : Tree → Shape
  items : Trees → Shape
  item : Trees → Shape → Shape
  fields : Fields → NamePart → Shape
  field : Fields → List ℕ → Shape → Shape

abbrev shape_events : Shape → List Event
shape_events nothing = []
shape_events (tree t) = nested t
shape_events (items ts) = begin_array ∷ nested_items ts
shape_events (item ts m) = begin_array ∷ (nested_items ts ++ begin_array_value ∷ shape_events m)
shape_events (fields fs n) = begin_object ∷ (nested_fields fs ++ name_part_events n)
shape_events (field fs k m) = begin_object ∷ (nested_fields fs ++ (name_events k ++ shape_events m))

-- ---- a shape where a value is due

record Whole_shape (xs : List Event) : Type 0 where
  shape : Shape
  is : xs ≡ shape_events shape

outside_plug : (due s : Spot) (before : List Event) (m : Shape) → after_value due ≡ Some s → Outside due before → Whole_shape (before ++ shape_events m)
outside_plug Start s before m e is = record { shape = m; is = ap (λ l. l ++ shape_events m) is }
outside_plug Whole s before m e is = cc
outside_plug Finished s before m e is = cc
outside_plug AtItems s before m e is = cc
outside_plug ItemDue s before m e is = absurd is
outside_plug ItemDone s before m e is = cc
outside_plug Names s before m e is = cc
outside_plug NameDue s before m e is = cc
outside_plug NameDone s before m e is = cc
outside_plug Named s before m e is = cc
outside_plug ValueDue s before m e is = absurd is
outside_plug ValueDone s before m e is = cc

within_plug : (due s : Spot) (n : List ℕ) (ms : List JsonProperty) (mid : List Event) (m : Shape) → after_value due ≡ Some s → Within due n ms mid → Whole_shape (mid ++ shape_events m)
within_plug Start s n ms mid m e w = absurd w
within_plug Whole s n ms mid m e w = cc
within_plug Finished s n ms mid m e w = cc
within_plug AtItems s n ms mid m e w = cc
within_plug ItemDue s n ms mid m e w = record { shape = item w.0 m; is = longer_array w.0 (begin_array_value ∷ []) (shape_events m) mid w.1 }
within_plug ItemDone s n ms mid m e w = cc
within_plug Names s n ms mid m e w = cc
within_plug NameDue s n ms mid m e w = cc
within_plug NameDone s n ms mid m e w = cc
within_plug Named s n ms mid m e w = cc
within_plug ValueDue s n ms mid m e w = record { shape = field w.0 n m; is = longer_object w.0 (name_events n) (shape_events m) mid w.2 }
within_plug ValueDone s n ms mid m e w = cc

plug : (ls : List Level) (due s : Spot) (n : List ℕ) (ms : List JsonProperty) (before : List Event) (m : Shape) → after_value due ≡ Some s → Opens due n ms ls before → Whole_shape (before ++ shape_events m)
plug [] due s n ms before m e so = outside_plug due s before m e so
plug (l ∷ ls) due s n ms before m e so =
    let inner = within_plug due s n ms so.1 m e so.4 in
    let all = plug ls so.2 l.spot l.name l.members so.0 inner.shape so.5 so.6 in
    record {
      shape = all.shape;
      is = ap (λ l. l ++ shape_events m) so.3 ∙ append_assoc so.0 so.1 (shape_events m) ∙ ap (λ l. so.0 ++ l) inner.is ∙ all.is;
    }

record Ended_shape (xs : List Event) : Type 0 where
  shape : Shape
  end : List Event
  is : xs ≡ shape_events shape ++ end
  ends : (end ≡ []) ⊎ (end ≡ finish ∷ [])

unended : (xs : List Event) → Whole_shape xs → Ended_shape xs
unended xs so = record { shape = so.shape; end = []; is = so.is ∙ sym (append-nil (shape_events so.shape)); ends = inl refl }

outside_shape : (q : Spot) (xs : List Event) → Outside q xs → Ended_shape xs
outside_shape Start xs so = record { shape = nothing; end = []; is = so; ends = inl refl }
outside_shape Whole xs so = record { shape = tree so.0; end = []; is = so.1 ∙ sym (append-nil (nested so.0)); ends = inl refl }
outside_shape Finished xs so = record { shape = tree so.0; end = finish ∷ []; is = so.1; ends = inr refl }
outside_shape AtItems xs so = absurd so
outside_shape ItemDue xs so = absurd so
outside_shape ItemDone xs so = absurd so
outside_shape Names xs so = absurd so
outside_shape NameDue xs so = absurd so
outside_shape NameDone xs so = absurd so
outside_shape Named xs so = absurd so
outside_shape ValueDue xs so = absurd so
outside_shape ValueDone xs so = absurd so

within_shape : (q : Spot) (n : List ℕ) (ms : List JsonProperty) (mid : List Event) → Within q n ms mid → Whole_shape mid
within_shape Start n ms mid w = absurd w
within_shape Whole n ms mid w = absurd w
within_shape Finished n ms mid w = absurd w
within_shape AtItems n ms mid w = record { shape = items w.0; is = w.1 }
within_shape ItemDue n ms mid w = record { shape = item w.0 nothing; is = w.1 }
within_shape ItemDone n ms mid w = record { shape = item w.0 (tree w.1); is = w.2 }
within_shape Names n ms mid w = record { shape = fields w.0 no_name; is = w.2 ∙ ap (λ l. begin_object ∷ l) (sym (append-nil (nested_fields w.0))) }
within_shape NameDue n ms mid w = record { shape = fields w.0 due_name; is = w.2 }
within_shape NameDone n ms mid w = record { shape = fields w.0 (told_name n); is = w.2 }
within_shape Named n ms mid w = record { shape = fields w.0 (whole_name n); is = w.2 }
within_shape ValueDue n ms mid w = record { shape = field w.0 n nothing; is = w.2 }
within_shape ValueDone n ms mid w = record { shape = field w.0 n (tree w.1); is = w.3 }

opens_shape : (ls : List Level) (q : Spot) (n : List ℕ) (ms : List JsonProperty) (xs : List Event) → Opens q n ms ls xs → Ended_shape xs
opens_shape [] q n ms xs so = outside_shape q xs so
opens_shape (l ∷ ls) q n ms xs so =
    let inner = within_shape q n ms so.1 so.4 in
    let all = plug ls so.2 l.spot l.name l.members so.0 inner.shape so.5 so.6 in
    unended xs (record { shape = all.shape; is = so.3 ∙ ap (λ l. so.0 ++ l) inner.is ∙ all.is })

-- ---- an accepted shape spells a part

record SpellsPart (xs : List Event) : Type 0 where
  part : Part
  is : part_events part ≡ xs
  plain : IsPlainPart part

shape_spells : (m : Shape) (d : Draft) (s : Spot) → after_value d.inner.spot ≡ Some s → AreTexts (shape_events m) → (after (shape_events m) (going d)).refusal ≡ None → SpellsPart (shape_events m)
shape_spells nothing d s due texts none = record { part = no_part; is = refl; plain = tt }
shape_spells (tree t) d s due texts none =
    let so = tree_spells t d s due texts none in
    record { part = whole_part so.value; is = so.is; plain = (so.plain, so.good) }
shape_spells (items ts) d s due texts none =
    let first = parts (AtSpot AtItems) ((at s d).inner ∷ d.outer) (begin_array ∷ []) (nested_items ts) d (array_begin d s due) none in
    let so = items_spell ts first.new first.inner texts.1 first.second in
    record { part = items_part so.values; is = ap (λ l. begin_array ∷ l) so.is; plain = (so.plain, so.good) }
shape_spells (item ts m) d s due texts none =
    let more = begin_array_value ∷ shape_events m in
    let first = parts (AtSpot AtItems) ((at s d).inner ∷ d.outer) (begin_array ∷ []) (nested_items ts ++ more) d (array_begin d s due) none in
    let second = parts (AtSpot AtItems) first.new.outer (nested_items ts) more first.new (items_passes ts first.new first.inner) first.second in
    let third = parts (AtSpot ItemDue) second.new.outer (begin_array_value ∷ []) (shape_events m) second.new (item_begin second.new second.new.outer second.inner refl) second.second in
    let so = items_spell ts first.new first.inner (texts_front (nested_items ts) more texts.1) second.first in
    let rest = texts_rest (nested_items ts) more texts.1 in
    let r = shape_spells m third.new ItemDone (ap after_value third.inner) rest.1 third.second in
    record {
      part = item_part so.values r.part;
      is = ap (λ l. begin_array ∷ (l ++ begin_array_value ∷ part_events r.part)) so.is ∙ ap (λ l. begin_array ∷ (nested_items ts ++ begin_array_value ∷ l)) r.is;
      plain = (so.plain, so.good, r.plain);
    }
shape_spells (fields fs n) d s due texts none =
    let more = name_part_events n in
    let first = parts NoMembers ((at s d).inner ∷ d.outer) (begin_object ∷ []) (nested_fields fs ++ more) d (object_begin d s due) none in
    let second = parts (FieldsIn fs) first.new.outer (nested_fields fs) more first.new (fields_passes fs first.new first.inner) first.second in
    let so = fields_spell fs first.new first.inner (texts_front (nested_fields fs) more texts.1) second.first in
    record { part = members_part so.values n; is = ap (λ l. begin_object ∷ (l ++ more)) so.is; plain = (so.plain, so.good) }
shape_spells (field fs k m) d s due texts none =
    let value = shape_events m in
    let more = name_events k ++ value in
    let first = parts NoMembers ((at s d).inner ∷ d.outer) (begin_object ∷ []) (nested_fields fs ++ more) d (object_begin d s due) none in
    let second = parts (FieldsIn fs) first.new.outer (nested_fields fs) more first.new (fields_passes fs first.new first.inner) first.second in
    let third = parts (λ l. l ≡ named k second.new.inner) second.new.outer (name_events k) value second.new (name_passes k second.new second.new.outer second.inner.spot refl) second.second in
    let so = fields_spell fs first.new first.inner (texts_front (nested_fields fs) more texts.1) second.first in
    let rest = texts_rest (name_events k) value (texts_rest (nested_fields fs) more texts.1) in
    let r = shape_spells m third.new ValueDone (ap (λ l. after_value l.spot) third.inner) rest third.second in
    record {
      part = member_part so.values k r.part;
      is = ap (λ l. begin_object ∷ (l ++ (name_events k ++ part_events r.part))) so.is ∙ ap (λ l. begin_object ∷ (nested_fields fs ++ (name_events k ++ l))) r.is;
      plain = (so.plain, so.good, r.plain);
    }

-- ---- the law

no_member : (p : Part) → has_object p ≡ false → MemberTextSoFar p []
no_member no_part e = refl
no_member (whole_part v) e = refl
no_member (items_part vs) e = refl
no_member (item_part vs p) e = no_member p e
no_member (members_part ms n) e = cc
no_member (member_part ms k p) e = cc

outside_texts : (o : Bool) (p : Part) (after out : List ℕ) → has_object p ≡ o → Leaving false o p [] after out → TextSoFar p out × MemberTextSoFar p after
outside_texts true p after out is so = so
outside_texts false p after out is so = (so.0, subst (MemberTextSoFar p) (sym so.1) (no_member p is))

-- the end writes nothing
record Quiet (xs : List Event) (d : Draft) : Type 0 where
  out : (run xs (going d)).out ≡ []
  text : (after xs (going d)).draft.text ≡ d.text

end_by : (b : Bool) (d : Draft) → ((carried_out (if b then moves (at Finished d) [] else refuses NotWellNested) d).out ++ [] ≡ []) × ((carried_out (if b then moves (at Finished d) [] else refuses NotWellNested) d).stage.draft.text ≡ d.text)
end_by true d = (refl, refl)
end_by false d = (refl, refl)

quiet : (xs : List Event) (d : Draft) → (xs ≡ []) ⊎ (xs ≡ finish ∷ []) → Quiet xs d
quiet xs d (inl is) = subst (λ l. Quiet l d) (sym is) (record { out = refl; text = refl })
quiet xs d (inr is) = let so = end_by (is_at d.inner.spot Whole) d in subst (λ l. Quiet l d) (sym is) (record { out = so.0; text = so.1 })

pub texts_so_far : TextsSoFar
texts_so_far xs texts none =
    let d = (after xs fresh).draft in
    let m = opens_shape d.outer d.inner.spot d.inner.name d.inner.members xs (fits xs none) in
    let events = shape_events m.shape in
    let whole : (after (events ++ m.end) fresh).refusal ≡ None = ap (λ l. (after l fresh).refusal) (sym m.is) ∙ none in
    let spells = shape_spells m.shape fresh.draft Whole refl (texts_front events m.end (subst AreTexts m.is texts)) (unrefused events m.end whole) in
    let c = part_comes spells.part fresh.draft Whole refl spells.plain in
    let so = outside_texts (has_object spells.part) spells.part c.new.text c.out refl c.texts in
    let is : xs ≡ part_events spells.part ++ m.end = m.is ∙ ap (λ l. l ++ m.end) (sym spells.is) in
    let end = quiet m.end c.new m.ends in
    let all : run xs fresh ≡ record { stage = after m.end (going c.new); out = c.out ++ (run m.end (going c.new)).out } =
    ap (λ l. run l fresh) is ∙ run-append (part_events spells.part) m.end fresh
    ∙ ap (λ r. record { stage = after m.end r.stage; out = r.out ++ (run m.end r.stage).out }) c.leaves in
    record {
      part = spells.part;
      end = m.end;
      events = is;
      ends = m.ends;
      went = subst (TextSoFar spells.part) (sym (ap (λ r. r.out) all ∙ ap (λ o. c.out ++ o) end.out ∙ append-nil c.out)) so.0;
      member = subst (MemberTextSoFar spells.part) (sym (ap (λ r. r.stage.draft.text) all ∙ end.text)) so.1;
    }
