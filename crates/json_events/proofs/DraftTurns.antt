-- Turns and their results, over plain drafts.
use Rattle.std.proofs.Common.{◌≡◌, ℕ, List, [], ◌∷◌, Bool, true, if◌then◌else◌, Option, Some, None, Result, Ok, Err, refl, sym, ap, subst, ◌∙◌, inl, inr}
use Rattle.byte_streams.specs.SinkState.{SinkState, Adds, AddsPrefix}
use Rattle.byte_streams.proofs.Sinks.{adds_none}
use Rattle.json_events.specs.declared.error.CanonError.{CanonError}
use Rattle.json_events.specs.declared.error.CanonError.TheVariants.{NotWellNested, DuplicateKey}
use Rattle.json_events.specs.Drafts.{Draft, Turn, refused, moves, Level, act, carried_out, by_key, is_at, only_at, where_around, writes, ends_array, ends_object, ends_member}
use Rattle.json_events.specs.declared.property.JsonProperty.{JsonProperty}
use Rattle.json_events.specs.declared.spot.Spot.{Spot}
use Rattle.json_events.specs.declared.spot.Spot.TheVariants.{Names, ValueDone}
use Rattle.json_events.specs.Members.{property, kept_object}
use Rattle.json_events.specs.Units.{units}
use Rattle.std.specs.BTreeSet.{insert_key}
use Rattle.std.specs.Cmp.Lexicographic.{slice_cmp}
use Rattle.std.specs.List.{list_any}
use Rattle.std.specs.Ordering.{nat_cmp, is_eq}
use Rattle.json_events.specs.Events.{Event}
use Rattle.json_events.specs.Turns.{Made, Barred, Breaks, Tries, Turns, Ends, Taken, BrokenOff, Answers, kept, out_of, Closes}

pub adds_nothing : (sink : SinkState) → Adds [] sink sink
adds_nothing sink = adds_none sink sink refl

pub front_none : (out : List ℕ) (before after : SinkState) → after.taken ≡ before.taken → AddsPrefix out before after
front_none out before after same = record { front = []; left = out; split = refl; added = adds_none before after same }

pub tried : {X : Type 0} (r : Result X CanonError) (t u : Turn) (old new : Draft) (before after : SinkState) → t ≡ u → Tries u r new before after → Turns t r old new before after
tried (Ok x) t u old new before after is made = record { out = made.out; is = is ∙ made.is; added = made.added }
tried (Err e) t u old new before after is broken = inr (subst (λ v. Breaks (out_of v) e before after) (sym is) broken)

pub at_spot : (b : Bool) (turn : Turn) → b ≡ true → (if b then turn else refused NotWellNested) ≡ turn
at_spot b turn is = ap (λ x. if x then turn else refused NotWellNested) is

-- an event that writes nothing out
pub ended : (x : Event) (r : Result (Unit {0}) CanonError) (d new : Draft) (sink : SinkState) → Ends (act x d) r d new → Turns (act x d) r d new sink sink
ended x (Ok u) d new sink is = record { out = []; is = is; added = adds_nothing sink }
ended x (Err e) d new sink (inl bar) = inl (record { is = bar.0; same = bar.1; added = adds_nothing sink })
ended x (Err e) d new sink (inr want) = inr (inr (record { is = want; front = front_none (out_of (act x d)) sink sink refl }))

out_turned : (t : Turn) (d : Draft) → (carried_out t d).out ≡ out_of t
out_turned (refused e) d = refl
out_turned (moves new out) d = refl

made_taken : (x : Event) (d new : Draft) (before after : SinkState) (u : Unit {0}) → Made (act x d) new before after → Taken x (Ok u) (record { refusal = None; draft = d }) (record { refusal = None; draft = new }) before after
made_taken x d new before after u made = record {
  stage = ap (λ t. (carried_out t d).stage) (sym made.is);
  added = subst (λ out. Adds out before after) (sym (ap (λ t. (carried_out t d).out) made.is)) made.added;
  answers = refl;
}

barred_taken : (x : Event) (e : CanonError) (d new : Draft) (before after : SinkState) → Barred (act x d) e d new before after → Taken x (Err e) (record { refusal = None; draft = d }) (record { refusal = Some e; draft = new }) before after
barred_taken x e d new before after bar = record {
  stage = ap (λ n. record { refusal = Some e; draft = n }) bar.same ∙ ap (λ t. (carried_out t d).stage) (sym bar.is);
  added = subst (λ out. Adds out before after) (sym (ap (λ t. (carried_out t d).out) bar.is)) bar.added;
  answers = refl;
}

broken : (x : Event) (e : CanonError) (d new : Draft) (before after : SinkState) → AddsPrefix (out_of (act x d)) before after → BrokenOff x e (Err e) (record { refusal = None; draft = d }) (record { refusal = Some e; draft = new }) before after
broken x e d new before after front = record {
  going = refl;
  keeps = refl;
  answers = refl;
  front = subst (λ out. AddsPrefix out before after) (sym (out_turned (act x d) d)) front;
}

broken_as : (x : Event) (e c : CanonError) (d new : Draft) (before after : SinkState) → e ≡ c → AddsPrefix (out_of (act x d)) before after → BrokenOff x c (Err e) (record { refusal = None; draft = d }) (record { refusal = Some e; draft = new }) before after
broken_as x e c d new before after is front = subst (λ k. BrokenOff x k (Err e) (record { refusal = None; draft = d }) (record { refusal = Some e; draft = new }) before after) is (broken x e d new before after front)

pub answered : (x : Event) (r : Result (Unit {0}) CanonError) (d new : Draft) (before after : SinkState) → Turns (act x d) r d new before after → Answers x r (record { refusal = None; draft = d }) (record { refusal = kept r; draft = new }) before after
answered x (Ok u) d new before after made = inl (made_taken x d new before after u made)
answered x (Err e) d new before after (inl bar) = inl (barred_taken x e d new before after bar)
answered x (Err e) d new before after (inr (inl faulted)) = inr (inl (broken_as x e _ d new before after faulted.is faulted.front, faulted.rose))
answered x (Err e) d new before after (inr (inr want)) = inr (inr (broken_as x e _ d new before after want.is want.front))

-- closing an array and an object
pub closes_array : (s : Spot) (d new : Draft) (l : Level) → is_at d.inner.spot s ≡ true → Closes l d new
    → only_at s d (ends_array d) ≡ writes (93 ∷ []) new
closes_array s d new l here c =
    at_spot _ (ends_array d) here ∙ ap (λ ls. where_around ls (λ l ls. writes (93 ∷ []) (record d { inner = l; outer = ls }))) c.around
    ∙ ap (λ t. writes (93 ∷ []) (record { text = t; inner = new.inner; outer = new.outer })) (sym c.text)

pub closes_object : (s : Spot) (d new : Draft) (l : Level) → is_at d.inner.spot s ≡ true → Closes l d new
    → only_at s d (ends_object d) ≡ writes (kept_object l.members) (record new { text = l.around })
closes_object s d new l here c =
    at_spot _ (ends_object d) here ∙ ap (λ ls. where_around ls (λ m ms. writes (kept_object d.inner.members) (record { text = d.inner.around; inner = m; outer = ms }))) c.around
    ∙ ap (λ m. writes (kept_object m.members) (record new { text = m.around })) (sym c.is)

-- a name that is already present
pub duplicate : (d : Draft) (m : JsonProperty) → is_at d.inner.spot ValueDone ≡ true → m.sorting_key ≡ units d.inner.name
    → list_any (λ p. is_eq (by_key m p)) d.inner.members ≡ true → only_at ValueDone d (ends_member d) ≡ refused DuplicateKey
duplicate d m here key has =
    let new = property (d.inner.name, d.text) in
    at_spot _ (ends_member d) here
    ∙ ap (λ b. if b then refused DuplicateKey else moves (record d { text = []; inner = record d.inner { spot = Names; members = insert_key by_key d.inner.members new } }) [])
    (ap (λ k. list_any (λ p. is_eq (slice_cmp nat_cmp k p.sorting_key)) d.inner.members) (sym key) ∙ has)

-- a formatter with a refusal returns it, and nothing is written
pub refused_again : (x : Event) (e : CanonError) (d : Draft) (sink : SinkState) → Answers x (Err e) (record { refusal = Some e; draft = d }) (record { refusal = Some e; draft = d }) sink sink
refused_again x e d sink = inl (record { stage = refl; added = adds_nothing sink; answers = refl })

pub answered_from : (x : Event) (r : Result (Unit {0}) CanonError) (o : Option CanonError) (d new : Draft) (before after : SinkState) → o ≡ None → Turns (act x d) r d new before after
    → Answers x r (record { refusal = o; draft = d }) (record { refusal = kept r; draft = new }) before after
answered_from x r o d new before after going turns = subst (λ q. Answers x r (record { refusal = q; draft = d }) (record { refusal = kept r; draft = new }) before after) (sym going) (answered x r d new before after turns)

pub refused_from : (x : Event) (e : CanonError) (o : Option CanonError) (d : Draft) (sink : SinkState) → o ≡ Some e → Answers x (Err e) (record { refusal = o; draft = d }) (record { refusal = o; draft = d }) sink sink
refused_from x e o d sink is = subst (λ q. Answers x (Err e) (record { refusal = q; draft = d }) (record { refusal = q; draft = d }) sink sink) (sym is) (refused_again x e d sink)
