-- Event calls, one after another.
use Rattle.std.proofs.Common.{◌≡◌, ℕ, ◌≤◌, arith, List, [], ◌∷◌, ◌++◌, Option, Some, None, Result, Ok, Err, refl, sym, ap, subst, ◌∙◌, inl, inr, append_assoc, append-nil}
use Rattle.std.specs.Result.{IsErrAnd}
use Rattle.serde_json.specs.Data.{Data, Items, item, Members, member}
use Rattle.json_values.specs.Counts.{Increased}
use Rattle.byte_streams.specs.SinkState.{SinkState, Adds, AddsPrefix}
use Rattle.byte_streams.proofs.Sinks.{adds_more}
use Rattle.json_events.specs.declared.error.CanonError.{CanonError}
use Rattle.json_events.specs.declared.error.CanonError.TheVariants.{SinkFault, WantOfMemory}
use Rattle.json_events.specs.Drafts.{Stage, step, run}
use Rattle.json_events.specs.Events.{Event, begin_array_value, end_array_value, end_array, begin_object_key, write_string, end_object_key, begin_object_value, end_object_value, end_object}
use Rattle.json_canon.specs.Feeding.{Ran, Fed}
use Rattle.json_events.specs.Spelling.{spelled, spelled_items, spelled_members}
use Rattle.json_events.specs.Turns.{Taken, Answers, answer, Breaks}
use Rattle.json_events.proofs.TreeEvents.{run_refused}
use Rattle.json_events.proofs.ValueTexts.{run-append}

no_refusal : (o : Option CanonError) (u : Unit {0}) → Ok u ≡ answer o → o ≡ None
no_refusal None u e = refl
no_refusal (Some c) u e = cc

its_refusal : (o : Option CanonError) (e : CanonError) → Err e ≡ answer o → o ≡ Some e
its_refusal None e is = cc
its_refusal (Some c) e is = cc

out_one : (x : Event) (s : Stage) (before after : SinkState) → Adds (step x s).out before after → Adds (run (x ∷ []) s).out before after
out_one x s before after added = subst (λ o. Adds o before after) (sym (append-nil (step x s).out)) added

ran_one : (x : Event) (r : Result (Unit {0}) CanonError) (old new : Stage) (before after : SinkState) → Taken x r old new before after → Ran (x ∷ []) old new before after
ran_one x r old new before after taken = record { stage = taken.stage; added = out_one x old before after taken.added }

front_one : (x : Event) (s : Stage) (before after : SinkState) → AddsPrefix (step x s).out before after → AddsPrefix (run (x ∷ []) s).out before after
front_one x s before after front = subst (λ o. AddsPrefix o before after) (sym (append-nil (step x s).out)) front

abbrev error : CanonError → Result (Unit {0}) CanonError
error e = Err e

same_error : (e c : CanonError) → error e ≡ error c → e ≡ c
same_error e c is = cc

-- one event
pub fed_one : (x : Event) (r : Result (Unit {0}) CanonError) (old new : Stage) (before after : SinkState) → Answers x r old new before after → Fed (x ∷ []) r old new before after
fed_one x (Ok u) old new before after (inl taken) = (ran_one x (Ok u) old new before after taken, no_refusal new.refusal u taken.answers)
fed_one x (Ok u) old new before after (inr (inl broken)) = let e = broken.0.answers in cc
fed_one x (Ok u) old new before after (inr (inr broken)) = let e = broken.answers in cc
fed_one x (Err e) old new before after (inl taken) = inl (ran_one x (Err e) old new before after taken, its_refusal new.refusal e taken.answers)
fed_one x (Err e) old new before after (inr (inl broken)) = inr (inl (record { is = same_error e SinkFault broken.0.answers; rose = broken.1; front = front_one x old before after broken.0.front }))
fed_one x (Err e) old new before after (inr (inr broken)) = inr (inr (record { is = same_error e WantOfMemory broken.answers; front = front_one x old before after broken.front }))

ran_more : (xs ys : List Event) (old mid new : Stage) (before sink after : SinkState) → Ran xs old mid before sink → Ran ys mid new sink after → Ran (xs ++ ys) old new before after
ran_more xs ys old mid new before sink after first second =
    let all = run-append xs ys old in
    let there = ap (run ys) first.stage in
    record {
      stage = second.stage ∙ ap (λ r. r.stage) there ∙ sym (ap (λ r. r.stage) all);
      added = subst (λ o. Adds o before after) (ap (λ r. (run xs old).out ++ r.out) there ∙ sym (ap (λ r. r.out) all)) (adds_more (run xs old).out (run ys mid).out before sink after first.added second.added);
    }

front_more : (a b : List ℕ) (before sink after : SinkState) → Adds a before sink → AddsPrefix b sink after → AddsPrefix (a ++ b) before after
front_more a b before sink after added front = record {
  front = a ++ front.front;
  left = front.left;
  split = ap (λ t. a ++ t) front.split ∙ sym (append_assoc a front.front front.left);
  added = adds_more a front.front before sink after added front.added;
}

front_longer : (a b : List ℕ) (before after : SinkState) → AddsPrefix a before after → AddsPrefix (a ++ b) before after
front_longer a b before after front = record {
  front = front.front;
  left = front.left ++ b;
  split = ap (λ t. t ++ b) front.split ∙ append_assoc front.front front.left b;
  added = front.added;
}

rose_more : (a b c : ℕ) → a ≤ b → Increased b c → Increased a c
rose_more a b c up rose = omega (arith, rose)

breaks_more : (xs ys : List Event) (e : CanonError) (old mid : Stage) (before sink after : SinkState) → Ran xs old mid before sink → before.faults ≤ sink.faults → Breaks (run ys mid).out e sink after → Breaks (run (xs ++ ys) old).out e before after
breaks_more xs ys e old mid before sink after first up second =
    let whole : (run xs old).out ++ (run ys mid).out ≡ (run (xs ++ ys) old).out = ap (λ r. (run xs old).out ++ r.out) (ap (run ys) first.stage) ∙ sym (ap (λ r. r.out) (run-append xs ys old)) in
    elim second [
      | inl faulted ↦ inl (record {
        is = faulted.is;
        rose = rose_more before.faults sink.faults after.faults up faulted.rose;
        front = subst (λ o. AddsPrefix o before after) whole (front_more (run xs old).out (run ys mid).out before sink after first.added faulted.front);
      })
      | inr wanted ↦ inr (record { is = wanted.is; front = subst (λ o. AddsPrefix o before after) whole (front_more (run xs old).out (run ys mid).out before sink after first.added wanted.front) })
    ]

-- some events, and then others
pub fed_then : (xs ys : List Event) (r : Result (Unit {0}) CanonError) (u : Unit {0}) (old mid new : Stage) (before sink after : SinkState) → Fed xs (Ok u) old mid before sink → before.faults ≤ sink.faults → Fed ys r mid new sink after → Fed (xs ++ ys) r old new before after
fed_then xs ys (Ok v) u old mid new before sink after first up second = (ran_more xs ys old mid new before sink after first.0 second.0, second.1)
fed_then xs ys (Err e) u old mid new before sink after first up (inl second) = inl (ran_more xs ys old mid new before sink after first.0 second.0, second.1)
fed_then xs ys (Err e) u old mid new before sink after first up (inr second) = inr (breaks_more xs ys e old mid before sink after first.0 up second)

-- the first events were refused or failed
pub fed_stop : (xs ys : List Event) (e : CanonError) (old new : Stage) (before after : SinkState) → Fed {X = Unit {0}} xs (Err e) old new before after → Fed {X = Unit {0}} (xs ++ ys) (Err e) old new before after
fed_stop xs ys e old new before after (inl first) =
    let all = run-append xs ys old in
    let there : run ys (run xs old).stage ≡ record { stage = new; out = [] } = ap (run ys) (sym first.0.stage) ∙ run_refused ys new e first.1 in
    inl (
      record {
        stage = sym (ap (λ r. r.stage) all ∙ ap (λ r. r.stage) there);
        added = subst (λ o. Adds o before after) (sym (ap (λ r. r.out) all ∙ ap (λ r. (run xs old).out ++ r.out) there ∙ append-nil (run xs old).out)) first.0.added;
      },
      first.1,
    )
fed_stop xs ys e old new before after (inr broken) =
    let all = ap (λ r. r.out) (run-append xs ys old) in
    elim broken [
      | inl faulted ↦ inr (inl (record { is = faulted.is; rose = faulted.rose; front = subst (λ o. AddsPrefix o before after) (sym all) (front_longer (run xs old).out _ before after faulted.front) }))
      | inr wanted ↦ inr (inr (record { is = wanted.is; front = subst (λ o. AddsPrefix o before after) (sym all) (front_longer (run xs old).out _ before after wanted.front) }))
    ]

-- all events but those that are left were accepted
pub record FedUpTo (all left : List Event) (old now : Stage) (before sink : SinkState) : Type 0 where
  pub done : List Event
  pub parts : all ≡ done ++ left
  pub fed : Fed {X = Unit {0}} done (Ok tt) old now before sink
  pub count : before.faults ≤ sink.faults

pub up_to : (xs left : List Event) (old now : Stage) (before sink : SinkState) → Fed {X = Unit {0}} xs (Ok tt) old now before sink → before.faults ≤ sink.faults → FedUpTo (xs ++ left) left old now before sink
up_to xs left old now before sink fed up = record { done = xs; parts = refl; fed = fed; count = up }

pub up_to_more : (all xs rest left : List Event) (old now new : Stage) (before sink after : SinkState) → left ≡ xs ++ rest → FedUpTo all left old now before sink → Fed {X = Unit {0}} xs (Ok tt) now new sink after → sink.faults ≤ after.faults → FedUpTo all rest old new before after
up_to_more all xs rest left old now new before sink after is so fed up = record {
  done = so.done ++ xs;
  parts = so.parts ∙ ap (λ l. so.done ++ l) is ∙ sym (append_assoc so.done xs rest);
  fed = fed_then so.done xs (Ok tt) tt old now new before sink after so.fed so.count fed;
  count = omega (arith, so.count, up);
}

pub up_to_stop : (all xs rest left : List Event) (e : CanonError) (old now new : Stage) (before sink after : SinkState) → left ≡ xs ++ rest → FedUpTo all left old now before sink → Fed {X = Unit {0}} xs (Err e) now new sink after → Fed {X = Unit {0}} all (Err e) old new before after
up_to_stop all xs rest left e old now new before sink after is so fed =
    subst (λ l. Fed {X = Unit {0}} l (Err e) old new before after) (append_assoc so.done xs rest ∙ sym (so.parts ∙ ap (λ l. so.done ++ l) is))
    (fed_stop (so.done ++ xs) rest e old new before after (fed_then so.done xs (Err e) tt old now new before sink after so.fed so.count fed))

pub up_to_end : (all left : List Event) (r : Result (Unit {0}) CanonError) (old now new : Stage) (before sink after : SinkState) → FedUpTo all left old now before sink → Fed left r now new sink after → Fed all r old new before after
up_to_end all left r old now new before sink after so fed = subst (λ l. Fed l r old new before after) (sym so.parts) (fed_then so.done left r tt old now new before sink after so.fed so.count fed)

-- the rest of an array and of an object
abbrev pub items_left : Items → List Event
items_left ds = spelled_items ds ++ end_array ∷ []

abbrev pub members_left : Members → List Event
members_left ms = spelled_members ms ++ end_object ∷ []

pub item_left : (d : Data) (ds : Items) → items_left (item d ds) ≡ (begin_array_value ∷ (spelled d ++ end_array_value ∷ [])) ++ items_left ds
item_left d ds = ap (λ l. begin_array_value ∷ l) (append_assoc (spelled d) (end_array_value ∷ spelled_items ds) (end_array ∷ []) ∙ sym (append_assoc (spelled d) (end_array_value ∷ []) (items_left ds)))

abbrev pub name_events : List ℕ → List Event
name_events k = begin_object_key ∷ write_string k ∷ end_object_key ∷ []

abbrev pub value_events : Data → List Event
value_events d = begin_object_value ∷ (spelled d ++ end_object_value ∷ [])

pub member_left : (k : List ℕ) (d : Data) (ms : Members) → members_left (member k d ms) ≡ name_events k ++ (value_events d ++ members_left ms)
member_left k d ms = ap (λ l. begin_object_key ∷ write_string k ∷ end_object_key ∷ begin_object_value ∷ l) (append_assoc (spelled d) (end_object_value ∷ spelled_members ms) (end_object ∷ []) ∙ sym (append_assoc (spelled d) (end_object_value ∷ []) (members_left ms)))

-- three calls in a row
pub stop_second : (xs ys rest : List Event) (e : CanonError) (u : Unit {0}) (old mid new : Stage) (before sink after : SinkState) → Fed xs (Ok u) old mid before sink → before.faults ≤ sink.faults → Fed {X = Unit {0}} ys (Err e) mid new sink after
    → Fed {X = Unit {0}} (xs ++ (ys ++ rest)) (Err e) old new before after
stop_second xs ys rest e u old mid new before sink after first up second =
    subst (λ l. Fed {X = Unit {0}} l (Err e) old new before after) (append_assoc xs ys rest)
    (fed_stop (xs ++ ys) rest e old new before after (fed_then xs ys (Err e) u old mid new before sink after first up second))

pub all_three : (xs ys zs : List Event) (r : Result (Unit {0}) CanonError) (u v : Unit {0}) (old mid more new : Stage) (before sink late after : SinkState) → Fed xs (Ok u) old mid before sink → before.faults ≤ sink.faults
    → Fed ys (Ok v) mid more sink late → sink.faults ≤ late.faults → Fed zs r more new late after → Fed (xs ++ (ys ++ zs)) r old new before after
all_three xs ys zs r u v old mid more new before sink late after first up second higher third =
    fed_then xs (ys ++ zs) r u old mid new before sink after first up (fed_then ys zs r v mid more new sink late after second higher third)

-- the error is propagated
pub handed : (xs : List Event) (r : Result (Unit {0}) CanonError) (e : CanonError) (old new : Stage) (before after : SinkState) → IsErrAnd r (λ x. x ≡ e) → Fed {X = Unit {0}} xs (Err e) old new before after → Fed xs r old new before after
handed xs (Ok u) e old new before after is fed = absurd is
handed xs (Err c) e old new before after is fed = subst (λ x. Fed {X = Unit {0}} xs (Err x) old new before after) (sym is) fed
