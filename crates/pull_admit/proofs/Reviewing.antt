-- Images that are reviewed one after another.
use Rattle.std.proofs.Common.{◌≡◌, inl, inr, ℕ, ◌+◌, ◌≤◌, ◌<◌, List, [], ◌∷◌, ◌++◌, length, Option, Some, None, Result, Ok, Err, refl, sym, ap, subst, ◌∙◌, append_assoc, append-nil, arith}
use Rattle.std.specs.Prelude.{All, IfOk, take, drop, get_or}
use native.Mathlib.Numerals.{unary_clauses}
use Rattle.std.proofs.Math.Seq.{take-suc}
use Rattle.std.proofs.lemmas.List.{length-append, take-append-drop}
use Rattle.std.specs.FinMap.{FinMap}
use Rattle.json_values.specs.Places.{by_bytes}
use Rattle.engine_terms.specs.declared.settings.Settings.{Settings}
use Rattle.cosign_parts.specs.Trust.{Valid, Vouching}
use Rattle.cosign_layers.specs.Satisfying.{CustomVerdict}
use Rattle.std.proofs.lemmas.List.Elements.{All-nil, All-cons, All-head, All-tail, All-push, All-weaker}
use Rattle.json_values.specs.Counts.{Increased}
use Rattle.oci_link.specs.declared.shelf.Shelf.{Shelf}
use Rattle.oci_transport.specs.Link.{Link, Answering}
use Rattle.oci_transport.specs.declared.message.Exchange.{Exchange}
use Rattle.oci_protocol.specs.Runs.{Told}
use Rattle.oci_protocol.proofs.Conversations.{Extends-more, Extends-none}
use Rattle.registry_calls.specs.Clients.{Kept}
use Rattle.cosign_rows.specs.Snapshots.{Snapshot, snapshot}
use Rattle.cosign_laws.specs.Shelves.{AnswersFrom}
use Rattle.pull_admit.specs.Causes.{CountsFault, EachFaultCounted, HoldsNoMemory}
use Rattle.pull_admit.specs.Complete.{IsAtRegistry, SettledAt, EachAllowedIfThere, AllowedIfThere}
use Rattle.pull_admit.specs.Confining.{EachConfined}
use Rattle.pull_admit.specs.Decided.{PullTerms, DecidedBy, Reviewed, Reviews}
use Rattle.pull_admit.specs.OneImage.{Decided, DecidedSoFar, Keeps, KeepsSoFar, OneMore, terms_in}
use Rattle.pull_admit.specs.declared.decisions.Pulling.{Pulling}
use Rattle.pull_admit.specs.declared.decision.Decision.{Decision}
use Rattle.pull_admit.specs.declared.decision.Decision.TheVariants.{Allow, Deny}
use Rattle.pull_admit.specs.declared.decision.DenyCause.TheVariants.{NotAReference, Refused}
use Rattle.pod_reviews.specs.declared.images.ReviewImage.{ReviewImage}

-- ---- decisions

-- the index is of use only if it is known how the transport responds
pub any_place : {V : Type 0} {H : V → Type 0} (t : PullTerms V H) (x : ReviewImage) (p q : ℕ) (start end : Snapshot) (c : List Exchange) (d : Decision) → DecidedBy None p t x start c end d → DecidedBy None q t x start c end d
any_place t x p q start end c (Allow v) h = record { image = h.image; parses = h.parses; run = h.run; chain = h.chain; backed = h.backed; confined = h.confined }
any_place t x p q start end c (Deny (NotAReference text)) h = h
any_place t x p q start end c (Deny (Refused e)) h = record { image = h.image; parses = h.parses; run = h.run; cause = h.cause; memory = h.memory; confined = h.confined }

moved : {V : Type 0} {H : V → Type 0} (known : Option Answering) (t : PullTerms V H) (x : ReviewImage) (p q : ℕ) (start mid end : Snapshot) (c : List Exchange) (d : Decision) → p ≡ q → start ≡ mid → DecidedBy known p t x mid c end d → DecidedBy known q t x start c end d
moved known t x p q start mid end c d at same h = subst (λ n. DecidedBy known n t x start c end d) at (subst (λ s. DecidedBy known p t x s c end d) (sym same) h)

-- one more image after others
pub reviewed_more : {V : Type 0} {H : V → Type 0} (known : Option Answering) (place : ℕ) (t : PullTerms V H) (xs : List ReviewImage) (ds : List Decision) (start mid end : Snapshot) (c e : List Exchange) (x : ReviewImage) (d : Decision)
    → Reviewed known place t xs start c mid ds → DecidedBy known (place + length c) t x mid e end d → Reviewed known place t (xs ++ x ∷ []) start (c ++ e) end (ds ++ d ∷ [])
reviewed_more known place t [] [] start mid end c e x d h one =
    (e, [], end, ap (λ b. b ++ e) h.0 ∙ sym (append-nil e), moved known t x (place + length c) place start mid end e d (ap (λ b. place + length b) h.0 ∙ omega arith) h.1 one, (refl, refl))
reviewed_more known place t [] (y ∷ ds) start mid end c e x d h one = absurd h
reviewed_more known place t (y ∷ xs) [] start mid end c e x d h one = absurd h
reviewed_more known place t (y ∷ xs) (z ∷ ds) start mid end c e x d h one =
    let first = h.0 in let rest = h.1 in let between = h.2 in (
      first,
      rest ++ e,
      between,
      ap (λ b. b ++ e) h.3 ∙ append_assoc first rest e,
      h.4,
      reviewed_more known (place + length first) t xs ds between mid end rest e x d h.5
          (subst (λ n. DecidedBy known n t x mid e end d) (ap (λ b. place + length b) h.3 ∙ omega (arith, length-append first rest)) one),
    )

pub reviews_more : {V : Type 0} {H : V → Type 0} (t : PullTerms V H) (xs : List ReviewImage) (ds : List Decision) (old mid new : Link) (k j l : Kept) (x : ReviewImage) (d : Decision)
    → Reviews t xs old mid k j ds → Decided t x mid new j l d → Reviews t (xs ++ x ∷ []) old new k l (ds ++ d ∷ [])
reviews_more t xs ds old mid new k j l x d before one = record {
  conversation = before.conversation ++ one.conversation;
  told = Extends-more old mid new before.conversation one.conversation before.told one.told;
  reviewed = reviewed_more None 0 t xs ds (snapshot k old.faults) (snapshot j mid.faults) (snapshot l new.faults) before.conversation one.conversation x d before.reviewed
      (any_place t x 0 (0 + length before.conversation) (snapshot j mid.faults) (snapshot l new.faults) one.conversation d one.decided);
  reviewed_by = λ a shown by telling.
      reviewed_more (Some a) (length shown) t xs ds (snapshot k old.faults) (snapshot j mid.faults) (snapshot l new.faults) before.conversation one.conversation x d (before.reviewed_by a shown by telling)
      (subst (λ n. DecidedBy (Some a) n t x (snapshot j mid.faults) one.conversation (snapshot l new.faults) d) (length-append shown before.conversation)
      (one.decided_by a (shown ++ before.conversation) (before.told.stays.steady a by) (before.told.told shown telling)));
}

-- ---- faults

later : (a b c : ℕ) → b ≤ c → Increased a b → Increased a c
later a b c more h = omega (arith, more, h)

earlier : (a b c : ℕ) → a ≤ b → Increased b c → Increased a c
earlier a b c more h = omega (arith, more, h)

faults_more : (old mid new : Link) (ds : List Decision) (d : Decision) → old.faults ≤ mid.faults → mid.faults ≤ new.faults → EachFaultCounted old mid ds → CountsFault mid new d → EachFaultCounted old new (ds ++ d ∷ [])
faults_more old mid new ds d before after each one =
    All-push (CountsFault old new) ds d (All-weaker (CountsFault old mid) (CountsFault old new) (λ y h is. later old.faults mid.faults new.faults after (h is)) ds each) (λ is. earlier old.faults mid.faults new.faults before (one is))

-- ---- images that are present

allowed_more : {V : Type 0} {H : V → Type 0} (t : PullTerms V H) (shelf : Shelf) (xs : List ReviewImage) (ds : List Decision) (x : ReviewImage) (d : Decision) → EachAllowedIfThere t shelf xs ds → AllowedIfThere t shelf x d → EachAllowedIfThere t shelf (xs ++ x ∷ []) (ds ++ d ∷ [])
allowed_more t shelf [] [] x d h one = (one, tt)
allowed_more t shelf [] (y ∷ ds) x d h one = absurd h
allowed_more t shelf (y ∷ xs) [] x d h one = absurd h
allowed_more t shelf (y ∷ xs) (z ∷ ds) x d h one = (h.0, allowed_more t shelf xs ds x d h.1 one)

pub all_before : {X : Type 0} (P : X → Type 0) (xs ys : List X) → All P (xs ++ ys) → All P xs
all_before P [] ys h = All-nil P
all_before P (x ∷ xs) ys h = All-cons P x xs (All-head P x (xs ++ ys) h) (all_before P xs ys (All-tail P x (xs ++ ys) h))

all_last : {X : Type 0} (P : X → Type 0) (xs : List X) (x : X) → All P (xs ++ x ∷ []) → P x
all_last P [] x h = All-head P x [] h
all_last P (y ∷ xs) x h = all_last P xs x (All-tail P y (xs ++ x ∷ []) h)

-- ---- confinement

pub confined_append : {V : Type 0} {H : V → Type 0} (t : PullTerms V H) (xs ys : List ReviewImage) (k j l : Kept) (c e : List Exchange) → EachConfined t xs k c j → EachConfined t ys j e l → EachConfined t (xs ++ ys) k (c ++ e) l
confined_append t [] ys k j l c e h more = subst (λ b. EachConfined t ys k (b ++ e) l) (sym h.0) (subst (λ (s : Kept). EachConfined t ys s e l) (sym h.1) more)
confined_append t (x ∷ xs) ys k j l c e (inl h) more = inl (confined_append t xs ys k j l c e h more)
confined_append t (x ∷ xs) ys k j l c e (inr h) more =
    inr (h.0, h.1 ++ e, h.2, ap (λ b. b ++ e) h.3 ∙ append_assoc h.0 h.1 e, h.4, confined_append t xs ys h.2 j l h.1 e h.5 more)

-- images without a part
pub none_confined : {V : Type 0} {H : V → Type 0} (t : PullTerms V H) (xs : List ReviewImage) (k : Kept) → EachConfined t xs k [] k
none_confined t [] k = (refl, refl)
none_confined t (x ∷ xs) k = inl (none_confined t xs k)

told_more : {V : Type 0} {H : V → Type 0} (t : PullTerms V H) (xs ys : List ReviewImage) (old mid new : Link) (k j l : Kept)
    → Told (λ c. EachConfined t xs k c j) old mid → Told (λ c. EachConfined t ys j c l) mid new → Told (λ c. EachConfined t (xs ++ ys) k c l) old new
told_more t xs ys old mid new k j l first more = record {
  conversation = first.conversation ++ more.conversation;
  told = Extends-more old mid new first.conversation more.conversation first.told more.told;
  holds = confined_append t xs ys k j l first.conversation more.conversation first.holds more.holds;
}

-- ---- all of it

pub decided_more : {V : Type 0} {H : V → Type 0} (t : PullTerms V H) (xs : List ReviewImage) (x : ReviewImage) (old mid new : Link) (k j l : Kept) (ds after : List Decision)
    → DecidedSoFar t xs old mid k j ds → KeepsSoFar t xs old mid k j → OneMore t x mid new j l ds after → DecidedSoFar t (xs ++ x ∷ []) old new k l after
decided_more t xs x old mid new k j l ds after before kept more = subst (DecidedSoFar t (xs ++ x ∷ []) old new k l) (sym more.added) (record {
  reviews = reviews_more t xs ds old mid new k j l x more.decision before.reviews more.decided;
  count = omega (arith, before.count, more.decided.count);
  faults = faults_more old mid new ds more.decision before.count more.decided.count before.faults more.decided.fault;
  memory = All-push HoldsNoMemory ds more.decision before.memory more.decided.memory;
  completes = λ shelf registry from at settled.
      let first = all_before (IsAtRegistry registry) xs (x ∷ []) at in
      let mid_way = kept.settled shelf registry from first settled in
      allowed_more t shelf xs ds x more.decision (before.completes shelf registry from first settled)
      (more.decided.completes shelf registry mid_way.0 (all_last (IsAtRegistry registry) xs x at) mid_way.1);
})

pub keeps_more : {V : Type 0} {H : V → Type 0} (t : PullTerms V H) (xs : List ReviewImage) (x : ReviewImage) (old mid new : Link) (k j l : Kept)
    → KeepsSoFar t xs old mid k j → Keeps t x mid new j l → KeepsSoFar t (xs ++ x ∷ []) old new k l
keeps_more t xs x old mid new k j l before one = record {
  confined = told_more t xs (x ∷ []) old mid new k j l before.confined one.confined;
  settled = λ shelf registry from at settled.
      let mid_way = before.settled shelf registry from (all_before (IsAtRegistry registry) xs (x ∷ []) at) settled in
      one.settled shelf registry mid_way.0 (all_last (IsAtRegistry registry) xs x at) mid_way.1;
}

-- images after those that were decided
pub keeps_before : {V : Type 0} {H : V → Type 0} (t : PullTerms V H) (xs ys : List ReviewImage) (old new : Link) (k l : Kept) → KeepsSoFar t xs old new k l → KeepsSoFar t (xs ++ ys) old new k l
keeps_before t xs ys old new k l kept = record {
  confined = record {
    conversation = kept.confined.conversation;
    told = kept.confined.told;
    holds = subst (λ c. EachConfined t (xs ++ ys) k c l) (append-nil kept.confined.conversation)
        (confined_append t xs ys k l l kept.confined.conversation [] kept.confined.holds (none_confined t ys l));
  };
  settled = λ shelf registry from at settled. kept.settled shelf registry from (all_before (IsAtRegistry registry) xs ys at) settled;
}

-- no image yet
pub decided_none : {V : Type 0} {H : V → Type 0} (t : PullTerms V H) (link : Link) (k : Kept) → DecidedSoFar t [] link link k k []
decided_none t link k = record {
  reviews = record { conversation = []; told = Extends-none link; reviewed = (refl, refl); reviewed_by = λ a before by telling. (refl, refl) };
  count = omega arith;
  faults = All-nil (CountsFault link link);
  memory = All-nil HoldsNoMemory;
  completes = λ shelf registry from at settled. tt;
}

pub keeps_none : {V : Type 0} {H : V → Type 0} (t : PullTerms V H) (link : Link) (k : Kept) → KeepsSoFar t [] link link k k
keeps_none t link k = record {
  confined = record { conversation = []; told = Extends-none link; holds = (refl, refl) };
  settled = λ shelf registry from at settled. (from, settled);
}

-- the image at an index is the next one
pub next_image : (xs : List ReviewImage) (i : ℕ) (x : ReviewImage) → i < length xs → x ≡ get_or xs i x → take (i + 1) xs ≡ take i xs ++ x ∷ []
next_image xs i x h is = simp unary_clauses (take-suc xs i x h) ∙ ap (λ y. take i xs ++ y ∷ []) (sym is)

pub terms_as : {V O W : Type 0} {H : W → Type 0} (valid : V → Valid) (vouched : O → Vouching) (own : CustomVerdict W H) (p : Pulling V O W H) {k l : FinMap by_bytes (List ℕ)} {s t : Settings} → k ≡ l → s ≡ t → terms_in valid vouched own p k s ≡ terms_in valid vouched own p l t
terms_as valid vouched own p {k} {l} {s} {t} e f = ap (λ (x : FinMap by_bytes (List ℕ)). terms_in valid vouched own p x s) e ∙ ap (λ (x : Settings). terms_in valid vouched own p l x) f

-- one more image, by the same terms
pub decided_next : {V : Type 0} {H : V → Type 0} {t u : PullTerms V H} {xs all : List ReviewImage} {x : ReviewImage} {old mid new : Link} {k j l : Kept} {ds after : List Decision}
    → u ≡ t → all ≡ xs ++ x ∷ [] → DecidedSoFar t xs old mid k j ds → KeepsSoFar t xs old mid k j → OneMore u x mid new j l ds after → DecidedSoFar t all old new k l after
decided_next {V} {H} {t} {u} {xs} {all} {x} {old} {mid} {new} {k} {j} {l} {ds} {after} same is before kept more =
    subst (λ (ys : List ReviewImage). DecidedSoFar t ys old new k l after) (sym is) (decided_more t xs x old mid new k j l ds after before kept (subst (λ (r : PullTerms V H). OneMore r x mid new j l ds after) same more))

pub keeps_next : {V : Type 0} {H : V → Type 0} {t u : PullTerms V H} {xs all : List ReviewImage} {x : ReviewImage} {old mid new : Link} {k j l : Kept}
    → u ≡ t → all ≡ xs ++ x ∷ [] → KeepsSoFar t xs old mid k j → Keeps u x mid new j l → KeepsSoFar t all old new k l
keeps_next {V} {H} {t} {u} {xs} {all} {x} {old} {mid} {new} {k} {j} {l} same is before one =
    subst (λ (ys : List ReviewImage). KeepsSoFar t ys old new k l) (sym is) (keeps_more t xs x old mid new k j l before (subst (λ (r : PullTerms V H). Keeps r x mid new j l) same one))

-- the images up to one of which memory ran out are the first of all
pub keeps_cut : {V : Type 0} {H : V → Type 0} {t : PullTerms V H} (n : ℕ) (all : List ReviewImage) {old new : Link} {k l : Kept} → KeepsSoFar t (take n all) old new k l → KeepsSoFar t all old new k l
keeps_cut {V} {H} {t} n all {old} {new} {k} {l} kept =
    subst (λ (ys : List ReviewImage). KeepsSoFar t ys old new k l) (take-append-drop n all) (keeps_before t (take n all) (drop n all) old new k l kept)

pub decided_nothing : {V : Type 0} {H : V → Type 0} (t : PullTerms V H) (link : Link) (k : Kept) (ds : List Decision) → ds ≡ [] → DecidedSoFar t [] link link k k ds
decided_nothing t link k ds is = subst (DecidedSoFar t [] link link k k) (sym is) (decided_none t link k)

-- ---- results

pub reviews_in : {E V : Type 0} {H : V → Type 0} (t : PullTerms V H) (xs : List ReviewImage) (old new : Link) (k l : Kept) (r : Result (List Decision) E) → IfOk r (λ ds. DecidedSoFar t xs old new k l ds) → IfOk r (λ ds. Reviews t xs old new k l ds)
reviews_in t xs old new k l (Ok ds) h = h.reviews
reviews_in t xs old new k l (Err e) h = tt

pub faults_in : {E V : Type 0} {H : V → Type 0} (t : PullTerms V H) (xs : List ReviewImage) (old new : Link) (k l : Kept) (r : Result (List Decision) E) → IfOk r (λ ds. DecidedSoFar t xs old new k l ds) → IfOk r (λ ds. EachFaultCounted old new ds)
faults_in t xs old new k l (Ok ds) h = h.faults
faults_in t xs old new k l (Err e) h = tt

pub memory_in : {E V : Type 0} {H : V → Type 0} (t : PullTerms V H) (xs : List ReviewImage) (old new : Link) (k l : Kept) (r : Result (List Decision) E) → IfOk r (λ ds. DecidedSoFar t xs old new k l ds) → IfOk r (λ ds. All HoldsNoMemory ds)
memory_in t xs old new k l (Ok ds) h = h.memory
memory_in t xs old new k l (Err e) h = tt

pub completes_in : {E V : Type 0} {H : V → Type 0} (t : PullTerms V H) (xs : List ReviewImage) (old new : Link) (k l : Kept) (r : Result (List Decision) E) → IfOk r (λ ds. DecidedSoFar t xs old new k l ds)
    → (shelf : Shelf) (registry : List ℕ) → AnswersFrom shelf old → All (IsAtRegistry registry) xs → SettledAt t.context.settings registry t.auth shelf k → IfOk r (λ ds. EachAllowedIfThere t shelf xs ds)
completes_in t xs old new k l (Ok ds) h shelf registry from at settled = h.completes shelf registry from at settled
completes_in t xs old new k l (Err e) h shelf registry from at settled = tt
