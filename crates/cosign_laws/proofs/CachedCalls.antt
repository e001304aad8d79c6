-- A call whose response may be cached is one of two: its response was known, or it is the uncached call.
use Rattle.std.proofs.Common.{◌≡◌, ◌⊎◌, inl, inr, ℕ, Bool, true, false, List, [], ◌∷◌, ◌++◌, Option, Some, None, Result, Ok, Err, refl, sym, ap, subst, ◌∙◌, append-nil}
use Rattle.std.specs.Prelude.{option_map}
use Rattle.oci_transport.specs.declared.message.Exchange.{Exchange}
use Rattle.oci_protocol.specs.Proto.{Done, bind, unless_refused, ◌>>=◌, ◌>>◌}
use Rattle.oci_protocol.specs.Lift.{lifted}
use Rattle.oci_protocol.specs.Ends.{Ends}
use Rattle.oci_protocol.specs.Runs.{Runs}
use Rattle.oci_protocol.proofs.Ends.{Ends-bind}
use Rattle.oci_protocol.proofs.WiderMemory.{Ends-lifted, Runs-unlifted}
use Rattle.oci_protocol.proofs.Parts.{Runs-parts}
use Rattle.engine_terms.specs.declared.settings.Settings.{Settings}
use Rattle.engine_rows.specs.Held.{Entry}
use Rattle.engine_laws.proofs.Confines.{ConfinesBy, Alone, Beside, confines_done, confines_bind, confines_recall, confines_kept, confines_lifted}
use Rattle.registry_cache.specs.Answers.{keep, entry}
use Rattle.registry_cache.specs.declared.answers.Answers.{Answers}
use Rattle.registry_calls.specs.declared.error.SigstoreError.{SigstoreError}
use Rattle.registry_calls.specs.Caching.{keeping, known_or, recalled, cached}
use Rattle.registry_cache.specs.Caching.{Cache, known}
use Rattle.registry_calls.specs.Clients.{Kept, Plain, Row}
use Rattle.cosign_laws.proofs.Counts.{Counts}

module _ {A : Type 0} (cache : Cache A) (key : List ℕ) (now : ℕ) where
  -- a response is cached and returned
  abbrev given : A → Row A
  given answer = keeping cache key now answer >> Done (Ok answer)

  -- ---- how it ends

  kept_ends : (Q : Result A SigstoreError → Type 0) (a : A) → Q (Ok a) → Ends Q (given a)
  unfolding Ends bind keeping
  kept_ends Q a h = λ k. h

  given_ends : (Q : Result A SigstoreError → Type 0) → ((a : A) → Q (Ok a)) → (r : Result A SigstoreError) → Q r → Ends Q (unless_refused given r)
  unfolding Ends
  given_ends Q each (Ok a) h = kept_ends Q a h
  given_ends Q each (Err e) h = h

  known_ends : (Q : Result A SigstoreError → Type 0) (p : Plain A) → ((a : A) → Q (Ok a)) → Ends Q p → (o : Option A) → Ends Q (known_or cache key now p o)
  unfolding Ends
  known_ends Q p each h (Some a) = each a
  known_ends Q p each h None = Ends-bind Q Q (lifted p) (unless_refused given) (Ends-lifted (Option Answers) Q p h) (given_ends Q each)

  -- if the property holds for each response and for each end of the uncached call, it holds for each end
  pub cached_ends : (Q : Result A SigstoreError → Type 0) (b : Bool) (p : Plain A) → ((a : A) → Q (Ok a)) → Ends Q p → Ends Q (cached b cache key now p)
  unfolding recalled Ends
  cached_ends Q false p each h = Ends-lifted (Option Answers) Q p h
  cached_ends Q true p each h = λ k. known_ends Q p each h (known cache key now k.1)

  -- ---- its runs

  -- its response was known, no request was sent, and nothing changed
  pub record IsKnown (k : Kept) (m : ℕ) (c : List Exchange) (n : ℕ) (l : Kept) (r : Result A SigstoreError) : Type 0 where
    pub answer : A
    pub known_is : known cache key now k.1 ≡ Some answer
    pub silent : c ≡ []
    pub count : m ≡ n
    pub same : k ≡ l
    pub result : Ok answer ≡ r

  -- the cache after the uncached call: with its response, if the reference round-trips
  abbrev pub kept_after : Bool → Option Answers → Result A SigstoreError → Option Answers
  kept_after true answers (Ok a) = option_map (keep (entry key now (cache.kept_as a))) answers
  kept_after true answers (Err e) = answers
  kept_after false answers r = answers

  -- it is the uncached call, whose response was not known
  pub record IsMade (b : Bool) (p : Plain A) (k : Kept) (m : ℕ) (c : List Exchange) (n : ℕ) (l : Kept) (r : Result A SigstoreError) : Type 0 where
    pub runs : Runs p k.0 m c n l.0 r
    pub kept : l.1 ≡ kept_after b k.1 r
    pub unknown : b ≡ true → known cache key now k.1 ≡ None

  done_parts : (x : Result A SigstoreError) (k l : Kept) (m n : ℕ) (c : List Exchange) (r : Result A SigstoreError) → Runs (Done x) k m c n l r → (c ≡ []) × (m ≡ n) × (k ≡ l) × (x ≡ r)
  unfolding Runs
  done_parts x k l m n [] r run = (refl, run.0, run.1, run.2)
  done_parts x k l m n (e ∷ c) r run = absurd run

  -- the client state after a response
  given_parts : (a : A) (k l : Kept) (m n : ℕ) (c : List Exchange) (r : Result A SigstoreError) → Runs (given a) k m c n l r → (c ≡ []) × (m ≡ n) × ((let after : Kept = (k.0, kept_after true k.1 (Ok a)) in after) ≡ l) × (Ok a ≡ r)
  unfolding Runs bind keeping
  given_parts a k l m n [] r run = (refl, run.0, run.1, run.2)
  given_parts a k l m n (e ∷ c) r run = absurd run

  answer_parts : (o : Result A SigstoreError) (k l : Kept) (m n : ℕ) (c : List Exchange) (r : Result A SigstoreError) → Runs (unless_refused given o) k m c n l r → (c ≡ []) × (m ≡ n) × ((let after : Kept = (k.0, kept_after true k.1 o) in after) ≡ l) × (o ≡ r)
  answer_parts (Ok a) k l m n c r run = given_parts a k l m n c r run
  answer_parts (Err e) k l m n c r run = done_parts (Err e) k l m n c r run

  joined : (p : Plain A) (k between l : Kept) (m middle n : ℕ) (c first second : List Exchange) (o r : Result A SigstoreError) → known cache key now k.1 ≡ None → c ≡ first ++ second → Runs p k.0 m first middle between.0 o → k.1 ≡ between.1
      → second ≡ [] → middle ≡ n → (let after : Kept = (between.0, kept_after true between.1 o) in after) ≡ l → o ≡ r → IsMade true p k m c n l r
  joined p k between l m middle n c first second o r unknown split run stays silent count kept same = record {
    runs = rw (split ∙ ap (λ d. first ++ d) silent ∙ append-nil first, ← count, ← kept, ← same) run;
    kept = rw (← kept, ← same, stays) refl;
    unknown = λ b. unknown;
  }

  made_run : (p : Plain A) (k l : Kept) (m n : ℕ) (c : List Exchange) (r : Result A SigstoreError) → known cache key now k.1 ≡ None → Runs (lifted p >>= given) k m c n l r → IsMade true p k m c n l r
  made_run p k l m n c r unknown run =
      let t = Runs-parts (lifted p) (unless_refused given) k m c n l r run in
      let first = Runs-unlifted p k t.between m t.count t.first t.answer t.runs_first in
      let last = answer_parts t.answer t.between l t.count n t.second r t.runs_second in
      joined p k t.between l m t.count n c t.first t.second t.answer r unknown t.joined first.0 first.1 last.0 last.1 last.2 last.3

  -- one or the other
  pub cached_run : (b : Bool) (p : Plain A) (k l : Kept) (m n : ℕ) (c : List Exchange) (r : Result A SigstoreError) → Runs (cached b cache key now p) k m c n l r → IsKnown k m c n l r ⊎ IsMade b p k m c n l r
  unfolding recalled Runs
  cached_run false p k l m n c r run = let parts = Runs-unlifted p k l m n c r run in inr (record { runs = parts.0; kept = sym parts.1; unknown = λ b. absurd (cc b) })
  cached_run true p k l m n c r run = by_known (known cache key now k.1) refl run where
    by_known : (o : Option A) → known cache key now k.1 ≡ o → Runs (known_or cache key now p o) k m c n l r → IsKnown k m c n l r ⊎ IsMade true p k m c n l r
    by_known (Some a) is run = let parts = done_parts (Ok a) k l m n c r run in inl (record { answer = a; known_is = is; silent = parts.0; count = parts.1; same = parts.2; result = parts.3 })
    by_known None is run = inr (made_run p k l m n c r is run)

  -- a refusal is that of the uncached call, whose response was not known
  pub cached_refusal : (b : Bool) (p : Plain A) (k l : Kept) (m n : ℕ) (c : List Exchange) (e : SigstoreError) → Runs (cached b cache key now p) k m c n l (Err e) → IsMade b p k m c n l (Err e)
  cached_refusal b p k l m n c e run = by_run (cached_run b p k l m n c (Err e) run) where
    by_run : IsKnown k m c n l (Err e) ⊎ IsMade b p k m c n l (Err e) → IsMade b p k m c n l (Err e)
    by_run (inl h) = absurd (cc h.result)
    by_run (inr h) = h

  -- it leaves the cached responses unchanged
  pub refusal_stays : (b : Bool) (answers : Option Answers) (e : SigstoreError) → kept_after b answers (Err e) ≡ answers
  refusal_stays true answers e = refl
  refusal_stays false answers e = refl

  -- ---- the fault counts

  known_counts : (Q : ℕ → ℕ → Result A SigstoreError → Type 0) (k l : Kept) (m n : ℕ) (c : List Exchange) (r : Result A SigstoreError) → ((m : ℕ) (a : A) → Q m m (Ok a)) → IsKnown k m c n l r → Q m n r
  known_counts Q k l m n c r each h = subst (Q m n) h.result (subst (λ o. Q m o (Ok h.answer)) h.count (each m h.answer))

  -- a property of each response that needs no request, and of the uncached call, holds for the call
  pub cached_counts : (Q : ℕ → ℕ → Result A SigstoreError → Type 0) (b : Bool) (p : Plain A) → ((m : ℕ) (a : A) → Q m m (Ok a)) → Counts Q p → Counts Q (cached b cache key now p)
  cached_counts Q b p each h = record { counts = λ k l m n c r run. by_run k l m n c r (cached_run b p k l m n c r run) } where
    by_run : (k l : Kept) (m n : ℕ) (c : List Exchange) (r : Result A SigstoreError) → IsKnown k m c n l r ⊎ IsMade b p k m c n l r → Q m n r
    by_run k l m n c r (inl g) = known_counts Q k l m n c r each g
    by_run k l m n c r (inr g) = h.counts k.0 l.0 m n c r g.runs

  -- ---- where credentials are sent

  pub cached_confines : (x : Entry) (s : Settings) (b : Bool) (p : Plain A) → ConfinesBy Alone x s p → ConfinesBy Beside x s (cached b cache key now p)
  unfolding recalled keeping bind
  cached_confines x s false p h = confines_lifted x s p h
  cached_confines x s true p h = confines_recall Beside x s (λ k. known_or cache key now p (known cache key now k.1)) (λ k. by_known (known cache key now k.1)) where
    by_answer : (r : Result A SigstoreError) → ConfinesBy Beside x s (unless_refused given r)
    by_answer (Ok a) = confines_kept x s (option_map (keep (entry key now (cache.kept_as a)))) (Done (Ok a)) (confines_done Beside x s (Ok a))
    by_answer (Err e) = confines_done Beside x s (Err e)

    by_known : (o : Option A) → ConfinesBy Beside x s (known_or cache key now p o)
    by_known (Some a) = confines_done Beside x s (Ok a)
    by_known None = confines_bind Beside x s (lifted p) (unless_refused given) (confines_lifted x s p h) by_answer
