-- Responses over all calls of a client: each comes from a call that was made in full.
use Rattle.std.proofs.Common.{◌≡◌, ◌<◌, ◌≤◌, ◌-◌, inl, inr, ◌⊎◌, ℕ, Bool, true, false, List, [], ◌∷◌, ◌++◌, Option, Some, None, Result, Ok, Err, refl, sym, ◌∙◌, ap, append-nil, subst, arith}
use Rattle.std.specs.Prelude.{if◌then◌else◌, cond, not, ◌&&◌, nat_le, nat_lt, bytes_eq, find, filter, option_map, option_and_then, IsErr, MatchBool}
use Rattle.std.specs.Bool.{Decides}
use Rattle.std.proofs.lemmas.Bool.{leb-true, ltb-true}
use Rattle.std.proofs.lemmas.Slice.Eq.{bytes_eq-Decides}
use Rattle.oci_transport.specs.declared.message.Exchange.{Exchange}
use Rattle.oci_transport.specs.Link.{Link, Extends}
use Rattle.oci_names.specs.declared.reference.Reference.{Reference}
use Rattle.oci_names.specs.Reference.{reads_back, reference_of, whole_text}
use Rattle.oci_names.proofs.ReadsBack.{reads_back-means}
use Rattle.oci_auth.specs.declared.auth_state.AuthState.{AuthState}
use Rattle.oci_protocol.specs.Proto.{Proto, Done, bind, unless_refused, ◌>>=◌, ◌>>◌}
use Rattle.oci_protocol.specs.Lift.{lifted}
use Rattle.oci_protocol.specs.Runs.{Runs, Performs, PerformsPrefix, Outcome, Meets}
use Rattle.oci_protocol.proofs.Laws.{Runs-bind}
use Rattle.oci_protocol.proofs.WiderMemory.{Runs-unlifted}
use Rattle.oci_protocol.proofs.Parts.{Parts, Runs-parts}
use Rattle.engine_terms.specs.declared.settings.Settings.{Settings}
use Rattle.engine_terms.specs.Contexts.{Context, within}
use Rattle.registry_cache.proofs.Tells.{manifest_keys_tell, pull_keys_tell, referrers_keys_tell}
use Rattle.registry_cache.specs.Answers.{kind_of, same_kind, is_of, is_fresh, given_at, fresh, fits, within as within_bounds, keep, entry}
use Rattle.registry_cache.specs.declared.answer.Answer.{Answer}
use Rattle.registry_cache.specs.declared.answer.Kind.{Kind}
use Rattle.registry_cache.specs.declared.answer.Kind.TheVariants as kinds
use Rattle.registry_cache.specs.declared.answers.Answers.{Answers}
use Rattle.registry_cache.specs.declared.answers.Bounds.{Bounds}
use Rattle.registry_cache.specs.declared.answers.Entry.{Entry}
use Rattle.registry_calls.specs.declared.error.SigstoreError.{SigstoreError}
use Rattle.registry_calls.specs.Error.{is_memory}
use Rattle.registry_calls.specs.Clients.{Kept, Plain, Row, Client, ClientMeets, RefusalKeeps}
use Rattle.registry_calls.specs.Caching.{keeping, known_or, recalled, cached}
use Rattle.registry_cache.specs.Caching.{Cache, known}
use Rattle.registry_calls.specs.Log.{Call, DigestCall, ManifestCall, ImageCall, ReferrersCall, image_called, kind_called, key_called, answered, answering, call_made, LoggedCall, IsStep, AnyOf, IsOrigin, IsSource, HasSource, IsRun, EachBacked, IsBacked, place_of, IsLawful, Logged}

-- ---- cached responses

same_texts : (a b : List ℕ) → bytes_eq a b ≡ true → a ≡ b
same_texts a b h = by_test (bytes_eq a b) h (bytes_eq-Decides a b) where
  by_test : (r : Bool) → r ≡ true → Decides r (a ≡ b) → a ≡ b
  by_test true h d = d.0 refl
  by_test false h d = absurd (cc h)

both_true : (a b : Bool) → (a && b) ≡ true → (a ≡ true) × (b ≡ true)
both_true true true h = (refl, refl)
both_true true false h = absurd (cc h)
both_true false b h = absurd (cc h)

same_kinds : (a b : Kind) → same_kind a b ≡ true → a ≡ b
same_kinds kinds.Digests kinds.Digests h = refl
same_kinds kinds.Manifests kinds.Manifests h = refl
same_kinds kinds.Images kinds.Images h = refl
same_kinds kinds.Referrers kinds.Referrers h = refl
same_kinds _ _ h = absurd (cc h)

of_entry : (kind : Kind) (key : List ℕ) (e : Entry) → is_of kind key e ≡ true → (kind_of e.answer ≡ kind) × (e.key ≡ key)
of_entry kind key e h = let both = both_true (same_kind (kind_of e.answer) kind) (bytes_eq e.key key) h in (same_kinds (kind_of e.answer) kind both.0, same_texts e.key key both.1)

fresh_ages : (now since : ℕ) → is_fresh now since ≡ true → (since ≤ now) × (now - since < 60)
fresh_ages now since h = let both = both_true (nat_le since now) (nat_lt (now - since) 60) h in (leb-true since now both.0, ltb-true (now - since) 60 both.1)

-- an entry of this kind and key, with the call that backs it
abbrev Backs : Settings → Kind → List ℕ → Entry → List LoggedCall → Type 0
Backs s kind key e log = (kind_of e.answer ≡ kind) × (e.key ≡ key) × AnyOf (IsOrigin s e) log

found_backed : (s : Settings) (kind : Kind) (key : List ℕ) (es : List Entry) (e : Entry) (log : List LoggedCall) → find (is_of kind key) es ≡ Some e → EachBacked s es log → Backs s kind key e log
found_backed s kind key [] e log is h = absurd (cc is)
found_backed s kind key (x ∷ es) e log is h = by_test (is_of kind key x) refl is (λ later. found_backed s kind key es e log later h.1) where
  by_test : (b : Bool) → is_of kind key x ≡ b → cond b (Some x) (find (is_of kind key) es) ≡ Some e → (find (is_of kind key) es ≡ Some e → Backs s kind key e log) → Backs s kind key e log
  by_test true of is later = let same : x ≡ e = cc is in let at = of_entry kind key x of in subst (λ y. Backs s kind key y log) same (at.0, at.1, h.0)
  by_test false of is later = later is

-- ---- calls with equal keys are equal

same_image : (a b : Reference) → reads_back a ≡ true → reads_back b ≡ true → whole_text a ≡ whole_text b → a ≡ b
same_image a b first second same = let both : Ok a ≡ Ok b = sym (reads_back-means a first) ∙ ap reference_of same ∙ reads_back-means b second in cc both

-- calls of one kind and key are the same call, if their references round-trip
pub same_call : (p q : Call) → kind_called p ≡ kind_called q → key_called p ≡ key_called q → reads_back (image_called p) ≡ true → reads_back (image_called q) ≡ true → p ≡ q
same_call (DigestCall a x) (DigestCall b y) kind key first second = let told = (manifest_keys_tell a b x y).0 key in let image = same_image a b first second told.0 in let auth = told.1 in cc (image, auth)
same_call (ManifestCall a x) (ManifestCall b y) kind key first second = let told = (manifest_keys_tell a b x y).0 key in let image = same_image a b first second told.0 in let auth = told.1 in cc (image, auth)
same_call (ImageCall a x t) (ImageCall b y u) kind key first second = let told = (pull_keys_tell a b x y t u).0 key in let image = same_image a b first second told.0 in let auth = told.1 in let types = told.2 in cc (image, auth, types)
same_call (ReferrersCall a x t) (ReferrersCall b y u) kind key first second = let told = (referrers_keys_tell a b x y t u).0 key in let image = same_image a b first second told.0 in let auth = told.1 in let type = told.2 in cc (image, auth, type)
same_call _ _ kind key first second = absurd (cc kind)

-- a fresh origin is a source of the same call
sources : (s : Settings) (call : Call) (now : ℕ) (e : Entry) (answer : Answer) (log : List LoggedCall) → reads_back (image_called call) ≡ true → kind_of e.answer ≡ kind_called call → e.key ≡ key_called call → e.answer ≡ answer → e.moment ≤ now → now - e.moment < 60 → AnyOf (IsOrigin s e) log → AnyOf (IsSource s call now answer) log
sources s call now e answer [] reads kind key same early recent h = absurd h
sources s call now e answer (p ∷ log) reads kind key same early recent (inl h) = inl (record {
  call_is = same_call p.call call (h.kind_is ∙ kind) (h.key_is ∙ key) h.reads_back_is reads;
  answer_is = h.answer_is ∙ ap Ok same;
  step = h.step;
  early = rw h.moment_is early;
  recent = rw h.moment_is recent;
})
sources s call now e answer (p ∷ log) reads kind key same early recent (inr h) = inr (sources s call now e answer log reads kind key same early recent h)

-- how the responses of a call are stored and read again
pub record IsCache {A : Type 0} (cache : Cache A) : Type 0 where
  pub kind_is : (a : A) → kind_of (cache.kept_as a) ≡ cache.kind
  pub reads : (x : Answer) (a : A) → cache.read x ≡ Some a → x ≡ cache.kept_as a

-- a longer log has what a shorter log has
each_more : (s : Settings) (es : List Entry) (p : LoggedCall) (log : List LoggedCall) → EachBacked s es log → EachBacked s es (p ∷ log)
each_more s [] p log h = tt
each_more s (e ∷ es) p log h = (inr h.0, each_more s es p log h.1)

backed_more : (s : Settings) (k : Option Answers) (p : LoggedCall) (log : List LoggedCall) → IsBacked s k log → IsBacked s k (p ∷ log)
backed_more s None p log h = tt
backed_more s (Some answers) p log h = each_more s answers.entries p log h

each_filtered : (s : Settings) (test : Entry → Bool) (es : List Entry) (log : List LoggedCall) → EachBacked s es log → EachBacked s (filter test es) log
each_filtered s test [] log h = tt
each_filtered s test (e ∷ es) log h = by_test (test e) (each_filtered s test es log h.1) where
  by_test : (b : Bool) → EachBacked s (filter test es) log → EachBacked s (cond b (e ∷ filter test es) (filter test es)) log
  by_test true rest = (h.0, rest)
  by_test false rest = rest

each_joined : (s : Settings) (es : List Entry) (e : Entry) (log : List LoggedCall) → EachBacked s es log → AnyOf (IsOrigin s e) log → EachBacked s (es ++ e ∷ []) log
each_joined s [] e log h one = (one, tt)
each_joined s (x ∷ es) e log h one = (h.0, each_joined s es e log h.1 one)

each_within : (s : Settings) (bounds : Option Bounds) (es : List Entry) (log : List LoggedCall) → EachBacked s es log → EachBacked s (within_bounds bounds es) log
each_within s bounds [] log h = tt
each_within s bounds (e ∷ es) log h = by_test (fits bounds (e ∷ es)) (each_within s bounds es log h.1) where
  by_test : (b : Bool) → EachBacked s (within_bounds bounds es) log → EachBacked s (if b then e ∷ es else within_bounds bounds es) log
  by_test true rest = h
  by_test false rest = rest

module _ {A : Type 0} (s : Settings) (cache : Cache A) (law : IsCache cache) (call : Call) (now : ℕ) (kind_is : kind_called call ≡ cache.kind) (reads : reads_back (image_called call) ≡ true) where
  -- a known response has a source
  known_source : (k : Option Answers) (log : List LoggedCall) (a : A) → known cache (key_called call) now k ≡ Some a → IsBacked s k log → AnyOf (IsSource s call now (cache.kept_as a)) log
  known_source None log a is h = absurd (cc is)
  known_source (Some answers) log a is h = by_find (find (is_of cache.kind (key_called call)) answers.entries) refl is where
    by_age : (e : Entry) (b : Bool) → is_fresh now e.moment ≡ b → Backs s cache.kind (key_called call) e log → option_and_then cache.read (if b then Some e.answer else None) ≡ Some a → AnyOf (IsSource s call now (cache.kept_as a)) log
    by_age e true age at is = let ages = fresh_ages now e.moment age in sources s call now e (cache.kept_as a) log reads (at.0 ∙ sym kind_is) at.1 (law.reads e.answer a is) ages.0 ages.1 at.2
    by_age e false age at is = absurd (cc is)

    by_find : (o : Option Entry) → find (is_of cache.kind (key_called call)) answers.entries ≡ o → option_and_then cache.read (option_and_then (given_at now) o) ≡ Some a → AnyOf (IsSource s call now (cache.kept_as a)) log
    by_find None at is = absurd (cc is)
    by_find (Some e) at is = by_age e (is_fresh now e.moment) refl (found_backed s cache.kind (key_called call) answers.entries e log at h) is

  -- the cached response is backed by its call
  kept_backed : (k : Option Answers) (log : List LoggedCall) (a : A) (p : LoggedCall) → IsOrigin s (entry (key_called call) now (cache.kept_as a)) p → IsBacked s k log → IsBacked s (option_map (keep (entry (key_called call) now (cache.kept_as a))) k) (p ∷ log)
  kept_backed None log a p origin h = tt
  kept_backed (Some answers) log a p origin h =
      let e : Entry = entry (key_called call) now (cache.kept_as a) in
      let others : List Entry = filter (λ other. not (is_of (kind_of e.answer) e.key other)) answers.entries in
      each_within s answers.bounds (others ++ e ∷ []) (p ∷ log) (each_joined s others e (p ∷ log) (each_filtered s (λ other. not (is_of (kind_of e.answer) e.key other)) answers.entries (p ∷ log) (each_more s answers.entries p log h)) (inl origin))

-- ---- runs

-- what the run of a call caches, returns and sends, if no response was known
record Afresh {A : Type 0} (keeps : A → Option Answers → Option Answers) (p : Plain A) (k : Kept) (m : ℕ) (c : List Exchange) (n : ℕ) (l : Kept) (r : Result A SigstoreError) : Type 0 where
  runs : Runs p k.0 m c n l.0 r
  kept : (a : A) → r ≡ Ok a → l.1 ≡ keeps a k.1
  refused : (e : SigstoreError) → r ≡ Err e → l.1 ≡ k.1

done_run : {K A : Type 0} (x : A) (k : K) (m : ℕ) (c : List Exchange) (n : ℕ) (l : K) (r : A) → Runs (Done x) k m c n l r → (c ≡ []) × (m ≡ n) × (k ≡ l) × (x ≡ r)
unfolding Runs
done_run x k m [] n l r run = (refl, run.0, run.1, run.2)
done_run x k m (e ∷ c) n l r run = absurd run

module _ {A : Type 0} (cache : Cache A) (key : List ℕ) (now : ℕ) (p : Plain A) where
  keeps : A → Option Answers → Option Answers
  keeps a x = option_map (keep (entry key now (cache.kept_as a))) x

  kept_run : (a : A) (k : Kept) (m : ℕ) (c : List Exchange) (n : ℕ) (l : Kept) (r : Result A SigstoreError) → Runs (keeping cache key now a >> Done (Ok a)) k m c n l r → (c ≡ []) × (m ≡ n) × ((k.0, keeps a k.1) ≡ l) × (Ok a ≡ r)
  unfolding Runs keeping bind keeps
  kept_run a k m [] n l r run = (refl, run.0, run.1, run.2)
  kept_run a k m (e ∷ c) n l r run = absurd run

  join : (k b l : Kept) (m n o : ℕ) (c d e : List Exchange) (a : A) (r : Result A SigstoreError) → Runs (lifted p) k m c n b (Ok a) → e ≡ c ++ d → (d ≡ []) × (n ≡ o) × ((b.0, keeps a b.1) ≡ l) × (Ok a ≡ r) → Afresh keeps p k m e o l r
  join k b l m n o c d e a r first is second =
      let whole : e ≡ c = is ∙ ap (λ d. c ++ d) second.0 ∙ append-nil c in
      let at : (b.0 ≡ l.0) × (keeps a b.1 ≡ l.1) = (ap (λ (k : Kept). k.0) second.2, ap (λ (k : Kept). k.1) second.2) in
      let plain = Runs-unlifted p k b m n c (Ok a) first in
      record {
        runs = rw (whole, ← at.0, ← second.1, ← second.3) plain.0;
        kept = λ x got. let same : a ≡ x = cc (second.3, got) in sym at.1 ∙ (rw (same, plain.1) refl);
        refused = λ e got. absurd (cc (second.3, got));
      }

  join_err : (k b l : Kept) (m n o : ℕ) (c d e : List Exchange) (x : SigstoreError) (r : Result A SigstoreError) → Runs (lifted p) k m c n b (Err x) → e ≡ c ++ d → (d ≡ []) × (n ≡ o) × (b ≡ l) × (Err x ≡ r) → Afresh keeps p k m e o l r
  join_err k b l m n o c d e x r first is second =
      let whole : e ≡ c = is ∙ ap (λ d. c ++ d) second.0 ∙ append-nil c in
      let at : (b.0 ≡ l.0) × (b.1 ≡ l.1) = (ap (λ (k : Kept). k.0) second.2, ap (λ (k : Kept). k.1) second.2) in
      let plain = Runs-unlifted p k b m n c (Err x) first in
      record {
        runs = rw (whole, ← at.0, ← second.1, ← second.3) plain.0;
        kept = λ y got. absurd (cc (second.3, got));
        refused = λ e got. sym at.1 ∙ sym plain.1;
      }

  then_kept : A → Row A
  then_kept answer = keeping cache key now answer >> Done (Ok answer)

  afresh : (k l : Kept) (m n : ℕ) (c : List Exchange) (r : Result A SigstoreError) → Runs (known_or cache key now p None) k m c n l r → Afresh keeps p k m c n l r
  unfolding then_kept
  afresh k l m n c r run = by_answer parts.answer parts.runs_first parts.runs_second where
    parts : Parts (lifted p) (unless_refused then_kept) k m c n l r
    parts = Runs-parts (lifted p) (unless_refused then_kept) k m c n l r run

    by_answer : (a : Result A SigstoreError) → Runs (lifted p) k m parts.first parts.count parts.between a → Runs (unless_refused then_kept a) parts.between parts.count parts.second n l r → Afresh keeps p k m c n l r
    by_answer (Ok a) first second = join k parts.between l m parts.count n parts.first parts.second c a r first parts.joined (kept_run a parts.between parts.count parts.second n l r second)
    by_answer (Err e) first second = join_err k parts.between l m parts.count n parts.first parts.second c e r first parts.joined (done_run (Err e) parts.between parts.count parts.second n l r second)

-- an uncached run is a run with its result as it is cached
run_answering : {A : Type 0} (cache : Cache A) (p : Plain A) (k l : AuthState) (m n : ℕ) (c : List Exchange) (r : Result A SigstoreError) → Runs p k m c n l r → Runs (answering cache p) k m c n l (answered cache r)
unfolding Runs
run_answering cache p k l m n c r run = let both = Runs-bind p (λ x. Done (answered cache x)) k l l m n n c [] r (answered cache r) run (refl, refl, refl) in rw append-nil at both

-- ---- the law

module _ {A : Type 0} (cache : Cache A) (law : IsCache cache) (call : Call) (now : ℕ) (row : Settings → Plain A) (kind_is : kind_called call ≡ cache.kind) (is_call : (s : Settings) → call_made (within s now) call ≡ answering cache (row s)) (s : Settings) where
  abbrev place : Kept → Kept → ℕ → List Exchange → ℕ → Result A SigstoreError → LoggedCall
  place k l m c n r = record { call = call; moment = now; entry = k.0; exit = l.0; before = m; conversation = c; after = n; answer = answered cache r }

  made_in_full : (k l : Kept) (m n : ℕ) (c : List Exchange) (r : Result A SigstoreError) → Runs (row s) k.0 m c n l.0 r → IsStep s (place k l m c n r)
  unfolding IsStep
  made_in_full k l m n c r run = rw (is_call s) (run_answering cache (row s) k.0 l.0 m n c r run)

  -- a call made in full is its own source
  ok_lawful : (k l : Kept) (m n : ℕ) (c : List Exchange) (a : A) (r : Result A SigstoreError) (log : List LoggedCall) → r ≡ Ok a → Runs (row s) k.0 m c n l.0 r → IsRun s log → IsBacked s l.1 (place k l m c n r ∷ log) → IsLawful s l.1 (place k l m c n r) log
  ok_lawful k l m n c a r log is run lawful backed = record {
    run = (λ answer got. inl (record { call_is = refl; answer_is = got; step = made_in_full k l m n c r run; early = omega arith; recent = omega arith }), lawful);
    backed = backed;
  }

  -- a call that was refused or cut short changes nothing
  pub err_lawful : (k l : Kept) (m n : ℕ) (c : List Exchange) (e : SigstoreError) (r : Result A SigstoreError) (log : List LoggedCall) → r ≡ Err e → l.1 ≡ k.1 → IsRun s log → IsBacked s k.1 log → IsLawful s l.1 (place k l m c n r) log
  err_lawful k l m n c e r log is same lawful backed = record {
    run = (λ answer got. absurd (cc (ap (answered cache) is, got)), lawful);
    backed = subst (λ (x : Option Answers). IsBacked s x (place k l m c n r ∷ log)) (sym same) (backed_more s k.1 (place k l m c n r) log backed);
  }

  -- a call that is not cached
  lifted_lawful : (k l : Kept) (m n : ℕ) (c : List Exchange) (r : Result A SigstoreError) (log : List LoggedCall) → Runs (lifted (row s)) k m c n l r → IsRun s log → IsBacked s k.1 log → IsLawful s l.1 (place k l m c n r) log
  lifted_lawful k l m n c r log run lawful backed = by_result r refl (Runs-unlifted (row s) k l m n c r run) where
    by_result : (x : Result A SigstoreError) → r ≡ x → Runs (row s) k.0 m c n l.0 r × (k.1 ≡ l.1) → IsLawful s l.1 (place k l m c n r) log
    by_result (Ok a) is h = ok_lawful k l m n c a r log is h.0 lawful (subst (λ (x : Option Answers). IsBacked s x (place k l m c n r ∷ log)) h.1 (backed_more s k.1 (place k l m c n r) log backed))
    by_result (Err e) is h = err_lawful k l m n c e r log is (sym h.1) lawful backed

  -- a call whose response is cached
  recalled_lawful : reads_back (image_called call) ≡ true → (k l : Kept) (m n : ℕ) (c : List Exchange) (r : Result A SigstoreError) (log : List LoggedCall) → Runs (recalled cache (key_called call) now (row s)) k m c n l r → IsRun s log → IsBacked s k.1 log → IsLawful s l.1 (place k l m c n r) log
  unfolding recalled Runs keeps
  recalled_lawful reads k l m n c r log run lawful backed = by_known (known cache (key_called call) now k.1) refl run where
    answered_before : (a : A) → known cache (key_called call) now k.1 ≡ Some a → (c ≡ []) × (m ≡ n) × (k ≡ l) × (Ok a ≡ r) → IsLawful s l.1 (place k l m c n r) log
    answered_before a is at = record {
      run = (
        λ answer got. let same : cache.kept_as a ≡ answer = cc (ap (answered cache) at.3, got) in
            inr (subst (λ x. AnyOf (IsSource s call now x) log) same (known_source s cache law call now kind_is reads k.1 log a is backed)),
        lawful,
      );
      backed = subst (λ (x : Option Answers). IsBacked s x (place k l m c n r ∷ log)) (ap (λ (k : Kept). k.1) at.2) (backed_more s k.1 (place k l m c n r) log backed);
    }

    by_result : (x : Result A SigstoreError) → r ≡ x → Afresh (keeps cache (key_called call) now (row s)) (row s) k m c n l r → IsLawful s l.1 (place k l m c n r) log
    by_result (Ok a) is h =
        let own : IsOrigin s (entry (key_called call) now (cache.kept_as a)) (place k l m c n r) = record { kind_is = kind_is ∙ sym (law.kind_is a); key_is = refl; reads_back_is = reads; moment_is = refl; answer_is = ap (answered cache) is; step = made_in_full k l m n c r h.runs } in
        ok_lawful k l m n c a r log is h.runs lawful (subst (λ (x : Option Answers). IsBacked s x (place k l m c n r ∷ log)) (sym (h.kept a is)) (kept_backed s cache law call now kind_is reads k.1 log a (place k l m c n r) own backed))
    by_result (Err e) is h = err_lawful k l m n c e r log is (h.refused e is) lawful backed

    by_known : (a : Option A) → known cache (key_called call) now k.1 ≡ a → Runs (known_or cache (key_called call) now (row s) a) k m c n l r → IsLawful s l.1 (place k l m c n r) log
    by_known (Some a) is run = answered_before a is (done_run (Ok a) k m c n l r run)
    by_known None is run = by_result r refl (afresh cache (key_called call) now (row s) k l m n c r run)

  cached_lawful : (b : Bool) → reads_back (image_called call) ≡ b → (k l : Kept) (m n : ℕ) (c : List Exchange) (r : Result A SigstoreError) (log : List LoggedCall) → Runs (cached b cache (key_called call) now (row s)) k m c n l r → IsRun s log → IsBacked s k.1 log → IsLawful s l.1 (place k l m c n r) log
  cached_lawful true reads k l m n c r log run = recalled_lawful reads k l m n c r log run
  cached_lawful false reads k l m n c r log run = lifted_lawful k l m n c r log run

  -- the log with any call of a client, whatever its result
  pub logged : {c d : Client} {old new : Link} {r : Result A SigstoreError} → ClientMeets is_memory s (cached (reads_back (image_called call)) cache (key_called call) now (row s)) c d old new r → RefusalKeeps c d r → Logged s cache call now c d old new r
  logged {c} {d} {old} {new} {r} made refused = record { logged = λ at log run backed. by_result r refl refused ((made.made at).1).outcome log run backed } where
    End : List LoggedCall → Type 0
    End log = (conversation : List Exchange) × Extends old new conversation × IsLawful s d.kept.1 (place_of call now c d old conversation new (answered cache r)) log

    performed : Performs (cached (reads_back (image_called call)) cache (key_called call) now (row s)) old new c.kept d.kept r → (log : List LoggedCall) → IsRun s log → IsBacked s c.kept.1 log → End log
    performed h log run backed = (h.conversation, h.told, cached_lawful (reads_back (image_called call)) refl c.kept d.kept old.faults new.faults h.conversation r log h.runs run backed)

    by_memory : (x : Bool) (e : SigstoreError) → r ≡ Err e → d.kept.1 ≡ c.kept.1 → MatchBool x (PerformsPrefix (cached (reads_back (image_called call)) cache (key_called call) now (row s)) old new c.kept d.kept) (Performs (cached (reads_back (image_called call)) cache (key_called call) now (row s)) old new c.kept d.kept (Err e)) → (log : List LoggedCall) → IsRun s log → IsBacked s c.kept.1 log → End log
    by_memory false e is same h log run backed = performed (rw is h) log run backed
    by_memory true e is same h log run backed = (h.conversation, h.told, err_lawful c.kept d.kept old.faults new.faults h.conversation e r log is same run backed)

    by_result : (x : Result A SigstoreError) → r ≡ x → RefusalKeeps c d x → Outcome is_memory (cached (reads_back (image_called call)) cache (key_called call) now (row s)) old new c.kept d.kept x → (log : List LoggedCall) → IsRun s log → IsBacked s c.kept.1 log → End log
    by_result (Ok a) is refused h log run backed = performed (rw is h) log run backed
    by_result (Err e) is refused h log run backed = by_memory (is_memory e) e is (refused refl) h log run backed
