use Rattle.std.proofs.Common.{◌≡◌, ◌≤◌, ◌+◌, inl, inr, ℕ, suc, Bool, true, false, List, [], ◌∷◌, ◌++◌, Option, None, Result, Ok, Err, length, length-append, refl, subst, arith}
use Rattle.std.specs.Prelude.{MatchBool}
use Rattle.oci_transport.specs.Link.{Link, Answering, IsAtMost, AddsAtMost}
use Rattle.oci_protocol.proofs.Conversations.{Extends-more, Extends-none}
use Rattle.oci_transport.specs.declared.message.Request.{Request}
use Rattle.oci_transport.specs.declared.message.AnswerHead.{AnswerHead}
use Rattle.oci_transport.specs.declared.message.Exchange.{Exchange}
use Rattle.oci_protocol.specs.Proto.{Reading, Reply, Proto, Done, Ask, Recall, Keep, Consult, bind, unless_refused, ◌>>=◌}
use Rattle.oci_protocol.specs.Runs.{AddsExchange, Runs, RunsBy, RunPrefix, Performs, PerformsPrefix, Outcome, Meets}

-- a run of p and a run of what its result leads to are together a run of `bind p f`
pub Runs-bind : {K A B : Type 0} (p : Proto K A) (f : A → Proto K B) (k l j : K) (m n o : ℕ) (c d : List Exchange) (a : A) (b : B) → Runs p k m c n l a → Runs (f a) l n d o j b → Runs (bind p f) k m (c ++ d) o j b
unfolding Runs bind
Runs-bind (Done x) f k l j m n o [] d a b r s = rw (r.2, r.1, r.0) s
Runs-bind (Done x) f k l j m n o (e ∷ c) d a b r s = absurd r
Runs-bind (Ask request reading next) f k l j m n o [] d a b r s = absurd r
Runs-bind (Ask request reading next) f k l j m n o (e ∷ c) d a b r s = (r.0, r.1, r.2, Runs-bind (next r.1) f k l j r.0 n o c d a b r.3 s)
Runs-bind (Recall next) f k l j m n o c d a b r s = Runs-bind (next k) f k l j m n o c d a b r s
Runs-bind (Keep kept rest) f k l j m n o c d a b r s = Runs-bind rest f kept l j m n o c d a b r s
Runs-bind (Consult next) f k l j m n o c d a b r s = (r.0, Runs-bind (next r.0) f k l j m n o c d a b r.1 s)

-- the same for a transport that responds by t
pub RunsBy-bind : {K A B : Type 0} (t : Answering) (place : ℕ) (p : Proto K A) (f : A → Proto K B) (k l j : K) (m n o : ℕ) (c d : List Exchange) (a : A) (b : B) → RunsBy t place p k m c n l a → RunsBy t (place + length c) (f a) l n d o j b → RunsBy t place (bind p f) k m (c ++ d) o j b
unfolding RunsBy bind
RunsBy-bind t place (Done x) f k l j m n o [] d a b r s = rw (r.2, r.1, r.0) (subst (λ q. RunsBy t q (f a) l n d o j b) (omega arith) s)
RunsBy-bind t place (Done x) f k l j m n o (e ∷ c) d a b r s = absurd r
RunsBy-bind t place (Ask request reading next) f k l j m n o [] d a b r s = absurd r
RunsBy-bind t place (Ask request reading next) f k l j m n o (e ∷ c) d a b r s = (r.0, r.1, r.2, r.3, RunsBy-bind t (suc place) (next r.1) f k l j r.0 n o c d a b r.4 (subst (λ q. RunsBy t q (f a) l n d o j b) (omega arith) s))
RunsBy-bind t place (Recall next) f k l j m n o c d a b r s = RunsBy-bind t place (next k) f k l j m n o c d a b r s
RunsBy-bind t place (Keep kept rest) f k l j m n o c d a b r s = RunsBy-bind t place rest f kept l j m n o c d a b r s
RunsBy-bind t place (Consult next) f k l j m n o c d a b r s = (r.0, RunsBy-bind t place (next r.0) f k l j m n o c d a b r.1 s)

-- a run by t is a run
pub RunsBy-runs : {K A : Type 0} (t : Answering) (place : ℕ) (p : Proto K A) (k l : K) (m n : ℕ) (c : List Exchange) (a : A) → RunsBy t place p k m c n l a → Runs p k m c n l a
unfolding RunsBy Runs
RunsBy-runs t place (Done x) k l m n [] a r = r
RunsBy-runs t place (Done x) k l m n (e ∷ c) a r = absurd r
RunsBy-runs t place (Ask request reading next) k l m n [] a r = absurd r
RunsBy-runs t place (Ask request reading next) k l m n (e ∷ c) a r = (r.0, r.1, r.2, RunsBy-runs t (suc place) (next r.1) k l r.0 n c a r.4)
RunsBy-runs t place (Recall next) k l m n c a r = RunsBy-runs t place (next k) k l m n c a r
RunsBy-runs t place (Keep kept rest) k l m n c a r = RunsBy-runs t place rest kept l m n c a r
RunsBy-runs t place (Consult next) k l m n c a r = (r.0, RunsBy-runs t place (next r.0) k l m n c a r.1)

-- no request has been made yet
pub RunPrefix-start : {K A : Type 0} (p : Proto K A) (k : K) (m : ℕ) → RunPrefix p k m [] k
unfolding RunPrefix
RunPrefix-start (Done x) k m = refl
RunPrefix-start (Ask request reading next) k m = refl
RunPrefix-start (Recall next) k m = RunPrefix-start (next k) k m
RunPrefix-start (Keep kept rest) k m = inl (refl, refl)
RunPrefix-start (Consult next) k m = (None, RunPrefix-start (next None) k m)

-- a prefix of a run of the first part is a prefix of a run of both
pub RunPrefix-first : {K A B : Type 0} (p : Proto K A) (f : A → Proto K B) (k l : K) (m : ℕ) (c : List Exchange) → RunPrefix p k m c l → RunPrefix (bind p f) k m c l
unfolding RunPrefix bind
RunPrefix-first (Done x) f k l m [] s = rw (← s) (RunPrefix-start (f x) k m)
RunPrefix-first (Done x) f k l m (e ∷ c) s = absurd s
RunPrefix-first (Ask request reading next) f k l m [] s = s
RunPrefix-first (Ask request reading next) f k l m (e ∷ c) (inl s) = inl s
RunPrefix-first (Ask request reading next) f k l m (e ∷ c) (inr s) = inr (s.0, s.1, s.2, RunPrefix-first (next s.1) f k l s.0 c s.3)
RunPrefix-first (Recall next) f k l m c s = RunPrefix-first (next k) f k l m c s
RunPrefix-first (Keep kept rest) f k l m c (inl s) = inl s
RunPrefix-first (Keep kept rest) f k l m c (inr s) = inr (RunPrefix-first rest f kept l m c s)
RunPrefix-first (Consult next) f k l m c s = (s.0, RunPrefix-first (next s.0) f k l m c s.1)

-- a run of the first part and a prefix of what its result leads to are a prefix of a run of both
pub RunPrefix-second : {K A B : Type 0} (p : Proto K A) (f : A → Proto K B) (k l j : K) (m n : ℕ) (c d : List Exchange) (a : A) → Runs p k m c n l a → RunPrefix (f a) l n d j → RunPrefix (bind p f) k m (c ++ d) j
unfolding Runs RunPrefix bind
RunPrefix-second (Done x) f k l j m n [] d a r s = rw (r.2, r.1, r.0) s
RunPrefix-second (Done x) f k l j m n (e ∷ c) d a r s = absurd r
RunPrefix-second (Ask request reading next) f k l j m n [] d a r s = absurd r
RunPrefix-second (Ask request reading next) f k l j m n (e ∷ c) d a r s = inr (r.0, r.1, r.2, RunPrefix-second (next r.1) f k l j r.0 n c d a r.3 s)
RunPrefix-second (Recall next) f k l j m n c d a r s = RunPrefix-second (next k) f k l j m n c d a r s
RunPrefix-second (Keep kept rest) f k l j m n c d a r s = inr (RunPrefix-second rest f kept l j m n c d a r s)
RunPrefix-second (Consult next) f k l j m n c d a r s = (r.0, RunPrefix-second (next r.0) f k l j m n c d a r.1 s)

-- the fault count never decreases in a run
pub Runs-count : {K A : Type 0} (p : Proto K A) (k l : K) (m n : ℕ) (c : List Exchange) (a : A) → Runs p k m c n l a → m ≤ n
unfolding Runs
Runs-count (Done x) k l m n [] a r = omega (arith, r.0)
Runs-count (Done x) k l m n (e ∷ c) a r = absurd r
Runs-count (Ask request reading next) k l m n [] a r = absurd r
Runs-count (Ask request reading next) k l m n (e ∷ c) a r = omega (arith, r.2.count, Runs-count (next r.1) k l r.0 n c a r.3)
Runs-count (Recall next) k l m n c a r = Runs-count (next k) k l m n c a r
Runs-count (Keep kept rest) k l m n c a r = Runs-count rest kept l m n c a r
Runs-count (Consult next) k l m n c a r = Runs-count (next r.0) k l m n c a r.1

-- a protocol that makes no request
pub Performs-done : {K A : Type 0} (link : Link) (k : K) (a : A) → Performs (Done a) link link k k a
unfolding Runs RunsBy
Performs-done link k a = record { conversation = []; told = Extends-none link; runs = (refl, refl, refl); runs_by = λ t before by told. (refl, refl, refl) }

pub Performs-bind : {K A B : Type 0} {p : Proto K A} (f : A → Proto K B) {old mid new : Link} {k l j : K} {a : A} {b : B} → Performs p old mid k l a → Performs (f a) mid new l j b → Performs (bind p f) old new k j b
Performs-bind {p} f {old} {mid} {new} {k} {l} {j} {a} {b} first second = record {
  conversation = first.conversation ++ second.conversation;
  told = Extends-more old mid new first.conversation second.conversation first.told second.told;
  runs = Runs-bind p f k l j old.faults mid.faults new.faults first.conversation second.conversation a b first.runs second.runs;
  runs_by = λ t before by told.
      let behind = second.runs_by t (before ++ first.conversation) (first.told.stays.steady t by) (first.told.told before told) in
      RunsBy-bind t (length before) p f k l j old.faults mid.faults new.faults first.conversation second.conversation a b (first.runs_by t before by told)
      (subst (λ q. RunsBy t q (f a) l mid.faults second.conversation new.faults j b) (length-append before first.conversation) behind);
}

pub PerformsPrefix-start : {K A : Type 0} (p : Proto K A) (link : Link) (k : K) → PerformsPrefix p link link k k
PerformsPrefix-start p link k = record { conversation = []; told = Extends-none link; stops = RunPrefix-start p k link.faults; count = omega arith }

pub PerformsPrefix-first : {K A B : Type 0} {p : Proto K A} (f : A → Proto K B) {old new : Link} {k l : K} → PerformsPrefix p old new k l → PerformsPrefix (bind p f) old new k l
PerformsPrefix-first {p} f {old} {new} {k} {l} first = record {
  conversation = first.conversation;
  told = first.told;
  stops = RunPrefix-first p f k l old.faults first.conversation first.stops;
  count = first.count;
}

pub PerformsPrefix-second : {K A B : Type 0} {p : Proto K A} (f : A → Proto K B) {old mid new : Link} {k l j : K} {a : A} → Performs p old mid k l a → PerformsPrefix (f a) mid new l j → PerformsPrefix (bind p f) old new k j
PerformsPrefix-second {p} f {old} {mid} {new} {k} {l} {j} {a} first second = record {
  conversation = first.conversation ++ second.conversation;
  told = Extends-more old mid new first.conversation second.conversation first.told second.told;
  stops = RunPrefix-second p f k l j old.faults mid.faults first.conversation second.conversation a first.runs second.stops;
  count = omega (arith, Runs-count p k l old.faults mid.faults first.conversation a first.runs, second.count);
}

-- if each run of p extends to one of q, and each prefix likewise, then each outcome of p is one of q
pub outcome_by : {K A E : Type 0} (of_memory : E → Bool) (p : Proto K (Result A E)) (q : Proto K (Result A E)) (old mid new : Link) (k j l : K)
    → ((x : Result A E) → Performs p mid new j l x → Performs q old new k l x) → (PerformsPrefix p mid new j l → PerformsPrefix q old new k l)
    → (r : Result A E) → Outcome of_memory p mid new j l r → Outcome of_memory q old new k l r
outcome_by of_memory p q old mid new k j l performs breaks (Ok a) h = performs (Ok a) h
outcome_by {K} {A} {E} of_memory p q old mid new k j l performs breaks (Err e) h = refused (of_memory e) h where
  refused : (b : Bool) → MatchBool b (PerformsPrefix p mid new j l) (Performs p mid new j l (Err e)) → MatchBool b (PerformsPrefix q old new k l) (Performs q old new k l (Err e))
  refused true h = breaks h
  refused false h = performs (Err e) h

-- a step that returned `Ok`, and then what its result leads to
pub Meets-next : {K A B E : Type 0} {of_memory : E → Bool} {p : Proto K (Result A E)} (f : A → Proto K (Result B E)) {old mid new : Link} {k l j : K} {a : A} {r : Result B E}
    → Meets of_memory p old mid k l (Ok a) → Meets of_memory (f a) mid new l j r → Meets of_memory (p >>= f) old new k j r
Meets-next {of_memory} {p} f {old} {mid} {new} {k} {l} {j} {a} {r} first second = record {
  outcome = outcome_by of_memory (f a) (p >>= f) old mid new k l j (λ x h. Performs-bind (unless_refused f) first.outcome h) (λ h. PerformsPrefix-second (unless_refused f) first.outcome h) r second.outcome;
}

-- a step that returned an error, or ran out of memory, ends the whole call
pub Meets-refused : {K A B E : Type 0} {of_memory : E → Bool} {p : Proto K (Result A E)} (f : A → Proto K (Result B E)) {old new : Link} {k l : K} {e : E}
    → Meets of_memory p old new k l (Err e) → Meets of_memory (p >>= f) old new k l (Err e)
Meets-refused {K} {A} {B} {E} {of_memory} {p} f {old} {new} {k} {l} {e} first = record { outcome = refused (of_memory e) first.outcome } where
  refused : (b : Bool) → MatchBool b (PerformsPrefix p old new k l) (Performs p old new k l (Err e)) → MatchBool b (PerformsPrefix (p >>= f) old new k l) (Performs (p >>= f) old new k l (Err e))
  refused true h = PerformsPrefix-first (unless_refused f) h
  refused false h = Performs-bind (unless_refused f) h (Performs-done new l (Err e))

-- the result is already `Ok`
pub Meets-ok : {K A E : Type 0} (of_memory : E → Bool) (link : Link) (k : K) (a : A) → Meets of_memory (Done (Ok a)) link link k k (Ok a)
Meets-ok of_memory link k a = record { outcome = Performs-done link k (Ok a) }

-- the result is already an error
pub Meets-err : {K A E : Type 0} (of_memory : E → Bool) (link : Link) (k : K) (e : E) → of_memory e ≡ false → Meets {A = A} of_memory (Done (Err e)) link link k k (Err e)
Meets-err {K} {A} {E} of_memory link k e h = record { outcome = rw h (Performs-done link k (Err e)) }

-- memory ran out before a request was made
pub Meets-memory : {K A E : Type 0} (of_memory : E → Bool) (p : Proto K (Result A E)) (link : Link) (k : K) (e : E) → of_memory e ≡ true → Meets of_memory p link link k k (Err e)
Meets-memory of_memory p link k e h = record { outcome = rw h (PerformsPrefix-start p link k) }

performs-recall : {K A : Type 0} (next : K → Proto K A) {old new : Link} {k l : K} {x : A} → Performs (next k) old new k l x → Performs (Recall next) old new k l x
unfolding Runs RunsBy
performs-recall next h = record { conversation = h.conversation; told = h.told; runs = h.runs; runs_by = h.runs_by }

breaks-recall : {K A : Type 0} (next : K → Proto K A) {old new : Link} {k l : K} → PerformsPrefix (next k) old new k l → PerformsPrefix (Recall next) old new k l
unfolding RunPrefix
breaks-recall next h = record { conversation = h.conversation; told = h.told; stops = h.stops; count = h.count }

-- the client state is read
pub Meets-recall : {K A E : Type 0} {of_memory : E → Bool} (next : K → Proto K (Result A E)) {old new : Link} {k l : K} {r : Result A E} → Meets of_memory (next k) old new k l r → Meets of_memory (Recall next) old new k l r
Meets-recall {of_memory} next {old} {new} {k} {l} {r} rest = record {
  outcome = outcome_by of_memory (next k) (Recall next) old old new k k l (λ x h. performs-recall next h) (λ h. breaks-recall next h) r rest.outcome;
}

performs-keep : {K A : Type 0} (kept : K) (rest : Proto K A) {old new : Link} {k l : K} {x : A} → Performs rest old new kept l x → Performs (Keep kept rest) old new k l x
unfolding Runs RunsBy
performs-keep kept rest h = record { conversation = h.conversation; told = h.told; runs = h.runs; runs_by = h.runs_by }

breaks-keep : {K A : Type 0} (kept : K) (rest : Proto K A) {old new : Link} {k l : K} → PerformsPrefix rest old new kept l → PerformsPrefix (Keep kept rest) old new k l
unfolding RunPrefix
breaks-keep kept rest h = record { conversation = h.conversation; told = h.told; stops = inr h.stops; count = h.count }

-- the client state is replaced
pub Meets-keep : {K A E : Type 0} {of_memory : E → Bool} (kept : K) (rest : Proto K (Result A E)) {old new : Link} {k l : K} {r : Result A E} → Meets of_memory rest old new kept l r → Meets of_memory (Keep kept rest) old new k l r
Meets-keep {of_memory} kept rest {old} {new} {k} {l} {r} met = record {
  outcome = outcome_by of_memory rest (Keep kept rest) old old new k kept l (λ x h. performs-keep kept rest h) (λ h. breaks-keep kept rest h) r met.outcome;
}

performs-consult : {K A : Type 0} (next : Option (List ℕ) → Proto K A) (said : Option (List ℕ)) {old new : Link} {k l : K} {x : A} → Performs (next said) old new k l x → Performs (Consult next) old new k l x
unfolding Runs RunsBy
performs-consult next said h = record { conversation = h.conversation; told = h.told; runs = (said, h.runs); runs_by = λ t before by told. (said, h.runs_by t before by told) }

breaks-consult : {K A : Type 0} (next : Option (List ℕ) → Proto K A) (said : Option (List ℕ)) {old new : Link} {k l : K} → PerformsPrefix (next said) old new k l → PerformsPrefix (Consult next) old new k l
unfolding RunPrefix
breaks-consult next said h = record { conversation = h.conversation; told = h.told; stops = (said, h.stops); count = h.count }

-- the external input is `said`
pub Meets-consult : {K A E : Type 0} {of_memory : E → Bool} (next : Option (List ℕ) → Proto K (Result A E)) (said : Option (List ℕ)) {old new : Link} {k l : K} {r : Result A E} → Meets of_memory (next said) old new k l r → Meets of_memory (Consult next) old new k l r
Meets-consult {of_memory} next said {old} {new} {k} {l} {r} rest = record {
  outcome = outcome_by of_memory (next said) (Consult next) old old new k k l (λ x h. performs-consult next said h) (λ h. breaks-consult next said h) r rest.outcome;
}

performs-ask : {K A : Type 0} {request : Request} {reading : AnswerHead → Reading} (next : Reply → Proto K A) {old mid new : Link} {k l : K} {reply : Reply} {x : A} → AddsExchange request reading old mid reply → Performs (next reply) mid new k l x → Performs (Ask request reading next) old new k l x
unfolding Runs RunsBy
performs-ask next {old} {mid} {new} {k} {l} {reply} {x} first h = record {
  conversation = first.exchange ∷ h.conversation;
  told = Extends-more old mid new (first.exchange ∷ []) h.conversation first.told h.told;
  runs = (mid.faults, reply, first.replies, h.runs);
  runs_by = λ t before by told.
      let behind = h.runs_by t (before ++ first.exchange ∷ []) (first.told.stays.steady t by) (first.told.told before told) in
      let place : length (before ++ first.exchange ∷ []) ≡ suc (length before) = omega (arith, length-append before (first.exchange ∷ [])) in
      (mid.faults, reply, first.replies, first.unbroken t before by told, subst (λ q. RunsBy t q (next reply) k mid.faults h.conversation new.faults l x) place behind);
}

breaks-ask : {K A : Type 0} {request : Request} {reading : AnswerHead → Reading} (next : Reply → Proto K A) {old mid new : Link} {k l : K} {reply : Reply} → AddsExchange request reading old mid reply → PerformsPrefix (next reply) mid new k l → PerformsPrefix (Ask request reading next) old new k l
unfolding RunPrefix
breaks-ask next {old} {mid} {new} {reply} first h = record {
  conversation = first.exchange ∷ h.conversation;
  told = Extends-more old mid new (first.exchange ∷ []) h.conversation first.told h.told;
  stops = inr (mid.faults, reply, first.replies, h.stops);
  count = omega (arith, first.replies.count, h.count);
}

-- a request got this reply, and then what the reply leads to
pub Meets-ask : {K A E : Type 0} {of_memory : E → Bool} {request : Request} {reading : AnswerHead → Reading} (next : Reply → Proto K (Result A E)) {old mid new : Link} {k l : K} {reply : Reply} {r : Result A E}
    → AddsExchange request reading old mid reply → Meets of_memory (next reply) mid new k l r → Meets of_memory (Ask request reading next) old new k l r
Meets-ask {of_memory} {request} {reading} next {old} {mid} {new} {k} {l} {reply} {r} first rest = record {
  outcome = outcome_by of_memory (next reply) (Ask request reading next) old mid new k k l (λ x h. performs-ask next first h) (λ h. breaks-ask next first h) r rest.outcome;
}

cut-stops : {K A : Type 0} (request : Request) (reading : AnswerHead → Reading) (next : Reply → Proto K A) (k : K) (m : ℕ) (c : List Exchange) → IsAtMost request m c → RunPrefix (Ask request reading next) k m c k
unfolding RunPrefix
cut-stops request reading next k m [] h = refl
cut-stops request reading next k m (e ∷ []) h = inl (h.0, h.1, refl, refl)
cut-stops request reading next k m (e ∷ f ∷ c) h = absurd h

-- memory ran out at a request
pub Meets-cut : {K A E : Type 0} (of_memory : E → Bool) (request : Request) (reading : AnswerHead → Reading) (next : Reply → Proto K (Result A E)) {old new : Link} (k : K) (e : E)
    → AddsAtMost request old new → old.faults ≤ new.faults → of_memory e ≡ true → Meets of_memory (Ask request reading next) old new k k (Err e)
Meets-cut of_memory request reading next {old} k e cut le h = record {
  outcome = rw h (record { conversation = cut.conversation; told = cut.added; stops = cut-stops request reading next k old.faults cut.conversation cut.most; count = le });
}

-- a step whose error is inspected, and then what the row computes from it
pub Meets-caught : {K A B E : Type 0} {of_memory : E → Bool} {p : Proto K A} (f : A → Proto K (Result B E)) {old mid new : Link} {k l j : K} {a : A} {r : Result B E}
    → Performs p old mid k l a → Meets of_memory (f a) mid new l j r → Meets of_memory (bind p f) old new k j r
Meets-caught {of_memory} {p} f {old} {mid} {new} {k} {l} {j} {a} {r} first second = record {
  outcome = outcome_by of_memory (f a) (bind p f) old mid new k l j (λ x h. Performs-bind f first h) (λ h. PerformsPrefix-second f first h) r second.outcome;
}
