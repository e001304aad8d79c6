-- What the sinks of one blob after another took.
use Rattle.std.proofs.Common.{◌≡◌, ◌≤◌, ℕ, true, false, inl, inr, List, [], ◌∷◌, ◌++◌, Option, Some, None, Result, Ok, Err, length, length-append, refl, sym, ap, subst, ◌∙◌, append_assoc, append-nil, arith}
use Rattle.json_values.specs.Counts.{Increased}
use Rattle.byte_streams.specs.SinkState.{SinkState, Adds}
use Rattle.oci_transport.specs.Link.{Link}
use Rattle.oci_transport.specs.declared.message.Exchange.{Exchange}
use Rattle.oci_manifests.specs.declared.descriptor.OciDescriptor.{OciDescriptor}
use Rattle.oci_protocol.specs.Runs.{Told}
use Rattle.oci_protocol.proofs.Conversations.{Extends-more, Extends-none}
use Rattle.engine_terms.specs.declared.error.OciDistributionError.{OciDistributionError}
use Rattle.engine_rows.specs.Answered.{Body}
use Rattle.engine_rows.specs.Blobs.{IsPrefix}
use Rattle.request_laws.proofs.DocumentAnswers.{body_after}
use Rattle.call_laws.specs.Cut.{size_of}
use Rattle.call_laws.specs.Taken.{IsBlobOf}
use Rattle.image_blobs.specs.SinksState.{Closed, SinksState, Closes, closing}
use Rattle.image_blobs.specs.Taken.{AddsWithin, IsPrefixOfBody, IsPrefixOrNone, Stands, Falls, EachStands, MayFall, TookAll, TookSome, TookBlobs}

-- ---- exchanges before and after

body_before : (c d : List Exchange) {bytes : List ℕ} → Body c bytes → Body (c ++ d) bytes
body_before c d b = record { before = b.before; exchange = b.exchange; after = b.after ++ d; split = ap (λ (e : List Exchange). e ++ d) b.split ∙ append_assoc b.before (b.exchange ∷ b.after) d; answer = b.answer; answered = b.answered; body = b.body }

blob_before : (c d : List Exchange) (x : OciDescriptor) (bytes : List ℕ) → IsBlobOf c x bytes → IsBlobOf (c ++ d) x bytes
blob_before c d x bytes h = record { names = h.names; within = h.within; body = body_before c d h.body }

blob_after : (c d : List Exchange) (x : OciDescriptor) (bytes : List ℕ) → IsBlobOf d x bytes → IsBlobOf (c ++ d) x bytes
blob_after c d x bytes h = record { names = h.names; within = h.within; body = body_after c h.body }

front_after : (c d : List Exchange) (bytes : List ℕ) → IsPrefixOrNone d bytes → IsPrefixOrNone (c ++ d) bytes
front_after c d bytes (inl none) = inl none
front_after c d bytes (inr h) = inr (record { whole = h.whole; left = h.left; body = body_after c h.body; split = h.split })

front_of : (c : List Exchange) (bytes : List ℕ) → IsPrefix bytes c → IsPrefixOrNone c bytes
front_of c bytes (inl none) = inl none
front_of c bytes (inr h) = inr (record { whole = h.answer.body; left = h.left; body = record { before = h.before; exchange = h.last; after = []; split = h.split; answer = h.answer; answered = h.answered; body = refl }; split = h.body })

stands_before : (fresh : SinkState) (c d : List Exchange) (xs : List OciDescriptor) (zs : List Closed) → EachStands fresh c xs zs → EachStands fresh (c ++ d) xs zs
stands_before fresh c d [] [] h = tt
stands_before fresh c d (x ∷ xs) (z ∷ zs) h = (record { digest = h.0.digest; stood = h.0.stood; bytes = h.0.bytes; took = h.0.took; blob = blob_before c d x h.0.bytes h.0.blob }, stands_before fresh c d xs zs h.1)
stands_before fresh c d [] (z ∷ zs) h = absurd h
stands_before fresh c d (x ∷ xs) [] h = absurd h

stands_after : (fresh : SinkState) (c d : List Exchange) (xs : List OciDescriptor) (zs : List Closed) → EachStands fresh d xs zs → EachStands fresh (c ++ d) xs zs
stands_after fresh c d [] [] h = tt
stands_after fresh c d (x ∷ xs) (z ∷ zs) h = (record { digest = h.0.digest; stood = h.0.stood; bytes = h.0.bytes; took = h.0.took; blob = blob_after c d x h.0.bytes h.0.blob }, stands_after fresh c d xs zs h.1)
stands_after fresh c d [] (z ∷ zs) h = absurd h
stands_after fresh c d (x ∷ xs) [] h = absurd h

stands_both : (fresh : SinkState) (c : List Exchange) (xs ys : List OciDescriptor) (zs ws : List Closed) → EachStands fresh c xs zs → EachStands fresh c ys ws → EachStands fresh c (xs ++ ys) (zs ++ ws)
stands_both fresh c [] ys [] ws first second = second
stands_both fresh c (x ∷ xs) ys (z ∷ zs) ws first second = (first.0, stands_both fresh c xs ys zs ws first.1 second)
stands_both fresh c [] ys (z ∷ zs) ws first second = absurd first
stands_both fresh c (x ∷ xs) ys [] ws first second = absurd first

falls_after : (fresh : SinkState) (c d : List Exchange) (xs : List OciDescriptor) (zs : List Closed) → MayFall fresh d xs zs → MayFall fresh (c ++ d) xs zs
falls_after fresh c d [] [] h = tt
falls_after fresh c d (x ∷ xs) [] h = tt
falls_after fresh c d (x ∷ xs) (z ∷ []) h = record { digest = h.digest; stood = h.stood; bytes = h.bytes; took = h.took; within = h.within; front = front_after c d h.bytes h.front }
falls_after fresh c d [] (z ∷ zs) h = absurd h
falls_after fresh c d (x ∷ xs) (z ∷ (w ∷ zs)) h = absurd h

falls_more : (fresh : SinkState) (c : List Exchange) (xs ys : List OciDescriptor) (zs : List Closed) → MayFall fresh c xs zs → MayFall fresh c (xs ++ ys) zs
falls_more fresh c xs ys [] h = falls_none fresh c (xs ++ ys) where
  falls_none : (fresh : SinkState) (c : List Exchange) (xs : List OciDescriptor) → MayFall fresh c xs []
  falls_none fresh c [] = tt
  falls_none fresh c (x ∷ xs) = tt
falls_more fresh c (x ∷ xs) ys (z ∷ []) h = h
falls_more fresh c [] ys (z ∷ zs) h = absurd h
falls_more fresh c (x ∷ xs) ys (z ∷ (w ∷ zs)) h = absurd h

-- ---- what was exposed of two steps

told_both : {P Q R : List Exchange → Type 0} {a b d : Link} → ((x y : List Exchange) → P x → Q y → R (x ++ y)) → Told P a b → Told Q b d → Told R a d
told_both {a = a} {b = b} {d = d} both p q = record { conversation = p.conversation ++ q.conversation; told = Extends-more a b d p.conversation q.conversation p.told q.told; holds = both p.conversation q.conversation p.holds q.holds }

told_as : {P Q : List Exchange → Type 0} {a b : Link} → ((x : List Exchange) → P x → Q x) → Told P a b → Told Q a b
told_as more p = record { conversation = p.conversation; told = p.told; holds = more p.conversation p.holds }

pub closes_none : (s : SinksState) → Closes [] s s
closes_none s = record { closed = λ before is. is ∙ ap Some (sym (append-nil before)) }

pub closes_more : (xs ys : List Closed) (a b c : SinksState) → Closes xs a b → Closes ys b c → Closes (xs ++ ys) a c
closes_more xs ys a b c first second = record { closed = λ before is. second.closed (before ++ xs) (first.closed before is) ∙ ap Some (append_assoc before xs ys) }

-- ---- one blob

-- its sink has it
pub took_one : (fresh sink : SinkState) (x : OciDescriptor) (bytes : List ℕ) {old new : Link} {before after : SinksState} → Closes (closing x.digest sink true ∷ []) before after → Adds bytes fresh sink → Told (λ c. IsBlobOf c x bytes) old new → TookAll fresh (x ∷ []) old new before after
took_one fresh sink x bytes closes adds told = record { closed = closing x.digest sink true ∷ []; closes = closes; stand = told_as (λ c h. (record { digest = refl; stood = refl; bytes = bytes; took = adds; blob = h }, tt)) told }

-- its sink has it, and the sinks refuse
pub took_refused : (fresh sink : SinkState) (x : OciDescriptor) (bytes : List ℕ) {old new : Link} {before after : SinksState} → Closes (closing x.digest sink true ∷ []) before after → Adds bytes fresh sink → Told (λ c. IsBlobOf c x bytes) old new → TookSome fresh (x ∷ []) old new before after
took_refused fresh sink x bytes closes adds told = record { done = x ∷ []; rest = []; split = refl; closed = closing x.digest sink true ∷ []; last = []; closes = closes; stand = told_as (λ c h. ((record { digest = refl; stood = refl; bytes = bytes; took = adds; blob = h }, tt), tt)) told }

-- its sink has a prefix of a body
fell : (fresh sink : SinkState) (x : OciDescriptor) (bytes : List ℕ) {old new : Link} {before after : SinksState} → Closes (closing x.digest sink false ∷ []) before after → Adds bytes fresh sink → length bytes ≤ size_of x → Told (IsPrefix bytes) old new → TookSome fresh (x ∷ []) old new before after
fell fresh sink x bytes closes adds within told = record { done = []; rest = x ∷ []; split = refl; closed = []; last = closing x.digest sink false ∷ []; closes = closes; stand = told_as (λ c h. (tt, record { digest = refl; stood = refl; bytes = bytes; took = adds; within = within; front = front_of c bytes h })) told }

-- lists with the same bytes before them are as long as one another
as_long : (before xs ys : List ℕ) {taken : Option (List ℕ)} → taken ≡ Some (before ++ xs) → taken ≡ Some (before ++ ys) → length ys ≡ length xs
as_long before xs ys first second = let same : before ++ ys ≡ before ++ xs = cc (first, second) in omega (arith, sym (length-append before ys) ∙ ap length same ∙ length-append before xs)

-- it has at most as many bytes as the descriptor states: those of the prefix, if the sink exposes its bytes
pub took_front : (fresh sink : SinkState) (x : OciDescriptor) (bytes : List ℕ) {old new : Link} {before after : SinksState} → Closes (closing x.digest sink false ∷ []) before after → Adds bytes fresh sink → AddsWithin (size_of x) fresh sink → Told (IsPrefix bytes) old new → TookSome fresh (x ∷ []) old new before after
took_front fresh sink x bytes {old} {new} {before} {after} closes adds within told = by_exposed fresh.taken refl where
  by_exposed : (o : Option (List ℕ)) → fresh.taken ≡ o → TookSome fresh (x ∷ []) old new before after
  by_exposed None is = fell fresh sink x [] closes (record { took = λ had h. absurd (cc (is, h)) }) (omega arith) (told_as (λ c h. inl refl) told)
  by_exposed (Some had) is = fell fresh sink x bytes closes adds (rw (as_long had within.bytes bytes (within.added.took had is) (adds.took had is)) within.within) told

-- no sink was opened
pub took_nothing : (fresh : SinkState) (xs : List OciDescriptor) {old new : Link} {before after : SinksState} → Closes [] before after → Told (λ c. Unit {0}) old new → TookSome fresh xs old new before after
took_nothing fresh xs closes told = record { done = []; rest = xs; split = refl; closed = []; last = []; closes = closes; stand = told_as (λ c h. (tt, none c xs)) told } where
  none : (c : List Exchange) (xs : List OciDescriptor) → MayFall fresh c xs []
  none c [] = tt
  none c (x ∷ xs) = tt

pub told_nothing : (link : Link) → Told (λ c. Unit {0}) link link
told_nothing link = record { conversation = []; told = Extends-none link; holds = tt }

-- ---- one after another

pub took_none : (fresh : SinkState) (link : Link) (s : SinksState) → TookAll fresh [] link link s s
took_none fresh link s = record { closed = []; closes = closes_none s; stand = record { conversation = []; told = Extends-none link; holds = tt } }

pub took_next : (fresh : SinkState) (xs ys : List OciDescriptor) (a b d : Link) (s t u : SinksState) → TookAll fresh xs a b s t → TookAll fresh ys b d t u → TookAll fresh (xs ++ ys) a d s u
took_next fresh xs ys a b d s t u first second = record {
  closed = first.closed ++ second.closed;
  closes = closes_more first.closed second.closed s t u first.closes second.closes;
  stand = told_both (λ c e p q. stands_both fresh (c ++ e) xs ys first.closed second.closed (stands_before fresh c e xs first.closed p) (stands_after fresh c e ys second.closed q)) first.stand second.stand;
}

pub took_stops : (fresh : SinkState) (xs ys zs : List OciDescriptor) (a b d : Link) (s t u : SinksState) → TookAll fresh xs a b s t → TookSome fresh ys b d t u → TookSome fresh (xs ++ (ys ++ zs)) a d s u
took_stops fresh xs ys zs a b d s t u first second = record {
  done = xs ++ second.done;
  rest = second.rest ++ zs;
  split = ap (λ (y : List OciDescriptor). xs ++ (y ++ zs)) second.split ∙ (ap (λ (y : List OciDescriptor). xs ++ y) (append_assoc second.done second.rest zs) ∙ sym (append_assoc xs second.done (second.rest ++ zs)));
  closed = first.closed ++ second.closed;
  last = second.last;
  closes = rw append_assoc (closes_more first.closed (second.closed ++ second.last) s t u first.closes second.closes);
  stand = told_both (λ c e p q. (stands_both fresh (c ++ e) xs second.done first.closed second.closed (stands_before fresh c e xs first.closed p) (stands_after fresh c e second.done second.closed q.0), falls_more fresh (c ++ e) second.rest zs second.last (falls_after fresh c e second.rest second.last q.1))) first.stand second.stand;
}

-- a step before the first blob
pub took_after : (fresh : SinkState) (xs : List OciDescriptor) (a b d : Link) (s t : SinksState) (r : Result Unit OciDistributionError) → Told (λ c. Unit {0}) a b → TookBlobs fresh xs b d s t r → TookBlobs fresh xs a d s t r
took_after fresh xs a b d s t (Ok u) told took = record { closed = took.closed; closes = took.closes; stand = told_both (λ c e p q. stands_after fresh c e xs took.closed q) told took.stand }
took_after fresh xs a b d s t (Err e) told took = record { done = took.done; rest = took.rest; split = took.split; closed = took.closed; last = took.last; closes = took.closes; stand = told_both (λ c e p q. (stands_after fresh c e took.done took.closed q.0, falls_after fresh c e took.rest took.last q.1)) told took.stand }

-- ---- counts

pub rises : {a b c : ℕ} → a ≤ b → Increased b c → Increased a c
rises le rose = omega (arith, le, rose)

pub stays : {a b c : ℕ} → a ≤ b → b ≤ c → a ≤ c
stays first second = omega (arith, first, second)
