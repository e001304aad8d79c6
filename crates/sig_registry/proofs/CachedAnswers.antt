-- The result of a call whose response may be cached.
use Rattle.std.proofs.Common.{◌≡◌, ℕ, Bool, true, false, List, Option, Some, None, Result, Ok, Err, refl, sym, ap, subst}
use Rattle.std.specs.Prelude.{option_map}
use Rattle.oci_transport.specs.Link.{Link}
use Rattle.oci_auth.specs.declared.auth_state.AuthState.{AuthState}
use Rattle.oci_protocol.specs.Proto.{Done, ◌>>=◌, ◌>>◌}
use Rattle.oci_protocol.specs.Lift.{lifted}
use Rattle.oci_protocol.specs.Runs.{Meets}
use Rattle.oci_protocol.proofs.Laws.{Meets-next, Meets-refused, Meets-ok, Meets-memory, Meets-recall, Meets-keep}
use Rattle.oci_protocol.proofs.WiderMemory.{Meets-lifted}
use Rattle.registry_cache.specs.Answers.{keep, entry}
use Rattle.registry_cache.specs.declared.answers.Answers.{Answers}
use Rattle.registry_calls.specs.declared.error.SigstoreError.{SigstoreError}
use Rattle.registry_calls.specs.declared.error.SigstoreError.TheVariants as refusal
use Rattle.registry_calls.specs.Error.{is_memory}
use Rattle.registry_calls.specs.Clients.{Kept, Plain, Row}
use Rattle.registry_calls.specs.Caching.{keeping, known_or, recalled, cached}
use Rattle.registry_cache.specs.Caching.{Cache, known}

-- memory ran out before anything was done
pub absent : {A : Type 0} {p : Row A} {link : Link} {k : Kept} → Meets is_memory p link link k k (Err refusal.WantOfMemory)
absent {p = p} {link = link} {k = k} = Meets-memory is_memory p link k refusal.WantOfMemory refl

module _ {A : Type 0} (cache : Cache A) (key : List ℕ) (now : ℕ) (p : Plain A) where
  -- what is cached with this response, if the client caches
  abbrev pub with_answer : A → Option Answers → Option Answers
  with_answer a x = option_map (keep (entry key now (cache.kept_as a))) x

  -- the response is cached
  keeps : {link : Link} {k : AuthState} {x : Option Answers} (a : A) → Meets is_memory (keeping cache key now a) link link (k, x) (k, with_answer a x) (Ok tt)
  unfolding keeping
  keeps {link} {k} {x} a = Meets-recall _ (Meets-keep (k, with_answer a x) (Done (Ok tt)) (Meets-ok is_memory link (k, with_answer a x) tt))

  then_kept : A → Row A
  then_kept answer = keeping cache key now answer >> Done (Ok answer)

  by_known : {old new : Link} {k : AuthState} {x : Option Answers} {l : Kept} {r : Result A SigstoreError} (a : Option A) → known cache key now x ≡ a
      → Meets is_memory (known_or cache key now p a) old new (k, x) l r → Meets is_memory (recalled cache key now p) old new (k, x) l r
  unfolding recalled
  by_known a is met = Meets-recall _ (rw is met)

  -- a fresh response was cached
  pub recall : {link : Link} {k : AuthState} {x : Option Answers} (a : A) → known cache key now x ≡ Some a → Meets is_memory (recalled cache key now p) link link (k, x) (k, x) (Ok a)
  recall {link} {k} {x} a is = by_known (Some a) is (Meets-ok is_memory link (k, x) a)

  -- the uncached call was refused, or was cut short
  pub not_given : {old new : Link} {k l : AuthState} {x : Option Answers} {e : SigstoreError} → known cache key now x ≡ None → Meets is_memory p old new k l (Err e) → Meets is_memory (recalled cache key now p) old new (k, x) (l, x) (Err e)
  unfolding then_kept
  not_given {x = x} is met = by_known None is (Meets-refused then_kept (Meets-lifted x met))

  -- memory ran out while caching the uncached call's response
  pub cut_after : {old new : Link} {k l : AuthState} {x : Option Answers} (a : A) → known cache key now x ≡ None
      → Meets is_memory p old new k l (Ok a) → Meets is_memory (recalled cache key now p) old new (k, x) (l, x) (Err refusal.WantOfMemory)
  unfolding then_kept
  cut_after {x = x} a is met = by_known None is (Meets-next then_kept (Meets-lifted x met) absent)

  -- the uncached call returned a response, which is cached
  pub given : {old new : Link} {k l : AuthState} {x : Option Answers} (a : A) → known cache key now x ≡ None
      → Meets is_memory p old new k l (Ok a) → Meets is_memory (recalled cache key now p) old new (k, x) (l, with_answer a x) (Ok a)
  unfolding then_kept
  given {new = new} {l = l} {x = x} a is met = by_known None is (Meets-next then_kept (Meets-lifted x met) (Meets-next (λ _. Done (Ok a)) (keeps a) (Meets-ok is_memory new (l, with_answer a x) a)))

  -- the reference round-trips
  pub reads : {old new : Link} {k l : Kept} {r : Result A SigstoreError} (b : Bool) → b ≡ true → Meets is_memory (recalled cache key now p) old new k l r → Meets is_memory (cached b cache key now p) old new k l r
  reads b is met = rw is met

  -- it does not
  pub unread : {old new : Link} {k l : AuthState} {x : Option Answers} {r : Result A SigstoreError} (b : Bool) → b ≡ false → Meets is_memory p old new k l r → Meets is_memory (cached b cache key now p) old new (k, x) (l, x) r
  unread {x = x} b is met = rw is (Meets-lifted x met)

  -- without a cache, it is the uncached call
  plainly_recalled : {old new : Link} {k l : AuthState} (r : Result A SigstoreError) → Meets is_memory p old new k l r → Meets is_memory (recalled cache key now p) old new (k, None) (l, None) r
  plainly_recalled (Ok a) met = given a refl met
  plainly_recalled (Err e) met = not_given refl met

  pub plainly : {old new : Link} {k l : AuthState} (b : Bool) (r : Result A SigstoreError) → Meets is_memory p old new k l r → Meets is_memory (cached b cache key now p) old new (k, None) (l, None) r
  plainly true r met = plainly_recalled r met
  plainly false r met = Meets-lifted None met
