-- Pushes one after another, and the one that is refused.
use Rattle.std.proofs.Common.{◌≡◌, ℕ, suc, ◌+◌, ◌<◌, Bool, true, false, List, [], ◌∷◌, ◌++◌, map, length, take, drop, get_or, Option, Some, None, Result, Ok, Err, refl, sym, ap, subst, ◌∙◌, append_assoc, append-nil, take-suc, take-append-drop, arith}
use native.Mathlib.Numerals.{unary_clauses}
use Rattle.oci_auth.specs.declared.auth_state.AuthState.{AuthState}
use Rattle.oci_names.specs.declared.reference.Reference.{Reference}
use Rattle.oci_protocol.specs.Proto.{◌>>=◌}
use Rattle.oci_protocol.specs.Runs.{Meets, Performs}
use Rattle.oci_protocol.proofs.Laws.{Meets-refused}
use Rattle.oci_transport.specs.Link.{Link}
use Rattle.engine_terms.specs.Contexts.{Context}
use Rattle.engine_terms.specs.Error.{is_memory}
use Rattle.engine_terms.specs.declared.error.OciDistributionError.{OciDistributionError}
use Rattle.engine_terms.specs.declared.error.OciDistributionError.TheVariants as refusal
use Rattle.oci_protocol.proofs.Exits.{and_then, done}
use Rattle.pull_mirror.specs.Copies.{push_row, all_pushed}
use Rattle.pull_mirror.specs.Pushes.{Push, push_digest, digests_of}
use Rattle.pull_mirror.specs.Stopped.{Stopped}
use Rattle.pull_mirror.specs.Underway.{Made}

-- ---- lists

pub next_item : {A : Type 0} (xs : List A) (i : ℕ) (x : A) → i < length xs → x ≡ get_or xs i x → take (i + 1) xs ≡ take i xs ++ x ∷ []
next_item xs i x h is = simp unary_clauses (take-suc xs i x h) ∙ ap (λ y. take i xs ++ y ∷ []) (sym is)

-- the item at an index, between those before it and those after it
pub around : {A : Type 0} (xs : List A) (i : ℕ) (x : A) → i < length xs → x ≡ get_or xs i x → xs ≡ take i xs ++ x ∷ drop (i + 1) xs
around xs i x h is =
    sym (take-append-drop (i + 1) xs)
    ∙ ap (λ ys. ys ++ drop (i + 1) xs) (next_item xs i x h is)
    ∙ append_assoc (take i xs) (x ∷ []) (drop (i + 1) xs)

pub mapped : {A B : Type 0} (f : A → B) (xs ys : List A) → map f (xs ++ ys) ≡ map f xs ++ map f ys
mapped f [] ys = refl
mapped f (x ∷ xs) ys = ap (λ zs. f x ∷ zs) (mapped f xs ys)

-- ---- pushes

module _ (s : Context) (target : Reference) where
  pub made_none : (link : Link) (k : AuthState) → Made s target [] link link k k
  made_none link k = record { met = λ rest new l r h. h }

  -- what is left after one more
  leads_on : {pushes : List Push} (p : Push) {old mid new : Link} {k j l : AuthState} {r : Result (Unit {0}) OciDistributionError} → Made s target pushes old mid k j → (rest : List Push)
      → Meets is_memory (push_row s target p >>= (λ url. all_pushed s target rest)) mid new j l r → Meets is_memory (all_pushed s target (pushes ++ p ∷ rest)) old new k l r
  unfolding all_pushed
  leads_on p {new = new} {l = l} {r = r} made rest h = made.met (p ∷ rest) new l r h

  pub made_next : {pushes : List Push} (p : Push) {old mid new : Link} {k j l : AuthState} {url : List ℕ} → Made s target pushes old mid k j → Meets is_memory (push_row s target p) mid new j l (Ok url) → Made s target (pushes ++ p ∷ []) old new k l
  made_next {pushes} p {old} {mid} {new} {k} {j} {l} {url} made met = record {
    met = λ rest end m r h. subst (λ ps. Meets is_memory (all_pushed s target ps) old end k m r) (sym (append_assoc pushes (p ∷ []) rest))
        (leads_on p made rest (and_then (λ url. all_pushed s target rest) met h));
  }

  pub made_all : {pushes : List Push} {old mid : Link} {k j : AuthState} → Made s target pushes old mid k j → Meets is_memory (all_pushed s target pushes) old mid k j (Ok tt)
  unfolding all_pushed
  made_all {pushes} {old} {mid} {k} {j} made = subst (λ ps. Meets is_memory (all_pushed s target ps) old mid k j (Ok tt)) (append-nil pushes) (made.met [] mid j (Ok tt) done)

  -- one was refused, or memory ran out
  pub ended_at : {pushes : List Push} (p : Push) {old mid new : Link} {k j l : AuthState} {e : OciDistributionError} → Made s target pushes old mid k j → Meets is_memory (push_row s target p) mid new j l (Err e)
      → (left : List Push) → Meets is_memory (all_pushed s target (pushes ++ p ∷ left)) old new k l (Err e)
  ended_at p made met left = leads_on p made left (Meets-refused (λ url. all_pushed s target left) met)

  pub stopped_at : {pushes : List Push} (p : Push) {old mid new : Link} {k j l : AuthState} {e : OciDistributionError} {digest : List ℕ} → Made s target pushes old mid k j → is_memory e ≡ false → digest ≡ push_digest p → Meets is_memory (push_row s target p) mid new j l (Err e)
      → (left : List Push) → Stopped s target (pushes ++ p ∷ left) old new k l digest e
  stopped_at {pushes} p {mid = mid} {j = j} made plain digest_is met left = record {
    made = pushes;
    push = p;
    left = left;
    split = refl;
    digest_is = digest_is;
    mid = mid;
    between = j;
    pushed = (made_all made).outcome;
    refused = rw plain at met.outcome;
  }

-- the same in a longer list
pub stopped_in : {s : Context} {target : Reference} {ps qs : List Push} {old new : Link} {k l : AuthState} {digest : List ℕ} {e : OciDistributionError} → ps ≡ qs → Stopped s target ps old new k l digest e → Stopped s target qs old new k l digest e
stopped_in {s} {target} {old = old} {new = new} {k = k} {l = l} {digest = digest} {e = e} is h = subst (λ ps. Stopped s target ps old new k l digest e) is h
