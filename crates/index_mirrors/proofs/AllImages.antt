-- The images of an index, one after another.
use Rattle.std.proofs.Common.{◌≡◌, ◌<◌, ◌+◌, ℕ, List, [], ◌∷◌, ◌++◌, length, take, drop, get_or, Result, Ok, Err, refl, sym, subst}
use Rattle.std.specs.Result.{IsErrAnd}
use Rattle.std.proofs.lemmas.Result.{err_from_is_err_and}
use Rattle.cosign_layers.specs.Satisfying.{PolicyContext}
use Rattle.pull_mirror.proofs.Pushing.{around, next_item}
use Rattle.index_mirrors.specs.Courses.{AllMirrored, EntriesCourse, EntryCourse, Stage, StoppedAt, Target}
use Rattle.index_mirrors.specs.Terms.{Source}
use Rattle.index_mirrors.specs.declared.refusals.IndexRefusal.{IndexRefusal}

module _ {V : Type 0} {H : V → Type 0} (p : PolicyContext V H) (s : Source) (t : Target) where
  pub none_mirrored : (at : Stage) → AllMirrored p s t [] at at
  unfolding AllMirrored
  none_mirrored at = refl

  -- one more
  pub one_more : (entries : List (List ℕ)) (entry : List ℕ) (old mid new : Stage) → AllMirrored p s t entries old mid → EntryCourse p s t entry mid new (Ok tt) → AllMirrored p s t (entries ++ entry ∷ []) old new
  unfolding AllMirrored
  one_more [] entry old mid new before h = (new, subst (λ (x : Stage). EntryCourse p s t entry x new (Ok tt)) (sym before) h, refl)
  one_more (x ∷ entries) entry old mid new before h = (before.0, before.1, one_more entries entry before.0 mid new before.2 h)

  module _ (xs : List (List ℕ)) (i : ℕ) (x : List ℕ) (at : i < length xs) (is : x ≡ get_or xs i x) where
    pub next_mirrored : (old : Stage) {mid new : Stage} → AllMirrored p s t (take i xs) old mid → EntryCourse p s t x mid new (Ok tt) → AllMirrored p s t (take (i + 1) xs) old new
    next_mirrored old {mid} {new} before h = subst (λ (ys : List (List ℕ)). AllMirrored p s t ys old new) (sym (next_item xs i x at is)) (one_more (take i xs) x old mid new before h)

    pub next_stopped : {old mid new : Stage} (e : IndexRefusal) → AllMirrored p s t (take i xs) old mid → EntryCourse p s t x mid new (Err e) → StoppedAt p s t xs old new e
    next_stopped {mid = mid} e before h = record {
      made = take i xs;
      entry = x;
      left = drop (i + 1) xs;
      split = around xs i x at is;
      mid = mid;
      mirrored = before;
      stopped = h;
    }

  pub passed_stop : (entries : List (List ℕ)) (old new : Stage) (r : Result (Unit {0}) IndexRefusal) (e : IndexRefusal) → IsErrAnd r (λ x. x ≡ e) → StoppedAt p s t entries old new e → EntriesCourse p s t entries old new r
  passed_stop entries old new r e is h = let at = err_from_is_err_and r is in rw (at.1, at.2) h
