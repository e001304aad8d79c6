-- Each check either passes or rejects; so does a list of checks.
use Rattle.std.proofs.Common.{◌≡◌, ◌⊎◌, inl, inr, Bool, true, false, Option, Some, None, ok_or, Result, Ok, Err, refl, sym, ap, ◌∙◌, subst}
use Rattle.cosign_layers.specs.Checks.{unless}
use Rattle.std.specs.Prelude.{MatchBool}
use Rattle.std.specs.Result.{IsErrAnd}
use Rattle.json_values.specs.Refusals.{◌>>=◌, Matches}
use Rattle.cosign_layers.specs.Rejection.{is_memory}
use Rattle.cosign_layers.specs.declared.rejection.LayerRejection.{LayerRejection}
use Rattle.cosign_layers.specs.declared.rejection.LayerRejection.TheVariants.{WantOfMemory}

-- what a check returns if it passes, and why it rejects
pub record Decides {A : Type 0} (r : Result A LayerRejection) (Is : A → Type 0) (Rejects : LayerRejection → Type 0) : Type 0 where
  pub passes : (a : A) → Is a → r ≡ Ok a
  pub passed : (a : A) → r ≡ Ok a → Is a
  pub rejects : (x : LayerRejection) → Rejects x → r ≡ Err x
  pub rejected : (x : LayerRejection) → r ≡ Err x → Rejects x

-- a step before a result returned `Ok`
pub ok_before : {A B : Type 0} (r : Result A LayerRejection) (f : A → Result B LayerRejection) (b : B) → (r >>= f) ≡ Ok b → (a : A) × (r ≡ Ok a) × (f a ≡ Ok b)
ok_before (Ok a) f b e = (a, refl, e)
ok_before (Err x) f b e = cc

-- a rejection is that of a step, or of what comes after it
pub err_before : {A B : Type 0} (r : Result A LayerRejection) (f : A → Result B LayerRejection) (x : LayerRejection) → (r >>= f) ≡ Err x → (r ≡ Err x) ⊎ ((a : A) × (r ≡ Ok a) × (f a ≡ Err x))
err_before (Ok a) f x e = inr (a, refl, e)
err_before {A} (Err y) f x e = let same : y ≡ x = cc e in inl (ap (λ z. let r : Result A LayerRejection = Err z in r) same)

pub ok_same : {A : Type 0} (a b : A) → (let r : Result A LayerRejection = Ok a in r) ≡ Ok b → a ≡ b
ok_same a b e = cc

pub err_same : {A : Type 0} (x y : LayerRejection) → (let r : Result A LayerRejection = Err x in r) ≡ Err y → x ≡ y
err_same x y e = cc

pub ok_err : {A : Type 0} {P : Type 0} (a : A) (x : LayerRejection) → (let r : Result A LayerRejection = Ok a in r) ≡ Err x → P
ok_err a x e = cc

pub err_ok : {A : Type 0} {P : Type 0} (a : A) (x : LayerRejection) → (let r : Result A LayerRejection = Err x in r) ≡ Ok a → P
err_ok a x e = cc

-- a check, and then another one
pub both : {A B : Type 0} (r : Result A LayerRejection) (f : A → Result B LayerRejection) (Is : A → Type 0) (Rejects : LayerRejection → Type 0) (Next : A → B → Type 0) (RejectsNext : A → LayerRejection → Type 0)
    → Decides r Is Rejects → ((a : A) → Decides (f a) (Next a) (RejectsNext a))
    → Decides (r >>= f) (λ b. (a : A) × Is a × Next a b) (λ x. Rejects x ⊎ ((a : A) × Is a × RejectsNext a x))
both r f Is Rejects Next RejectsNext first next = record {
  passes = λ b h. ap (λ r. r >>= f) (first.passes h.0 h.1) ∙ (next h.0).passes b h.2;
  passed = λ b e.
      let before = ok_before r f b e in
      (before.0, first.passed before.0 before.1, (next before.0).passed b before.2);
  rejects = λ x h. elim h [
    | inl here ↦ ap (λ r. r >>= f) (first.rejects x here)
    | inr later ↦ ap (λ r. r >>= f) (first.passes later.0 later.1) ∙ (next later.0).rejects x later.2
  ];
  rejected = λ x e. elim (err_before r f x e) [
    | inl here ↦ inl (first.rejected x here)
    | inr later ↦ inr (later.0, first.passed later.0 later.1, (next later.0).rejected x later.2)
  ];
}

-- the same, with equivalent conditions
pub reworded : {A : Type 0} (r : Result A LayerRejection) (Is Is' : A → Type 0) (Rejects Rejects' : LayerRejection → Type 0)
    → ((a : A) → Is a → Is' a) → ((a : A) → Is' a → Is a)
    → ((x : LayerRejection) → Rejects x → Rejects' x) → ((x : LayerRejection) → Rejects' x → Rejects x)
    → Decides r Is Rejects → Decides r Is' Rejects'
reworded r Is Is' Rejects Rejects' there back why because d = record {
  passes = λ a h. d.passes a (back a h);
  passed = λ a e. there a (d.passed a e);
  rejects = λ x h. d.rejects x (because x h);
  rejected = λ x e. why x (d.rejected x e);
}

-- a test
pub tested : (x : LayerRejection) (b : Bool) → Decides (unless x b) (λ u. b ≡ true) (λ y. (b ≡ false) × (x ≡ y))
tested x true = record {
  passes = λ u h. refl;
  passed = λ u e. refl;
  rejects = λ y h. cc;
  rejected = λ y e. cc;
}
tested x false = record {
  passes = λ u h. cc;
  passed = λ u e. cc;
  rejects = λ y h. ap Err h.1;
  rejected = λ y e. (refl, err_same x y e);
}

-- a value that must be present
pub needed : {A : Type 0} (o : Option A) (x : LayerRejection) → Decides (ok_or o x) (λ a. o ≡ Some a) (λ y. (o ≡ None) × (x ≡ y))
needed None x = record {
  passes = λ a h. cc;
  passed = λ a e. cc;
  rejects = λ y h. ap Err h.1;
  rejected = λ y e. (refl, err_same x y e);
}
needed (Some b) x = record {
  passes = λ a h. cc;
  passed = λ a e. cc;
  rejects = λ y h. cc;
  rejected = λ y e. cc;
}

-- a returned value
pub answered : {A : Type 0} (b : A) → Decides (let r : Result A LayerRejection = Ok b in r) (λ a. b ≡ a) (λ y. ⊥)
answered b = record {
  passes = λ a h. ap Ok h;
  passed = λ a e. ok_same b a e;
  rejects = λ y h. absurd h;
  rejected = λ y e. ok_err b y e;
}

-- a rejection
pub refused : {A : Type 0} (x : LayerRejection) → Decides (let r : Result A LayerRejection = Err x in r) (λ a. ⊥) (λ y. x ≡ y)
refused x = record {
  passes = λ a h. absurd h;
  passed = λ a e. err_ok a x e;
  rejects = λ y h. ap Err h;
  rejected = λ y e. err_same x y e;
}

-- ---- steps of a function

refused_later : {A B : Type 0} (step : Result A LayerRejection) (f : A → Result B LayerRejection) (x : LayerRejection) (b : Bool) → MatchBool b (Unit {0}) (step ≡ Err x) → MatchBool b (Unit {0}) ((step >>= f) ≡ Err x)
refused_later step f x true h = tt
refused_later step f x false h = ap (λ s. s >>= f) h

-- a step that returned an error, at the exit of a `?`
pub stopped : {A B : Type 0} (step : Result A LayerRejection) (f : A → Result B LayerRejection) (x : LayerRejection) (r : Result B LayerRejection) → MatchBool (is_memory x) (Unit {0}) (step ≡ Err x) → IsErrAnd r (λ y. y ≡ x) → Matches is_memory r (step >>= f)
stopped step f x (Ok b) h is = absurd is
stopped step f x (Err y) h is = subst (λ z. MatchBool (is_memory z) (Unit {0}) ((step >>= f) ≡ Err z)) (sym is) (refused_later step f x (is_memory x) h)

-- memory ran out between two steps
pub wanting : {A : Type 0} (said r : Result A LayerRejection) → IsErrAnd r (λ y. y ≡ WantOfMemory) → Matches is_memory r said
wanting said (Ok a) is = absurd is
wanting said (Err y) is = subst (λ z. MatchBool (is_memory z) (Unit {0}) (said ≡ Err z)) (sym is) tt
