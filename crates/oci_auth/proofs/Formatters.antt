-- Output through a formatter whose options have no effect.
use Rattle.std.proofs.Common.{◌≡◌, ℕ, suc, List, [], ◌∷◌, ◌++◌, true, true≢false, Option, Some, Result, Ok, Err, codes, refl, sym, ap, subst, ◌∙◌, arith}
use Rattle.std.proofs.lemmas.Bool.Decides.{nat_tests}
use Rattle.std.proofs.lemmas.List.Folds.{concat-append}
use Rattle.std.specs.List.{FoldsTo, concat, list_all}
use Rattle.std.specs.Char.{is_ascii}
use Rattle.std.specs.Str.{IsAscii}
use Rattle.std.specs.Fmt.{IsFlush, HasWrittenStyled, WritesText, debug_str, ◌++?◌}
use Rattle.std.specs.Prelude.{OnOk}
use Rattle.std.specs.Result.{IsOk}
use Rattle.std.specs.declared.fmt.Error.{Error}
use Rattle.std.specs.declared.fmt.Formatter.{Formatter}
use Rattle.oci_auth.specs.declared.shown.Plainly.{Plainly}
use Rattle.oci_auth.specs.Shown.{WritesPlainly, shown_user, shown_basic}

module _ {W : Type 0} (took : W → List ℕ → W → Type 0) where
  joined : (w : W) (xs : List (List ℕ)) (v : W) (ys : List (List ℕ)) (u : W) → FoldsTo took w xs v → FoldsTo took v ys u → FoldsTo took w (xs ++ ys) u
  joined w [] v ys u p q = subst (λ x. FoldsTo took x ys u) (sym p) q
  joined w (x ∷ xs) v ys u p q = (p.0, p.1, joined p.0 xs v ys u p.2 q)

  pub then_written : (f g h : Formatter W) (a b : List ℕ) → HasWrittenStyled took f a g → HasWrittenStyled took g b h → HasWrittenStyled took f (a ++ b) h
  then_written f g h a b p q = record {
    wrote = record {
      parts = p.wrote.parts ++ q.wrote.parts;
      calls = joined _ p.wrote.parts _ q.wrote.parts _ p.wrote.calls q.wrote.calls;
      whole = concat-append p.wrote.parts q.wrote.parts ∙ (λ i. p.wrote.whole i ++ q.wrote.whole i);
    };
    spec = q.spec ∙ p.spec;
    flush = q.flush;
  }

  -- the output through the formatter, which is unchanged afterwards
  pub folded : (a b : Plainly W) (parts : List (List ℕ))
      → FoldsTo (λ old bytes new. WritesPlainly took old.formatter.now bytes new.formatter.now × (new.formatter.ghost_name ≡ old.formatter.ghost_name)) a parts b
      → IsFlush a.formatter.now → HasWrittenStyled took a.formatter.now (concat parts) b.formatter.now × (b.formatter.ghost_name ≡ a.formatter.ghost_name)
  folded a b [] folds flush =
      subst (λ c. HasWrittenStyled took a.formatter.now [] c.formatter.now × (c.formatter.ghost_name ≡ a.formatter.ghost_name)) folds
      (record { wrote = record { parts = []; calls = refl; whole = refl }; spec = refl; flush = flush }, refl)
  folded a b (x ∷ xs) folds flush =
      let first = folds.1.0 flush in
      let rest = folded folds.0 b xs folds.2 first.flush in
      (then_written a.formatter.now folds.0.formatter.now b.formatter.now x (concat xs) first rest.0, rest.1 ∙ folds.1.1)

  pub written : (a b : Plainly W) (o : Option (List ℕ)) (bs : List ℕ) (r : Result (Unit {0}) Error)
      → OnOk r (WritesText (λ old bytes new. WritesPlainly took old.formatter.now bytes new.formatter.now × (new.formatter.ghost_name ≡ old.formatter.ghost_name)) a o b)
      → IsOk r → o ≡ Some bs → IsFlush a.formatter.now
      → HasWrittenStyled took a.formatter.now bs b.formatter.now × (b.formatter.ghost_name ≡ a.formatter.ghost_name)
  written a b o bs (Ok u) wrote ok same flush =
      let calls = subst (λ p. WritesText (λ old bytes new. WritesPlainly took old.formatter.now bytes new.formatter.now × (new.formatter.ghost_name ≡ old.formatter.ghost_name)) a p b) same wrote in
      subst (λ text. HasWrittenStyled took a.formatter.now text b.formatter.now × (b.formatter.ghost_name ≡ a.formatter.ghost_name)) calls.whole (folded a b calls.parts calls.calls flush)
  written a b o bs (Err e) wrote ok same flush = absurd (true≢false (sym ok))

all_ascii : (bs : List ℕ) → IsAscii bs → list_all is_ascii bs ≡ true
all_ascii [] h = refl
all_ascii (b ∷ bs) h = let here : is_ascii b ≡ true = grind (arith, nat_tests, h 0) in rw (here, all_ascii bs (λ i. h (suc i))) refl

-- the user's name in Rust's `Debug` form
in_ascii : (user : List ℕ) → IsAscii user → debug_str user ≡ Some (shown_user user)
in_ascii user h = rw (all_ascii user h) refl

pub basic_text : (user : List ℕ) → IsAscii user → (Some (codes "Basic(") ++? (debug_str user ++? Some (codes ", \"<redacted>\")"))) ≡ Some (shown_basic user)
basic_text user h = ap (λ d. Some (codes "Basic(") ++? (d ++? Some (codes ", \"<redacted>\")"))) (in_ascii user h)
