-- Parts in sequence: the row is the same, whichever parts are taken together first.
use mathlib.Core.Path.{fun_ext}
use Rattle.std.proofs.Common.{◌≡◌, ℕ, List, Option, Result, Ok, Err, refl, sym, ap, ◌∙◌}
use Rattle.oci_protocol.specs.Proto.{Reply, Proto, Done, Ask, Recall, Keep, Consult, bind, unless_refused, ◌>>=◌}
use Rattle.registry_calls.specs.declared.error.SigstoreError.{SigstoreError}
use Rattle.registry_calls.specs.Clients.{Row}
use Rattle.cosign_rows.specs.Verified.{Whole, as_whole, part_of}

bind_same : {K A B : Type 0} (p : Proto K A) (f g : A → Proto K B) → ((a : A) → f a ≡ g a) → bind p f ≡ bind p g
bind_same {K} {A} {B} p f g same = ap (λ (h : A → Proto K B). bind p h) (fun_ext same)

bind_joined : {K A B C : Type 0} (p : Proto K A) (f : A → Proto K B) (g : B → Proto K C) → bind (bind p f) g ≡ bind p (λ a. bind (f a) g)
unfolding bind
bind_joined (Done a) f g = refl
bind_joined {K} {A} {B} {C} (Ask request reading next) f g = ap (λ (n : Reply → Proto K C). Ask request reading n) (fun_ext (λ reply. bind_joined (next reply) f g))
bind_joined {K} {A} {B} {C} (Recall next) f g = ap (λ (n : K → Proto K C). Recall n) (fun_ext (λ kept. bind_joined (next kept) f g))
bind_joined {K} {A} {B} {C} (Keep kept rest) f g = ap (λ (p : Proto K C). Keep kept p) (bind_joined rest f g)
bind_joined {K} {A} {B} {C} (Consult next) f g = ap (λ (n : Option (List ℕ) → Proto K C). Consult n) (fun_ext (λ said. bind_joined (next said) f g))

-- a step, and the same behind it
pub next_same : {K A B E : Type 0} (p : Proto K (Result A E)) (f g : A → Proto K (Result B E)) → ((a : A) → f a ≡ g a) → (p >>= f) ≡ (p >>= g)
next_same {K} {A} {B} {E} p f g same = ap (λ (h : A → Proto K (Result B E)). p >>= h) (fun_ext same)

-- three parts in sequence
pub next_joined : {K A B C E : Type 0} (p : Proto K (Result A E)) (f : A → Proto K (Result B E)) (g : B → Proto K (Result C E)) → ((p >>= f) >>= g) ≡ (p >>= (λ a. f a >>= g))
unfolding bind
next_joined {K} {A} {B} {C} {E} p f g = bind_joined p (unless_refused f) (unless_refused g) ∙ bind_same p _ _ by_result where
  by_result : (r : Result A E) → bind (unless_refused f r) (unless_refused g) ≡ unless_refused (λ a. f a >>= g) r
  by_result (Ok a) = refl
  by_result (Err e) = refl

-- two parts in sequence, as parts of the whole pull
pub part_next : {A B : Type 0} (p : Row A) (f : A → Row B) → part_of (p >>= f) ≡ (part_of p >>= (λ a. part_of (f a)))
unfolding part_of bind
part_next {A} {B} p f = bind_joined p (unless_refused f) (λ r. Done (as_whole r)) ∙ bind_same p _ _ by_result ∙ sym (bind_joined p (λ r. Done (as_whole r)) (unless_refused (λ a. part_of (f a)))) where
  by_result : (r : Result A SigstoreError) → (let q : Whole B = bind (unless_refused f r) (λ x. Done (as_whole x)) in q) ≡ bind (Done (as_whole r)) (unless_refused (λ a. part_of (f a)))
  by_result (Ok a) = refl
  by_result (Err e) = refl
