-- Rows whose results are appended to a given part.
use Rattle.std.proofs.Common.{◌≡◌, Result, Ok, Err, refl, sym, subst, ◌∙◌}
use Rattle.oci_transport.specs.Link.{Link}
use Rattle.oci_protocol.specs.Proto.{Proto, Done, Ask, Recall, Keep, Consult, bind, unless_refused, ◌>>=◌}
use Rattle.engine_terms.specs.declared.settings.Settings.{Settings}
use Rattle.registry_calls.specs.declared.error.SigstoreError.{SigstoreError}
use Rattle.registry_calls.specs.Error.{is_memory}
use Rattle.registry_calls.specs.Clients.{Client, Row, ClientMeets}
use Rattle.cosign_rows.specs.declared.found.Part.{Part}
use Rattle.cosign_rows.specs.Part.{appended}
use Rattle.cosign_rows.proofs.Descriptors.{joined_part}
use Rattle.cosign_pull.specs.Gathered.{gathered, put_behind}

-- what follows two parts in turn follows the second one
pub bind_joined : {K A B C : Type 0} (p : Proto K A) (f : A → Proto K B) (g : B → Proto K C) → bind (bind p f) g ≡ bind p (λ a. bind (f a) g)
unfolding bind
bind_joined (Done a) f g = refl
bind_joined (Ask request reading next) f g = λ i. Ask request reading (λ reply. bind_joined (next reply) f g i)
bind_joined (Recall next) f g = λ i. Recall (λ kept. bind_joined (next kept) f g i)
bind_joined (Keep kept rest) f g = λ i. Keep kept (bind_joined rest f g i)
bind_joined (Consult next) f g = λ i. Consult (λ said. bind_joined (next said) f g i)

-- rows that agree after each result agree as a whole
bind_same : {K A B : Type 0} (p : Proto K A) (f g : A → Proto K B) → ((a : A) → f a ≡ g a) → bind p f ≡ bind p g
bind_same p f g same = λ i. bind p (λ a. same a i)

-- a row's result, converted and appended to the given part
gathered_done : {A : Type 0} (part : Part) (p : Row A) (f : Result A SigstoreError → Result Part SigstoreError) → gathered part (bind p (λ r. Done (f r))) ≡ bind p (λ r. Done (put_behind part (f r)))
unfolding bind
gathered_done part p f = bind_joined p (λ r. Done (f r)) (λ r. Done (put_behind part r))

pub made_done : {A : Type 0} {s : Settings} (part : Part) (p : Row A) (f : Result A SigstoreError → Result Part SigstoreError) {c d : Client} {old new : Link} {r : Result Part SigstoreError}
    → ClientMeets is_memory s (bind p (λ r. Done (put_behind part (f r)))) c d old new r → ClientMeets is_memory s (gathered part (bind p (λ r. Done (f r)))) c d old new r
made_done {s = s} part p f {c = c} {d = d} {old = old} {new = new} {r = r} made = subst (λ q. ClientMeets is_memory s q c d old new r) (sym (gathered_done part p f)) made

then_each : {B : Type 0} (part : Part) (f : Part → Row B) (r : Result Part SigstoreError) → bind (Done (put_behind part r)) (unless_refused f) ≡ unless_refused (λ more. f (appended part more)) r
unfolding bind
then_each part f (Ok more) = refl
then_each part f (Err e) = refl

-- what is then done with both parts
gathered_then : {B : Type 0} (part : Part) (p : Row Part) (f : Part → Row B) → gathered part p >>= f ≡ p >>= (λ more. f (appended part more))
gathered_then part p f = bind_joined p (λ r. Done (put_behind part r)) (unless_refused f) ∙ bind_same p _ _ (then_each part f)

pub made_then : {B : Type 0} {s : Settings} (part : Part) (p : Row Part) (f : Part → Row B) {c d : Client} {old new : Link} {r : Result B SigstoreError}
    → ClientMeets is_memory s (gathered part p >>= f) c d old new r → ClientMeets is_memory s (p >>= (λ more. f (appended part more))) c d old new r
made_then {s = s} part p f {c = c} {d = d} {old = old} {new = new} {r = r} made = subst (λ q. ClientMeets is_memory s q c d old new r) (gathered_then part p f) made

-- one part, followed by the result of another row
abbrev both_then : Part → Result Part SigstoreError → Row Part
both_then one r = unless_refused (λ rest. Done (Ok (appended one rest))) r

last_each : (part one : Part) (r : Result Part SigstoreError) → gathered part (both_then one r) ≡ Done (put_behind (appended part one) r)
unfolding bind
last_each part one (Ok rest) = λ i. Done (Ok (sym (joined_part part one rest) i))
last_each part one (Err e) = refl

both_each : (part : Part) (q : Row Part) (r : Result Part SigstoreError) → gathered part (unless_refused (λ one. q >>= λ rest. Done (Ok (appended one rest))) r) ≡ unless_refused (λ one. gathered (appended part one) q) r
unfolding bind
both_each part q (Ok one) = bind_joined q (both_then one) (λ r. Done (put_behind part r)) ∙ bind_same q _ _ (last_each part one)
both_each part q (Err e) = refl

-- two rows appended to the given part: the first, then the second
pub gathered_both : (part : Part) (p q : Row Part) → gathered part (p >>= λ one. q >>= λ rest. Done (Ok (appended one rest))) ≡ gathered part p >>= (λ more. gathered more q)
gathered_both part p q = bind_joined p _ (λ r. Done (put_behind part r)) ∙ bind_same p _ _ (both_each part q) ∙ sym (gathered_then part p (λ more. gathered more q))
