-- Protocols of several parts, in sequence.
use Rattle.std.proofs.Common.{◌≡◌, ℕ, List, [], ◌++◌, Option, ap, ◌∙◌, sym, subst, append_assoc}
use Rattle.std.proofs.lemmas.List.Elements.{All-nil, All-append, All-weaker}
use Rattle.oci_transport.specs.declared.message.Exchange.{Exchange}
use Rattle.oci_auth.specs.declared.auth_state.AuthState.{AuthState}
use Rattle.oci_protocol.specs.Proto.{Proto, Done, bind}
use Rattle.oci_protocol.specs.Lift.{lifted}
use Rattle.oci_protocol.specs.Runs.{Runs}
use Rattle.oci_protocol.proofs.WiderMemory.{Runs-unlifted}
use Rattle.oci_protocol.proofs.Parts.{Runs-parts, Runs-done}
use Rattle.engine_terms.specs.declared.settings.Settings.{Settings}
use Rattle.registry_cache.specs.declared.answers.Answers.{Answers}
use Rattle.registry_calls.specs.Clients.{Kept}
use Rattle.registry_calls.specs.Log.{LoggedCall, IsRun, IsBacked}
use Rattle.cosign_client.specs.Growth.{IsMadeIn, ExtendsLog, PreservesLog}

pub as_it_was : (s : Settings) (now : ℕ) (c : List Exchange) (k l : Kept) (log : List LoggedCall) → k.1 ≡ l.1 → IsRun s log → IsBacked s k.1 log → ExtendsLog s now c l.1 log
as_it_was s now c k l log same run backed = record { more = []; made = All-nil (IsMadeIn now c); run = run; backed = subst (λ (x : Option Answers). IsBacked s x log) same backed }

pub grows_done : {A : Type 0} (s : Settings) (now : ℕ) (x : A) → PreservesLog s now (Done x)
grows_done s now x = record { grows = λ k l m n c a log run lawful backed. as_it_was s now c k l log (ap (λ (k : Kept). k.1) (Runs-done x k m c n l a run).1) lawful backed }

-- what is made in a part is made in the whole
made_first : (now : ℕ) (c first second : List Exchange) → c ≡ first ++ second → (p : LoggedCall) → IsMadeIn now first p → IsMadeIn now c p
made_first now c first second joined p made = record {
  moment_is = made.moment_is;
  before = made.before;
  after = made.after ++ second;
  split = joined ∙ ap (λ x. x ++ second) made.split ∙ append_assoc made.before (p.conversation ++ made.after) second ∙ ap (λ x. made.before ++ x) (append_assoc p.conversation made.after second);
}

made_second : (now : ℕ) (c first second : List Exchange) → c ≡ first ++ second → (p : LoggedCall) → IsMadeIn now second p → IsMadeIn now c p
made_second now c first second joined p made = record {
  moment_is = made.moment_is;
  before = first ++ made.before;
  after = made.after;
  split = joined ∙ ap (λ x. first ++ x) made.split ∙ sym (append_assoc first made.before (p.conversation ++ made.after));
}

pub grows_bind : {A B : Type 0} (s : Settings) (now : ℕ) (p : Proto Kept A) (f : A → Proto Kept B) → PreservesLog s now p → ((a : A) → PreservesLog s now (f a)) → PreservesLog s now (bind p f)
grows_bind {A} {B} s now p f first second = record { grows = both } where
  both : (k l : Kept) (m n : ℕ) (c : List Exchange) (b : B) (log : List LoggedCall) → Runs (bind p f) k m c n l b → IsRun s log → IsBacked s k.1 log → ExtendsLog s now c l.1 log
  both k l m n c b log run lawful backed =
      let parts = Runs-parts p f k m c n l b run in
      let one : ExtendsLog s now parts.first parts.between.1 log = first.grows k parts.between m parts.count parts.first parts.answer log parts.runs_first lawful backed in
      let two : ExtendsLog s now parts.second l.1 (one.more ++ log) = (second parts.answer).grows parts.between l parts.count n parts.second b (one.more ++ log) parts.runs_second one.run one.backed in
      record {
        more = two.more ++ one.more;
        made = All-append (IsMadeIn now c) two.more one.more
            (All-weaker (IsMadeIn now parts.second) (IsMadeIn now c) (made_second now c parts.first parts.second parts.joined) two.more two.made)
            (All-weaker (IsMadeIn now parts.first) (IsMadeIn now c) (made_first now c parts.first parts.second parts.joined) one.more one.made);
        run = rw (append_assoc two.more one.more log) two.run;
        backed = rw (append_assoc two.more one.more log) two.backed;
      }

-- a call that is never cached
pub grows_lifted : {A : Type 0} (s : Settings) (now : ℕ) (p : Proto AuthState A) → PreservesLog s now (lifted p)
grows_lifted s now p = record { grows = λ k l m n c a log run lawful backed. as_it_was s now c k l log (Runs-unlifted p k l m n c a run).1 lawful backed }
