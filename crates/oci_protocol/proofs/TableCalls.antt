-- A call over a transport that responds by a table, without faults, returns what the table determines.
use Rattle.std.proofs.Common.{◌≡◌, ◌≢◌, ◌<◌, ◌^◌, ◌-◌, ℕ, Bool, true, false, List, Some, Result, Ok, Err, length, sym, ap, ◌∙◌, arith}
use Rattle.std.specs.Prelude.{MatchBool}
use Rattle.oci_transport.specs.Link.{Link, Answering, NeverFails}
use Rattle.oci_transport.specs.declared.message.Exchange.{Exchange}
use Rattle.oci_protocol.specs.Proto.{Proto}
use Rattle.oci_protocol.specs.Runs.{Performs, PerformsPrefix, Outcome, Meets}
use Rattle.oci_protocol.specs.Ends.{UnlessMemory}
use Rattle.oci_protocol.specs.Evaluation.{Evaluation, Evaluates, EndsOnSinkFault}
use Rattle.oci_protocol.proofs.TableRuns.{Runs-evaluation}

-- the result that `evaluation` computes, unless memory ran out or the sink, whose error is x, failed
pub Meets-evaluation : {K A E : Type 0} {of_memory : E → Bool} (x : E) {t : Answering} {p : Proto K (Result A E)} {after : ℕ} {before : List Exchange} {old new : Link} {k l j : K} {a : A} {r : Result A E}
    → EndsOnSinkFault (Err x) p → old.answers ≡ Some t → NeverFails t → old.told ≡ Some before → old.faults < 2 ^ 64 - 1 → Evaluates t p (length before) after k j a → Meets of_memory p old new k l r → r ≢ Err x
    → UnlessMemory of_memory (λ r. (l ≡ j) × (r ≡ Ok a)) r
Meets-evaluation {K} {A} {E} {of_memory} x {t} {p} {after} {before} {old} {new} {k} {l} {j} {a} {r} spilt answers never told lt drives met other = by_result r other met.outcome where
  performed : (r : Result A E) → r ≢ Err x → Performs p old new k l r → (l ≡ j) × (r ≡ Ok a)
  performed r other run =
      let quiet : new.faults ≡ old.faults = run.told.stays.quiet t answers never in
      let same = sym (Runs-evaluation (Err x) t p (length before) k l old.faults new.faults run.conversation r spilt other (run.told.table t before answers told) (omega (arith, quiet)) lt run.runs) ∙ drives.drives in
      (ap (λ (d : Evaluation K (Result A E)). d.kept) same, ap (λ (d : Evaluation K (Result A E)). d.answer) same)

  by_memory : (b : Bool) (e : E) → ◌≢◌ {A = Result A E} (Err e) (Err x) → MatchBool b (PerformsPrefix p old new k l) (Performs p old new k l (Err e)) → MatchBool b (Unit {0}) ((l ≡ j) × ◌≡◌ {A = Result A E} (Err e) (Ok a))
  by_memory true e other run = tt
  by_memory false e other run = performed (Err e) other run

  by_result : (r : Result A E) → r ≢ Err x → Outcome of_memory p old new k l r → UnlessMemory of_memory (λ r. (l ≡ j) × (r ≡ Ok a)) r
  by_result (Ok b) other run = performed (Ok b) other run
  by_result (Err e) other run = by_memory (of_memory e) e other run
