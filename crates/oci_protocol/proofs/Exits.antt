-- The exits of a function, as steps of its row, whatever it keeps and whatever its errors are.
use Rattle.std.proofs.Common.{◌≡◌, Bool, true, false, Result, Ok, Err}
use Rattle.std.specs.Prelude.{MatchBool}
use Rattle.std.specs.Result.{IsErrAnd}
use Rattle.std.proofs.lemmas.Result.{err_from_is_err_and}
use Rattle.json_values.specs.Refusals.{Matches}
use Rattle.oci_transport.specs.Link.{Link}
use Rattle.oci_protocol.specs.Proto.{Proto, Done, ◌>>=◌}
use Rattle.oci_protocol.specs.Runs.{Meets, PerformsPrefix, Performs}
use Rattle.oci_protocol.proofs.Laws.{Meets-next, Meets-refused, Meets-ok, Meets-memory, PerformsPrefix-start, Performs-done}

module _ {K E : Type 0} {of_memory : E → Bool} where
  -- a step that returned an error, at the exit of a `?`
  pub refused : {A B : Type 0} {p : Proto K (Result A E)} (f : A → Proto K (Result B E)) {old new : Link} {k l : K} {e : E} {r : Result B E}
      → Meets of_memory p old new k l (Err e) → IsErrAnd r (λ x. x ≡ e) → Meets of_memory (p >>= f) old new k l r
  refused f {r} h is = let at = err_from_is_err_and r is in rw (at.1, at.2) (Meets-refused f h)

  -- a step that succeeded, followed by the row that its result leads to
  pub and_then : {A B : Type 0} {p : Proto K (Result A E)} (f : A → Proto K (Result B E)) {old mid new : Link} {k l j : K} {a : A} {r : Result B E}
      → Meets of_memory p old mid k l (Ok a) → Meets of_memory (f a) mid new l j r → Meets of_memory (p >>= f) old new k j r
  and_then f first second = Meets-next f first second

  -- a result without a request
  pub done : {A : Type 0} {link : Link} {k : K} {a : A} → Meets of_memory (Done (Ok a)) link link k k (Ok a)
  done {link} {k} {a} = Meets-ok of_memory link k a

  -- a step without a request
  pub said : {A : Type 0} (r : Result A E) {s : Result A E} {link : Link} {k : K} → Matches of_memory r s → Meets of_memory (Done s) link link k k r
  said (Ok a) h = rw h done
  said {A} (Err e) {s} {link} {k} h = record { outcome = refusing (of_memory e) h } where
    refusing : (b : Bool) → MatchBool b (Unit {0}) (s ≡ Err e) → MatchBool b (PerformsPrefix {A = Result A E} (Done s) link link k k) (Performs (Done s) link link k k (Err e))
    refusing true h = PerformsPrefix-start (Done s) link k
    refusing false h = rw h (Performs-done link k (Err e))

  -- a step that returned an error, as the last one
  pub passed_on : {A : Type 0} {p : Proto K (Result A E)} {old new : Link} {k l : K} {e : E} {r : Result A E} → Meets of_memory p old new k l (Err e) → IsErrAnd r (λ x. x ≡ e) → Meets of_memory p old new k l r
  passed_on {r} h is = let at = err_from_is_err_and r is in rw (at.1, at.2) h

  -- memory ran out between two requests
  pub wanting : {A : Type 0} {p : Proto K (Result A E)} {link : Link} {k : K} (e : E) {r : Result A E} → of_memory e ≡ true → IsErrAnd r (λ x. x ≡ e) → Meets of_memory p link link k k r
  wanting {p} {link} {k} e {r} memory is = let at = err_from_is_err_and r is in rw (at.1, at.2) (Meets-memory of_memory p link k e memory)

-- an error that says that memory ran out
pub wanted : {E A : Type 0} (of_memory : E → Bool) (e : E) (r : Result A E) → of_memory e ≡ true → IsErrAnd r (λ x. x ≡ e) → IsErrAnd r (λ x. of_memory x ≡ true)
wanted of_memory e (Ok a) memory is = absurd is
wanted of_memory e (Err x) memory is = rw is memory
