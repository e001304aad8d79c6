-- Properties of every complete run of a protocol.
use Rattle.std.specs.Prelude.{◌≡◌, ℕ, List, [], ◌∷◌, ◌++◌, Result, Ok, Err}
use Rattle.oci_transport.specs.declared.message.Request.{Request}
use Rattle.oci_transport.specs.declared.message.AnswerHead.{AnswerHead}
use Rattle.oci_transport.specs.declared.message.Exchange.{Exchange}
use Rattle.oci_protocol.specs.Proto.{Reading, Reply, Proto}
use Rattle.oci_protocol.specs.Runs.{Replies, Runs}
use Rattle.oci_protocol.specs.Follow.{Trail}
use Rattle.oci_protocol.specs.Trails.{Settles}

-- Q holds for every complete run: the fault count before it, its exchanges, the fault count after it, and its result
pub record EveryRun {K A : Type 0} (Q : ℕ → List Exchange → ℕ → A → Type 0) (p : Proto K A) : Type 0 where
  pub shows : (k l : K) (m n : ℕ) (c : List Exchange) (a : A) → Runs p k m c n l a → Q m c n a

-- The same, also for the client state before and after it.
pub record EveryRunKept {K A : Type 0} (Q : K → ℕ → List Exchange → ℕ → K → A → Type 0) (p : Proto K A) : Type 0 where
  pub shows : (k l : K) (m n : ℕ) (c : List Exchange) (a : A) → Runs p k m c n l a → Q k m c n l a

-- P holds for an `Ok`, R for an error
abbrev pub ByResult : {A E : Type 0} → (ℕ → List Exchange → ℕ → A → Type 0)
    → (ℕ → List Exchange → ℕ → E → Type 0) → ℕ → List Exchange → ℕ → Result A E → Type 0
ByResult P R m c n (Ok a) = P m c n a
ByResult P R m c n (Err e) = R m c n e

-- P holds for an `Ok`
abbrev pub WhenOk : {A E : Type 0} → (ℕ → List Exchange → ℕ → A → Type 0) → ℕ → List Exchange → ℕ → Result A E → Type 0
WhenOk P = ByResult P (λ m c n e. Unit {0})

-- The exchanges are those of a request whose redirects are followed: its redirects, and the last one, to `last` and
-- with this reply.
pub record Heard (n : ℕ) (request : Request)
    (reading : AnswerHead → Reading) (m : ℕ) (c : List Exchange) (after : ℕ)
    (last : Request) (reply : Reply) : Type 0 where
  pub redirects : List Exchange
  pub exchange : Exchange
  pub split : c ≡ redirects ++ exchange ∷ []
  pub left : ℕ
  pub before : ℕ
  pub trail : Trail n request m redirects left last before
  pub replies : Replies last reading before exchange after reply
  pub settles : Settles left last reply
