-- The result of a protocol if each request gets its response from a table and nothing fails.
use Rattle.std.specs.Prelude.{◌≡◌, Bool, true, Result, Ok, Err}
use Rattle.oci_transport.specs.declared.message.Request.{Request}
use Rattle.oci_transport.specs.declared.message.Answer.{Answer}
use Rattle.oci_protocol.specs.Proto.{Reading, Unread, Within, Piped, Proto, Done, Ask, Recall, Keep, Consult}
use Rattle.oci_protocol.specs.Runs.{head_part}
use Rattle.oci_protocol.specs.Evaluation.{reply_of}

-- a body with this reading is not written to a sink
abbrev pub IsHeld : Reading → Type 0
IsHeld Unread = Unit {0}
IsHeld (Within limit) = Unit {0}
IsHeld (Piped limit) = ⊥

-- With the responses of the table, the protocol has from client state k a result, and a client state after it, for
-- which Q holds. No body is written to a sink, and there is no external input.
unfoldable pub EvaluatesWith : {K A : Type 0} → (Request → Answer) → (K → A → Type 0) → Proto K A → K → Type 0
EvaluatesWith table Q (Done a) k = Q k a
EvaluatesWith table Q (Ask request reading next) k =
    IsHeld (reading (head_part (table request)))
    × EvaluatesWith table Q (next (reply_of (reading (head_part (table request))) (table request))) k
EvaluatesWith table Q (Recall next) k = EvaluatesWith table Q (next k) k
EvaluatesWith table Q (Keep kept rest) k = EvaluatesWith table Q rest kept
EvaluatesWith table Q (Consult next) k = ⊥

-- it has this result
abbrev pub EvaluatesTo : {K A : Type 0} → (Request → Answer) → Proto K A → K → A → Type 0
EvaluatesTo table p k answer = EvaluatesWith table (λ l a. a ≡ answer) p k

-- it is `Ok`, and P holds for the value
abbrev pub Yields : {A E : Type 0} → (A → Type 0) → Result A E → Type 0
Yields P (Ok a) = P a
Yields P (Err e) = ⊥

-- From any client state with I, the protocol returns `Ok`, P holds for the value, and I still holds.
pub record AlwaysOk {K A E : Type 0} (I : K → Type 0) (table : Request → Answer) (P : A → Type 0)
    (p : Proto K (Result A E)) : Type 0 where
  pub gives : (k : K) → I k → EvaluatesWith table (λ l r. I l × Yields P r) p k

-- I still holds for the client state, whatever the result
pub record Preserves {K A : Type 0} (I : K → Type 0) (table : Request → Answer) (p : Proto K A) : Type 0 where
  pub stays : (k : K) → I k → EvaluatesWith table (λ l r. I l) p k

-- an `Ok` for whose value P holds, or an out-of-memory error
abbrev pub OrMemory : {A E : Type 0} → (E → Bool) → (A → Type 0) → Result A E → Type 0
OrMemory of_memory P (Ok a) = P a
OrMemory of_memory P (Err e) = of_memory e ≡ true

-- from any client state with I, Q holds for the result, and I still holds
pub record Reaches {K A : Type 0} (I : K → Type 0) (table : Request → Answer) (Q : A → Type 0) (p : Proto K A)
    : Type 0 where
  pub reaches : (k : K) → I k → EvaluatesWith table (λ l a. I l × Q a) p k
