use Rattle.std.specs.Prelude.{ℕ, Bool, List, Option, Result, Ok, Err, MatchBool}
use Rattle.oci_protocol.specs.Proto.{Reply, Proto, Done, Ask, Recall, Keep, Consult}

-- Q holds for each result of the protocol, for all replies, client states and external input
unfoldable pub Ends : {K A : Type 0} → (A → Type 0) → Proto K A → Type 0
Ends Q (Done a) = Q a
Ends Q (Ask request reading next) = (reply : Reply) → Ends Q (next reply)
Ends {K} Q (Recall next) = (k : K) → Ends Q (next k)
Ends Q (Keep kept rest) = Ends Q rest
Ends Q (Consult next) = (said : Option (List ℕ)) → Ends Q (next said)

-- Q holds for the value of an `Ok`
abbrev pub OnAnswer : {A E : Type 0} → (A → Type 0) → Result A E → Type 0
OnAnswer Q (Ok a) = Q a
OnAnswer Q (Err e) = Unit {0}

-- Q holds for a result that is not out of memory
abbrev pub UnlessMemory : {A E : Type 0} → (E → Bool) → (Result A E → Type 0) → Result A E → Type 0
UnlessMemory of_memory Q (Ok a) = Q (Ok a)
UnlessMemory of_memory Q (Err e) = MatchBool (of_memory e) (Unit {0}) (Q (Err e))
