use Rattle.std.specs.Prelude.{ℕ, List, [], ◌∷◌, ◌++◌, Option}
use Rattle.oci_transport.specs.declared.message.Request.{Request}
use Rattle.oci_transport.specs.declared.message.Exchange.{Exchange}
use Rattle.oci_protocol.specs.Proto.{Reply, Proto, Done, Ask, Recall, Keep, Consult}
use Rattle.oci_protocol.specs.Runs.{Replies}

-- The client state and the exchanges so far decide what may be requested (P), stored (I) and returned (Q).
unfoldable pub Safe : {K A : Type 0} → (K → List Exchange → Request → Type 0) → (K → List Exchange → Type 0)
    → (K → List Exchange → A → Type 0) → K → List Exchange → Proto K A → Type 0
Safe P I Q k seen (Done a) = Q k seen a
Safe P I Q k seen (Ask request reading next) = P k seen request
    × ((e : Exchange) (before after : ℕ) (reply : Reply) → Replies request reading before e after reply
    → Safe P I Q k (seen ++ e ∷ []) (next reply))
Safe P I Q k seen (Recall next) = Safe P I Q k seen (next k)
Safe P I Q k seen (Keep kept rest) = I kept seen × Safe P I Q kept seen rest
Safe P I Q k seen (Consult next) = (said : Option (List ℕ)) → Safe P I Q k seen (next said)

-- each of these exchanges may be requested after those before it
abbrev pub EachAfter : (List Exchange → Request → Type 0) → List Exchange → List Exchange → Type 0
EachAfter P seen [] = Unit {0}
EachAfter P seen (e ∷ c) = P seen e.request × EachAfter P (seen ++ e ∷ []) c
