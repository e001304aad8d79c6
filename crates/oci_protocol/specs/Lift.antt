-- A protocol over a larger client state.
use Rattle.oci_protocol.specs.Proto.{Proto, Done, Ask, Recall, Keep, Consult}

-- the same requests and results, with the second part of the client state unchanged
unfoldable pub lifted : {K C A : Type 0} → Proto K A → Proto (K × C) A
lifted (Done a) = Done a
lifted (Ask request reading next) = Ask request reading (λ reply. lifted (next reply))
lifted (Recall next) = Recall (λ k. lifted (next k.0))
lifted (Keep kept rest) = Recall (λ k. Keep (kept, k.1) (lifted rest))
lifted (Consult next) = Consult (λ said. lifted (next said))
