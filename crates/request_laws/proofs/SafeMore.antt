-- A safe protocol is safe if more may be requested, stored and returned.
use Rattle.std.proofs.Common.{List, [], ◌∷◌, ◌++◌}
use Rattle.oci_transport.specs.declared.message.Request.{Request}
use Rattle.oci_transport.specs.declared.message.Exchange.{Exchange}
use Rattle.oci_protocol.specs.Proto.{Proto, Done, Ask, Recall, Keep, Consult}
use Rattle.oci_protocol.specs.Safe.{Safe}

pub Safe-map : {K A : Type 0} (P S : K → List Exchange → Request → Type 0) (I J : K → List Exchange → Type 0) (Q R : K → List Exchange → A → Type 0) (p : Proto K A) → ((k : K) (c : List Exchange) (request : Request) → P k c request → S k c request) → ((k : K) (c : List Exchange) → I k c → J k c) → ((k : K) (c : List Exchange) (a : A) → Q k c a → R k c a) → (k : K) (seen : List Exchange) → Safe P I Q k seen p → Safe S J R k seen p
unfolding Safe
Safe-map P S I J Q R (Done a) asks keeps ends k seen h = ends k seen a h
Safe-map P S I J Q R (Ask request reading next) asks keeps ends k seen h = (asks k seen request h.0, λ e before after reply r. Safe-map P S I J Q R (next reply) asks keeps ends k (seen ++ e ∷ []) (h.1 e before after reply r))
Safe-map P S I J Q R (Recall next) asks keeps ends k seen h = Safe-map P S I J Q R (next k) asks keeps ends k seen h
Safe-map P S I J Q R (Keep kept rest) asks keeps ends k seen h = (keeps kept seen h.0, Safe-map P S I J Q R rest asks keeps ends kept seen h.1)
Safe-map P S I J Q R (Consult next) asks keeps ends k seen h = λ said. Safe-map P S I J Q R (next said) asks keeps ends k seen (h said)

pub Safe-more : {K A : Type 0} (P : K → List Exchange → Request → Type 0) (I J : K → List Exchange → Type 0) (Q R : K → List Exchange → A → Type 0) (p : Proto K A) → ((k : K) (c : List Exchange) → I k c → J k c) → ((k : K) (c : List Exchange) (a : A) → Q k c a → R k c a) → (k : K) (seen : List Exchange) → Safe P I Q k seen p → Safe P J R k seen p
Safe-more P I J Q R p keeps ends k seen h = Safe-map P P I J Q R p (λ k c request g. g) keeps ends k seen h
