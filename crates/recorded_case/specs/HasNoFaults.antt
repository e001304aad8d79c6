-- A shelf's transport of which no exchange failed.
use Rattle.std.specs.Prelude.{◌≡◌, false, IsTrue, List, Some}
use Rattle.oci_transport.specs.FaultsOnlyWhere.{faults_only_where}
use Rattle.oci_transport.specs.declared.message.Exchange.{Exchange}
use Rattle.oci_link.specs.State.{state_of}
use Rattle.oci_link.specs.declared.shelf_transport.ShelfTransport.{ShelfTransport}

-- no exchange failed so far
abbrev pub HasNoFaults : ShelfTransport → Type 0
HasNoFaults t = (told : List Exchange) → (state_of t).told ≡ Some told
    → IsTrue (faults_only_where (λ place. false) 0 told 0)
