-- What a contract sees of a guard.
use Rattle.std.specs.Prelude.{◌≡◌, ℕ, Bool, true, false, List, [], length, Option, Some, None, option_and_then}
use Rattle.std.specs.Prelude.{if◌then◌else◌}
use Rattle.oci_transport.specs.Link.{Link}
use Rattle.oci_transport.specs.declared.message.Exchange.{Exchange}
use Rattle.oci_transport.specs.declared.message.Request.{Request}
use Rattle.oci_link.specs.Guard.{fits, more, told_with}
use Rattle.oci_link.specs.Rules.{passes}
use Rattle.oci_link.specs.declared.rules.Rules.{Rules}
use Rattle.oci_link.specs.declared.guarded.Guarded.{Guarded}

-- the exchanges of the inner transport, with the requests that were not sent, each at its index
abbrev pub told_of : {T : Type 0} → Guarded T → List Exchange → Option (List Exchange)
told_of g c = if fits g.rules g.unsent g.since g.lost g.realm c then Some (told_with 0 g.unsent c) else None

-- nothing can be read after a request that was not sent
abbrev pub rest_of : Bool → Option (List ℕ) → Option (List ℕ)
rest_of true rest = Some []
rest_of false rest = rest

-- the state of a guard, given that of its inner transport
abbrev pub shown : {T : Type 0} → Guarded T → Link → Link
shown g inner = record {
  told = option_and_then (told_of g) inner.told;
  rest = rest_of g.closed inner.rest;
  pieces = inner.pieces;
  faults = more inner.faults (length g.unsent);
  exact = inner.exact;
  answers = None;
}

abbrev pub state_of : {T : Type 0} → (T → Link) → Guarded T → Link
state_of state g = shown g (state g.transport)

abbrev pub rules_of : {T : Type 0} → Guarded T → Rules
rules_of g = g.rules

-- the realm to which credentials may go next
abbrev pub realm_of : {T : Type 0} → Guarded T → Option (List ℕ)
realm_of g = g.realm

-- the rules allow the request
abbrev pub Allows : {T : Type 0} → Guarded T → Request → Type 0
Allows g request = passes g.rules g.realm request ≡ true

abbrev pub inside : {T : Type 0} → Guarded T → T
inside g = g.transport
