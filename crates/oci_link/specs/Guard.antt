-- What a contract sees of a guard's inner transport.
use Rattle.std.specs.Prelude.{◌≡◌, ℕ, suc, ◌+◌, ◌-◌, ◌^◌, min, Bool, true, false, ◌&&◌, ◌||◌, List, [], ◌∷◌, ◌++◌, map}
use Rattle.std.specs.Prelude.{take, drop, length, Option, Some, None, nat_eq, nat_le, bytes_eq}
use Rattle.oci_transport.specs.Link.{Link}
use Rattle.oci_transport.specs.declared.message.Request.{Request}
use Rattle.oci_transport.specs.declared.message.Answer.{Answer}
use Rattle.oci_transport.specs.declared.message.Exchange.{Exchange}
use Rattle.oci_link.specs.Rules.{passes, realm_named}
use Rattle.oci_link.specs.declared.rules.Rules.{Rules}
use Rattle.oci_link.specs.declared.guarded.Unsent.{Unsent}

-- a count increased by this many, saturating at `u64::MAX`
abbrev pub more : ℕ → ℕ → ℕ
more faults n = min (faults + n) (2 ^ 64 - 1)

-- ---- exposed exchanges

-- an exchange of the inner transport, with these refusals added to its fault count
abbrev pub counted : ℕ → Exchange → Exchange
counted n e = record { request = e.request; answer = e.answer; faults = more e.faults n }

-- a request that was not sent
abbrev pub refused_exchange : Unsent → Exchange
refused_exchange x = record { request = x.request; answer = None; faults = x.faults }

-- the exchanges of the inner transport, with the requests that were not sent, each at its index
unfoldable pub told_with : ℕ → List Unsent → List Exchange → List Exchange
told_with n [] c = map (counted n) c
told_with n (x ∷ xs) c =
    map (counted n) (take x.after c) ++ refused_exchange x ∷ told_with (suc n) xs (drop x.after c)

-- ---- the rules are kept

-- the realm that an exchange names
abbrev pub realm_by : Request → Option Answer → Option (List ℕ)
realm_by request None = None
realm_by request (Some answer) = realm_named request answer.headers

abbrev pub realm_of : Exchange → Option (List ℕ)
realm_of e = realm_by e.request e.answer

-- the request has no answer, or keeps the rules
abbrev pub unless_answered : Option Answer → Bool → Bool
unless_answered None pass = true
unless_answered (Some answer) pass = pass

-- each request with an answer keeps the rules, given that this realm was named directly before
unfoldable pub keep_after : Rules → Option (List ℕ) → List Exchange → Bool
keep_after rules realm [] = true
keep_after rules realm (e ∷ c) =
    unless_answered e.answer (passes rules realm e.request) && keep_after rules (realm_of e) c

abbrev pub keep : Rules → List Exchange → Bool
keep rules c = keep_after rules None c

-- if exchanges are exposed, each one with an answer keeps the rules
abbrev pub KeepsTold : Rules → Link → Type 0
KeepsTold rules link = (c : List Exchange) → link.told ≡ Some c → keep rules c ≡ true

-- if exchanges are exposed, there are none yet
abbrev pub IsFresh : Link → Type 0
IsFresh link = (c : List Exchange) → link.told ≡ Some c → c ≡ []

-- ---- the guard's knowledge

-- the realm that is named last, or else this one
unfoldable pub last_realm : Option (List ℕ) → List Exchange → Option (List ℕ)
last_realm realm [] = realm
last_realm realm (e ∷ c) = last_realm (realm_of e) c

-- the number of exchanges of the inner transport before the last request that was not sent
unfoldable pub places : List Unsent → ℕ
places [] = 0
places (x ∷ xs) = x.after + places xs

abbrev pub is_known : Option (List ℕ) → Option (List ℕ) → Bool
is_known None last = true
is_known (Some realm) None = false
is_known (Some realm) (Some last) = bytes_eq realm last

-- every request that was not sent has an index, as far as is known
abbrev pub has_places : List Unsent → ℕ → Bool → ℕ → Bool
has_places unsent since lost count =
    nat_le (places unsent) count && (lost || nat_eq count (places unsent + since))

-- the rules were kept, and a known realm is the last one that was named
abbrev pub was_kept : Rules → Option (List ℕ) → List Exchange → Bool
was_kept rules realm c = keep rules c && is_known realm (last_realm None c)

-- the guard's knowledge fits these exchanges of the inner transport
abbrev pub fits : Rules → List Unsent → ℕ → Bool → Option (List ℕ) → List Exchange → Bool
fits rules unsent since lost realm c =
    has_places unsent since lost (length c) && was_kept rules realm (told_with 0 unsent c)
