use Rattle.std.proofs.Common.{Bool, map, length}
use Rattle.json_tables.specs.Tokens.{DecidesRest}
use Rattle.json_tables.proofs.member_names.are_among.Given as goal

-- what the members that are left decide, all of them decide
abbrev pub invariant-members : goal.invariant-members
invariant-members l =
    (b : Bool) → DecidesRest (map (λ name. name.now) l.names) l.reader b → DecidesRest (map (λ name. name.now) l.names) l.initial.reader b

abbrev pub decreases-members : goal.decreases-members
decreases-members l = length l.reader
