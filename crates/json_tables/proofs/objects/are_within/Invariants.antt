use Rattle.std.proofs.Common.{◌≡◌, map}
use Rattle.serde_json.specs.View.{members_view}
use Rattle.json_tables.specs.Objects.{names_within}
use Rattle.json_tables.proofs.objects.are_within.Given as goal

abbrev pub invariant-loop-name : goal.invariant-loop-name
invariant-loop-name l = names_within (map (λ name. name.now) l.names) (members_view l.members.entries) ≡ names_within (map (λ name. name.now) l.names) (members_view l.name-iterator)
