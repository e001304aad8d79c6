use Rattle.std.proofs.Common.{◌≡◌, length}
use Rattle.std.specs.List.{list_all}
use Rattle.json.specs.Lex.{tokens}
use Rattle.cosign_parts.specs.Statement.{is_whole_token}
use Rattle.cosign_parts.proofs.statement.has_integers.Given as goal

-- the numbers that were passed are integers, so the others decide
abbrev pub invariant-tokens : goal.invariant-tokens
invariant-tokens l = list_all is_whole_token (tokens l.text) ≡ list_all is_whole_token l.reader

abbrev pub decreases-tokens : goal.decreases-tokens
decreases-tokens l = length l.reader
