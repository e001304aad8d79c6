-- The command that the command-line arguments select.
use Rattle.std.specs.Prelude.{ℕ, List, [], ◌∷◌, ◌==◌, ◌&&◌, Option, Some, None, option_map, if◌then◌else◌, codes}
use Rattle.std.specs.Prelude.{bytes_eq, nat_le, slice_index}
use Rattle.json_values.specs.Decimals.{decimal_of}
use Rattle.pull_generated.specs.Terms.{IsCount}
use Rattle.pull_run.specs.Word.{word_of}
use Rattle.pull_run.specs.declared.command.Command.{Command}
use Rattle.pull_run.specs.declared.command.Command.TheVariants.{Reads, Generates}

abbrev pub from_one_to_thousand : Option ℕ → Option ℕ
from_one_to_thousand None = None
from_one_to_thousand (Some n) = if nat_le 1 n && nat_le n 1000 then Some n else None

-- an integer from 1 to 1000 in decimal digits, without a leading zero
abbrev pub count_of : List ℕ → Option ℕ
count_of text = if slice_index text 0 == 48 then None else from_one_to_thousand (decimal_of text)

-- `gen` and a count, or a subcommand that reads input
abbrev pub command_of : List (List ℕ) → Option Command
command_of (word ∷ count ∷ []) =
    if bytes_eq word (codes "gen") then option_map Generates (count_of count) else None
command_of words = option_map Reads (word_of words)

-- the count of a command is from 1 to 1000
abbrev pub CountsWell : Option Command → Type 0
CountsWell (Some (Generates layers)) = IsCount layers
CountsWell command = Unit {0}
