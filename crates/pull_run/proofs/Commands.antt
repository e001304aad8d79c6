-- The count of layers that `gen` takes.
use Rattle.std.proofs.Common.{◌≡◌, ◌≤◌, ◌&&◌, ℕ, Bool, true, false, List, [], ◌∷◌, Option, Some, None, option_map, IfSome, codes, refl}
use Rattle.std.specs.Prelude.{nat_le, bytes_eq, slice_index, ◌==◌, if◌then◌else◌}
use Rattle.std.proofs.lemmas.Bool.{leb-true}
use Rattle.json_values.specs.Decimals.{decimal_of}
use Rattle.json_values.proofs.Decimals.{split}
use Rattle.pull_generated.specs.Terms.{IsCount}
use Rattle.pull_run.specs.Command.{from_one_to_thousand, count_of, command_of, CountsWell}
use Rattle.pull_run.specs.Word.{word_of}
use Rattle.pull_run.specs.declared.command.Command.{Command}
use Rattle.pull_run.specs.declared.command.Command.TheVariants.{Reads, Generates}
use Rattle.pull_run.specs.declared.word.Word.{Word}

in_range : (o : Option ℕ) → IfSome (from_one_to_thousand o) IsCount
in_range None = tt
in_range (Some n) = by_test (nat_le 1 n && nat_le n 1000) refl where
  by_test : (b : Bool) → (nat_le 1 n && nat_le n 1000) ≡ b → IfSome (if b then Some n else None) IsCount
  by_test true is = let k = split (nat_le 1 n) (nat_le n 1000) is in (leb-true 1 n k.0, leb-true n 1000 k.1)
  by_test false is = tt

counted : (text : List ℕ) → IfSome (count_of text) IsCount
counted text = by_test (slice_index text 0 == 48) where
  by_test : (b : Bool) → IfSome (if b then None else from_one_to_thousand (decimal_of text)) IsCount
  by_test true = tt
  by_test false = in_range (decimal_of text)

generates : (o : Option ℕ) → IfSome o IsCount → CountsWell (option_map Generates o)
generates None h = tt
generates (Some n) h = h

reads : (o : Option Word) → CountsWell (option_map Reads o)
reads None = tt
reads (Some word) = tt

pub command_counts : (words : List (List ℕ)) → CountsWell (command_of words)
command_counts [] = tt
command_counts (word ∷ []) = reads (word_of (word ∷ []))
command_counts (word ∷ count ∷ []) = by_test (bytes_eq word (codes "gen")) where
  by_test : (b : Bool) → CountsWell (if b then option_map Generates (count_of count) else None)
  by_test true = generates (count_of count) (counted count)
  by_test false = tt
command_counts (word ∷ count ∷ more ∷ words) = tt
