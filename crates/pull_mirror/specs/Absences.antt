-- How a refused copy of documents is printed.
use Rattle.std.specs.Prelude.{ℕ, List, ◌++◌, codes}
use Rattle.json_values.specs.Canon.{quoted_text}
use Rattle.pull_mirror.specs.Errors.{push_print}
use Rattle.pull_mirror.specs.declared.absences.DocumentsRefusal.{DocumentsRefusal}
use Rattle.pull_mirror.specs.declared.absences.DocumentsRefusal.TheVariants.{Missing, Refused, WantOfMemory}

abbrev pub missing_print : List ℕ → List ℕ
missing_print digest = codes "Missing " ++ quoted_text digest

abbrev pub documents_print : DocumentsRefusal → List ℕ
documents_print (Missing digest) = missing_print digest
documents_print (Refused digest error) = push_print digest error
documents_print WantOfMemory = codes "WantOfMemory"
