-- How the refusal of a target is printed: a word, then the reference with its tag, then the digest or the error.
use Rattle.std.specs.Prelude.{ℕ, List, ◌++◌, codes}
use Rattle.json_values.specs.Canon.{quoted_text}
use Rattle.engine_terms.specs.declared.error.OciDistributionError.{OciDistributionError}
use Rattle.pull_report.specs.Prints.{distribution_print}
use Rattle.live_copy.specs.declared.refusals.TargetRefusal.{TargetRefusal}
use Rattle.live_copy.specs.declared.refusals.TargetRefusal.TheVariants.{Taken, Unread, WantOfMemory}

abbrev pub taken_print : (reference digest : List ℕ) → List ℕ
taken_print reference digest = codes "Taken " ++ quoted_text reference ++ codes " " ++ quoted_text digest

abbrev pub tag_print : List ℕ → OciDistributionError → List ℕ
tag_print reference error = codes "Tag " ++ quoted_text reference ++ codes " " ++ distribution_print error

abbrev pub target_print : TargetRefusal → List ℕ
target_print (Taken reference digest) = taken_print reference digest
target_print (Unread reference error) = tag_print reference error
target_print WantOfMemory = codes "WantOfMemory"
