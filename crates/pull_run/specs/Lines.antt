-- The lines of a mirror, after the report of its pull.
use Rattle.std.specs.Prelude.{ℕ, List, [], ◌∷◌, ◌++◌, codes, flat_map}
use Rattle.oci_transport.specs.declared.message.Exchange.{Exchange}
use Rattle.pull_report.specs.Lines.{exchange_line}
use Rattle.pull_report.specs.Words.{line}
use Rattle.pull_mirror.specs.Errors.{push_print, target_print}
use Rattle.pull_run.specs.declared.prints.RefusedPush.{RefusedPush}
use Rattle.pull_run.specs.declared.prints.RefusedTarget.{RefusedTarget}

abbrev pub refused_target_print : RefusedTarget → List ℕ
refused_target_print refused = target_print refused.reference

abbrev pub refused_push_print : RefusedPush → List ℕ
refused_push_print refused = push_print refused.digest refused.error

-- the line of a refused target
abbrev pub target_line : RefusedTarget → List ℕ
target_line refused = line (codes "refused" ∷ refused_target_print refused ∷ [])

-- the line of a refused push
abbrev pub push_line : RefusedPush → List ℕ
push_line refused = line (codes "refused" ∷ refused_push_print refused ∷ [])

abbrev pub pushed_line : List ℕ → List ℕ
pushed_line digest = line (codes "pushed" ∷ digest ∷ [])

-- the requests to the target, each digest that was pushed, and the URL of the document that was signed
abbrev pub mirrored_lines : List Exchange → List (List ℕ) → List ℕ → List ℕ
mirrored_lines c pushed url = flat_map exchange_line c ++ flat_map pushed_line pushed
    ++ line (codes "mirrored" ∷ url ∷ [])

-- the requests to the target, and the push that it refused
abbrev pub refused_lines : List Exchange → RefusedPush → List ℕ
refused_lines c refused = flat_map exchange_line c ++ push_line refused
