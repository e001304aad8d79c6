use Rattle.std.proofs.Common.{◌≡◌, ℕ, List, [], ◌∷◌, None, refl, sym}
use Rattle.std.specs.Prelude.{codes}
use Rattle.serde_json.specs.Data.{Data}
use Rattle.json_tables.specs.Objects.{only}
use Rattle.json_tables.proofs.MemberRefusals.{plain_refused}
use Rattle.pull_run.specs.MirrorInput.{mirror_input_of}
use Rattle.pull_run.proofs.mirror.MirrorInputTask.read.Goals as goal

abbrev names : List (List ℕ)
names = codes "case" ∷ codes "target" ∷ []

refused : (d : Data) → only names d ≡ None → mirror_input_of d ≡ None
unfolding mirror_input_of
refused d e = rw e refl

pub returns-then-not-may-clause-exact : goal.returns-then-not-may-clause-exact
returns-then-not-may-clause-exact c =
    sym (plain_refused names mirror_input_of refused c.args.bytes.now (c.in_ok-may.ensures.refused c.if-not-may.true))
