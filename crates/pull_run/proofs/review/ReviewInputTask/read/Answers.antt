use Rattle.std.proofs.Common.{◌≡◌, ℕ, List, [], ◌∷◌, None, refl, sym}
use Rattle.std.specs.Prelude.{codes}
use Rattle.serde_json.specs.Data.{Data}
use Rattle.json_tables.specs.Objects.{only}
use Rattle.json_tables.proofs.MemberRefusals.{plain_refused}
use Rattle.pull_admit.specs.Input.{review_input_of}
use Rattle.pull_run.proofs.review.ReviewInputTask.read.Goals as goal

abbrev names : List (List ℕ)
names = codes "settings" ∷ codes "review" ∷ []

refused : (d : Data) → only names d ≡ None → review_input_of d ≡ None
unfolding review_input_of
refused d e = rw e refl

pub returns-then-not-may-clause-exact : goal.returns-then-not-may-clause-exact
returns-then-not-may-clause-exact c =
    sym (plain_refused names review_input_of refused c.args.bytes.now (c.in_ok-may.ensures.refused c.if-not-may.true))
