use Rattle.std.proofs.Common.{◌≡◌, None, refl, sym}
use Rattle.serde_json.specs.Data.{Data}
use Rattle.json_tables.specs.Objects.{only}
use Rattle.json_tables.proofs.MemberRefusals.{plain_refused}
use Rattle.recorded_case.specs.Case.{members, case_of}
use Rattle.pull_run.proofs.pull.CaseTask.read.Goals as goal

refused : (d : Data) → only members d ≡ None → case_of d ≡ None
unfolding case_of
refused d e = rw e refl

pub returns-then-not-may-clause-exact : goal.returns-then-not-may-clause-exact
returns-then-not-may-clause-exact c =
    sym (plain_refused members case_of refused c.args.bytes.now (c.in_ok-may.ensures.refused c.if-not-may.true))
