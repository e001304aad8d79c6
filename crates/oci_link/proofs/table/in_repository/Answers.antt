use Rattle.std.proofs.Common.{ap, ◌∙◌}
use Rattle.oci_link.specs.Table as rows
use Rattle.oci_link.proofs.table.in_repository.Goals as goal

pub returns-in-Some : goal.returns-in-Some
returns-in-Some c = c.in_ok-answer.ensures ∙ ap (rows.or_manifest c.args.shelf.now c.args.method c.args.rest.now) c.in-Some.ensures

pub returns-in-Some-after-2 : goal.returns-in-Some-after-2
returns-in-Some-after-2 c =
    c.in_ok-answer-3.ensures ∙ ap (rows.or_referrers c.args.shelf.now c.args.method) c.in-Some-after-2.ensures ∙ ap (rows.or_blob c.args.shelf.now c.args.method c.args.rest.now) c.in_default-after.ensures ∙ ap (rows.or_manifest c.args.shelf.now c.args.method c.args.rest.now) c.in_default.ensures
