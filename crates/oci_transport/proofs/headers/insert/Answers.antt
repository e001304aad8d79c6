use Rattle.std.proofs.Common.{◌∙◌, ap, ◌∷◌, [], ◌++◌}
use Rattle.std.specs.Prelude.{unwrap_or}
use Rattle.std.specs.FinMap as map
use Rattle.oci_transport.proofs.Fields.{fields_inserted}
use Rattle.oci_transport.proofs.headers.insert.Goals as goal

pub returns-clause-are : goal.returns-clause-are
returns-clause-are c =
    let old = c.args.fields.now in
    let values = c.in_ok-values.ensures ∙ ap (λ o. unwrap_or o [] ++ c.args.value.now ∷ []) (c.get.ensures ∙ ap (map.get old) c.as_str.ensures) in
    fields_inserted old _ c.args.name c.args.value.now c.requires.are c.requires.lower c.requires.few (c.in_ok-insert.ensures.ok ∙ ap (map.insert old c.args.name) values)
