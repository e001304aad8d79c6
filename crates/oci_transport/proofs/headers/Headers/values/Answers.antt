use Rattle.std.proofs.Common.{sym, ap, ◌∙◌}
use Rattle.std.specs.FinMap as map
use Rattle.std.specs.FinMap.{get-entries}
use Rattle.std.specs.FinMap.Entries.{find}
use Rattle.http_header.specs.Token.{lowercase}
use Rattle.json_values.specs.Places.{by_bytes}
use Rattle.oci_transport.proofs.headers.Headers.values.Goals as goal

pub returns : goal.returns
returns c =
    let name = lowercase c.args.name.now in
    c.values_in.ensures ∙ ap (find by_bytes name) c.entries.ensures ∙ sym (get-entries _ name) ∙ ap (λ m. map.get m name) c.self.view_is
