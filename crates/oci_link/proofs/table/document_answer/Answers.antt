use Rattle.std.proofs.Common.{◌∙◌}
use Rattle.std.specs.Prelude.{codes}
use Rattle.oci_link.specs.Table as rows
use Rattle.oci_link.proofs.table.document_answer.Goals as goal

pub returns : goal.returns
returns c =
    let kind = c.as_bytes.ensures.value ∙ c.as_str.ensures in
    let headers = c.in_ok-headers-2.ensures ∙ (λ i. rows.with_header (codes "content-type") (kind i) (c.in_ok-headers.ensures i)) in
    c.found.ensures ∙ (λ i. rows.found (headers i) (c.in_ok-body.ensures i))
