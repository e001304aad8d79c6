use Rattle.oci_docs.proofs.Joins.{joined3}
use Rattle.oci_docs.proofs.writer.put_civil.Goals as goal

pub returns : goal.returns
returns c = joined3 _ _ _ _ _ _ _ c.in_ok-put_date.ensures c.in_ok-push_str.ensures.bytes c.in_ok-put_clock.ensures
