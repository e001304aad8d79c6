use Rattle.oci_docs.specs.Writer.{moment_text}
use Rattle.oci_docs.proofs.Joins.{joined3}
use Rattle.oci_docs.proofs.writer.put_time.Goals as goal

pub returns-clause-bytes : goal.returns-clause-bytes
unfolding moment_text
returns-clause-bytes c = joined3 _ _ _ _ _ _ _ c.in_ok-put_civil.ensures c.in_ok-put_fraction.ensures.bytes c.in_ok-push_str.ensures.bytes
