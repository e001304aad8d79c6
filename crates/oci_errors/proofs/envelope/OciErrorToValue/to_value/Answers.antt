use Rattle.json_tables.proofs.Whole.{document_again}
use Rattle.oci_errors.specs.Envelope.{error_of}
use Rattle.oci_errors.proofs.envelope.OciErrorToValue.to_value.Goals as goal

pub returns-clause-reads_back : goal.returns-clause-reads_back
returns-clause-reads_back c none = document_again error_of _ _ _ _ c.in_ok-value.ensures.again none c.in_ok-value.ensures.exact
