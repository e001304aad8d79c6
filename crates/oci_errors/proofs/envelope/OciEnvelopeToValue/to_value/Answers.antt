use Rattle.json_tables.proofs.Whole.{document_again}
use Rattle.oci_errors.specs.Envelope.{envelope_of, envelope_written}
use Rattle.oci_errors.proofs.Errors.{envelope_again}
use Rattle.oci_errors.proofs.envelope.OciEnvelopeToValue.to_value.Goals as goal

pub returns-clause-reads_back : goal.returns-clause-reads_back
unfolding envelope_written
returns-clause-reads_back c none = document_again envelope_of _ _ _ _ (envelope_again c.args.self.now c.in_ok-value.ensures.each.0) none c.in_ok-value.ensures.exact
