use Rattle.std.proofs.Common.{◌≡◌, rules}
use Rattle.oci_names.specs.Reference.{reads_back}
use Rattle.oci_names.proofs.ReadsBack.{reads_back-tells}
use Rattle.oci_names.proofs.reference.Reference.reads_back.Goals as goal

pub returns-clause-same : goal.returns-clause-same
returns-clause-same c =
    let value : c.in_ok-is_same.is_same ≡ reads_back c.args.self.now = search rules in
    reads_back-tells c.args.self.now c.in_ok-is_same.is_same value
