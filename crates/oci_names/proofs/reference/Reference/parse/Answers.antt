use Rattle.oci_names.proofs.ParseAnswers.{of_grammar}
use Rattle.oci_names.proofs.reference.Reference.parse.Goals as goal

pub returns-clause-grammar : goal.returns-clause-grammar
returns-clause-grammar c = of_grammar c.args.text.now c.read.result c.read.ensures.ok c.read.ensures.err
