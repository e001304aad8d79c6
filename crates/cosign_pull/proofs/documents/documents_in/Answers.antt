use Rattle.std.proofs.Common.{Ok, Err, refl}
use Rattle.oci_names.specs.Reference.{whole_text}
use Rattle.registry_calls.specs.declared.error_context.Called.TheVariants.{Pull}
use Rattle.cosign_rows.specs.Image.{document_in}
use Rattle.cosign_rows.proofs.Exits.{and_then, refused, worded_said, done}
use Rattle.cosign_pull.proofs.documents.documents_in.Goals as goal

pub returns-in_err-document : goal.returns-in_err-document
returns-in_err-document g c = λ s. refused _ (worded_said Pull (whole_text c.args.source.now) c.document_in-read.result (document_in c.args.asked.now.image.now c.args.first) (Err c.in_err-document.field-0.0) c.document_in-read.ensures.reads c.in_err-document.ensures) c.from_residual.ensures.1

pub returns-in_err-chosen : goal.returns-in_err-chosen
returns-in_err-chosen g c = λ s. and_then _ (worded_said Pull (whole_text c.args.source.now) c.document_in-read.result (document_in c.args.asked.now.image.now c.args.first) (Ok c.in_ok-document.document) c.document_in-read.ensures.reads c.in_ok-document.ensures)
    (refused _ (c.in_err-chosen.ensures.run s) c.from_residual-in_err-chosen.ensures.1)

pub returns : goal.returns
returns g c = λ s. and_then _ (worded_said Pull (whole_text c.args.source.now) c.document_in-read.result (document_in c.args.asked.now.image.now c.args.first) (Ok c.in_ok-document.document) c.document_in-read.ensures.reads c.in_ok-document.ensures)
    (and_then _ (c.in_ok-chosen.ensures.run s) done)
