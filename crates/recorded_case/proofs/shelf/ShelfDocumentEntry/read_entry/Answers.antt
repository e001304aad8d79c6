use Rattle.json_tables.proofs.Refusals.{passed_on, behind}
use Rattle.recorded_case.specs.Shelf.{document_of}
use Rattle.recorded_case.proofs.shelf.ShelfDocumentEntry.read_entry.Goals as goal

pub returns-in_err-media_type : goal.returns-in_err-media_type
unfolding document_of
returns-in_err-media_type c =
    passed_on _ _ _ (behind _ _ c.in_ok-only.ensures (c.in_err-media_type.ensures.refused _)) c.from_residual-in_err-media_type.ensures
