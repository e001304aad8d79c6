-- A live pull of documents, from its settings on.
use Rattle.std.specs.Prelude.{◌≡◌, true, Result, Ok}
use Rattle.oci_names.specs.Reference.{reference_of}
use Rattle.oci_names.specs.declared.reference.Reference.{Reference}
use Rattle.registry_calls.specs.Clients.{Kept}
use Rattle.cosign_client.specs.Clients.{fresh}
use Rattle.cosign_chain.specs.declared.verified_documents.VerifiedDocuments.{VerifiedDocuments}
use Rattle.cosign_rows.specs.declared.refusal.PullRefusal.{PullRefusal}
use Rattle.live_host.specs.Wire.{Wire}
use Rattle.live_pull.specs.declared.settings.LiveSettings.{LiveSettings}
use Rattle.live_pull.specs.Course.{Course}
use Rattle.live_pull.specs.DocumentsJustified.{Justified}
use Rattle.live_pull.specs.Rows.{asks_of, collect_row, decide_row}

-- What was done by these settings, from one state of the streams to another: layers were searched once, by a new
-- client; the host was asked about them; the documents were decided on under its answers; and the result was sent.
-- Documents hold under the host's answers and come from what was received, an error has its cause, and both parts are
-- confined.
pub record LiveDocuments (settings : LiveSettings) (r : Result VerifiedDocuments PullRefusal) (old new : Wire)
    : Type 0 where
  pub image : Reference
  pub reads : reference_of settings.reference ≡ Ok image
  pub left : Kept
  pub course : Course (asks_of settings) (collect_row settings image) (decide_row settings image) (fresh true)
      left old new r
  pub justified : Justified settings image (fresh true) left old new r course
