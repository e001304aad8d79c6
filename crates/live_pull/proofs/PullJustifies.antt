-- A live pull is justified by its exchanges, and confined.
use Rattle.std.proofs.Common.{◌≡◌, List, Some, None, Result, Ok, Err}
use Rattle.oci_names.specs.declared.reference.Reference.{Reference}
use Rattle.oci_names.specs.Reference.{mirror_of}
use Rattle.engine_rows.specs.Confined.{Within}
use Rattle.engine_rows.specs.Held.{pulling}
use Rattle.registry_calls.specs.Clients.{Kept}
use Rattle.cosign_parts.specs.declared.layer.SignatureLayer.{SignatureLayer}
use Rattle.cosign_chain.specs.declared.image.VerifiedImage.{VerifiedImage}
use Rattle.cosign_rows.specs.Causes.{PullCause}
use Rattle.cosign_rows.specs.Snapshots.{snapshot}
use Rattle.cosign_rows.specs.Sound.{Backed}
use Rattle.cosign_rows.specs.declared.refusal.PullRefusal.{PullRefusal}
use Rattle.cosign_laws.proofs.Causes.{pull_cause}
use Rattle.cosign_laws.proofs.Chains.{backed_of, chain_of}
use Rattle.cosign_laws.proofs.Confinement.{pull_confined, search_confined}
use Rattle.live_host.specs.Everyone.{everyone}
use Rattle.live_host.specs.Wire.{Wire}
use Rattle.live_host.specs.declared.answers.Answers.{Answers}
use Rattle.live_pull.specs.Justified.{Confined, Justified}
use Rattle.live_pull.specs.Parts.{IsKept}
use Rattle.live_pull.specs.Pulls.{Collects, Transfer, context_of, meaning_of, pull_row, search_row}
use Rattle.live_pull.specs.declared.settings.LiveSettings.{LiveSettings}
use Rattle.live_pull.proofs.Transfers.{holds_by, meets, search_holds}

module _ (settings : LiveSettings) (image : Reference) where
  pub search_stays : (direct : mirror_of image ≡ None) (k l : Kept) (old new : Wire) (layers : List SignatureLayer) (collects : Collects (search_row settings image) old new k l layers) → Confined (context_of settings) image settings.auth k l collects.transfer.conversation
  search_stays direct k l old new layers collects =
      search_holds (search_row settings image) (λ c. Within (pulling k.0 (context_of settings) image (Some settings.auth)) (context_of settings).settings l.0 c) old new k l layers collects
      (λ a b met. search_confined (everyone settings.log_keys) (context_of settings) image settings.auth collects.answer direct met)

  module _ (answers : Answers) (k l : Kept) (old new : Wire) where
    pub pull_justified : (r : Result VerifiedImage PullRefusal) → IsKept r → (t : Transfer (pull_row settings answers image) old new k l r)
        → Justified (meaning_of settings answers) (context_of settings) image settings.auth settings.accepted k l t.conversation t.faults r
    pull_justified (Ok v) kept t =
        let met = meets (pull_row settings answers image) old new k l (Ok v) kept t in (
          chain_of k (context_of settings) (meaning_of settings answers) image settings.auth settings.accepted (Ok v) met,
          holds_by (pull_row settings answers image) (λ c. Backed k (context_of settings) image settings.auth c v) old new k l (Ok v) t
              (backed_of k (context_of settings) (meaning_of settings answers) image settings.auth settings.accepted (Ok v) met),
        )
    pull_justified (Err e) kept t =
        holds_by (pull_row settings answers image) (λ c. PullCause (meaning_of settings answers) (context_of settings) image settings.auth settings.accepted (snapshot k 0) c (snapshot l t.faults) e) old new k l (Err e) t
        (pull_cause (meaning_of settings answers) (context_of settings) image settings.auth settings.accepted (Err e) (meets (pull_row settings answers image) old new k l (Err e) kept t))

    pub pull_stays : (direct : mirror_of image ≡ None) (r : Result VerifiedImage PullRefusal) → IsKept r → (t : Transfer (pull_row settings answers image) old new k l r) → Confined (context_of settings) image settings.auth k l t.conversation
    pull_stays direct r kept t =
        holds_by (pull_row settings answers image) (λ c. Within (pulling k.0 (context_of settings) image (Some settings.auth)) (context_of settings).settings l.0 c) old new k l r t
        (pull_confined (meaning_of settings answers) (context_of settings) image settings.auth settings.accepted r direct (meets (pull_row settings answers image) old new k l r kept t))
