-- What is known of the streams after each step of a transport.
use Rattle.std.proofs.Common.{◌≡◌, ℕ, List, [], ◌∷◌, ◌++◌, Option, sym, subst}
use Rattle.std.proofs.Math.Logic.{∥∥₁_map}
use Rattle.byte_streams.specs.SinkState.{SinkState}
use Rattle.byte_streams.specs.Source.{SourceState}
use Rattle.http_server.specs.declared.log.Log.{Log}
use Rattle.oci_transport.specs.declared.message.AnswerHead.{AnswerHead}
use Rattle.oci_transport.specs.declared.message.Exchange.{Exchange}
use Rattle.oci_transport.specs.declared.message.Request.{Request}
use Rattle.live_link.specs.Asking.{Sends, PieceReply}
use Rattle.live_link.specs.State.{exchange_in, exchanges_by, Holds}
use Rattle.live_link.specs.declared.stage.Heard.{Heard}
use Rattle.live_link.specs.declared.stage.Stage.{Stage}
use Rattle.live_link.specs.declared.stage.Stage.TheVariants.{Open}
use Rattle.live_link.proofs.Kept.{sends, gives}
use Rattle.live_link.proofs.Shown.{one_entry}

holds_sent : {S K : Type 0} (source : S → SourceState) (sink : K → SinkState) (began : List (S × K)) (a b : S) (k l : K) (stage : Stage) (r : Stage × Option AnswerHead) (c : List Exchange) (request : Request) (faults : ℕ)
    → Sends request stage r (source a) (source b) (sink k) (sink l) → Holds source sink began a k stage c
    → Holds source sink began b l r.0 (c ++ exchange_in (source b).left (request, record { head = r.1; faults = faults }) ∷ [])
holds_sent source sink [] a b k l stage r c request faults came holds = tt
holds_sent source sink (first ∷ later) a b k l stage r c request faults came holds =
    λ taken left took leaves. sends taken left (sink k) (sink l) (source a) (source b) stage r c request faults (holds taken left took leaves) came

-- after a request
pub after_request : {S K : Type 0} (source : S → SourceState) (sink : K → SinkState) (began : List (S × K)) (items later : List (S × Log Request Heard)) (a b : S) (k l : K) (said : Log Request Heard)
    → (stage : Stage) (r : Stage × Option AnswerHead) (request : Request) (faults : ℕ)
    → later ≡ items ++ (b, said) ∷ [] → said.items ≡ (request, record { head = r.1; faults = faults }) ∷ []
    → Sends request stage r (source a) (source b) (sink k) (sink l)
    → ∥ Holds source sink began a k stage (exchanges_by source items) ∥₁ → ∥ Holds source sink began b l r.0 (exchanges_by source later) ∥₁
after_request source sink began items later a b k l said stage r request faults is one came holds =
    ∥∥₁_map holds (λ h. subst (Holds source sink began b l r.0) (sym (one_entry source items later b said _ is one))
    (holds_sent source sink began a b k l stage r (exchanges_by source items) request faults came h))

holds_given : {S K : Type 0} (source : S → SourceState) (sink : K → SinkState) (began : List (S × K)) (a b : S) (k l : K) (stage : Stage) (r : Stage × Option (List ℕ)) (c : List Exchange)
    → stage ≡ Open → PieceReply r (source a) (source b) (sink k) (sink l) → Holds source sink began a k stage c → Holds source sink began b l r.0 c
holds_given source sink [] a b k l stage r c opened came holds = tt
holds_given source sink (first ∷ later) a b k l stage r c opened came holds =
    λ taken left took leaves. gives taken left (sink k) (sink l) (source a) (source b) stage r c (holds taken left took leaves) opened came

-- after the request for a piece
pub after_piece : {S K : Type 0} (source : S → SourceState) (sink : K → SinkState) (began : List (S × K)) (a b : S) (k l : K) (stage : Stage) (r : Stage × Option (List ℕ)) (c : List Exchange)
    → stage ≡ Open → PieceReply r (source a) (source b) (sink k) (sink l)
    → ∥ Holds source sink began a k stage c ∥₁ → ∥ Holds source sink began b l r.0 c ∥₁
after_piece source sink began a b k l stage r c opened came holds = ∥∥₁_map holds (holds_given source sink began a b k l stage r c opened came)
