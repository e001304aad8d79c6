-- The parts of a copy, by an opened client.
use Rattle.std.specs.Prelude.{◌≡◌, ◌⊎◌, false, List, [], ℕ, Result, Ok, Err}
use Rattle.oci_auth.specs.declared.auth_state.AuthState.{AuthState}
use Rattle.registry_cache.specs.Auths.{registry_auth}
use Rattle.registry_calls.specs.Direct.{reference_in}
use Rattle.oci_engine.specs.Kept.{auth_state_of}
use Rattle.oci_engine.specs.Refusals.{at_moment}
use Rattle.cosign_chain.specs.declared.verified_documents.VerifiedDocuments.{VerifiedDocuments}
use Rattle.live_host.specs.HostErrors.{TellCause}
use Rattle.live_host.specs.Wire.{Wire, SendsAndReceives, SendsFrame}
use Rattle.live_host.specs.declared.streams.HostError.{HostError}
use Rattle.live_pull.specs.Status.{StatusCause}
use Rattle.live_pull.specs.declared.status.Status.{Status}
use Rattle.live_pull.specs.declared.status.Status.TheVariants as status
use Rattle.live_pull.specs.Course.{DocumentsCut, DocumentsTold}
use Rattle.live_copy.specs.declared.refusals.TargetRefusal.{TargetRefusal}
use Rattle.pull_mirror.specs.declared.absences.DocumentsRefusal.{DocumentsRefusal}
use Rattle.pull_mirror.specs.declared.refusals.PushReport.{PushReport}
use Rattle.live_copy.specs.Course.{AtTarget, CopyRefusal, CopyTold, Giving, Pushed, RefusalCut, RefusalTold, ResultCut}
use Rattle.live_copy.specs.Course.{TagsAsked, Uncarried, copied_of, copy_ran_out}
use Rattle.live_copy.specs.Heads.{carried_of, carry_head, side_head}
use Rattle.live_copy.specs.declared.opening.Opened.{Opened}

-- ---- by an opened client

-- it is the same but for the credentials and tokens that its client stores
pub record IsStill (o p : Opened) : Type 0 where
  pub to : p.to ≡ o.to
  pub moment : p.moment ≡ o.moment
  pub settings : p.client.settings ≡ o.client.settings

-- the target was asked what its tags name, unless they may be replaced; the client stores these then
abbrev pub AskedBy : Opened → AuthState → VerifiedDocuments → Result (Unit {0}) TargetRefusal → Wire → Wire → Type 0
AskedBy o l d r old new = TagsAsked o.asks (at_moment o.client o.moment) (reference_in o.to.image)
    (registry_auth o.to.auth) d (auth_state_of o.client) l r old new

-- the documents were copied
abbrev pub PushedBy : Opened → VerifiedDocuments → Result PushReport DocumentsRefusal → Wire → Wire → Type 0
PushedBy o d r old new = Pushed (at_moment o.client o.moment) (reference_in o.to.image) (registry_auth o.to.auth)
    o.to.tag d (auth_state_of o.client) r old new

-- what was done at the target
abbrev pub AtTargetBy : Opened → VerifiedDocuments → Result PushReport CopyRefusal → Wire → Wire → Type 0
AtTargetBy o d r old new = AtTarget o.asks (at_moment o.client o.moment) (reference_in o.to.image)
    (registry_auth o.to.auth) o.to.tag d (auth_state_of o.client) r old new

-- its tags may be pushed, but the host did not reply that it carried the blobs
abbrev pub UncarriedBy : Opened → VerifiedDocuments → HostError → Wire → Wire → Type 0
UncarriedBy o d e old new = Uncarried o.asks (at_moment o.client o.moment) (reference_in o.to.image)
    (registry_auth o.to.auth) d (auth_state_of o.client) e old new

-- ---- one after another

-- the documents were copied, and what became of it was sent, in frames for which `Gives` holds
pub record PushedAndGiven (Gives : Giving) (o : Opened) (d : VerifiedDocuments) (old new : Wire)
    (r : Result PushReport CopyRefusal) : Type 0 where
  pub made : Result PushReport DocumentsRefusal
  pub same : r ≡ copied_of made
  pub pushed_at : Wire
  pub pushed : PushedBy o d made old pushed_at
  pub given : Gives r pushed_at new

-- the host carried the blobs, and then so
pub record CarriedAndPushed (Gives : Giving) (o : Opened) (d : VerifiedDocuments) (old new : Wire)
    (r : Result PushReport CopyRefusal) : Type 0 where
  pub carried_at : Wire
  pub carried : SendsAndReceives carry_head [] carried_of tt old carried_at
  pub pushed : PushedAndGiven Gives o d carried_at new r

-- all that was done at the target, and what became of it was sent
pub record TargetAndGiven (Gives : Giving) (o : Opened) (d : VerifiedDocuments) (old new : Wire)
    (r : Result PushReport CopyRefusal) : Type 0 where
  pub target_at : Wire
  pub target : AtTargetBy o d r old target_at
  pub given : Gives r target_at new

-- the documents were sent, and what follows goes to the target
pub record HandedOver (d : VerifiedDocuments) (old new : Wire) : Type 0 where
  pub given_at : Wire
  pub given : DocumentsTold (Ok d) old given_at
  pub side : SendsFrame side_head [] given_at new

-- both
pub record HandedAndGiven (Gives : Giving) (o : Opened) (d : VerifiedDocuments) (old new : Wire)
    (r : Result PushReport CopyRefusal) : Type 0 where
  pub side_at : Wire
  pub handed : HandedOver d old side_at
  pub target : TargetAndGiven Gives o d side_at new r

-- ---- not to the end

-- why the documents were not sent, or not that what follows goes to the target
abbrev pub HandCut : VerifiedDocuments → HostError → Wire → Wire → Type 0
HandCut d e old new = DocumentsCut (Ok d) e old new
    ⊎ ((given_at : Wire) × DocumentsTold (Ok d) old given_at × TellCause (side_head, []) e given_at new)

-- why there is no result after a decision
abbrev pub FoundCut : Opened → VerifiedDocuments → HostError → Wire → Wire → Type 0
FoundCut o d e old new = HandCut d e old new
    ⊎ ((side_at : Wire) × HandedOver d old side_at × UncarriedBy o d e side_at new)

-- ---- ends

-- By the status: what was done and sent for a result, with `Does` for how it was sent; or `Cut` if there is none.
abbrev pub EndsBy : (Giving → Result PushReport CopyRefusal → Type 0) → (HostError → Type 0) → Status → Type 0
EndsBy Does Cut status.Pulled = (report : PushReport) × Does CopyTold (Ok report)
EndsBy Does Cut status.Refused = (e : CopyRefusal) × (copy_ran_out e ≡ false) × Does CopyTold (Err e)
EndsBy Does Cut other = StatusCause (λ e. Cut e ⊎ ResultCut Does e) other

-- this result was sent, or not
abbrev pub Delivers : Result PushReport CopyRefusal → Status → Wire → Wire → Type 0
Delivers x s old new = EndsBy (λ Gives r. (r ≡ x) × Gives r old new) (λ e. ⊥) s

-- a refusal of this print was sent, or not
abbrev pub EndsTelling : List ℕ → Status → Wire → Wire → Type 0
EndsTelling print status.Refused old new = RefusalTold print old new
EndsTelling print other old new = StatusCause (λ e. RefusalCut print e old new) other
