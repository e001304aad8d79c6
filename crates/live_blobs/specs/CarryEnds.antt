-- What is sent at the end of a carry, and how it ends, by its exit status.
use Rattle.std.specs.Prelude.{◌≡◌, ℕ, Bool, List, [], Result, Ok, Err}
use Rattle.byte_streams.specs.Source.{SourceState}
use Rattle.oci_auth.specs.declared.auth_state.AuthState.{AuthState}
use Rattle.oci_names.specs.Reference.{reference_of}
use Rattle.oci_names.specs.declared.reference.Reference.{Reference}
use Rattle.engine_terms.specs.Contexts.{Context}
use Rattle.engine_terms.specs.declared.error.OciDistributionError.{OciDistributionError}
use Rattle.live_host.specs.HostErrors.{TellCause}
use Rattle.live_host.specs.Wire.{Wire, SendsFrame}
use Rattle.live_host.specs.declared.streams.HostError.{HostError}
use Rattle.live_pull.specs.declared.status.Status.{Status}
use Rattle.live_blobs.specs.Carrying.{Carried}
use Rattle.live_blobs.specs.CarryHeads.{carried_head}
use Rattle.live_blobs.specs.CarryOpening.{target_context, target_state}
use Rattle.live_blobs.specs.Delivery.{RefusalCut, RefusalTold}
use Rattle.live_blobs.specs.Ends.{DeliversBy, EndsBy}
use Rattle.live_blobs.specs.declared.carry_settings.CarrySettings.{CarrySettings}

-- ---- what is sent

-- that the target has the blob, and whether it was pushed; or the error
abbrev pub CarryTold : List ℕ → Result Bool OciDistributionError → Wire → Wire → Type 0
CarryTold digest (Ok pushed) old new = SendsFrame (carried_head digest pushed) [] old new
CarryTold digest (Err e) old new = RefusalTold e old new

-- why it was not sent
abbrev pub CarryCut : List ℕ → Result Bool OciDistributionError → HostError → Wire → Wire → Type 0
CarryCut digest (Ok pushed) h old new = TellCause (carried_head digest pushed, []) h old new
CarryCut digest (Err e) h old new = RefusalCut e h old new

-- how this result was sent, or why not
abbrev pub Delivers : List ℕ → Result Bool OciDistributionError → Status → Wire → Wire → Type 0
Delivers digest = DeliversBy (CarryTold digest) (CarryCut digest)

-- ---- the ends

-- what was sent of a result
abbrev pub Giving : Type 1
Giving = Result Bool OciDistributionError → Wire → Wire → Type 0

-- the blob was carried with this result, and then `Gives` holds for it
pub record CarriedBy (Gives : Giving) (s : Context) (into : Reference) (digest : List ℕ) (k : AuthState)
    (before after : SourceState) (old new : Wire) (r : Result Bool OciDistributionError) : Type 0 where
  pub carried_at : Wire
  pub carried : Carried s into digest k r before after old carried_at
  pub given : Gives r carried_at new

-- the result was sent
abbrev pub CarriedAndTold : Context → Reference → List ℕ → AuthState → SourceState → SourceState → Wire → Wire
    → Result Bool OciDistributionError → Type 0
CarriedAndTold s into digest = CarriedBy (CarryTold digest) s into digest

-- the same, but `e` cut what was sent
abbrev pub CarriedAndCut : Context → Reference → List ℕ → AuthState → SourceState → SourceState → HostError
    → Wire → Wire → Type 0
CarriedAndCut s into digest k before after e old new = (r : Result Bool OciDistributionError)
    × CarriedBy (λ outcome. CarryCut digest outcome e) s into digest k before after old new r

-- What was done by these settings, from one state of the streams and of the source to another: by a new client with the
-- credentials of the target alone.
pub record LiveCarryBy (Gives : Giving) (settings : CarrySettings) (before after : SourceState) (old new : Wire)
    (r : Result Bool OciDistributionError) : Type 0 where
  pub into : Reference
  pub reads : reference_of settings.target.reference ≡ Ok into
  pub done : CarriedBy Gives (target_context settings) into settings.digest (target_state settings.target into)
      before after old new r

abbrev pub LiveCarry : CarrySettings → SourceState → SourceState → Wire → Wire → Result Bool OciDistributionError
    → Type 0
LiveCarry settings = LiveCarryBy (CarryTold settings.digest) settings

-- the same, but `e` cut what was sent
abbrev pub LiveCarryCut : CarrySettings → SourceState → SourceState → HostError → Wire → Wire → Type 0
LiveCarryCut settings before after e old new = (r : Result Bool OciDistributionError)
    × LiveCarryBy (λ outcome. CarryCut settings.digest outcome e) settings before after old new r

abbrev pub CarryEnds : CarrySettings → Status → SourceState → SourceState → Wire → Wire → Type 0
CarryEnds settings s before after old new = EndsBy (LiveCarry settings before after old new)
    (λ e. LiveCarryCut settings before after e old new) s
