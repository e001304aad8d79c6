-- How the parts of a carry fit together, and how it ends.
use Rattle.std.proofs.Common.{◌≡◌, inl, inr, ℕ, Bool, true, false, List, Result, Ok, Err, refl, sym, subst}
use Rattle.byte_streams.specs.Source.{SourceState}
use Rattle.oci_auth.specs.declared.auth_state.AuthState.{AuthState}
use Rattle.oci_engine.specs.Kept.{auth_state_of}
use Rattle.oci_names.specs.declared.reference.Reference.{Reference}
use Rattle.engine_terms.specs.Contexts.{Context, within}
use Rattle.engine_terms.specs.declared.error.OciDistributionError.{OciDistributionError}
use Rattle.push_rows.specs.declared.responses.PushBlobStreamChunkedResponse.{PushBlobStreamChunkedResponse}
use Rattle.live_host.specs.Wire.{Wire}
use Rattle.live_host.specs.declared.streams.HostError.{HostError}
use Rattle.live_pull.specs.declared.status.Status.{Status}
use Rattle.live_blobs.specs.Carrying.{Asks, Carried, Compares, Lacked, Pushes, Unless}
use Rattle.live_blobs.specs.CarryEnds.{CarriedAndCut, CarriedAndTold, CarriedBy, CarryCut, CarryEnds, CarryTold, Delivers, Giving, LiveCarry, LiveCarryBy, LiveCarryCut}
use Rattle.live_blobs.specs.CarryOpening.{Opens}
use Rattle.live_blobs.specs.Ends.{EndsBy, IsKept}
use Rattle.live_blobs.specs.declared.carry_opening.Opened.{Opened}
use Rattle.live_blobs.specs.declared.carry_settings.CarrySettings.{CarrySettings}
use Rattle.live_blobs.proofs.Delivered.{ends_as}

-- ---- the course

module _ (s : Context) (into : Reference) (digest : List ℕ) (k : AuthState) (before after : SourceState) (old new : Wire) where
  pub compared : (response : PushBlobStreamChunkedResponse) (r : Result Bool OciDistributionError) → Pushes s into k (Ok response) before after old new → Unless (Compares digest response) r → Unless (λ y. Lacked s into digest k y before after old new) r
  compared response (Ok pushed) pushes h = record { response = response; pushes = pushes; compares = h }
  compared response (Err e) pushes h = λ kept. inr (record { response = response; pushes = pushes; compares = h kept })

  pub unpushed : (e : OciDistributionError) → Unless (λ y. Pushes s into k y before after old new) (Err e) → Unless (λ y. Lacked s into digest k y before after old new) (Err e)
  unpushed e h = λ kept. inl (h kept)

module _ (s : Context) (into : Reference) (digest : List ℕ) (k left : AuthState) (before : SourceState) (old new : Wire) where
  pub was_there : Asks s into digest k left (Ok true) old new → Carried s into digest k (Ok false) before before old new
  was_there asked = record { left = left; asked = asked; untaken = refl }

  pub unasked : (e : OciDistributionError) → Unless (λ y. Asks s into digest k left y old new) (Err e) → Unless (λ y. Carried s into digest k y before before old new) (Err e)
  unasked e h = λ kept. inl (record { left = left; asked = h kept; untaken = refl })

pub lacked : (s : Context) (into : Reference) (digest : List ℕ) (k left : AuthState) (before after : SourceState) (old at new : Wire) (r : Result Bool OciDistributionError) → Asks s into digest k left (Ok false) old at → Unless (λ y. Lacked s into digest left y before after at new) r → Unless (λ y. Carried s into digest k y before after old new) r
lacked s into digest k left before after old at new (Ok true) asked h = record { left = left; asked_at = at; asked = asked; lacked = h }
lacked s into digest k left before after old at new (Ok false) asked h = absurd h.compares
lacked s into digest k left before after old at new (Err e) asked h = λ kept. inr (record { left = left; asked_at = at; asked = asked; lacked = h kept })

-- ---- what is sent

unless : {A : Type 0} (P : Result A OciDistributionError → Type 0) (r : Result A OciDistributionError) → IsKept r → Unless P r → P r
unless P (Ok a) kept h = h
unless P (Err e) kept h = h kept

module _ (s : Context) (into : Reference) (digest : List ℕ) (k : AuthState) (before after : SourceState) (old at new : Wire) where
  carried_by : (Gives : Giving) (r : Result Bool OciDistributionError) → IsKept r → Unless (λ y. Carried s into digest k y before after old at) r → Gives r at new → CarriedBy Gives s into digest k before after old new r
  carried_by Gives r kept carried given = record { carried_at = at; carried = unless (λ y. Carried s into digest k y before after old at) r kept carried; given = given }

  pub delivered : (status : Status) (r : Result Bool OciDistributionError) → Unless (λ y. Carried s into digest k y before after old at) r → Delivers digest r status at new
      → EndsBy (CarriedAndTold s into digest k before after old new) (λ e. CarriedAndCut s into digest k before after e old new) status
  delivered status r carried ends = ends_as {P = λ x. (x ≡ r) × CarryTold digest x at new} {Q = CarriedAndTold s into digest k before after old new} {C = λ e. IsKept r × CarryCut digest r e at new} {D = λ e. CarriedAndCut s into digest k before after e old new} status told cut ends where
    told : (x : Result Bool OciDistributionError) → IsKept x → (x ≡ r) × CarryTold digest x at new → CarriedAndTold s into digest k before after old new x
    told x kept h = carried_by (CarryTold digest) x kept (subst (λ (z : Result Bool OciDistributionError). Unless (λ y. Carried s into digest k y before after old at) z) (sym h.0) carried) h.1

    cut : (e : HostError) → IsKept r × CarryCut digest r e at new → CarriedAndCut s into digest k before after e old new
    cut e both = (r, carried_by (λ outcome. CarryCut digest outcome e) r both.0 carried both.1)

-- ---- by the settings

pub live_ends : (settings : CarrySettings) (o : Opened) (status : Status) (before after : SourceState) (old new : Wire) → Opens settings o
    → EndsBy (CarriedAndTold (within o.client.settings o.moment) o.into settings.digest (auth_state_of o.client) before after old new)
    (λ e. CarriedAndCut (within o.client.settings o.moment) o.into settings.digest (auth_state_of o.client) before after e old new) status → CarryEnds settings status before after old new
live_ends settings o status before after old new opens h = ends_as
    {P = CarriedAndTold (within o.client.settings o.moment) o.into settings.digest (auth_state_of o.client) before after old new} {Q = LiveCarry settings before after old new}
    {C = λ e. CarriedAndCut (within o.client.settings o.moment) o.into settings.digest (auth_state_of o.client) before after e old new} {D = λ e. LiveCarryCut settings before after e old new} status
    (λ r kept done. live (CarryTold settings.digest) r done) (λ e both. (both.0, live (λ outcome. CarryCut settings.digest outcome e) both.0 both.1)) h where
      live : (Gives : Giving) (r : Result Bool OciDistributionError) → CarriedBy Gives (within o.client.settings o.moment) o.into settings.digest (auth_state_of o.client) before after old new r → LiveCarryBy Gives settings before after old new r
      live Gives r done = record { into = o.into; reads = opens.into; done = rw (opens.settings, opens.moment, opens.state) at done }
