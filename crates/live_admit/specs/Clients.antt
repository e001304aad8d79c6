-- The clients of the rules, and what they keep between reviews.
use Rattle.std.specs.Prelude.{◌≡◌, List, [], ◌∷◌, map, Some, Result, Ok, Err}
use Rattle.oci_auth.specs.AuthState.{fresh}
use Rattle.oci_auth.specs.Cache.{bounded}
use Rattle.registry_cache.specs.declared.answers.Bounds.{Bounds}
use Rattle.registry_calls.specs.Clients.{Kept, none_kept}
use Rattle.registry_calls.specs.Log.{LoggedCall, IsRun, IsBacked}
use Rattle.cosign_client.specs.State.{client_state}
use Rattle.live_admit.specs.declared.rule.Rule.{Rule}
use Rattle.live_host.specs.declared.streams.HostError.{HostError}
use Rattle.live_pull.specs.Pulls.{client_settings}
use Rattle.live_pull.specs.declared.settings.LiveSettings.{LiveSettings}
use Rattle.live_pull.specs.declared.status.Status.{Status}
use Rattle.live_pull.specs.Keeping.{IsWithin, StoresOnly}
use Rattle.live_pull.specs.Status.{StatusCause}
use Rattle.live_admit.specs.Settings.{Rules}
use Rattle.live_admit.specs.declared.clients.RuleClient.{RuleClient}

-- how many responses a client caches, and how many bytes of them
abbrev pub client_bounds : Bounds
client_bounds = record { answers = 1000; bytes = 33554432 }

-- a new client keeps nothing: it caches within the bounds, and stores as many tokens
abbrev pub nothing_kept : Kept
nothing_kept = (
  record (fresh 60) { tokens = bounded client_bounds.answers (fresh 60).tokens },
  Some (none_kept (Some client_bounds)),
)

-- the client of a rule between reviews: the rule's settings, what it keeps, and its calls so far, the latest first
pub record ClientState : Type 0 where
  pub settings : LiveSettings
  pub kept : Kept
  pub calls : List LoggedCall

-- the rules with their clients
abbrev pub States : Type 0
States = List (Rule ClientState)

abbrev pub new_state : Rule LiveSettings → Rule ClientState
new_state rule = record {
  images = rule.images;
  settings = record { settings = rule.settings; kept = nothing_kept; calls = [] };
}

-- a new client for each rule
abbrev pub new_states : Rules → States
new_states rules = map new_state rules

-- ---- the clients of the program

-- This client is in this state. The responses of its calls are of calls that were made in full less than 60 seconds
-- before (`IsRun`), and so is what it has cached (`IsBacked`), within the bounds; it stores no credentials but the
-- rule's.
pub record IsIn (held : Rule RuleClient) (state : Rule ClientState) : Type 0 where
  pub images : held.images ≡ state.images
  pub settings : held.settings.settings ≡ state.settings.settings
  pub client : client_state held.settings.client
      ≡ record { settings = client_settings state.settings.settings; kept = state.settings.kept }
  pub log_keys : held.settings.client.rekor_pub_keys ≡ state.settings.settings.log_keys
  pub run : IsRun (client_settings state.settings.settings) state.settings.calls
  pub backed : IsBacked (client_settings state.settings.settings) state.settings.kept.1 state.settings.calls
  pub bounds : IsWithin client_bounds state.settings.kept.1
  pub credentials : StoresOnly state.settings.settings.auth state.settings.kept.0

abbrev pub AreIn : List (Rule RuleClient) → States → Type 0
AreIn [] [] = Unit {0}
AreIn [] (state ∷ states) = ⊥
AreIn (held ∷ helds) [] = ⊥
AreIn (held ∷ helds) (state ∷ states) = IsIn held state × AreIn helds states

-- a value with a property; or why there is none, by what broke the streams
abbrev pub Gives : {A : Type 0} → (A → Type 0) → (HostError → Type 0) → Result A Status → Type 0
Gives P Cut (Ok x) = P x
Gives P Cut (Err s) = StatusCause Cut s

-- From each state in which these clients are: a value for which `P` holds of that state and of the one in which they
-- are then; or why there is none, for which `Cut` holds of that state.
abbrev pub Leads : {A : Type 0} → List (Rule RuleClient) → List (Rule RuleClient)
    → (States → States → A → Type 0) → (States → HostError → Type 0) → Result A Status → Type 0
Leads old_clients new_clients P Cut result = (before : States) → AreIn old_clients before
    → Gives (λ x. (after : States) × AreIn new_clients after × P before after x) (Cut before) result

-- the same of one of them, which is left in a state
abbrev pub LeadsOne : {A : Type 0} → Rule RuleClient → Rule RuleClient
    → (Rule ClientState → ClientState → A → Type 0) → (Rule ClientState → HostError → Type 0) → Result A Status → Type 0
LeadsOne old_client new_client P Cut result = (before : Rule ClientState) → IsIn old_client before
    → Gives (λ x. (left : ClientState) × IsIn new_client (record before { settings = left }) × P before left x)
    (Cut before) result
