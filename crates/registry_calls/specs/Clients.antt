-- The state of a registry's client, whatever it caches.
use Rattle.std.specs.Prelude.{◌≡◌, [], Bool, true, false, Option, Some, None, Result, IsErr, unwrap_or}
use Rattle.oci_transport.specs.Link.{Link}
use Rattle.oci_auth.specs.declared.auth_state.AuthState.{AuthState}
use Rattle.oci_protocol.specs.Proto.{Proto}
use Rattle.oci_protocol.specs.Runs.{Meets}
use Rattle.engine_terms.specs.declared.settings.Settings.{Settings}
use Rattle.registry_cache.specs.declared.answers.Answers.{Answers}
use Rattle.registry_cache.specs.declared.answers.Bounds.{Bounds}
use Rattle.registry_calls.specs.declared.error.SigstoreError.{SigstoreError}

-- what a client keeps between its calls: credentials and tokens, and cached responses if it caches
abbrev pub Kept : Type 0
Kept = AuthState × Option Answers

-- an uncached call
abbrev pub Plain : Type 0 → Type 0
Plain A = Proto AuthState (Result A SigstoreError)

abbrev pub Row : Type 0 → Type 0
Row A = Proto Kept (Result A SigstoreError)

pub record Client : Type 0 where
  pub settings : Settings
  pub kept : Kept

-- an empty cache with these bounds
abbrev pub none_kept : Option Bounds → Answers
none_kept bounds = record { bounds = bounds; entries = [] }

-- an empty cache, if the client caches
abbrev pub no_answers : Bool → Option Answers
no_answers true = Some (none_kept None)
no_answers false = None

-- the client caches from now on, and keeps what it has cached already
abbrev pub now_caching : Client → Client
now_caching c = record c { kept = (c.kept.0, Some (unwrap_or c.kept.1 (none_kept None))) }

-- the call of a client with these settings meets this row, and the settings are unchanged
pub record ClientMeets {A E : Type 0} (of_memory : E → Bool) (s : Settings) (p : Proto Kept (Result A E))
    (c d : Client) (old new : Link) (r : Result A E) : Type 0 where
  pub made : c.settings ≡ s → (d.settings ≡ s) × Meets of_memory p old new c.kept d.kept r

-- the cached responses are unchanged
abbrev pub KeepsAnswers : Client → Client → Type 0
KeepsAnswers before after = after.kept.1 ≡ before.kept.1

-- a refusal, also `WantOfMemory`, leaves the cached responses unchanged
abbrev pub RefusalKeeps : {A : Type 0} → Client → Client → Result A SigstoreError → Type 0
RefusalKeeps before after r = IsErr r → KeepsAnswers before after
