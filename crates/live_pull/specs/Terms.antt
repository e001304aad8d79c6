-- The pull by given terms, whatever a policy's boxes mean.
use Rattle.std.specs.Prelude.{◌≡◌, ℕ, false, List, Result, Ok, Err}
use Rattle.std.specs.FinMap.{FinMap}
use Rattle.json_values.specs.Places.{by_bytes}
use Rattle.engine_terms.specs.Contexts.{within}
use Rattle.engine_terms.specs.declared.settings.Settings.{Settings}
use Rattle.registry_calls.specs.Clients.{Kept}
use Rattle.registry_cache.specs.Auths.{registry_auth}
use Rattle.registry_calls.specs.Direct.{reference_in}
use Rattle.cosign_layers.specs.Satisfying.{CustomVerdict, policy_context}
use Rattle.cosign_parts.specs.Trust.{trust}
use Rattle.cosign_chain.specs.declared.image.VerifiedImage.{VerifiedImage}
use Rattle.cosign_rows.specs.Refusal.{is_memory}
use Rattle.cosign_rows.specs.Verified.{Whole, verified}
use Rattle.cosign_rows.specs.declared.refusal.PullRefusal.{PullRefusal}
use Rattle.live_host.specs.Answers.{valid_by, vouched_by}
use Rattle.live_host.specs.Wire.{Wire}
use Rattle.live_host.specs.declared.answers.Answers.{Answers}
use Rattle.live_pull.specs.Pulls.{Transfer}
use Rattle.live_pull.specs.declared.pulls.Terms.{Terms}

-- the pull by these terms, under the host's answers, by a client with these settings that knows these logs
abbrev pub row_for : {V : Type 0} {H : V → Type 0}
    → CustomVerdict V H → Terms V H → Answers → FinMap by_bytes (List ℕ) → Settings → Whole VerifiedImage
row_for own terms answers log_keys settings =
    verified (policy_context terms.policy own (trust (valid_by answers) (vouched_by answers) log_keys))
    (within settings terms.moment) (reference_in terms.image) (registry_auth terms.auth) terms.accepted

-- a complete run of the pull, unless memory ran out
abbrev pub PulledBy : {A : Type 0} → Whole A → Wire → Wire → Kept → Kept → Result A PullRefusal → Type 0
PulledBy row old new k l (Ok v) = Transfer row old new k l (Ok v)
PulledBy row old new k l (Err e) = is_memory e ≡ false → Transfer row old new k l (Err e)
