-- A pull by the settings is the same whatever a policy's boxes mean, since the settings contain none.
use Rattle.std.proofs.Common.{◌≡◌, false, refl, ap, ◌∙◌}
use Rattle.oci_names.specs.declared.reference.Reference.{Reference}
use Rattle.cosign_layers.specs.Satisfying.{CustomVerdict, policy_context}
use Rattle.cosign_layers.specs.declared.policy.PullPolicy.{PullPolicy}
use Rattle.cosign_rows.specs.Verified.{verified}
use Rattle.cosign_laws.proofs.Meanings.{verified_same}
use Rattle.recorded_case.specs.Policy.{constraints_by}
use Rattle.recorded_case.proofs.Written.{no_item_same, stands_same}
use Rattle.live_host.specs.declared.answers.Answers.{Answers}
use Rattle.live_pull.specs.Pulls.{context_of, meaning_of, pull_row, trust_of}
use Rattle.live_pull.specs.declared.settings.LiveSettings.{LiveSettings}

pub policy_is : {V : Type 0} {H : V → Type 0} (policy : PullPolicy V H) (settings : LiveSettings) → policy.keys ≡ settings.keys → policy.constraints ≡ constraints_by settings.constraints → policy ≡ record { keys = settings.keys; constraints = constraints_by settings.constraints }
policy_is policy settings keys constraints = rw (← keys, ← constraints) refl

-- the row of the policy that the settings yield is that of the settings
pub row_same : {V : Type 0} {H : V → Type 0} (policy : PullPolicy V H) (own : CustomVerdict V H) (settings : LiveSettings) (answers : Answers) (image : Reference) → policy ≡ record { keys = settings.keys; constraints = constraints_by settings.constraints }
    → verified (policy_context policy own (trust_of settings answers)) (context_of settings) image settings.auth settings.accepted ≡ pull_row settings answers image
row_same {V} {H} policy own settings answers image is =
    ap (λ (p : PullPolicy V H). verified (policy_context p own (trust_of settings answers)) (context_of settings) image settings.auth settings.accepted) is
    ∙ verified_same (policy_context (record { keys = settings.keys; constraints = constraints_by settings.constraints }) own (trust_of settings answers)) (meaning_of settings answers) (context_of settings) image settings.auth settings.accepted
    (no_item_same V ⊥ H (λ v. ⊥) settings.constraints)
    (λ layer. stands_same V ⊥ H (λ v. ⊥) own (λ box layer. false) settings.keys settings.constraints (trust_of settings answers).valid layer) refl
