-- The two parts of a live pull of documents: the search, and the decision over what it found.
use Rattle.std.specs.Prelude.{ℕ, false, List, All}
use Rattle.std.specs.FinMap.{FinMap}
use Rattle.json_values.specs.Places.{by_bytes}
use Rattle.oci_names.specs.declared.reference.Reference.{Reference}
use Rattle.engine_terms.specs.Contexts.{within}
use Rattle.engine_terms.specs.declared.settings.Settings.{Settings}
use Rattle.registry_cache.specs.Auths.{registry_auth}
use Rattle.registry_calls.specs.Direct.{reference_in}
use Rattle.cosign_layers.specs.Satisfying.{CustomVerdict, PolicyContext, policy_context}
use Rattle.cosign_parts.specs.Trust.{trust}
use Rattle.cosign_parts.specs.declared.layer.SignatureLayer.{SignatureLayer}
use Rattle.cosign_chain.specs.declared.verified_documents.VerifiedDocuments.{VerifiedDocuments}
use Rattle.cosign_rows.specs.Verified.{Whole}
use Rattle.cosign_rows.specs.declared.found.TrustedLayers.{TrustedLayers}
use Rattle.cosign_rows.specs.Rows.{collected, decided}
use Rattle.live_host.specs.Answers.{valid_by, vouched_by}
use Rattle.live_host.specs.Everyone.{everyone}
use Rattle.live_host.specs.Questions.{LayerAsked}
use Rattle.live_host.specs.declared.answers.Answers.{Answers}
use Rattle.live_pull.specs.Pulls.{context_of, meaning_of, policy_of}
use Rattle.live_pull.specs.declared.pulls.Terms.{Terms}
use Rattle.live_pull.specs.declared.settings.LiveSettings.{LiveSettings}

-- the policy, under which each signature is valid and each certificate is vouched for
abbrev pub everyone_of : LiveSettings → PolicyContext ⊥ (λ v. ⊥)
everyone_of settings = policy_context (policy_of settings) (λ box layer. false) (everyone settings.log_keys)

-- the search for all layers that may satisfy the policy, whatever the signatures
abbrev pub collect_row : LiveSettings → Reference → Whole TrustedLayers
collect_row settings image = collected (everyone_of settings) (context_of settings) image settings.auth

-- the decision under the host's answers, over what was found
abbrev pub decide_row : LiveSettings → Reference → Answers → TrustedLayers → Whole VerifiedDocuments
decide_row settings image answers found =
    decided (meaning_of settings answers) (context_of settings) image settings.auth found

-- the host was asked about each of these layers
abbrev pub asks_of : LiveSettings → Answers → TrustedLayers → Type 0
asks_of settings answers found = All (LayerAsked answers.list settings.keys settings.log_keys) found.collected

-- ---- the same by given terms, whatever a policy's boxes mean

abbrev pub collect_for : {V : Type 0} {H : V → Type 0}
    → CustomVerdict V H → Terms V H → FinMap by_bytes (List ℕ) → Settings → Whole TrustedLayers
collect_for own terms log_keys settings =
    collected (policy_context terms.policy own (everyone log_keys))
    (within settings terms.moment) (reference_in terms.image) (registry_auth terms.auth)

abbrev pub decide_for : {V : Type 0} {H : V → Type 0}
    → CustomVerdict V H → Terms V H → FinMap by_bytes (List ℕ) → Settings → Answers → TrustedLayers
    → Whole VerifiedDocuments
decide_for own terms log_keys settings answers found =
    decided (policy_context terms.policy own (trust (valid_by answers) (vouched_by answers) log_keys))
    (within settings terms.moment) (reference_in terms.image) (registry_auth terms.auth) found

abbrev pub layers_asked : {V : Type 0} {H : V → Type 0} → Terms V H → FinMap by_bytes (List ℕ) → Answers
    → List SignatureLayer → Type 0
layers_asked terms log_keys answers layers = All (LayerAsked answers.list terms.policy.keys log_keys) layers

abbrev pub asks_for : {V : Type 0} {H : V → Type 0} → Terms V H → FinMap by_bytes (List ℕ) → Answers → TrustedLayers
    → Type 0
asks_for terms log_keys answers found = layers_asked terms log_keys answers found.collected
