-- How the generated image is pulled: by a new client that requests it by its tag, under a policy with one key.
use Rattle.std.specs.Prelude.{ℕ, false, List, [], ◌∷◌, Some, None, codes, ◌≤◌, Result, IfErr}
use Rattle.std.specs.FinMap as map
use Rattle.oci_names.specs.declared.reference.Reference.{Reference}
use Rattle.oci_auth.specs.AuthState.{fresh as nothing_kept}
use Rattle.oci_auth.specs.declared.auth.RegistryAuth.TheVariants.{Anonymous}
use Rattle.oci_protocol.specs.Runs.{Meets, Told}
use Rattle.oci_transport.specs.Link.{Link}
use Rattle.engine_rows.specs.Confined.{Within}
use Rattle.engine_rows.specs.Held.{pulling}
use Rattle.engine_terms.specs.Contexts.{Context, within}
use Rattle.engine_terms.specs.declared.settings.ClientProtocol.TheVariants.{Http}
use Rattle.engine_terms.specs.declared.settings.Settings.{Settings}
use Rattle.registry_calls.specs.Clients.{Kept}
use Rattle.cosign_layers.specs.Satisfying.{PolicyContext, CustomVerdict, policy_context}
use Rattle.cosign_parts.specs.Trust.{Trust, trust}
use Rattle.cosign_parts.specs.Verifier.{valid_in}
use Rattle.cosign_layers.specs.declared.constraint.Constraint.{Constraint}
use Rattle.cosign_layers.specs.declared.constraint.Constraint.TheVariants.{Annotations}
use Rattle.cosign_layers.specs.declared.policy.PullPolicy.{PullPolicy}
use Rattle.cosign_parts.specs.declared.verifier.SignedRow.{SignedRow}
use Rattle.cosign_chain.specs.declared.image.VerifiedImage.{VerifiedImage}
use Rattle.cosign_rows.specs.Causes.{PullCause}
use Rattle.cosign_rows.specs.Snapshots.{snapshot}
use Rattle.cosign_rows.specs.Refusal.{is_memory}
use Rattle.cosign_rows.specs.Verified.{Whole, verified}
use Rattle.cosign_rows.specs.declared.refusal.PullRefusal.{PullRefusal}
use Rattle.pull_generated.specs.Shelf.{payload_of}
use Rattle.pull_generated.specs.Texts.{sha256_text, layer_type}

-- ---- the client and its arguments

abbrev pub generated_settings : Settings
generated_settings = record {
  protocol = Http;
  user_agent = codes "oci-client/0.18.0";
  max_body_bytes = 4294967295;
  use_monolithic_push = false;
  platform_resolver = None;
}

abbrev pub generated_context : Context
generated_context = within generated_settings 100

-- a new client without a cache
abbrev pub fresh : Kept
fresh = (nothing_kept 60, None)

abbrev pub generated_reference : Reference
generated_reference = record {
  registry = codes "localhost:5000";
  mirror = None;
  repository = codes "gen";
  tag = Some (codes "v1");
  digest = None;
}

abbrev pub generated_types : List (List ℕ)
generated_types = layer_type ∷ []

-- ---- the policy

-- accepts each layer
abbrev pub any_layer : {V : Type 0} {H : V → Type 0} → Constraint V H
any_layer = Annotations (record { annotations = map.empty })

-- one key, and that constraint
abbrev pub generated_policy : {V : Type 0} {H : V → Type 0} → PullPolicy V H
generated_policy = record { keys = codes "k1" ∷ []; constraints = any_layer ∷ [] }

-- the signature of the payload of the image with `n` layers
abbrev pub signed_row : ℕ → SignedRow
signed_row n = record { key = codes "k1"; message = sha256_text (payload_of n); signature = codes "sig1" }

-- only that signature is valid; no certificate is vouched for, and no log is known
abbrev pub generated_trust : ℕ → Trust
generated_trust n = trust (valid_in (record { rows = signed_row n ∷ [] })) (λ evidence. None) map.empty

-- whatever a caller's box accepts: the policy has none
abbrev pub meaning_with : {V : Type 0} {H : V → Type 0} → CustomVerdict V H → ℕ → PolicyContext V H
meaning_with own n = policy_context generated_policy own (generated_trust n)

abbrev pub generated_meaning : ℕ → PolicyContext ⊥ (λ v. ⊥)
generated_meaning n = meaning_with (λ box layer. false) n

-- ---- the pull

abbrev pub generated_row : ℕ → Whole VerifiedImage
generated_row n = verified (generated_meaning n) generated_context generated_reference Anonymous generated_types

-- a run of it by a new client
abbrev pub PullsGenerated : ℕ → Link → Link → Result VerifiedImage PullRefusal → Type 0
PullsGenerated n old new result = (kept : Kept) × Meets is_memory (generated_row n) old new fresh kept result

-- a refusal has its cause in the exchanges, from a new client to its state afterwards
abbrev pub IsCaused : ℕ → Link → Link → Result VerifiedImage PullRefusal → Type 0
IsCaused n old new result = (kept : Kept) × IfErr result (λ e. Told
    (λ c. PullCause (generated_meaning n) generated_context generated_reference Anonymous generated_types
    (snapshot fresh old.faults) c (snapshot kept new.faults) e) old new)

-- a token was sent only to `localhost:5000` and to the realm that it names, from a new client to its state afterwards
abbrev pub IsConfined : Link → Link → Type 0
IsConfined old new = (kept : Kept) × Told
    (Within (pulling fresh.0 generated_context generated_reference (Some Anonymous)) generated_settings kept.0) old new

abbrev pub IsCount : ℕ → Type 0
IsCount n = (1 ≤ n) × (n ≤ 1000)
