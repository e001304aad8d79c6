-- Where the images of an index are pulled from, and how.
use Rattle.std.specs.Prelude.{ℕ, List}
use Rattle.oci_auth.specs.declared.auth.RegistryAuth.{RegistryAuth}
use Rattle.oci_engine.specs.declared.config.ClientConfig.{ClientConfig}
use Rattle.oci_names.specs.declared.reference.Reference.{Reference}
use Rattle.registry_cache.specs.Auths.{registry_auth}
use Rattle.registry_calls.specs.Direct.{reference_in}
use Rattle.cosign_layers.specs.Satisfying.{CustomVerdict, PolicyContext, policy_context}
use Rattle.cosign_parts.specs.Trust.{Valid, Vouching, trust}
use Rattle.index_mirrors.specs.declared.terms.EntryTerms.{EntryTerms}

-- the index by its digest, the credentials, the configuration of the clients, the moment, the accepted types of layers
pub record Source : Type 0 where
  pub index : Reference
  pub auth : RegistryAuth
  pub config : ClientConfig
  pub moment : ℕ
  pub accepted : List (List ℕ)

abbrev pub source_of : {V O W : Type 0} {H : W → Type 0} → EntryTerms V O W H → Source
source_of terms = record {
  index = reference_in terms.index;
  auth = registry_auth terms.auth;
  config = terms.config;
  moment = terms.moment;
  accepted = terms.accepted.now;
}

-- the policy and the trust of these terms, for these meanings of verifiers, judges and boxes
abbrev pub meaning_of : {V O W : Type 0} {H : W → Type 0} → (V → Valid) → (O → Vouching) → CustomVerdict W H
    → EntryTerms V O W H → PolicyContext W H
meaning_of valid vouched own terms =
    policy_context terms.policy.now own (trust (valid terms.verifier.now) (vouched terms.judge.now) terms.log_keys.now)
