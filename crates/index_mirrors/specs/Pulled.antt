-- The pull of one image of an index.
use Rattle.std.specs.Prelude.{ℕ, false, List, Some, Result, IfErr, IfOk}
use Rattle.oci_manifests.specs.declared.promise.ResolverPromise.TheVariants.{Fixed}
use Rattle.oci_engine.specs.declared.config.ClientConfig.{ClientConfig}
use Rattle.oci_protocol.specs.Runs.{Meets, Told}
use Rattle.oci_transport.specs.Link.{Link}
use Rattle.engine_rows.specs.Confined.{Within}
use Rattle.engine_rows.specs.Held.{pulling}
use Rattle.engine_terms.specs.Contexts.{Context, within}
use Rattle.registry_calls.specs.Clients.{Client, Kept}
use Rattle.registry_calls.specs.Error.{FaultCounted}
use Rattle.sig_registry.specs.States.{fresh_state}
use Rattle.cosign_chain.specs.Chain.{Chain}
use Rattle.cosign_chain.specs.declared.image.VerifiedImage.{VerifiedImage}
use Rattle.cosign_layers.specs.Satisfying.{PolicyContext}
use Rattle.cosign_rows.specs.Causes.{PullCause}
use Rattle.cosign_rows.specs.Refusal.{client_refusal, is_memory}
use Rattle.cosign_rows.specs.Snapshots.{snapshot}
use Rattle.cosign_rows.specs.Verified.{verified}
use Rattle.cosign_rows.specs.declared.refusal.PullRefusal.{PullRefusal}
use Rattle.index_mirrors.specs.Terms.{Source}

-- the configuration of a client that selects this entry of an index
abbrev pub entry_config : ClientConfig → List ℕ → ClientConfig
entry_config config entry = record config { platform_resolver = Some (Fixed entry) }

-- a new client of it, which keeps nothing yet
abbrev pub entry_client : Source → List ℕ → Client
entry_client s entry = fresh_state (entry_config s.config entry) false

abbrev pub entry_context : Source → List ℕ → Context
entry_context s entry = within (entry_client s entry).settings s.moment

-- What the pull of an entry did, and its result: a run of the verified pull of the index's digest, by a new client that
-- selects this entry. The image has its chain under the promise of exactly this entry, an error its cause; and
-- credentials and tokens were sent only to the source's registry and to the realm that it names.
pub record EntryPulled {V : Type 0} {H : V → Type 0} (policy_context : PolicyContext V H) (s : Source) (entry : List ℕ)
    (old new : Link) (r : Result VerifiedImage PullRefusal) : Type 0 where
  pub left : Kept
  pub run : Meets is_memory (verified policy_context (entry_context s entry) s.index s.auth s.accepted) old new
      (entry_client s entry).kept left r
  pub chain : IfOk r (λ v. Chain policy_context s.index s.accepted (Some (Fixed entry)) v)
  pub causes : IfErr r (λ e. Told (λ c. PullCause policy_context (entry_context s entry) s.index s.auth s.accepted
      (snapshot (entry_client s entry).kept old.faults) c (snapshot left new.faults) e) old new)
  pub fault : FaultCounted client_refusal old new r
  pub confined : Told (Within (pulling (entry_client s entry).kept.0 (entry_context s entry) s.index (Some s.auth))
      (entry_client s entry).settings left.0) old new
