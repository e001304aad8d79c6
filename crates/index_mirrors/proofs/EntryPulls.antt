-- The pull of an entry.
use Rattle.std.proofs.Common.{◌≡◌, ℕ, List, [], Some, Result, Err, IfErr, IfOk, refl}
use Rattle.std.specs.FinMap.{FinMap}
use Rattle.std.specs.Result.{IsErrAnd}
use Rattle.std.proofs.lemmas.Result.{err_from_is_err_and}
use Rattle.json_values.specs.Places.{by_bytes}
use Rattle.oci_protocol.specs.Runs.{Meets, Told}
use Rattle.oci_protocol.proofs.Conversations.{Extends-none}
use Rattle.oci_protocol.proofs.Laws.{Meets-memory}
use Rattle.oci_transport.specs.Link.{Link}
use Rattle.engine_terms.specs.Contexts.{within}
use Rattle.registry_calls.specs.Clients.{Client}
use Rattle.registry_calls.specs.Confinement.{StaysConfined}
use Rattle.registry_calls.specs.Error.{FaultCounted}
use Rattle.cosign_chain.specs.Chain.{Chain}
use Rattle.cosign_chain.specs.declared.image.VerifiedImage.{VerifiedImage}
use Rattle.cosign_layers.specs.Satisfying.{CustomVerdict, PolicyContext, policy_context}
use Rattle.cosign_layers.specs.declared.policy.PullPolicy.{PullPolicy}
use Rattle.cosign_parts.specs.Trust.{Valid, Vouching, trust}
use Rattle.cosign_rows.specs.Causes.{PullCause}
use Rattle.cosign_rows.specs.Refusal.{client_refusal, is_memory}
use Rattle.cosign_rows.specs.Snapshots.{snapshot_of}
use Rattle.cosign_rows.specs.Verified.{verified}
use Rattle.cosign_rows.specs.declared.refusal.PullRefusal.{PullRefusal}
use Rattle.cosign_rows.specs.declared.refusal.PullRefusal.TheVariants.{WantOfMemory}
use Rattle.pull_mirror.proofs.Confining.{nothing_asked}
use Rattle.index_mirrors.specs.Pulled.{EntryPulled, entry_client, entry_context}
use Rattle.index_mirrors.specs.Terms.{Source}

-- ---- begun

module _ {V : Type 0} {H : V → Type 0} (policy : PullPolicy V H) (own : CustomVerdict V H) (valid : Valid) (vouched : Vouching) (s : Source) (entry : List ℕ) where
  abbrev under : FinMap by_bytes (List ℕ) → PolicyContext V H
  under keys = policy_context policy own (trust valid vouched keys)

  -- by a client that began as the entry's, and knows these logs
  pub entry_pulled : (keys known : FinMap by_bytes (List ℕ)) (before after : Client) {old new : Link} {r : Result VerifiedImage PullRefusal} → keys ≡ known → before ≡ entry_client s entry
      → Meets is_memory (verified (under keys) (within before.settings s.moment) s.index s.auth s.accepted) old new before.kept after.kept r
      → IfOk r (λ v. Chain (under keys) s.index s.accepted before.settings.platform_resolver v)
      → IfErr r (λ e. Told (λ c. PullCause (under keys) (within before.settings s.moment) s.index s.auth s.accepted (snapshot_of before old) c (snapshot_of after new) e) old new)
      → FaultCounted client_refusal old new r
      → StaysConfined before after s.moment s.index (Some s.auth) old new
      → EntryPulled (under known) s entry old new r
  entry_pulled keys known before after keys_is before_is run chain causes fault confined = record {
    left = after.kept;
    run = rw (keys_is, before_is) at run;
    chain = rw (keys_is, before_is) at chain;
    causes = rw (keys_is, before_is) at causes;
    fault = fault;
    confined = rw before_is at confined;
  }

-- ---- not begun

module _ {V : Type 0} {H : V → Type 0} (p : PolicyContext V H) (s : Source) (entry : List ℕ) (link : Link) where
  pub not_begun : EntryPulled p s entry link link (Err WantOfMemory)
  not_begun = record {
    left = (entry_client s entry).kept;
    run = Meets-memory is_memory (verified p (entry_context s entry) s.index s.auth s.accepted) link (entry_client s entry).kept WantOfMemory refl;
    chain = tt;
    causes = record { conversation = []; told = Extends-none link; holds = tt };
    fault = λ is. absurd (cc is);
    confined = nothing_asked (entry_context s entry) s.index (Some s.auth) link (entry_client s entry).kept.0;
  }

  -- memory ran out before it
  pub not_pulled : (r : Result VerifiedImage PullRefusal) → IsErrAnd r (λ x. x ≡ WantOfMemory) → EntryPulled p s entry link link r
  not_pulled r is = let at = err_from_is_err_and r is in rw (at.1, at.2) not_begun
