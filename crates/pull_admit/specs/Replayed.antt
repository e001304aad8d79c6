-- A review over a replay of a registry's responses.
use Rattle.std.specs.Prelude.{ℕ, IsTrue, List, Some}
use Rattle.std.specs.FinMap.{FinMap}
use Rattle.json_values.specs.Places.{by_bytes}
use Rattle.oci_transport.specs.FaultsOnlyWhere.{faults_only_where}
use Rattle.oci_transport.specs.Link.{AnsweredBy}
use Rattle.oci_transport.specs.declared.message.Exchange.{Exchange}
use Rattle.engine_terms.specs.declared.settings.Settings.{Settings}
use Rattle.registry_cache.specs.Auths.{registry_auth}
use Rattle.registry_calls.specs.Clients.{Kept}
use Rattle.cosign_parts.specs.Judge.{vouched_in}
use Rattle.cosign_parts.specs.Trust.{trust}
use Rattle.cosign_parts.specs.Verifier.{valid_in}
use Rattle.cosign_layers.specs.Satisfying.{CustomVerdict}
use Rattle.cosign_rows.specs.Snapshots.{Snapshot, snapshot}
use Rattle.recorded_case.specs.Registry.{answering_by}
use Rattle.recorded_case.specs.declared.registry.Registry.{Registry}
use Rattle.pulled_cases.specs.declared.opening.Terms.{Terms}
use Rattle.pulled_cases.specs.declared.report.Report.{Report}
use Rattle.pull_admit.specs.Decided.{PullTerms, Reviewed, terms_by}
use Rattle.pod_reviews.specs.declared.asked.Review.{Review}
use Rattle.pull_admit.specs.declared.decision.Decision.{Decision}
use Rattle.pull_admit.specs.ReviewResponses.{IsResponse}

-- the terms of an opened case, for any image
abbrev pub terms_for : {V : Type 0} {H : V → Type 0} → CustomVerdict V H → Terms V H → FinMap by_bytes (List ℕ)
    → Settings → ℕ → PullTerms V H
terms_for own terms log_keys settings moment =
    terms_by terms.policy own (trust (valid_in terms.verifier) (vouched_in terms.judge) log_keys) settings moment
    (registry_auth terms.auth) terms.accepted

-- the response of decisions by these terms over the responses of this registry, by a client in this state
pub record RespondsOver {V : Type 0} {H : V → Type 0} (t : PullTerms V H) (registry : Registry) (k : Kept)
    (review : Review) (made : Report) : Type 0 where
  pub decisions : List Decision
  pub conversation : List Exchange
  pub end : Snapshot
  pub reviewed : Reviewed (Some (answering_by registry)) 0 t review.images (snapshot k 0) conversation end decisions
  pub answered : AnsweredBy (answering_by registry) 0 conversation
  pub calm_is : IsTrue (faults_only_where (answering_by registry).fails 0 conversation end.faults)
  pub response : IsResponse review decisions made
