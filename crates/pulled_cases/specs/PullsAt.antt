-- The pulls so far, with the state of the client and the replay.
use Rattle.std.specs.Prelude.{◌≡◌, ℕ, not, IsTrue, List, ◌∷◌, [], ◌++◌, map, length, Some}
use Rattle.std.specs.FinMap.{FinMap}
use Rattle.oci_transport.specs.Link.{Link, Answering, Extends, AnsweredBy}
use Rattle.oci_transport.specs.declared.message.Exchange.{Exchange}
use Rattle.oci_transport.specs.FaultsOnlyWhere.{faults_only_where}
use Rattle.oci_names.specs.declared.reference.Reference.{Reference}
use Rattle.oci_auth.specs.declared.auth.RegistryAuth.{RegistryAuth}
use Rattle.engine_terms.specs.Contexts.{within}
use Rattle.engine_terms.specs.declared.settings.Settings.{Settings}
use Rattle.registry_calls.specs.Clients.{Kept}
use Rattle.registry_cache.specs.Auths.{registry_auth}
use Rattle.registry_calls.specs.Direct.{reference_in}
use Rattle.json_values.specs.Places.{by_bytes}
use Rattle.cosign_parts.specs.Judge.{vouched_in}
use Rattle.cosign_layers.specs.Satisfying.{PolicyContext, CustomVerdict, policy_context}
use Rattle.cosign_parts.specs.Trust.{trust}
use Rattle.cosign_parts.specs.Verifier.{valid_in}
use Rattle.cosign_rows.specs.Snapshots.{snapshot}
use Rattle.cosign_rows.specs.Verified.{Whole, verified}
use Rattle.cosign_chain.specs.declared.image.VerifiedImage.{VerifiedImage}
use Rattle.recorded_case.specs.Registry.{answering_by}
use Rattle.recorded_case.specs.declared.registry.Registry.{Registry}
use Rattle.pulled_cases.specs.declared.opening.Terms.{Terms}
use Rattle.pulled_cases.specs.declared.report.Report.{Report}
use Rattle.pulled_cases.specs.Pulls.{PullRecord, moment_of, joined, reports, all_answered, InTurn, EachWhole}

-- the pull of an image at a moment, with these settings, credentials and this policy
abbrev pub row_by : {V : Type 0} {H : V → Type 0}
    → PolicyContext V H → Settings → Reference → RegistryAuth → List (List ℕ) → ℕ → Whole VerifiedImage
row_by policy_context s image a accepted moment = verified policy_context (within s moment) image a accepted

-- the pull at a moment by these terms, by a client with these settings that knows these logs
abbrev pub row_for : {V : Type 0} {H : V → Type 0}
    → CustomVerdict V H → Terms V H → Settings → FinMap by_bytes (List ℕ) → ℕ → Whole VerifiedImage
row_for own terms settings log_keys =
    row_by (policy_context terms.policy own (trust (valid_in terms.verifier) (vouched_in terms.judge) log_keys))
    settings (reference_in terms.image) (registry_auth terms.auth) terms.accepted

-- pulls at these moments, from one state of the transport and the client to another, with their report
pub record PullsAt (row : ℕ → Whole VerifiedImage) (moments : List ℕ) (old new : Link) (k l : Kept) (made : Report)
    : Type 0 where
  pub talks : List PullRecord
  pub moments_are : map moment_of talks ≡ moments
  pub told : Extends old new (joined talks)
  pub in_turn : (t : Answering) (before : List Exchange) → old.answers ≡ Some t → old.told ≡ Some before
      → InTurn row t (length before) (snapshot k old.faults) talks (snapshot l new.faults)
  pub whole : EachWhole talks
  pub written : made.bytes ≡ reports talks
  pub refused : made.refused ≡ not (all_answered talks)

-- after any pulls that led here, one more at this moment
pub record OneMorePull (row : ℕ → Whole VerifiedImage) (moment : ℕ) (mid new : Link) (k l : Kept)
    (before after : Report)
    : Type 0 where
  pub more : (moments : List ℕ) (start : Link) (j : Kept)
      → PullsAt row moments start mid j k before → PullsAt row (moments ++ moment ∷ []) start new j l after

-- pulls at these moments over the responses of this registry, with their report
pub record Replayed (row : ℕ → Whole VerifiedImage) (registry : Registry) (moments : List ℕ) (k l : Kept)
    (made : Report) : Type 0 where
  pub talks : List PullRecord
  pub moments_are : map moment_of talks ≡ moments
  pub faults : ℕ
  pub in_turn : InTurn row (answering_by registry) 0 (snapshot k 0) talks (snapshot l faults)
  pub whole : EachWhole talks
  pub answered : AnsweredBy (answering_by registry) 0 (joined talks)
  pub calm_is : IsTrue (faults_only_where (answering_by registry).fails 0 (joined talks) faults)
  pub written : made.bytes ≡ reports talks
  pub refused : made.refused ≡ not (all_answered talks)
