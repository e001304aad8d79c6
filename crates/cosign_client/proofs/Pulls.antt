-- The whole pull of an image.
use Rattle.std.proofs.Common.{ℕ, List, None}
use Rattle.oci_names.specs.declared.reference.Reference.{Reference}
use Rattle.oci_names.specs.Reference.{repository_of, resolved_registry}
use Rattle.oci_auth.specs.declared.auth.RegistryAuth.{RegistryAuth}
use Rattle.engine_terms.specs.declared.settings.Settings.{Settings}
use Rattle.engine_terms.specs.Contexts.{within}
use Rattle.engine_requests.specs.Requests.{manifest_types}
use Rattle.cosign_layers.specs.Satisfying.{PolicyContext}
use Rattle.cosign_rows.specs.Verified.{verified}
use Rattle.cosign_laws.proofs.PullRows.{HoldsOfCalls, verified_good}
use Rattle.cosign_client.specs.Growth.{PreservesLog}
use Rattle.cosign_client.proofs.PartsInTurn.{grows_done, grows_bind}
use Rattle.cosign_client.proofs.Calls.{digest_grows, manifest_grows, image_grows, referrers_grow, document_grows, blob_grows}

calls_grow : (s : Settings) (now : ℕ) (a : RegistryAuth) (registry repository : List ℕ) → HoldsOfCalls (λ A p. PreservesLog s now p) (within s now) a registry repository
calls_grow s now a registry repository = record {
  done = λ A x. grows_done s now x;
  parts = λ A B p f h next. grows_bind s now p f h next;
  digest = λ r in_it. digest_grows s now r a;
  manifest = λ r in_it. manifest_grows s now r a;
  image = λ r in_it types. image_grows s now r a types;
  referrers = λ r in_it. referrers_grow s now r a None;
  document = λ r in_it. document_grows s now r a manifest_types;
  blob = λ r in_it layer. blob_grows s now r layer;
}

pub pull_grows : (s : Settings) (now : ℕ) (a : RegistryAuth) {V : Type 0} {H : V → Type 0} (policy_context : PolicyContext V H) (image : Reference) (accepted : List (List ℕ)) → PreservesLog s now (verified policy_context (within s now) image a accepted)
pull_grows s now a policy_context image accepted = verified_good policy_context (within s now) image a accepted (λ A p. PreservesLog s now p) (calls_grow s now a (resolved_registry image) (repository_of image))
