-- How a pulled image relates to the policy and to what registries returned.
use Rattle.std.specs.Prelude.{◌≡◌, ◌⊎◌, ℕ, List, [], ◌∷◌, Some}
use Rattle.oci_names.specs.declared.reference.Reference.{Reference}
use Rattle.oci_auth.specs.declared.auth.RegistryAuth.{RegistryAuth}
use Rattle.oci_transport.specs.declared.message.Exchange.{Exchange}
use Rattle.oci_manifests.specs.declared.blob.ImageLayer.{ImageLayer}
use Rattle.engine_terms.specs.Contexts.{Context}
use Rattle.engine_rows.specs.Answered.{DigestAnswered, Body}
use Rattle.registry_cache.specs.Keys.{manifest_key}
use Rattle.registry_cache.specs.Caching.{known}
use Rattle.registry_cache.specs.KeptCalls.{digests}
use Rattle.registry_calls.specs.Clients.{Kept}
use Rattle.cosign_layers.specs.Satisfying.{PolicyContext}
use Rattle.cosign_chain.specs.Chain.{Chain}
use Rattle.cosign_chain.specs.declared.image.VerifiedImage.{VerifiedImage}

-- each layer is the body of an answer
abbrev pub EachBody : List Exchange → List ImageLayer → Type 0
EachBody c [] = Unit {0}
EachBody c (layer ∷ layers) = Body c layer.content × EachBody c layers

-- the client has this digest cached for the image and these credentials, and it is fresh at the moment; without a
-- cache it has none
abbrev pub Fresh : Kept → Context → Reference → RegistryAuth → List ℕ → Type 0
Fresh kept s image a digest = known digests (manifest_key image a) s.moment kept.1 ≡ Some digest

-- the registry returned the digest for the image in this conversation, or it was fresh in the cache when it began
abbrev pub AnsweredOrFresh : Kept → Context → Reference → RegistryAuth → List Exchange → List ℕ → Type 0
AnsweredOrFresh kept s image a c digest = DigestAnswered s.settings image c digest ⊎ Fresh kept s image a digest

-- The image's digest was returned for it in this conversation, or was fresh in the cache of the client that began it
-- with `kept`; and each document and blob is the body of an answer in this conversation.
pub record Backed (kept : Kept) (s : Context) (image : Reference) (a : RegistryAuth) (c : List Exchange)
    (v : VerifiedImage) : Type 0 where
  pub answered : AnsweredOrFresh kept s image a c v.digest
  pub first : Body c v.first
  pub manifest : Body c v.manifest_bytes
  pub config : Body c v.config.content
  pub layers : EachBody c v.layers

-- the chain holds, and comes from this conversation
pub record Sound {V : Type 0} {H : V → Type 0} (kept : Kept) (s : Context) (policy_context : PolicyContext V H)
    (image : Reference) (a : RegistryAuth) (accepted : List (List ℕ)) (c : List Exchange) (v : VerifiedImage)
    : Type 0 where
  pub chain : Chain policy_context image accepted s.settings.platform_resolver v
  pub backed : Backed kept s image a c v
