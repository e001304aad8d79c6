-- How documents relate to the policy and to what registries returned.
use Rattle.oci_names.specs.declared.reference.Reference.{Reference}
use Rattle.oci_auth.specs.declared.auth.RegistryAuth.{RegistryAuth}
use Rattle.std.specs.Prelude.{◌≡◌, List}
use Rattle.oci_transport.specs.declared.message.Exchange.{Exchange}
use Rattle.engine_terms.specs.Contexts.{Context}
use Rattle.engine_rows.specs.Answered.{Body}
use Rattle.registry_calls.specs.Clients.{Kept}
use Rattle.cosign_layers.specs.Satisfying.{PolicyContext}
use Rattle.cosign_chain.specs.VerifiedDocuments.{Documents}
use Rattle.cosign_chain.specs.declared.verified_documents.VerifiedDocuments.{VerifiedDocuments}
use Rattle.cosign_rows.specs.Sound.{AnsweredOrFresh}
use Rattle.cosign_rows.specs.declared.found.TrustedLayers.{TrustedLayers}

-- each document is the body of an answer in this conversation
pub record AreBodies (c : List Exchange) (d : VerifiedDocuments) : Type 0 where
  pub first : Body c d.first
  pub manifest : Body c d.manifest_bytes

-- The image's digest was returned for it in this conversation, or was fresh in the cache of the client that began it
-- with `kept`; and each document is the body of an answer in this conversation.
pub record Backed (kept : Kept) (s : Context) (image : Reference) (a : RegistryAuth) (c : List Exchange)
    (d : VerifiedDocuments) : Type 0 where
  pub answered : AnsweredOrFresh kept s image a c d.digest
  pub bodies : AreBodies c d

-- the documents hold, and come from this conversation
pub record Sound {V : Type 0} {H : V → Type 0} (kept : Kept) (s : Context) (policy_context : PolicyContext V H)
    (image : Reference) (a : RegistryAuth) (c : List Exchange) (d : VerifiedDocuments) : Type 0 where
  pub documents : Documents policy_context image s.settings.platform_resolver d
  pub backed : Backed kept s image a c d

-- the same of the second part: the digest is the one that was collected
pub record SoundAfter {V : Type 0} {H : V → Type 0} (s : Context) (policy_context : PolicyContext V H)
    (image : Reference) (c : List Exchange) (d : VerifiedDocuments) : Type 0 where
  pub documents : Documents policy_context image s.settings.platform_resolver d
  pub bodies : AreBodies c d

-- the documents are those of the digest that was collected, and each is the body of an answer in this conversation
pub record DecidedOver (found : TrustedLayers) (c : List Exchange) (d : VerifiedDocuments) : Type 0 where
  pub digest : d.digest ≡ found.digest
  pub bodies : AreBodies c d
