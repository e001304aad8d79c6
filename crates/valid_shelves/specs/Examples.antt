-- Registries in memory that give a verified image: one for each way in which its signature is found.
use Rattle.std.specs.Prelude.{◌≡◌, ℕ, false, List, [], ◌∷◌, Option, Some, None, codes}
use Rattle.std.specs.FinMap as map
use Rattle.oci_names.specs.declared.algorithm.Algorithm.{Algorithm}
use Rattle.oci_names.specs.declared.algorithm.Algorithm.TheVariants.{Sha256}
use Rattle.oci_names.specs.declared.reference.Reference.{Reference}
use Rattle.oci_auth.specs.declared.auth.RegistryAuth.TheVariants.{Anonymous}
use Rattle.oci_digests.specs.Names.{digest_text}
use Rattle.oci_manifests.specs.declared.promise.ResolverPromise.{ResolverPromise}
use Rattle.oci_manifests.specs.declared.promise.ResolverPromise.TheVariants.{FirstMatch}
use Rattle.engine_terms.specs.declared.settings.ClientProtocol.TheVariants.{Http}
use Rattle.engine_terms.specs.declared.settings.Settings.{Settings}
use Rattle.cosign_parts.specs.Envelope.{signed_text}
use Rattle.cosign_parts.specs.Trust.{Trust, trust}
use Rattle.cosign_parts.specs.Verifier.{valid_in}
use Rattle.cosign_parts.specs.declared.layer.LayerKind.{LayerKind}
use Rattle.cosign_parts.specs.declared.layer.LayerKind.TheVariants.{Payload, Bundle}
use Rattle.cosign_parts.specs.declared.verifier.SignedRow.{SignedRow}
use Rattle.cosign_layers.specs.Satisfying.{PolicyContext, policy_context}
use Rattle.cosign_layers.specs.declared.constraint.Constraint.TheVariants.{Annotations}
use Rattle.cosign_layers.specs.declared.policy.PullPolicy.{PullPolicy}
use Rattle.cosign_laws.specs.Shelves.{WideShelf}
use Rattle.cosign_laws.specs.Small.{Packed, shelf_of, IsSmall}
use Rattle.valid_shelves.specs.Referred.{referred_shelf, IsReferred}
use Rattle.valid_shelves.specs.Texts as text

-- ---- what is requested, and by whom

-- over `http`, with at most this resolver of platforms
abbrev pub settings : Option ResolverPromise → Settings
settings resolver = record {
  protocol = Http;
  user_agent = codes "oci-client/0.18.0";
  max_body_bytes = 4294967295;
  use_monolithic_push = false;
  platform_resolver = resolver;
}

abbrev pub repository : List ℕ
repository = codes "app"

abbrev pub tag : List ℕ
tag = codes "v1"

-- `localhost:5000/app:v1`
abbrev pub reference : Reference
reference = record {
  registry = codes "localhost:5000";
  mirror = None;
  repository = repository;
  tag = Some tag;
  digest = None;
}

abbrev pub accepted : List (List ℕ)
accepted = text.layer_type ∷ []

-- Linux on amd64
abbrev pub linux_amd64 : ResolverPromise
linux_amd64 = FirstMatch (codes "linux") (codes "amd64")

-- ---- the policy

-- one key, and a constraint that accepts each layer
abbrev pub policy : PullPolicy ⊥ (λ v. ⊥)
policy = record { keys = codes "k1" ∷ []; constraints = Annotations (record { annotations = map.empty }) ∷ [] }

-- the signature of this message by the key
abbrev pub row : List ℕ → SignedRow
row message = record { key = codes "k1"; message = digest_text Sha256 message; signature = codes "sig1" }

-- only that signature is valid; no certificate is vouched for, and no log is known
abbrev pub trusting : List ℕ → Trust
trusting message = trust (valid_in (record { rows = row message ∷ [] })) (λ evidence. None) map.empty

-- under that policy, the signature of what a layer with this content signs is valid
abbrev pub context : LayerKind → List ℕ → PolicyContext ⊥ (λ v. ⊥)
context kind content = policy_context policy (λ box layer. false) (trusting (signed_text kind content))

-- ---- the registries

-- the manifest has these bytes, and those of its configuration and of its layer are these
pub record HasBytes (bytes config layer : List ℕ) (packed : Packed) : Type 0 where
  pub bytes_are : packed.bytes ≡ bytes
  pub config_is : packed.config ≡ config
  pub layer_is : packed.layer ≡ layer

-- an image with a signature under the tag of its digest
pub record IsSignedByTag : Type 0 where
  pub image : Packed
  pub image_is : HasBytes text.image text.config text.layer image
  pub signatures : Packed
  pub signatures_are : HasBytes text.signatures text.config text.payload signatures
  pub premise : IsSmall (context Payload text.payload) (settings None) reference Anonymous accepted tag image signatures
  pub wide : WideShelf (context Payload text.payload) (settings None) reference Anonymous accepted
      (shelf_of repository tag image signatures)

-- a tag that names this document by a digest of this algorithm, and the referrer of that digest
pub record IsSignedByReferrer (resolver : Option ResolverPromise) (algorithm : Algorithm) (first : List ℕ)
    (referred : text.Referred) : Type 0 where
  pub image : Packed
  pub image_is : HasBytes text.image text.config text.layer image
  pub bundles : Packed
  pub bundles_are : HasBytes referred.manifest text.config referred.bundle bundles
  pub premise : IsReferred (context Bundle referred.bundle) (settings resolver) reference Anonymous accepted
      algorithm tag first referred.list image bundles
  pub wide : WideShelf (context Bundle referred.bundle) (settings resolver) reference Anonymous accepted
      (referred_shelf repository algorithm tag first referred.list image bundles)
