-- The registries in memory from which a verified image can be pulled.
use Rattle.std.specs.Prelude.{◌≡◌, ◌⊎◌, true, ◌<◌, ◌-◌, ◌^◌, ℕ, List, [], ◌∷◌, ◌++◌, Contains}
use Rattle.std.specs.Prelude.{Option, Some, None, Result, Ok, Err, IsTrue}
use Rattle.std.specs.FinMap as map
use Rattle.oci_names.specs.declared.reference.Reference.{Reference}
use Rattle.oci_names.specs.Reference.{repository_of, digest_of, tag_of, resolved_registry, reads_back}
use Rattle.oci_auth.specs.declared.auth.RegistryAuth.{RegistryAuth}
use Rattle.oci_digests.specs.Names.{prefix_of, digest_text}
use Rattle.oci_names.specs.declared.algorithm.Algorithm.TheVariants.{Sha256}
use Rattle.oci_manifests.specs.declared.descriptor.OciDescriptor.{OciDescriptor}
use Rattle.oci_manifests.specs.declared.blob.ImageLayer.{ImageLayer}
use Rattle.oci_manifests.specs.declared.index.OciImageIndex.{OciImageIndex}
use Rattle.oci_manifests.specs.declared.index_entry.ImageIndexEntry.{ImageIndexEntry}
use Rattle.oci_manifests.specs.declared.manifest.OciImageManifest.{OciImageManifest}
use Rattle.oci_transport.specs.Headers.{is_header_value}
use Rattle.oci_transport.specs.Link.{Link}
use Rattle.oci_transport.specs.declared.message.Exchange.{Exchange}
use Rattle.oci_link.specs.Leads.{redirects_lead}
use Rattle.oci_link.specs.State.{answering}
use Rattle.oci_link.specs.Table.{digest_named}
use Rattle.oci_link.specs.declared.shelf.Shelf.{Shelf}
use Rattle.engine_requests.specs.Addresses.{manifest_name}
use Rattle.engine_terms.specs.declared.settings.Settings.{Settings}
use Rattle.shelf_laws.specs.IsHosted.{IsWrittenPlainly, CanBeShown}
use Rattle.shelf_laws.specs.Shelves.{FitsLimit, HasManifest, HasBlobs, ImageOn, Lists, layers_on}
use Rattle.cosign_layers.specs.Satisfying.{PolicyContext, StandsFor}
use Rattle.cosign_parts.specs.Trust.{Trust}
use Rattle.cosign_parts.specs.declared.layer.SignatureLayer.{SignatureLayer}
use Rattle.cosign_layers.specs.declared.rejection.LayerRejection.{LayerRejection}
use Rattle.cosign_rows.specs.Part.{named_layer, read_layer, read_bundle}
use Rattle.cosign_rows.specs.References.{signature_tag, tag_reference, digest_reference}
use Rattle.cosign_rows.specs.Search.{payload_type, bundle_type}
use Rattle.cosign_rows.specs.declared.refusal.PullRefusal.{PullRefusal}
use Rattle.cosign_rows.specs.declared.refusal.PullRefusal.TheVariants as refusal

-- a SHA-256 text
abbrev pub IsSha256 : List ℕ → Type 0
IsSha256 digest = (digits : List ℕ) × (digest ≡ prefix_of Sha256 ++ digits)

-- the digest that the image names on the shelf: its own digest, or that of its tag
abbrev pub digest_on : Shelf → Reference → Option (List ℕ)
digest_on shelf image = digest_named shelf (manifest_name (digest_of image) (tag_of image))

-- the search's result for a descriptor of this manifest, from the layers that the shelf has
abbrev pub read_on : Trust → List ℕ → Shelf → OciImageManifest → OciDescriptor → Result SignatureLayer LayerRejection
read_on trust d shelf manifest x =
    read_layer trust d x (named_layer x.digest (layers_on shelf manifest.layers))

-- for one of the manifest's descriptors, a layer is read that stands for the digest
pub record HasSatisfyingLayer {V : Type 0} {H : V → Type 0} (policy_context : PolicyContext V H) (d : List ℕ)
    (shelf : Shelf)
    (manifest : OciImageManifest) : Type 0 where
  pub descriptor : OciDescriptor
  pub listed : Contains manifest.layers descriptor
  pub layer : SignatureLayer
  pub reads : read_on policy_context.trust d shelf manifest descriptor ≡ Ok layer
  pub stands_for : StandsFor policy_context d layer

-- The tag of the digest's signatures names a manifest of payloads. The shelf has all of them, and one of them stands
-- for the digest.
pub record SignedByTag {V : Type 0} {H : V → Type 0} (policy_context : PolicyContext V H) (d : List ℕ) (shelf : Shelf)
    : Type 0 where
  pub signatures : List ℕ
  pub tagged : map.get shelf.tags (signature_tag d) ≡ Some signatures
  pub manifest : OciImageManifest
  pub there : HasManifest shelf signatures manifest
  pub payloads : HasBlobs shelf (payload_type ∷ []) manifest
  pub standing : HasSatisfyingLayer policy_context d shelf manifest

-- these settings and credentials request the image from the shelf, and its redirects all end
pub record IsAsked (s : Settings) (image : Reference) (a : RegistryAuth) (shelf : Shelf) : Type 0 where
  pub reads_back_is : reads_back image ≡ true
  pub repository_is : repository_of image ≡ shelf.repository
  pub written : IsWrittenPlainly s (resolved_registry image)
  pub agent : IsTrue (is_header_value s.user_agent)
  pub credentials : CanBeShown a
  pub lead : IsTrue (redirects_lead shelf)

-- One of the digest's referrers has a reference that round-trips, and the shelf has its image of bundles; from one of
-- them a layer is read that stands for the digest.
pub record SignedByReferrer {V : Type 0} {H : V → Type 0} (policy_context : PolicyContext V H) (s : Settings)
    (image : Reference) (d : List ℕ) (shelf : Shelf) : Type 0 where
  pub index : OciImageIndex
  pub lists : Lists shelf d index
  pub entry : ImageIndexEntry
  pub among : Contains index.manifests entry
  pub entry_reads : reads_back (digest_reference image entry.digest) ≡ true
  pub bundles : ImageOn s shelf entry.digest (bundle_type ∷ [])
  pub bundle : ImageLayer
  pub listed : Contains (layers_on shelf bundles.manifest.layers) bundle
  pub layer : SignatureLayer
  pub reads : read_bundle policy_context.trust d (digest_text Sha256 bundle.content) bundle ≡ Ok layer
  pub stands_for : StandsFor policy_context d layer

-- the image is requested from the shelf, which has it, by a digest of any algorithm, and nothing is too long
pub record ImageShelf (s : Settings) (image : Reference) (a : RegistryAuth) (accepted : List (List ℕ))
    (shelf : Shelf) : Type 0 where
  pub asked : IsAsked s image a shelf
  pub digest : List ℕ
  pub named : digest_on shelf image ≡ Some digest
  pub image_on : ImageOn s shelf digest accepted
  pub short : FitsLimit s shelf

-- The shelf has the image, and a layer stands for its digest: under the tag of its signatures, whose reference
-- round-trips, or of one of its referrers.
pub record WideShelf {V : Type 0} {H : V → Type 0} (policy_context : PolicyContext V H) (s : Settings)
    (image : Reference)
    (a : RegistryAuth) (accepted : List (List ℕ)) (shelf : Shelf) : Type 0 where
  pub has : ImageShelf s image a accepted shelf
  pub signed : ((reads_back (tag_reference image has.digest) ≡ true) × SignedByTag policy_context has.digest shelf)
      ⊎ SignedByReferrer policy_context s image has.digest shelf

-- The image is requested from the shelf, which has it, by a SHA-256 digest. A layer under its tag stands for it that
-- has no log entry and no certificate. Nothing is too long.
pub record ValidShelf {V : Type 0} {H : V → Type 0} (policy_context : PolicyContext V H) (s : Settings)
    (image : Reference)
    (a : RegistryAuth) (accepted : List (List ℕ)) (shelf : Shelf) : Type 0 where
  pub asked : IsAsked s image a shelf
  pub digest : List ℕ
  pub named : digest_on shelf image ≡ Some digest
  pub sha256 : IsSha256 digest
  pub image_on : ImageOn s shelf digest accepted
  pub signed : SignedByTag policy_context digest shelf
  pub no_entry : signed.standing.layer.bundle ≡ None
  pub no_certificate : signed.standing.layer.certificate_signature ≡ None
  pub short : FitsLimit s shelf

-- the transport responds from the shelf and exposes its requests, as a `ShelfTransport` does
pub record AnswersFrom (shelf : Shelf) (link : Link) : Type 0 where
  pub answers : link.answers ≡ Some (answering shelf)
  pub before : List Exchange
  pub told : link.told ≡ Some before
  pub faults : link.faults < 2 ^ 64 - 1

-- `Ok` or out of memory
abbrev pub OkOrMemory : {A : Type 0} → Result A PullRefusal → Type 0
OkOrMemory (Ok a) = Unit {0}
OkOrMemory (Err e) = e ≡ refusal.WantOfMemory
