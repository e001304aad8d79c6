-- The image that documents and the blobs of their descriptors are: sinks that took the blobs of one range after
-- another.
use Rattle.std.specs.Prelude.{◌≡◌, ◌≤◌, ◌<◌, ℕ, List, [], ◌∷◌, length, Option, Ok, Contains}
use Rattle.byte_streams.specs.SinkState.{SinkState, Adds}
use Rattle.oci_manifests.specs.declared.descriptor.OciDescriptor.{OciDescriptor}
use Rattle.oci_manifests.specs.declared.promise.ResolverPromise.{ResolverPromise}
use Rattle.oci_manifests.specs.declared.blob.ImageLayer.{ImageLayer}
use Rattle.oci_names.specs.declared.reference.Reference.{Reference}
use Rattle.oci_transport.specs.Link.{Link}
use Rattle.oci_transport.specs.declared.message.Exchange.{Exchange}
use Rattle.cosign_chain.specs.Chain.{Chain}
use Rattle.cosign_chain.specs.declared.image.VerifiedImage.{VerifiedImage}
use Rattle.cosign_chain.specs.VerifiedDocuments.{Documents, documents_of}
use Rattle.cosign_chain.specs.declared.verified_documents.VerifiedDocuments.{VerifiedDocuments}
use Rattle.cosign_layers.specs.Satisfying.{CustomVerdict, PolicyContext, policy_context}
use Rattle.cosign_layers.specs.declared.policy.PullPolicy.{PullPolicy}
use Rattle.cosign_parts.specs.Trust.{Trust}
use Rattle.call_laws.specs.Blobs.{descriptors_of, range_of}
use Rattle.image_blobs.specs.SinksState.{Closed, SinksState, Closes}
use Rattle.image_blobs.specs.Taken.{Stands, TookBlobs}

-- ---- what the sinks of several calls took

-- a sink for each descriptor, in order, has its blob, which was received in the conversation of one of the calls
abbrev pub EachHasBlob : SinkState → List OciDescriptor → List Closed → Type 0
EachHasBlob fresh [] [] = Unit {0}
EachHasBlob fresh (x ∷ xs) (z ∷ zs) = ((c : List Exchange) × Stands fresh c x z) × EachHasBlob fresh xs zs
EachHasBlob fresh xs zs = ⊥

-- between these states of the caller's sinks, each descriptor's sink was closed with its blob
pub record HasBlobs (fresh : SinkState) (xs : List OciDescriptor) (before after : SinksState) : Type 0 where
  pub closed : List Closed
  pub closes : Closes closed before after
  pub each : EachHasBlob fresh xs closed

-- ---- the image

-- each sink took exactly these bytes, in order
abbrev pub EachTook : SinkState → List (List ℕ) → List Closed → Type 0
EachTook fresh [] [] = Unit {0}
EachTook fresh (bytes ∷ rest) (z ∷ zs) = Adds bytes fresh z.sink × EachTook fresh rest zs
EachTook fresh blobs zs = ⊥

abbrev pub contents_of : List ImageLayer → List (List ℕ)
contents_of [] = []
contents_of (layer ∷ layers) = layer.content ∷ contents_of layers

-- the bytes of an image's blobs: the configuration, and then the layers
abbrev pub blobs_of : VerifiedImage → List (List ℕ)
blobs_of v = v.config.content ∷ contents_of v.layers

-- the media type of each layer is accepted
abbrev pub AreAccepted : List (List ℕ) → List OciDescriptor → Type 0
AreAccepted accepted [] = Unit {0}
AreAccepted accepted (x ∷ xs) = Contains accepted x.media_type × AreAccepted accepted xs

-- an image with these documents, whose blobs are what the sinks took, and which has its chain
pub record TakenImage {V : Type 0} {H : V → Type 0} (policy_context : PolicyContext V H) (image : Reference)
    (accepted : List (List ℕ)) (promise : Option ResolverPromise) (d : VerifiedDocuments) (fresh : SinkState)
    (before after : SinksState) : Type 0 where
  pub v : VerifiedImage
  pub documents : documents_of v ≡ d
  pub closed : List Closed
  pub closes : Closes closed before after
  pub took : EachTook fresh (blobs_of v) closed
  pub chain : Chain policy_context image accepted promise v

-- ---- the laws

-- after a call of `pull_blobs` that returned `Ok`, each descriptor's sink has its blob
abbrev pub CallsTakeBlobs : Type 0
CallsTakeBlobs = (fresh : SinkState) (xs : List OciDescriptor) (old new : Link) (before after : SinksState)
    → TookBlobs fresh xs old new before after (Ok tt) → HasBlobs fresh xs before after

-- one range and then the next one are a range
abbrev pub RangesJoin : Type 0
RangesJoin = (fresh : SinkState) (xs : List OciDescriptor) (first mid end : ℕ) (before between after : SinksState)
    → first ≤ mid → mid ≤ end → HasBlobs fresh (range_of first mid xs) before between
    → HasBlobs fresh (range_of mid end xs) between after → HasBlobs fresh (range_of first end xs) before after

-- Documents that hold, with the blobs of the whole range of their descriptors, are an image with its chain, for every
-- trust, reference, media types and promise: if there is a layer, and the media type of each one is accepted.
abbrev pub DocumentsWithBlobsAreImages : {V : Type 0} {H : V → Type 0} → PullPolicy V H → CustomVerdict V H → Type 0
DocumentsWithBlobsAreImages policy own = (trust : Trust) (image : Reference) (accepted : List (List ℕ))
    (promise : Option ResolverPromise) (d : VerifiedDocuments) (fresh : SinkState) (end : ℕ)
    (before after : SinksState) → Documents (policy_context policy own trust) image promise d
    → 0 < length d.manifest.layers → AreAccepted accepted d.manifest.layers
    → length (descriptors_of d.manifest) ≤ end
    → HasBlobs fresh (range_of 0 end (descriptors_of d.manifest)) before after
    → TakenImage (policy_context policy own trust) image accepted promise d fresh before after
