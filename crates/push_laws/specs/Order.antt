-- In which order the requests of a pushed image go out: its manifest comes last.
use Rattle.std.specs.Prelude.{◌≡◌, ◌⊎◌, ℕ, List, [], ◌∷◌, ◌++◌, Option, Some, Result, codes, All}
use Rattle.std.specs.List.{Contains}
use Rattle.url.specs.Parts.{Parts, serialize}
use Rattle.url.specs.Setters.{append_query_pairs}
use Rattle.oci_auth.specs.declared.auth.RegistryAuth.{RegistryAuth}
use Rattle.oci_auth.specs.declared.auth_state.AuthState.{AuthState}
use Rattle.oci_manifests.specs.declared.blob.Config.{Config}
use Rattle.oci_manifests.specs.declared.blob.ImageLayer.{ImageLayer}
use Rattle.oci_manifests.specs.declared.manifest.OciImageManifest.{OciImageManifest}
use Rattle.oci_names.specs.declared.reference.Reference.{Reference}
use Rattle.oci_protocol.specs.Ends.{UnlessMemory}
use Rattle.oci_protocol.specs.Runs.{Meets, Told}
use Rattle.oci_transport.specs.Headers.{first_of}
use Rattle.oci_transport.specs.Link.{Link}
use Rattle.oci_transport.specs.declared.message.Answer.{Answer}
use Rattle.oci_transport.specs.declared.message.Exchange.{Exchange}
use Rattle.oci_transport.specs.declared.message.Method.TheVariants.{Put}
use Rattle.engine_terms.specs.Contexts.{Context}
use Rattle.engine_terms.specs.Error.{is_memory}
use Rattle.engine_terms.specs.declared.error.OciDistributionError.{OciDistributionError}
use Rattle.push_rows.specs.Contents.{octet_stream}
use Rattle.push_rows.specs.PieceStates.{part}
use Rattle.push_rows.specs.Images.{manifest_for, digests_for, push}
use Rattle.push_rows.specs.declared.responses.PushResponse.{PushResponse}

-- it pushes no document: it has no body, or bytes of a blob
abbrev pub OfBlob : Exchange → Type 0
OfBlob e = (part e.request.body ≡ []) ⊎ (first_of (codes "content-type") e.request.headers ≡ Some octet_stream)

-- the request that ends the upload of the blob of this digest has a response with status 201
pub record BlobAnswered (digest : List ℕ) (c : List Exchange) : Type 0 where
  pub exchange : Exchange
  pub contains : Contains c exchange
  pub method : exchange.request.method ≡ Put
  pub location : Parts
  pub url : exchange.request.url ≡ serialize (append_query_pairs location ((codes "digest", digest) ∷ []))
  pub answer : Answer
  pub answered : exchange.answer ≡ Some answer
  pub status : answer.status ≡ 201

-- The first of these exchanges push no document, and there are others only if each blob was answered before them.
pub record InOrder (digests : List (List ℕ)) (c : List Exchange) : Type 0 where
  pub blobs : List Exchange
  pub rest : List Exchange
  pub split : c ≡ blobs ++ rest
  pub only : All OfBlob blobs
  pub first : (rest ≡ []) ⊎ ((digest : List ℕ) → Contains digests digest → BlobAnswered digest blobs)

-- If exchanges are exposed, no manifest was requested unless each blob was answered.
abbrev pub NothingFirst : {A : Type 0} → List (List ℕ) → Link → Link → Result A OciDistributionError → Type 0
NothingFirst digests old new r = UnlessMemory is_memory (λ r. Told (InOrder digests) old new) r

-- the digests under which the blobs of an image with this manifest are pushed
abbrev pub pushed_digests : OciImageManifest → List ImageLayer → List (List ℕ)
pushed_digests manifest layers = digests_for manifest.layers layers ++ manifest.config.digest ∷ []

-- This is so of every push of an image.
abbrev pub ManifestsComeLast : Type 0
ManifestsComeLast = (s : Context) (image : Reference) (layers : List ImageLayer) (config : Config) (a : RegistryAuth)
    (given : Option OciImageManifest) (old new : Link) (k l : AuthState) (r : Result PushResponse OciDistributionError)
    → Meets is_memory (push s image layers config a given) old new k l r
    → NothingFirst (pushed_digests (manifest_for given layers config) layers) old new r
