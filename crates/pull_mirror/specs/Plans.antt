-- Pushes as they are planned before the first request.
use Rattle.std.specs.Prelude.{◌≡◌, ℕ, List, [], ◌∷◌, ◌++◌, map}
use Rattle.std.specs.FinMap.{contains_key}
use Rattle.oci_names.specs.declared.reference.Reference.{Reference}
use Rattle.cosign_chain.specs.declared.image.VerifiedImage.{VerifiedImage}
use Rattle.pull_mirror.specs.Pushes.{Push, Blob, Manifest, without_repeats, is_among, digests_of}
use Rattle.pull_mirror.specs.Pushes.{before_document, document_of, signature_of}
use Rattle.pull_mirror.specs.declared.planning.Blobs.{Blobs}
use Rattle.pull_mirror.specs.declared.planning.Plan.{Plan}
use Rattle.pull_mirror.specs.declared.planning.Planned.{Planned}
use Rattle.pull_mirror.specs.declared.planning.Planned.TheVariants as planned

abbrev pub push_of : Planned → Push
push_of (planned.Blob digest bytes) = Blob digest bytes.now
push_of (planned.Manifest reference digest bytes content_type) = Manifest reference digest bytes.now content_type

abbrev pub pushes_of : List Planned → List Push
pushes_of ps = map push_of ps

-- these blobs were planned, each once, and their digests are remembered
pub record Holds (blobs : List Push) (b : Blobs) : Type 0 where
  pub planned : pushes_of b.pushes ≡ without_repeats blobs
  pub seen : (digest : List ℕ) → contains_key b.seen digest ≡ is_among digest (digests_of blobs)

-- one more blob was planned
abbrev pub AddsBlob : List ℕ → List ℕ → Blobs → Blobs → Type 0
AddsBlob digest bytes old new = (blobs : List Push) → Holds blobs old → Holds (blobs ++ Blob digest bytes ∷ []) new

-- what is pushed for an image, in its three parts
pub record IsPlan (v : VerifiedImage) (target : Reference) (p : Plan) : Type 0 where
  pub first : pushes_of p.first ≡ before_document v target
  pub document : push_of p.document ≡ document_of v target
  pub signature : push_of p.signature ≡ signature_of v target
