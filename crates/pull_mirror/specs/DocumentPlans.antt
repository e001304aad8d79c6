-- Pushes of documents, and questions about blobs, as they are planned before the first request.
use Rattle.std.specs.Prelude.{◌≡◌, ℕ, Bool, List, [], ◌∷◌, ◌++◌}
use Rattle.std.specs.FinMap.{contains_key}
use Rattle.oci_names.specs.declared.reference.Reference.{Reference}
use Rattle.cosign_chain.specs.declared.verified_documents.VerifiedDocuments.{VerifiedDocuments}
use Rattle.pull_mirror.specs.DocumentPushes.{Parts, blobs_named, not_named_before, parts_of}
use Rattle.pull_mirror.specs.Every.{Every, IsIn}
use Rattle.pull_mirror.specs.Plans.{push_of, pushes_of}
use Rattle.pull_mirror.specs.Pushes.{is_among}
use Rattle.pull_mirror.specs.declared.documents.AskedBlobs.{AskedBlobs}
use Rattle.pull_mirror.specs.declared.documents.DocumentPlan.{DocumentPlan}
use Rattle.pull_mirror.specs.declared.documents.PartsPlan.{PartsPlan}

-- these digests are requested, each once, and are remembered
pub record AreAsked (digests : List (List ℕ)) (a : AskedBlobs) : Type 0 where
  pub asked : a.digests ≡ not_named_before [] digests
  pub seen : (digest : List ℕ) → contains_key a.seen digest ≡ is_among digest digests

-- one more digest is
abbrev pub AddsDigest : List ℕ → AskedBlobs → AskedBlobs → Type 0
AddsDigest digest old new = (digests : List (List ℕ)) → AreAsked digests old → AreAsked (digests ++ digest ∷ []) new

abbrev pub parts_planned : PartsPlan → Parts
parts_planned p = record {
  first = pushes_of p.first;
  document = push_of p.document;
  after = pushes_of p.after;
}

-- what is asked and pushed for documents
pub record IsDocumentPlan (tag : Bool) (d : VerifiedDocuments) (target : Reference) (p : DocumentPlan) : Type 0 where
  pub asked : p.asked ≡ blobs_named d.manifest
  pub parts : parts_planned p.parts ≡ parts_of tag d target

-- each push is in the target's repository
abbrev pub AreIn : Reference → Parts → Type 0
AreIn target p = Every (IsIn target) p.first × (IsIn target p.document × Every (IsIn target) p.after)
