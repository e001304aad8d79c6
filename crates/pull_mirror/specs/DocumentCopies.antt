-- The row of a copy of documents: the target is asked whether it has each blob, and then the documents are pushed.
use Rattle.std.specs.Prelude.{ℕ, Bool, true, false, List, [], ◌∷◌, Option, Some, None, Result, Ok, Err}
use Rattle.oci_auth.specs.declared.auth.RegistryAuth.{RegistryAuth}
use Rattle.oci_names.specs.declared.reference.Reference.{Reference}
use Rattle.oci_protocol.specs.Proto.{Done, ◌>>=◌, ◌>>◌}
use Rattle.engine_terms.specs.Contexts.{Context}
use Rattle.engine_rows.specs.Rows.{Row, store}
use Rattle.engine_pull.specs.Listings.{blob_exists}
use Rattle.cosign_chain.specs.declared.verified_documents.VerifiedDocuments.{VerifiedDocuments}
use Rattle.pull_mirror.specs.Copies.{all_pushed, push_row}
use Rattle.pull_mirror.specs.DocumentPushes.{Parts, blobs_named, parts_of}

-- the question about the next blobs, unless the target does not have this one
abbrev pub unless_absent : List ℕ → Row (Option (List ℕ)) → Bool → Row (Option (List ℕ))
unless_absent digest next true = next
unless_absent digest next false = Done (Ok (Some digest))

-- the first of these blobs that the target does not have
unfoldable pub first_missing : Context → Reference → List (List ℕ) → Row (Option (List ℕ))
first_missing s target [] = Done (Ok None)
first_missing s target (digest ∷ digests) = do
  there ← blob_exists s target digest
  unless_absent digest (first_missing s target digests) there

-- the same, after the credentials were stored
unfoldable pub blobs_asked : Context → Reference → RegistryAuth → List (List ℕ) → Row (Option (List ℕ))
blobs_asked s target a digests = do
  store target a
  first_missing s target digests

-- each push in order; the result is the URL of the document
unfoldable pub parts_pushed : Context → Reference → Parts → Row (List ℕ)
parts_pushed s target p = do
  all_pushed s target p.first
  url ← push_row s target p.document
  all_pushed s target p.after
  Done (Ok url)

-- a blob that the target does not have, or the URL of the document
pub data CopyOutcome : Type 0 where
  Absent : (digest : List ℕ) → CopyOutcome
  PushedAt : (url : List ℕ) → CopyOutcome

-- nothing is pushed if a blob is missing
abbrev pub unless_missing : Context → Reference → Parts → Option (List ℕ) → Row CopyOutcome
unless_missing s target p (Some digest) = Done (Ok (Absent digest))
unless_missing s target p None = do
  url ← parts_pushed s target p
  Done (Ok (PushedAt url))

-- of a list of blobs, and of these pushes
unfoldable pub parts_copied : Context → Reference → RegistryAuth → List (List ℕ) → Parts → Row CopyOutcome
parts_copied s target a digests p = do
  missing ← blobs_asked s target a digests
  unless_missing s target p missing

-- the documents under the tag, or the manifest alone
abbrev pub documents_copied : Context → Reference → RegistryAuth → Bool → VerifiedDocuments → Row CopyOutcome
documents_copied s target a tag d = parts_copied s target a (blobs_named d.manifest) (parts_of tag d target)
