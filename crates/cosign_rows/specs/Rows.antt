-- The verified pull of an image's documents: what the pull of the image requests, but for its blobs.
use Rattle.std.specs.Prelude.{ℕ, List, Result, Ok, Err}
use Rattle.oci_names.specs.declared.reference.Reference.{Reference}
use Rattle.oci_names.specs.Reference.{whole_text}
use Rattle.oci_auth.specs.declared.auth.RegistryAuth.{RegistryAuth}
use Rattle.oci_protocol.specs.Proto.{Done, ◌>>=◌, ◌>>◌}
use Rattle.engine_terms.specs.Contexts.{Context}
use Rattle.engine_requests.specs.Requests.{manifest_types}
use Rattle.registry_calls.specs.Calls.{document_call}
use Rattle.registry_calls.specs.Clients.{Row}
use Rattle.registry_calls.specs.ErrorContext.{with_error_context}
use Rattle.registry_calls.specs.declared.error.SigstoreError.{SigstoreError}
use Rattle.registry_calls.specs.declared.error_context.Called.TheVariants.{Pull}
use Rattle.cosign_layers.specs.Satisfying.{PolicyContext}
use Rattle.cosign_chain.specs.declared.verified_documents.VerifiedDocuments.{VerifiedDocuments}
use Rattle.cosign_rows.specs.Image.{document_in, manifest_row}
use Rattle.cosign_rows.specs.References.{digest_reference}
use Rattle.cosign_rows.specs.Refusal.{refused_as}
use Rattle.cosign_rows.specs.Search.{searched}
use Rattle.cosign_rows.specs.Verified.{Whole, constrained, is_unconstrained, readable, part_of, standing}
use Rattle.cosign_rows.specs.Verified.{manifest_digests}
use Rattle.cosign_rows.specs.declared.found.TrustedLayers.{TrustedLayers}
use Rattle.cosign_rows.specs.declared.refusal.PullRefusal.{PullRefusal}
use Rattle.cosign_rows.specs.declared.signed_digest.SignedDigest.{SignedDigest}
use Rattle.cosign_rows.specs.Again.{read_again}
use Rattle.cosign_rows.specs.declared.pulled_documents.PulledDocuments.{PulledDocuments}

-- the document, read, and the manifest that it is or leads to
abbrev pub documents_in : Context → Reference → Reference → RegistryAuth → List ℕ → Row PulledDocuments
documents_in s image source a first = do
  document ← Done (with_error_context Pull (whole_text source) (document_in image first))
  chosen ← manifest_row s source a first document
  Done (Ok (record { first = first; chosen = chosen }))

-- the document of the source's digest, and the manifest that it is or leads to
unfoldable pub image_documents : Context → Reference → Reference → RegistryAuth → Row PulledDocuments
image_documents s image source a = do
  found ← document_call s source a manifest_types
  documents_in s image source a found.0

-- what was pulled for a digest, with the signature that stands for it
abbrev pub signed_documents : SignedDigest → PulledDocuments → VerifiedDocuments
signed_documents standing pulled = record {
  digest = standing.digest;
  first = pulled.first;
  manifest_bytes = pulled.chosen.bytes;
  manifest = pulled.chosen.manifest;
  manifest_digest = (manifest_digests standing.digest pulled.chosen.entry).0;
  list_digest = (manifest_digests standing.digest pulled.chosen.entry).1;
  signature = standing.signature;
}

-- the documents from what was pulled, or the error
abbrev pub signed_or_refused : SignedDigest → Result PulledDocuments SigstoreError
    → Result VerifiedDocuments PullRefusal
signed_or_refused standing (Ok pulled) = Ok (signed_documents standing pulled)
signed_or_refused standing (Err e) = Err (refused_as e)

-- the documents of a digest that a layer stands for
abbrev pub selected : Context → Reference → RegistryAuth → SignedDigest → Whole VerifiedDocuments
selected s image a stood = do
  pulled ← part_of (image_documents s image (digest_reference image stood.digest) a)
  Done (Ok (signed_documents stood pulled))

-- a layer that satisfies the policy, and only then the documents
unfoldable pub documents_after : {V : Type 0} {H : V → Type 0} → PolicyContext V H → Context → Reference
    → RegistryAuth → TrustedLayers → Whole VerifiedDocuments
documents_after policy_context s image a found = do
  stood ← Done (standing policy_context found)
  selected s image a stood

-- the first part: the policy, the reference, and the search
unfoldable pub collected : {V : Type 0} {H : V → Type 0} → PolicyContext V H → Context → Reference → RegistryAuth
    → Whole TrustedLayers
collected policy_context s image a = do
  Done (constrained (is_unconstrained policy_context.policy))
  Done (readable image)
  part_of (searched policy_context.trust s image a)

-- The second part, over what was collected: the policy, the layers read again under this trust, which may be another
-- one than that of the search, a layer that satisfies the policy, and only then the documents.
unfoldable pub decided : {V : Type 0} {H : V → Type 0} → PolicyContext V H → Context → Reference → RegistryAuth
    → TrustedLayers → Whole VerifiedDocuments
decided policy_context s image a found = do
  Done (constrained (is_unconstrained policy_context.policy))
  documents_after policy_context s image a (read_again policy_context.trust found)

-- the whole pull, under one trust: nothing is read a second time
unfoldable pub documents_row : {V : Type 0} {H : V → Type 0} → PolicyContext V H → Context → Reference → RegistryAuth
    → Whole VerifiedDocuments
documents_row policy_context s image a = do
  found ← collected policy_context s image a
  documents_after policy_context s image a found
