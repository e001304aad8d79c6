-- The pull of an image is the pull of its documents, and then that of the blobs which the manifest names.
use Rattle.std.proofs.Common.{◌≡◌, ℕ, List, Ok, sym, ap, ◌∙◌}
use Rattle.oci_names.specs.declared.reference.Reference.{Reference}
use Rattle.oci_names.specs.Reference.{whole_text}
use Rattle.oci_auth.specs.declared.auth.RegistryAuth.{RegistryAuth}
use Rattle.oci_manifests.specs.declared.blob.Config.{Config}
use Rattle.oci_manifests.specs.declared.blob.ImageLayer.{ImageLayer}
use Rattle.oci_protocol.specs.Proto.{Done, bind, ◌>>=◌}
use Rattle.engine_terms.specs.Contexts.{Context}
use Rattle.engine_requests.specs.Requests.{manifest_types}
use Rattle.registry_calls.specs.Calls.{document_call}
use Rattle.registry_calls.specs.Clients.{Row}
use Rattle.registry_calls.specs.ErrorContext.{with_error_context}
use Rattle.registry_calls.specs.declared.error_context.Called.TheVariants.{Pull}
use Rattle.cosign_layers.specs.Satisfying.{PolicyContext}
use Rattle.cosign_chain.specs.declared.image.VerifiedImage.{VerifiedImage}
use Rattle.cosign_rows.specs.Image.{document_in, manifest_row, blobs_row, image_row}
use Rattle.cosign_rows.specs.References.{digest_reference}
use Rattle.cosign_rows.specs.Search.{searched}
use Rattle.cosign_rows.specs.Verified.{Whole, constrained, is_unconstrained, readable, part_of, standing, verified_image, verified}
use Rattle.cosign_rows.specs.declared.pulled.Pulled.{Pulled}
use Rattle.cosign_rows.specs.declared.signed_digest.SignedDigest.{SignedDigest}
use Rattle.cosign_rows.specs.Blobs.{blobs_after}
use Rattle.cosign_rows.specs.Rows.{image_documents, signed_documents, selected, documents_after, collected, documents_row}
use Rattle.cosign_rows.specs.declared.pulled_documents.PulledDocuments.{PulledDocuments}
use Rattle.cosign_rows.proofs.Sequences.{next_same, next_joined, part_next}

-- what was pulled, with these blobs
abbrev joined : PulledDocuments → Config × List ImageLayer → Pulled
joined d blobs = record { first = d.first; chosen = d.chosen; config = blobs.0; layers = blobs.1 }

-- the blobs of what was pulled
abbrev blobs_of : Context → Reference → List (List ℕ) → PulledDocuments → Row Pulled
blobs_of s source accepted d = blobs_row s source accepted d.chosen.manifest >>= (λ blobs. Done (Ok (joined d blobs)))

module _ (s : Context) (image : Reference) (a : RegistryAuth) (accepted : List (List ℕ)) where
  -- an image is its documents, and then its blobs
  image_is : (source : Reference) → (image_documents s image source a >>= (λ d. blobs_of s source accepted d)) ≡ image_row s image source a accepted
  unfolding image_row image_documents bind
  image_is source =
      next_joined (document_call s source a manifest_types) _ (λ d. blobs_of s source accepted d)
      ∙ next_same (document_call s source a manifest_types) _ _ (λ found.
      next_joined (Done (with_error_context Pull (whole_text source) (document_in image found.0))) _ (λ d. blobs_of s source accepted d)
      ∙ next_same (Done (with_error_context Pull (whole_text source) (document_in image found.0))) _ _ (λ document.
      next_joined (manifest_row s source a found.0 document) _ (λ d. blobs_of s source accepted d)))

  -- the blobs, as a part of the whole pull
  tail_is : (stood : SignedDigest) (d : PulledDocuments)
      → (part_of (blobs_of s (digest_reference image stood.digest) accepted d) >>= (λ pulled. let w : Whole VerifiedImage = Done (Ok (verified_image stood pulled)) in w)) ≡ blobs_after s image accepted (signed_documents stood d)
  unfolding part_of bind
  tail_is stood d =
      let blobs : Row (Config × List ImageLayer) = blobs_row s (digest_reference image stood.digest) accepted d.chosen.manifest in
      ap (λ (row : Whole Pulled). row >>= (λ pulled. let w : Whole VerifiedImage = Done (Ok (verified_image stood pulled)) in w)) (part_next blobs (λ b. Done (Ok (joined d b))))
      ∙ next_joined (part_of blobs) (λ b. part_of (Done (Ok (joined d b)))) (λ pulled. Done (Ok (verified_image stood pulled)))

  -- what follows a layer that stands for the digest
  selected_is : (stood : SignedDigest)
      → (selected s image a stood >>= (λ d. blobs_after s image accepted d)) ≡ (part_of (image_row s image (digest_reference image stood.digest) a accepted) >>= (λ pulled. Done (Ok (verified_image stood pulled))))
  unfolding bind
  selected_is stood =
      let source : Reference = digest_reference image stood.digest in
      let documents : Row PulledDocuments = image_documents s image source a in
      next_joined (part_of documents) (λ pulled. Done (Ok (signed_documents stood pulled))) (λ d. blobs_after s image accepted d)
      ∙ next_same (part_of documents) _ _ (λ d. sym (tail_is stood d))
      ∙ sym (next_joined (part_of documents) (λ d. part_of (blobs_of s source accepted d)) (λ pulled. Done (Ok (verified_image stood pulled))))
      ∙ ap (λ (row : Whole Pulled). row >>= (λ pulled. let w : Whole VerifiedImage = Done (Ok (verified_image stood pulled)) in w)) (sym (part_next documents (λ d. blobs_of s source accepted d)))
      ∙ ap (λ (row : Row Pulled). part_of row >>= (λ pulled. let w : Whole VerifiedImage = Done (Ok (verified_image stood pulled)) in w)) (image_is source)

-- the whole pull
pub pull_is : {V : Type 0} {H : V → Type 0} (policy_context : PolicyContext V H) (s : Context) (image : Reference) (a : RegistryAuth) (accepted : List (List ℕ)) → verified policy_context s image a accepted ≡ (documents_row policy_context s image a >>= (λ d. blobs_after s image accepted d))
unfolding verified documents_row collected documents_after
pull_is policy_context s image a accepted =
    sym (
    next_joined (collected policy_context s image a) (λ found. documents_after policy_context s image a found) (λ d. blobs_after s image accepted d)
    ∙ next_joined (Done (constrained (is_unconstrained policy_context.policy))) _ _
    ∙ next_same (Done (constrained (is_unconstrained policy_context.policy))) _ _ (λ u.
    next_joined (Done (readable image)) _ _
    ∙ next_same (Done (readable image)) _ _ (λ v.
    next_same (part_of (searched policy_context.trust s image a)) _ _ (λ found.
    next_joined (Done (standing policy_context found)) _ _
    ∙ next_same (Done (standing policy_context found)) _ _ (λ stood. selected_is s image a accepted stood))))
    )
