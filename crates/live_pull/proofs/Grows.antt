-- Each complete run of either part of a pull of documents extends the log of its client's calls, and leaves the cached
-- responses within their bounds.
use Rattle.std.proofs.Common.{ℕ, Bool, true, false, List, [], ◌∷◌, None, Result, Ok, Err}
use Rattle.oci_names.specs.Reference.{whole_text, reads_back}
use Rattle.oci_names.specs.declared.reference.Reference.{Reference}
use Rattle.oci_auth.specs.declared.auth.RegistryAuth.{RegistryAuth}
use Rattle.oci_manifests.specs.declared.document.OciManifest.{OciManifest}
use Rattle.oci_manifests.specs.declared.document.OciManifest.TheVariants.{Image, ImageIndex}
use Rattle.oci_manifests.specs.declared.index.OciImageIndex.{OciImageIndex}
use Rattle.oci_manifests.specs.declared.index_entry.ImageIndexEntry.{ImageIndexEntry}
use Rattle.oci_protocol.specs.Proto.{Proto, Done, bind, unless_refused, ◌>>=◌}
use Rattle.engine_terms.specs.Contexts.{Context, within}
use Rattle.engine_terms.specs.declared.settings.Settings.{Settings}
use Rattle.engine_answers.specs.Index.{entry_found, entry_reference}
use Rattle.engine_requests.specs.Requests.{manifest_types}
use Rattle.registry_calls.specs.declared.error.SigstoreError.{SigstoreError}
use Rattle.registry_calls.specs.declared.error_context.Called.TheVariants.{Pull}
use Rattle.registry_calls.specs.ErrorContext.{with_error_context}
use Rattle.registry_calls.specs.Calls.{digest_call, manifest_call, image_call, referrers_call, document_call}
use Rattle.registry_calls.specs.Clients.{Kept, Row}
use Rattle.cosign_layers.specs.Satisfying.{PolicyContext}
use Rattle.cosign_parts.specs.Trust.{Trust}
use Rattle.cosign_rows.specs.Image.{document_in, entry_in, with_image, entry_call, entry_row, manifest_row}
use Rattle.cosign_rows.specs.References.{tag_reference, digest_reference, reading_back}
use Rattle.cosign_rows.specs.Search.{payload_type, tag_layers, or_skipped, tag_by, tag_source, bundle_type, referrer_part, referrer_by, referrer_row, referrers_row, listed_row, referrers_source, searched}
use Rattle.cosign_rows.specs.Verified.{constrained, is_unconstrained, readable, as_whole, part_of, standing}
use Rattle.cosign_rows.specs.declared.found.SourceKind.TheVariants.{Tag}
use Rattle.cosign_rows.specs.declared.found.Skipped.TheVariants.{Source, Referrer}
use Rattle.cosign_rows.specs.declared.found.TrustedLayers.{TrustedLayers}
use Rattle.cosign_rows.specs.declared.signed_digest.SignedDigest.{SignedDigest}
use Rattle.cosign_rows.specs.Again.{read_again}
use Rattle.cosign_rows.specs.Rows.{collected, decided, documents_after, image_documents, selected}
use Rattle.registry_cache.specs.declared.answers.Bounds.{Bounds}
use Rattle.cosign_client.specs.Growth.{PreservesLog}
use Rattle.cosign_client.proofs.PartsInTurn.{grows_done, grows_bind}
use Rattle.cosign_client.proofs.Calls.{digest_grows, manifest_grows, image_grows, referrers_grow, document_grows}
use Rattle.live_pull.proofs.Bounds.{StaysWithin, within_done, within_bind, digest_within, manifest_within, image_within, referrers_within, document_within}

pub record GrowsWithin {A : Type 0} (settings : Settings) (now : ℕ) (p : Proto Kept A) : Type 0 where
  pub log : PreservesLog settings now p
  pub bounds : (bounds : Bounds) → StaysWithin bounds p

module _ (settings : Settings) (now : ℕ) where
  abbrev s : Context
  s = within settings now

  abbrev Grows : {A : Type 0} → Proto Kept A → Type 0
  Grows p = GrowsWithin settings now p

  said : {A : Type 0} (x : A) → Grows (Done x)
  said x = record { log = grows_done settings now x; bounds = λ bounds. within_done bounds x }

  after : {A B : Type 0} (p : Proto Kept A) (f : A → Proto Kept B) → Grows p → ((a : A) → Grows (f a)) → Grows (bind p f)
  after p f h next = record { log = grows_bind settings now p f h.log (λ a. (next a).log); bounds = λ bounds. within_bind bounds p f (h.bounds bounds) (λ a. (next a).bounds bounds) }

  next : {A B E : Type 0} (p : Proto Kept (Result A E)) (f : A → Proto Kept (Result B E)) → Grows p → ((x : A) → Grows (f x)) → Grows (p >>= f)
  next {A} {B} {E} p f h more = after p (unless_refused f) h by_result where
    by_result : (r : Result A E) → Grows (unless_refused f r)
    by_result (Ok x) = more x
    by_result (Err e) = said (Err e)

  changed : {A B : Type 0} (p : Proto Kept A) (g : A → B) → Grows p → Grows (bind p (λ r. Done (g r)))
  changed p g h = after p (λ r. Done (g r)) h (λ r. said (g r))

  -- ---- the calls

  module _ (r : Reference) (a : RegistryAuth) where
    digest_call_grows : Grows (digest_call s r a)
    digest_call_grows = record { log = digest_grows settings now r a; bounds = λ bounds. digest_within bounds s r a }

    manifest_call_grows : Grows (manifest_call s r a)
    manifest_call_grows = record { log = manifest_grows settings now r a; bounds = λ bounds. manifest_within bounds s r a }

    image_call_grows : (accepted : List (List ℕ)) → Grows (image_call s r a accepted)
    image_call_grows accepted = record { log = image_grows settings now r a accepted; bounds = λ bounds. image_within bounds s r a accepted }

    referrers_call_grows : Grows (referrers_call s r a None)
    referrers_call_grows = record { log = referrers_grow settings now r a None; bounds = λ bounds. referrers_within bounds s r a None }

    document_call_grows : Grows (document_call s r a manifest_types)
    document_call_grows = record { log = document_grows settings now r a manifest_types; bounds = λ bounds. document_within bounds s r a manifest_types }

  -- ---- the search

  module _ (trust : Trust) (image : Reference) (a : RegistryAuth) where
    module _ (d : List ℕ) where
      abbrev source : Reference
      source = digest_reference image d

      tag_grows : Grows (tag_layers trust d s (tag_reference image d) a)
      unfolding tag_layers
      tag_grows =
          next _ _ (manifest_call_grows (tag_reference image d) a) (λ document.
          next _ _ (image_call_grows (tag_reference image d) a (payload_type ∷ [])) (λ found. said _))

      tag_by_grows : (b : Bool) → Grows (tag_by trust d s (tag_reference image d) a b)
      tag_by_grows false = said _
      tag_by_grows true = changed _ (or_skipped (Source Tag)) tag_grows

      tag_source_grows : Grows (tag_source trust s image a d)
      unfolding tag_source
      tag_source_grows = tag_by_grows (reads_back (tag_reference image d))

      referrer_by_grows : (x : List ℕ) (b : Bool) → Grows (referrer_by trust d s (digest_reference source x) a x b)
      referrer_by_grows x false = said _
      referrer_by_grows x true = changed _ (λ r. or_skipped (Referrer x) (referrer_part trust d r)) (image_call_grows (digest_reference source x) a (bundle_type ∷ []))

      referrers_row_grows : (xs : List ImageIndexEntry) → Grows (referrers_row trust d s source a xs)
      unfolding referrers_row referrer_row
      referrers_row_grows [] = said _
      referrers_row_grows (x ∷ xs) =
          next _ _ (referrer_by_grows x.digest (reads_back (digest_reference source x.digest))) (λ one.
          next _ _ (referrers_row_grows xs) (λ rest. said _))

      listed_grows : (r : Result OciImageIndex SigstoreError) → Grows (listed_row trust d s source a r)
      listed_grows (Ok index) = referrers_row_grows index.manifests
      listed_grows (Err e) = said _

      referrers_source_grows : Grows (referrers_source trust d s source a)
      unfolding referrers_source
      referrers_source_grows = after _ (listed_row trust d s source a) (referrers_call_grows source a) listed_grows

    searched_grows : Grows (searched trust s image a)
    unfolding searched
    searched_grows =
        next _ _ (digest_call_grows image a) (λ d.
        next _ _ (said (reading_back (digest_reference image d))) (λ u.
        next _ _ (tag_source_grows d) (λ tag.
        next _ _ (referrers_source_grows d) (λ more. said _))))

  -- ---- the documents

  module _ (image : Reference) (a : RegistryAuth) (d : List ℕ) where
    abbrev own : Reference
    own = digest_reference image d

    manifest_row_grows : (first : List ℕ) (document : OciManifest) → Grows (manifest_row s own a first document)
    unfolding entry_row entry_call
    manifest_row_grows first (Image manifest) = said _
    manifest_row_grows first (ImageIndex index) =
        next _ _ (said (with_error_context Pull (whole_text own) (entry_found s.settings.platform_resolver index.manifests))) (λ entry.
        next _ _ (changed _ (λ r. with_image (whole_text own) r) (document_call_grows (entry_reference own entry) a)) (λ found.
        next _ _ (said (with_error_context Pull (whole_text own) (entry_in entry found.0))) (λ manifest. said _)))

    image_documents_grows : Grows (image_documents s image own a)
    unfolding image_documents
    image_documents_grows =
        next _ _ (document_call_grows own a) (λ found.
        next _ _ (said (with_error_context Pull (whole_text own) (document_in image found.0))) (λ document.
        next _ _ (manifest_row_grows found.0 document) (λ chosen. said _)))

  part_grows : {A : Type 0} (p : Row A) → Grows p → Grows (part_of p)
  unfolding part_of
  part_grows p h = changed p as_whole h

  -- ---- the two parts

  module _ {V : Type 0} {H : V → Type 0} (policy_context : PolicyContext V H) (image : Reference) (a : RegistryAuth) where
    pub collected_grows : Grows (collected policy_context s image a)
    unfolding collected
    collected_grows =
        next _ _ (said (constrained (is_unconstrained policy_context.policy))) (λ u.
        next _ _ (said (readable image)) (λ v.
        part_grows (searched policy_context.trust s image a) (searched_grows policy_context.trust image a)))

    selected_grows : (stood : SignedDigest) → Grows (selected s image a stood)
    selected_grows stood = next _ _ (part_grows (image_documents s image (digest_reference image stood.digest) a) (image_documents_grows image a stood.digest)) (λ pulled. said _)

    pub decided_grows : (found : TrustedLayers) → Grows (decided policy_context s image a found)
    unfolding decided documents_after
    decided_grows found =
        next _ _ (said (constrained (is_unconstrained policy_context.policy))) (λ u.
        next _ _ (said (standing policy_context (read_again policy_context.trust found))) (λ stood. selected_grows stood))
