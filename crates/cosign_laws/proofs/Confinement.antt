-- The calls send credentials and tokens only to the image's registry and to the realm that it names, in each of their
-- parts.
use Rattle.std.proofs.Common.{◌≡◌, ℕ, Bool, true, false, List, [], ◌∷◌, ◌++◌, Option, Some, None, Result, Ok, Err, codes, refl, sym, ap}
use Rattle.std.specs.Prelude.{if◌then◌else◌, bytes_eq, unwrap_or}
use Rattle.oci_protocol.specs.Proto.{Proto, Done}
use Rattle.oci_protocol.specs.Runs.{Meets, Told}
use Rattle.engine_rows.specs.Confined.{Within}
use Rattle.engine_rows.specs.Held.{Entry, pulling}
use Rattle.engine_laws.proofs.Confines.{ConfinesBy, Alone, Beside, confines_by, confines_done, confines_bind, confines_next, confines_lifted, confines_same, confines_call}
use Rattle.request_laws.proofs.ShownTokens.{Ended}
use Rattle.registry_cache.specs.Keys.{manifest_key, pull_key, referrers_key}
use Rattle.registry_calls.specs.Clients.{Kept, Row}
use Rattle.registry_calls.specs.Calls.{in_words, digest_made, manifest_made, image_made, document_made, blob_made, referrers_made, digest_call, manifest_call, image_call, document_call, blob_call, referrers_call}
use Rattle.registry_cache.specs.KeptCalls.{digests, manifests, images, referrers}
use Rattle.cosign_laws.proofs.CachedCalls.{cached_confines}
use Rattle.oci_transport.specs.Link.{Link}
use Rattle.oci_names.specs.declared.reference.Reference.{Reference}
use Rattle.oci_names.specs.Reference.{resolved_registry, mirror_of, whole_text, reads_back}
use Rattle.oci_auth.specs.declared.auth.RegistryAuth.{RegistryAuth}
use Rattle.oci_auth.specs.declared.auth_state.AuthState.{AuthState}
use Rattle.oci_auth.specs.declared.token_type.RegistryOperation.TheVariants.{Pull}
use Rattle.oci_manifests.specs.declared.document.OciManifest.{OciManifest}
use Rattle.oci_manifests.specs.declared.document.OciManifest.TheVariants.{Image, ImageIndex}
use Rattle.oci_manifests.specs.declared.descriptor.OciDescriptor.{OciDescriptor}
use Rattle.oci_manifests.specs.declared.blob.ImageLayer.{ImageLayer}
use Rattle.oci_manifests.specs.declared.manifest.OciImageManifest.{OciImageManifest}
use Rattle.oci_manifests.specs.declared.index.OciImageIndex.{OciImageIndex}
use Rattle.oci_manifests.specs.declared.index_entry.ImageIndexEntry.{ImageIndexEntry}
use Rattle.engine_terms.specs.Contexts.{Context}
use Rattle.engine_requests.specs.Sources.{Layer, described}
use Rattle.engine_answers.specs.Index.{entry_found, entry_reference}
use Rattle.engine_requests.specs.Requests.{manifest_types}
use Rattle.engine_terms.specs.declared.settings.Settings.{Settings}
use Rattle.engine_rows.specs.Blobs.{IntoMemory}
use Rattle.engine_rows.specs.Rows.{Row as Engine, token_given}
use Rattle.engine_rows.specs.Image.{layers_by, pull, layers_accepted, layer_of}
use Rattle.engine_rows.specs.Pulls.{fetch_manifest_digest, pull_manifest, pull_manifest_raw, held_blob}
use Rattle.engine_rows.specs.Referrers.{pull_referrers}
use Rattle.request_laws.proofs.CallConfinement.{Any, given_safe}
use Rattle.engine_laws.proofs.ReferrersSound.{referrers_sound, same_registry}
use Rattle.request_laws.proofs.HeaderCauses.{digest_sound, raw_sound, manifest_sound, image_sound, blob_sound}
use Rattle.registry_calls.specs.declared.error.SigstoreError.{SigstoreError}
use Rattle.registry_calls.specs.declared.error_context.Called.{Called}
use Rattle.registry_calls.specs.declared.error_context.Called.TheVariants as calls
use Rattle.registry_calls.specs.Error.{is_memory}
use Rattle.registry_calls.specs.ErrorContext.{with_error_context}
use Rattle.cosign_chain.specs.declared.image.VerifiedImage.{VerifiedImage}
use Rattle.cosign_layers.specs.Satisfying.{PolicyContext}
use Rattle.cosign_parts.specs.Trust.{Trust}
use Rattle.cosign_rows.specs.Image.{document_in, entry_in, with_image, layers_row, blobs_row, entry_call, entry_row, manifest_row, image_row}
use Rattle.cosign_rows.specs.Refusal.{is_memory as of_refusal}
use Rattle.cosign_rows.specs.declared.refusal.PullRefusal.{PullRefusal}
use Rattle.cosign_rows.specs.References.{tag_reference, digest_reference, reading_back}
use Rattle.cosign_rows.specs.Search.{payload_type, bundle_type, tag_layers, tag_by, tag_source, referrer_by, referrer_row, referrers_row, listed_row, referrers_source, searched}
use Rattle.cosign_rows.specs.Triangulated.{triangulated}
use Rattle.cosign_rows.specs.Tails.{after_search}
use Rattle.cosign_rows.specs.Verified.{constrained, is_unconstrained, readable, as_whole, part_of, standing, verified}
use Rattle.cosign_rows.specs.declared.found.TrustedLayers.{TrustedLayers}

-- ---- calls

-- a part is confined, whatever the cache holds
abbrev Confines : {A : Type 0} → Entry → Settings → Proto Kept A → Type 0
Confines x t p = ConfinesBy Beside x t p

words_confine : {A : Type 0} (x : Entry) (t : Settings) (called : Called) (image : Reference) (p : Engine A) → ConfinesBy Alone x t p → ConfinesBy Alone x t (in_words called image p)
unfolding in_words
words_confine x t called image p h = confines_bind Alone x t p (λ r. Done (with_error_context called (whole_text image) r)) h (λ r. confines_done Alone x t (with_error_context called (whole_text image) r))

digest_made_confines : (k : AuthState) (s : Context) (image : Reference) (a : RegistryAuth) → ConfinesBy Alone (pulling k s image (Some a)) s.settings (digest_made s image a)
unfolding digest_made
digest_made_confines k s image a = let x = pulling k s image (Some a) in words_confine x s.settings calls.FetchManifest image (fetch_manifest_digest s image a) (confines_by x s.settings (Ended x s.settings manifest_types) (fetch_manifest_digest s image a) (digest_sound s image a k))

digest_confines : (k : AuthState) (s : Context) (image : Reference) (a : RegistryAuth) → Confines (pulling k s image (Some a)) s.settings (digest_call s image a)
unfolding digest_call
digest_confines k s image a = cached_confines digests (manifest_key image a) s.moment (pulling k s image (Some a)) s.settings (reads_back image) (digest_made s image a) (digest_made_confines k s image a)

manifest_made_confines : (k : AuthState) (s : Context) (image : Reference) (a : RegistryAuth) → ConfinesBy Alone (pulling k s image (Some a)) s.settings (manifest_made s image a)
unfolding manifest_made
manifest_made_confines k s image a = let x = pulling k s image (Some a) in words_confine x s.settings calls.PullManifest image (pull_manifest s image a) (confines_by x s.settings (Ended x s.settings manifest_types) (pull_manifest s image a) (manifest_sound s image a k))

manifest_confines : (k : AuthState) (s : Context) (image : Reference) (a : RegistryAuth) → Confines (pulling k s image (Some a)) s.settings (manifest_call s image a)
unfolding manifest_call
manifest_confines k s image a = cached_confines manifests (manifest_key image a) s.moment (pulling k s image (Some a)) s.settings (reads_back image) (manifest_made s image a) (manifest_made_confines k s image a)

image_made_confines : (k : AuthState) (s : Context) (image : Reference) (a : RegistryAuth) (accepted : List (List ℕ)) → ConfinesBy Alone (pulling k s image (Some a)) s.settings (image_made s image a accepted)
unfolding image_made
image_made_confines k s image a accepted = let x = pulling k s image (Some a) in words_confine x s.settings calls.Pull image (pull s image a accepted) (confines_by x s.settings (Ended x s.settings manifest_types) (pull s image a accepted) (image_sound s image a accepted k))

image_confines : (k : AuthState) (s : Context) (image : Reference) (a : RegistryAuth) (accepted : List (List ℕ)) → Confines (pulling k s image (Some a)) s.settings (image_call s image a accepted)
unfolding image_call
image_confines k s image a accepted = cached_confines images (pull_key image a accepted) s.moment (pulling k s image (Some a)) s.settings (reads_back image) (image_made s image a accepted) (image_made_confines k s image a accepted)

document_confines : (k : AuthState) (s : Context) (image : Reference) (a : RegistryAuth) (types : List ℕ) → Confines (pulling k s image (Some a)) s.settings (document_call s image a types)
unfolding document_call document_made
document_confines k s image a types = let x = pulling k s image (Some a) in confines_lifted x s.settings (document_made s image a types) (words_confine x s.settings calls.Pull image (pull_manifest_raw s image a types) (confines_by x s.settings (Ended x s.settings types) (pull_manifest_raw s image a types) (raw_sound s image a types k)))

blob_confines : (k : AuthState) (s : Context) (image : Reference) (handed : Option RegistryAuth) (layer : Layer) → Confines (pulling k s image handed) s.settings (blob_call s image layer)
unfolding blob_call blob_made
blob_confines k s image handed layer = let x = pulling k s image handed in confines_lifted x s.settings (blob_made s image layer) (words_confine x s.settings calls.Pull image (held_blob s image layer) (confines_by x s.settings (Ended x s.settings manifest_types) (held_blob s image layer) (blob_sound IntoMemory s image layer k handed)))

-- ---- the image of a digest

layers_confine : (k : AuthState) (s : Context) (source : Reference) (handed : Option RegistryAuth) (xs : List OciDescriptor) (layers : List ImageLayer) → Confines (pulling k s source handed) s.settings (layers_row s source xs layers)
unfolding layers_by
layers_confine k s source handed [] layers = confines_done Beside _ s.settings (Ok layers)
layers_confine k s source handed (x ∷ xs) layers = confines_next Beside (pulling k s source handed) s.settings (blob_call s source (described x)) _ (blob_confines k s source handed (described x)) (λ content. layers_confine k s source handed xs (layers ++ layer_of x content ∷ []))

blobs_confine : (k : AuthState) (s : Context) (source : Reference) (handed : Option RegistryAuth) (accepted : List (List ℕ)) (manifest : OciImageManifest) → Confines (pulling k s source handed) s.settings (blobs_row s source accepted manifest)
unfolding blobs_row
blobs_confine k s source handed accepted manifest = let x = pulling k s source handed in
    confines_next Beside x s.settings (blob_call s source (described manifest.config)) _ (blob_confines k s source handed (described manifest.config)) (λ content.
    confines_next Beside x s.settings (Done (with_error_context calls.Pull (whole_text source) (layers_accepted accepted manifest.layers))) _ (confines_done Beside x s.settings _) (λ u.
    confines_next Beside x s.settings (layers_row s source manifest.layers []) _ (layers_confine k s source handed manifest.layers []) (λ layers.
    confines_done Beside x s.settings _)))

entry_call_confines : (k : AuthState) (s : Context) (source : Reference) (a : RegistryAuth) (entry : List ℕ) → Confines (pulling k s source (Some a)) s.settings (entry_call s source a entry)
unfolding entry_call
entry_call_confines k s source a entry = let x = pulling k s source (Some a) in
    confines_bind Beside x s.settings (document_call s (entry_reference source entry) a manifest_types) (λ r. Done (with_image (whole_text source) r))
    (confines_same Beside k s source (entry_reference source entry) (Some a) refl refl s.settings (document_call s (entry_reference source entry) a manifest_types) (document_confines k s (entry_reference source entry) a manifest_types))
    (λ r. confines_done Beside x s.settings (with_image (whole_text source) r))

entry_confines : (k : AuthState) (s : Context) (source : Reference) (a : RegistryAuth) (entries : List ImageIndexEntry) → Confines (pulling k s source (Some a)) s.settings (entry_row s source a entries)
unfolding entry_row
entry_confines k s source a entries = let x = pulling k s source (Some a) in
    confines_next Beside x s.settings (Done (with_error_context calls.Pull (whole_text source) (entry_found s.settings.platform_resolver entries))) _ (confines_done Beside x s.settings _) (λ entry.
    confines_next Beside x s.settings (entry_call s source a entry) _ (entry_call_confines k s source a entry) (λ found.
    confines_next Beside x s.settings (Done (with_error_context calls.Pull (whole_text source) (entry_in entry found.0))) _ (confines_done Beside x s.settings _) (λ manifest.
    confines_done Beside x s.settings _)))

manifest_row_confines : (k : AuthState) (s : Context) (source : Reference) (a : RegistryAuth) (first : List ℕ) (document : OciManifest) → Confines (pulling k s source (Some a)) s.settings (manifest_row s source a first document)
manifest_row_confines k s source a first (Image manifest) = confines_done Beside _ s.settings _
manifest_row_confines k s source a first (ImageIndex index) = entry_confines k s source a index.manifests

image_row_confines : (k : AuthState) (s : Context) (image source : Reference) (a : RegistryAuth) (accepted : List (List ℕ)) → Confines (pulling k s source (Some a)) s.settings (image_row s image source a accepted)
unfolding image_row
image_row_confines k s image source a accepted = let x = pulling k s source (Some a) in
    confines_next Beside x s.settings (document_call s source a manifest_types) _ (document_confines k s source a manifest_types) (λ found.
    confines_next Beside x s.settings (Done (with_error_context calls.Pull (whole_text source) (document_in image found.0))) _ (confines_done Beside x s.settings _) (λ document.
    confines_next Beside x s.settings (manifest_row s source a found.0 document) _ (manifest_row_confines k s source a found.0 document) (λ chosen.
    confines_next Beside x s.settings (blobs_row s source accepted chosen.manifest) _ (blobs_confine k s source (Some a) accepted chosen.manifest) (λ blobs.
    confines_done Beside x s.settings _))))

-- ---- the search

-- references by a tag or by a digest have no mirror, nor has the image
plain_registry : (image : Reference) → mirror_of image ≡ None → (if bytes_eq image.registry (codes "docker.io") then codes "index.docker.io" else image.registry) ≡ resolved_registry image
plain_registry image direct = sym (ap (λ m. unwrap_or m (if bytes_eq image.registry (codes "docker.io") then codes "index.docker.io" else image.registry)) direct)

-- ---- the list of referrers

-- without a mirror, the tag that replaces the list is at the same registry
referrers_made_confines : (k : AuthState) (s : Context) (source : Reference) (a : RegistryAuth) (kind : Option (List ℕ)) → mirror_of source ≡ None → ConfinesBy Alone (pulling k s source (Some a)) s.settings (referrers_made s source a kind)
unfolding referrers_made
referrers_made_confines k s source a kind direct = let x = pulling k s source (Some a) in
    confines_next Alone x s.settings (in_words calls.FetchManifest source (token_given s source a Pull)) _ (words_confine x s.settings calls.FetchManifest source (token_given s source a Pull) (confines_by x s.settings (Any x) (token_given s source a Pull) (given_safe k s source a Pull))) (λ u.
    words_confine x s.settings calls.PullManifest source (pull_referrers s source kind) (confines_by x s.settings (Ended x s.settings manifest_types) (pull_referrers s source kind) (λ l c keeps. referrers_sound s source kind k (Some a) l c (λ digest is. same_registry source digest direct) keeps)))

referrers_call_confines : (k : AuthState) (s : Context) (source : Reference) (a : RegistryAuth) (kind : Option (List ℕ)) → mirror_of source ≡ None → Confines (pulling k s source (Some a)) s.settings (referrers_call s source a kind)
unfolding referrers_call
referrers_call_confines k s source a kind direct = cached_confines referrers (referrers_key source a kind) s.moment (pulling k s source (Some a)) s.settings (reads_back source) (referrers_made s source a kind) (referrers_made_confines k s source a kind direct)

-- ---- the sources

tag_layers_confine : (k : AuthState) (trust : Trust) (d : List ℕ) (s : Context) (tag : Reference) (a : RegistryAuth) → Confines (pulling k s tag (Some a)) s.settings (tag_layers trust d s tag a)
unfolding tag_layers
tag_layers_confine k trust d s tag a = let x = pulling k s tag (Some a) in
    confines_next Beside x s.settings (manifest_call s tag a) _ (manifest_confines k s tag a) (λ document.
    confines_next Beside x s.settings (image_call s tag a (payload_type ∷ [])) _ (image_confines k s tag a (payload_type ∷ [])) (λ image.
    confines_done Beside x s.settings _))

tag_by_confines : (k : AuthState) (trust : Trust) (d : List ℕ) (s : Context) (tag : Reference) (a : RegistryAuth) (b : Bool) → Confines (pulling k s tag (Some a)) s.settings (tag_by trust d s tag a b)
tag_by_confines k trust d s tag a false = confines_done Beside _ s.settings _
tag_by_confines k trust d s tag a true = let x = pulling k s tag (Some a) in confines_bind Beside x s.settings (tag_layers trust d s tag a) _ (tag_layers_confine k trust d s tag a) (λ r. confines_done Beside x s.settings _)

referrer_by_confines : (k : AuthState) (trust : Trust) (d : List ℕ) (s : Context) (referrer : Reference) (a : RegistryAuth) (digest : List ℕ) (b : Bool) → Confines (pulling k s referrer (Some a)) s.settings (referrer_by trust d s referrer a digest b)
referrer_by_confines k trust d s referrer a digest false = confines_done Beside _ s.settings _
referrer_by_confines k trust d s referrer a digest true = let x = pulling k s referrer (Some a) in confines_bind Beside x s.settings (image_call s referrer a (bundle_type ∷ [])) _ (image_confines k s referrer a (bundle_type ∷ [])) (λ r. confines_done Beside x s.settings _)

module _ (k : AuthState) (s : Context) (image : Reference) (a : RegistryAuth) (direct : mirror_of image ≡ None) where
  abbrev OfImage : {A : Type 0} → Proto Kept A → Type 0
  OfImage p = Confines (pulling k s image (Some a)) s.settings p

  tag_confines : (trust : Trust) (d : List ℕ) → OfImage (tag_source trust s image a d)
  unfolding tag_source
  tag_confines trust d = let tag = tag_reference image d in confines_same Beside k s image tag (Some a) (plain_registry image direct) refl s.settings (tag_by trust d s tag a (reads_back tag)) (tag_by_confines k trust d s tag a (reads_back tag))

  -- by its digest in the repository of a reference by a digest
  referrer_confines : (trust : Trust) (d digest : List ℕ) → OfImage (referrer_row trust d s (digest_reference image d) a digest)
  unfolding referrer_row
  referrer_confines trust d digest = let referrer = digest_reference image digest in confines_same Beside k s image referrer (Some a) (plain_registry image direct) refl s.settings (referrer_by trust d s referrer a digest (reads_back referrer)) (referrer_by_confines k trust d s referrer a digest (reads_back referrer))

  referrers_confine : (trust : Trust) (d : List ℕ) (xs : List ImageIndexEntry) → OfImage (referrers_row trust d s (digest_reference image d) a xs)
  unfolding referrers_row
  referrers_confine trust d [] = confines_done Beside _ s.settings _
  referrers_confine trust d (x ∷ xs) = let pulled = pulling k s image (Some a) in
      confines_next Beside pulled s.settings (referrer_row trust d s (digest_reference image d) a x.digest) _ (referrer_confines trust d x.digest) (λ one.
      confines_next Beside pulled s.settings (referrers_row trust d s (digest_reference image d) a xs) _ (referrers_confine trust d xs) (λ rest.
      confines_done Beside pulled s.settings _))

  listing_confines : (d : List ℕ) → OfImage (referrers_call s (digest_reference image d) a None)
  listing_confines d = let source = digest_reference image d in confines_same Beside k s image source (Some a) (plain_registry image direct) refl s.settings (referrers_call s source a None) (referrers_call_confines k s source a None refl)

  listed_confines : (trust : Trust) (d : List ℕ) (r : Result OciImageIndex SigstoreError) → OfImage (listed_row trust d s (digest_reference image d) a r)
  listed_confines trust d (Ok index) = referrers_confine trust d index.manifests
  listed_confines trust d (Err e) = confines_done Beside _ s.settings _

  source_confines : (trust : Trust) (d : List ℕ) → OfImage (referrers_source trust d s (digest_reference image d) a)
  unfolding referrers_source
  source_confines trust d = confines_bind Beside (pulling k s image (Some a)) s.settings (referrers_call s (digest_reference image d) a None) (listed_row trust d s (digest_reference image d) a) (listing_confines d) (listed_confines trust d)

  searched_confines : (trust : Trust) → OfImage (searched trust s image a)
  unfolding searched
  searched_confines trust = let x = pulling k s image (Some a) in
      confines_next Beside x s.settings (digest_call s image a) _ (digest_confines k s image a) (λ digest.
      confines_next Beside x s.settings (Done (reading_back (digest_reference image digest))) _ (confines_done Beside x s.settings _) (λ u.
      confines_next Beside x s.settings (tag_source trust s image a digest) _ (tag_confines trust digest) (λ tag.
      confines_next Beside x s.settings (referrers_source trust digest s (digest_reference image digest) a) _ (source_confines trust digest) (λ more.
      confines_done Beside x s.settings _))))

  triangulated_confines : OfImage (triangulated s image a)
  unfolding triangulated
  triangulated_confines = let x = pulling k s image (Some a) in
      confines_next Beside x s.settings (digest_call s image a) _ (digest_confines k s image a) (λ digest. confines_done Beside x s.settings _)

  part_confines : {A : Type 0} (p : Row A) → OfImage p → OfImage (part_of p)
  unfolding part_of
  part_confines p h = confines_bind Beside (pulling k s image (Some a)) s.settings p (λ r. Done (as_whole r)) h (λ r. confines_done Beside _ s.settings (as_whole r))

  -- ---- the pull

  pulled_confines : (accepted : List (List ℕ)) (digest : List ℕ) → OfImage (image_row s image (digest_reference image digest) a accepted)
  pulled_confines accepted digest = let source = digest_reference image digest in confines_same Beside k s image source (Some a) (plain_registry image direct) refl s.settings (image_row s image source a accepted) (image_row_confines k s image source a accepted)

  module _ {V : Type 0} {H : V → Type 0} (policy_context : PolicyContext V H) (accepted : List (List ℕ)) where
    after_confines : (found : TrustedLayers) → OfImage (after_search policy_context s image a accepted found)
    unfolding after_search
    after_confines found = let x = pulling k s image (Some a) in
        confines_next Beside x s.settings (Done (standing policy_context found)) _ (confines_done Beside x s.settings _) (λ stood.
        confines_next Beside x s.settings (part_of (image_row s image (digest_reference image stood.digest) a accepted)) _ (part_confines (image_row s image (digest_reference image stood.digest) a accepted) (pulled_confines accepted stood.digest)) (λ pulled.
        confines_done Beside x s.settings _))

    verified_confines : OfImage (verified policy_context s image a accepted)
    unfolding verified after_search
    verified_confines = let x = pulling k s image (Some a) in
        confines_next Beside x s.settings (Done (constrained (is_unconstrained policy_context.policy))) _ (confines_done Beside x s.settings _) (λ u.
        confines_next Beside x s.settings (Done (readable image)) _ (confines_done Beside x s.settings _) (λ v.
        confines_next Beside x s.settings (part_of (searched policy_context.trust s image a)) _ (part_confines (searched policy_context.trust s image a) (searched_confines policy_context.trust)) (λ found.
        after_confines found)))

-- ---- the same for a call

pub search_confined : (trust : Trust) (s : Context) (image : Reference) (a : RegistryAuth) {old new : Link} {k l : Kept} (r : Result TrustedLayers SigstoreError) → mirror_of image ≡ None → Meets is_memory (searched trust s image a) old new k l r → Told (Within (pulling k.0 s image (Some a)) s.settings l.0) old new
search_confined trust s image a {k = k} r direct met = confines_call Beside (pulling k.0 s image (Some a)) s.settings refl (searched_confines k.0 s image a direct trust) met

pub triangulated_confined : (s : Context) (image : Reference) (a : RegistryAuth) {old new : Link} {k l : Kept} (r : Result (Reference × List ℕ) SigstoreError) → mirror_of image ≡ None → Meets is_memory (triangulated s image a) old new k l r → Told (Within (pulling k.0 s image (Some a)) s.settings l.0) old new
triangulated_confined s image a {k = k} r direct met = confines_call Beside (pulling k.0 s image (Some a)) s.settings refl (triangulated_confines k.0 s image a direct) met

pub pull_confined : {V : Type 0} {H : V → Type 0} (policy_context : PolicyContext V H) (s : Context) (image : Reference) (a : RegistryAuth) (accepted : List (List ℕ)) {old new : Link} {k l : Kept} (r : Result VerifiedImage PullRefusal) → mirror_of image ≡ None → Meets of_refusal (verified policy_context s image a accepted) old new k l r → Told (Within (pulling k.0 s image (Some a)) s.settings l.0) old new
pull_confined policy_context s image a accepted {k = k} r direct met = confines_call Beside (pulling k.0 s image (Some a)) s.settings refl (verified_confines k.0 s image a direct policy_context accepted) met
