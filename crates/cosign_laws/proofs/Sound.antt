-- Documents that are returned hold, and come from the responses.
use Rattle.std.proofs.Common.{◌≡◌, ◌<◌, ◌⊎◌, inl, inr, ℕ, Bool, true, false, cond, List, [], ◌∷◌, ◌++◌, Option, Some, None, Result, Ok, Err, IfOk, length, refl, sym, ap, subst, arith, append-nil}
use Rattle.std.specs.Prelude.{if◌then◌else◌, find, unwrap_or}
use Rattle.std.specs.FinMap as map_of
use Rattle.oci_names.specs.declared.reference.Reference.{Reference}
use Rattle.oci_names.specs.Reference.{reads_back}
use Rattle.oci_auth.specs.declared.auth.RegistryAuth.{RegistryAuth}
use Rattle.oci_manifests.specs.declared.document.OciManifest.{OciManifest}
use Rattle.oci_manifests.specs.declared.document.OciManifest.TheVariants.{Image, ImageIndex}
use Rattle.oci_manifests.specs.declared.descriptor.OciDescriptor.{OciDescriptor}
use Rattle.oci_manifests.specs.declared.blob.ImageLayer.{ImageLayer}
use Rattle.oci_manifests.specs.declared.index.OciImageIndex.{OciImageIndex}
use Rattle.oci_manifests.specs.declared.index_entry.ImageIndexEntry.{ImageIndexEntry}
use Rattle.oci_transport.specs.declared.message.Exchange.{Exchange}
use Rattle.oci_transport.specs.Link.{Link}
use Rattle.oci_protocol.specs.Proto.{Done}
use Rattle.oci_protocol.specs.EveryRun.{EveryRun}
use Rattle.oci_protocol.specs.Ends.{Ends, OnAnswer}
use Rattle.oci_protocol.specs.Runs.{Meets, Told}
use Rattle.oci_protocol.proofs.Ends.{Ends-any, Ends-bind, Ends-next, Runs-ends}
use Rattle.oci_protocol.proofs.RunFacts.{EveryRun-done, EveryRun-more, EveryRun-bind}
use Rattle.engine_terms.specs.Contexts.{Context}
use Rattle.engine_rows.specs.declared.image.ImageData.{ImageData}
use Rattle.engine_laws.proofs.DigestAnswers.{answered_before}
use Rattle.engine_rows.specs.Answered.{DigestAnswered}
use Rattle.registry_calls.specs.declared.error.SigstoreError.{SigstoreError}
use Rattle.registry_calls.specs.Error.{is_memory}
use Rattle.registry_calls.specs.Clients.{Kept, Row}
use Rattle.registry_cache.specs.Keys.{manifest_key}
use Rattle.registry_calls.specs.Calls.{digest_made, digest_call, manifest_call, image_call, referrers_call}
use Rattle.registry_cache.specs.KeptCalls.{digests}
use Rattle.cosign_layers.specs.Checks.{input, layer_read}
use Rattle.cosign_parts.specs.Items.{has_no_item}
use Rattle.cosign_parts.specs.Layer.{LayerOf, IsAboutImage}
use Rattle.cosign_layers.specs.Satisfying.{PolicyContext, StandsFor}
use Rattle.cosign_parts.specs.Trust.{Trust}
use Rattle.cosign_parts.specs.declared.layer.LayerKind.TheVariants as kinds
use Rattle.cosign_parts.specs.declared.layer.SignatureLayer.{SignatureLayer}
use Rattle.cosign_layers.specs.declared.rejection.LayerRejection.{LayerRejection}
use Rattle.cosign_layers.proofs.Layers.{gives}
use Rattle.cosign_layers.proofs.SatisfiesPolicy.{stands_for}
use Rattle.oci_digests.specs.Names.{Names, digest_text}
use Rattle.oci_names.specs.declared.algorithm.Algorithm.TheVariants.{Sha256}
use Rattle.oci_manifests.specs.Promise.{Picks}
use Rattle.oci_manifests.specs.declared.promise.ResolverPromise.{ResolverPromise}
use Rattle.cosign_rows.specs.Part.{nothing, skipping, appended, layer_part, named_layer, read_layer, descriptor_part, descriptors_part, read_bundle, bundle_part, bundles_part}
use Rattle.cosign_rows.specs.References.{tag_reference, digest_reference, reading_back}
use Rattle.cosign_rows.specs.Refusal.{is_memory as of_refusal}
use Rattle.cosign_rows.specs.Search.{payload_type, document_part, tag_layers, or_skipped, tag_by, tag_source, bundle_type, referrer_part, referrer_by, referrer_row, referrers_row, listed_row, referrers_source, trusted_layers, searched}
use Rattle.cosign_rows.specs.Sound.{AnsweredOrFresh}
use Rattle.cosign_rows.specs.Verified.{constrained, is_unconstrained, readable, as_whole, part_of, stands_by, signed_digest, standing, manifest_digests}
use Rattle.cosign_rows.specs.declared.found.Part.{Part}
use Rattle.cosign_rows.specs.declared.found.SkipCause.{SkipCause}
use Rattle.cosign_rows.specs.declared.found.SkipCause.TheVariants.{Refused}
use Rattle.cosign_rows.specs.declared.found.Skipped.{Skipped}
use Rattle.cosign_rows.specs.declared.found.Skipped.TheVariants.{Source, Referrer}
use Rattle.cosign_rows.specs.declared.found.SourceKind.{SourceKind}
use Rattle.cosign_rows.specs.declared.found.SourceKind.TheVariants.{Tag, Referrers}
use Rattle.cosign_rows.specs.declared.found.TrustedLayers.{TrustedLayers}
use Rattle.cosign_rows.specs.declared.refusal.PullRefusal.{PullRefusal}
use Rattle.cosign_rows.specs.declared.signed_digest.SignedDigest.{SignedDigest}
use Rattle.cosign_laws.proofs.Beginnings.{SeenFrom, next_from, step_from, part_from, told_from}
use Rattle.cosign_laws.proofs.CachedCalls.{IsKnown, IsMade, cached_run}
use Rattle.cosign_laws.proofs.Images.{Seen, digest_made_shows, next_seen, step_seen, done_seen, IsFirst, IsEntry, Leads}
use Rattle.request_laws.proofs.DocumentAnswers.{body_after}
use Rattle.cosign_layers.specs.Read.{input_of}
use Rattle.cosign_chain.specs.VerifiedDocuments.{FirstIsManifest, FirstIsIndex, LeadsToManifest, Documents}
use Rattle.cosign_chain.specs.declared.verified_documents.VerifiedDocuments.{VerifiedDocuments}
use Rattle.cosign_rows.specs.Again.{source_of, again_part, again_parts, read_again}
use Rattle.cosign_rows.specs.Rows.{image_documents, signed_documents, selected, documents_after, collected, decided, documents_row}
use Rattle.cosign_rows.specs.DocumentsSound.{Backed, Sound, SoundAfter}
use Rattle.cosign_rows.specs.declared.pulled_documents.PulledDocuments.{PulledDocuments}
use Rattle.cosign_laws.proofs.Pulled.{HasDocuments, documents_show}

-- ---- a returned digest stays one in a longer conversation

given_before : (kept : Kept) (s : Context) (image : Reference) (a : RegistryAuth) (c d : List Exchange) (digest : List ℕ) → AnsweredOrFresh kept s image a c digest → AnsweredOrFresh kept s image a (c ++ d) digest
given_before kept s image a c d digest (inl answered) = inl (answered_before s.settings image c d digest answered)
given_before kept s image a c d digest (inr fresh) = inr fresh

-- ---- the layers that were found

-- the layer is what its bytes say, and is about this image
record Fits (trust : Trust) (d : List ℕ) (layer : SignatureLayer) : Type 0 where
  layer_of : LayerOf trust layer
  about : IsAboutImage layer d

abbrev AllFit : Trust → List ℕ → List SignatureLayer → Type 0
AllFit trust d [] = Unit {0}
AllFit trust d (layer ∷ layers) = Fits trust d layer × AllFit trust d layers

both_fit : (trust : Trust) (d : List ℕ) (xs ys : List SignatureLayer) → AllFit trust d xs → AllFit trust d ys → AllFit trust d (xs ++ ys)
both_fit trust d [] ys h k = k
both_fit trust d (x ∷ xs) ys h k = (h.0, both_fit trust d xs ys h.1 k)

abbrev PartFits : Trust → List ℕ → Part → Type 0
PartFits trust d part = AllFit trust d part.collected

read_fits : (trust : Trust) (d : List ℕ) (x : OciDescriptor) (o : Option ImageLayer) (layer : SignatureLayer) → read_layer trust d x o ≡ Ok layer → Fits trust d layer
read_fits trust d x None layer is = absurd (cc is)
read_fits trust d x (Some pulled) layer is =
    let g = gives trust d (input kinds.Payload pulled.content x.digest (unwrap_or x.annotations map_of.empty)) (Ok layer) is in
    record { layer_of = g.layer_of; about = g.is_named }

layer_fits : (trust : Trust) (d : List ℕ) (kind : SourceKind) (name : List ℕ) (r : Result SignatureLayer LayerRejection) → ((layer : SignatureLayer) → r ≡ Ok layer → Fits trust d layer) → PartFits trust d (layer_part kind name r)
layer_fits trust d kind name (Ok layer) fits = (fits layer refl, tt)
layer_fits trust d kind name (Err cause) fits = tt

descriptors_fit : (trust : Trust) (d : List ℕ) (layers : List ImageLayer) (xs : List OciDescriptor) → PartFits trust d (descriptors_part trust d layers xs)
descriptors_fit trust d layers [] = tt
descriptors_fit trust d layers (x ∷ xs) =
    both_fit trust d (descriptor_part trust d layers x).collected (descriptors_part trust d layers xs).collected
    (layer_fits trust d Tag x.digest (read_layer trust d x (named_layer x.digest layers)) (λ layer is. read_fits trust d x (named_layer x.digest layers) layer is))
    (descriptors_fit trust d layers xs)

document_fits : (trust : Trust) (d : List ℕ) (document : OciManifest) (image : ImageData) → PartFits trust d (document_part trust d document image)
document_fits trust d (ImageIndex index) image = tt
document_fits trust d (Image manifest) image = descriptors_fit trust d image.layers manifest.layers

skipped_fits : (trust : Trust) (d : List ℕ) (place : SkipCause → Skipped) (r : Result Part SigstoreError) → OnAnswer (PartFits trust d) r → OnAnswer (PartFits trust d) (or_skipped place r)
skipped_fits trust d place (Ok part) h = h
skipped_fits trust d place (Err e) h = by_memory (is_memory e) where
  by_memory : (b : Bool) → OnAnswer (PartFits trust d) (if b then Err e else Ok (skipping (place (Refused e))))
  by_memory true = tt
  by_memory false = tt

any_answer : {A E : Type 0} (r : Result A E) → OnAnswer (λ (a : A). Unit {0}) r
any_answer (Ok a) = tt
any_answer (Err e) = tt

any_ends : {A : Type 0} (p : Row A) → Ends (OnAnswer (λ (a : A). Unit {0})) p
any_ends p = Ends-any (OnAnswer (λ a. Unit {0})) p any_answer

done_ends : {A : Type 0} (Q : A → Type 0) (a : A) → Q a → Ends {K = Kept} {A = Result A SigstoreError} (OnAnswer Q) (Done (Ok a))
unfolding Ends
done_ends Q a h = h

layers_ends : (trust : Trust) (d : List ℕ) (s : Context) (tag : Reference) (a : RegistryAuth) → Ends (OnAnswer (PartFits trust d)) (tag_layers trust d s tag a)
unfolding tag_layers
layers_ends trust d s tag a =
    Ends-next (λ document. Unit {0}) (PartFits trust d) (manifest_call s tag a) _ (any_ends (manifest_call s tag a)) (λ document u.
    Ends-next (λ image. Unit {0}) (PartFits trust d) (image_call s tag a (payload_type ∷ [])) _ (any_ends (image_call s tag a (payload_type ∷ []))) (λ image v.
    done_ends (PartFits trust d) (document_part trust d document.0 image) (document_fits trust d document.0 image)))

by_ends : (trust : Trust) (d : List ℕ) (s : Context) (tag : Reference) (a : RegistryAuth) (b : Bool) → Ends (OnAnswer (PartFits trust d)) (tag_by trust d s tag a b)
unfolding Ends
by_ends trust d s tag a false = tt
by_ends trust d s tag a true = Ends-bind (OnAnswer (PartFits trust d)) (OnAnswer (PartFits trust d)) (tag_layers trust d s tag a) (λ r. Done (or_skipped (Source Tag) r)) (layers_ends trust d s tag a) (λ r h. skipped_fits trust d (Source Tag) r h)

source_ends : (trust : Trust) (s : Context) (image : Reference) (a : RegistryAuth) (d : List ℕ) → Ends (OnAnswer (PartFits trust d)) (tag_source trust s image a d)
unfolding tag_source
source_ends trust s image a d = by_ends trust d s (tag_reference image d) a (reads_back (tag_reference image d))

-- ---- the layers of the referrers

bundle_fits : (trust : Trust) (d text : List ℕ) (x : ImageLayer) (layer : SignatureLayer) → read_bundle trust d text x ≡ Ok layer → Fits trust d layer
bundle_fits trust d text x layer is =
    let g = gives trust d (input kinds.Bundle x.content text (unwrap_or x.annotations map_of.empty)) (Ok layer) is in
    record { layer_of = g.layer_of; about = g.is_named }

bundles_fit : (trust : Trust) (d : List ℕ) (xs : List ImageLayer) → PartFits trust d (bundles_part trust d xs)
bundles_fit trust d [] = tt
bundles_fit trust d (x ∷ xs) = let text = digest_text Sha256 x.content in
    both_fit trust d (bundle_part trust d x).collected (bundles_part trust d xs).collected
    (layer_fits trust d Referrers text (read_bundle trust d text x) (λ layer is. bundle_fits trust d text x layer is))
    (bundles_fit trust d xs)

referrer_fits : (trust : Trust) (d : List ℕ) (r : Result ImageData SigstoreError) → OnAnswer (PartFits trust d) (referrer_part trust d r)
referrer_fits trust d (Ok image) = bundles_fit trust d image.layers
referrer_fits trust d (Err e) = tt

referrer_by_ends : (trust : Trust) (d : List ℕ) (s : Context) (referrer : Reference) (a : RegistryAuth) (digest : List ℕ) (b : Bool) → Ends (OnAnswer (PartFits trust d)) (referrer_by trust d s referrer a digest b)
unfolding Ends
referrer_by_ends trust d s referrer a digest false = tt
referrer_by_ends trust d s referrer a digest true = Ends-bind (λ r. Unit {0}) (OnAnswer (PartFits trust d)) (image_call s referrer a (bundle_type ∷ [])) _ (Ends-any (λ r. Unit {0}) (image_call s referrer a (bundle_type ∷ [])) (λ r. tt))
    (λ r u. skipped_fits trust d (Referrer digest) (referrer_part trust d r) (referrer_fits trust d r))

referrer_ends : (trust : Trust) (d : List ℕ) (s : Context) (source : Reference) (a : RegistryAuth) (digest : List ℕ) → Ends (OnAnswer (PartFits trust d)) (referrer_row trust d s source a digest)
unfolding referrer_row
referrer_ends trust d s source a digest = referrer_by_ends trust d s (digest_reference source digest) a digest (reads_back (digest_reference source digest))

referrers_end : (trust : Trust) (d : List ℕ) (s : Context) (source : Reference) (a : RegistryAuth) (xs : List ImageIndexEntry) → Ends (OnAnswer (PartFits trust d)) (referrers_row trust d s source a xs)
unfolding referrers_row
referrers_end trust d s source a [] = done_ends (PartFits trust d) nothing tt
referrers_end trust d s source a (x ∷ xs) =
    Ends-next (PartFits trust d) (PartFits trust d) (referrer_row trust d s source a x.digest) _ (referrer_ends trust d s source a x.digest) (λ one fit.
    Ends-next (PartFits trust d) (PartFits trust d) (referrers_row trust d s source a xs) _ (referrers_end trust d s source a xs) (λ rest also.
    done_ends (PartFits trust d) (appended one rest) (both_fit trust d one.collected rest.collected fit also)))

refused_ends : {A : Type 0} (Q : A → Type 0) (r : Result A SigstoreError) → OnAnswer Q r → Ends {K = Kept} (OnAnswer Q) (Done r)
unfolding Ends
refused_ends Q r h = h

listed_ends : (trust : Trust) (d : List ℕ) (s : Context) (source : Reference) (a : RegistryAuth) (r : Result OciImageIndex SigstoreError) → Ends (OnAnswer (PartFits trust d)) (listed_row trust d s source a r)
listed_ends trust d s source a (Ok index) = referrers_end trust d s source a index.manifests
listed_ends trust d s source a (Err e) = refused_ends (PartFits trust d) (or_skipped (Source Referrers) (Err e)) (skipped_fits trust d (Source Referrers) (Err e) tt)

referrers_source_ends : (trust : Trust) (d : List ℕ) (s : Context) (source : Reference) (a : RegistryAuth) → Ends (OnAnswer (PartFits trust d)) (referrers_source trust d s source a)
unfolding referrers_source
referrers_source_ends trust d s source a = Ends-bind (λ r. Unit {0}) (OnAnswer (PartFits trust d)) (referrers_call s source a None) (listed_row trust d s source a) (Ends-any (λ r. Unit {0}) (referrers_call s source a None) (λ r. tt)) (λ r u. listed_ends trust d s source a r)

-- ---- the search

-- the digest was returned, now or before, and the layers found fit it
record Found (kept : Kept) (trust : Trust) (s : Context) (image : Reference) (a : RegistryAuth) (c : List Exchange) (found : TrustedLayers) : Type 0 where
  answered : AnsweredOrFresh kept s image a c found.digest
  fit : AllFit trust found.digest found.collected

digest_call_seen : (kept : Kept) (s : Context) (image : Reference) (a : RegistryAuth) → SeenFrom kept (AnsweredOrFresh kept s image a) (digest_call s image a)
unfolding digest_call
digest_call_seen kept s image a = record { seen = λ l m n c r run. by_run l m n c r (cached_run digests (manifest_key image a) s.moment (reads_back image) (digest_made s image a) kept l m n c r run) } where
  by_made : (m n : ℕ) (c : List Exchange) (r : Result (List ℕ) SigstoreError) → Seen (DigestAnswered s.settings image) m c n r → Seen (AnsweredOrFresh kept s image a) m c n r
  by_made m n c (Ok digest) h = inl h
  by_made m n c (Err e) h = tt

  by_run : (l : Kept) (m n : ℕ) (c : List Exchange) (r : Result (List ℕ) SigstoreError) → IsKnown digests (manifest_key image a) s.moment kept m c n l r ⊎ IsMade digests (manifest_key image a) s.moment (reads_back image) (digest_made s image a) kept m c n l r → Seen (AnsweredOrFresh kept s image a) m c n r
  by_run l m n c r (inl h) = subst (λ r. Seen (AnsweredOrFresh kept s image a) m c n r) h.result (inr h.known_is)
  by_run l m n c r (inr h) = by_made m n c r ((digest_made_shows s image a).shows kept.0 l.0 m n c r h.runs)

fits_seen : (trust : Trust) (d : List ℕ) (m n : ℕ) (c : List Exchange) (r : Result Part SigstoreError) → OnAnswer (PartFits trust d) r → Seen (λ c part. PartFits trust d part) m c n r
fits_seen trust d m n c (Ok part) h = h
fits_seen trust d m n c (Err e) h = tt

part_shows : (trust : Trust) (d : List ℕ) (p : Row Part) → Ends (OnAnswer (PartFits trust d)) p → EveryRun (Seen (λ c part. PartFits trust d part)) p
part_shows trust d p h = record { shows = λ k l m n c r run. fits_seen trust d m n c r (Runs-ends (OnAnswer (PartFits trust d)) p k l m n c r h run) }

search_seen : (kept : Kept) (trust : Trust) (s : Context) (image : Reference) (a : RegistryAuth) → SeenFrom kept (Found kept trust s image a) (searched trust s image a)
unfolding searched
search_seen kept trust s image a =
    next_from kept (AnsweredOrFresh kept s image a) (Found kept trust s image a) (digest_call s image a) _ (digest_call_seen kept s image a) (λ c digest answered.
    step_seen (λ d found. Found kept trust s image a (c ++ d) found) (reading_back (digest_reference image digest)) _ (λ u is.
    next_seen (λ d part. PartFits trust digest part) (λ d found. Found kept trust s image a (c ++ d) found) (tag_source trust s image a digest) _ (part_shows trust digest (tag_source trust s image a digest) (source_ends trust s image a digest)) (λ d tag fit.
    next_seen (λ e part. PartFits trust digest part) (λ e found. Found kept trust s image a (c ++ (d ++ e)) found) (referrers_source trust digest s (digest_reference image digest) a) _
    (part_shows trust digest (referrers_source trust digest s (digest_reference image digest) a) (referrers_source_ends trust digest s (digest_reference image digest) a)) (λ e more also.
    done_seen (λ f found. Found kept trust s image a (c ++ (d ++ (e ++ f))) found) (trusted_layers digest (appended tag more)) (record { answered = given_before kept s image a c (d ++ (e ++ [])) digest answered; fit = both_fit trust digest tag.collected more.collected fit also })))))

-- ---- layers that are read again

again_fits : (trust : Trust) (d : List ℕ) (layer again : SignatureLayer) → layer_read trust d (input_of layer) ≡ Ok again → Fits trust d again
again_fits trust d layer again is = let g = gives trust d (input_of layer) (Ok again) is in record { layer_of = g.layer_of; about = g.is_named }

agains_fit : (trust : Trust) (d : List ℕ) (layers : List SignatureLayer) → PartFits trust d (again_parts trust d layers)
agains_fit trust d [] = tt
agains_fit trust d (layer ∷ layers) =
    both_fit trust d (again_part trust d layer).collected (again_parts trust d layers).collected
    (layer_fits trust d (source_of layer.kind) layer.oci_digest (layer_read trust d (input_of layer)) (λ again is. again_fits trust d layer again is))
    (agains_fit trust d layers)

-- ---- the pull

some_constraint : {A : Type 0} (xs : List A) → has_no_item xs ≡ false → 0 < length xs
some_constraint [] is = absurd (cc is)
some_constraint (x ∷ xs) is = omega arith

constrained_some : (b : Bool) (u : Unit {0}) → constrained b ≡ Ok u → b ≡ false
constrained_some true u is = absurd (cc is)
constrained_some false u is = refl

first_fits : (trust : Trust) (p : SignatureLayer → Bool) (d : List ℕ) (layers : List SignatureLayer) (layer : SignatureLayer) → AllFit trust d layers → find p layers ≡ Some layer → Fits trust d layer × (p layer ≡ true)
first_fits trust p d [] layer fit is = absurd (cc is)
first_fits trust p d (l ∷ layers) layer fit is = by_test (p l) refl is (λ later. first_fits trust p d layers layer fit.1 later) where
  by_test : (b : Bool) → p l ≡ b → cond b (Some l) (find p layers) ≡ Some layer → (find p layers ≡ Some layer → Fits trust d layer × (p layer ≡ true)) → Fits trust d layer × (p layer ≡ true)
  by_test true so is later = let same : l ≡ layer = cc is in rw (← same) (fit.0, so)
  by_test false so is later = later is

-- a property of a part, as a part of the whole pull
whole_seen : {A : Type 0} (P : List Exchange → A → Type 0) (m n o : ℕ) (c : List Exchange) (r : Result A SigstoreError) → Seen P m c n r → Seen P m (c ++ []) o (as_whole r)
whole_seen P m n o c (Ok a) h = rw append-nil h
whole_seen P m n o c (Err e) h = tt

part_seen : {A : Type 0} (P : List Exchange → A → Type 0) (p : Row A) → EveryRun (Seen P) p → EveryRun (Seen P) (part_of p)
unfolding part_of
part_seen P p h = EveryRun-bind (Seen P) (Seen P) p (λ r. Done (as_whole r)) h (λ m n c r at. EveryRun-done (λ s d o b. Seen P m (c ++ d) o b) (as_whole r) (λ o. whole_seen P m n o c r at))

module _ {V : Type 0} {H : V → Type 0} (s : Context) (policy_context : PolicyContext V H) (image : Reference) (a : RegistryAuth) where
  first_leads : (stood : SignedDigest) (pulled : PulledDocuments) → IsFirst pulled.first pulled.chosen → FirstIsManifest (signed_documents stood pulled)
  first_leads stood pulled h = record { reads = h.reads; bytes = h.bytes; digest = ap (λ o. (manifest_digests stood.digest o).0) h.none; no_list = ap (λ o. (manifest_digests stood.digest o).1) h.none }

  entry_leads : (promise : ResolverPromise) (stood : SignedDigest) (pulled : PulledDocuments) → IsEntry promise pulled.first pulled.chosen → FirstIsIndex promise (signed_documents stood pulled)
  entry_leads promise stood pulled h =
      let same : (manifest_digests stood.digest pulled.chosen.entry).0 ≡ h.entry = ap (λ o. (manifest_digests stood.digest o).0) h.is in
      record {
        index = h.index;
        indexed = h.indexed;
        picked = subst (Picks promise h.index.manifests) (sym same) h.picked;
        named = subst (λ d. Names d pulled.chosen.bytes) (sym same) h.named;
        reads = h.reads;
        list = ap (λ o. (manifest_digests stood.digest o).1) h.is;
      }

  leads : (promise : Option ResolverPromise) (stood : SignedDigest) (pulled : PulledDocuments) → Leads promise pulled.first pulled.chosen → LeadsToManifest promise (signed_documents stood pulled)
  leads None stood pulled h = first_leads stood pulled h
  leads (Some promise) stood pulled (inl h) = inl (first_leads stood pulled h)
  leads (Some promise) stood pulled (inr h) = inr (entry_leads promise stood pulled h)

  abbrev After : List Exchange → VerifiedDocuments → Type 0
  After = SoundAfter s policy_context image

  -- what was pulled for a digest that a layer stands for
  signed : (c : List Exchange) (stood : SignedDigest) (pulled : PulledDocuments) → StandsFor policy_context stood.digest stood.signature → HasDocuments s.settings.platform_resolver image stood.digest c pulled → After c (signed_documents stood pulled)
  signed c stood pulled stands has = record {
    documents = record { named = has.named; asked = has.asked; manifest = leads s.settings.platform_resolver stood pulled has.leads; signature = stands };
    bodies = record { first = has.first_body; manifest = has.manifest_body };
  }

  selected_shows : (stood : SignedDigest) → StandsFor policy_context stood.digest stood.signature → EveryRun (Seen (λ c d. After c d × (d.digest ≡ stood.digest))) (selected s image a stood)
  selected_shows stood stands =
      next_seen (HasDocuments s.settings.platform_resolver image stood.digest) (λ c d. After c d × (d.digest ≡ stood.digest)) (part_of (image_documents s image (digest_reference image stood.digest) a)) _
      (part_seen (HasDocuments s.settings.platform_resolver image stood.digest) (image_documents s image (digest_reference image stood.digest) a) (documents_show s image (digest_reference image stood.digest) stood.digest a refl)) (λ c pulled has.
      done_seen (λ e d. After (c ++ e) d × (d.digest ≡ stood.digest)) (signed_documents stood pulled) (rw append-nil (signed c stood pulled stands has), refl))

  -- the selected layer is one of those found
  record Stood (found : TrustedLayers) (stood : SignedDigest) : Type 0 where
    digest : stood.digest ≡ found.digest
    stands : StandsFor policy_context stood.digest stood.signature

  stood_by : (found : TrustedLayers) (o : Option SignatureLayer) (stood : SignedDigest) → 0 < length policy_context.policy.constraints → AllFit policy_context.trust found.digest found.collected → find (stands_by policy_context) found.collected ≡ o → signed_digest found o ≡ Ok stood → Stood found stood
  stood_by found None stood some fit first is = absurd (cc is)
  stood_by found (Some signature) stood some fit first is =
      let same : (let x : SignedDigest = record { digest = found.digest; signature = signature } in x) ≡ stood = cc is in
      let f = first_fits policy_context.trust (stands_by policy_context) found.digest found.collected signature fit first in
      subst (Stood found) same (record { digest = refl; stands = (stands_for policy_context signature found.digest (f.0).layer_of (f.0).about some).0 f.1 })

  -- after layers that are what their bytes say
  after_shows : (found : TrustedLayers) → 0 < length policy_context.policy.constraints → AllFit policy_context.trust found.digest found.collected → EveryRun (Seen (λ c d. After c d × (d.digest ≡ found.digest))) (documents_after policy_context s image a found)
  unfolding documents_after
  after_shows found some fit =
      step_seen (λ c d. After c d × (d.digest ≡ found.digest)) (standing policy_context found) _ (λ stood is.
      let h = stood_by found (find (stands_by policy_context) found.collected) stood some fit refl is in
      subst (λ (t : List ℕ). EveryRun (Seen (λ c (d : VerifiedDocuments). After c d × (d.digest ≡ t))) (selected s image a stood)) h.digest (selected_shows stood h.stands))

  -- the second part, over whatever was collected
  pub decided_shows : (found : TrustedLayers) → EveryRun (Seen (λ c d. After c d × (d.digest ≡ found.digest))) (decided policy_context s image a found)
  unfolding decided
  decided_shows found =
      step_seen (λ c d. After c d × (d.digest ≡ found.digest)) (constrained (is_unconstrained policy_context.policy)) _ (λ u is.
      after_shows (read_again policy_context.trust found) (some_constraint policy_context.policy.constraints (constrained_some (is_unconstrained policy_context.policy) u is)) (agains_fit policy_context.trust found.digest found.collected))

  -- ---- the whole pull

  module _ (kept : Kept) where
    abbrev IsSound : List Exchange → VerifiedDocuments → Type 0
    IsSound = Sound kept s policy_context image a

    -- what was collected, under a policy with a constraint
    record Collected (c : List Exchange) (found : TrustedLayers) : Type 0 where
      some : 0 < length policy_context.policy.constraints
      found_is : Found kept policy_context.trust s image a c found

    found_more : (some : 0 < length policy_context.policy.constraints) (m n : ℕ) (c : List Exchange) (r : Result TrustedLayers PullRefusal) → Seen (Found kept policy_context.trust s image a) m c n r → Seen Collected m c n r
    found_more some m n c (Ok found) h = record { some = some; found_is = h }
    found_more some m n c (Err e) h = tt

    collected_seen : SeenFrom kept Collected (collected policy_context s image a)
    unfolding collected
    collected_seen =
        step_from kept Collected (constrained (is_unconstrained policy_context.policy)) _ (λ u is.
        step_from kept Collected (readable image) _ (λ v back.
        let found : SeenFrom kept (Found kept policy_context.trust s image a) (part_of (searched policy_context.trust s image a)) = part_from kept (Found kept policy_context.trust s image a) (searched policy_context.trust s image a) (search_seen kept policy_context.trust s image a) in
        record { seen = λ l m n c r run. found_more (some_constraint policy_context.policy.constraints (constrained_some (is_unconstrained policy_context.policy) u is)) m n c r (found.seen l m n c r run) }))

    -- the digest that was collected was returned, or was fresh in the cache
    pub collected_answered : {old new : Link} {l : Kept} (r : Result TrustedLayers PullRefusal) → Meets of_refusal (collected policy_context s image a) old new kept l r → IfOk r (λ found. Told (λ c. AnsweredOrFresh kept s image a c found.digest) old new)
    collected_answered (Ok found) met = let told = told_from Collected (Ok found) collected_seen met in record { conversation = told.conversation; told = told.told; holds = told.holds.found_is.answered }
    collected_answered (Err e) met = tt

    sound_of : (c d : List Exchange) (found : TrustedLayers) (v : VerifiedDocuments) → Found kept policy_context.trust s image a c found → After d v → v.digest ≡ found.digest → IsSound (c ++ d) v
    sound_of c d found v h after same = record {
      documents = after.documents;
      backed = record {
        answered = given_before kept s image a c d v.digest (subst (AnsweredOrFresh kept s image a c) (sym same) h.answered);
        bodies = record { first = body_after c after.bodies.first; manifest = body_after c after.bodies.manifest };
      };
    }

    after_more : (c : List Exchange) (found : TrustedLayers) → Found kept policy_context.trust s image a c found → (m n : ℕ) (d : List Exchange) (r : Result VerifiedDocuments PullRefusal) → Seen (λ e v. After e v × (v.digest ≡ found.digest)) m d n r → Seen (λ e v. IsSound (c ++ e) v) m d n r
    after_more c found h m n d (Ok v) is = sound_of c d found v h is.0 is.1
    after_more c found h m n d (Err e) is = tt

    -- the result of the whole pull holds, and comes from its conversation
    pub documents_seen : SeenFrom kept IsSound (documents_row policy_context s image a)
    unfolding documents_row
    documents_seen = next_from kept Collected IsSound (collected policy_context s image a) _ collected_seen (λ c found h.
        EveryRun-more (Seen (λ e v. After e v × (v.digest ≡ found.digest))) (Seen (λ e v. IsSound (c ++ e) v)) (documents_after policy_context s image a found) (after_shows found h.some h.found_is.fit) (λ m n d r is. after_more c found h.found_is m n d r is))

    -- the result of a call
    pub sound_documents : {old new : Link} {l : Kept} (r : Result VerifiedDocuments PullRefusal) → Meets of_refusal (documents_row policy_context s image a) old new kept l r → IfOk r (λ d. Told (λ c. IsSound c d) old new)
    sound_documents r met = told_from IsSound r documents_seen met

    pub documents_hold : {old new : Link} {l : Kept} (r : Result VerifiedDocuments PullRefusal) → Meets of_refusal (documents_row policy_context s image a) old new kept l r → IfOk r (λ d. Documents policy_context image s.settings.platform_resolver d)
    documents_hold (Ok d) met = (sound_documents (Ok d) met).holds.documents
    documents_hold (Err e) met = tt

    pub documents_backed : {old new : Link} {l : Kept} (r : Result VerifiedDocuments PullRefusal) → Meets of_refusal (documents_row policy_context s image a) old new kept l r → IfOk r (λ d. Told (λ c. Backed kept s image a c d) old new)
    documents_backed (Ok d) met = let told = sound_documents (Ok d) met in record { conversation = told.conversation; told = told.told; holds = told.holds.backed }
    documents_backed (Err e) met = tt

  -- the result of the second part
  pub sound_decided : {old new : Link} {k l : Kept} (found : TrustedLayers) (r : Result VerifiedDocuments PullRefusal) → Meets of_refusal (decided policy_context s image a found) old new k l r → IfOk r (λ d. Told (λ c. SoundAfter s policy_context image c d × (d.digest ≡ found.digest)) old new)
  sound_decided {old} {new} {k} {l} found (Ok d) met = let run = met.outcome in record { conversation = run.conversation; told = run.told; holds = (decided_shows found).shows k l old.faults new.faults run.conversation (Ok d) run.runs }
  sound_decided found (Err e) met = tt
