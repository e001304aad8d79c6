-- A search and a pull over a shelf find what the shelf has.
use Rattle.std.specs.Prelude.{find, slice_index_or, MatchBool, if◌then◌else◌}
use Rattle.std.specs.Option.{option_or}
use Rattle.std.specs.List.{All}
use Rattle.std.proofs.Common.{◌≡◌, ◌⊎◌, inl, inr, ◌<◌, ◌≤◌, ◌^◌, ◌-◌, ℕ, zero, suc, Bool, true, false, cond, List, [], ◌∷◌, ◌++◌, length, Option, Some, None, Result, Ok, Err, refl, sym, ap, ◌∙◌, subst, arith}
use Rattle.std.proofs.lemmas.List.Folds.{find-append}
use Rattle.std.proofs.lemmas.List.Elements.{All-head, All-tail}
use Rattle.oci_names.specs.Grammar.{is_digest}
use Rattle.oci_names.specs.Parts.{digest_refusal}
use Rattle.oci_names.specs.Words.{Tag}
use Rattle.oci_names.specs.Reference.{digest_of, whole_text, repository_of, resolved_registry, reads_back}
use Rattle.oci_names.specs.declared.reference.Reference.{Reference}
use Rattle.oci_auth.specs.declared.auth.RegistryAuth.{RegistryAuth}
use Rattle.oci_auth.specs.declared.auth_state.AuthState.{AuthState}
use Rattle.oci_digests.specs.Names.{Names, digest_text}
use Rattle.oci_names.specs.declared.algorithm.Algorithm.TheVariants.{Sha256}
use Rattle.oci_digests.proofs.ExactChecks.{is_validated}
use Rattle.oci_manifests.specs.declared.document.OciManifest.{OciManifest}
use Rattle.oci_manifests.specs.declared.document.OciManifest.TheVariants.{Image, ImageIndex}
use Rattle.oci_manifests.specs.declared.index.OciImageIndex.{OciImageIndex}
use Rattle.oci_manifests.specs.declared.index_entry.ImageIndexEntry.{ImageIndexEntry}
use Rattle.oci_manifests.specs.declared.manifest.OciImageManifest.{OciImageManifest}
use Rattle.oci_manifests.specs.declared.descriptor.OciDescriptor.{OciDescriptor}
use Rattle.oci_manifests.specs.declared.blob.ImageLayer.{ImageLayer}
use Rattle.oci_transport.specs.Link.{Link, AnsweredBy}
use Rattle.oci_transport.specs.declared.message.Request.{Request}
use Rattle.oci_transport.specs.declared.message.Answer.{Answer}
use Rattle.oci_protocol.specs.Proto.{Proto, Done, ◌>>=◌, ◌>>◌}
use Rattle.oci_protocol.specs.Runs.{Runs, Meets}
use Rattle.oci_transport.specs.declared.message.Exchange.{Exchange}
use Rattle.oci_protocol.specs.Ends.{UnlessMemory}
use Rattle.oci_link.specs.State.{answering}
use Rattle.oci_link.specs.Table.{answer}
use Rattle.oci_link.specs.declared.shelf.Shelf.{Shelf}
use Rattle.engine_answers.specs.Answers.{or_digest_error}
use Rattle.engine_terms.specs.Contexts.{Context, within}
use Rattle.engine_answers.specs.Documents.{document_read}
use Rattle.json_values.specs.Refusals.{◌>>=◌ as ◌before◌, ◌>>◌ as ◌and◌}
use Rattle.engine_answers.specs.Index.{entry_found, entry_manifest, entry_reference}
use Rattle.engine_requests.specs.Requests.{manifest_types}
use Rattle.engine_requests.specs.Sources.{Layer, described}
use Rattle.engine_terms.specs.declared.error.OciDistributionError.{OciDistributionError}
use Rattle.engine_terms.specs.declared.settings.Settings.{Settings}
use Rattle.engine_rows.specs.Rows.{Row as Engine}
use Rattle.engine_rows.specs.declared.image.ImageData.{ImageData}
use Rattle.engine_rows.specs.Image.{layers_accepted, layer_of, layers_by, config_of}
use Rattle.registry_calls.specs.declared.error.SigstoreError.{SigstoreError}
use Rattle.registry_calls.specs.declared.error.SigstoreError.TheVariants as sigstore
use Rattle.registry_calls.specs.declared.error_context.Called.{Called}
use Rattle.registry_calls.specs.declared.error_context.Called.TheVariants.{FetchManifest, Pull, PullManifest}
use Rattle.registry_calls.specs.Error.{is_memory as of_memory}
use Rattle.registry_calls.specs.ErrorContext.{with_error_context}
use Rattle.registry_calls.specs.Clients.{Kept, Row}
use Rattle.registry_calls.specs.Calls.{in_words, digest_made, manifest_made, image_made, document_made, blob_made, referrers_made, document_call, blob_call, referrers_call}
use Rattle.registry_cache.specs.declared.answers.Answers.{Answers}
use Rattle.shelf_laws.specs.EvaluatesWith.{Yields, OrMemory, AlwaysOk, Reaches}
use Rattle.shelf_laws.specs.IsHosted.{IsHosted, IsAt, CanBeShown, Settled}
use Rattle.shelf_laws.specs.Shelves.{HasBlob, HasLayer, LeadsTo, ImageOn, layers_on}
use Rattle.shelf_laws.proofs.TableSteps.{AlwaysOk-done, AlwaysOk-next, AlwaysOk-more, AlwaysOk-caught, Reaches-done, Reaches-bind, Reaches-gives, Reaches-strict, Reaches-stays, Reaches-after, Reaches-next, TableOf, Runs-over, Meets-comes}
use Rattle.shelf_laws.proofs.DigestTags.{sha256_named, tag_of_signatures}
use Rattle.shelf_laws.proofs.Documents.{NoOther, raw_gives, digest_gives, blob_gives}
use Rattle.shelf_laws.proofs.Images.{Points, points_itself, types_accepted, manifest_gives, pull_gives}
use Rattle.shelf_laws.proofs.PlainNames.{tag_segment}
use Rattle.shelf_laws.proofs.ShelfReferences.{tag_named, image_points}
use Rattle.shelf_laws.proofs.References.{Spelled, spelled, tag_reads_back, digest_reads_back}
use Rattle.oci_digests.proofs.Algorithms.{digest_is_digest, digest_is_known}
use Rattle.shelf_laws.proofs.Requests.{yields_ok}
use Rattle.shelf_laws.proofs.ReferrersOfShelf.{referrers_give}
use Rattle.shelf_laws.proofs.WiderRows.{AlwaysOk-lifted}
use Rattle.shelf_laws.proofs.Tokens.{given_gives}
use Rattle.cosign_parts.specs.Items.{has_no_item}
use Rattle.cosign_layers.specs.Satisfying.{PolicyContext, StandsFor}
use Rattle.cosign_parts.specs.Trust.{Trust}
use Rattle.cosign_parts.specs.declared.layer.SignatureLayer.{SignatureLayer}
use Rattle.cosign_layers.proofs.SatisfiesPolicy.{stands_by as supports_stand}
use Rattle.cosign_chain.specs.declared.image.VerifiedImage.{VerifiedImage}
use Rattle.cosign_rows.specs.Image.{named_by_reference, document_in, entry_in, layers_row, blobs_row, with_image, entry_call, entry_row, manifest_row, after_document, image_row}
use Rattle.cosign_rows.specs.Part.{nothing, skipping, appended, layer_part, named_layer, read_layer, descriptor_part, descriptors_part, read_bundle, bundle_part, bundles_part}
use Rattle.cosign_rows.specs.References.{signature_tag, tag_reference, digest_reference, or_not_valid, reading_back}
use Rattle.cosign_rows.specs.Refusal.{is_memory, refused_as}
use Rattle.cosign_rows.specs.Search.{payload_type, document_part, tag_layers, or_skipped, tag_by, tag_source, bundle_type, referrer_part, referrer_by, referrer_row, referrers_row, listed_row, referrers_source, trusted_layers, searched}
use Rattle.cosign_laws.specs.Settled.{AreFromShelf, IsSettled}
use Rattle.cosign_rows.specs.Tails.{after_search}
use Rattle.cosign_rows.specs.Verified.{Whole, constrained, is_unconstrained, readable_by, readable, as_whole, part_of, stands_by, signed_digest, standing, verified_image, verified}
use Rattle.cosign_rows.specs.declared.found.Part.{Part}
use Rattle.cosign_rows.specs.declared.found.SkipCause.{SkipCause}
use Rattle.cosign_rows.specs.declared.found.SkipCause.TheVariants.{NotAReference, Refused}
use Rattle.cosign_rows.specs.declared.found.Skipped.{Skipped}
use Rattle.cosign_rows.specs.declared.found.Skipped.TheVariants.{Source, Referrer}
use Rattle.cosign_rows.specs.declared.found.SourceKind.TheVariants.{Tag as ByTag, Referrers}
use Rattle.cosign_rows.specs.declared.found.TrustedLayers.{TrustedLayers}
use Rattle.cosign_rows.specs.declared.refusal.PullRefusal.{PullRefusal}
use Rattle.cosign_rows.specs.declared.refusal.PullRefusal.TheVariants as refusal
use Rattle.cosign_laws.specs.Shelves.{IsAsked, SignedByTag, SignedByReferrer, ImageShelf, WideShelf, ValidShelf, AnswersFrom, OkOrMemory}
use Rattle.cosign_laws.proofs.ShelfCalls.{digest_given, manifest_given, image_given, referrers_given}
use Rattle.shelf_laws.proofs.LostResponses.{Stays, Runs-passes, Meets-passes, stays_preserves}
use Rattle.shelf_laws.proofs.ShelfRows.{Allows, settled_alone, settled_allows}
use Rattle.cosign_laws.proofs.PullRows.{HoldsOfCalls, tag_good, referrer_in, digest_in, verified_good}
use Rattle.cosign_laws.proofs.ShelfStays.{home_of, image_at, tag_at, digest_at, referrer_at, entry_at, calls_stay}

-- ---- some layer passes

-- one of these passes
Has : (SignatureLayer → Bool) → List SignatureLayer → Type 0
Has p layers = (layer : SignatureLayer) × (find p layers ≡ Some layer)

has_left : (p : SignatureLayer → Bool) (xs ys : List SignatureLayer) → Has p xs → Has p (xs ++ ys)
unfolding Has
has_left p xs ys h = (h.0, find-append p xs ys ∙ ap (λ o. option_or o (find p ys)) h.1)

has_right : (p : SignatureLayer → Bool) (xs ys : List SignatureLayer) → Has p ys → Has p (xs ++ ys)
unfolding Has
has_right p xs ys h = by_first (find p xs) refl where
  by_first : (o : Option SignatureLayer) → find p xs ≡ o → (layer : SignatureLayer) × (find p (xs ++ ys) ≡ Some layer)
  by_first None is = (h.0, find-append p xs ys ∙ ap (λ o. option_or o (find p ys)) is ∙ h.1)
  by_first (Some x) is = (x, find-append p xs ys ∙ ap (λ o. option_or o (find p ys)) is)

has_one : (p : SignatureLayer → Bool) (layer : SignatureLayer) → p layer ≡ true → Has p (layer ∷ [])
unfolding Has
has_one p layer is = (layer, ap (λ b. cond b (Some layer) None) is)

-- a descriptor whose layer is read and passes
stood : (p : SignatureLayer → Bool) (trust : Trust) (d : List ℕ) (layers : List ImageLayer) (x : OciDescriptor) (layer : SignatureLayer) → read_layer trust d x (named_layer x.digest layers) ≡ Ok layer → p layer ≡ true
    → (xs : List OciDescriptor) (k : ℕ) → k < length xs → slice_index_or xs k x ≡ x → Has p (descriptors_part trust d layers xs).collected
stood p trust d layers x layer reads passes [] k lt is = absurd (omega (arith, lt))
stood p trust d layers x layer reads passes (y ∷ xs) zero lt is =
    has_left p (descriptor_part trust d layers y).collected (descriptors_part trust d layers xs).collected
    (subst (λ (z : OciDescriptor). Has p (descriptor_part trust d layers z).collected) (sym is) (subst (λ r. Has p (layer_part ByTag x.digest r).collected) (sym reads) (has_one p layer passes)))
stood p trust d layers x layer reads passes (y ∷ xs) (suc k) lt is =
    has_right p (descriptor_part trust d layers y).collected (descriptors_part trust d layers xs).collected (stood p trust d layers x layer reads passes xs k (omega (arith, lt)) is)

-- a bundle that is read and passes
bundle_stood : (p : SignatureLayer → Bool) (trust : Trust) (d : List ℕ) (x : ImageLayer) (layer : SignatureLayer) → read_bundle trust d (digest_text Sha256 x.content) x ≡ Ok layer → p layer ≡ true
    → (xs : List ImageLayer) (k : ℕ) → k < length xs → slice_index_or xs k x ≡ x → Has p (bundles_part trust d xs).collected
bundle_stood p trust d x layer reads passes [] k lt is = absurd (omega (arith, lt))
bundle_stood p trust d x layer reads passes (y ∷ xs) zero lt is =
    has_left p (bundle_part trust d y).collected (bundles_part trust d xs).collected
    (subst (λ (z : ImageLayer). Has p (bundle_part trust d z).collected) (sym is) (subst (λ r. Has p (layer_part Referrers (digest_text Sha256 x.content) r).collected) (sym reads) (has_one p layer passes)))
bundle_stood p trust d x layer reads passes (y ∷ xs) (suc k) lt is =
    has_right p (bundle_part trust d y).collected (bundles_part trust d xs).collected (bundle_stood p trust d x layer reads passes xs k (omega (arith, lt)) is)

-- ---- calls with context

words_give : {J : AuthState → Type 0} {table : Request → Answer} {A : Type 0} {P : A → Type 0} {p : Engine A} (called : Called) (image : Reference) → AlwaysOk J table P p → AlwaysOk J table P (in_words called image p)
unfolding in_words
words_give called image h = AlwaysOk-caught (λ r. Done (with_error_context called (whole_text image) r)) h (λ a is. AlwaysOk-done (Ok a) is)

module _ {I : Kept → Type 0} {table : Request → Answer} where
  -- a step without a request that is not refused
  said : {A : Type 0} (called : Called) (text : List ℕ) (r : Result A OciDistributionError) (a : A) → r ≡ Ok a → AlwaysOk I table (λ (x : A). x ≡ a) (let p : Row A = Done (with_error_context called text r) in p)
  said called text r a is = AlwaysOk-done (with_error_context called text r) (yields_ok (λ x. x ≡ a) (with_error_context called text r) a (ap (λ (x : Result _ OciDistributionError). with_error_context called text x) is) refl)

-- ---- the document of the image's digest

named_ok : (o : Option (List ℕ)) (bytes digest : List ℕ) → Names digest bytes → NoOther o digest → named_by_reference o bytes ≡ Ok tt
named_ok None bytes digest named other = refl
named_ok (Some own) bytes digest named other =
    ap (λ r. or_digest_error r and Ok tt) (is_validated bytes None (Some own) own (record { header_names = tt; reference_names = subst (λ (t : List ℕ). Names t bytes) (sym other) named; answer = refl }))

shelf_table : (shelf : Shelf) → TableOf (answer shelf) (answering shelf)
unfolding answering
shelf_table shelf = record { answer = λ place request. refl; never = λ place. refl }

some_constraint : {C : Type 0} (cs : List C) → 0 < length cs → has_no_item cs ≡ false
some_constraint [] h = absurd (omega (arith, h))
some_constraint (c ∷ cs) h = refl

module _ {V : Type 0} {H : V → Type 0} (policy_context : PolicyContext V H) (s : Settings) (image : Reference) (a : RegistryAuth) (accepted : List (List ℕ)) (shelf : Shelf) (valid : ImageShelf s image a accepted shelf) (moment : ℕ) where
  abbrev registry : List ℕ
  registry = resolved_registry image

  abbrev J : AuthState → Type 0
  J k = Settled registry shelf.repository a k

  abbrev R : Option Answers → Type 0
  R answers = AreFromShelf s registry a shelf answers

  abbrev I : Kept → Type 0
  I k = J k.0 × R k.1

  abbrev ctx : Context
  ctx = record { settings = s; moment = moment }

  abbrev digest : List ℕ
  digest = valid.digest

  abbrev first : List ℕ
  first = valid.image_on.first

  abbrev can : CanBeShown a
  can = valid.asked.credentials

  own_calls : HoldsOfCalls (λ A p. Stays I (answer shelf) p) ctx a registry (repository_of image)
  own_calls = calls_stay s registry (repository_of image) a shelf J (subst (λ (r : List ℕ). Allows registry (repository_of image) a (λ k. Settled registry r a k)) valid.asked.repository_is (settled_alone registry (repository_of image) a))
      (λ k is. subst (λ (r : List ℕ). Settled registry r a k) (sym valid.asked.repository_is) is) moment

  spelling : Spelled image
  spelling = spelled image valid.asked.reads_back_is

  home : IsHosted s registry shelf
  home = home_of valid.asked

  at_image : IsAt registry shelf image
  at_image = image_at valid.asked

  at_tag : IsAt registry shelf (tag_reference image digest)
  at_tag = tag_at valid.asked digest

  at_digest : IsAt registry shelf (digest_reference image digest)
  at_digest = digest_at valid.asked digest

  points_image : Points shelf image digest
  points_image = image_points shelf image digest first spelling valid.image_on.there valid.named

  digest_back : reads_back (digest_reference image digest) ≡ true
  digest_back =
      let named = valid.image_on.there.named in
      digest_reads_back image spelling digest (ap is_digest named.1 ∙ digest_is_digest named.0 first) (ap digest_refusal named.1 ∙ digest_is_known named.0 first)

  abbrev source : Reference
  source = digest_reference image digest

  -- a part with a layer that satisfies the policy
  abbrev Stood : Part → Type 0
  Stood part = Has (stands_by policy_context) part.collected

  stands_is : (layer : SignatureLayer) → StandsFor policy_context digest layer → stands_by policy_context layer ≡ true
  stands_is layer h = supports_stand policy_context.trust.valid policy_context.policy policy_context.own layer h.supports

  -- ---- the signature tag

  module _ (tag_reads : reads_back (tag_reference image digest) ≡ true) (signed : SignedByTag policy_context digest shelf) where
    tag_is : Tag (signature_tag digest)
    tag_is = (spelled (tag_reference image digest) tag_reads).tag_is

    points_tag : Points shelf (tag_reference image digest) signed.signatures
    points_tag = record { plain = tag_segment (signature_tag digest) tag_is; points = tag_named shelf (signature_tag digest) tag_is ∙ signed.tagged; other = tt }

    abbrev signatures_on : ImageOn s shelf signed.signatures (payload_type ∷ [])
    signatures_on = record { first = signed.there.0; there = signed.there.1; document = Image signed.manifest; reads = signed.there.2; manifest = signed.manifest; leads = refl; blobs = signed.payloads }

    -- a layer that satisfies the policy is under the tag
    stood_here : Has (stands_by policy_context) (descriptors_part policy_context.trust digest (layers_on shelf signed.manifest.layers) signed.manifest.layers).collected
    stood_here = stood (stands_by policy_context) policy_context.trust digest (layers_on shelf signed.manifest.layers) signed.standing.descriptor signed.standing.layer signed.standing.reads (stands_is signed.standing.layer signed.standing.stands_for) signed.manifest.layers signed.standing.listed.0 signed.standing.listed.1 signed.standing.listed.2

    abbrev IsSigned : OciManifest × List ℕ → Type 0
    IsSigned found = found ≡ (Image signed.manifest, signed.signatures)

    tag_document : (m : ℕ) → AlwaysOk J (answer shelf) IsSigned (manifest_made (within s m) (tag_reference image digest) a)
    unfolding manifest_made
    tag_document m = words_give PullManifest (tag_reference image digest) (manifest_gives home valid.short a can m (tag_reference image digest) signed.signatures signed.there.0 (Image signed.manifest) at_tag points_tag signed.there.1 signed.there.2)

    tag_image : (m : ℕ) → AlwaysOk J (answer shelf) (λ (pulled : ImageData). pulled.layers ≡ layers_on shelf signed.manifest.layers) (image_made (within s m) (tag_reference image digest) a (payload_type ∷ []))
    unfolding image_made
    tag_image m = words_give Pull (tag_reference image digest) (pull_gives home valid.short a can m (tag_reference image digest) signed.signatures (payload_type ∷ []) signatures_on at_tag points_tag)

    tag_gives : AlwaysOk I (answer shelf) Stood (tag_layers policy_context.trust digest ctx (tag_reference image digest) a)
    unfolding tag_layers
    tag_gives =
        AlwaysOk-next _ (manifest_given s registry a shelf (tag_reference image digest) at_tag moment tag_document) (λ document known.
        AlwaysOk-next _ (image_given s registry a shelf (tag_reference image digest) at_tag (payload_type ∷ []) moment tag_image) (λ pulled same.
        AlwaysOk-done (Ok (document_part policy_context.trust digest document.0 pulled)) (subst (λ (p : OciManifest × List ℕ). Has (stands_by policy_context) (document_part policy_context.trust digest p.0 pulled).collected) (sym known) (subst (λ (layers : List ImageLayer). Has (stands_by policy_context) (descriptors_part policy_context.trust digest layers signed.manifest.layers).collected) (sym same) stood_here))))

    source_gives : AlwaysOk I (answer shelf) Stood (tag_source policy_context.trust ctx image a digest)
    unfolding tag_source
    source_gives = subst (λ b. AlwaysOk I (answer shelf) Stood (tag_by policy_context.trust digest ctx (tag_reference image digest) a b)) (sym tag_reads) (AlwaysOk-caught (λ r. Done (or_skipped (Source ByTag) r)) tag_gives (λ part is. AlwaysOk-done (Ok part) is))

  -- a part of which nothing is known
  abbrev AnyPart : Part → Type 0
  AnyPart part = Unit {0}

  skipped_by : (b : Bool) (cause : Skipped) (e : SigstoreError) → of_memory e ≡ b → OrMemory of_memory AnyPart (if b then Err e else Ok (skipping cause))
  skipped_by true cause e is = is
  skipped_by false cause e is = tt

  skipped_any : (place : SkipCause → Skipped) (r : Result Part SigstoreError) → OrMemory of_memory AnyPart (or_skipped place r)
  skipped_any place (Ok part) = tt
  skipped_any place (Err e) = skipped_by (of_memory e) (place (Refused e)) e refl

  by_reading : (b : Bool) → Reaches I (answer shelf) (OrMemory of_memory AnyPart) (tag_by policy_context.trust digest ctx (tag_reference image digest) a b)
  by_reading false = Reaches-done (Ok (skipping (Source ByTag (NotAReference (whole_text (tag_reference image digest)))))) tt
  by_reading true = Reaches-bind _ (Reaches-stays (stays_preserves (tag_good policy_context ctx image a accepted (λ A p. Stays I (answer shelf) p) own_calls valid.asked.reads_back_is digest))) (λ r u. Reaches-done (or_skipped (Source ByTag) r) (skipped_any (Source ByTag) r))

  source_reaches : Reaches I (answer shelf) (OrMemory of_memory AnyPart) (tag_source policy_context.trust ctx image a digest)
  unfolding tag_source
  source_reaches = by_reading (reads_back (tag_reference image digest))

  -- ---- the referrers, whatever they are

  at_referrer : (x : List ℕ) → IsAt registry shelf (digest_reference source x)
  at_referrer x = referrer_at valid.asked digest x

  referrer_reaches : (x : List ℕ) (b : Bool) → Reaches I (answer shelf) (OrMemory of_memory AnyPart) (referrer_by policy_context.trust digest ctx (digest_reference source x) a x b)
  referrer_reaches x false = Reaches-done (Ok (skipping (Referrer x (NotAReference (whole_text (digest_reference source x)))))) tt
  referrer_reaches x true = Reaches-bind _ (Reaches-stays (stays_preserves (own_calls.image (digest_reference source x) (referrer_in image valid.asked.reads_back_is digest x) (bundle_type ∷ [])))) (λ r u. Reaches-done _ (skipped_any (Referrer x) (referrer_part policy_context.trust digest r)))

  any_row : (x : List ℕ) → Reaches I (answer shelf) (OrMemory of_memory AnyPart) (referrer_row policy_context.trust digest ctx source a x)
  unfolding referrer_row
  any_row x = referrer_reaches x (reads_back (digest_reference source x))

  each_reaches : (xs : List ImageIndexEntry) → Reaches I (answer shelf) (OrMemory of_memory AnyPart) (referrers_row policy_context.trust digest ctx source a xs)
  unfolding referrers_row
  each_reaches [] = Reaches-done (Ok nothing) tt
  each_reaches (y ∷ ys) = Reaches-next _ (any_row y.digest) (λ one u. Reaches-next _ (each_reaches ys) (λ rest v. Reaches-done (Ok (appended one rest)) tt))

  listed_reaches : (r : Result OciImageIndex SigstoreError) → Reaches I (answer shelf) (OrMemory of_memory AnyPart) (listed_row policy_context.trust digest ctx source a r)
  listed_reaches (Ok index) = each_reaches index.manifests
  listed_reaches (Err e) = Reaches-done _ (skipped_any (Source Referrers) (Err e))

  referrers_reach : Reaches I (answer shelf) (OrMemory of_memory AnyPart) (referrers_source policy_context.trust digest ctx source a)
  unfolding referrers_source
  referrers_reach = Reaches-bind _ (Reaches-stays (stays_preserves (own_calls.referrers source (digest_in image valid.asked.reads_back_is digest)))) (λ r u. listed_reaches r)

  -- ---- a referrer whose bundle satisfies the policy

  module _ (signed : SignedByReferrer policy_context s image digest shelf) where
    abbrev x : List ℕ
    x = signed.entry.digest

    points_entry : Points shelf (digest_reference source x) x
    points_entry = points_itself shelf (digest_reference source x) x signed.bundles.first refl signed.bundles.there

    bundles_stand : Has (stands_by policy_context) (bundles_part policy_context.trust digest (layers_on shelf signed.bundles.manifest.layers)).collected
    bundles_stand = bundle_stood (stands_by policy_context) policy_context.trust digest signed.bundle signed.layer signed.reads (stands_is signed.layer signed.stands_for) (layers_on shelf signed.bundles.manifest.layers) signed.listed.0 signed.listed.1 signed.listed.2

    entry_image : (m : ℕ) → AlwaysOk J (answer shelf) (λ (pulled : ImageData). pulled.layers ≡ layers_on shelf signed.bundles.manifest.layers) (image_made (within s m) (digest_reference source x) a (bundle_type ∷ []))
    unfolding image_made
    entry_image m = words_give Pull (digest_reference source x) (pull_gives home valid.short a can m (digest_reference source x) x (bundle_type ∷ []) signed.bundles (at_referrer x) points_entry)

    entry_gives : AlwaysOk I (answer shelf) Stood (referrer_by policy_context.trust digest ctx (digest_reference source x) a x true)
    entry_gives =
        AlwaysOk-caught (λ r. Done (or_skipped (Referrer x) (referrer_part policy_context.trust digest r)))
        (image_given s registry a shelf (digest_reference source x) (at_referrer x) (bundle_type ∷ []) moment entry_image)
        (λ pulled same. AlwaysOk-done (Ok (bundles_part policy_context.trust digest pulled.layers)) (subst (λ (layers : List ImageLayer). Has (stands_by policy_context) (bundles_part policy_context.trust digest layers).collected) (sym same) bundles_stand))

    row_gives : AlwaysOk I (answer shelf) Stood (referrer_row policy_context.trust digest ctx source a x)
    unfolding referrer_row
    row_gives = subst (λ b. AlwaysOk I (answer shelf) Stood (referrer_by policy_context.trust digest ctx (digest_reference source x) a x b)) (sym signed.entry_reads) entry_gives

    -- up to that entry, and then the rest
    each_stands : (xs : List ImageIndexEntry) (k : ℕ) → k < length xs → slice_index_or xs k signed.entry ≡ signed.entry → Reaches I (answer shelf) (OrMemory of_memory Stood) (referrers_row policy_context.trust digest ctx source a xs)
    unfolding referrers_row
    each_stands [] k lt is = absurd (omega (arith, lt))
    each_stands (y ∷ ys) zero lt is =
        Reaches-after _ (subst (λ (z : ImageIndexEntry). AlwaysOk I (answer shelf) Stood (referrer_row policy_context.trust digest ctx source a z.digest)) (sym is) row_gives) (λ one holds.
        Reaches-next _ (each_reaches ys) (λ rest u. Reaches-done (Ok (appended one rest)) (has_left (stands_by policy_context) one.collected rest.collected holds)))
    each_stands (y ∷ ys) (suc k) lt is =
        Reaches-next _ (any_row y.digest) (λ one u.
        Reaches-next _ (each_stands ys k (omega (arith, lt)) is) (λ rest holds. Reaches-done (Ok (appended one rest)) (has_right (stands_by policy_context) one.collected rest.collected holds)))

    listing : (m : ℕ) → AlwaysOk J (answer shelf) (λ (index : OciImageIndex). index ≡ signed.index) (referrers_made (within s m) source a None)
    unfolding referrers_made
    listing m = AlwaysOk-next _ (words_give FetchManifest source (given_gives home source at_digest a can m)) (λ u given. words_give PullManifest source (referrers_give home valid.short source at_digest a can m digest first valid.image_on.there.named signed.index refl signed.lists))

    listing_gives : AlwaysOk I (answer shelf) (λ (index : OciImageIndex). index ≡ signed.index) (referrers_call ctx source a None)
    listing_gives = referrers_given s registry a shelf source at_digest None moment listing

    listed_stands : (r : Result OciImageIndex SigstoreError) → Yields (λ (index : OciImageIndex). index ≡ signed.index) r → Reaches I (answer shelf) (OrMemory of_memory Stood) (listed_row policy_context.trust digest ctx source a r)
    listed_stands (Ok index) is = subst (λ (i : OciImageIndex). Reaches I (answer shelf) (OrMemory of_memory Stood) (referrers_row policy_context.trust digest ctx source a i.manifests)) (sym is) (each_stands signed.index.manifests signed.among.0 signed.among.1 signed.among.2)
    listed_stands (Err e) is = absurd is

    referrers_stand : Reaches I (answer shelf) (OrMemory of_memory Stood) (referrers_source policy_context.trust digest ctx source a)
    unfolding referrers_source
    referrers_stand = Reaches-bind _ (Reaches-gives listing_gives) (λ r is. listed_stands r is)

  -- ---- the search

  -- the digest, and a layer that satisfies the policy
  abbrev Found : TrustedLayers → Type 0
  Found found = (found.digest ≡ digest) × Has (stands_by policy_context) found.collected

  abbrev Signed : Type 0
  Signed = ((reads_back (tag_reference image digest) ≡ true) × SignedByTag policy_context digest shelf) ⊎ SignedByReferrer policy_context s image digest shelf

  both_reach : Signed → Reaches I (answer shelf) (OrMemory of_memory Found) (tag_source policy_context.trust ctx image a digest >>= λ tag. referrers_source policy_context.trust digest ctx source a >>= λ more. Done (Ok (trusted_layers digest (appended tag more))))
  both_reach (inl (tag_reads, signed)) = Reaches-after _ (source_gives tag_reads signed) (λ tag is. Reaches-next _ referrers_reach (λ more u. Reaches-done (Ok (trusted_layers digest (appended tag more))) (refl, has_left (stands_by policy_context) tag.collected more.collected is)))
  both_reach (inr signed) = Reaches-next _ source_reaches (λ tag u. Reaches-next _ (referrers_stand signed) (λ more stands. Reaches-done (Ok (trusted_layers digest (appended tag more))) (refl, has_right (stands_by policy_context) tag.collected more.collected stands)))

  digest_step : (m : ℕ) → AlwaysOk J (answer shelf) (λ (d : List ℕ). d ≡ digest) (digest_made (within s m) image a)
  unfolding digest_made
  digest_step m = words_give FetchManifest image (digest_gives home valid.short image at_image a can m digest first valid.image_on.there points_image.plain points_image.points points_image.other)

  search_reaches : Signed → Reaches I (answer shelf) (OrMemory of_memory Found) (searched policy_context.trust ctx image a)
  unfolding searched
  search_reaches signed =
      Reaches-after _ (digest_given s registry a shelf image at_image moment digest_step) (λ d known.
      subst (λ (t : List ℕ). Reaches I (answer shelf) (OrMemory of_memory Found) (Done (reading_back (digest_reference image t)) >> (tag_source policy_context.trust ctx image a t >>= λ tag. referrers_source policy_context.trust t ctx (digest_reference image t) a >>= λ more. Done (Ok (trusted_layers t (appended tag more)))))) (sym known)
      (Reaches-after _ (AlwaysOk-done (reading_back source) (yields_ok (λ u. Unit {0}) (reading_back source) tt (ap (or_not_valid source) digest_back) tt)) (λ u read. both_reach signed)))

  -- ---- the image

  points_source : Points shelf source digest
  points_source = points_itself shelf source digest first refl valid.image_on.there

  document_ok : document_in image first ≡ Ok valid.image_on.document
  document_ok = ap (λ r. r and document_read first) (named_ok (digest_of image) first digest valid.image_on.there.named points_image.other) ∙ valid.image_on.reads

  blob_row_gives : (x : Layer) (has : HasBlob shelf x.digest) → AlwaysOk I (answer shelf) (λ (b : List ℕ). Unit {0}) (blob_call ctx source x)
  unfolding blob_call blob_made
  blob_row_gives x has = AlwaysOk-lifted R (AlwaysOk-more (λ (b : List ℕ). Unit {0}) (words_give Pull source (blob_gives home valid.short source at_digest a can moment x has)) (λ b is. tt))

  layers_row_give : (xs : List OciDescriptor) (given : List ImageLayer) → All (HasLayer shelf accepted) xs → AlwaysOk I (answer shelf) (λ (layers : List ImageLayer). Unit {0}) (layers_row ctx source xs given)
  unfolding layers_by
  layers_row_give [] given all = AlwaysOk-done (Ok given) tt
  layers_row_give (x ∷ xs) given all = AlwaysOk-next _ (blob_row_gives (described x) (All-head (HasLayer shelf accepted) x xs all).0) (λ content u. layers_row_give xs (given ++ layer_of x content ∷ []) (All-tail (HasLayer shelf accepted) x xs all))

  blobs_row_gives : AlwaysOk I (answer shelf) (λ p. Unit {0}) (blobs_row ctx source accepted valid.image_on.manifest)
  unfolding blobs_row
  blobs_row_gives =
      let has = valid.image_on.blobs in
      AlwaysOk-next _ (blob_row_gives (described valid.image_on.manifest.config) has.config) (λ content u.
      AlwaysOk-next _ (said Pull (whole_text source) (layers_accepted accepted valid.image_on.manifest.layers) tt (types_accepted shelf accepted valid.image_on.manifest.layers has.some has.layers)) (λ u checked.
      AlwaysOk-next _ (layers_row_give valid.image_on.manifest.layers [] has.layers) (λ layers u.
      AlwaysOk-done (Ok (config_of valid.image_on.manifest content, layers)) tt)))

  -- the row evaluates to a result with this property
  abbrev From : {A E : Type 0} → Proto Kept (Result A E) → (A → Type 0) → Type 0
  From p P = AlwaysOk I (answer shelf) P p

  chosen_gives : (document : OciManifest) → LeadsTo s shelf document valid.image_on.manifest → From (manifest_row ctx source a first document) (λ chosen. chosen.manifest ≡ valid.image_on.manifest)
  unfolding entry_row entry_call document_call document_made
  chosen_gives (Image own) leads = AlwaysOk-done (Ok (record { bytes = first; manifest = own; entry = None })) leads
  chosen_gives (ImageIndex index) (entry, is, (bytes, has, reads)) =
      let own : Reference = entry_reference source entry in
      let at_own : IsAt registry shelf own = entry_at valid.asked digest entry in
      let points = points_itself shelf own entry bytes refl has in
      AlwaysOk-next _ (said Pull (whole_text source) (entry_found s.platform_resolver index.manifests) entry is) (λ e same.
      AlwaysOk-next _ (subst (λ (t : List ℕ). AlwaysOk I (answer shelf) (λ found. found.0 ≡ bytes) (entry_call ctx source a t)) (sym same)
      (AlwaysOk-caught (λ r. Done (with_image (whole_text source) r)) (AlwaysOk-lifted R (words_give Pull own (raw_gives home valid.short own at_own a can moment entry bytes manifest_types has points.plain points.points points.other refl))) (λ found known. AlwaysOk-done (Ok found) (ap (λ (p : List ℕ × List ℕ). p.0) known)))) (λ found known.
      AlwaysOk-next _ (said Pull (whole_text source) (entry_in e found.0) valid.image_on.manifest (ap (λ (t : List ℕ). document_read t before entry_manifest e) known ∙ ap (λ r. r before entry_manifest e) reads)) (λ manifest chosen.
      AlwaysOk-done (Ok (record { bytes = found.0; manifest = manifest; entry = Some e })) chosen)))

  image_gives : AlwaysOk I (answer shelf) (λ pulled. Unit {0}) (image_row ctx image source a accepted)
  unfolding image_row document_call document_made
  image_gives =
      AlwaysOk-next _ (AlwaysOk-lifted R (words_give Pull source (raw_gives home valid.short source at_digest a can moment digest first manifest_types valid.image_on.there points_source.plain points_source.points points_source.other refl))) (λ found known.
      subst (λ (p : List ℕ × List ℕ). AlwaysOk I (answer shelf) (λ pulled. Unit {0}) (after_document ctx image source a accepted p.0)) (sym known)
      (AlwaysOk-next _ (said Pull (whole_text source) (document_in image first) valid.image_on.document document_ok) (λ document same.
      AlwaysOk-next _ (subst (λ (t : OciManifest). From (manifest_row ctx source a first t) (λ chosen. chosen.manifest ≡ valid.image_on.manifest)) (sym same) (chosen_gives valid.image_on.document valid.image_on.leads)) (λ chosen is.
      AlwaysOk-next _ (subst (λ (m : OciImageManifest). AlwaysOk I (answer shelf) (λ p. Unit {0}) (blobs_row ctx source accepted m)) (sym is) blobs_row_gives) (λ blobs u.
      AlwaysOk-done (Ok (record { first = first; chosen = chosen; config = blobs.0; layers = blobs.1 })) tt)))))

  -- ---- the whole pull

  part_gives : {A : Type 0} {P : A → Type 0} {p : Row A} → AlwaysOk I (answer shelf) P p → AlwaysOk I (answer shelf) P (part_of p)
  unfolding part_of
  part_gives h = AlwaysOk-caught (λ r. Done (as_whole r)) h (λ a is. AlwaysOk-done (Ok a) is)

  -- out of memory in a part is out of memory of the whole pull
  refused_memory : (e : SigstoreError) → of_memory e ≡ true → is_memory (refused_as e) ≡ true
  refused_memory sigstore.WantOfMemory is = refl
  refused_memory (sigstore.OciReferenceNotValidError r) is = absurd (cc is)
  refused_memory (sigstore.RegistryFetchManifestError i e) is = absurd (cc is)
  refused_memory (sigstore.RegistryPullError i e) is = absurd (cc is)
  refused_memory (sigstore.RegistryPullManifestError i e) is = absurd (cc is)
  refused_memory (sigstore.RegistryPushError i e) is = absurd (cc is)

  as_whole_is : {A : Type 0} (P : A → Type 0) (r : Result A SigstoreError) → OrMemory of_memory P r → OrMemory is_memory P (as_whole r)
  as_whole_is P (Ok a) h = h
  as_whole_is P (Err e) h = refused_memory e h

  part_reaches : {A : Type 0} {P : A → Type 0} {p : Row A} → Reaches I (answer shelf) (OrMemory of_memory P) p → Reaches I (answer shelf) (OrMemory is_memory P) (part_of p)
  unfolding part_of
  part_reaches {A} {P} h = Reaches-bind (λ r. Done (as_whole r)) h (λ r is. Reaches-done (as_whole r) (as_whole_is P r is))

  constraint_is : Signed → 0 < length policy_context.policy.constraints
  constraint_is (inl (tag_reads, signed)) = signed.standing.stands_for.constrained
  constraint_is (inr signed) = signed.stands_for.constrained

  constrained_is : Signed → constrained (is_unconstrained policy_context.policy) ≡ Ok tt
  constrained_is signed = ap constrained (some_constraint policy_context.policy.constraints (constraint_is signed))

  readable_is : readable image ≡ Ok tt
  readable_is = ap (readable_by image) valid.asked.reads_back_is

  standing_is : (found : TrustedLayers) (layer : SignatureLayer) → find (stands_by policy_context) found.collected ≡ Some layer → standing policy_context found ≡ Ok (record { digest = found.digest; signature = layer })
  standing_is found layer is = ap (signed_digest found) is

  standing_gives : (found : TrustedLayers) (layer : SignatureLayer) → find (stands_by policy_context) found.collected ≡ Some layer → found.digest ≡ digest → From (let p : Whole _ = Done (standing policy_context found) in p) (λ stood. stood.digest ≡ digest)
  standing_gives found layer is known = AlwaysOk-done (standing policy_context found) (subst (Yields _) (sym (standing_is found layer is)) known)

  found_gives : (found : TrustedLayers) → Found found → AlwaysOk I (answer shelf) (λ (v : VerifiedImage). Unit {0}) (after_search policy_context ctx image a accepted found)
  unfolding after_search Has
  found_gives found (known, (layer, is)) =
      AlwaysOk-next _ (standing_gives found layer is known) (λ stood same.
      AlwaysOk-next _ (subst (λ (t : List ℕ). AlwaysOk I (answer shelf) (λ pulled. Unit {0}) (part_of (image_row ctx image (digest_reference image t) a accepted))) (sym same) (part_gives image_gives)) (λ pulled u.
      AlwaysOk-done (Ok (verified_image stood pulled)) tt))

  pub verified_reaches : Signed → Reaches I (answer shelf) (OrMemory is_memory (λ (v : VerifiedImage). Unit {0})) (verified policy_context ctx image a accepted)
  unfolding verified after_search
  verified_reaches signed =
      Reaches-after _ (AlwaysOk-done (constrained (is_unconstrained policy_context.policy)) (yields_ok (λ u. Unit {0}) (constrained (is_unconstrained policy_context.policy)) tt (constrained_is signed) tt)) (λ u checked.
      Reaches-after _ (AlwaysOk-done (readable image) (yields_ok (λ u. Unit {0}) (readable image) tt readable_is tt)) (λ u read.
      Reaches-next _ (part_reaches (search_reaches signed)) (λ found is. Reaches-strict is_memory (found_gives found is))))

  -- ---- the call

  memory_is : (e : PullRefusal) → is_memory e ≡ true → e ≡ refusal.WantOfMemory
  memory_is refusal.WantOfMemory is = refl
  memory_is _ is = absurd (cc is)

  by_memory : (b : Bool) (e : PullRefusal) (P : Type 0) → is_memory e ≡ b → MatchBool b (Unit {0}) (P × (is_memory e ≡ true)) → e ≡ refusal.WantOfMemory
  by_memory true e P is h = memory_is e is
  by_memory false e P is h = memory_is e h.1

  answered : (l : Kept) (r : Result VerifiedImage PullRefusal) → UnlessMemory is_memory (λ r. I l × OrMemory is_memory (λ (v : VerifiedImage). Unit {0}) r) r → OkOrMemory r
  answered l (Ok v) h = tt
  answered l (Err e) h = by_memory (is_memory e) e (I l) refl h

  settled_in : (k : Kept) → IsSettled s image a shelf k → I k
  settled_in k settled = (subst (λ (t : List ℕ). Settled registry t a k.0) valid.asked.repository_is settled.memory, settled.answers)

  -- over a wide shelf a settled client gets the image, or memory runs out
  pub completed_wide : Signed → {old new : Link} {k l : Kept} (r : Result VerifiedImage PullRefusal) → AnswersFrom shelf old → IsSettled s image a shelf k → Meets is_memory (verified policy_context ctx image a accepted) old new k l r → OkOrMemory r
  completed_wide signed {old} {new} {k} {l} r from settled met =
      answered l r (Meets-comes (answer shelf) (λ l r. I l × OrMemory is_memory (λ (v : VerifiedImage). Unit {0}) r) (answering shelf) (verified policy_context ctx image a accepted) from.before old new k l r (shelf_table shelf) from.answers from.told from.faults
      ((verified_reaches signed).reaches k (settled_in k settled)) met)

  -- the same for a complete run without faults
  pub run_wide : Signed → (k l : Kept) (place m n : ℕ) (c : List Exchange) (r : Result VerifiedImage PullRefusal) → IsSettled s image a shelf k → AnsweredBy (answering shelf) place c → n ≤ m → m < 2 ^ 64 - 1 → Runs (verified policy_context ctx image a accepted) k m c n l r → OrMemory is_memory (λ (v : VerifiedImage). Unit {0}) r
  run_wide signed k l place m n c r settled answered_is le lt run =
      (Runs-over (answer shelf) (λ l r. I l × OrMemory is_memory (λ (v : VerifiedImage). Unit {0}) r) (answering shelf) (verified policy_context ctx image a accepted) place k l m n c r (shelf_table shelf)
      ((verified_reaches signed).reaches k (settled_in k settled)) answered_is le lt run).1

-- a valid shelf is a wide one
pub valid_wide : {V : Type 0} {H : V → Type 0} (policy_context : PolicyContext V H) (s : Settings) (image : Reference) (a : RegistryAuth) (accepted : List (List ℕ)) (shelf : Shelf) → ValidShelf policy_context s image a accepted shelf → WideShelf policy_context s image a accepted shelf
valid_wide policy_context s image a accepted shelf valid =
    let first = valid.image_on.first in
    let digest_is = sha256_named valid.digest valid.sha256.0 first valid.sha256.1 valid.image_on.there.named in
    let tag_reads = tag_reads_back image (spelled image valid.asked.reads_back_is) (signature_tag valid.digest) (tag_of_signatures valid.digest first digest_is) in
    record { has = record { asked = valid.asked; digest = valid.digest; named = valid.named; image_on = valid.image_on; short = valid.short }; signed = inl (tag_reads, valid.signed) }

-- ---- afterwards

module _ {V : Type 0} {H : V → Type 0} (policy_context : PolicyContext V H) (s : Settings) (image other : Reference) (a : RegistryAuth) (accepted : List (List ℕ)) (shelf : Shelf) (at_one : resolved_registry other ≡ resolved_registry image) (moment : ℕ) where
  abbrev Both : AuthState → Type 0
  Both k = Settled (resolved_registry image) (repository_of image) a k × Settled (resolved_registry image) (repository_of other) a k

  abbrev Before : Kept → Type 0
  Before k = Both k.0 × AreFromShelf s (resolved_registry image) a shelf k.1

  stays : Stays Before (answer shelf) (verified policy_context (record { settings = s; moment = moment }) image a accepted)
  stays = verified_good policy_context (record { settings = s; moment = moment }) image a accepted (λ A p. Stays Before (answer shelf) p)
      (calls_stay s (resolved_registry image) (repository_of image) a shelf Both (settled_allows (resolved_registry image) (repository_of image) (repository_of other) a) (λ k both. both.0) moment)

  both_settled : (k : Kept) → IsSettled s image a shelf k → IsSettled s other a shelf k → Before k
  both_settled k own also = ((own.memory, subst (λ (r : List ℕ). Settled r (repository_of other) a k.0) at_one also.memory), own.answers)

  settled_again : (k : Kept) → Before k → IsSettled s other a shelf k
  settled_again k is = record { memory = subst (λ (r : List ℕ). Settled r (repository_of other) a k.0) (sym at_one) is.0.1; answers = subst (λ (r : List ℕ). AreFromShelf s r a shelf k.1) (sym at_one) is.1 }

  -- after a pull over a shelf, whatever the result, a client is settled for each image of the registry for which it was
  pub settled_after : {old new : Link} {k l : Kept} (r : Result VerifiedImage PullRefusal) → AnswersFrom shelf old → IsSettled s image a shelf k → IsSettled s other a shelf k → Meets is_memory (verified policy_context (record { settings = s; moment = moment }) image a accepted) old new k l r → IsSettled s other a shelf l
  settled_after {old} {new} {k} {l} r from own also met =
      settled_again l (Meets-passes (answer shelf) (answering shelf) Before (λ l r. Unit {0}) (verified policy_context (record { settings = s; moment = moment }) image a accepted) from.before old new k l r (shelf_table shelf) from.answers from.told (stays.stays k (both_settled k own also)) met)

  -- the same after a complete run
  pub run_settled : (k l : Kept) (place m n : ℕ) (c : List Exchange) (r : Result VerifiedImage PullRefusal) → IsSettled s image a shelf k → IsSettled s other a shelf k → AnsweredBy (answering shelf) place c → Runs (verified policy_context (record { settings = s; moment = moment }) image a accepted) k m c n l r → IsSettled s other a shelf l
  run_settled k l place m n c r own also answered_is run =
      settled_again l (Runs-passes (answer shelf) (answering shelf) Before (λ l r. Unit {0}) (verified policy_context (record { settings = s; moment = moment }) image a accepted) k l place m n c r (shelf_table shelf) (stays.stays k (both_settled k own also)) answered_is run).0
