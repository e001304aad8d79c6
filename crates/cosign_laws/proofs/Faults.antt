-- What is skipped holds no out-of-memory error and no fault of a sink, and no more faults than the transport had.
use Rattle.std.proofs.Common.{◌≡◌, ◌≤◌, ◌+◌, ◌-◌, ◌^◌, min, inl, inr, ℕ, Bool, true, false, cond, List, [], ◌∷◌, ◌++◌, Option, Some, None, Result, Ok, Err, IfOk, IfErr, refl, sym, ap, ◌∙◌, subst, arith, zero-add}
use Rattle.std.specs.Prelude.{if◌then◌else◌, find, MatchBool, count_by, unwrap_or}
use Rattle.std.specs.FinMap as map_of
use Rattle.std.proofs.lemmas.List.Elements.{All-push, All-cons, All-append}
use Rattle.std.proofs.lemmas.List.Sums.{sum_by-append}
use Rattle.json_values.specs.Counts.{Increased}
use Rattle.oci_names.specs.declared.reference.Reference.{Reference}
use Rattle.oci_names.specs.Reference.{whole_text, reads_back}
use Rattle.oci_auth.specs.declared.auth.RegistryAuth.{RegistryAuth}
use Rattle.oci_auth.specs.declared.auth_state.AuthState.{AuthState}
use Rattle.oci_auth.specs.declared.token_type.RegistryOperation.{RegistryOperation}
use Rattle.oci_auth.specs.declared.token_type.RegistryOperation.TheVariants as operation
use Rattle.oci_digests.specs.Names.{digest_text}
use Rattle.oci_names.specs.declared.algorithm.Algorithm.TheVariants.{Sha256}
use Rattle.oci_digests.specs.declared.error.DigestError.TheVariants as digest_refusal
use Rattle.oci_manifests.specs.declared.document.OciManifest.{OciManifest}
use Rattle.oci_manifests.specs.declared.document.OciManifest.TheVariants.{Image, ImageIndex}
use Rattle.oci_manifests.specs.declared.descriptor.OciDescriptor.{OciDescriptor}
use Rattle.oci_manifests.specs.declared.index.OciImageIndex.{OciImageIndex}
use Rattle.oci_manifests.specs.declared.index_entry.ImageIndexEntry.{ImageIndexEntry}
use Rattle.oci_manifests.specs.declared.blob.ImageLayer.{ImageLayer}
use Rattle.oci_transport.specs.Link.{Link}
use Rattle.oci_transport.specs.declared.message.Exchange.{Exchange}
use Rattle.oci_protocol.specs.Proto.{Proto, Done, bind, unless_refused, ◌>>=◌}
use Rattle.oci_protocol.specs.Ends.{OnAnswer}
use Rattle.oci_protocol.specs.Runs.{Runs, Meets}
use Rattle.oci_protocol.proofs.Laws.{Runs-count}
use Rattle.engine_terms.specs.Contexts.{Context}
use Rattle.engine_terms.specs.declared.settings.Settings.{Settings}
use Rattle.engine_terms.specs.declared.error.OciDistributionError.{OciDistributionError}
use Rattle.engine_terms.specs.declared.error.OciDistributionError.TheVariants as engine_refusal
use Rattle.engine_terms.specs.Error.{is_memory as engine_is_memory}
use Rattle.engine_requests.specs.Requests.{manifest_types}
use Rattle.engine_rows.specs.Rows.{Row as Engine, token_given}
use Rattle.engine_rows.specs.Referrers.{pull_referrers}
use Rattle.engine_rows.specs.Pulls.{pull_manifest}
use Rattle.engine_rows.specs.Image.{pull}
use Rattle.engine_rows.specs.declared.image.ImageData.{ImageData}
use Rattle.engine_rows.specs.Causes.{DocumentCause, ManifestUrl, OwnDigest}
use Rattle.request_laws.proofs.EarlyCauses.{Loose}
use Rattle.engine_laws.proofs.ImageCauses.{RowCause, image_causes}
use Rattle.engine_laws.proofs.ManifestCauses.{manifest_causes}
use Rattle.engine_laws.proofs.CallCauses.{manifest_fault, image_fault}
use Rattle.engine_laws.proofs.TokenCauses.{given_shown, token_fault}
use Rattle.engine_rows.specs.TokenCauses.{TokenCause}
use Rattle.engine_rows.specs.Held.{Entry, pulling}
use Rattle.engine_rows.specs.ReferrersCauses.{ReferrersCause}
use Rattle.engine_laws.proofs.ReferrersCauses.{referrers_causes, referrers_no_sink, referrers_fault}
use Rattle.registry_calls.specs.declared.error.SigstoreError.{SigstoreError}
use Rattle.registry_calls.specs.declared.error.SigstoreError.TheVariants as sigstore
use Rattle.registry_calls.specs.declared.error_context.Called.{Called}
use Rattle.registry_calls.specs.declared.error_context.Called.TheVariants.{FetchManifest, Pull, PullManifest, Push}
use Rattle.registry_calls.specs.Error.{is_memory}
use Rattle.registry_calls.specs.ErrorContext.{with_error_context, refusal as call_refusal}
use Rattle.registry_cache.specs.Keys.{manifest_key, pull_key, referrers_key}
use Rattle.registry_calls.specs.Caching.{cached}
use Rattle.registry_cache.specs.Caching.{Cache}
use Rattle.registry_calls.specs.Clients.{Kept, Plain, Row}
use Rattle.registry_calls.specs.Calls.{in_words, manifest_made, image_made, referrers_made, digest_call, manifest_call, image_call, referrers_call}
use Rattle.registry_cache.specs.KeptCalls.{manifests, images, referrers}
use Rattle.cosign_layers.specs.Checks.{input, Input, layer_read}
use Rattle.cosign_layers.specs.Rejection.{is_memory as is_layer_memory}
use Rattle.cosign_layers.specs.Satisfying.{PolicyContext}
use Rattle.cosign_parts.specs.Trust.{Trust}
use Rattle.cosign_parts.specs.declared.layer.LayerKind.TheVariants as kinds
use Rattle.cosign_parts.specs.declared.layer.SignatureLayer.{SignatureLayer}
use Rattle.cosign_layers.specs.declared.rejection.LayerRejection.{LayerRejection}
use Rattle.cosign_layers.specs.declared.rejection.LayerRejection.TheVariants.{WantOfMemory, LayerNotPulled}
use Rattle.cosign_layers.proofs.Layers.{never_memory}
use Rattle.cosign_chain.specs.declared.image.VerifiedImage.{VerifiedImage}
use Rattle.cosign_rows.specs.Image.{image_row}
use Rattle.cosign_rows.specs.Part.{nothing, skipping, appended, layer_part, named_layer, read_layer, descriptors_part, read_bundle, bundles_part}
use Rattle.cosign_rows.specs.References.{tag_reference, digest_reference, reading_back}
use Rattle.cosign_rows.specs.Refusal.{is_memory as of_refusal, refused_as}
use Rattle.cosign_rows.specs.Search.{payload_type, document_part, tag_layers, or_skipped, tag_by, tag_source, bundle_type, referrer_part, referrer_by, referrer_row, referrers_row, listed_row, referrers_source, trusted_layers, searched}
use Rattle.cosign_rows.specs.Skips.{in_engine, in_refusal, holds_memory_or_sink, HoldsNoMemoryNorSink, is_engine_fault, is_refused_fault, is_fault, CountsFaults, OnSkipped}
use Rattle.cosign_rows.specs.Tails.{after_search}
use Rattle.cosign_rows.specs.Verified.{constrained, is_unconstrained, readable, readable_by, as_whole, part_of, stands_by, signed_digest, standing, verified_image, verified}
use Rattle.cosign_rows.specs.declared.found.Part.{Part}
use Rattle.cosign_rows.specs.declared.found.SkipCause.{SkipCause}
use Rattle.cosign_rows.specs.declared.found.SkipCause.TheVariants.{NotAReference, FoundIndex, Refused}
use Rattle.cosign_rows.specs.declared.found.Skipped.{Skipped}
use Rattle.cosign_rows.specs.declared.found.Skipped.TheVariants.{Source, Referrer, Layer}
use Rattle.cosign_rows.specs.declared.found.SourceKind.{SourceKind}
use Rattle.cosign_rows.specs.declared.found.SourceKind.TheVariants.{Tag, Referrers}
use Rattle.cosign_rows.specs.declared.found.TrustedLayers.{TrustedLayers}
use Rattle.cosign_rows.specs.declared.pulled.Pulled.{Pulled}
use Rattle.cosign_rows.specs.declared.refusal.PullRefusal.{PullRefusal}
use Rattle.cosign_rows.specs.declared.refusal.PullRefusal.TheVariants as refusal
use Rattle.cosign_rows.specs.declared.signed_digest.SignedDigest.{SignedDigest}
use Rattle.cosign_laws.proofs.CachedCalls.{cached_counts}
use Rattle.cosign_laws.proofs.Causes.{rest_of}
use Rattle.cosign_laws.proofs.Counts.{Counts, Counts-any, Counts-done, Counts-more, Counts-bind, Meets-counts, silent, Runs-meets}

-- ---- errors of the engine

-- other than out of memory, an error holds none and no fault of a sink; it is a fault only if the count increased
pub record Sincere (m n : ℕ) (e : OciDistributionError) : Type 0 where
  pub falls : m ≤ n
  pub no_memory : engine_is_memory e ≡ false → in_engine e ≡ false
  pub fault : is_engine_fault e ≡ true → Increased m n

abbrev pub EngineCounts : {A : Type 0} → ℕ → ℕ → Result A OciDistributionError → Type 0
EngineCounts m n (Ok a) = m ≤ n
EngineCounts m n (Err e) = Sincere m n e

manifest_memory : (s : Settings) (image : Reference) (c : List Exchange) (n : ℕ) (e : OciDistributionError) → Loose (ManifestUrl s image) (DocumentCause (OwnDigest image)) s manifest_types c n e → engine_is_memory e ≡ false → in_engine e ≡ false
manifest_memory s image c n engine_refusal.WantOfMemory h other = absurd (cc other)
manifest_memory s image c n engine_refusal.SinkFault h other = absurd h.holds
manifest_memory s image c n (engine_refusal.DigestError digest_refusal.WantOfMemory) h other = absurd h.holds
manifest_memory s image c n _ h other = refl

image_memory : (s : Settings) (image : Reference) (accepted : List (List ℕ)) (c : List Exchange) (n : ℕ) (e : OciDistributionError) → RowCause s image accepted c n e → engine_is_memory e ≡ false → in_engine e ≡ false
image_memory s image accepted c n engine_refusal.WantOfMemory h other = absurd (cc other)
image_memory s image accepted c n engine_refusal.SinkFault h other = absurd h
image_memory s image accepted c n (engine_refusal.DigestError digest_refusal.WantOfMemory) h other = absurd h.holds
image_memory s image accepted c n _ h other = refl

only_fault : (e : OciDistributionError) → is_engine_fault e ≡ true → e ≡ engine_refusal.TransportFault
only_fault engine_refusal.TransportFault is = refl
only_fault _ is = absurd (cc is)

-- an error that is a fault, over a run
pub fault_of : {A : Type 0} (p : Engine A) (k l : AuthState) (m n : ℕ) (c : List Exchange) (e : OciDistributionError) → Runs p k m c n l (Err e)
    → ((old new : Link) → Meets engine_is_memory p old new k l (Err engine_refusal.TransportFault) → Increased old.faults new.faults) → is_engine_fault e ≡ true → Increased m n
fault_of {A} p k l m n c e run rose is = rose (silent m) (silent n) (Runs-meets engine_is_memory p k l m n c engine_refusal.TransportFault refl (subst (λ x. Runs p k m c n l (let r : Result A OciDistributionError = Err x in r)) (only_fault e is) run))

manifest_counts : (s : Context) (image : Reference) (a : RegistryAuth) → Counts EngineCounts (pull_manifest s image a)
manifest_counts s image a = record { counts = λ k l m n c r run. by_result k l m n c r run } where
  by_result : (k l : AuthState) (m n : ℕ) (c : List Exchange) (r : Result (OciManifest × List ℕ) OciDistributionError) → Runs (pull_manifest s image a) k m c n l r → EngineCounts m n r
  by_result k l m n c (Ok found) run = Runs-count (pull_manifest s image a) k l m n c (Ok found) run
  by_result k l m n c (Err e) run = record {
    falls = Runs-count (pull_manifest s image a) k l m n c (Err e) run;
    no_memory = manifest_memory s.settings image c n e ((manifest_causes s image a).shows k l m n c (Err e) run);
    fault = fault_of (pull_manifest s image a) k l m n c e run (λ old new met. manifest_fault s image a met refl);
  }

image_counts : (s : Context) (image : Reference) (a : RegistryAuth) (accepted : List (List ℕ)) → Counts EngineCounts (pull s image a accepted)
image_counts s image a accepted = record { counts = λ k l m n c r run. by_result k l m n c r run } where
  by_result : (k l : AuthState) (m n : ℕ) (c : List Exchange) (r : Result ImageData OciDistributionError) → Runs (pull s image a accepted) k m c n l r → EngineCounts m n r
  by_result k l m n c (Ok found) run = Runs-count (pull s image a accepted) k l m n c (Ok found) run
  by_result k l m n c (Err e) run = record {
    falls = Runs-count (pull s image a accepted) k l m n c (Err e) run;
    no_memory = image_memory s.settings image accepted c n e ((image_causes s image a accepted).shows k l m n c (Err e) run);
    fault = fault_of (pull s image a accepted) k l m n c e run (λ old new met. image_fault s image a accepted met refl);
  }

-- ---- errors with context

pub record SincereWords (m n : ℕ) (e : SigstoreError) : Type 0 where
  pub falls : m ≤ n
  pub no_memory : is_memory e ≡ false → in_refusal e ≡ false
  pub fault : is_refused_fault e ≡ true → Increased m n

abbrev pub CallCounts : {A : Type 0} → ℕ → ℕ → Result A SigstoreError → Type 0
CallCounts m n (Ok a) = m ≤ n
CallCounts m n (Err e) = SincereWords m n e

in_called : (called : Called) (text : List ℕ) (e : OciDistributionError) → in_refusal (call_refusal called text e) ≡ in_engine e
in_called FetchManifest text e = refl
in_called Pull text e = refl
in_called PullManifest text e = refl
in_called Push text e = refl

called_fault : (called : Called) (text : List ℕ) (e : OciDistributionError) → is_refused_fault (call_refusal called text e) ≡ is_engine_fault e
called_fault FetchManifest text e = refl
called_fault Pull text e = refl
called_fault PullManifest text e = refl
called_fault Push text e = refl

pub worded_counts : {A : Type 0} (called : Called) (text : List ℕ) (m n : ℕ) (r : Result A OciDistributionError) → EngineCounts m n r → CallCounts m n (with_error_context called text r)
worded_counts called text m n (Ok a) h = h
worded_counts {A} called text m n (Err e) h = by_memory (engine_is_memory e) refl where
  by_memory : (b : Bool) → engine_is_memory e ≡ b → CallCounts {A = A} m n (if b then Err sigstore.WantOfMemory else Err (call_refusal called text e))
  by_memory true is = record { falls = h.falls; no_memory = λ other. absurd (cc other); fault = λ is. absurd (cc is) }
  by_memory false is = record { falls = h.falls; no_memory = λ other. in_called called text e ∙ h.no_memory is; fault = λ fault. h.fault (sym (called_fault called text e) ∙ fault) }

pub words_count : {A : Type 0} (called : Called) (image : Reference) (p : Engine A) → Counts EngineCounts p → Counts CallCounts (in_words called image p)
unfolding in_words
words_count called image p h = Counts-bind EngineCounts CallCounts p (λ r. Done (with_error_context called (whole_text image) r)) h
    (λ m n r at. Counts-done (λ start o b. start ≡ n → CallCounts m o b) (with_error_context called (whole_text image) r) (λ o same. rw same (worded_counts called (whole_text image) m n r at)))

-- a call that may return a cached response
pub kept_counts : {A : Type 0} (cache : Cache A) (key : List ℕ) (now : ℕ) (b : Bool) (p : Plain A) → Counts CallCounts p → Counts CallCounts (cached b cache key now p)
kept_counts cache key now b p h = cached_counts cache key now CallCounts b p (λ m a. omega arith) h

manifest_made_counts : (s : Context) (image : Reference) (a : RegistryAuth) → Counts CallCounts (manifest_made s image a)
unfolding manifest_made
manifest_made_counts s image a = words_count PullManifest image (pull_manifest s image a) (manifest_counts s image a)

pub manifest_call_counts : (s : Context) (image : Reference) (a : RegistryAuth) → Counts CallCounts (manifest_call s image a)
unfolding manifest_call
manifest_call_counts s image a = kept_counts manifests (manifest_key image a) s.moment (reads_back image) (manifest_made s image a) (manifest_made_counts s image a)

image_made_counts : (s : Context) (image : Reference) (a : RegistryAuth) (accepted : List (List ℕ)) → Counts CallCounts (image_made s image a accepted)
unfolding image_made
image_made_counts s image a accepted = words_count Pull image (pull s image a accepted) (image_counts s image a accepted)

pub image_call_counts : (s : Context) (image : Reference) (a : RegistryAuth) (accepted : List (List ℕ)) → Counts CallCounts (image_call s image a accepted)
unfolding image_call
image_call_counts s image a accepted = kept_counts images (pull_key image a accepted) s.moment (reads_back image) (image_made s image a accepted) (image_made_counts s image a accepted)

pub wider : (m n o : ℕ) (e : SigstoreError) → m ≤ n → SincereWords n o e → SincereWords m o e
wider m n o e le h = record { falls = omega (arith, le, h.falls); no_memory = h.no_memory; fault = λ is. let rose : Increased n o = h.fault is in omega (arith, le, rose) }

-- a step, and then what it leads to
pub call_later : {A : Type 0} (m n o : ℕ) (r : Result A SigstoreError) → m ≤ n → CallCounts n o r → CallCounts m o r
call_later m n o (Ok a) le h = omega (arith, le, h)
call_later m n o (Err e) le h = wider m n o e le h

pub call_next : {K A B : Type 0} (p : Proto K (Result A SigstoreError)) (f : A → Proto K (Result B SigstoreError)) → Counts CallCounts p → ((a : A) → Counts CallCounts (f a)) → Counts CallCounts (p >>= f)
call_next {K} {A} {B} p f h each = Counts-bind CallCounts CallCounts p (unless_refused f) h leads where
  leads : (m n : ℕ) (r : Result A SigstoreError) → CallCounts m n r → Counts (λ t q b. t ≡ n → CallCounts m q b) (unless_refused f r)
  leads m n (Ok a) at = Counts-more CallCounts (λ t q b. t ≡ n → CallCounts m q b) (f a) (each a) (λ t q b h same. call_later m t q b (rw same at) h)
  leads m n (Err e) at = Counts-done (λ t q b. t ≡ n → CallCounts m q b) (Err e) (λ q same. rw same at)

-- ---- the referrers are listed, with a token that is obtained first

token_memory : (s : Settings) (image : Reference) (a : RegistryAuth) (c : List Exchange) (n : ℕ) (e : OciDistributionError) → TokenCause s image a c n e → engine_is_memory e ≡ false → in_engine e ≡ false
token_memory s image a c n engine_refusal.WantOfMemory h other = absurd (cc other)
token_memory s image a c n engine_refusal.SinkFault h other = absurd h
token_memory s image a c n (engine_refusal.DigestError digest_refusal.WantOfMemory) h other = absurd h
token_memory s image a c n _ h other = refl

token_counts : (s : Context) (image : Reference) (a : RegistryAuth) (op : RegistryOperation) → Counts EngineCounts (token_given s image a op)
token_counts s image a op = record { counts = λ k l m n c r run. by_result k l m n c r run } where
  by_result : (k l : AuthState) (m n : ℕ) (c : List Exchange) (r : Result (Option (List ℕ)) OciDistributionError) → Runs (token_given s image a op) k m c n l r → EngineCounts m n r
  by_result k l m n c (Ok found) run = Runs-count (token_given s image a op) k l m n c (Ok found) run
  by_result k l m n c (Err e) run = record {
    falls = Runs-count (token_given s image a op) k l m n c (Err e) run;
    no_memory = token_memory s.settings image a c n e ((given_shown s image a op).shows k l m n c (Err e) run);
    fault = fault_of (token_given s image a op) k l m n c e run (λ old new met. token_fault s image a op met refl);
  }

-- the errors of the list hold no out-of-memory error and no fault of a sink
listing_memory : (x : Entry) (s : Settings) (c : List Exchange) (n : ℕ) (e : OciDistributionError) → ReferrersCause x s c n e → engine_is_memory e ≡ false → in_engine e ≡ false
listing_memory x s c n engine_refusal.WantOfMemory h other = absurd (cc other)
listing_memory x s c n engine_refusal.SinkFault h other = absurd (referrers_no_sink x s c n h)
listing_memory x s c n (engine_refusal.DigestError digest_refusal.WantOfMemory) (inl h) other = absurd h.cause.holds
listing_memory x s c n (engine_refusal.DigestError digest_refusal.WantOfMemory) (inr h) other = absurd h.after.holds.1
listing_memory x s c n _ h other = refl

listing_counts : (s : Context) (image : Reference) (kind : Option (List ℕ)) → Counts EngineCounts (pull_referrers s image kind)
listing_counts s image kind = record { counts = λ k l m n c r run. by_result k l m n c r run } where
  by_result : (k l : AuthState) (m n : ℕ) (c : List Exchange) (r : Result OciImageIndex OciDistributionError) → Runs (pull_referrers s image kind) k m c n l r → EngineCounts m n r
  by_result k l m n c (Ok index) run = Runs-count (pull_referrers s image kind) k l m n c (Ok index) run
  by_result k l m n c (Err e) run = let cause = (referrers_causes s image kind).shows k l m n c (Err e) run in record {
    falls = Runs-count (pull_referrers s image kind) k l m n c (Err e) run;
    no_memory = listing_memory (pulling cause.0 s image None) s.settings c n e cause.1;
    fault = fault_of (pull_referrers s image kind) k l m n c e run (λ old new met. referrers_fault s image kind met refl);
  }

referrers_made_counts : (s : Context) (image : Reference) (a : RegistryAuth) (kind : Option (List ℕ)) → Counts CallCounts (referrers_made s image a kind)
unfolding referrers_made
referrers_made_counts s image a kind = call_next (in_words FetchManifest image (token_given s image a operation.Pull)) _ (words_count FetchManifest image (token_given s image a operation.Pull) (token_counts s image a operation.Pull)) (λ u. words_count PullManifest image (pull_referrers s image kind) (listing_counts s image kind))

pub referrers_call_counts : (s : Context) (image : Reference) (a : RegistryAuth) (kind : Option (List ℕ)) → Counts CallCounts (referrers_call s image a kind)
unfolding referrers_call
referrers_call_counts s image a kind = kept_counts referrers (referrers_key image a kind) s.moment (reads_back image) (referrers_made s image a kind) (referrers_made_counts s image a kind)

-- ---- what is skipped

-- between these fault counts
record Counted (m n : ℕ) (skipped : List Skipped) : Type 0 where
  no_memory : HoldsNoMemoryNorSink skipped
  faults : CountsFaults m n skipped

none_skipped : (m n : ℕ) → m ≤ n → Counted m n []
none_skipped m n le = record { no_memory = λ k d lt. absurd (omega arith); faults = omega (arith, le) }

count_one : (x : Skipped) (xs : List Skipped) → count_by is_fault (xs ++ x ∷ []) ≡ count_by is_fault xs + cond (is_fault x) 1 0
count_one x xs = sum_by-append (λ x. cond (is_fault x) 1 0) xs (x ∷ []) ∙ ap (λ n. count_by is_fault xs + n) (zero-add (cond (is_fault x) 1 0))

-- one more cause, which is a fault only if the count increased
one_more : (m n o : ℕ) (xs : List Skipped) (x : Skipped) → n ≤ o → Counted m n xs → holds_memory_or_sink x ≡ false → (is_fault x ≡ true → Increased n o) → Counted m o (xs ++ x ∷ [])
one_more m n o xs x le h memory fault = record { no_memory = All-push (λ cause. holds_memory_or_sink cause ≡ false) xs x h.no_memory memory; faults = by_fault (is_fault x) refl } where
  by_fault : (b : Bool) → is_fault x ≡ b → CountsFaults m o (xs ++ x ∷ [])
  by_fault true is = let one : count_by is_fault (xs ++ x ∷ []) ≡ count_by is_fault xs + 1 = count_one x xs ∙ ap (λ b. count_by is_fault xs + cond b 1 0) is in let rose : Increased n o = fault is in rw one (omega (arith, h.faults, rose))
  by_fault false is = let one : count_by is_fault (xs ++ x ∷ []) ≡ count_by is_fault xs + 0 = count_one x xs ∙ ap (λ b. count_by is_fault xs + cond b 1 0) is in rw one (omega (arith, h.faults, le))

-- from an earlier count
earlier : (m n o : ℕ) (skipped : List Skipped) → m ≤ n → Counted n o skipped → Counted m o skipped
earlier m n o skipped le h = record { no_memory = h.no_memory; faults = omega (arith, le, h.faults) }

-- one cause
one_cause : (m n : ℕ) (x : Skipped) → m ≤ n → holds_memory_or_sink x ≡ false → (is_fault x ≡ true → Increased m n) → Counted m n (x ∷ [])
one_cause m n x le memory fault = one_more m m n [] x le (none_skipped m m (omega arith)) memory fault

-- causes that need no fault
abbrev Quiet : List Skipped → Type 0
Quiet skipped = (m n : ℕ) → m ≤ n → Counted m n skipped

quiet_one : (x : Skipped) → holds_memory_or_sink x ≡ false → is_fault x ≡ false → Quiet (x ∷ [])
quiet_one x memory fault m n le = one_cause m n x le memory (λ is. absurd (cc (sym fault ∙ is)))

quiet_none : Quiet []
quiet_none m n le = none_skipped m n le

both_memory : (x : Skipped) (xs : List Skipped) → holds_memory_or_sink x ≡ false → HoldsNoMemoryNorSink xs → HoldsNoMemoryNorSink (x ∷ xs)
both_memory x xs memory rest = All-cons (λ cause. holds_memory_or_sink cause ≡ false) x xs memory rest

one_before : (x : Skipped) (xs : List Skipped) → is_fault x ≡ false → count_by is_fault (x ∷ xs) ≡ count_by is_fault xs
one_before x xs fault =
    sum_by-append (λ x. cond (is_fault x) 1 0) (x ∷ []) xs
    ∙ ap (λ b. 0 + cond b 1 0 + count_by is_fault xs) fault
    ∙ zero-add (count_by is_fault xs)

-- a cause without a fault before others
quiet_cons : (x : Skipped) (xs : List Skipped) → holds_memory_or_sink x ≡ false → is_fault x ≡ false → Quiet xs → Quiet (x ∷ xs)
quiet_cons x xs memory fault h m n le = record {
  no_memory = both_memory x xs memory (h m n le).no_memory;
  faults = subst (λ k. min (m + k) (2 ^ 64 - 1) ≤ n) (sym (one_before x xs fault)) (h m n le).faults;
}

layer_memory : (trust : Trust) (d : List ℕ) (i : Input) (x : LayerRejection) → layer_read trust d i ≡ Err x → is_layer_memory x ≡ false
layer_memory trust d i WantOfMemory is = absurd (never_memory trust d i is)
layer_memory trust d i _ is = refl

read_memory : (trust : Trust) (d : List ℕ) (x : OciDescriptor) (o : Option ImageLayer) (cause : LayerRejection) → read_layer trust d x o ≡ Err cause → is_layer_memory cause ≡ false
read_memory trust d x None cause is = let same : LayerNotPulled ≡ cause = cc is in subst (λ y. is_layer_memory y ≡ false) same refl
read_memory trust d x (Some layer) cause is = layer_memory trust d (input kinds.Payload layer.content x.digest (unwrap_or x.annotations map_of.empty)) cause is

layer_quiet : (kind : SourceKind) (name : List ℕ) (r : Result SignatureLayer LayerRejection) (rest : List Skipped) → ((x : LayerRejection) → r ≡ Err x → is_layer_memory x ≡ false) → Quiet rest → Quiet ((layer_part kind name r).skipped ++ rest)
layer_quiet kind name (Ok layer) rest memory h = h
layer_quiet kind name (Err cause) rest memory h = quiet_cons (Layer kind name cause) rest (memory cause refl) refl h

descriptors_quiet : (trust : Trust) (d : List ℕ) (layers : List ImageLayer) (xs : List OciDescriptor) → Quiet (descriptors_part trust d layers xs).skipped
descriptors_quiet trust d layers [] = quiet_none
descriptors_quiet trust d layers (x ∷ xs) = layer_quiet Tag x.digest (read_layer trust d x (named_layer x.digest layers)) (descriptors_part trust d layers xs).skipped (λ cause is. read_memory trust d x (named_layer x.digest layers) cause is) (descriptors_quiet trust d layers xs)

document_quiet : (trust : Trust) (d : List ℕ) (document : OciManifest) (image : ImageData) → Quiet (document_part trust d document image).skipped
document_quiet trust d (ImageIndex index) image = quiet_one (Source Tag FoundIndex) refl refl
document_quiet trust d (Image manifest) image = descriptors_quiet trust d image.layers manifest.layers

bundles_quiet : (trust : Trust) (d : List ℕ) (xs : List ImageLayer) → Quiet (bundles_part trust d xs).skipped
bundles_quiet trust d [] = quiet_none
bundles_quiet trust d (x ∷ xs) = let text = digest_text Sha256 x.content in layer_quiet Referrers text (read_bundle trust d text x) (bundles_part trust d xs).skipped (λ cause is. layer_memory trust d (input kinds.Bundle x.content text (unwrap_or x.annotations map_of.empty)) cause is) (bundles_quiet trust d xs)

-- ---- the tag as a source

-- the result of a source before its error is skipped
abbrev UnskippedCounts : ℕ → ℕ → Result Part SigstoreError → Type 0
UnskippedCounts m n (Ok part) = Counted m n part.skipped
UnskippedCounts m n (Err e) = SincereWords m n e

image_then : (m n o : ℕ) (trust : Trust) (d : List ℕ) (document : OciManifest) (r : Result ImageData SigstoreError) → m ≤ n → CallCounts n o r → Counts {K = Kept} (λ t p b. t ≡ o → UnskippedCounts m p b) (unless_refused (λ image. Done (Ok (document_part trust d document image))) r)
image_then m n o trust d document (Ok image) le call = Counts-done (λ t p b. t ≡ o → UnskippedCounts m p b) (Ok (document_part trust d document image)) (λ p same. rw same (document_quiet trust d document image m o (omega (arith, le, call))))
image_then m n o trust d document (Err e) le call = Counts-done (λ t p b. t ≡ o → UnskippedCounts m p b) (Err e) (λ p same. rw same (wider m n o e le call))

manifest_then : (m n : ℕ) (trust : Trust) (d : List ℕ) (s : Context) (tag : Reference) (a : RegistryAuth) (r : Result (OciManifest × List ℕ) SigstoreError) → CallCounts m n r → Counts (λ t p b. t ≡ n → UnskippedCounts m p b) (unless_refused (λ document. image_call s tag a (payload_type ∷ []) >>= λ image. Done (Ok (document_part trust d document.0 image))) r)
manifest_then m n trust d s tag a (Err e) call = Counts-done (λ t p b. t ≡ n → UnskippedCounts m p b) (Err e) (λ p same. rw same call)
manifest_then m n trust d s tag a (Ok document) call = Counts-bind CallCounts (λ t p b. t ≡ n → UnskippedCounts m p b) (image_call s tag a (payload_type ∷ [])) _ (image_call_counts s tag a (payload_type ∷ []))
    (λ t p r at. Counts-more (λ u q b. u ≡ p → t ≡ n → UnskippedCounts m q b) (λ u q b. u ≡ p → t ≡ n → UnskippedCounts m q b) _ (record { counts = λ k l u q c b run same begins. (image_then m t p trust d document.0 r (rw begins call) at).counts k l u q c b run same }) (λ u q b h. h))

tag_layers_counts : (trust : Trust) (d : List ℕ) (s : Context) (tag : Reference) (a : RegistryAuth) → Counts UnskippedCounts (tag_layers trust d s tag a)
unfolding tag_layers
tag_layers_counts trust d s tag a = Counts-bind CallCounts UnskippedCounts (manifest_call s tag a) _ (manifest_call_counts s tag a) (λ m n r at. manifest_then m n trust d s tag a r at)

abbrev SourceCounts : ℕ → ℕ → Result Part SigstoreError → Type 0
SourceCounts m n r = OnAnswer (λ part. Counted m n part.skipped) r

-- an error is skipped at a place that holds the error itself
skipped_counts : (place : SkipCause → Skipped) (m n : ℕ) (r : Result Part SigstoreError) → ((e : SigstoreError) → holds_memory_or_sink (place (Refused e)) ≡ in_refusal e) → ((e : SigstoreError) → is_fault (place (Refused e)) ≡ is_refused_fault e) → UnskippedCounts m n r → SourceCounts m n (or_skipped place r)
skipped_counts place m n (Ok part) memory fault h = h
skipped_counts place m n (Err e) memory fault h = by_memory (is_memory e) refl where
  by_memory : (b : Bool) → is_memory e ≡ b → SourceCounts m n (if b then Err e else Ok (skipping (place (Refused e))))
  by_memory true is = tt
  by_memory false is = one_cause m n (place (Refused e)) h.falls (memory e ∙ h.no_memory is) (λ wrong. h.fault (sym (fault e) ∙ wrong))

by_counts : (trust : Trust) (d : List ℕ) (s : Context) (tag : Reference) (a : RegistryAuth) (b : Bool) → Counts SourceCounts (tag_by trust d s tag a b)
by_counts trust d s tag a true = Counts-bind UnskippedCounts SourceCounts (tag_layers trust d s tag a) (λ r. Done (or_skipped (Source Tag) r)) (tag_layers_counts trust d s tag a)
    (λ m n r at. Counts-done (λ t p b. t ≡ n → SourceCounts m p b) (or_skipped (Source Tag) r) (λ p same. rw same (skipped_counts (Source Tag) m n r (λ e. refl) (λ e. refl) at)))
by_counts trust d s tag a false = Counts-done SourceCounts (Ok (skipping (Source Tag (NotAReference (whole_text tag))))) (λ m. quiet_one (Source Tag (NotAReference (whole_text tag))) refl refl m m (omega arith))

source_counts : (trust : Trust) (s : Context) (image : Reference) (a : RegistryAuth) (d : List ℕ) → Counts SourceCounts (tag_source trust s image a d)
unfolding tag_source
source_counts trust s image a d = by_counts trust d s (tag_reference image d) a (reads_back (tag_reference image d))

-- ---- the referrers as a source

-- what was skipped before, followed by more
both : (m n o : ℕ) (xs ys : List Skipped) → Counted m n xs → Counted n o ys → Counted m o (xs ++ ys)
both m n o xs ys h k = record {
  no_memory = All-append (λ cause. holds_memory_or_sink cause ≡ false) xs ys h.no_memory k.no_memory;
  faults = subst (λ t. min (m + t) (2 ^ 64 - 1) ≤ o) (sym (sum_by-append (λ x. cond (is_fault x) 1 0) xs ys)) (omega (arith, h.faults, k.faults));
}

-- the property holds for the result
from_earlier : {A : Type 0} (skips : A → List Skipped) (m n o : ℕ) (r : Result A SigstoreError) → m ≤ n → OnAnswer (λ a. Counted n o (skips a)) r → OnAnswer (λ a. Counted m o (skips a)) r
from_earlier skips m n o (Ok a) le h = earlier m n o (skips a) le h
from_earlier skips m n o (Err e) le h = tt

-- two sources in turn, and the result of both
module _ {A : Type 0} (skips : A → List Skipped) (f : Part → Part → A) (is : (one rest : Part) → skips (f one rest) ≡ one.skipped ++ rest.skipped) where
  abbrev BothCount : ℕ → ℕ → Result A SigstoreError → Type 0
  BothCount m n r = OnAnswer (λ a. Counted m n (skips a)) r

  second_then : (m n o : ℕ) (one : Part) (r : Result Part SigstoreError) → Counted m n one.skipped → SourceCounts n o r → Counts {K = Kept} (λ t p b. t ≡ o → BothCount m p b) (unless_refused (λ rest. Done (Ok (f one rest))) r)
  second_then m n o one (Ok rest) h k = Counts-done (λ t p b. t ≡ o → BothCount m p b) (Ok (f one rest)) (λ p same. rw same (subst (Counted m o) (sym (is one rest)) (both m n o one.skipped rest.skipped h k)))
  second_then m n o one (Err e) h k = Counts-done (λ t p b. t ≡ o → BothCount m p b) (Err e) (λ p same. tt)

  first_then : (second : Row Part) → Counts SourceCounts second → (m n : ℕ) (r : Result Part SigstoreError) → SourceCounts m n r → Counts (λ t p b. t ≡ n → BothCount m p b) (unless_refused (λ one. second >>= λ rest. Done (Ok (f one rest))) r)
  first_then second counts m n (Ok one) h = Counts-bind SourceCounts (λ t p b. t ≡ n → BothCount m p b) second _ counts
      (λ t p r at. record { counts = λ k l u q c b run same begins. (second_then m t p one r (rw begins h) at).counts k l u q c b run same })
  first_then second counts m n (Err e) h = Counts-done (λ t p b. t ≡ n → BothCount m p b) (Err e) (λ p same. tt)

  both_counts : (first second : Row Part) → Counts SourceCounts first → Counts SourceCounts second → Counts BothCount (first >>= λ one. second >>= λ rest. Done (Ok (f one rest)))
  both_counts first second h k = Counts-bind SourceCounts BothCount first _ h (λ m n r at. first_then second k m n r at)

referrer_counts : (trust : Trust) (d : List ℕ) (m n : ℕ) (r : Result ImageData SigstoreError) → CallCounts m n r → UnskippedCounts m n (referrer_part trust d r)
referrer_counts trust d m n (Ok image) le = bundles_quiet trust d image.layers m n le
referrer_counts trust d m n (Err e) h = h

referrer_by_counts : (trust : Trust) (d : List ℕ) (s : Context) (referrer : Reference) (a : RegistryAuth) (digest : List ℕ) (b : Bool) → Counts SourceCounts (referrer_by trust d s referrer a digest b)
referrer_by_counts trust d s referrer a digest true = Counts-bind CallCounts SourceCounts (image_call s referrer a (bundle_type ∷ [])) _ (image_call_counts s referrer a (bundle_type ∷ []))
    (λ m n r at. Counts-done (λ t p b. t ≡ n → SourceCounts m p b) (or_skipped (Referrer digest) (referrer_part trust d r)) (λ p same. rw same (skipped_counts (Referrer digest) m n (referrer_part trust d r) (λ e. refl) (λ e. refl) (referrer_counts trust d m n r at))))
referrer_by_counts trust d s referrer a digest false = let cause = Referrer digest (NotAReference (whole_text referrer)) in
    Counts-done SourceCounts (Ok (skipping cause)) (λ m. quiet_one cause refl refl m m (omega arith))

referrer_row_counts : (trust : Trust) (d : List ℕ) (s : Context) (source : Reference) (a : RegistryAuth) (digest : List ℕ) → Counts SourceCounts (referrer_row trust d s source a digest)
unfolding referrer_row
referrer_row_counts trust d s source a digest = referrer_by_counts trust d s (digest_reference source digest) a digest (reads_back (digest_reference source digest))

referrers_counts : (trust : Trust) (d : List ℕ) (s : Context) (source : Reference) (a : RegistryAuth) (xs : List ImageIndexEntry) → Counts SourceCounts (referrers_row trust d s source a xs)
unfolding referrers_row
referrers_counts trust d s source a [] = Counts-done SourceCounts (Ok nothing) (λ m. none_skipped m m (omega arith))
referrers_counts trust d s source a (x ∷ xs) = both_counts (λ part. part.skipped) appended (λ one rest. refl) (referrer_row trust d s source a x.digest) (referrers_row trust d s source a xs) (referrer_row_counts trust d s source a x.digest) (referrers_counts trust d s source a xs)

listed_counts : (trust : Trust) (d : List ℕ) (s : Context) (source : Reference) (a : RegistryAuth) (m n : ℕ) (r : Result OciImageIndex SigstoreError) → CallCounts m n r → Counts (λ t o b. t ≡ n → SourceCounts m o b) (listed_row trust d s source a r)
listed_counts trust d s source a m n (Ok index) le = Counts-more SourceCounts (λ t o b. t ≡ n → SourceCounts m o b) (referrers_row trust d s source a index.manifests) (referrers_counts trust d s source a index.manifests)
    (λ t o b h same. from_earlier (λ (part : Part). part.skipped) m n o b le (rw same at h))
listed_counts trust d s source a m n (Err e) h = Counts-done (λ t o b. t ≡ n → SourceCounts m o b) (or_skipped (Source Referrers) (Err e)) (λ o same. rw same (skipped_counts (Source Referrers) m n (Err e) (λ e. refl) (λ e. refl) h))

referrers_source_counts : (trust : Trust) (d : List ℕ) (s : Context) (source : Reference) (a : RegistryAuth) → Counts SourceCounts (referrers_source trust d s source a)
unfolding referrers_source
referrers_source_counts trust d s source a = Counts-bind CallCounts SourceCounts (referrers_call s source a None) (listed_row trust d s source a) (referrers_call_counts s source a None) (λ m n r at. listed_counts trust d s source a m n r at)

-- ---- the search

abbrev SearchCounts : ℕ → ℕ → Result TrustedLayers SigstoreError → Type 0
SearchCounts m n r = OnAnswer (λ found. Counted m n found.skipped) r

rest_counts : (trust : Trust) (s : Context) (image : Reference) (a : RegistryAuth) (digest : List ℕ) → Counts SearchCounts (rest_of trust s image a digest)
rest_counts trust s image a digest = both_counts (λ found. found.skipped) (λ tag more. trusted_layers digest (appended tag more)) (λ tag more. refl) (tag_source trust s image a digest) (referrers_source trust digest s (digest_reference image digest) a) (source_counts trust s image a digest) (referrers_source_counts trust digest s (digest_reference image digest) a)

after_digest : (m n : ℕ) (trust : Trust) (s : Context) (image : Reference) (a : RegistryAuth) (digest : List ℕ) (r : Result (Unit {0}) SigstoreError) → m ≤ n → Counts (λ t p b. t ≡ n → SearchCounts m p b) (unless_refused (λ u. rest_of trust s image a digest) r)
after_digest m n trust s image a digest (Err e) le = Counts-done (λ t p b. t ≡ n → SearchCounts m p b) (Err e) (λ p same. tt)
after_digest m n trust s image a digest (Ok u) le = Counts-more SearchCounts (λ t p b. t ≡ n → SearchCounts m p b) (rest_of trust s image a digest) (rest_counts trust s image a digest)
    (λ t p b h same. from_earlier (λ (found : TrustedLayers). found.skipped) m n p b le (rw same at h))

digest_then : (m n : ℕ) (trust : Trust) (s : Context) (image : Reference) (a : RegistryAuth) (r : Result (List ℕ) SigstoreError) → m ≤ n → Counts (λ t p b. t ≡ n → SearchCounts m p b) (unless_refused (λ digest. Done (reading_back (digest_reference image digest)) >>= (λ u. rest_of trust s image a digest)) r)
unfolding bind
digest_then m n trust s image a (Err e) le = Counts-done (λ t p b. t ≡ n → SearchCounts m p b) (Err e) (λ p same. tt)
digest_then m n trust s image a (Ok digest) le = after_digest m n trust s image a digest (reading_back (digest_reference image digest)) le

search_counts : (trust : Trust) (s : Context) (image : Reference) (a : RegistryAuth) → Counts SearchCounts (searched trust s image a)
unfolding searched
search_counts trust s image a = Counts-bind (λ m n r. m ≤ n) SearchCounts (digest_call s image a) _ (Counts-any (digest_call s image a)) (λ m n r le. digest_then m n trust s image a r le)

-- ---- the pull

abbrev OfRefusal : {A : Type 0} → ℕ → ℕ → Result A PullRefusal → Type 0
OfRefusal m n (Ok v) = Unit {0}
OfRefusal m n (Err e) = OnSkipped (Counted m n) e

refused_quiet : (P : List Skipped → Type 0) (e : SigstoreError) → OnSkipped P (refused_as e)
refused_quiet P (sigstore.OciReferenceNotValidError text) = tt
refused_quiet P (sigstore.RegistryFetchManifestError name e) = tt
refused_quiet P (sigstore.RegistryPullError name e) = tt
refused_quiet P (sigstore.RegistryPullManifestError name e) = tt
refused_quiet P (sigstore.RegistryPushError name e) = tt
refused_quiet P sigstore.WantOfMemory = tt

abbrev PartCounts : ℕ → ℕ → Result TrustedLayers PullRefusal → Type 0
PartCounts m n (Ok found) = Counted m n found.skipped
PartCounts m n (Err e) = (p : ℕ) → OnSkipped (Counted m p) e

whole_counts : (m n : ℕ) (r : Result TrustedLayers SigstoreError) → SearchCounts m n r → PartCounts m n (as_whole r)
whole_counts m n (Ok found) h = h
whole_counts m n (Err e) h = λ p. refused_quiet (Counted m p) e

search_part_counts : (trust : Trust) (s : Context) (image : Reference) (a : RegistryAuth) → Counts PartCounts (part_of (searched trust s image a))
unfolding part_of
search_part_counts trust s image a = Counts-bind SearchCounts PartCounts (searched trust s image a) (λ r. Done (as_whole r)) (search_counts trust s image a)
    (λ m n r at. Counts-done (λ t p b. t ≡ n → PartCounts m p b) (as_whole r) (λ p same. rw same (whole_counts m n r at)))

-- the image's error holds nothing that was skipped
abbrev SkipsNone : {A : Type 0} → ℕ → Result A PullRefusal → Type 0
SkipsNone m (Ok a) = Unit {0}
SkipsNone m (Err e) = (q : ℕ) → OnSkipped (Counted m q) e

image_skips : (m : ℕ) (r : Result Pulled SigstoreError) → SkipsNone m (as_whole r)
image_skips m (Ok pulled) = tt
image_skips m (Err e) = λ q. refused_quiet (Counted m q) e

image_part_skips : (m : ℕ) (p : Row Pulled) → Counts (λ t q r. SkipsNone m r) (part_of p)
unfolding part_of
image_part_skips m p = Counts-bind (λ t q r. Unit {0}) (λ t q r. SkipsNone m r) p (λ r. Done (as_whole r)) (record { counts = λ k l t q c r run. tt })
    (λ t n r u. Counts-done (λ i q b. i ≡ n → SkipsNone m b) (as_whole r) (λ q same. image_skips m r))

pulled_then : (m : ℕ) (stood : SignedDigest) (r : Result Pulled PullRefusal) → SkipsNone m r → Counts {K = Kept} (λ t q b. OfRefusal m q b) (unless_refused (λ pulled. Done (Ok (verified_image stood pulled))) r)
pulled_then m stood (Ok pulled) h = Counts-done (λ t q b. OfRefusal m q b) (Ok (verified_image stood pulled)) (λ q. tt)
pulled_then m stood (Err e) h = Counts-done (λ t q b. OfRefusal m q b) (Err e) (λ q. h q)

unsatisfied : (m n : ℕ) (found : TrustedLayers) (o : Option SignatureLayer) (e : PullRefusal) → Counted m n found.skipped → signed_digest found o ≡ Err e → OnSkipped (Counted m n) e
unsatisfied m n found (Some signature) e h wrong = absurd (cc wrong)
unsatisfied m n found None e h wrong = let same : refusal.Unsatisfied found.digest found.collected found.skipped ≡ e = cc wrong in subst (OnSkipped (Counted m n)) same h

module _ {V : Type 0} {H : V → Type 0} (policy_context : PolicyContext V H) (s : Context) (image : Reference) (a : RegistryAuth) (accepted : List (List ℕ)) where
  stood_then : (m n : ℕ) (found : TrustedLayers) (r : Result SignedDigest PullRefusal) → ((e : PullRefusal) → r ≡ Err e → OnSkipped (Counted m n) e) → Counts (λ t q b. t ≡ n → OfRefusal m q b) (unless_refused (λ stood. part_of (image_row s image (digest_reference image stood.digest) a accepted) >>= λ pulled. Done (Ok (verified_image stood pulled))) r)
  stood_then m n found (Err e) wrong = Counts-done (λ t q b. t ≡ n → OfRefusal m q b) (Err e) (λ q same. rw same (wrong e refl))
  stood_then m n found (Ok stood) wrong = Counts-bind (λ t p r. SkipsNone m r) (λ t q b. t ≡ n → OfRefusal m q b) (part_of (image_row s image (digest_reference image stood.digest) a accepted)) _ (image_part_skips m (image_row s image (digest_reference image stood.digest) a accepted))
      (λ t p r h. record { counts = λ k l u q c b run same begins. (pulled_then m stood r h).counts k l u q c b run })

  after_counts : (m n : ℕ) (found : TrustedLayers) → Counted m n found.skipped → Counts (λ t q b. t ≡ n → OfRefusal m q b) (after_search policy_context s image a accepted found)
  unfolding after_search bind
  after_counts m n found h = stood_then m n found (standing policy_context found) (λ e wrong. unsatisfied m n found (find (stands_by policy_context) found.collected) e h wrong)

  search_then : (m n : ℕ) (r : Result TrustedLayers PullRefusal) → PartCounts m n r → Counts (λ t q b. t ≡ n → OfRefusal m q b) (unless_refused (after_search policy_context s image a accepted) r)
  search_then m n (Ok found) h = after_counts m n found h
  search_then m n (Err e) h = Counts-done (λ t q b. t ≡ n → OfRefusal m q b) (Err e) (λ q same. h q)

  readable_then : (r : Result (Unit {0}) PullRefusal) → ((P : List Skipped → Type 0) (e : PullRefusal) → r ≡ Err e → OnSkipped P e) → Counts OfRefusal (unless_refused (λ u. part_of (searched policy_context.trust s image a) >>= after_search policy_context s image a accepted) r)
  readable_then (Err e) wrong = Counts-done OfRefusal (Err e) (λ m. wrong (Counted m m) e refl)
  readable_then (Ok u) wrong = Counts-bind PartCounts OfRefusal (part_of (searched policy_context.trust s image a)) _ (search_part_counts policy_context.trust s image a) (λ m n r h. search_then m n r h)

  constrained_then : (r : Result (Unit {0}) PullRefusal) → ((P : List Skipped → Type 0) (e : PullRefusal) → r ≡ Err e → OnSkipped P e) → Counts OfRefusal (unless_refused (λ u. Done (readable image) >>= (λ v. part_of (searched policy_context.trust s image a) >>= after_search policy_context s image a accepted)) r)
  unfolding bind
  constrained_then (Err e) wrong = Counts-done OfRefusal (Err e) (λ m. wrong (Counted m m) e refl)
  constrained_then (Ok u) wrong = readable_then (readable image) (λ P e is. unreadable_quiet P (reads_back image) e is) where
    unreadable_quiet : (P : List Skipped → Type 0) (b : Bool) (e : PullRefusal) → readable_by image b ≡ Err e → OnSkipped P e
    unreadable_quiet P true e is = absurd (cc is)
    unreadable_quiet P false e is = let same : refusal.OciReferenceNotValidError (whole_text image) ≡ e = cc is in subst (OnSkipped P) same tt

  empty_quiet : (P : List Skipped → Type 0) (b : Bool) (e : PullRefusal) → constrained b ≡ Err e → OnSkipped P e
  empty_quiet P false e is = absurd (cc is)
  empty_quiet P true e is = let same : refusal.EmptyPolicy ≡ e = cc is in subst (OnSkipped P) same tt

  pull_counts : Counts OfRefusal (verified policy_context s image a accepted)
  unfolding verified after_search bind
  pull_counts = constrained_then (constrained (is_unconstrained policy_context.policy)) (λ P e is. empty_quiet P (is_unconstrained policy_context.policy) e is)

-- ---- the same for a call

search_counted : (trust : Trust) (s : Context) (image : Reference) (a : RegistryAuth) {old new : Link} {k l : Kept} (r : Result TrustedLayers SigstoreError) → Meets is_memory (searched trust s image a) old new k l r → IfOk r (λ found. Counted old.faults new.faults found.skipped)
search_counted trust s image a (Ok found) met = Meets-counts SearchCounts (search_counts trust s image a) met
search_counted trust s image a (Err e) met = tt

pub search_no_memory : (trust : Trust) (s : Context) (image : Reference) (a : RegistryAuth) {old new : Link} {k l : Kept} (r : Result TrustedLayers SigstoreError) → Meets is_memory (searched trust s image a) old new k l r → IfOk r (λ found. HoldsNoMemoryNorSink found.skipped)
search_no_memory trust s image a (Ok found) met = (search_counted trust s image a (Ok found) met).no_memory
search_no_memory trust s image a (Err e) met = tt

pub search_faults : (trust : Trust) (s : Context) (image : Reference) (a : RegistryAuth) {old new : Link} {k l : Kept} (r : Result TrustedLayers SigstoreError) → Meets is_memory (searched trust s image a) old new k l r → IfOk r (λ found. CountsFaults old.faults new.faults found.skipped)
search_faults trust s image a (Ok found) met = (search_counted trust s image a (Ok found) met).faults
search_faults trust s image a (Err e) met = tt

on_skipped : {P Q : List Skipped → Type 0} (e : PullRefusal) → ((xs : List Skipped) → P xs → Q xs) → OnSkipped P e → OnSkipped Q e
on_skipped (refusal.Unsatisfied digest layers skipped) more h = more skipped h
on_skipped refusal.EmptyPolicy more h = tt
on_skipped (refusal.OciReferenceNotValidError text) more h = tt
on_skipped (refusal.RegistryFetchManifestError name e) more h = tt
on_skipped (refusal.RegistryPullError name e) more h = tt
on_skipped refusal.WantOfMemory more h = tt

unless_memory : (P : List Skipped → Type 0) (e : PullRefusal) → MatchBool (of_refusal e) (Unit {0}) (OnSkipped P e) → OnSkipped P e
unless_memory P (refusal.Unsatisfied digest layers skipped) h = h
unless_memory P refusal.EmptyPolicy h = tt
unless_memory P (refusal.OciReferenceNotValidError text) h = tt
unless_memory P (refusal.RegistryFetchManifestError name e) h = tt
unless_memory P (refusal.RegistryPullError name e) h = tt
unless_memory P refusal.WantOfMemory h = tt

module _ {V : Type 0} {H : V → Type 0} (policy_context : PolicyContext V H) (s : Context) (image : Reference) (a : RegistryAuth) (accepted : List (List ℕ)) where
  pull_counted : {old new : Link} {k l : Kept} (e : PullRefusal) → Meets of_refusal (verified policy_context s image a accepted) old new k l (Err e) → OnSkipped (Counted old.faults new.faults) e
  pull_counted {old} {new} e met = unless_memory (Counted old.faults new.faults) e (Meets-counts OfRefusal (pull_counts policy_context s image a accepted) met)

  pub pull_no_memory : {old new : Link} {k l : Kept} (r : Result VerifiedImage PullRefusal) → Meets of_refusal (verified policy_context s image a accepted) old new k l r → IfErr r (λ e. OnSkipped HoldsNoMemoryNorSink e)
  pull_no_memory (Ok v) met = tt
  pull_no_memory (Err e) met = on_skipped e (λ xs h. h.no_memory) (pull_counted e met)

  pub pull_faults : {old new : Link} {k l : Kept} (r : Result VerifiedImage PullRefusal) → Meets of_refusal (verified policy_context s image a accepted) old new k l r → IfErr r (λ e. OnSkipped (CountsFaults old.faults new.faults) e)
  pull_faults (Ok v) met = tt
  pull_faults (Err e) met = on_skipped e (λ xs h. h.faults) (pull_counted e met)
