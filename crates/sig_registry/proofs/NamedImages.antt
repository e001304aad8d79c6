-- The layers of each pulled image are those that its manifest names, also of each cached image.
use Rattle.std.proofs.Common.{◌≡◌, ℕ, Bool, true, false, List, [], ◌∷◌, ◌++◌, Option, Some, None, Result, Ok, Err, IfOk, IsTrue, refl, sym, ap, subst, ◌∙◌, append_assoc, append-nil}
use Rattle.std.specs.Prelude.{if◌then◌else◌, cond, not, find, filter, option_and_then, OnOk, OnErr}
use Rattle.std.specs.declared.alloc.AllocError.{AllocError}
use Rattle.std.specs.Result.{IsErrAnd}
use Rattle.std.proofs.lemmas.Bool.{and_from, and_parts}
use Rattle.oci_transport.specs.declared.message.Exchange.{Exchange}
use Rattle.oci_transport.specs.Link.{Link}
use Rattle.oci_names.specs.declared.reference.Reference.{Reference}
use Rattle.oci_auth.specs.declared.auth.RegistryAuth.{RegistryAuth}
use Rattle.oci_auth.specs.declared.auth_state.AuthState.{AuthState}
use Rattle.oci_digests.specs.Names.{Names, names}
use Rattle.oci_digests.proofs.Equal.{named}
use Rattle.oci_manifests.specs.declared.descriptor.OciDescriptor.{OciDescriptor}
use Rattle.oci_manifests.specs.declared.blob.ImageLayer.{ImageLayer}
use Rattle.oci_manifests.specs.declared.manifest.OciImageManifest.{OciImageManifest}
use Rattle.oci_protocol.specs.Runs.{Runs, Meets}
use Rattle.oci_protocol.proofs.Parts.{Runs-ok-parts, Runs-done}
use Rattle.engine_terms.specs.Contexts.{Context}
use Rattle.engine_terms.specs.declared.error.OciDistributionError.{OciDistributionError}
use Rattle.json_values.specs.Refusals.{Matches}
use Rattle.engine_terms.specs.Error.{is_memory as engine_is_memory}
use Rattle.engine_requests.specs.Sources.{described}
use Rattle.engine_rows.specs.Blobs.{IntoMemory}
use Rattle.engine_rows.specs.Pulls.{held_blob}
use Rattle.engine_rows.specs.Image.{layer_of, layers_by, config_of, pull_layers, pull}
use Rattle.engine_rows.specs.Manifests.{pull_image_manifest_and_list_digest}
use Rattle.engine_rows.specs.declared.image.ImageData.{ImageData}
use Rattle.engine_laws.proofs.BlobAnswers.{blob_shows}
use Rattle.registry_cache.specs.Answers.{is_of, is_fresh, given_at, fits, within, keep, kind_of, as_image}
use Rattle.registry_cache.specs.declared.answer.Answer.{Answer}
use Rattle.registry_cache.specs.declared.answer.Answer.TheVariants.{Digest, Manifest, Image, Referrers}
use Rattle.registry_cache.specs.declared.answers.Answers.{Answers}
use Rattle.registry_cache.specs.declared.answers.Bounds.{Bounds}
use Rattle.registry_cache.specs.declared.answers.Entry.{Entry}
use Rattle.registry_cache.specs.Caching.{known}
use Rattle.registry_cache.specs.KeptCalls.{images}
use Rattle.registry_calls.specs.declared.error.SigstoreError.{SigstoreError}
use Rattle.registry_calls.specs.declared.error.SigstoreError.TheVariants as sigstore
use Rattle.registry_calls.specs.declared.error_context.Called.{Called}
use Rattle.registry_calls.specs.Error.{is_memory}
use Rattle.registry_calls.specs.ErrorContext.{refusal, with_error_context}
use Rattle.registry_calls.specs.Named.{names_each, is_named, answer_named, all_named}

-- ---- images that are pulled

-- after the layers that were already present, one for each descriptor, whose digest names it
record Behind (xs : List OciDescriptor) (got all : List ImageLayer) : Type 0 where
  more : List ImageLayer
  is : all ≡ got ++ more
  named : IsTrue (names_each xs more)

one_more : (x : OciDescriptor) (xs : List OciDescriptor) (got : List ImageLayer) (content : List ℕ) (all : List ImageLayer) → Names x.digest content → Behind xs (got ++ layer_of x content ∷ []) all → Behind (x ∷ xs) got all
one_more x xs got content all names_it rest = record {
  more = layer_of x content ∷ rest.more;
  is = rest.is ∙ append_assoc got (layer_of x content ∷ []) rest.more;
  named = and_from (names x.digest content) (names_each xs rest.more) ((named x.digest content).1 names_it) rest.named;
}

layers_named : (s : Context) (image : Reference) (xs : List OciDescriptor) (got all : List ImageLayer) (k l : AuthState) (m n : ℕ) (c : List Exchange) → Runs (pull_layers s image xs got) k m c n l (Ok all) → Behind xs got all
unfolding layers_by
layers_named s image [] got all k l m n c run =
    let same : got ≡ all = cc ((Runs-done (Ok got) k m c n l (Ok all) run).2) in
    record { more = []; is = sym same ∙ sym (append-nil got); named = refl }
layers_named s image (x ∷ xs) got all k l m n c run =
    let parts = Runs-ok-parts (held_blob s image (described x)) (λ content. pull_layers s image xs (got ++ layer_of x content ∷ [])) k m c n l all run in
    let blob = (blob_shows IntoMemory s image (described x)).shows k parts.between m parts.count parts.first (Ok parts.answer) parts.runs_first in
    one_more x xs got parts.answer all blob.1 (layers_named s image xs (got ++ layer_of x parts.answer ∷ []) all parts.between l parts.count n parts.second parts.runs_second)

abbrev image_of : OciImageManifest × List ℕ × Option (List ℕ) → List ℕ → List ImageLayer → ImageData
image_of found content layers = record { layers = layers; digest = Some found.1; config = config_of found.0 content; manifest = Some found.0 }

made_named : (found : OciImageManifest × List ℕ × Option (List ℕ)) (content : List ℕ) (layers : List ImageLayer) (given : ImageData) → Behind found.0.layers [] layers → image_of found content layers ≡ given → IsTrue (is_named given)
made_named found content layers given behind same = subst (λ d. IsTrue (is_named d)) same (subst (λ xs. IsTrue (names_each found.0.layers xs)) (sym behind.is) behind.named)

image_named : (s : Context) (image : Reference) (a : RegistryAuth) (accepted : List (List ℕ)) (given : ImageData) (k l : AuthState) (m n : ℕ) (c : List Exchange) → Runs (pull s image a accepted) k m c n l (Ok given) → IsTrue (is_named given)
unfolding pull
image_named s image a accepted given k l m n c run =
    let found = Runs-ok-parts (pull_image_manifest_and_list_digest s image a) _ k m c n l given run in
    let config = Runs-ok-parts (held_blob s image (described (found.answer).0.config)) _ found.between found.count found.second n l given found.runs_second in
    let allowed = Runs-ok-parts _ _ config.between config.count config.second n l given config.runs_second in
    let layers = Runs-ok-parts (pull_layers s image (found.answer).0.layers []) _ allowed.between allowed.count allowed.second n l given allowed.runs_second in
    let behind = layers_named s image (found.answer).0.layers [] layers.answer allowed.between layers.between allowed.count layers.count layers.first layers.runs_first in
    made_named found.answer config.answer layers.answer given behind (cc ((Runs-done (Ok (image_of found.answer config.answer layers.answer)) layers.between layers.count layers.second n l (Ok given) layers.runs_second).2))

-- a call with context that succeeded
worded_ok : {A : Type 0} (called : Called) (text : List ℕ) (r : Result A OciDistributionError) (a : A) → with_error_context called text r ≡ Ok a → r ≡ Ok a
worded_ok called text (Ok x) a is = let same : x ≡ a = cc is in ap Ok same
worded_ok {A} called text (Err e) a is = by_memory (engine_is_memory e) is where
  by_memory : (b : Bool) → (if b then Err sigstore.WantOfMemory else Err (refusal called text e)) ≡ Ok a → (let r : Result A OciDistributionError = Err e in r) ≡ Ok a
  by_memory true h = absurd (cc h)
  by_memory false h = absurd (cc h)

pub pulled_named : (called : Called) (text : List ℕ) (s : Context) (image : Reference) (a : RegistryAuth) (accepted : List (List ℕ)) {old new : Link} {k l : AuthState} {r : Result ImageData OciDistributionError} (t : Result ImageData SigstoreError)
    → Meets engine_is_memory (pull s image a accepted) old new k l r → Matches is_memory t (with_error_context called text r) → IfOk t (λ given. IsTrue (is_named given))
pulled_named called text s image a accepted (Err e) met says = tt
pulled_named called text s image a accepted {old} {new} {k} {l} {r} (Ok given) met says =
    let answered : r ≡ Ok given = worded_ok called text r given says in
    let run = (subst (λ x. Meets engine_is_memory (pull s image a accepted) old new k l x) answered met).outcome in
    image_named s image a accepted given k l old.faults new.faults run.conversation run.runs

-- ---- cached images

-- memory ran out, or an error is passed on
pub refused_named : (P : SigstoreError → Type 0) (r : Result ImageData SigstoreError) → IsErrAnd r P → IfOk r (λ given. IsTrue (is_named given))
refused_named P (Ok given) is = absurd is
refused_named P (Err e) is = tt

filtered : (test : Entry → Bool) (es : List Entry) → IsTrue (all_named es) → IsTrue (all_named (filter test es))
filtered test [] h = refl
filtered test (e ∷ es) h = let both = and_parts (answer_named e.answer) (all_named es) h in by_test (test e) both.0 (filtered test es both.1) where
  by_test : (b : Bool) → IsTrue (answer_named e.answer) → IsTrue (all_named (filter test es)) → IsTrue (all_named (cond b (e ∷ filter test es) (filter test es)))
  by_test true one rest = and_from (answer_named e.answer) (all_named (filter test es)) one rest
  by_test false one rest = rest

joined : (es : List Entry) (e : Entry) → IsTrue (all_named es) → IsTrue (answer_named e.answer) → IsTrue (all_named (es ++ e ∷ []))
joined [] e h one = and_from (answer_named e.answer) true one refl
joined (x ∷ es) e h one = let both = and_parts (answer_named x.answer) (all_named es) h in and_from (answer_named x.answer) (all_named (es ++ e ∷ [])) both.0 (joined es e both.1 one)

kept_within : (bounds : Option Bounds) (es : List Entry) → IsTrue (all_named es) → IsTrue (all_named (within bounds es))
kept_within bounds [] h = refl
kept_within bounds (e ∷ es) h = by_test (fits bounds (e ∷ es)) (kept_within bounds es (and_parts (answer_named e.answer) (all_named es) h).1) where
  by_test : (b : Bool) → IsTrue (all_named (within bounds es)) → IsTrue (all_named (if b then e ∷ es else within bounds es))
  by_test true rest = h
  by_test false rest = rest

-- with one more entry, if it is named
with_one : (e : Entry) (before after : Answers) → after ≡ keep e before → IsTrue (answer_named e.answer) → IsTrue (all_named before.entries) → IsTrue (all_named after.entries)
with_one e before after is one h =
    let others : List Entry = filter (λ other. not (is_of (kind_of e.answer) e.key other)) before.entries in
    rw is (kept_within before.bounds (others ++ e ∷ []) (joined others e (filtered (λ other. not (is_of (kind_of e.answer) e.key other)) before.entries h) one))

-- what is cached after one more entry, or after memory ran out for it
pub kept_named : {U : Type 0} (e : Entry) (r : Result U AllocError) (before after : Answers) → OnOk r (after ≡ keep e before) → OnErr r (after ≡ before) → IsTrue (answer_named e.answer) → IsTrue (all_named before.entries) → IsTrue (all_named after.entries)
kept_named e (Ok u) before after ok err one h = with_one e before after ok one h
kept_named e (Err x) before after ok err one h = rw err h

found_named : (test : Entry → Bool) (es : List Entry) (e : Entry) → find test es ≡ Some e → IsTrue (all_named es) → IsTrue (answer_named e.answer)
found_named test [] e is h = absurd (cc is)
found_named test (x ∷ es) e is h = let both = and_parts (answer_named x.answer) (all_named es) h in by_test (test x) is both.0 (λ later. found_named test es e later both.1) where
  by_test : (b : Bool) → cond b (Some x) (find test es) ≡ Some e → IsTrue (answer_named x.answer) → (find test es ≡ Some e → IsTrue (answer_named e.answer)) → IsTrue (answer_named e.answer)
  by_test true is one later = let same : x ≡ e = cc is in subst (λ (y : Entry). IsTrue (answer_named y.answer)) same one
  by_test false is one later = later is

answer_is : (answer : Answer) (image : ImageData) → as_image answer ≡ Some image → IsTrue (answer_named answer) → IsTrue (is_named image)
answer_is (Image kept) image is h = let same : kept ≡ image = cc is in subst (λ d. IsTrue (is_named d)) same h
answer_is (Digest digest) image is h = absurd (cc is)
answer_is (Manifest document digest) image is h = absurd (cc is)
answer_is (Referrers index) image is h = absurd (cc is)

-- an image that is returned again
pub known_named : (key : List ℕ) (now : ℕ) (answers : Answers) (image : ImageData) → known images key now (Some answers) ≡ Some image → IsTrue (all_named answers.entries) → IsTrue (is_named image)
known_named key now answers image is h = by_find (find (is_of images.kind key) answers.entries) refl is where
  by_age : (e : Entry) (b : Bool) → IsTrue (answer_named e.answer) → option_and_then as_image (if b then Some e.answer else None) ≡ Some image → IsTrue (is_named image)
  by_age e true one at = answer_is e.answer image at one
  by_age e false one at = absurd (cc at)

  by_find : (o : Option Entry) → find (is_of images.kind key) answers.entries ≡ o → option_and_then as_image (option_and_then (given_at now) o) ≡ Some image → IsTrue (is_named image)
  by_find None found at = absurd (cc at)
  by_find (Some e) found at = by_age e (is_fresh now e.moment) (found_named (is_of images.kind key) answers.entries e found h) at
