-- Cached calls over a shelf return what it returns to the uncached ones.
use Rattle.std.specs.Prelude.{bytes_eq, find, option_and_then, if◌then◌else◌}
use Rattle.std.proofs.Common.{◌≡◌, ℕ, Bool, true, false, cond, ◌&&◌, List, [], ◌∷◌, All, Option, Some, None, Result, Ok, Err, refl, sym, subst}
use Rattle.std.proofs.lemmas.List.Elements.{All-nil, All-head, All-tail}
use Rattle.std.proofs.lemmas.Slice.Eq.{bytes_eq-Decides}
use Rattle.oci_names.specs.Reference.{reads_back, resolved_registry, repository_of}
use Rattle.oci_names.specs.declared.reference.Reference.{Reference}
use Rattle.oci_auth.specs.declared.auth.RegistryAuth.{RegistryAuth}
use Rattle.oci_auth.specs.AuthState.{fresh as new}
use Rattle.oci_auth.specs.declared.auth_state.AuthState.{AuthState}
use Rattle.oci_manifests.specs.declared.document.OciManifest.{OciManifest}
use Rattle.oci_manifests.specs.declared.index.OciImageIndex.{OciImageIndex}
use Rattle.oci_protocol.specs.Lift.{lifted}
use Rattle.oci_protocol.specs.Proto.{Done, bind, unless_refused, ◌>>◌}
use Rattle.oci_link.specs.Table.{answer}
use Rattle.oci_link.specs.declared.shelf.Shelf.{Shelf}
use Rattle.engine_rows.specs.declared.image.ImageData.{ImageData}
use Rattle.engine_terms.specs.Contexts.{within}
use Rattle.engine_terms.specs.declared.settings.Settings.{Settings}
use Rattle.shelf_laws.specs.EvaluatesWith.{EvaluatesWith, EvaluatesTo, Yields, AlwaysOk}
use Rattle.shelf_laws.specs.IsHosted.{IsAt, Settled}
use Rattle.shelf_laws.proofs.TableSteps.{EvaluatesWith-bind}
use Rattle.shelf_laws.proofs.Tokens.{fresh_settled}
use Rattle.shelf_laws.proofs.WiderRows.{EvaluatesWith-lifted, EvaluatesWith-itself, EvaluatesTo-is, AlwaysOk-lifted}
use Rattle.registry_cache.specs.Keys.{manifest_key, pull_key, referrers_key}
use Rattle.registry_cache.specs.Answers.{is_of, is_fresh, same_kind, kind_of, given_at, entry}
use Rattle.registry_cache.specs.declared.answer.Answer.{Answer}
use Rattle.registry_cache.specs.declared.answer.Answer.TheVariants.{Digest, Manifest, Image, Referrers}
use Rattle.registry_cache.specs.declared.answers.Answers.{Answers}
use Rattle.registry_cache.specs.declared.answers.Entry.{Entry}
use Rattle.registry_calls.specs.Caching.{keeping, known_or, recalled, cached}
use Rattle.registry_cache.specs.Caching.{Cache, known}
use Rattle.registry_calls.specs.Calls.{digest_made, manifest_made, image_made, referrers_made, digest_call, manifest_call, image_call, referrers_call}
use Rattle.registry_cache.specs.KeptCalls.{digests, manifests, images, referrers}
use Rattle.registry_calls.specs.Clients.{Kept, Plain}
use Rattle.registry_calls.specs.declared.error.SigstoreError.{SigstoreError}
use Rattle.registry_calls.specs.Clients.{no_answers}
use Rattle.cosign_laws.specs.Settled.{IsGiven, IsOf, IsAnswer, IsFromShelf, AreFromShelf, IsSettled}
use Rattle.cosign_laws.proofs.KeptAnswers.{kept_right, digest_keeps, manifest_keeps, image_keeps, referrers_keep}
use Rattle.shelf_laws.proofs.ShelfRows.{IsIn}

-- ---- entries

and_right : (a b : Bool) → (a && b) ≡ true → b ≡ true
and_right true b h = h
and_right false b h = cc h

found_all : (P : Entry → Type 0) (p : Entry → Bool) (es : List Entry) (e : Entry) → All P es → find p es ≡ Some e → P e × (p e ≡ true)
found_all P p [] e all is = cc
found_all P p (x ∷ es) e all is = by_test (p x) refl is (found_all P p es e (All-tail P x es all)) where
  by_test : (b : Bool) → p x ≡ b → cond b (Some x) (find p es) ≡ Some e → (find p es ≡ Some e → P e × (p e ≡ true)) → P e × (p e ≡ true)
  by_test true passes here later = let same : x ≡ e = cc here in subst (λ (y : Entry). P y × (p y ≡ true)) same (All-head P x es all, passes)
  by_test false fails there later = later there

module _ (s : Settings) (registry : List ℕ) (a : RegistryAuth) (shelf : Shelf) where
  abbrev J : AuthState → Type 0
  J k = Settled registry shelf.repository a k

  abbrev R : Option Answers → Type 0
  R answers = AreFromShelf s registry a shelf answers

  abbrev I : Kept → Type 0
  I k = J k.0 × R k.1

  abbrev Given : {A : Type 0} → (ℕ → Plain A) → A → Type 0
  Given call x = IsGiven registry a shelf call x

  -- the cached responses of a call are its responses
  record Caches {A : Type 0} (cache : Cache A) (key : List ℕ) (call : ℕ → Plain A) : Type 0 where
    knows : (o : Answer) (x : A) → IsAnswer s registry a shelf key o → cache.read o ≡ Some x → Given call x
    keeps : (x : A) → Given call x → IsAnswer s registry a shelf key (cache.kept_as x)

  module _ {A : Type 0} {cache : Cache A} {key : List ℕ} {call : ℕ → Plain A} (caches : Caches cache key call) (now : ℕ) where
    -- a known response is what the shelf returns
    known_given : (answers : Option Answers) (x : A) → R answers → known cache key now answers ≡ Some x → Given call x
    known_given None x are is = cc
    known_given (Some k) x are is = by_found (find (is_of cache.kind key) k.entries) refl is where
      by_moment : (e : Entry) (b : Bool) → find (is_of cache.kind key) k.entries ≡ Some e → option_and_then cache.read (if b then Some e.answer else None) ≡ Some x → Given call x
      by_moment e true there read =
          let found = found_all (IsFromShelf s registry a shelf) (is_of cache.kind key) k.entries e are there in
          let own : e.key ≡ key = (bytes_eq-Decides e.key key).0 (and_right (same_kind (kind_of e.answer) cache.kind) (bytes_eq e.key key) found.1) in
          caches.knows e.answer x (subst (λ (t : List ℕ). IsAnswer s registry a shelf t e.answer) own found.0) read
      by_moment e false there read = cc read

      by_found : (o : Option Entry) → find (is_of cache.kind key) k.entries ≡ o → option_and_then cache.read (option_and_then (given_at now) o) ≡ Some x → Given call x
      by_found None there read = cc read
      by_found (Some e) there read = by_moment e (is_fresh now e.moment) there read

    -- the uncached call, whose response is then cached
    asked_comes : (Q : Result A SigstoreError → Type 0) (k : Kept) → I k → EvaluatesWith (answer shelf) (λ l r. J l × Q r) (call now) k.0 → EvaluatesWith (answer shelf) (λ l r. I l × Q r) (known_or cache key now (call now) None) k
    unfolding EvaluatesWith bind keeping
    asked_comes Q k is h =
        EvaluatesWith-bind (answer shelf) (λ (l : Kept) r. ((J l.0 × Q r) × EvaluatesTo (answer shelf) (call now) k.0 r) × (l.1 ≡ k.1)) (λ l r. I l × Q r) (lifted (call now)) (unless_refused (λ x. keeping cache key now x >> Done (Ok x))) k
        (EvaluatesWith-lifted (answer shelf) (λ l r. (J l × Q r) × EvaluatesTo (answer shelf) (call now) k.0 r) (call now) k.0 k.1 (EvaluatesWith-itself (answer shelf) (λ l r. J l × Q r) (call now) k.0 h))
        by_result
      where
        by_result : (l : Kept) (r : Result A SigstoreError) → ((J l.0 × Q r) × EvaluatesTo (answer shelf) (call now) k.0 r) × (l.1 ≡ k.1) → EvaluatesWith (answer shelf) (λ l r. I l × Q r) (unless_refused (λ x. keeping cache key now x >> Done (Ok x)) r) l
        by_result l (Ok x) ((found, comes), same) =
            let given : Given call x = record { moment = now; kept = k.0; settled = is.0; comes = comes } in
            ((found.0, kept_right s registry a shelf (entry key now (cache.kept_as x)) l.1 (subst R (sym same) is.1) (caches.keeps x given)), found.1)
        by_result l (Err e) ((found, comes), same) = ((found.0, subst R (sym same) is.1), found.1)

    recalled_comes : (Q : Result A SigstoreError → Type 0) (k : Kept) → I k → ((x : A) → Given call x → Q (Ok x)) → EvaluatesWith (answer shelf) (λ l r. J l × Q r) (call now) k.0 → EvaluatesWith (answer shelf) (λ l r. I l × Q r) (recalled cache key now (call now)) k
    unfolding EvaluatesWith recalled
    recalled_comes Q k is each h = by_known (known cache key now k.1) refl where
      by_known : (o : Option A) → known cache key now k.1 ≡ o → EvaluatesWith (answer shelf) (λ l r. I l × Q r) (known_or cache key now (call now) o) k
      by_known (Some x) there = (is, each x (known_given k.1 x is.1 there))
      by_known None there = asked_comes Q k is h

    given_is : {P : A → Type 0} → ((m : ℕ) → AlwaysOk J (answer shelf) P (call m)) → (x : A) → Given call x → P x
    given_is {P} h x g = EvaluatesTo-is (answer shelf) (λ l r. J l × Yields P r) (call g.moment) g.kept (Ok x) (Yields P) (λ l r both. both.1) ((h g.moment).gives g.kept g.settled) g.comes

    recalled_gives : {P : A → Type 0} → ((m : ℕ) → AlwaysOk J (answer shelf) P (call m)) → AlwaysOk I (answer shelf) P (recalled cache key now (call now))
    recalled_gives {P} h = record { gives = λ k is. recalled_comes (Yields P) k is (given_is h) ((h now).gives k.0 is.0) }

  module _ {A : Type 0} {cache : Cache A} {key : List ℕ} {call : ℕ → Plain A} where
    cached_gives : {P : A → Type 0} (b : Bool) → (b ≡ true → Caches cache key call) → (now : ℕ) → ((m : ℕ) → AlwaysOk J (answer shelf) P (call m)) → AlwaysOk I (answer shelf) P (cached b cache key now (call now))
    cached_gives true caches now h = recalled_gives (caches refl) now h
    cached_gives false caches now h = AlwaysOk-lifted R (h now)

  -- ---- the four calls

  module _ (image : Reference) (at : IsAt registry shelf image) where
    in_it : IsIn registry shelf.repository image
    in_it = record { registry_is = at.registry_is; repository_is = at.repository_is; no_mirror = at.no_mirror }

    of_image : reads_back image ≡ true → IsOf registry shelf image
    of_image reads = record { reads = reads; at = at }

    digest_caches : reads_back image ≡ true → Caches digests (manifest_key image a) (λ m. digest_made (within s m) image a)
    digest_caches reads = record {
      knows = knows;
      keeps = λ x given. (digest_keeps s registry a shelf shelf.repository image in_it reads).keeps x (λ own. given);
    } where
      knows : (o : Answer) (x : List ℕ) → IsAnswer s registry a shelf (manifest_key image a) o → digests.read o ≡ Some x → Given (λ m. digest_made (within s m) image a) x
      knows (Digest digest) x is read = let same : digest ≡ x = cc read in subst (Given (λ m. digest_made (within s m) image a)) same (is image (of_image reads) refl)
      knows (Manifest document digest) x is read = cc read
      knows (Image given) x is read = cc read
      knows (Referrers index) x is read = cc read

    manifest_caches : reads_back image ≡ true → Caches manifests (manifest_key image a) (λ m. manifest_made (within s m) image a)
    manifest_caches reads = record {
      knows = knows;
      keeps = λ x given. (manifest_keeps s registry a shelf shelf.repository image in_it reads).keeps x (λ own. given);
    } where
      knows : (o : Answer) (x : OciManifest × List ℕ) → IsAnswer s registry a shelf (manifest_key image a) o → manifests.read o ≡ Some x → Given (λ m. manifest_made (within s m) image a) x
      knows (Manifest document digest) x is read = let same : (document, digest) ≡ x = cc read in subst (Given (λ m. manifest_made (within s m) image a)) same (is image (of_image reads) refl)
      knows (Digest digest) x is read = cc read
      knows (Image given) x is read = cc read
      knows (Referrers index) x is read = cc read

    image_caches : (accepted : List (List ℕ)) → reads_back image ≡ true → Caches images (pull_key image a accepted) (λ m. image_made (within s m) image a accepted)
    image_caches accepted reads = record {
      knows = knows;
      keeps = λ x given. (image_keeps s registry a shelf shelf.repository image in_it accepted reads).keeps x (λ own. given);
    } where
      knows : (o : Answer) (x : ImageData) → IsAnswer s registry a shelf (pull_key image a accepted) o → images.read o ≡ Some x → Given (λ m. image_made (within s m) image a accepted) x
      knows (Image given) x is read = let same : given ≡ x = cc read in subst (Given (λ m. image_made (within s m) image a accepted)) same (is image accepted (of_image reads) refl)
      knows (Digest digest) x is read = cc read
      knows (Manifest document digest) x is read = cc read
      knows (Referrers index) x is read = cc read

    referrers_caches : (kind : Option (List ℕ)) → reads_back image ≡ true → Caches referrers (referrers_key image a kind) (λ m. referrers_made (within s m) image a kind)
    referrers_caches kind reads = record {
      knows = knows;
      keeps = λ x given. (referrers_keep s registry a shelf shelf.repository image in_it kind reads).keeps x (λ own. given);
    } where
      knows : (o : Answer) (x : OciImageIndex) → IsAnswer s registry a shelf (referrers_key image a kind) o → referrers.read o ≡ Some x → Given (λ m. referrers_made (within s m) image a kind) x
      knows (Referrers index) x is read = let same : index ≡ x = cc read in subst (Given (λ m. referrers_made (within s m) image a kind)) same (is image kind (of_image reads) refl)
      knows (Digest digest) x is read = cc read
      knows (Manifest document digest) x is read = cc read
      knows (Image given) x is read = cc read

    -- a call that returns this at each moment does so with a cache too
    pub digest_given : {P : List ℕ → Type 0} (now : ℕ) → ((m : ℕ) → AlwaysOk J (answer shelf) P (digest_made (within s m) image a)) → AlwaysOk I (answer shelf) P (digest_call (within s now) image a)
    unfolding digest_call
    digest_given now h = cached_gives (reads_back image) digest_caches now h

    pub manifest_given : {P : OciManifest × List ℕ → Type 0} (now : ℕ) → ((m : ℕ) → AlwaysOk J (answer shelf) P (manifest_made (within s m) image a)) → AlwaysOk I (answer shelf) P (manifest_call (within s now) image a)
    unfolding manifest_call
    manifest_given now h = cached_gives (reads_back image) manifest_caches now h

    pub image_given : {P : ImageData → Type 0} (accepted : List (List ℕ)) (now : ℕ) → ((m : ℕ) → AlwaysOk J (answer shelf) P (image_made (within s m) image a accepted)) → AlwaysOk I (answer shelf) P (image_call (within s now) image a accepted)
    unfolding image_call
    image_given accepted now h = cached_gives (reads_back image) (image_caches accepted) now h

    pub referrers_given : {P : OciImageIndex → Type 0} (kind : Option (List ℕ)) (now : ℕ) → ((m : ℕ) → AlwaysOk J (answer shelf) P (referrers_made (within s m) image a kind)) → AlwaysOk I (answer shelf) P (referrers_call (within s now) image a kind)
    unfolding referrers_call
    referrers_given kind now h = cached_gives (reads_back image) (referrers_caches kind) now h

-- a client that keeps nothing yet is settled
pub new_settled : (s : Settings) (image : Reference) (a : RegistryAuth) (shelf : Shelf) (default : ℕ) (caching : Bool) → IsSettled s image a shelf (new default, no_answers caching)
new_settled s image a shelf default true = record { memory = fresh_settled (resolved_registry image) (repository_of image) a default; answers = All-nil (IsFromShelf s (resolved_registry image) a shelf) }
new_settled s image a shelf default false = record { memory = fresh_settled (resolved_registry image) (repository_of image) a default; answers = tt }
