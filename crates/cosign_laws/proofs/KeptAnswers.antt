-- Cached calls over a shelf: after them the client holds no cached response but those that the shelf returns, whichever
-- responses are lost.
use Rattle.std.specs.Prelude.{not, filter, option_map}
use Rattle.std.proofs.Common.{◌≡◌, ◌⊎◌, inl, inr, ℕ, Bool, true, false, List, [], ◌∷◌, ◌++◌, All, Option, Some, None, Result, Ok, Err, refl, sym, ap, subst, ◌∙◌}
use Rattle.std.proofs.lemmas.Bool.{cond_both}
use Rattle.std.proofs.lemmas.List.Elements.{All-tail, All-push, All-filter}
use Rattle.oci_names.proofs.ReadsBack.{reads_back-means}
use Rattle.oci_names.specs.Reference.{reads_back, whole_text, reference_of, repository_of}
use Rattle.oci_names.specs.declared.parse_error.ParseError.{ParseError}
use Rattle.oci_names.specs.declared.reference.Reference.{Reference}
use Rattle.oci_auth.specs.declared.auth.RegistryAuth.{RegistryAuth}
use Rattle.oci_auth.specs.declared.auth_state.AuthState.{AuthState}
use Rattle.oci_manifests.specs.declared.document.OciManifest.{OciManifest}
use Rattle.oci_manifests.specs.declared.index.OciImageIndex.{OciImageIndex}
use Rattle.oci_protocol.specs.Lift.{lifted}
use Rattle.oci_protocol.specs.Proto.{Proto, Done, bind, unless_refused, ◌>>◌}
use Rattle.oci_link.specs.Table.{answer}
use Rattle.oci_link.specs.declared.shelf.Shelf.{Shelf}
use Rattle.engine_rows.specs.declared.image.ImageData.{ImageData}
use Rattle.engine_terms.specs.Contexts.{within}
use Rattle.engine_terms.specs.declared.settings.Settings.{Settings}
use Rattle.shelf_laws.specs.EvaluatesWith.{EvaluatesWith, EvaluatesTo}
use Rattle.shelf_laws.specs.IsHosted.{IsAt, Settled}
use Rattle.shelf_laws.proofs.TableSteps.{EvaluatesWith-more}
use Rattle.registry_cache.specs.Keys.{manifest_key, pull_key, referrers_key}
use Rattle.registry_cache.proofs.Tells.{manifest_keys_tell, pull_keys_tell, referrers_keys_tell}
use Rattle.registry_cache.specs.Answers.{is_of, kind_of, keep, entry, within as in_bounds}
use Rattle.registry_cache.specs.Caching.{Cache, known}
use Rattle.registry_cache.specs.KeptCalls.{digests, manifests, images, referrers}
use Rattle.registry_cache.specs.declared.answers.Answers.{Answers}
use Rattle.registry_cache.specs.declared.answers.Bounds.{Bounds}
use Rattle.registry_cache.specs.declared.answers.Entry.{Entry}
use Rattle.registry_calls.specs.Caching.{keeping, known_or, recalled, cached}
use Rattle.registry_calls.specs.Calls.{digest_made, manifest_made, image_made, referrers_made, digest_call, manifest_call, image_call, referrers_call}
use Rattle.registry_calls.specs.Clients.{Kept, Plain}
use Rattle.registry_calls.specs.declared.error.SigstoreError.{SigstoreError}
use Rattle.cosign_laws.specs.Settled.{IsGiven, IsOf, IsAnswer, IsFromShelf, AreFromShelf}
use Rattle.shelf_laws.proofs.LostResponses.{Passes, Passes-more, Passes-bind, Passes-lifted, Stays, Comes, IsLost, Resilient}
use Rattle.shelf_laws.proofs.ShelfRows.{IsIn}

-- ---- texts of references

read_same : (x y : Reference) → ◌≡◌ {A = Result Reference ParseError} (Ok x) (Ok y) → x ≡ y
read_same x y is = cc

-- references that round-trip are determined by their texts
pub same_image : (x y : Reference) → reads_back x ≡ true → reads_back y ≡ true → whole_text x ≡ whole_text y → x ≡ y
same_image x y is also same = read_same x y (sym (reads_back-means x is) ∙ ap reference_of same ∙ reads_back-means y also)

-- ---- entries

bounded_all : (P : Entry → Type 0) (bounds : Option Bounds) (es : List Entry) → All P es → All P (in_bounds bounds es)
bounded_all P bounds [] all = all
bounded_all P bounds (e ∷ es) all = cond_both _ (e ∷ es) (in_bounds bounds es) (All P) (λ fits. all) (λ more. bounded_all P bounds es (All-tail P e es all))

module _ (s : Settings) (registry : List ℕ) (a : RegistryAuth) (shelf : Shelf) where
  abbrev R : Option Answers → Type 0
  R answers = AreFromShelf s registry a shelf answers

  abbrev Given : {A : Type 0} → (ℕ → Plain A) → A → Type 0
  Given call x = IsGiven registry a shelf call x

  pub kept_right : (e : Entry) (answers : Option Answers) → R answers → IsFromShelf s registry a shelf e → R (option_map (keep e) answers)
  kept_right e None are is = tt
  kept_right e (Some k) are is =
      let others : List Entry = filter (λ other. not (is_of (kind_of e.answer) e.key other)) k.entries in
      bounded_all (IsFromShelf s registry a shelf) k.bounds (others ++ e ∷ []) (All-push (IsFromShelf s registry a shelf) others e (All-filter (λ other. not (is_of (kind_of e.answer) e.key other)) (IsFromShelf s registry a shelf) k.entries are) is)

  -- ---- what is cached of the calls for a repository

  module _ (repository : List ℕ) where
    -- what the shelf returns to the call, if the repository is its own, may be cached under the key
    pub record Keeps {A : Type 0} (cache : Cache A) (key : List ℕ) (call : ℕ → Plain A) : Type 0 where
      pub keeps : (x : A) → (repository ≡ shelf.repository → Given call x) → IsAnswer s registry a shelf key (cache.kept_as x)

    module _ (image : Reference) (in_it : IsIn registry repository image) where
      own_shelf : (other : Reference) → image ≡ other → IsAt registry shelf other → repository ≡ shelf.repository
      own_shelf other own at = sym in_it.repository_is ∙ ap repository_of own ∙ at.repository_is

      pub digest_keeps : reads_back image ≡ true → Keeps digests (manifest_key image a) (λ m. digest_made (within s m) image a)
      digest_keeps reads = record {
        keeps = λ x given other is same.
            let own = same_image image other reads is.reads (sym ((manifest_keys_tell other image a a).0 same).0) in
            subst (λ (r : Reference). Given (λ m. digest_made (within s m) r a) x) own (given (own_shelf other own is.at));
      }

      pub manifest_keeps : reads_back image ≡ true → Keeps manifests (manifest_key image a) (λ m. manifest_made (within s m) image a)
      manifest_keeps reads = record {
        keeps = λ x given other is same.
            let own = same_image image other reads is.reads (sym ((manifest_keys_tell other image a a).0 same).0) in
            subst (λ (r : Reference). Given (λ m. manifest_made (within s m) r a) x) own (given (own_shelf other own is.at));
      }

      pub image_keeps : (accepted : List (List ℕ)) → reads_back image ≡ true → Keeps images (pull_key image a accepted) (λ m. image_made (within s m) image a accepted)
      image_keeps accepted reads = record {
        keeps = λ x given other kinds is same.
            let told = (pull_keys_tell other image a a kinds accepted).0 same in
            let own = same_image image other reads is.reads (sym told.0) in
            subst (λ (types : List (List ℕ)). Given (λ m. image_made (within s m) other a types) x) (sym told.2)
            (subst (λ (r : Reference). Given (λ m. image_made (within s m) r a accepted) x) own (given (own_shelf other own is.at)));
      }

      pub referrers_keep : (kind : Option (List ℕ)) → reads_back image ≡ true → Keeps referrers (referrers_key image a kind) (λ m. referrers_made (within s m) image a kind)
      referrers_keep kind reads = record {
        keeps = λ x given other type is same.
            let told = (referrers_keys_tell other image a a type kind).0 same in
            let own = same_image image other reads is.reads (sym told.0) in
            subst (λ (t : Option (List ℕ)). Given (λ m. referrers_made (within s m) other a t) x) (sym told.2)
            (subst (λ (r : Reference). Given (λ m. referrers_made (within s m) r a kind) x) own (given (own_shelf other own is.at)));
      }

    -- ---- the client states

    module _ (J : AuthState → Type 0) (settles : (k : AuthState) → J k → Settled registry repository a k) where
      abbrev I : Kept → Type 0
      I k = J k.0 × R k.1

      pub lifted_stays : {A : Type 0} {L : SigstoreError → Type 0} {p : Plain A} → Resilient J (answer shelf) L p → Stays I (answer shelf) (lifted p)
      lifted_stays {A} {L} {p} h = record {
        stays = λ k is. Passes-more (answer shelf) I (λ l r. (Comes (answer shelf) p k.0 l.0 r ⊎ IsLost L r) × (l.1 ≡ k.1)) (λ l r. Unit {0}) (lifted p) k
            (Passes-lifted (answer shelf) J R (λ l r. Comes (answer shelf) p k.0 l r ⊎ IsLost L r) p k.0 k.1 is.1 (h.passes k.0 is.0)) (λ l r found. tt);
      }

      module _ {A : Type 0} {cache : Cache A} {key : List ℕ} {call : ℕ → Plain A} {L : SigstoreError → Type 0} where
        -- the uncached call, whose response is then cached
        made_stays : Keeps cache key call → (now : ℕ) → Resilient J (answer shelf) L (call now) → (k : Kept) → I k → Passes (answer shelf) I (λ l r. Unit {0}) (known_or cache key now (call now) None) k
        unfolding Passes bind keeping
        made_stays keeps now h k is =
            Passes-bind (answer shelf) I (λ l r. (Comes (answer shelf) (call now) k.0 l.0 r ⊎ IsLost L r) × (l.1 ≡ k.1)) (λ l r. Unit {0}) (lifted (call now)) (unless_refused (λ x. keeping cache key now x >> Done (Ok x))) k
            (Passes-lifted (answer shelf) J R (λ l r. Comes (answer shelf) (call now) k.0 l r ⊎ IsLost L r) (call now) k.0 k.1 is.1 (h.passes k.0 is.0))
            by_result
          where
            given_by : (l : Kept) (x : A) → Comes (answer shelf) (call now) k.0 l.0 (Ok x) → repository ≡ shelf.repository → Given call x
            given_by l x comes own = record {
              moment = now;
              kept = k.0;
              settled = subst (λ (t : List ℕ). Settled registry t a k.0) own (settles k.0 is.0);
              comes = EvaluatesWith-more (answer shelf) (λ j r. (j ≡ l.0) × (r ≡ Ok x)) (λ j r. r ≡ Ok x) (call now) k.0 comes (λ j r both. both.1);
            }

            by_result : (l : Kept) (r : Result A SigstoreError) → I l → (Comes (answer shelf) (call now) k.0 l.0 r ⊎ IsLost L r) × (l.1 ≡ k.1) → Passes (answer shelf) I (λ l r. Unit {0}) (unless_refused (λ x. keeping cache key now x >> Done (Ok x)) r) l
            by_result l (Ok x) here (inl comes, same) = (here, ((here.0, kept_right (entry key now (cache.kept_as x)) l.1 here.1 (keeps.keeps x (given_by l x comes))), tt))
            by_result l (Ok x) here (inr wrong, same) = absurd wrong
            by_result l (Err e) here found = (here, tt)

        recalled_stays : Keeps cache key call → (now : ℕ) → Resilient J (answer shelf) L (call now) → Stays I (answer shelf) (recalled cache key now (call now))
        unfolding Passes recalled
        recalled_stays keeps now h = record { stays = λ k is. by_known k is (known cache key now k.1) } where
          by_known : (k : Kept) → I k → (o : Option A) → Passes (answer shelf) I (λ l r. Unit {0}) (known_or cache key now (call now) o) k
          by_known k is (Some x) = (is, tt)
          by_known k is None = made_stays keeps now h k is

        cached_stays : (b : Bool) → (b ≡ true → Keeps cache key call) → (now : ℕ) → Resilient J (answer shelf) L (call now) → Stays I (answer shelf) (cached b cache key now (call now))
        cached_stays true keeps now h = recalled_stays (keeps refl) now h
        cached_stays false keeps now h = lifted_stays h

      module _ {L : SigstoreError → Type 0} (image : Reference) (in_it : IsIn registry repository image) (now : ℕ) where
        pub digest_settled : Resilient J (answer shelf) L (digest_made (within s now) image a) → Stays I (answer shelf) (digest_call (within s now) image a)
        unfolding digest_call
        digest_settled h = cached_stays (reads_back image) (digest_keeps image in_it) now h

        pub manifest_settled : Resilient J (answer shelf) L (manifest_made (within s now) image a) → Stays I (answer shelf) (manifest_call (within s now) image a)
        unfolding manifest_call
        manifest_settled h = cached_stays (reads_back image) (manifest_keeps image in_it) now h

        pub image_settled : (accepted : List (List ℕ)) → Resilient J (answer shelf) L (image_made (within s now) image a accepted) → Stays I (answer shelf) (image_call (within s now) image a accepted)
        unfolding image_call
        image_settled accepted h = cached_stays (reads_back image) (image_keeps image in_it accepted) now h

        pub referrers_settled : (kind : Option (List ℕ)) → Resilient J (answer shelf) L (referrers_made (within s now) image a kind) → Stays I (answer shelf) (referrers_call (within s now) image a kind)
        unfolding referrers_call
        referrers_settled kind h = cached_stays (reads_back image) (referrers_keep image in_it kind) now h
