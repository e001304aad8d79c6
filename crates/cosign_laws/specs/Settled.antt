-- What a client may hold before it calls a shelf, so that it gets what the shelf has.
use Rattle.std.specs.Prelude.{◌≡◌, true, ℕ, List, Option, Some, None, Ok, All}
use Rattle.oci_names.specs.declared.reference.Reference.{Reference}
use Rattle.oci_names.specs.Reference.{repository_of, resolved_registry, reads_back}
use Rattle.oci_auth.specs.declared.auth.RegistryAuth.{RegistryAuth}
use Rattle.oci_auth.specs.declared.auth_state.AuthState.{AuthState}
use Rattle.oci_link.specs.Table.{answer}
use Rattle.oci_link.specs.declared.shelf.Shelf.{Shelf}
use Rattle.engine_terms.specs.Contexts.{within}
use Rattle.engine_terms.specs.declared.settings.Settings.{Settings}
use Rattle.shelf_laws.specs.EvaluatesWith.{EvaluatesTo}
use Rattle.shelf_laws.specs.IsHosted.{IsAt, Settled}
use Rattle.registry_cache.specs.Keys.{manifest_key, pull_key, referrers_key}
use Rattle.registry_cache.specs.declared.answer.Answer.{Answer}
use Rattle.registry_cache.specs.declared.answer.Answer.TheVariants.{Digest, Manifest, Image, Referrers}
use Rattle.registry_cache.specs.declared.answers.Answers.{Answers}
use Rattle.registry_cache.specs.declared.answers.Entry.{Entry}
use Rattle.registry_calls.specs.Calls.{digest_made, manifest_made, image_made, referrers_made}
use Rattle.registry_calls.specs.Clients.{Kept, Plain}

-- at some moment the shelf returns this result to the call, if only these credentials and their tokens are kept
pub record IsGiven {A : Type 0} (registry : List ℕ) (a : RegistryAuth) (shelf : Shelf) (call : ℕ → Plain A) (given : A)
    : Type 0 where
  pub moment : ℕ
  pub kept : AuthState
  pub settled : Settled registry shelf.repository a kept
  pub comes : EvaluatesTo (answer shelf) (call moment) kept (Ok given)

-- the image is one of the shelf's at this registry, and its reference round-trips
pub record IsOf (registry : List ℕ) (shelf : Shelf) (image : Reference) : Type 0 where
  pub reads : reads_back image ≡ true
  pub at : IsAt registry shelf image

-- to each call of this key for an image of the shelf's, with these credentials, the shelf returns this response
abbrev pub IsAnswer : Settings → List ℕ → RegistryAuth → Shelf → List ℕ → Answer → Type 0
IsAnswer s registry a shelf key (Digest digest) =
    (image : Reference) → IsOf registry shelf image → manifest_key image a ≡ key
    → IsGiven registry a shelf (λ moment. digest_made (within s moment) image a) digest
IsAnswer s registry a shelf key (Manifest document digest) =
    (image : Reference) → IsOf registry shelf image → manifest_key image a ≡ key
    → IsGiven registry a shelf (λ moment. manifest_made (within s moment) image a) (document, digest)
IsAnswer s registry a shelf key (Image given) =
    (image : Reference) (accepted : List (List ℕ)) → IsOf registry shelf image → pull_key image a accepted ≡ key
    → IsGiven registry a shelf (λ moment. image_made (within s moment) image a accepted) given
IsAnswer s registry a shelf key (Referrers index) =
    (image : Reference) (kind : Option (List ℕ)) → IsOf registry shelf image → referrers_key image a kind ≡ key
    → IsGiven registry a shelf (λ moment. referrers_made (within s moment) image a kind) index

-- what is cached is what the shelf returns; a client without a cache satisfies it
abbrev pub IsFromShelf : Settings → List ℕ → RegistryAuth → Shelf → Entry → Type 0
IsFromShelf s registry a shelf e = IsAnswer s registry a shelf e.key e.answer

abbrev pub AreFromShelf : Settings → List ℕ → RegistryAuth → Shelf → Option Answers → Type 0
AreFromShelf s registry a shelf None = Unit {0}
AreFromShelf s registry a shelf (Some kept) = All (IsFromShelf s registry a shelf) kept.entries

-- A client that keeps no other credentials for the image's registry than these, no other token for its repository than
-- theirs, and for calls to this shelf with these credentials caches no responses but those that the shelf returns.
pub record IsSettled (s : Settings) (image : Reference) (a : RegistryAuth) (shelf : Shelf) (k : Kept) : Type 0 where
  pub memory : Settled (resolved_registry image) (repository_of image) a k.0
  pub answers : AreFromShelf s (resolved_registry image) a shelf k.1

-- A client that is settled with any settings, for every image, credentials and shelf: a new one, which keeps nothing.
abbrev pub IsSettledForAll : Kept → Type 0
IsSettledForAll k = (s : Settings) (image : Reference) (a : RegistryAuth) (shelf : Shelf) → IsSettled s image a shelf k

-- the client is settled for each image of this registry, of whichever repository, for which it was settled before
abbrev pub StaysSettled : Settings → List ℕ → RegistryAuth → Shelf → Kept → Kept → Type 0
StaysSettled s registry a shelf before after = (image : Reference) → resolved_registry image ≡ registry
    → IsSettled s image a shelf before → IsSettled s image a shelf after
