-- Over a registry in memory that has them with their signatures, images are allowed.
use Rattle.std.specs.Prelude.{◌≡◌, ℕ, List, [], ◌∷◌, Ok}
use Rattle.oci_names.specs.Reference.{reference_of, resolved_registry}
use Rattle.oci_names.specs.declared.reference.Reference.{Reference}
use Rattle.oci_auth.specs.declared.auth.RegistryAuth.{RegistryAuth}
use Rattle.oci_link.specs.declared.shelf.Shelf.{Shelf}
use Rattle.engine_terms.specs.declared.settings.Settings.{Settings}
use Rattle.registry_calls.specs.Clients.{Kept}
use Rattle.cosign_laws.specs.Settled.{IsSettled}
use Rattle.cosign_laws.specs.Shelves.{WideShelf}
use Rattle.pull_admit.specs.Decided.{PullTerms}
use Rattle.pull_admit.specs.Responses.{IsAllowed}
use Rattle.pull_admit.specs.declared.decision.Decision.{Decision}
use Rattle.pod_reviews.specs.declared.images.ReviewImage.{ReviewImage}

-- the image is at this registry, if its text is a reference
abbrev pub IsAtRegistry : List ℕ → ReviewImage → Type 0
IsAtRegistry registry x = (image : Reference) → reference_of x.image ≡ Ok image → resolved_registry image ≡ registry

-- the client is settled for each image of the registry, of whichever repository
abbrev pub SettledAt : Settings → List ℕ → RegistryAuth → Shelf → Kept → Type 0
SettledAt s registry a shelf k = (image : Reference) → resolved_registry image ≡ registry → IsSettled s image a shelf k

-- the image is allowed, if its text is a reference and the shelf has the image with a signature that the policy accepts
abbrev pub AllowedIfThere : {V : Type 0} {H : V → Type 0} → PullTerms V H → Shelf → ReviewImage → Decision → Type 0
AllowedIfThere t shelf x d = (image : Reference) → reference_of x.image ≡ Ok image
    → WideShelf t.policy_context t.context.settings image t.auth t.accepted shelf → IsAllowed d

abbrev pub EachAllowedIfThere : {V : Type 0} {H : V → Type 0} → PullTerms V H → Shelf → List ReviewImage → List Decision
    → Type 0
EachAllowedIfThere t shelf (x ∷ xs) (d ∷ ds) = AllowedIfThere t shelf x d × EachAllowedIfThere t shelf xs ds
EachAllowedIfThere t shelf [] [] = Unit {0}
EachAllowedIfThere t shelf _ _ = ⊥
