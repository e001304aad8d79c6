-- Which shelves give a verified image.
use Rattle.std.specs.Prelude.{ℕ, List}
use Rattle.oci_names.specs.Reference.{repository_of}
use Rattle.oci_names.specs.declared.reference.Reference.{Reference}
use Rattle.oci_auth.specs.declared.auth.RegistryAuth.{RegistryAuth}
use Rattle.oci_names.specs.declared.algorithm.Algorithm.{Algorithm}
use Rattle.oci_link.specs.declared.shelf.Shelf.{Shelf}
use Rattle.engine_terms.specs.declared.settings.Settings.{Settings}
use Rattle.cosign_parts.specs.Trust.{Trust}
use Rattle.cosign_layers.specs.Satisfying.{CustomVerdict, policy_context}
use Rattle.cosign_layers.specs.declared.policy.PullPolicy.{PullPolicy}
use Rattle.cosign_laws.specs.Shelves.{ValidShelf, WideShelf}
use Rattle.cosign_laws.specs.Small.{Packed, shelf_of, IsSmall}
use Rattle.valid_shelves.specs.Referred.{referred_shelf, IsReferred}

-- what is valid is wide
abbrev pub ValidShelvesAreWide : {V : Type 0} {H : V → Type 0} → PullPolicy V H → Type 0
ValidShelvesAreWide {V} {H} policy =
    (own : CustomVerdict V H) (trust : Trust) (s : Settings) (image : Reference) (a : RegistryAuth)
    (accepted : List (List ℕ)) (shelf : Shelf)
    → ValidShelf (policy_context policy own trust) s image a accepted shelf
    → WideShelf (policy_context policy own trust) s image a accepted shelf

-- the shelf of a small image and its signature is valid
abbrev pub SmallShelvesAreValid : {V : Type 0} {H : V → Type 0} → PullPolicy V H → Type 0
SmallShelvesAreValid {V} {H} policy =
    (own : CustomVerdict V H) (trust : Trust) (s : Settings) (image : Reference) (a : RegistryAuth)
    (accepted : List (List ℕ)) (tag : List ℕ) (packed signing : Packed)
    → IsSmall (policy_context policy own trust) s image a accepted tag packed signing
    → ValidShelf (policy_context policy own trust) s image a accepted
    (shelf_of (repository_of image) tag packed signing)

-- the shelf of an image and a bundle that refers to it is wide
abbrev pub ReferredShelvesAreWide : {V : Type 0} {H : V → Type 0} → PullPolicy V H → Type 0
ReferredShelvesAreWide {V} {H} policy =
    (own : CustomVerdict V H) (trust : Trust) (s : Settings) (image : Reference) (a : RegistryAuth)
    (accepted : List (List ℕ)) (algorithm : Algorithm) (tag first list : List ℕ) (packed bundles : Packed)
    → IsReferred (policy_context policy own trust) s image a accepted algorithm tag first list packed bundles
    → WideShelf (policy_context policy own trust) s image a accepted
    (referred_shelf (repository_of image) algorithm tag first list packed bundles)
