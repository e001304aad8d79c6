-- Where credentials and tokens are sent in a review: for each image, to its own registry and the realm that it names.
use Rattle.std.specs.Prelude.{◌≡◌, ◌⊎◌, List, [], ◌∷◌, ◌++◌, Result, Ok, Err}
use Rattle.oci_names.specs.Reference.{reference_of}
use Rattle.oci_names.specs.declared.parse_error.ParseError.{ParseError}
use Rattle.oci_names.specs.declared.reference.Reference.{Reference}
use Rattle.oci_transport.specs.declared.message.Exchange.{Exchange}
use Rattle.registry_calls.specs.Clients.{Kept}
use Rattle.pull_admit.specs.Decided.{IsConfined, PullTerms}
use Rattle.pod_reviews.specs.declared.images.ReviewImage.{ReviewImage}

-- the exchanges of an image's part; without a reference there is none
abbrev pub ConfinedFor : {V : Type 0} {H : V → Type 0} → PullTerms V H → Result Reference ParseError → Kept
    → List Exchange → Kept → Type 0
ConfinedFor t (Ok image) k c l = IsConfined t image k c l
ConfinedFor t (Err e) k c l = ⊥

-- The exchanges are parts in the order of the images, each confined for the reference of its image. An image has no
-- part if its text is not a reference, or if memory ran out before its pull.
abbrev pub EachConfined : {V : Type 0} {H : V → Type 0} → PullTerms V H → List ReviewImage → Kept → List Exchange → Kept
    → Type 0
EachConfined t [] k c l = (c ≡ []) × (k ≡ l)
EachConfined t (x ∷ xs) k c l = EachConfined t xs k c l
    ⊎ ((first rest : List Exchange) × (between : Kept) × (c ≡ first ++ rest)
    × ConfinedFor t (reference_of x.image) k first between × EachConfined t xs between rest l)
