-- Which image of an index a platform resolver may select.
use Rattle.std.specs.Prelude.{◌≡◌, ℕ, Bool, false, ◌&&◌, List, Option, Some, None, bytes_eq}
use Rattle.std.specs.List.{find, list_any, Any as AnyOf}
use Rattle.std.specs.Option.{option_map_or}
use Rattle.oci_manifests.specs.declared.index_entry.ImageIndexEntry.{ImageIndexEntry}
use Rattle.oci_manifests.specs.declared.promise.ResolverPromise.{ResolverPromise}
use Rattle.oci_manifests.specs.declared.promise.ResolverPromise.TheVariants.{FirstMatch, Fixed, Any}
use Rattle.oci_manifests.specs.Resolvers.{is_for, first_for}

-- the promise allows this result for these entries
abbrev pub Promised : ResolverPromise → List ImageIndexEntry → Option (List ℕ) → Type 0
Promised (FirstMatch os architecture) entries answer = answer ≡ first_for os architecture entries
Promised (Fixed digest) entries answer = answer ≡ Some digest
Promised Any entries answer = Unit {0}

-- the result of a resolver that keeps this promise without external input
abbrev pub resolved : ResolverPromise → List ImageIndexEntry → Option (List ℕ)
resolved (FirstMatch os architecture) entries = first_for os architecture entries
resolved (Fixed digest) entries = Some digest
resolved Any entries = None

-- the promise allows this digest, and an entry has it
pub record Picks (promise : ResolverPromise) (entries : List ImageIndexEntry) (digest : List ℕ) : Type 0 where
  pub promised : Promised promise entries (Some digest)
  pub listed : AnyOf (λ entry. entry.digest ≡ digest) entries

-- ---- the same as a test

-- whether an entry has this digest
abbrev pub lists : List ℕ → List ImageIndexEntry → Bool
lists digest entries = list_any (λ entry. bytes_eq entry.digest digest) entries

abbrev pub picks : ResolverPromise → List ImageIndexEntry → List ℕ → Bool
picks (FirstMatch os architecture) entries digest =
    option_map_or (λ entry. bytes_eq entry.digest digest) (find (is_for os architecture) entries) false
picks (Fixed fixed) entries digest = bytes_eq fixed digest && lists digest entries
picks Any entries digest = lists digest entries
