-- The entry of an index that a promise picks.
use Rattle.std.proofs.Common.{◌≡◌, ◌&&◌, ℕ, Bool, true, false, List, bytes_eq, Option, Some, None, Result, Ok, Err, option_map, refl, sym, ap, subst, ◌∙◌}
use Rattle.std.specs.Prelude.{if◌then◌else◌, find}
use Rattle.std.specs.Option.{option_map_or}
use Rattle.std.proofs.lemmas.Slice.Eq.{bytes_eq-Decides}
use Rattle.oci_manifests.specs.declared.index_entry.ImageIndexEntry.{ImageIndexEntry}
use Rattle.oci_manifests.specs.Promise.{Picks, lists, picks, resolved}
use Rattle.oci_manifests.specs.Resolvers.{is_for}
use Rattle.oci_manifests.specs.declared.promise.ResolverPromise.{ResolverPromise}
use Rattle.oci_manifests.specs.declared.promise.ResolverPromise.TheVariants.{FirstMatch, Fixed, Any}
use Rattle.oci_manifests.proofs.ExactPicks.{picked}
use Rattle.engine_terms.specs.declared.error.OciDistributionError.{OciDistributionError}
use Rattle.engine_terms.specs.declared.error.OciDistributionError.TheVariants as refusal
use Rattle.engine_answers.specs.Index.{entry_named, entry_found}

some_same : {A : Type 0} (a b : A) → (let o : Option A = Some a in o) ≡ Some b → a ≡ b
some_same a b is = cc is

none_some : {A P : Type 0} (a : A) → (let o : Option A = None in o) ≡ Some a → P
none_some a is = absurd (cc is)

-- a returned digest that an entry has
named : (entries : List ImageIndexEntry) (o : Option (List ℕ)) (entry : List ℕ) → entry_named entries o ≡ Ok entry → (o ≡ Some entry) × (lists entry entries ≡ true)
named entries None entry is = absurd (cc is)
named entries (Some digest) entry is = by_test (lists digest entries) refl is where
  by_test : (b : Bool) → lists digest entries ≡ b → (if b then Ok digest else Err (refusal.ImageManifestNotFoundError digest)) ≡ Ok entry → (Some digest ≡ Some entry) × (lists entry entries ≡ true)
  by_test true listed h = let same : digest ≡ entry = cc h in (ap Some same, subst (λ d. lists d entries ≡ true) same listed)
  by_test false listed h = absurd (cc h)

first_is : (d : List ℕ) (o : Option ImageIndexEntry) → option_map (λ entry. entry.digest) o ≡ Some d → option_map_or (λ entry. bytes_eq entry.digest d) o false ≡ true
first_is d None is = none_some d is
first_is d (Some e) is = (bytes_eq-Decides e.digest d).1 (some_same e.digest d is)

and : (a b : Bool) → a ≡ true → b ≡ true → (a && b) ≡ true
and true b h i = i
and false b h i = absurd (cc h)

tested : (promise : ResolverPromise) (entries : List ImageIndexEntry) (d : List ℕ) → resolved promise entries ≡ Some d → lists d entries ≡ true → picks promise entries d ≡ true
tested (FirstMatch os architecture) entries d is listed = first_is d (find (is_for os architecture) entries) is
tested (Fixed fixed) entries d is listed = and (bytes_eq fixed d) (lists d entries) ((bytes_eq-Decides fixed d).1 (some_same fixed d is)) listed
tested Any entries d is listed = none_some d is

-- the promise picks the entry that was found
pub found_picked : (promise : ResolverPromise) (entries : List ImageIndexEntry) (entry : List ℕ) → entry_found (Some promise) entries ≡ Ok entry → Picks promise entries entry
found_picked promise entries entry is =
    let n = named entries (resolved promise entries) entry is in
    (picked promise entries entry (picks promise entries entry) refl).0 (tested promise entries entry n.0 n.1)
