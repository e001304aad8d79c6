-- The test of a promised choice is exact.
use Rattle.std.proofs.Common.{◌≡◌, ◌↔◌, ◌||◌, ◌&&◌, ℕ, Bool, true, false, IsTrue, cond, List, [], ◌∷◌, bytes_eq, Option, Some, None, option_map, refl, sym, ap}
use Rattle.std.specs.Bool.{Decides}
use Rattle.std.specs.List.{find, Any as AnyOf}
use Rattle.std.specs.Option.{option_map_or}
use Rattle.std.proofs.lemmas.List.Folds.{Any-from_list_any, list_any-from_Any}
use Rattle.std.proofs.lemmas.Slice.Eq.{bytes_eq-Decides}
use Rattle.oci_manifests.specs.declared.index_entry.ImageIndexEntry.{ImageIndexEntry}
use Rattle.oci_manifests.specs.declared.promise.ResolverPromise.{ResolverPromise}
use Rattle.oci_manifests.specs.declared.promise.ResolverPromise.TheVariants.{FirstMatch, Fixed, Any}
use Rattle.oci_manifests.specs.Promise.{Picks, lists, picks}
use Rattle.oci_manifests.specs.Resolvers.{is_for}

listed : (d : List ℕ) (entries : List ImageIndexEntry) → lists d entries ≡ true
    → AnyOf (λ entry. entry.digest ≡ d) entries
listed d entries h = let a = Any-from_list_any (λ entry. bytes_eq entry.digest d) entries h in
    (a.0, a.1, a.2, a.3, (bytes_eq-Decides a.1.digest d).0 a.4)

lists_it : (d : List ℕ) (entries : List ImageIndexEntry) → AnyOf (λ entry. entry.digest ≡ d) entries
    → lists d entries ≡ true
lists_it d entries a = list_any-from_Any (λ entry. bytes_eq entry.digest d) entries
    (a.0, a.1, a.2, a.3, (bytes_eq-Decides a.1.digest d).1 a.4)

or_left : (a b : Bool) → a ≡ true → (a || b) ≡ true
or_left true b h = refl
or_left false b h = absurd (cc h)

or_right : (a b : Bool) → b ≡ true → (a || b) ≡ true
or_right true b h = refl
or_right false b h = h

here : (f : ImageIndexEntry → Bool) (e : ImageIndexEntry) (o : Option ImageIndexEntry) (b rest : Bool)
    → (option_map_or f o false ≡ true → rest ≡ true) → option_map_or f (cond b (Some e) o) false ≡ true
    → (f e || rest) ≡ true
here f e o true rest later h = or_left (f e) rest h
here f e o false rest later h = or_right (f e) rest (later h)

first_listed : (os architecture d : List ℕ) (entries : List ImageIndexEntry)
    → option_map_or (λ entry. bytes_eq entry.digest d) (find (is_for os architecture) entries) false ≡ true
    → lists d entries ≡ true
first_listed os architecture d [] h = h
first_listed os architecture d (e ∷ es) h =
    here (λ entry. bytes_eq entry.digest d) e (find (is_for os architecture) es) (is_for os architecture e)
    (lists d es) (first_listed os architecture d es) h

digest_is : (d : List ℕ) (o : Option ImageIndexEntry) → option_map_or (λ entry. bytes_eq entry.digest d) o false ≡ true
    → Some d ≡ option_map (λ entry. entry.digest) o
digest_is d None h = absurd (cc h)
digest_is d (Some e) h = ap Some (sym ((bytes_eq-Decides e.digest d).0 h))

some_same : {A : Type 0} (a b : A) → (let o : Option A = Some a in o) ≡ Some b → a ≡ b
some_same a b is = cc is

is_digest : (d : List ℕ) (o : Option ImageIndexEntry) → Some d ≡ option_map (λ entry. entry.digest) o
    → option_map_or (λ entry. bytes_eq entry.digest d) o false ≡ true
is_digest d None h = absurd (cc h)
is_digest d (Some e) h = (bytes_eq-Decides e.digest d).1 (sym (some_same d e.digest h))

both : (a b : Bool) → (a && b) ≡ true → (a ≡ true) × (b ≡ true)
both true b h = (refl, h)
both false b h = absurd (cc h)

and : (a b : Bool) → a ≡ true → b ≡ true → (a && b) ≡ true
and true b h i = i
and false b h i = absurd (cc h)

decides : (promise : ResolverPromise) (entries : List ImageIndexEntry) (d : List ℕ)
    → Decides (picks promise entries d) (Picks promise entries d)
decides (FirstMatch os architecture) entries d = (
  λ h. record {
    promised = digest_is d (find (is_for os architecture) entries) h;
    listed = listed d entries (first_listed os architecture d entries h);
  },
  λ p. is_digest d (find (is_for os architecture) entries) p.promised,
)
decides (Fixed fixed) entries d = (
  λ h. let parts = both (bytes_eq fixed d) (lists d entries) h in record {
    promised = ap Some (sym ((bytes_eq-Decides fixed d).0 parts.0));
    listed = listed d entries parts.1;
  },
  λ p. and (bytes_eq fixed d) (lists d entries) ((bytes_eq-Decides fixed d).1 (sym (some_same d fixed p.promised)))
      (lists_it d entries p.listed),
)
decides Any entries d = (λ h. record { promised = tt; listed = listed d entries h }, λ p. lists_it d entries p.listed)

pub picked : (promise : ResolverPromise) (entries : List ImageIndexEntry) (d : List ℕ) (b : Bool)
    → b ≡ picks promise entries d → IsTrue b ↔ Picks promise entries d
picked promise entries d b is = rw is (decides promise entries d)
