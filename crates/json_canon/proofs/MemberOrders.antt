-- Members in an order of their names, whatever their order in the input.
use Rattle.std.proofs.Common.{◌≡◌, ◌≢◌, ℕ, List, Ordering, Less, Equal, Greater, refl, ap, ◌∙◌}
use Rattle.std.specs.Cmp.{IsTotalOrder, alike_right}
use Rattle.std.specs.Ordering.{match_ordering, ordering_reverse}
use Rattle.serde_json.specs.Data.{Data, null, boolean, number, string, array, object, Items, no_items, item, Members, no_members, member}
use Rattle.serde_json.specs.Find.{as_integer}
use Rattle.json_canon.specs.AsMaps.{whole_or}

-- an order of names
abbrev pub Order : Type 0
Order = List ℕ → List ℕ → Ordering

-- the members with value d at name k
abbrev pub place : Order → List ℕ → Data → Members → Members
place R k d no_members = member k d no_members
place R k d (member l e ms) = match_ordering (R k l) (member k d (member l e ms)) (member l d ms) (member l e (place R k d ms))

abbrev mutual
  -- the value with the members of each object in this order
  pub arranged : Order → Data → Data
  arranged R null = null
  arranged R (boolean b) = boolean b
  arranged R (number n) = number (whole_or n (as_integer n))
  arranged R (string s) = string s
  arranged R (array ds) = array (arranged_items R ds)
  arranged R (object ms) = object (arranged_members R ms)

  pub arranged_items : Order → Items → Items
  arranged_items R no_items = no_items
  arranged_items R (item d ds) = item (arranged R d) (arranged_items R ds)

  pub arranged_members : Order → Members → Members
  arranged_members R no_members = no_members
  arranged_members R (member k d ms) = place R k (arranged R d) (arranged_members R ms)

module _ {R : Order} (total : IsTotalOrder R) where
  -- of three names, two compared to the third
  between_less : (k l m : List ℕ) → R k m ≡ Less → R l m ≡ Greater → R k l ≡ Less
  between_less k l m p q = total.trans k m l p (total.antisymm m l ∙ ap ordering_reverse q)

  between_greater : (k l m : List ℕ) → R k m ≡ Greater → R l m ≡ Less → R k l ≡ Greater
  between_greater k l m p q = total.antisymm k l ∙ ap ordering_reverse (between_less l k m q p)

  like_second : (k l m : List ℕ) (o : Ordering) → R l m ≡ Equal → R k m ≡ o → R k l ≡ o
  like_second k l m o p q = alike_right total l m k p ∙ q

  like_first : (k l m : List ℕ) (o : Ordering) → R k m ≡ Equal → R l m ≡ o → R k l ≡ ordering_reverse o
  like_first k l m o p q = total.congr k m l p ∙ total.antisymm m l ∙ ap ordering_reverse q

  turned : (k l : List ℕ) (o : Ordering) → R k l ≡ o → R l k ≡ ordering_reverse o
  turned k l o p = total.antisymm l k ∙ ap ordering_reverse p

  first_two : (k l : List ℕ) (d e : Data) (o : Ordering) → R k l ≡ o → R k l ≢ Equal → place R k d (member l e no_members) ≡ place R l e (member k d no_members)
  first_two k l d e Less p apart = rw (p, turned k l Less p)
  first_two k l d e Equal p apart = absurd (apart p)
  first_two k l d e Greater p apart = rw (p, turned k l Greater p)

  both_before : (k l m : List ℕ) (d e f : Data) (ms : Members) (o : Ordering) → R k l ≡ o → R k l ≢ Equal → R k m ≡ Less → R l m ≡ Less
      → place R k d (place R l e (member m f ms)) ≡ place R l e (place R k d (member m f ms))
  both_before k l m d e f ms Less p apart a b = rw (a, b, p, turned k l Less p)
  both_before k l m d e f ms Equal p apart a b = absurd (apart p)
  both_before k l m d e f ms Greater p apart a b = rw (a, b, p, turned k l Greater p, a)

  commute_at : (k l m : List ℕ) (d e f : Data) (ms : Members) (x y : Ordering) → R k l ≢ Equal → R k m ≡ x → R l m ≡ y
      → place R k d (place R l e ms) ≡ place R l e (place R k d ms)
      → place R k d (place R l e (member m f ms)) ≡ place R l e (place R k d (member m f ms))
  commute_at k l m d e f ms Less Less apart a b more = both_before k l m d e f ms _ refl apart a b
  commute_at k l m d e f ms Less Equal apart a b more = let p = like_second k l m Less b a in rw (b, a, turned k l Less p, b)
  commute_at k l m d e f ms Less Greater apart a b more = let p = between_less k l m a b in rw (b, a, turned k l Less p, b)
  commute_at k l m d e f ms Equal Less apart a b more = let p = like_first k l m Less a b in rw (a, b, p, a)
  commute_at k l m d e f ms Equal Equal apart a b more = absurd (apart (like_second k l m Equal b a))
  commute_at k l m d e f ms Equal Greater apart a b more = rw (a, b, a)
  commute_at k l m d e f ms Greater Less apart a b more = let p = between_greater k l m a b in rw (a, b, p, a)
  commute_at k l m d e f ms Greater Equal apart a b more = rw (a, b, a)
  commute_at k l m d e f ms Greater Greater apart a b more = rw (a, b, a, more)

  -- distinguished names may be inserted in either order
  pub commute : (k l : List ℕ) (d e : Data) (ms : Members) → R k l ≢ Equal → place R k d (place R l e ms) ≡ place R l e (place R k d ms)
  commute k l d e no_members apart = first_two k l d e _ refl apart
  commute k l d e (member m f ms) apart = commute_at k l m d e f ms _ _ apart refl refl (commute k l d e ms apart)
