-- A value and its objects as maps, in any order.
use Rattle.std.proofs.Common.{◌≡◌, ◌≢◌, ℕ, List, Ordering, Less, Equal, Greater, refl, sym, ap, ◌∙◌, pos, negsuc, IsUtf8}
use Rattle.std.specs.Cmp.{IsTotalOrder, tied_back}
use Rattle.std.specs.Cmp.Lexicographic.{slice_cmp, nat_list_cmp_total}
use Rattle.std.specs.FinMap.{slice_cmp-IsAntisymmetric, nat_cmp-IsAntisymmetric}
use Rattle.std.specs.Ordering.{nat_cmp, match_ordering}
use Rattle.std.specs.Prelude.{⊤}
use Rattle.std.proofs.lemmas.Cmp.{on_total}
use Rattle.serde_json.specs.Data.{Num, unsigned, negative, float, Data, null, boolean, number, string, array, object, Items, no_items, item, Members, no_members, member, put}
use Rattle.serde_json.specs.Find.{as_integer}
use Rattle.json_values.specs.Places.{by_bytes}
use Rattle.json_events.specs.Units.{units, by_units}
use Rattle.json_events.specs.Values.{IsValue, AreValues, AreMembers, IsOther}
use Rattle.json_events.proofs.Utf16.{same_units}
use Rattle.json_canon.specs.AsMaps.{whole_or, put_all, as_maps, items_as_maps, members_as_maps}
use Rattle.json_canon.proofs.MemberOrders.{Order, place, arranged, arranged_items, arranged_members, commute}

-- names that both orders distinguish
abbrev pub Told : List ℕ → List ℕ → Type 0
Told k l = (by_bytes k l ≢ Equal) × (by_units k l ≢ Equal)

abbrev pub Apart : List ℕ → Members → Type 0
Apart k no_members = ⊤
Apart k (member l e ms) = Told k l × Apart k ms

abbrev mutual
  -- both orders distinguish the names of each object
  pub AreApart : Data → Type 0
  AreApart null = ⊤
  AreApart (boolean b) = ⊤
  AreApart (number n) = ⊤
  AreApart (string s) = ⊤
  AreApart (array ds) = ItemsApart ds
  AreApart (object ms) = MembersApart ms

  pub ItemsApart : Items → Type 0
  ItemsApart no_items = ⊤
  ItemsApart (item d ds) = AreApart d × ItemsApart ds

  pub MembersApart : Members → Type 0
  MembersApart no_members = ⊤
  MembersApart (member k d ms) = Apart k ms × AreApart d × MembersApart ms

-- an order that distinguishes them
pub record IsTelling (R : Order) : Type 0 where
  pub total : IsTotalOrder R
  pub tells : (k l : List ℕ) → Told k l → R k l ≢ Equal

pub by_bytes_tells : IsTelling by_bytes
by_bytes_tells = record { total = nat_list_cmp_total; tells = λ k l told. told.0 }

pub by_units_total : IsTotalOrder by_units
by_units_total = on_total units nat_list_cmp_total

pub by_units_tells : IsTelling by_units
by_units_tells = record { total = by_units_total; tells = λ k l told. told.1 }

told_back : (k l : List ℕ) → Told k l → Told l k
told_back k l told = (λ e. told.0 (tied_back nat_list_cmp_total l k e), λ e. told.1 (tied_back by_units_total l k e))

same_bytes : (k l : List ℕ) → by_bytes k l ≡ Equal → k ≡ l
same_bytes = slice_cmp-IsAntisymmetric nat_cmp-IsAntisymmetric

told_names : (k l : List ℕ) → IsUtf8 k → IsUtf8 l → k ≢ l → Told k l
told_names k l text other apart = (λ e. apart (same_bytes k l e), λ e. apart (same_units k l text other (same_bytes (units k) (units l) e)))

apart_names : (k : List ℕ) (ms : Members) → IsUtf8 k → IsOther k ms → AreMembers ms → Apart k ms
apart_names k no_members text other are = tt
apart_names k (member l e ms) text other are = (told_names k l text are.0 other.0, apart_names k ms text other.1 are.3)

mutual
  pub value_apart : (d : Data) → IsValue d → AreApart d
  value_apart null v = tt
  value_apart (boolean b) v = tt
  value_apart (number n) v = tt
  value_apart (string s) v = tt
  value_apart (array ds) v = values_apart ds v
  value_apart (object ms) v = members_apart ms v

  values_apart : (ds : Items) → AreValues ds → ItemsApart ds
  values_apart no_items v = tt
  values_apart (item d ds) v = (value_apart d v.0, values_apart ds v.1)

  members_apart : (ms : Members) → AreMembers ms → MembersApart ms
  members_apart no_members v = tt
  members_apart (member k d ms) v = (apart_names k ms v.0 v.1 v.3, value_apart d v.2, members_apart ms v.3)

module _ (S : Order) where
  apart_place_at : (o : Ordering) (k l m : List ℕ) (e f : Data) (ms : Members) → Told k l → Told k m → Apart k ms → Apart k (place S l e ms)
      → Apart k (match_ordering o (member l e (member m f ms)) (member m e ms) (member m f (place S l e ms)))
  apart_place_at Less k l m e f ms new told apart rest = (new, (told, apart))
  apart_place_at Equal k l m e f ms new told apart rest = (told, apart)
  apart_place_at Greater k l m e f ms new told apart rest = (told, rest)

  apart_place : (k l : List ℕ) (e : Data) (ms : Members) → Told k l → Apart k ms → Apart k (place S l e ms)
  apart_place k l e no_members new apart = (new, tt)
  apart_place k l e (member m f ms) new apart = apart_place_at (S l m) k l m e f ms new apart.0 apart.1 (apart_place k l e ms new apart.1)

  pub apart_arranged : (k : List ℕ) (ms : Members) → Apart k ms → Apart k (arranged_members S ms)
  apart_arranged k no_members apart = tt
  apart_arranged k (member l e ms) apart = apart_place k l (arranged S e) (arranged_members S ms) apart.0 (apart_arranged k ms apart.1)

module _ {S : Order} (telling : IsTelling S) where
  placed_apart_at : (o : Ordering) (k l : List ℕ) (d e : Data) (ms : Members) → S k l ≡ o → Told k l → Apart k ms → AreApart d → MembersApart (member l e ms) → MembersApart (place S k d ms)
      → MembersApart (match_ordering o (member k d (member l e ms)) (member l d ms) (member l e (place S k d ms)))
  placed_apart_at Less k l d e ms is told apart one all rest = ((told, apart), one, all)
  placed_apart_at Equal k l d e ms is told apart one all rest = absurd (telling.tells k l told is)
  placed_apart_at Greater k l d e ms is told apart one all rest = (apart_place S l k d ms (told_back k l told) all.0, all.1, rest)

  placed_apart : (k : List ℕ) (d : Data) (ms : Members) → Apart k ms → AreApart d → MembersApart ms → MembersApart (place S k d ms)
  placed_apart k d no_members apart one all = (tt, one, tt)
  placed_apart k d (member l e ms) apart one all = placed_apart_at (S k l) k l d e ms refl apart.0 apart.1 one all (placed_apart k d ms apart.1 one all.2)

  mutual
    -- arranging keeps names distinguished
    pub still_apart : (d : Data) → AreApart d → AreApart (arranged S d)
    still_apart null a = tt
    still_apart (boolean b) a = tt
    still_apart (number n) a = tt
    still_apart (string s) a = tt
    still_apart (array ds) a = items_still_apart ds a
    still_apart (object ms) a = members_still_apart ms a

    items_still_apart : (ds : Items) → ItemsApart ds → ItemsApart (arranged_items S ds)
    items_still_apart no_items a = tt
    items_still_apart (item d ds) a = (still_apart d a.0, items_still_apart ds a.1)

    members_still_apart : (ms : Members) → MembersApart ms → MembersApart (arranged_members S ms)
    members_still_apart no_members a = tt
    members_still_apart (member k d ms) a = placed_apart k (arranged S d) (arranged_members S ms) (apart_arranged S k ms a.0) (still_apart d a.1) (members_still_apart ms a.2)

same_whole : (n : Num) → whole_or (whole_or n (as_integer n)) (as_integer (whole_or n (as_integer n))) ≡ whole_or n (as_integer n)
same_whole (unsigned n) = refl
same_whole (negative (pos n)) = refl
same_whole (negative (negsuc n)) = refl
same_whole (float x) = refl

module _ {R S : Order} (over : IsTelling R) (under : IsTelling S) where
  across_at : (o : Ordering) (k l : List ℕ) (d e : Data) (ms : Members) → S k l ≡ o → Told k l
      → arranged_members R (place S k d ms) ≡ place R k (arranged R d) (arranged_members R ms)
      → arranged_members R (match_ordering o (member k d (member l e ms)) (member l d ms) (member l e (place S k d ms))) ≡ place R k (arranged R d) (arranged_members R (member l e ms))
  across_at Less k l d e ms is told more = refl
  across_at Equal k l d e ms is told more = absurd (under.tells k l told is)
  across_at Greater k l d e ms is told more =
      ap (place R l (arranged R e)) more ∙ sym (commute over.total k l (arranged R d) (arranged R e) (arranged_members R ms) (over.tells k l told))

  across : (k : List ℕ) (d : Data) (ms : Members) → Apart k ms → arranged_members R (place S k d ms) ≡ place R k (arranged R d) (arranged_members R ms)
  across k d no_members apart = refl
  across k d (member l e ms) apart = across_at (S k l) k l d e ms refl apart.0 (across k d ms apart.1)

  mutual
    -- arranging by one order leaves no trace of another
    pub again : (d : Data) → AreApart d → arranged R (arranged S d) ≡ arranged R d
    again null a = refl
    again (boolean b) a = refl
    again (number n) a = ap number (same_whole n)
    again (string s) a = refl
    again (array ds) a = ap array (items_again ds a)
    again (object ms) a = ap object (members_again ms a)

    items_again : (ds : Items) → ItemsApart ds → arranged_items R (arranged_items S ds) ≡ arranged_items R ds
    items_again no_items a = refl
    items_again (item d ds) a = λ i. item (again d a.0 i) (items_again ds a.1 i)

    members_again : (ms : Members) → MembersApart ms → arranged_members R (arranged_members S ms) ≡ arranged_members R ms
    members_again no_members a = refl
    members_again (member k d ms) a =
        across k (arranged S d) (arranged_members S ms) (apart_arranged S k ms a.0) ∙ (λ i. place R k (again d a.1 i) (members_again ms a.2 i))

-- ---- members that are inserted one after another are in the order of their bytes

put_place : (k : List ℕ) (d : Data) (ms : Members) → put k d ms ≡ place by_bytes k d ms
put_place k d no_members = refl
put_place k d (member l e ms) = ap (λ rest. match_ordering (slice_cmp nat_cmp k l) (member k d (member l e ms)) (member l d ms) (member l e rest)) (put_place k d ms)

-- the members as inserted, after those that were found
abbrev pub taken : Members → Members → Members
taken no_members found = found
taken (member k d ms) found = taken ms (put k (arranged by_bytes d) found)

put_either : (k l : List ℕ) (d e : Data) (ms : Members) → Told k l → put k d (put l e ms) ≡ put l e (put k d ms)
put_either k l d e ms told =
    put_place k d (put l e ms) ∙ ap (place by_bytes k d) (put_place l e ms) ∙ commute by_bytes_tells.total k l d e ms (by_bytes_tells.tells k l told)
    ∙ sym (put_place l e (put k d ms) ∙ ap (place by_bytes l e) (put_place k d ms))

taken_later : (k : List ℕ) (d : Data) (ms found : Members) → Apart k ms → put k d (taken ms found) ≡ taken ms (put k d found)
taken_later k d no_members found apart = refl
taken_later k d (member l e ms) found apart =
    taken_later k d ms (put l (arranged by_bytes e) found) apart.1 ∙ ap (taken ms) (put_either k l d (arranged by_bytes e) found apart.0)

pub taken_all : (ms : Members) → MembersApart ms → taken ms no_members ≡ arranged_members by_bytes ms
taken_all no_members a = refl
taken_all (member k d ms) a =
    sym (taken_later k (arranged by_bytes d) ms no_members a.0) ∙ ap (put k (arranged by_bytes d)) (taken_all ms a.2) ∙ put_place k (arranged by_bytes d) (arranged_members by_bytes ms)

mutual
  pub maps_in_order : (d : Data) → AreApart d → as_maps d ≡ arranged by_bytes d
  maps_in_order null a = refl
  maps_in_order (boolean b) a = refl
  maps_in_order (number n) a = refl
  maps_in_order (string s) a = refl
  maps_in_order (array ds) a = ap array (items_in_order ds a)
  maps_in_order (object ms) a = ap object (members_taken ms no_members a ∙ taken_all ms a)

  items_in_order : (ds : Items) → ItemsApart ds → items_as_maps ds ≡ arranged_items by_bytes ds
  items_in_order no_items a = refl
  items_in_order (item d ds) a = λ i. item (maps_in_order d a.0 i) (items_in_order ds a.1 i)

  members_taken : (ms found : Members) → MembersApart ms → put_all (members_as_maps ms) found ≡ taken ms found
  members_taken no_members found a = refl
  members_taken (member k d ms) found a =
      ap (λ e. put_all (members_as_maps ms) (put k e found)) (maps_in_order d a.1) ∙ members_taken ms (put k (arranged by_bytes d) found) a.2
