-- An encoding as JSON data, for models of type `Value`.
use Rattle.std.specs.Prelude.{◌≡◌, refl}
use Rattle.std.specs.Coded.{Coded, coded_ℕ, coded_bool, coded_list, coded_ℤ}
use base.Stored.{Gv, gnil, gnum, gcons, coded_float}
use Rattle.std.proofs.Common.{ap}
use Rattle.serde_json.specs.Data.{Num, unsigned, negative, float, Data, null, boolean, number, string, array, object}
use Rattle.serde_json.specs.Data.{Items, no_items, item, Members, no_members, member}

abbrev pub head : Gv → Gv
head gnil = gnil
head (gnum n) = gnil
head (gcons a b) = a

abbrev pub tail : Gv → Gv
tail gnil = gnil
tail (gnum n) = gnil
tail (gcons a b) = b

abbrev pub num_code : Num → Gv
num_code (unsigned n) = gcons (gnum 0) (gnum n)
num_code (negative z) = gcons (gnum 1) (coded_ℤ.code z)
num_code (float x) = gcons (gnum 2) (coded_float.code x)

pub num_inj : (x y : Num) → num_code x ≡ num_code y → x ≡ y
num_inj (unsigned m) (unsigned n) p = ap unsigned (coded_ℕ.inj m n (ap tail p))
num_inj (negative m) (negative n) p = ap negative (coded_ℤ.inj m n (ap tail p))
num_inj (float m) (float n) p = ap float (coded_float.inj m n (ap tail p))
num_inj x y p = cc

abbrev mutual
  pub data_code : Data → Gv
  data_code null = gcons (gnum 0) gnil
  data_code (boolean b) = gcons (gnum 1) (coded_bool.code b)
  data_code (number n) = gcons (gnum 2) (num_code n)
  data_code (string s) = gcons (gnum 3) ((coded_list coded_ℕ).code s)
  data_code (array ds) = gcons (gnum 4) (items_code ds)
  data_code (object ms) = gcons (gnum 5) (members_code ms)

  pub items_code : Items → Gv
  items_code no_items = gnil
  items_code (item d ds) = gcons (data_code d) (items_code ds)

  pub members_code : Members → Gv
  members_code no_members = gnil
  members_code (member k d ms) =
      gcons ((coded_list coded_ℕ).code k) (gcons (data_code d) (members_code ms))

mutual
  pub data_inj : (x y : Data) → data_code x ≡ data_code y → x ≡ y
  data_inj null null p = refl
  data_inj (boolean b) (boolean c) p = ap boolean (coded_bool.inj b c (ap tail p))
  data_inj (number m) (number n) p = ap number (num_inj m n (ap tail p))
  data_inj (string s) (string t) p = ap string ((coded_list coded_ℕ).inj s t (ap tail p))
  data_inj (array ds) (array es) p = ap array (items_inj ds es (ap tail p))
  data_inj (object ms) (object ns) p = ap object (members_inj ms ns (ap tail p))
  data_inj x y p = cc

  pub items_inj : (x y : Items) → items_code x ≡ items_code y → x ≡ y
  items_inj no_items no_items p = refl
  items_inj (item d ds) (item e es) p =
      λ i. item (data_inj d e (ap head p) i) (items_inj ds es (ap tail p) i)
  items_inj x y p = cc

  pub members_inj : (x y : Members) → members_code x ≡ members_code y → x ≡ y
  members_inj no_members no_members p = refl
  members_inj (member k d ms) (member l e ns) p = λ i. member
      ((coded_list coded_ℕ).inj k l (ap head p) i)
      (data_inj d e (ap (λ g. head (tail g)) p) i)
      (members_inj ms ns (ap (λ g. tail (tail g)) p) i)
  members_inj x y p = cc

abbrev pub coded_data : Coded Data
coded_data = record { code = data_code; inj = data_inj }
