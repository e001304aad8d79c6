-- A value has at most one canonical text.
use Rattle.std.proofs.Common.{◌≡◌, ◌≢◌, ℕ, List, [], ◌∷◌, map, refl, sym, ap, subst, ◌∙◌, Option, Some, None, Bool, true, if◌then◌else◌, Less, ◌⊎◌, inl, inr}
use Rattle.std.specs.Fmt.{signed_decimal}
use Rattle.std.specs.List.{AllByRecursion}
use Rattle.std.specs.List.Sorted.{IsPermutation, IsStrictlySortedBy}
use Rattle.std.specs.Cmp.{tied_itself}
use Rattle.std.specs.Cmp.Lexicographic.{nat_list_cmp_total}
use Rattle.std.proofs.lemmas.List.Elements.{All-from_recursion, recursion_from_All}
use Rattle.std.proofs.lemmas.List.Sorted.{IsPermutation-sym, IsPermutation-trans, All-permutation}
use Rattle.serde_json.specs.Data.{Data, null, boolean, number, string, array, object, Items, no_items, item, Members, no_members, member}
use Rattle.json_events.specs.Canonical.{Canonical, CanonicalItems, CanonicalMembers, Entry, Rises, IsObjectText, array_text, object_text, in_range}
use Rattle.json_events.specs.Refused.{refused, refused_items, refused_members, refused_by, first_of_two}
use Rattle.json_events.specs.declared.error.CanonError.{CanonError}
use Rattle.json_events.specs.declared.error.CanonError.TheVariants.{IntegerOutOfRange}
use Rattle.json_events.specs.Units.{units, by_units}

-- a name that is less than all of a list is not among them
abbrev Before : Entry → List Entry → Type 0
Before e es = AllByRecursion (λ f. by_units e.0 f.0 ≡ Less) es

before_names : (e : Entry) (es : List Entry) → AllByRecursion (λ n. by_units e.0 n ≡ Less) (map (λ f. f.0) es) → Before e es
before_names e [] all = tt
before_names e (f ∷ es) all = (all.0, before_names e es all.1)

irreflexive : (n : List ℕ) → by_units n n ≢ Less
irreflexive n less = let same = tied_itself nat_list_cmp_total (units n) in cc

turned : (a b : List ℕ) → by_units a b ≡ Less → by_units b a ≢ Less
turned a b less back =
    let over : by_units a a ≡ Less = nat_list_cmp_total.trans (units a) (units b) (units a) less back in
    irreflexive a over

-- membership by recursion
abbrev Among : Entry → List Entry → Type 0
Among e [] = ⊥
Among e (f ∷ es) = (f ≡ e) ⊎ Among e es

abbrev Within : List Entry → List Entry → Type 0
Within xs ys = (e : Entry) → Among e xs → Among e ys

before_among : (e f : Entry) (es : List Entry) → Before e es → Among f es → by_units e.0 f.0 ≡ Less
before_among e f [] all among = absurd among
before_among e f (g ∷ es) all among = elim among [ inl is ↦ ap (λ h. by_units e.0 h.0) (sym is) ∙ all.0 | inr rest ↦ before_among e f es all.1 rest ]

tail_within : (e : Entry) (xs ys : List Entry) → Before e xs → Within (e ∷ xs) (e ∷ ys) → Within xs ys
tail_within e xs ys all within f among =
    elim (within f (inr among)) [
      | inl is ↦ absurd (irreflexive e.0 (ap (λ h. by_units e.0 h.0) is ∙ before_among e f xs all among))
      | inr rest ↦ rest
    ]

-- ascending lists with the same members are equal
same_rising : (xs ys : List Entry) → Rises xs → Rises ys → Within xs ys → Within ys xs → xs ≡ ys
unfolding IsStrictlySortedBy
same_rising [] [] up also there back = refl
same_rising [] (y ∷ ys) up also there back = absurd (back y (inl refl))
same_rising (x ∷ xs) [] up also there back = absurd (there x (inl refl))
same_rising (x ∷ xs) (y ∷ ys) up also there back =
    let after_x = before_names x xs up.0 in
    let after_y = before_names y ys also.0 in
    let heads : x ≡ y = elim (there x (inl refl)) [
      | inl is ↦ sym is
      | inr later ↦ elim (back y (inl refl)) [
        | inl is ↦ is
        | inr also_later ↦ absurd (turned y.0 x.0 (before_among y x ys after_y later) (before_among x y xs after_x also_later))
      ]
    ] in
    let there' : Within (x ∷ xs) (x ∷ ys) = subst (λ z. Within (x ∷ xs) (z ∷ ys)) (sym heads) there in
    let back' : Within (x ∷ ys) (x ∷ xs) = subst (λ z. Within (z ∷ ys) (x ∷ xs)) (sym heads) back in
    let after : Before x ys = subst (λ z. Before z ys) (sym heads) after_y in
    ap (λ z. z ∷ xs) heads ∙ ap (λ zs. y ∷ zs) (same_rising xs ys up.1 also.1 (tail_within x xs ys after_x there') (tail_within x ys xs after back'))

among_more : (es fs : List Entry) → Within fs es → AllByRecursion (λ f. Among f es) fs
among_more es [] within = tt
among_more es (f ∷ fs) within = (within f (inl refl), among_more es fs (λ g h. within g (inr h)))

all_among : (es : List Entry) → AllByRecursion (λ f. Among f es) es
all_among es = among_more es es (λ f h. h)

among_all : (P : Entry → Type 0) (e : Entry) (es : List Entry) → AllByRecursion P es → Among e es → P e
among_all P e [] all among = absurd among
among_all P e (f ∷ es) all among = elim among [ inl is ↦ subst P is all.0 | inr rest ↦ among_all P e es all.1 rest ]

-- a permutation of a list has the same members
within_permutation : (xs ys : List Entry) → IsPermutation xs ys → Within ys xs
within_permutation xs ys moved e among =
    among_all (λ f. Among f xs) e ys
    (recursion_from_All (λ f. Among f xs) ys (All-permutation (λ f. Among f xs) xs ys moved (All-from_recursion (λ f. Among f xs) xs (all_among xs)))) among

pub same_object : (es : List Entry) (t u : List ℕ) → IsObjectText es t → IsObjectText es u → t ≡ u
same_object es t u first second =
    let moved = IsPermutation-trans _ _ _ (IsPermutation-sym es first.order first.same) second.same in
    let back = IsPermutation-sym _ _ moved in
    first.text ∙ ap object_text (same_rising first.order second.order first.rises second.rises (within_permutation _ _ back) (within_permutation _ _ moved)) ∙ sym second.text

some_same : {A : Type 0} (o : Option A) (x y : A) → o ≡ Some x → o ≡ Some y → x ≡ y
some_same o x y p q = let e : Some x ≡ Some y = sym p ∙ q in cc

mutual
  pub unique : (d : Data) (t u : List ℕ) → Canonical d t → Canonical d u → t ≡ u
  unique null t u p q = p ∙ sym q
  unique (boolean b) t u p q = p ∙ sym q
  unique (number n) t u p q = p.3 ∙ ap signed_decimal (some_same _ p.0 q.0 p.1 q.1) ∙ sym q.3
  unique (string s) t u p q = p ∙ sym q
  unique (array ds) t u p q = p.2 ∙ ap array_text (unique_items ds p.0 q.0 p.1 q.1) ∙ sym q.2
  unique (object ms) t u p q = same_object p.0 t u p.2 (subst (λ es. IsObjectText es u) (sym (unique_members ms p.0 q.0 p.1 q.1)) q.2)

  unique_items : (ds : Items) (ts us : List (List ℕ)) → CanonicalItems ds ts → CanonicalItems ds us → ts ≡ us
  unique_items no_items [] [] p q = refl
  unique_items no_items [] (u ∷ us) p q = absurd q
  unique_items no_items (t ∷ ts) us p q = absurd p
  unique_items (item d ds) [] us p q = absurd p
  unique_items (item d ds) (t ∷ ts) [] p q = absurd q
  unique_items (item d ds) (t ∷ ts) (u ∷ us) p q = λ i. unique d t u p.0 q.0 i ∷ unique_items ds ts us p.1 q.1 i

  unique_members : (ms : Members) (es fs : List Entry) → CanonicalMembers ms es → CanonicalMembers ms fs → es ≡ fs
  unique_members no_members [] [] p q = refl
  unique_members no_members [] (f ∷ fs) p q = absurd q
  unique_members no_members (e ∷ es) fs p q = absurd p
  unique_members (member k d ms) [] fs p q = absurd p
  unique_members (member k d ms) (e ∷ es) [] p q = absurd q
  unique_members (member k d ms) (e ∷ es) (f ∷ fs) p q = λ i. ((p.0 ∙ sym q.0) i, unique d e.1 f.1 p.1 q.1 i) ∷ unique_members ms es fs p.2 q.2 i

in_range_is : (b : Bool) → b ≡ true → (if b then None else Some IntegerOutOfRange) ≡ None
in_range_is b is = ap (λ c. if c then None else Some IntegerOutOfRange) is

none_both : (a b : Option CanonError) → a ≡ None → b ≡ None → first_of_two a b ≡ None
none_both a b p q = ap (λ o. first_of_two o b) p ∙ q

-- if a value has a text, it is not refused
mutual
  pub plain : (d : Data) (t : List ℕ) → Canonical d t → refused d ≡ None
  plain null t p = refl
  plain (boolean b) t p = refl
  plain (number n) t p = ap refused_by p.1 ∙ in_range_is (in_range p.0) p.2
  plain (string s) t p = refl
  plain (array ds) t p = plain_items ds p.0 p.1
  plain (object ms) t p = plain_members ms p.0 p.1

  plain_items : (ds : Items) (ts : List (List ℕ)) → CanonicalItems ds ts → refused_items ds ≡ None
  plain_items no_items ts p = refl
  plain_items (item d ds) [] p = absurd p
  plain_items (item d ds) (t ∷ ts) p = none_both _ _ (plain d t p.0) (plain_items ds ts p.1)

  plain_members : (ms : Members) (es : List Entry) → CanonicalMembers ms es → refused_members ms ≡ None
  plain_members no_members es p = refl
  plain_members (member k d ms) [] p = absurd p
  plain_members (member k d ms) (e ∷ es) p = none_both _ _ (plain d e.1 p.1) (plain_members ms es p.2)
