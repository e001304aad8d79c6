-- Digest texts of layers, and the layer that a digest names.
use Rattle.std.proofs.Common.{◌≡◌, ◌<◌, ◌+◌, ℕ, zero, suc, Bool, true, false, cond, nat_lt, not, length, List, [], ◌∷◌, ◌++◌, ◌||◌, map, drop, get_or, bytes_eq, Some, None, IsTrue, inl, inr, refl, sym, ap, subst, ◌∙◌, append_assoc, append-nil, arith}
use Rattle.std.specs.Prelude.{position, All}
use Rattle.std.specs.List.{Contains, list_any, position_or_len, slice_get}
use Rattle.std.proofs.lemmas.Bool.{and_parts, ltb-true, ltb-false}
use Rattle.std.proofs.lemmas.List.{get_or_default}
use Rattle.std.proofs.lemmas.Bool.Decides.{same_from_decides}
use Rattle.std.proofs.lemmas.List.Elements.{Contains-append_left, Contains-append_right}
use Rattle.std.proofs.lemmas.List.Folds.{list_any_at}
use Rattle.std.proofs.lemmas.Slice.Eq.{bytes_eq-Decides}
use Rattle.hex.specs.Hex.{encode_lower}
use Rattle.oci_names.specs.Algorithms.{all as algorithms}
use Rattle.oci_names.specs.declared.algorithm.Algorithm.{Algorithm}
use Rattle.oci_names.proofs.Algorithms.{place}
use Rattle.oci_digests.specs.Hashes.{hash_of}
use Rattle.oci_digests.specs.Names.{Names, prefix_of, names, names_by, digest_text}
use Rattle.oci_digests.proofs.Equal.{named, named_among}
use Rattle.oci_manifests.specs.declared.descriptor.OciDescriptor.{OciDescriptor}
use Rattle.oci_manifests.specs.declared.blob.ImageLayer.{ImageLayer}
use Rattle.registry_calls.specs.Named.{names_each}
use Rattle.cosign_pull.specs.Part.{BeginsOtherwise, Serves, ServesAll, Tell, is_among, layer_digests}
use Rattle.cosign_rows.specs.Part.{named_layer}
use Rattle.cosign_rows.proofs.Descriptors.{at_next}
use Rattle.cosign_rows.proofs.First.{first_at, none_at}

-- ---- the layers' own digests

as_many_own : (own : List OciDescriptor) (layers : List ImageLayer) → IsTrue (names_each own layers) → length own ≡ length layers
as_many_own [] [] h = refl
as_many_own [] (layer ∷ layers) h = absurd (cc h)
as_many_own (x ∷ xs) [] h = absurd (cc h)
as_many_own (x ∷ xs) (layer ∷ layers) h = ap suc (as_many_own xs layers (and_parts (names x.digest layer.content) (names_each xs layers) h).1)

-- an index of a layer is one of its descriptor
pub own_inside : (own : List OciDescriptor) (layers : List ImageLayer) (i : ℕ) → IsTrue (names_each own layers) → i < length layers → i < length own
own_inside own layers i h lt = subst (λ n. i < n) (sym (as_many_own own layers h)) lt

-- each descriptor's digest names the layer at its index
named_at : (own : List OciDescriptor) (layers : List ImageLayer) (i : ℕ) (d : OciDescriptor) (l : ImageLayer) → IsTrue (names_each own layers) → i < length layers → Names (get_or own i d).digest (get_or layers i l).content
named_at [] [] i d l h lt = absurd (omega arith)
named_at [] (layer ∷ layers) i d l h lt = absurd (cc h)
named_at (x ∷ xs) [] i d l h lt = absurd (cc h)
named_at (x ∷ xs) (layer ∷ layers) zero d l h lt = (named x.digest layer.content).0 (and_parts (names x.digest layer.content) (names_each xs layers) h).0
named_at (x ∷ xs) (layer ∷ layers) (suc i) d l h lt = named_at xs layers i d l (and_parts (names x.digest layer.content) (names_each xs layers) h).1 (omega arith)

pub own_names : (own : List OciDescriptor) (layers : List ImageLayer) (i : ℕ) (d : OciDescriptor) (layer : ImageLayer) → IsTrue (names_each own layers) → i < length layers → layer ≡ get_or layers i layer → Names (get_or own i d).digest layer.content
own_names own layers i d layer h lt is = subst (λ y. Names (get_or own i d).digest y.content) (sym is) (named_at own layers i d layer h lt)

-- ---- texts

pub digests_next : {X Y : Type 0} (f : X → Y) (xs : List X) (i : ℕ) (x : X) (p q all : List Y) → i < length xs → x ≡ get_or xs i x
    → q ≡ p ++ f x ∷ [] → p ++ map f (drop i xs) ≡ all → q ++ map f (drop (i + 1) xs) ≡ all
digests_next f xs i x p q all lt is more rest =
    ap (λ q. q ++ map f (drop (i + 1) xs)) more
    ∙ append_assoc p (f x ∷ []) (map f (drop (i + 1) xs))
    ∙ ap (λ ys. p ++ map f ys) (sym (at_next xs i x lt is))
    ∙ rest

pub digests_end : {X Y : Type 0} (f : X → Y) (xs : List X) (p all : List Y) → xs ≡ [] → p ++ map f xs ≡ all → p ≡ all
digests_end f xs p all none rest = sym (append-nil p) ∙ ap (λ ys. p ++ map f ys) (sym none) ∙ rest

-- ---- what the texts determine

any_mapped : {X Y : Type 0} (p : Y → Bool) (f : X → Y) (xs : List X) → list_any p (map f xs) ≡ list_any (λ x. p (f x)) xs
any_mapped p f [] = refl
any_mapped p f (x ∷ xs) = ap (λ b. p (f x) || b) (any_mapped p f xs)

-- the algorithm by which it is named is one of these
used_named : (digest content : List ℕ) (used : List Algorithm) → Serves used digest → Names digest content → IsTrue (list_any (λ a. names_by a digest content) used)
used_named digest content used serves (a, is) = elim (serves a) [
  | inl at ↦ list_any_at (λ a. names_by a digest content) used at.0 a at.1 (ap (λ b. names_by b digest content) at.2 ∙ (bytes_eq-Decides digest (digest_text a content)).1 is)
  | inr other ↦ absurd (other (encode_lower (hash_of a content)) is)
]

tells : (used : List Algorithm) (digest : List ℕ) (layer : ImageLayer) → Serves used digest → is_among digest (layer_digests used layer) ≡ names digest layer.content
tells used digest layer serves =
    any_mapped (bytes_eq digest) (λ a. digest_text a layer.content) used
    ∙ same_from_decides (list_any (λ a. names_by a digest layer.content) used) (names digest layer.content)
    (λ h. (named digest layer.content).1 (named_among digest layer.content used h), λ h. used_named digest layer.content used serves ((named digest layer.content).0 h))
    (λ h. h, λ h. h)

tell : (used : List Algorithm) (digest : List ℕ) (layers : List ImageLayer) → Serves used digest → Tell (map (layer_digests used) layers) layers digest
tell used digest [] serves = refl
tell used digest (x ∷ xs) serves = ap (λ (b : Bool). b ∷ map (is_among digest) (map (layer_digests used) xs)) (tells used digest x serves) ∙ ap (λ bs. names digest x.content ∷ bs) (tell used digest xs serves)

pub all_tell : (used : List Algorithm) (all : List (List (List ℕ))) (layers : List ImageLayer) (xs : List OciDescriptor) → All (λ x. Serves used x.digest) xs → all ≡ map (layer_digests used) layers → All (λ x. Tell all layers x.digest) xs
all_tell used all layers xs serves are k d lt = rw are (tell used (get_or xs k d).digest layers (serves k d lt))

-- ---- which algorithms are used

pub all_served : (used : List Algorithm) (xs : List OciDescriptor) → ((k : ℕ) (a : Algorithm) → k < length algorithms → ServesAll used (get_or algorithms k a) xs) → All (λ x. Serves used x.digest) xs
all_served used xs each k d lt a =
    let at = place a in
    elim (subst (λ b. ServesAll used b xs) at.2 (each at.0 a at.1)) [
      | inl is ↦ inl is
      | inr others ↦ inr (others k d lt)
    ]

-- one more of all algorithms
pub served_next : (used more : List Algorithm) (xs : List OciDescriptor) (i : ℕ) (d : Algorithm) → i < length algorithms → ServesAll more (get_or algorithms i d) xs → ((a : Algorithm) → ServesAll used a xs → ServesAll more a xs)
    → ((k : ℕ) (a : Algorithm) → k < i → ServesAll used (get_or algorithms k a) xs) → (k : ℕ) (a : Algorithm) → k < i + 1 → ServesAll more (get_or algorithms k a) xs
served_next used more xs i d inside one others before k a lt = by_test (nat_lt k i) refl where
  by_test : (b : Bool) → nat_lt k i ≡ b → ServesAll more (get_or algorithms k a) xs
  by_test true is = others (get_or algorithms k a) (before k a (ltb-true k i is))
  by_test false is =
      let from = ltb-false k i is in
      let same : i ≡ k = omega (arith, lt, from) in
      subst (λ b. ServesAll more b xs) (get_or_default algorithms i d a inside ∙ ap (λ n. get_or algorithms n a) same) one

-- one more that is used
pub used_one : (a : Algorithm) (used more : List Algorithm) (xs : List OciDescriptor) → more ≡ used ++ a ∷ [] → ServesAll more a xs
used_one a used more xs is = inl (subst (λ ys. Contains ys a) (sym is) (Contains-append_right used (a ∷ []) a (0, omega arith, refl)))

pub used_others : (b : Algorithm) (used more : List Algorithm) (xs : List OciDescriptor) → more ≡ used ++ b ∷ [] → (a : Algorithm) → ServesAll used a xs → ServesAll more a xs
used_others b used more xs is a (inl at) = inl (subst (λ ys. Contains ys a) (sym is) (Contains-append_left used (b ∷ []) a at))
used_others b used more xs is a (inr others) = inr others

pub used_none : (a : Algorithm) (used : List Algorithm) (xs : List OciDescriptor) (b : Bool) → (b ≡ false → All (λ x. BeginsOtherwise (prefix_of a) x.digest) xs) → b ≡ false → ServesAll used a xs
used_none a used xs b none is = inr (none is)

pub ruleset used_rules = (used_one, used_others, used_none)

pub none_begins : (name : List ℕ) (xs : List OciDescriptor) → ((k : ℕ) (d : OciDescriptor) → k < length xs → BeginsOtherwise name (get_or xs k d).digest) → All (λ x. BeginsOtherwise name x.digest) xs
none_begins name xs none = none

-- one descriptor of those whose layers are determined
pub tells_at : (texts : List (List (List ℕ))) (layers : List ImageLayer) (xs : List OciDescriptor) (i : ℕ) (x : OciDescriptor) → All (λ x. Tell texts layers x.digest) xs → i < length xs → x ≡ get_or xs i x → Tell texts layers x.digest
tells_at texts layers xs i x all lt is = subst (λ y. Tell texts layers y.digest) (sym is) (all i x lt)

-- ---- the layer that a digest names

-- the index of the first true `bool`
place_in : {X : Type 0} (p : X → Bool) (xs : List X) → position_or_len p xs ≡ position_or_len (λ (b : Bool). b) (map p xs)
place_in p [] = refl
place_in p (x ∷ xs) = ap (λ n. cond (not (p x)) (1 + n) 0) (place_in p xs)

as_many : {X Y : Type 0} (f : X → Y) (xs : List X) → length (map f xs) ≡ length xs
as_many f [] = refl
as_many f (x ∷ xs) = ap suc (as_many f xs)

position_in : {X : Type 0} (p : X → Bool) (xs : List X) → position p xs ≡ position (λ (b : Bool). b) (map p xs)
position_in p xs = ap (λ n. cond (nat_lt n (length xs)) (Some n) None) (place_in p xs) ∙ ap (λ m. cond (nat_lt (position_or_len (λ (b : Bool). b) (map p xs)) m) (Some (position_or_len (λ (b : Bool). b) (map p xs))) None) (sym (as_many p xs))

-- the layer is at the index of its texts
same_place : (digest : List ℕ) (texts : List (List (List ℕ))) (layers : List ImageLayer) → Tell texts layers digest → position (λ layer. names digest layer.content) layers ≡ position (is_among digest) texts
same_place digest texts layers tell = position_in (λ layer. names digest layer.content) layers ∙ ap (position (λ (b : Bool). b)) (sym tell) ∙ sym (position_in (is_among digest) texts)

-- the layer at the first index whose texts have the digest is the first that the digest names
pub named_there : (digest : List ℕ) (texts : List (List (List ℕ))) (layers : List ImageLayer) (place : ℕ) → Tell texts layers digest → position (is_among digest) texts ≡ Some place → named_layer digest layers ≡ slice_get layers place
named_there digest texts layers place tell is = first_at (λ layer. names digest layer.content) layers place (same_place digest texts layers tell ∙ is)

pub named_nowhere : (digest : List ℕ) (texts : List (List (List ℕ))) (layers : List ImageLayer) → Tell texts layers digest → position (is_among digest) texts ≡ None → None ≡ named_layer digest layers
named_nowhere digest texts layers tell is = sym (none_at (λ layer. names digest layer.content) layers (same_place digest texts layers tell ∙ is))
