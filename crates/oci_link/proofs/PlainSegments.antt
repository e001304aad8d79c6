-- A plain path is a list of segments that a URL keeps verbatim.
use Rattle.std.proofs.Common.{◌≡◌, inl, inr, ℕ, ◌<◌, Bool, true, false, ◌&&◌, ◌||◌, ◌==◌, List, [], ◌∷◌, ◌++◌, length, All, refl, sym, ap, subst, ◌∙◌, arith, append-nil}
use Rattle.std.specs.List.{list_all}
use Rattle.std.proofs.lemmas.Bool.Decides.{nat_tests}
use Rattle.std.proofs.lemmas.List.Elements.{All-nil, All-cons}
use Rattle.percent_encoding.specs.Percent.{IsKept}
use Rattle.url.specs.declared.scheme.SchemeType.TheVariants.{SpecialNotFile}
use Rattle.url.specs.declared.sets.TheConstants.{PATH}
use Rattle.url.specs.Scheme.{is_slash}
use Rattle.url.specs.Path.{dot_count, IsSegment, IsSegmentList}
use Rattle.url.proofs.PathLemmas.{empty_segment}
use Rattle.url.proofs.SetLemmas.{kept_from_passes}
use Rattle.oci_link.specs.PlainPaths.{is_first_byte, is_segment_byte, Segment, PlainPath}

pub and_left : (a b : Bool) → (a && b) ≡ true → a ≡ true
and_left true b h = refl
and_left false b h = cc h

pub and_right : (a b : Bool) → (a && b) ≡ true → b ≡ true
and_right true b h = h
and_right false b h = cc h

segment_below : (b : ℕ) → is_segment_byte b ≡ true → b < 128
segment_below b h = grind (arith, nat_tests, h)

segment_kept : (b : ℕ) → is_segment_byte b ≡ true → IsKept PATH b
segment_kept b h = kept_from_passes is_segment_byte PATH refl b (segment_below b h) h

segment_no_slash : (b : ℕ) → is_segment_byte b ≡ true → is_slash SpecialNotFile b ≡ false
segment_no_slash b h = grind (arith, nat_tests, h)

first_later : (b : ℕ) → is_first_byte b ≡ true → is_segment_byte b ≡ true
first_later b h = ap (λ v. v || (b == 46 || (b == 45 || b == 58))) h

all_from : (P : ℕ → Type 0) (p : ℕ → Bool) → ((b : ℕ) → p b ≡ true → P b) → (bs : List ℕ) → list_all p bs ≡ true → All P bs
all_from P p from [] all = All-nil P
all_from P p from (b ∷ bs) all = All-cons P b bs (from b (and_left (p b) (list_all p bs) all)) (all_from P p from bs (and_right (p b) (list_all p bs) all))

no_dots : (first : ℕ) (rest : List ℕ) → is_first_byte first ≡ true → dot_count (first ∷ rest) ≡ 0
unfolding dot_count
no_dots first rest h =
    let dot : (first == 46) ≡ false = grind (arith, nat_tests, h) in
    let percent : (first == 37) ≡ false = grind (arith, nat_tests, h) in
    rw (dot, percent) refl

segment_is : (text : List ℕ) → Segment text → IsSegment SpecialNotFile text
segment_is text (first, rest, is, first_is, rest_is) =
    let all : list_all is_segment_byte (first ∷ rest) ≡ true = ap (λ v. v && list_all is_segment_byte rest) (first_later first first_is) ∙ rest_is in
    subst (IsSegment SpecialNotFile) (sym is) (record {
      escaped = all_from (IsKept PATH) is_segment_byte segment_kept (first ∷ rest) all;
      whole = all_from (λ b. is_slash SpecialNotFile b ≡ false) is_segment_byte segment_no_slash (first ∷ rest) all;
      resolved = no_dots first rest first_is;
    })

one_segment : (text : List ℕ) → IsSegment SpecialNotFile text → IsSegmentList SpecialNotFile (47 ∷ text)
one_segment text is = record { segments = text ∷ []; joined = ap (λ t. 47 ∷ t) (sym (append-nil text)); each = All-cons (IsSegment SpecialNotFile) text [] is (All-nil (IsSegment SpecialNotFile)) }

segment_before : (text path : List ℕ) → IsSegment SpecialNotFile text → IsSegmentList SpecialNotFile path → IsSegmentList SpecialNotFile (47 ∷ (text ++ path))
segment_before text path is list = record { segments = text ∷ list.segments; joined = ap (λ t. 47 ∷ (text ++ t)) list.joined; each = All-cons (IsSegment SpecialNotFile) text list.segments is list.each }

pub segments_of : (path : List ℕ) → PlainPath path → IsSegmentList SpecialNotFile path
segments_of _ (PlainPath.last segment (inl none)) = one_segment segment (subst (IsSegment SpecialNotFile) (sym none) (empty_segment SpecialNotFile))
segments_of _ (PlainPath.last segment (inr is)) = one_segment segment (segment_is segment is)
segments_of _ (PlainPath.more segment path is rest) = segment_before segment path (segment_is segment is) (segments_of path rest)

pub path_long : (path : List ℕ) → PlainPath path → 0 < length path
path_long _ (PlainPath.last segment is) = omega arith
path_long _ (PlainPath.more segment path is rest) = omega arith
