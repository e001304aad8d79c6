-- Which document of a shelf a reference points to.
use Rattle.std.specs.Prelude.{codes, IfSome, if◌then◌else◌}
use Rattle.std.specs.List.{list_all, list_any}
use Rattle.std.specs.FinMap as map
use Rattle.std.proofs.Common.{◌≡◌, ℕ, Bool, true, false, ◌||◌, List, [], ◌∷◌, ◌++◌, Option, Some, None, refl, sym, ap, ◌∙◌, subst, arith}
use Rattle.std.proofs.lemmas.Bool.Decides.{nat_tests}
use Rattle.oci_names.specs.Grammar.{is_tag_start, is_tag_byte}
use Rattle.oci_names.specs.Reference.{digest_of, tag_of}
use Rattle.oci_names.specs.Words.{Tag, Encoded}
use Rattle.oci_names.specs.declared.reference.Reference.{Reference}
use Rattle.oci_link.specs.PlainPaths.{Segment}
use Rattle.oci_link.specs.Table.{digest_named, is_colon}
use Rattle.oci_link.specs.declared.shelf.Shelf.{Shelf}
use Rattle.engine_requests.specs.Addresses.{manifest_name}
use Rattle.shelf_laws.specs.Shelves.{HasDocument}
use Rattle.oci_digests.proofs.HexDigits.{and_left, and_right}
use Rattle.shelf_laws.proofs.Documents.{NoOther, named_segment}
use Rattle.shelf_laws.proofs.Images.{Points}
use Rattle.shelf_laws.proofs.PlainNames.{tag_segment}
use Rattle.shelf_laws.proofs.References.{Spelled}

no_colon : (b : ℕ) → is_tag_byte b ≡ true → is_colon b ≡ false
no_colon b h = grind (arith, nat_tests, h)

start_no_colon : (b : ℕ) → is_tag_start b ≡ true → is_colon b ≡ false
start_no_colon b h = grind (arith, nat_tests, h)

none_of : (xs : List ℕ) → list_all is_tag_byte xs ≡ true → list_any is_colon xs ≡ false
none_of [] h = refl
none_of (x ∷ xs) h = ap (λ b. b || list_any is_colon xs) (no_colon x (and_left (is_tag_byte x) (list_all is_tag_byte xs) h)) ∙ none_of xs (and_right (is_tag_byte x) (list_all is_tag_byte xs) h)

tag_colonless : (t : List ℕ) → Tag t → list_any is_colon t ≡ false
tag_colonless t (first, rest, is, start, few, all) = ap (list_any is_colon) is ∙ ap (λ b. b || list_any is_colon rest) (start_no_colon first start) ∙ none_of rest all

-- a tag points to what the shelf has under it
pub tag_named : (shelf : Shelf) (t : List ℕ) → Tag t → digest_named shelf t ≡ map.get shelf.tags t
tag_named shelf t is = ap (λ b. if b then Some t else map.get shelf.tags t) (tag_colonless t is)

colon_among : (xs ys : List ℕ) → list_any is_colon (xs ++ 58 ∷ ys) ≡ true
colon_among [] ys = refl
colon_among (x ∷ xs) ys = by_test (is_colon x) (colon_among xs ys) where
  by_test : (b : Bool) → list_any is_colon (xs ++ 58 ∷ ys) ≡ true → (b || list_any is_colon (xs ++ 58 ∷ ys)) ≡ true
  by_test true h = refl
  by_test false h = h

-- a digest points to itself
digest_points : (shelf : Shelf) (own digest : List ℕ) → Encoded own → digest_named shelf own ≡ Some digest → own ≡ digest
digest_points shelf own digest (algorithm, digits, is, word, run) found =
    cc (sym (ap (λ b. if b then Some own else map.get shelf.tags own) (ap (list_any is_colon) is ∙ colon_among algorithm digits)) ∙ found)

-- a reference whose text parses to it points to a document of this digest
pub image_points : (shelf : Shelf) (image : Reference) (digest bytes : List ℕ) → Spelled image → HasDocument shelf digest bytes → digest_named shelf (manifest_name (digest_of image) (tag_of image)) ≡ Some digest → Points shelf image digest
image_points shelf image digest bytes spelled has found = by_parts (digest_of image) (tag_of image) refl refl spelled.digest_is spelled.tag_is found where
  by_parts : (d t : Option (List ℕ)) → digest_of image ≡ d → tag_of image ≡ t → IfSome d Encoded → IfSome t Tag → digest_named shelf (manifest_name d t) ≡ Some digest → Points shelf image digest
  by_parts (Some own) t d_is t_is encoded tag found =
      let same = digest_points shelf own digest encoded found in
      let name : manifest_name (digest_of image) (tag_of image) ≡ own = ap (λ o. manifest_name o (tag_of image)) d_is in
      record {
        plain = subst Segment (sym (name ∙ same)) (named_segment digest bytes has.named);
        points = ap (digest_named shelf) name ∙ found;
        other = subst (λ o. NoOther o digest) (sym d_is) same;
      }
  by_parts None (Some t) d_is t_is encoded tag found =
      let name : manifest_name (digest_of image) (tag_of image) ≡ t = λ i. manifest_name (d_is i) (t_is i) in
      record { plain = subst Segment (sym name) (tag_segment t tag); points = ap (digest_named shelf) name ∙ found; other = subst (λ o. NoOther o digest) (sym d_is) tt }
  by_parts None None d_is t_is encoded tag found =
      let name : manifest_name (digest_of image) (tag_of image) ≡ codes "latest" = λ i. manifest_name (d_is i) (t_is i) in
      record { plain = subst Segment (sym name) (108, codes "atest", refl, refl, refl); points = ap (digest_named shelf) name ∙ found; other = subst (λ o. NoOther o digest) (sym d_is) tt }
