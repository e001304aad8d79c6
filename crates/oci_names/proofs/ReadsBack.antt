-- The meaning of `reads_back`.
use Rattle.std.proofs.Common.{◌≡◌, ◌&&◌, ℕ, List, Bool, true, false, Option, Some, None, Result, Ok, Err, refl, sym, ap, ◌∙◌}
use Rattle.std.specs.Prelude.{IsTrue, ◌↔◌}
use Rattle.std.specs.Option.{option_eq}
use Rattle.std.specs.Str.{bytes_eq}
use Rattle.std.specs.Cmp.Lexicographic.{same_text, nat_list_eq_equiv}
use Rattle.oci_names.specs.declared.parse_error.ParseError.{ParseError}
use Rattle.oci_names.specs.declared.reference.Reference.{Reference}
use Rattle.oci_names.specs.Reference.{is_same, is_read_as, reference_of, whole_text, reads_back}

and_left : (a b : Bool) → (a && b) ≡ true → a ≡ true
and_left true b h = refl
and_left false b h = h

and_right : (a b : Bool) → (a && b) ≡ true → b ≡ true
and_right true b h = h
and_right false b h = cc

same_bytes : (xs ys : List ℕ) → bytes_eq xs ys ≡ true → xs ≡ ys
same_bytes xs ys h = same_text xs ys (sym h)

same_option : (a b : Option (List ℕ)) → option_eq bytes_eq a b ≡ true → a ≡ b
same_option None None h = refl
same_option None (Some y) h = cc
same_option (Some x) None h = cc
same_option (Some x) (Some y) h = ap Some (same_bytes x y h)

option_same : (a : Option (List ℕ)) → option_eq bytes_eq a a ≡ true
option_same None = refl
option_same (Some x) = nat_list_eq_equiv.refl x

pub same-means : (a b : Reference) → is_same a b ≡ true → a ≡ b
same-means a b h =
    let registry = bytes_eq a.registry b.registry in
    let mirror = option_eq bytes_eq a.mirror b.mirror in
    let repository = bytes_eq a.repository b.repository in
    let tag = option_eq bytes_eq a.tag b.tag in
    let digest = option_eq bytes_eq a.digest b.digest in
    let four = and_left (((registry && mirror) && repository) && tag) digest h in
    let three = and_left ((registry && mirror) && repository) tag four in
    let two = and_left (registry && mirror) repository three in
    let e1 = same_bytes a.registry b.registry (and_left registry mirror two) in
    let e2 = same_option a.mirror b.mirror (and_right registry mirror two) in
    let e3 = same_bytes a.repository b.repository (and_right (registry && mirror) repository three) in
    let e4 = same_option a.tag b.tag (and_right ((registry && mirror) && repository) tag four) in
    let e5 = same_option a.digest b.digest (and_right (((registry && mirror) && repository) && tag) digest h) in
    λ i. record { registry = e1 i; mirror = e2 i; repository = e3 i; tag = e4 i; digest = e5 i }

pub same-itself : (a : Reference) → is_same a a ≡ true
same-itself a =
    rw (nat_list_eq_equiv.refl a.registry, option_same a.mirror, nat_list_eq_equiv.refl a.repository, option_same a.tag, option_same a.digest)

read_as-means : (r : Reference) (read : Result Reference ParseError) → is_read_as r read ≡ true → read ≡ Ok r
read_as-means r (Ok s) h = ap (λ x. Ok x) (same-means s r h)
read_as-means r (Err e) h = cc

read_as-itself : (r : Reference) (read : Result Reference ParseError) → read ≡ Ok r → is_read_as r read ≡ true
read_as-itself r read e = rw e (same-itself r)

-- `reads_back` is true if and only if the reference's text parses to the reference itself
pub reads_back-means : (r : Reference) → reads_back r ≡ true → reference_of (whole_text r) ≡ Ok r
reads_back-means r h = read_as-means r (reference_of (whole_text r)) h

pub reads_back-from : (r : Reference) → reference_of (whole_text r) ≡ Ok r → reads_back r ≡ true
reads_back-from r e = read_as-itself r (reference_of (whole_text r)) e

-- the same for a result of the test
pub reads_back-tells : (r : Reference) (b : Bool) → b ≡ reads_back r → IsTrue b ↔ (reference_of (whole_text r) ≡ Ok r)
reads_back-tells r b e = ((λ h. reads_back-means r (sym e ∙ h)), (λ m. e ∙ reads_back-from r m))
