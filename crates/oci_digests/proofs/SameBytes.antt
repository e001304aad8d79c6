-- Texts that name the same bytes.
use Rattle.std.proofs.Common.{◌≡◌, ◌↔◌, ℕ, List, ◌++◌, Bool, true, false, ◌&&◌, IsTrue, bytes_eq, Option, Some, None, Result, Ok, Err, refl, sym, ap, subst, ◌∙◌, true≢false}
use Rattle.std.proofs.lemmas.Slice.Eq.{bytes_eq-Decides}
use Rattle.std.proofs.lemmas.Bool.Decides.{same_from_decides}
use Rattle.hex.specs.Hex.{encode_lower}
use Rattle.oci_digests.specs.Hashes.{hash_of}
use Rattle.oci_digests.specs.Names.{Names, names, digest_text, prefix_of}
use Rattle.oci_digests.specs.Checks.{parts_of, named_algorithm, named_by}
use Rattle.oci_names.specs.declared.algorithm.Algorithm.{Algorithm}
use Rattle.oci_digests.specs.declared.error.DigestError.{DigestError}
use Rattle.oci_digests.proofs.Equal.{named}
use Rattle.oci_digests.proofs.Algorithms.{algorithm_named}

-- equal texts name the same bytes
pub names_equal : (text other bytes : List ℕ) → text ≡ other → Names text bytes → Names other bytes
names_equal text other bytes same names_it = subst (λ t. Names t bytes) same names_it

ok_is : (a b : Algorithm) → ◌≡◌ {A = Result Algorithm DigestError} (Ok a) (Ok b) → a ≡ b
ok_is a b e = cc

algorithm : (text bytes : List ℕ) (n : Names text bytes) → named_algorithm text ≡ Ok n.0
algorithm text bytes n = ap named_algorithm n.1 ∙ algorithm_named n.0 (encode_lower (hash_of n.0 bytes))

-- of two texts with one algorithm, one of which names the bytes, the other does if and only if they are equal
pub names_known : (text known bytes : List ℕ) → Names known bytes → named_algorithm text ≡ named_algorithm known → names text bytes ≡ bytes_eq text known
names_known text known bytes known_names same =
    let only : Names text bytes → text ≡ known = λ n.
    let one = ok_is n.0 known_names.0 (sym (algorithm text bytes n) ∙ same ∙ algorithm known bytes known_names) in
    n.1 ∙ ap (λ a. digest_text a bytes) one ∙ sym known_names.1 in
    let too : text ≡ known → Names text bytes = λ e. names_equal known text bytes (sym e) known_names in
    same_from_decides (names text bytes) (bytes_eq text known)
    (λ t. only ((named text bytes).0 t), λ e. (named text bytes).1 (too e))
    (bytes_eq-Decides text known)

-- equal algorithm names are the name of one algorithm
pub same_algorithm : (text known : List ℕ) (p q : List ℕ × List ℕ) → parts_of text ≡ Some p → parts_of known ≡ Some q → p.0 ≡ q.0 → named_algorithm text ≡ named_algorithm known
same_algorithm text known p q a b same = ap named_by a ∙ by same ∙ sym (ap named_by b) where
  by : p.0 ≡ q.0 → named_by (Some p) ≡ named_by (Some q)
  by e = ap (λ name. named_by (Some (name, p.1))) e

-- a text that begins with an algorithm names the bytes by no other
pub own_text : (a : Algorithm) (text rest bytes : List ℕ) → Names text bytes → text ≡ prefix_of a ++ rest → text ≡ digest_text a bytes
own_text a text rest bytes n is =
    let same = ok_is n.0 a (sym (algorithm text bytes n) ∙ ap named_algorithm is ∙ algorithm_named a rest) in
    n.1 ∙ ap (λ b. digest_text b bytes) same
