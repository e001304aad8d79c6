-- What holds of the digests by each algorithm. The facts by cases are these; all others follow from them.
use Rattle.std.proofs.Common.{◌≡◌, ◌*◌, ◌<◌, ℕ, Bool, true, false, ◌&&◌, ◌==◌, not, List, [], ◌∷◌, ◌++◌, length, Option, Some, None, Ok, codes, if◌then◌else◌, refl, sym, ap, ◌∙◌, arith}
use Rattle.std.specs.Prelude.{nat_lt, ok_or}
use Rattle.std.specs.List.{list_all}
use Rattle.std.specs.Char.{is_ascii_hexdigit}
use Rattle.std.proofs.lemmas.Bool.{lt-ltb}
use Rattle.std.proofs.lemmas.Bool.Decides.{nat_tests}
use Rattle.hex.specs.Hex.{lower_digits, encode_lower}
use Rattle.sha2.specs.Sha256 as short
use Rattle.sha2.specs.Sha512 as long
use Rattle.sha2.proofs.Facts256.{length-sha256}
use Rattle.sha2.proofs.Facts512.{length-sha384, length-sha512}
use Rattle.oci_names.specs.Algorithms.{name_of, digits_in}
use Rattle.oci_names.specs.Grammar.{is_hexadecimal, is_digest}
use Rattle.oci_names.specs.Parts.{digest_refusal}
use Rattle.oci_names.specs.declared.algorithm.Algorithm.{Algorithm}
use Rattle.oci_names.specs.declared.algorithm.Algorithm.TheVariants.{Sha256, Sha384, Sha512}
use Rattle.oci_names.specs.declared.parse_error.ParseError.TheVariants.{DigestInvalidLength}
use Rattle.oci_names.proofs.Algorithms.{named}
use Rattle.oci_digests.specs.Checks.{parts_of, named_by, named_algorithm}
use Rattle.oci_digests.specs.Hashes.{hash_of}
use Rattle.oci_digests.specs.Names.{prefix_of, digest_text}
use Rattle.oci_digests.specs.declared.error.DigestError.TheVariants.{UnsupportedAlgorithm}
use Rattle.oci_digests.proofs.HexDigits.{and_both, all_append, all_more, all_take, is_byte, is_lower_digit, short_bytes, long_bytes, encoded, encoded_length}

-- ---- facts by cases

-- the texts before and after the first colon
pub parts_named : (a : Algorithm) (digits : List ℕ) → parts_of (prefix_of a ++ digits) ≡ Some (name_of a, digits)
parts_named Sha256 digits = ap (λ b. if b then Some (name_of Sha256, digits) else None) (lt-ltb 6 (length (prefix_of Sha256 ++ digits)) (omega arith))
parts_named Sha384 digits = ap (λ b. if b then Some (name_of Sha384, digits) else None) (lt-ltb 6 (length (prefix_of Sha384 ++ digits)) (omega arith))
parts_named Sha512 digits = ap (λ b. if b then Some (name_of Sha512, digits) else None) (lt-ltb 6 (length (prefix_of Sha512 ++ digits)) (omega arith))

hash_bytes : (a : Algorithm) (bytes : List ℕ) → list_all is_byte (hash_of a bytes) ≡ true
unfolding short.sha256 long.sha384 long.sha512
hash_bytes Sha256 bytes = short_bytes (short.final_hash short.initial_hash_256 bytes) 8
hash_bytes Sha384 bytes = all_take is_byte 48 (long.digest_bytes (long.final_hash long.initial_hash_384 bytes) 8) (long_bytes (long.final_hash long.initial_hash_384 bytes) 8)
hash_bytes Sha512 bytes = long_bytes (long.final_hash long.initial_hash_512 bytes) 8

hash_length : (a : Algorithm) (bytes : List ℕ) → 2 * length (hash_of a bytes) ≡ digits_in a
hash_length Sha256 bytes = ap (λ n. 2 * n) (length-sha256 bytes)
hash_length Sha384 bytes = ap (λ n. 2 * n) (length-sha384 bytes)
hash_length Sha512 bytes = ap (λ n. 2 * n) (length-sha512 bytes)

-- digits after an algorithm's name are a digest of the grammar of references, if there are as many as its digests have
digest_if : (a : Algorithm) (digits : List ℕ) → is_hexadecimal digits ≡ true → is_digest (prefix_of a ++ digits) ≡ true
digest_if Sha256 digits is = is
digest_if Sha384 digits is = is
digest_if Sha512 digits is = is

known_if : (a : Algorithm) (digits : List ℕ) → length digits ≡ digits_in a → digest_refusal (prefix_of a ++ digits) ≡ None
known_if Sha256 digits is = ap (λ n. if n == 64 then None else Some DigestInvalidLength) is
known_if Sha384 digits is = ap (λ n. if n == 96 then None else Some DigestInvalidLength) is
known_if Sha512 digits is = ap (λ n. if n == 128 then None else Some DigestInvalidLength) is

some_digits : (a : Algorithm) (n : ℕ) → n ≡ digits_in a → not (n == 0) ≡ true
some_digits Sha256 n is = ap (λ n. not (n == 0)) is
some_digits Sha384 n is = ap (λ n. not (n == 0)) is
some_digits Sha512 n is = ap (λ n. not (n == 0)) is

-- ---- for any algorithm

pub algorithm_named : (a : Algorithm) (digits : List ℕ) → named_algorithm (prefix_of a ++ digits) ≡ Ok a
algorithm_named a digits = ap named_by (parts_named a digits) ∙ ap (λ o. ok_or o (UnsupportedAlgorithm (name_of a))) (named a)

-- the digits of a digest
pub digits_of_hash : (a : Algorithm) (bytes : List ℕ) → list_all is_lower_digit (encode_lower (hash_of a bytes)) ≡ true
digits_of_hash a bytes = encoded (hash_of a bytes) (hash_bytes a bytes)

-- and how many they are
pub digest_length : (a : Algorithm) (bytes : List ℕ) → length (encode_lower (hash_of a bytes)) ≡ digits_in a
digest_length a bytes = encoded_length lower_digits (hash_of a bytes) ∙ hash_length a bytes

-- if its digits and the bytes of an algorithm's name pass a test, all bytes of a digest text pass it
pub digest_all : (p : ℕ → Bool) (a : Algorithm) (bytes : List ℕ) → list_all p (prefix_of a) ≡ true → ((b : ℕ) → is_lower_digit b ≡ true → p b ≡ true) → list_all p (digest_text a bytes) ≡ true
digest_all p a bytes name digits = all_append p (prefix_of a) (encode_lower (hash_of a bytes)) name (all_more is_lower_digit p (encode_lower (hash_of a bytes)) digits (digits_of_hash a bytes))

hex_digit : (b : ℕ) → is_lower_digit b ≡ true → is_ascii_hexdigit b ≡ true
hex_digit b h = grind (arith, nat_tests, h)

is_hex : (a : Algorithm) (bytes : List ℕ) → is_hexadecimal (encode_lower (hash_of a bytes)) ≡ true
is_hex a bytes =
    let digits = encode_lower (hash_of a bytes) in
    and_both (not (length digits == 0)) (list_all is_ascii_hexdigit digits) (some_digits a (length digits) (digest_length a bytes)) (all_more is_lower_digit is_ascii_hexdigit digits hex_digit (digits_of_hash a bytes))

-- a reference may have it
pub digest_is_digest : (a : Algorithm) (bytes : List ℕ) → is_digest (digest_text a bytes) ≡ true
digest_is_digest a bytes = digest_if a (encode_lower (hash_of a bytes)) (is_hex a bytes)

pub digest_is_known : (a : Algorithm) (bytes : List ℕ) → digest_refusal (digest_text a bytes) ≡ None
digest_is_known a bytes = known_if a (encode_lower (hash_of a bytes)) (digest_length a bytes)
