-- Tags that are derived from digests.
use Rattle.std.specs.Prelude.{codes, nat_lt, chars, encode_utf8_all, bytes_eq, not, map as each, if◌then◌else◌}
use Rattle.std.specs.List.{list_all, list_any}
use Rattle.std.specs.Str.{IsAscii}
use Rattle.std.proofs.Common.{◌≡◌, ℕ, zero, suc, Bool, true, false, ◌||◌, ◌==◌, List, [], ◌∷◌, ◌++◌, length, get_or, refl, sym, ap, ◌∙◌, subst, arith, length-append}
use Rattle.std.proofs.lemmas.Bool.Decides.{nat_tests}
use Rattle.std.proofs.lemmas.List.{map-append}
use Rattle.std.proofs.lemmas.List.Folds.{list_any-append}
use Rattle.std.proofs.lemmas.Slice.Eq.{bytes_eq-Decides}
use Rattle.std.proofs.lemmas.Str.{chars-IsAscii, encodes-IsAscii}
use Rattle.hex.specs.Hex.{encode_lower}
use Rattle.oci_names.specs.Grammar.{is_tag_byte}
use Rattle.oci_names.specs.Words.{Tag}
use Rattle.oci_digests.specs.Names.{Names, digest_text, prefix_of}
use Rattle.oci_digests.specs.Hashes.{hash_of}
use Rattle.oci_names.specs.declared.algorithm.Algorithm.{Algorithm}
use Rattle.oci_names.specs.declared.algorithm.Algorithm.TheVariants.{Sha256}
use Rattle.oci_names.specs.Algorithms.{name_of}
use Rattle.oci_names.proofs.Algorithms.{each as passes}
use Rattle.oci_link.specs.PlainPaths.{is_first_byte, is_segment_byte, Segment}
use Rattle.oci_digests.proofs.HexDigits.{and_left, and_right, all_append, all_more, is_lower_digit}
use Rattle.oci_digests.proofs.Algorithms.{digits_of_hash, digest_length}
use Rattle.oci_digests.proofs.SameBytes.{own_text}
use Rattle.shelf_laws.proofs.PlainNames.{begins_by, hash_segment}

-- a dash replacing each colon
abbrev dashed : ℕ → ℕ
dashed c = if c == 58 then 45 else c

abbrev with_dashes : List ℕ → List ℕ
with_dashes text = encode_utf8_all (each dashed (chars text))

-- a digest that begins with `sha256:`
pub sha256_named : (digest digits bytes : List ℕ) → digest ≡ prefix_of Sha256 ++ digits → Names digest bytes → digest ≡ digest_text Sha256 bytes
sha256_named digest digits bytes is named = own_text Sha256 digest digits bytes named is

lower_ascii : (b : ℕ) → is_lower_digit b ≡ true → nat_lt b 128 ≡ true
lower_ascii b h = grind (arith, nat_tests, h)

ascii_from : (xs : List ℕ) → list_all (λ b. nat_lt b 128) xs ≡ true → IsAscii xs
ascii_from [] h i = omega arith
ascii_from (x ∷ xs) h zero = let small = and_left (nat_lt x 128) (list_all (λ b. nat_lt b 128) xs) h in grind (arith, nat_tests, small)
ascii_from (x ∷ xs) h (suc i) = ascii_from xs (and_right (nat_lt x 128) (list_all (λ b. nat_lt b 128) xs) h) i

undashed_one : (x : ℕ) → is_lower_digit x ≡ true → dashed x ≡ x
undashed_one x h = let other : (x == 58) ≡ false = grind (arith, nat_tests, h) in rw other refl

undashed : (xs : List ℕ) → list_all is_lower_digit xs ≡ true → each dashed xs ≡ xs
undashed [] h = refl
undashed (x ∷ xs) h =
    let first = undashed_one x (and_left (is_lower_digit x) (list_all is_lower_digit xs) h) in
    let rest = undashed xs (and_right (is_lower_digit x) (list_all is_lower_digit xs) h) in
    λ i. first i ∷ rest i

digits_ascii : (a : Algorithm) (front bytes : List ℕ) → list_all (λ b. nat_lt b 128) front ≡ true → IsAscii (front ++ encode_lower (hash_of a bytes))
digits_ascii a front bytes h = ascii_from (front ++ encode_lower (hash_of a bytes)) (all_append (λ b. nat_lt b 128) front (encode_lower (hash_of a bytes)) h (all_more is_lower_digit (λ b. nat_lt b 128) (encode_lower (hash_of a bytes)) lower_ascii (digits_of_hash a bytes)))

-- the name of an algorithm, and a dash
abbrev pub dashed_name : Algorithm → List ℕ
dashed_name a = name_of a ++ codes "-"

ascii_name : (a : Algorithm) → list_all (λ b. nat_lt b 128) (prefix_of a) ≡ true
ascii_name a = passes (λ a. list_all (λ b. nat_lt b 128) (prefix_of a)) refl a

ascii_dashed : (a : Algorithm) → list_all (λ b. nat_lt b 128) (dashed_name a) ≡ true
ascii_dashed a = passes (λ a. list_all (λ b. nat_lt b 128) (dashed_name a)) refl a

name_dashed : (a : Algorithm) (digits : List ℕ) → each dashed (prefix_of a ++ digits) ≡ dashed_name a ++ each dashed digits
name_dashed a digits =
    map-append dashed (prefix_of a) digits
    ∙ ap (λ (t : List ℕ). t ++ each dashed digits) ((bytes_eq-Decides (each dashed (prefix_of a)) (dashed_name a)).0 (passes (λ a. bytes_eq (each dashed (prefix_of a)) (dashed_name a)) refl a))

-- a dash replaces the colon
pub dashed_text : (a : Algorithm) (bytes : List ℕ) → with_dashes (digest_text a bytes) ≡ dashed_name a ++ encode_lower (hash_of a bytes)
dashed_text a bytes =
    let digits = encode_lower (hash_of a bytes) in
    ap (λ (t : List ℕ). encode_utf8_all (each dashed t)) (chars-IsAscii (digest_text a bytes) (digits_ascii a (prefix_of a) bytes (ascii_name a)))
    ∙ ap encode_utf8_all (name_dashed a digits)
    ∙ ap (λ (t : List ℕ). encode_utf8_all (dashed_name a ++ t)) (undashed digits (digits_of_hash a bytes))
    ∙ encodes-IsAscii (dashed_name a ++ digits) (digits_ascii a (dashed_name a) bytes (ascii_dashed a))

sig_plain : (b : ℕ) → is_lower_digit b ≡ true → is_tag_byte b ≡ true
sig_plain b h = grind (arith, nat_tests, h)

spelled_tag : (digits : List ℕ) → length digits ≡ 64 → list_all is_lower_digit digits ≡ true → Tag (codes "sha256-" ++ digits ++ codes ".sig")
spelled_tag digits long all =
    let len = length-append digits (codes ".sig") in
    (115, codes "ha256-" ++ digits ++ codes ".sig", refl, refl, omega (arith, len, long), all_append is_tag_byte (codes "ha256-" ++ digits) (codes ".sig") (all_append is_tag_byte (codes "ha256-") digits refl (all_more is_lower_digit is_tag_byte digits sig_plain all)) refl)

-- a tag for the signatures of such a digest
pub tag_of_signatures : (digest bytes : List ℕ) → digest ≡ digest_text Sha256 bytes → Tag (with_dashes digest ++ codes ".sig")
tag_of_signatures digest bytes is = subst Tag (sym (ap (λ (d : List ℕ). with_dashes d ++ codes ".sig") is ∙ ap (λ (t : List ℕ). t ++ codes ".sig") (dashed_text Sha256 bytes))) (spelled_tag (encode_lower (hash_of Sha256 bytes)) (digest_length Sha256 bytes) (digits_of_hash Sha256 bytes))

tag_digit : (b : ℕ) → is_lower_digit b ≡ true → (b == 58) ≡ false
tag_digit b h = grind (arith, nat_tests, h)

-- a digest with a dash is a segment
pub dashed_segment : (a : Algorithm) (bytes : List ℕ) → Segment (dashed_name a ++ encode_lower (hash_of a bytes))
dashed_segment a bytes = hash_segment (dashed_name a) a bytes (passes (λ a. begins_by is_first_byte (dashed_name a)) refl a) (passes (λ a. list_all is_segment_byte (dashed_name a)) refl a)

-- and contains no colon
colonless : (xs : List ℕ) → list_all is_lower_digit xs ≡ true → list_any (λ b. b == 58) xs ≡ false
colonless [] h = refl
colonless (x ∷ xs) h = ap (λ b. b || list_any (λ b. b == 58) xs) (tag_digit x (and_left (is_lower_digit x) (list_all is_lower_digit xs) h)) ∙ colonless xs (and_right (is_lower_digit x) (list_all is_lower_digit xs) h)

no_colon : (b : Bool) → not b ≡ true → b ≡ false
no_colon true h = absurd (cc h)
no_colon false h = refl

pub dashed_colonless : (a : Algorithm) (bytes : List ℕ) → list_any (λ b. b == 58) (dashed_name a ++ encode_lower (hash_of a bytes)) ≡ false
dashed_colonless a bytes =
    list_any-append (λ b. b == 58) (dashed_name a) (encode_lower (hash_of a bytes))
    ∙ ap (λ b. b || list_any (λ b. b == 58) (encode_lower (hash_of a bytes))) (no_colon (list_any (λ b. b == 58) (dashed_name a)) (passes (λ a. not (list_any (λ b. b == 58) (dashed_name a))) refl a))
    ∙ colonless (encode_lower (hash_of a bytes)) (digits_of_hash a bytes)
