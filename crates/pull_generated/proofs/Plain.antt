-- Texts that need no escapes and are UTF-8.
use Rattle.std.proofs.Common.{◌≡◌, ◌&&◌, ◌||◌, ◌==◌, ◌<◌, ◌≤◌, ◌^◌, ℕ, Bool, true, List, [], ◌∷◌, ◌++◌, IsUtf8, refl, sym, ap, ◌∙◌, arith}
use Rattle.std.specs.Prelude.{nat_le, decimal}
use Rattle.std.specs.List.{list_all, concat}
use Rattle.std.proofs.lemmas.Bool.Decides.{nat_tests}
use Rattle.std.proofs.lemmas.Fmt.{digits_decimal}
use Rattle.json.specs.Print.{escape, escape_byte}
use Rattle.json.proofs.Printed.Strings.{escape_byte_plain}
use Rattle.oci_digests.specs.Checks.{is_header_text}
use Rattle.oci_names.specs.declared.algorithm.Algorithm.TheVariants.{Sha256}
use Rattle.oci_digests.proofs.HeaderText.{is_text}
use Rattle.oci_digests.proofs.HexDigits.{and_left, and_right, all_append, all_more, is_lower_digit}
use Rattle.oci_digests.proofs.Algorithms.{digest_all}
use Rattle.json_values.specs.Decimals.{is_digit}
use Rattle.json_values.proofs.Decimals.{numeral}
use Rattle.pull_generated.specs.Texts.{sha256_text}

-- ---- bytes that need no escape in a string

abbrev pub is_plain_byte : ℕ → Bool
is_plain_byte b = nat_le 35 b && (nat_le b 91 || nat_le 93 b)

not_backslash : (b : ℕ) → is_plain_byte b ≡ true → b ≡ 92 → ⊥
not_backslash b h e = cc (sym h ∙ ap is_plain_byte e)

plain_escape : (b : ℕ) → is_plain_byte b ≡ true → escape_byte b ≡ b ∷ []
plain_escape b h =
    let low : 35 ≤ b = grind (arith, nat_tests, h) in
    escape_byte_plain b (λ e. omega (arith, low, e)) (not_backslash b h) (omega (arith, low))

pub plain_stays : (s : List ℕ) → list_all is_plain_byte s ≡ true → escape s ≡ s
plain_stays [] h = refl
plain_stays (b ∷ s) h = ap (λ xs. xs ++ escape s) (plain_escape b (and_left (is_plain_byte b) (list_all is_plain_byte s) h)) ∙ ap (λ xs. b ∷ xs) (plain_stays s (and_right (is_plain_byte b) (list_all is_plain_byte s) h))

hex_plain : (b : ℕ) → is_lower_digit b ≡ true → is_plain_byte b ≡ true
hex_plain b h = grind (arith, nat_tests, h)

pub digest_stays : (bytes : List ℕ) → escape (sha256_text bytes) ≡ sha256_text bytes
digest_stays bytes = plain_stays (sha256_text bytes) (digest_all is_plain_byte Sha256 bytes refl hex_plain)

-- ---- valid header values are UTF-8

abbrev is_text_byte : ℕ → Bool
is_text_byte b = b == 9 || (nat_le 32 b && nat_le b 126)

hex_text : (b : ℕ) → is_lower_digit b ≡ true → is_text_byte b ≡ true
hex_text b h = grind (arith, nat_tests, h)

digit_text : (b : ℕ) → is_digit b ≡ true → is_text_byte b ≡ true
digit_text b h = grind (arith, nat_tests, h)

pub digest_shows : (bytes : List ℕ) → is_header_text (sha256_text bytes) ≡ true
digest_shows bytes = digest_all is_text_byte Sha256 bytes refl hex_text

pub decimal_shows : (n : ℕ) → n < 2 ^ 64 → is_header_text (decimal n) ≡ true
decimal_shows n small = all_more is_digit is_text_byte (decimal n) digit_text (digits_decimal numeral n small)

-- each of these texts is a valid header value (RFC 9110, 5.5)
abbrev pub AllShow : List (List ℕ) → Type 0
AllShow [] = Unit {0}
AllShow (x ∷ xs) = (is_header_text x ≡ true) × AllShow xs

pub concat_shows : (xs : List (List ℕ)) → AllShow xs → is_header_text (concat xs) ≡ true
concat_shows [] h = refl
concat_shows (x ∷ xs) h = all_append is_text_byte x (concat xs) h.0 (concat_shows xs h.1)

pub shown_utf8 : (text : List ℕ) → is_header_text text ≡ true → IsUtf8 text
shown_utf8 text h = is_text text h
