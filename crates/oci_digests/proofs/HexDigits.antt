-- The hexadecimal digits of a hash, and tests that all bytes of a text pass.
use Rattle.std.specs.Prelude.{slice_index, nat_lt, nat_le}
use Rattle.std.specs.List.{list_all}
use Rattle.std.specs.Int.{byte_at, bytes_high_first, to_be_bytes, w32, w64}
use Rattle.std.proofs.Common.{◌≡◌, ◌<◌, ◌/◌, ◌%◌, ◌*◌, ℕ, zero, suc, Bool, true, false, ◌&&◌, ◌||◌, List, [], ◌∷◌, ◌++◌, length, get_or, take, refl, arith}
use Rattle.std.proofs.lemmas.Bool.Decides.{nat_tests}
use Rattle.hex.specs.Hex.{lower_digits, encode_with, encode_lower}
use Rattle.sha2.specs.Sha256 as short
use Rattle.sha2.specs.Sha512 as long

pub and_left : (a b : Bool) → (a && b) ≡ true → a ≡ true
and_left true b h = refl
and_left false b h = cc h

pub and_right : (a b : Bool) → (a && b) ≡ true → b ≡ true
and_right true b h = h
and_right false b h = cc h

pub and_both : (a b : Bool) → a ≡ true → b ≡ true → (a && b) ≡ true
and_both true b h k = k
and_both false b h k = cc h

pub all_append : (p : ℕ → Bool) (xs ys : List ℕ) → list_all p xs ≡ true → list_all p ys ≡ true → list_all p (xs ++ ys) ≡ true
all_append p [] ys h k = k
all_append p (x ∷ xs) ys h k = and_both (p x) (list_all p (xs ++ ys)) (and_left (p x) (list_all p xs) h) (all_append p xs ys (and_right (p x) (list_all p xs) h) k)

pub all_more : (p q : ℕ → Bool) (xs : List ℕ) → ((b : ℕ) → p b ≡ true → q b ≡ true) → list_all p xs ≡ true → list_all q xs ≡ true
all_more p q [] more h = refl
all_more p q (x ∷ xs) more h = and_both (q x) (list_all q xs) (more x (and_left (p x) (list_all p xs) h)) (all_more p q xs more (and_right (p x) (list_all p xs) h))

all_at : (p : ℕ → Bool) (xs : List ℕ) (i : ℕ) → list_all p xs ≡ true → i < length xs → p (get_or xs i 0) ≡ true
all_at p [] i h lt = absurd (omega (arith, lt))
all_at p (x ∷ xs) zero h lt = and_left (p x) (list_all p xs) h
all_at p (x ∷ xs) (suc i) h lt = all_at p xs i (and_right (p x) (list_all p xs) h) (omega (arith, lt))

pub all_take : (p : ℕ → Bool) (n : ℕ) (xs : List ℕ) → list_all p xs ≡ true → list_all p (take n xs) ≡ true
all_take p zero xs h = refl
all_take p (suc n) [] h = refl
all_take p (suc n) (x ∷ xs) h = and_both (p x) (list_all p (take n xs)) (and_left (p x) (list_all p xs) h) (all_take p n xs (and_right (p x) (list_all p xs) h))

-- a lower-case hexadecimal digit
abbrev pub is_lower_digit : ℕ → Bool
is_lower_digit b = (nat_le 48 b && nat_le b 57) || (nat_le 97 b && nat_le b 102)

abbrev pub is_byte : ℕ → Bool
is_byte b = nat_lt b 256

digit : (n : ℕ) → n < 16 → is_lower_digit (slice_index lower_digits n) ≡ true
digit n lt = all_at is_lower_digit lower_digits n refl lt

below : (n : ℕ) → is_byte (n % 256) ≡ true
below n = grind (arith, nat_tests)

one_byte : (k n : ℕ) → is_byte (byte_at k n) ≡ true
one_byte zero n = below n
one_byte (suc k) n = below _

number_bytes : (k n : ℕ) → list_all is_byte (bytes_high_first k n) ≡ true
number_bytes zero n = refl
number_bytes (suc k) n = and_both (is_byte (byte_at k n)) _ (one_byte k n) (number_bytes k n)

pub short_bytes : (h : List ℕ) (n : ℕ) → list_all is_byte (short.digest_bytes h n) ≡ true
unfolding short.digest_bytes
short_bytes h zero = refl
short_bytes h (suc n) = all_append is_byte (short.digest_bytes h n) (to_be_bytes w32 (slice_index h n)) (short_bytes h n) (number_bytes 4 (slice_index h n))

pub long_bytes : (h : List ℕ) (n : ℕ) → list_all is_byte (long.digest_bytes h n) ≡ true
unfolding long.digest_bytes
long_bytes h zero = refl
long_bytes h (suc n) = all_append is_byte (long.digest_bytes h n) (to_be_bytes w64 (slice_index h n)) (long_bytes h n) (number_bytes 8 (slice_index h n))

pub encoded : (xs : List ℕ) → list_all is_byte xs ≡ true → list_all is_lower_digit (encode_lower xs) ≡ true
unfolding encode_with
encoded [] h = refl
encoded (x ∷ xs) h =
    let small = and_left (is_byte x) (list_all is_byte xs) h in
    let high : x / 16 < 16 = grind (arith, nat_tests, small) in
    let low : x % 16 < 16 = omega arith in
    and_both (is_lower_digit (slice_index lower_digits (x / 16))) _ (digit (x / 16) high) (and_both (is_lower_digit (slice_index lower_digits (x % 16))) _ (digit (x % 16) low) (encoded xs (and_right (is_byte x) (list_all is_byte xs) h)))

pub encoded_length : (t xs : List ℕ) → length (encode_with t xs) ≡ 2 * length xs
unfolding encode_with
encoded_length t [] = refl
encoded_length t (x ∷ xs) = let rest = encoded_length t xs in omega (arith, rest)
