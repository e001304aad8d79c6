-- Base64 needs no escapes in a JSON string.
use Rattle.std.proofs.Common.{◌≡◌, ℕ, zero, suc, ◌+◌, ◌*◌, ◌/◌, ◌%◌, ◌<◌, Bool, true, List, [], ◌∷◌, ◌++◌, slice_index, length, refl, ap, ◌∙◌, arith}
use Rattle.std.specs.Prelude.{replicate}
use Rattle.std.specs.Str.{bytes_eq}
use Rattle.std.proofs.lemmas.Grind.{flat_map-append}
use Rattle.std.proofs.lemmas.Slice.Eq.{bytes_eq-Decides}
use Rattle.base64.specs.Engines.{standard}
use Rattle.base64.specs.GeneralPurpose.{IsBytes, encode_of, engine_symbols}
use Rattle.base64.specs.Rfc4648.{encode_symbols, padding_len}
use Rattle.base64.specs.Tables.{all_below}
use Rattle.base64.proofs.Tables.{all_below_at}
use Rattle.json.specs.Print.{escape, escape_byte}

-- the 64 symbols
abbrev table : List ℕ
table = engine_symbols standard

abbrev is_plain : ℕ → Bool
is_plain i = bytes_eq (escape_byte (slice_index table i)) (slice_index table i ∷ [])

all_plain : all_below is_plain 64 ≡ true
unfolding escape_byte
all_plain = refl

symbol : (i : ℕ) → i < 64 → escape_byte (slice_index table i) ≡ slice_index table i ∷ []
symbol i lt = (bytes_eq-Decides (escape_byte (slice_index table i)) (slice_index table i ∷ [])).0 (all_below_at is_plain 64 i all_plain lt)

symbols : (m : List ℕ) → IsBytes m → escape (encode_symbols table m) ≡ encode_symbols table m
unfolding encode_symbols
symbols [] h = refl
symbols (a ∷ []) h =
    let first : a < 256 = h 0 in
    rw (symbol (a / 4) (omega arith), symbol (a % 4 * 16) (omega arith)) refl
symbols (a ∷ b ∷ []) h =
    let first : a < 256 = h 0 in
    let second : b < 256 = h 1 in
    rw (symbol (a / 4) (omega arith), symbol (a % 4 * 16 + b / 16) (omega arith), symbol (b % 16 * 4) (omega arith)) refl
symbols (a ∷ b ∷ c ∷ rest) h =
    let first : a < 256 = h 0 in
    let second : b < 256 = h 1 in
    let third : c < 256 = h 2 in
    rw (symbol (a / 4) (omega arith), symbol (a % 4 * 16 + b / 16) (omega arith), symbol (b % 16 * 4 + c / 64) (omega arith), symbol (c % 64) (omega arith), symbols rest (λ i. h (suc (suc (suc i))))) refl

padded : (n : ℕ) → escape (replicate n 61) ≡ replicate n 61
unfolding escape_byte
padded zero = refl
padded (suc n) = ap (λ l. 61 ∷ l) (padded n)

pub unescaped : (m : List ℕ) → IsBytes m → escape (encode_of standard m) ≡ encode_of standard m
unescaped m h = flat_map-append escape_byte (encode_symbols table m) (replicate (padding_len (length m)) 61) ∙ (λ i. symbols m h i ++ padded (padding_len (length m)) i)
