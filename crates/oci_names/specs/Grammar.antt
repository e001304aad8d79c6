-- The words of the reference grammar, each as a test of the bytes of a text.
use Rattle.std.specs.Prelude.{ℕ, ◌-◌, ◌==◌, List, [], ◌∷◌, Bool, true, false, ◌&&◌, ◌||◌, not, if◌then◌else◌, Option}
use Rattle.std.specs.Prelude.{Some, None, length, nat_le, slice_get, codes}
use Rattle.std.specs.List.{list_all, list_any, slice_split, before_first, after_first}
use Rattle.std.specs.Option.{option_map_or}
use Rattle.std.specs.Char.{is_ascii_alphanumeric, is_ascii_digit, is_ascii_lowercase, is_ascii_hexdigit}
use Rattle.std.specs.Str.{bytes_eq}

-- the bytes before the first such byte, or all if there is none
abbrev pub before : ℕ → List ℕ → List ℕ
before c xs = before_first (λ b. b == c) xs

-- the bytes after the first such byte, if there is one
abbrev pub after : ℕ → List ℕ → Option (List ℕ)
after c xs = if list_any (λ b. b == c) xs then Some (after_first (λ b. b == c) xs) else None

-- the first and the last byte are letters
abbrev pub has_letter_ends : (ℕ → Bool) → List ℕ → Bool
has_letter_ends letter xs =
    option_map_or letter (slice_get xs 0) false && option_map_or letter (slice_get xs (length xs - 1)) false

-- runs of letters joined by separators: two letters are adjacent, or have a separator between them
abbrev pub is_joined : (ℕ → Bool) → (List ℕ → Bool) → List ℕ → Bool
is_joined letter separator xs = has_letter_ends letter xs && list_all separator (slice_split letter xs)

abbrev pub is_dashes : List ℕ → Bool
is_dashes gap = list_all (λ b. b == 45) gap

-- ASCII letters, digits and inner dashes
abbrev pub is_domain_component : List ℕ → Bool
is_domain_component xs = is_joined is_ascii_alphanumeric is_dashes xs

-- components joined by dots
abbrev pub is_host : List ℕ → Bool
is_host xs = list_all is_domain_component (slice_split (λ b. b == 46) xs)

abbrev pub is_digits : List ℕ → Bool
is_digits xs = not (length xs == 0) && list_all is_ascii_digit xs

-- a host, with an optional colon and digits
abbrev pub is_domain : List ℕ → Bool
is_domain xs = is_host (before 58 xs) && option_map_or is_digits (after 58 xs) true

abbrev pub is_path_letter : ℕ → Bool
is_path_letter b = is_ascii_lowercase b || is_ascii_digit b

-- a dot, one or two underscores, or any number of dashes
abbrev pub is_path_separator : List ℕ → Bool
is_path_separator gap =
    is_dashes gap || bytes_eq gap (codes ".") || bytes_eq gap (codes "_") || bytes_eq gap (codes "__")

abbrev pub is_path_component : List ℕ → Bool
is_path_component xs = is_joined is_path_letter is_path_separator xs

-- components joined by slashes
abbrev pub is_path : List ℕ → Bool
is_path xs = list_all is_path_component (slice_split (λ b. b == 47) xs)

abbrev pub is_tag_start : ℕ → Bool
is_tag_start b = is_ascii_alphanumeric b || b == 95

abbrev pub is_tag_byte : ℕ → Bool
is_tag_byte b = is_tag_start b || b == 46 || b == 45

-- a letter, a digit or an underscore, then up to 127 of these, dots and dashes
abbrev pub is_tag : List ℕ → Bool
is_tag [] = false
is_tag (x ∷ xs) = is_tag_start x && nat_le (length xs) 127 && list_all is_tag_byte xs

-- nothing, or one of `+`, `.`, `_` and `-`
abbrev pub is_algorithm_separator : List ℕ → Bool
is_algorithm_separator [] = true
is_algorithm_separator (b ∷ bs) = (b == 43 || b == 46 || b == 95 || b == 45) && length bs == 0

-- runs of ASCII letters and digits joined by single separators
abbrev pub is_algorithm : List ℕ → Bool
is_algorithm xs = is_joined is_ascii_alphanumeric is_algorithm_separator xs

abbrev pub is_hexadecimal : List ℕ → Bool
is_hexadecimal xs = not (length xs == 0) && list_all is_ascii_hexdigit xs

-- an algorithm, a colon and hexadecimal digits
abbrev pub is_digest : List ℕ → Bool
is_digest xs = is_algorithm (before 58 xs) && option_map_or is_hexadecimal (after 58 xs) false
