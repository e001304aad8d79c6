-- Canonical texts (RFC 8785, 3.2).
use Rattle.std.specs.Prelude.{ℕ, ◌/◌, ◌%◌, List, [], ◌∷◌, ◌++◌, ◌==◌, nat_lt, if◌then◌else◌, flat_map, codes}
use Rattle.std.specs.Char.{digit_char}

-- the bytes of a canonical string for one byte of the text. Bytes of non-ASCII characters are copied verbatim
abbrev pub escaped : ℕ → List ℕ
escaped b =
    if b == 34 then codes "\\\""
    else (if b == 92 then codes "\\\\"
    else (if b == 8 then codes "\\b"
    else (if b == 9 then codes "\\t"
    else (if b == 10 then codes "\\n"
    else (if b == 12 then codes "\\f"
    else (if b == 13 then codes "\\r"
    else (if nat_lt b 32 then codes "\\u00" ++ digit_char (b / 16) ∷ digit_char (b % 16) ∷ []
    else b ∷ [])))))))

-- the text between quotes, with its escapes
abbrev pub quoted_text : List ℕ → List ℕ
quoted_text text = 34 ∷ (flat_map escaped text ++ 34 ∷ [])
