-- The path of a URL's text.
use Rattle.std.specs.Prelude.{ℕ, Bool, ◌==◌, nat_eq, nat_lt, List, [], ◌∷◌, length, Option, Some, None, codes}
use Rattle.std.specs.Prelude.{option_map, option_and_then, if◌then◌else◌}
use Rattle.std.specs.Option.{option_or}
use Rattle.std.specs.List.{position_or_len, before_first, after_first}

-- the rest after this prefix
unfoldable pub after : List ℕ → List ℕ → Option (List ℕ)
after [] text = Some text
after (p ∷ front) [] = None
after (p ∷ front) (b ∷ text) = if nat_eq b p then after front text else None

-- the rest after the first `://`
unfoldable pub past_mark : List ℕ → Option (List ℕ)
past_mark [] = None
past_mark (b ∷ text) = option_or (after (codes "://") (b ∷ text)) (past_mark text)

abbrev pub is_slash : ℕ → Bool
is_slash b = b == 47

abbrev pub is_question_mark : ℕ → Bool
is_question_mark b = b == 63

-- the rest after the first slash
abbrev pub past_slash : List ℕ → Option (List ℕ)
past_slash text =
    if nat_lt (position_or_len is_slash text) (length text) then Some (after_first is_slash text) else None

-- from the first slash after `://`, without that slash, up to a `?`
unfoldable pub path_of : List ℕ → Option (List ℕ)
path_of url = option_map (before_first is_question_mark) (option_and_then past_slash (past_mark url))
