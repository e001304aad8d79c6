-- The subcommands.
use Rattle.std.specs.Prelude.{ℕ, List, [], ◌∷◌, Option, Some, None, if◌then◌else◌, codes, bytes_eq}
use Rattle.pull_run.specs.declared.word.Word.{Word}
use Rattle.pull_run.specs.declared.word.Word.TheVariants.{Pull, Canon, Check, Lock, LockCheck, Review, Mirror}

-- a single argument: `pull`, `canon`, `check`, `lock`, `lockcheck`, `review` or `mirror`
abbrev pub word_of : List (List ℕ) → Option Word
word_of (word ∷ []) =
    if bytes_eq word (codes "pull") then Some Pull
    else (if bytes_eq word (codes "canon") then Some Canon
    else (if bytes_eq word (codes "check") then Some Check
    else (if bytes_eq word (codes "lock") then Some Lock
    else (if bytes_eq word (codes "lockcheck") then Some LockCheck
    else (if bytes_eq word (codes "review") then Some Review
    else (if bytes_eq word (codes "mirror") then Some Mirror else None))))))
word_of words = None
