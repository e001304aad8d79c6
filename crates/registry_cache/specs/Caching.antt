-- What kept answers are to a call, and what is still given of them.
use Rattle.std.specs.Prelude.{ℕ, Bool, true, false, List, Option, Some, None, option_and_then}
use Rattle.registry_cache.specs.Answers.{fresh}
use Rattle.registry_cache.specs.declared.answer.Answer.{Answer}
use Rattle.registry_cache.specs.declared.answer.Kind.{Kind}
use Rattle.registry_cache.specs.declared.answers.Answers.{Answers}

-- the cache of one kind of call: the kind, how a response is stored, and how a stored one is read
pub record Cache (A : Type 0) : Type 0 where
  pub kind : Kind
  pub kept_as : A → Answer
  pub read : Answer → Option A

-- the response that the client still returns for this key; `None` if the client does not cache
abbrev pub known : {A : Type 0} → Cache A → List ℕ → ℕ → Option Answers → Option A
known cache key now answers =
    option_and_then cache.read (option_and_then (fresh cache.kind key now) answers)

-- the key of the response, if it may be cached
abbrev pub key_if : Bool → List ℕ → Option (List ℕ)
key_if true key = Some key
key_if false key = None
