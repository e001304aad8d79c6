-- Stored tokens, each under a registry, a repository and an operation. The one that was stored last is the first.
use Rattle.std.specs.Prelude.{◌≡◌, ◌≢◌, ◌≤◌, ◌⊎◌, ℕ, List, ◌∷◌, Bool, true, false, ◌&&◌, not, bytes_eq, nat_le}
use Rattle.std.specs.Prelude.{Option, Some, None, filter, take, length, max}
use Rattle.std.specs.Option.{option_map_or}
use Rattle.std.specs.List.{find, AllPairs}
use Rattle.oci_auth.specs.declared.kept.KeptToken.{KeptToken}
use Rattle.oci_auth.specs.declared.token_type.RegistryOperation.{RegistryOperation}
use Rattle.oci_auth.specs.Operations.{is_same_operation}

-- the key under which a token is stored
pub record Key : Type 0 where
  pub registry : List ℕ
  pub repository : List ℕ
  pub operation : RegistryOperation

abbrev pub under : List ℕ → List ℕ → RegistryOperation → Key
under registry repository operation =
    record { registry = registry; repository = repository; operation = operation }

abbrev pub key_in : KeptToken → Key
key_in t = under t.registry t.repository t.operation

-- whether a token is stored under this key
abbrev pub is_under : Key → KeptToken → Bool
is_under key t =
    bytes_eq t.registry key.registry && bytes_eq t.repository key.repository
    && is_same_operation t.operation key.operation

-- the token that is stored under this key
abbrev pub kept_under : Key → List KeptToken → Option KeptToken
kept_under key ts = find (is_under key) ts

-- no two tokens are stored under the same key
abbrev pub HaveOwnKeys : List KeptToken → Type 0
HaveOwnKeys ts = AllPairs (λ a b. is_under (key_in a) b ≡ false) ts

-- whether the token under this key has not expired at this moment
abbrev pub is_valid : ℕ → Key → List KeptToken → Bool
is_valid moment key ts = option_map_or (λ t. nat_le moment t.expiration) (kept_under key ts) false

-- the tokens that have not expired at this moment
abbrev pub unexpired : ℕ → List KeptToken → List KeptToken
unexpired moment ts = filter (λ t. is_valid moment (key_in t) ts) ts

-- at most so many tokens, but always the first; without a bound all of them
abbrev pub within : Option ℕ → List KeptToken → List KeptToken
within None ts = ts
within (Some most) ts = take (max most 1) ts

-- the token is the first, and replaces the one under its key; expired tokens are dropped, and of the others those that
-- were stored first, if they are too many
abbrev pub inserted : Option ℕ → ℕ → List KeptToken → KeptToken → List KeptToken
inserted most moment ts t = within most (t ∷ filter (λ other. not (is_under (key_in t) other)) (unexpired moment ts))

-- the tokens are as few as the bound asks
abbrev pub AreWithin : Option ℕ → List KeptToken → Type 0
AreWithin None ts = Unit {0}
AreWithin (Some most) ts = length ts ≤ max most 1

-- nothing, or this
abbrev pub NoneOr : {A : Type 0} → Option A → Option A → Type 0
NoneOr found a = (found ≡ None) ⊎ (found ≡ a)

-- Afterwards the token is stored under its key. Under another key no other token is stored than before, and without a
-- bound the same if it has not expired.
pub record IsKept (most : Option ℕ) (moment : ℕ) (old new : List KeptToken) (t : KeptToken) : Type 0 where
  pub here : kept_under (key_in t) new ≡ Some t
  pub others : (key : Key) → key ≢ key_in t → NoneOr (kept_under key new) (kept_under key old)
  pub valid : (key : Key) → key ≢ key_in t → most ≡ None → is_valid moment key old ≡ true
      → kept_under key new ≡ kept_under key old
