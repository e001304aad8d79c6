-- The tokens that a client stores.
use Rattle.std.specs.Prelude.{◌≡◌, ◌≢◌, ◌≤◌, ℕ, ◌-◌, ◌^◌, nat_le, if◌then◌else◌}
use Rattle.std.specs.Prelude.{Option, Some, None, option_and_then}
use Rattle.std.specs.Option.{option_map_or}
use Rattle.oci_names.specs.declared.reference.Reference.{Reference}
use Rattle.oci_names.specs.Reference.{resolved_registry, repository_of}
use Rattle.oci_auth.specs.declared.cache.TokenCache.{TokenCache}
use Rattle.oci_auth.specs.declared.kept.KeptToken.{KeptToken}
use Rattle.oci_auth.specs.declared.token_type.RegistryOperation.{RegistryOperation}
use Rattle.oci_auth.specs.declared.token_type.RegistryTokenType.{RegistryTokenType}
use Rattle.oci_auth.specs.declared.token_type.RegistryTokenType.TheVariants.{Bearer, Basic}
use Rattle.oci_auth.specs.Expiration.{expiration_of}
use Rattle.oci_auth.specs.Kept.{Key, under, kept_under, within, inserted, NoneOr}
use Rattle.oci_auth.specs.Token.{token_text}

-- the key of a token for this reference: the registry that receives requests, the repository and the operation
abbrev pub key_of : Reference → RegistryOperation → Key
key_of image operation = under (resolved_registry image) (repository_of image) operation

-- when a token expires; credentials never do
abbrev pub kept_until : RegistryTokenType → ℕ → ℕ → Option ℕ
kept_until (Bearer token) default moment = expiration_of (token_text token) default moment
kept_until (Basic user password) default moment = Some (2 ^ 64 - 1)

-- a token with its key and expiration
abbrev pub kept_token : Key → RegistryTokenType → ℕ → KeptToken
kept_token key token until = record {
  registry = key.registry;
  repository = key.repository;
  operation = key.operation;
  token = token;
  expiration = until;
}

-- the cache with this token, which is stored if its expiration is known; then expired tokens are dropped
abbrev pub with_token : TokenCache → Key → RegistryTokenType → ℕ → TokenCache
with_token cache key token moment =
    option_map_or
    (λ until. record cache { tokens = inserted cache.most moment cache.tokens (kept_token key token until) })
    (kept_until token cache.default_expiration_secs moment)
    cache

-- the cache with this bound; the tokens that were stored first are dropped, if they are too many
abbrev pub bounded : ℕ → TokenCache → TokenCache
bounded most cache = record cache { most = Some most; tokens = within (Some most) cache.tokens }

-- a token is returned until it expires
abbrev pub given_at : ℕ → KeptToken → Option RegistryTokenType
given_at moment t = if nat_le moment t.expiration then Some t.token else None

-- the token that a cache returns for a key at a moment
abbrev pub token_at : TokenCache → Key → ℕ → Option RegistryTokenType
token_at cache key moment = option_and_then (given_at moment) (kept_under key cache.tokens)

-- Afterwards the token is returned for its key until it expires. For another key no other token is returned than
-- before, and without a bound the same at this moment and later.
pub record GivesUntil (old new : TokenCache) (key : Key) (token : RegistryTokenType) (moment until : ℕ) : Type 0 where
  pub here : (at : ℕ) → token_at new key at ≡ (if nat_le at until then Some token else None)
  pub others : (other : Key) (at : ℕ) → other ≢ key → NoneOr (token_at new other at) (token_at old other at)
  pub later : (other : Key) (at : ℕ) → other ≢ key → old.most ≡ None → moment ≤ at
      → token_at new other at ≡ token_at old other at

-- the token is returned from now on, if its expiration is known; otherwise nothing changed
abbrev pub GivesFrom : TokenCache → TokenCache → Key → RegistryTokenType → ℕ → Option ℕ → Type 0
GivesFrom old new key token moment (Some until) = GivesUntil old new key token moment until
GivesFrom old new key token moment None = new ≡ old
