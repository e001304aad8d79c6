-- The states of a registry's clients.
use Rattle.std.specs.Prelude.{◌≡◌, ℕ, Bool, Option, Some, None, Result}
use Rattle.oci_auth.specs.AuthState.{fresh}
use Rattle.oci_auth.specs.Cache.{bounded}
use Rattle.oci_transport.specs.Link.{Link}
use Rattle.oci_protocol.specs.Runs.{Meets}
use Rattle.engine_terms.specs.declared.settings.Settings.{Settings}
use Rattle.oci_engine.specs.Clients.{settings_of}
use Rattle.oci_engine.specs.declared.client.Client.{Client as Engine}
use Rattle.oci_engine.specs.declared.config.ClientConfig.{ClientConfig as OciConfig}
use Rattle.registry_cache.specs.declared.answers.Answers.{Answers}
use Rattle.registry_calls.specs.Clients.{Client, Plain, no_answers}
use Rattle.registry_calls.specs.Error.{is_memory}
use Rattle.registry_calls.specs.declared.error.SigstoreError.{SigstoreError}
use Rattle.sig_registry.specs.declared.caching.OciCachingClient.{OciCachingClient}
use Rattle.sig_registry.specs.declared.plain.OciClient.{OciClient}
use Rattle.sig_registry.specs.declared.registry_client.RegistryClient.{RegistryClient}
use Rattle.sig_registry.specs.declared.registry_client.RegistryClient.TheVariants as given
use Rattle.oci_engine.specs.Kept.{auth_state_of}

-- the registry's client with at most so many tokens
abbrev pub with_few_tokens : ℕ → Engine → Engine
with_few_tokens most c = record c { tokens = bounded most c.tokens }

-- the registry's client, with these responses cached
abbrev pub engine_state : Engine → Option Answers → Client
engine_state c answers = record { settings = c.settings; kept = (auth_state_of c, answers) }

abbrev pub plain_state : OciClient → Client
plain_state c = engine_state c.client None

abbrev pub caching_state : OciCachingClient → Client
caching_state c = engine_state c.client (Some c.answers)

abbrev pub state_of : RegistryClient → Client
state_of (given.Plain c) = plain_state c
state_of (given.Caching c) = caching_state c

-- the state of a new client with this configuration
abbrev pub fresh_state : OciConfig → Bool → Client
fresh_state config caching = record {
  settings = settings_of config;
  kept = (fresh config.default_token_expiration_secs, no_answers caching);
}

-- the same for a call without a cache
pub record PlainlyMade {A : Type 0} (s : Settings) (p : Plain A) (c d : Engine) (old new : Link)
    (r : Result A SigstoreError) : Type 0 where
  pub made : c.settings ≡ s → (d.settings ≡ s) × Meets is_memory p old new (auth_state_of c) (auth_state_of d) r
