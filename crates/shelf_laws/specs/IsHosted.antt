-- Where a client's requests must go so that a shelf responds to them, and which client state may precede them.
use Rattle.std.specs.Prelude.{◌≡◌, ℕ, List, ◌++◌, Option, Some, None, IsTrue, IfSome, codes}
use Rattle.std.specs.FinMap as map
use Rattle.url.specs.Parts.{Parts, serialize}
use Rattle.oci_names.specs.declared.reference.Reference.{Reference}
use Rattle.oci_names.specs.Reference.{repository_of, resolved_registry, namespace_of}
use Rattle.oci_names.specs.Words.{Domain, Path}
use Rattle.oci_transport.specs.Urls.{request_url}
use Rattle.oci_transport.specs.Headers.{is_header_value}
use Rattle.oci_link.specs.Leads.{redirects_lead}
use Rattle.oci_link.specs.declared.shelf.Shelf.{Shelf}
use Rattle.oci_auth.specs.declared.auth.RegistryAuth.{RegistryAuth}
use Rattle.oci_auth.specs.declared.kept.KeptToken.{KeptToken}
use Rattle.oci_auth.specs.declared.auth_state.AuthState.{AuthState}
use Rattle.oci_auth.specs.declared.token_type.RegistryOperation.TheVariants.{Pull}
use Rattle.oci_auth.specs.Auth.{unasked, authorization_of}
use Rattle.oci_auth.specs.Kept.{under, kept_under, NoneOr}
use Rattle.engine_terms.specs.Settings.{scheme_for}
use Rattle.engine_terms.specs.declared.settings.Settings.{Settings}

-- the text before the paths of a registry's URLs
abbrev pub base_of : Settings → List ℕ → List ℕ
base_of s registry = scheme_for s.protocol registry ++ codes "://" ++ registry

-- the registry's URL parses and prints unchanged: its text is the scheme, `://`, the registry and a slash
pub record IsWrittenPlainly (s : Settings) (registry : List ℕ) : Type 0 where
  pub url : Parts
  pub reads : request_url (base_of s registry) ≡ Some url
  pub text : serialize url ≡ base_of s registry ++ codes "/"

-- the requests for the shelf's repository at this registry can be built, and the shelf serves them, redirects or not
pub record IsHosted (s : Settings) (registry : List ℕ) (shelf : Shelf) : Type 0 where
  pub written : IsWrittenPlainly s registry
  pub domain : Domain registry
  pub path : Path shelf.repository
  pub agent : IsTrue (is_header_value s.user_agent)
  pub lead : IsTrue (redirects_lead shelf)

-- the image is in the shelf's repository at this registry, which is its own and not a mirror
pub record IsAt (registry : List ℕ) (shelf : Shelf) (image : Reference) : Type 0 where
  pub registry_is : resolved_registry image ≡ registry
  pub repository_is : repository_of image ≡ shelf.repository
  pub no_mirror : namespace_of image ≡ None

-- a token that is sent unasked is a valid header value
abbrev pub CanBeShown : RegistryAuth → Type 0
CanBeShown a = IfSome (unasked a) (λ token. IsTrue (is_header_value (authorization_of token)))

-- no token is stored, or the one that these credentials send unasked
abbrev pub IsToken : RegistryAuth → Option KeptToken → Type 0
IsToken a None = Unit {0}
IsToken a (Some kept) = Some kept.token ≡ unasked a

-- no other credentials are stored for the registry, and no other token for its repository
pub record Settled (registry repository : List ℕ) (a : RegistryAuth) (k : AuthState) : Type 0 where
  pub credentials : NoneOr (map.get k.credentials registry) (Some a)
  pub token : IsToken a (kept_under (under registry repository Pull) k.tokens.tokens)
