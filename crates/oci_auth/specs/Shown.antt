-- The `Debug` output of credentials and tokens: the text contains no password and no token.
use Rattle.std.specs.Prelude.{ℕ, List, ◌++◌, codes, unwrap_or}
use Rattle.std.specs.Fmt.{debug_str, IsFlush, HasWrittenStyled}
use Rattle.std.specs.declared.fmt.Formatter.{Formatter}
use Rattle.oci_auth.specs.declared.auth.RegistryAuth.{RegistryAuth}
use Rattle.oci_auth.specs.declared.auth.RegistryAuth.TheVariants as auth
use Rattle.oci_auth.specs.declared.token.RegistryToken.{RegistryToken}
use Rattle.oci_auth.specs.declared.token.RegistryToken.TheVariants.{Token, AccessToken}
use Rattle.oci_auth.specs.declared.token_type.RegistryTokenType.{RegistryTokenType}
use Rattle.oci_auth.specs.declared.token_type.RegistryTokenType.TheVariants.{Bearer, Basic}

-- the user's name in Rust's `Debug` form; a non-ASCII name is omitted
abbrev pub shown_user : List ℕ → List ℕ
shown_user user = unwrap_or (debug_str user) (codes "\"<redacted>\"")

abbrev pub shown_basic : List ℕ → List ℕ
shown_basic user = codes "Basic(" ++ shown_user user ++ codes ", \"<redacted>\")"

-- the `Debug` output of credentials
abbrev pub shown_auth : RegistryAuth → List ℕ
shown_auth auth.Anonymous = codes "Anonymous"
shown_auth (auth.Basic user password) = shown_basic user
shown_auth (auth.Bearer token) = codes "Bearer(\"<redacted>\")"

-- the `Debug` output of a token
abbrev pub shown_token : RegistryToken → List ℕ
shown_token (Token token) = codes "Token { token: \"<redacted>\" }"
shown_token (AccessToken token) = codes "AccessToken { access_token: \"<redacted>\" }"

-- the `Debug` output of what a client stores for a registry
abbrev pub shown_token_type : RegistryTokenType → List ℕ
shown_token_type (Bearer token) = codes "Bearer(" ++ shown_token token ++ codes ")"
shown_token_type (Basic user password) = shown_basic user

-- the formatter wrote these bytes, whatever its options, unless it indents
abbrev pub WritesPlainly : {W : Type 0} → (W → List ℕ → W → Type 0) → Formatter W → List ℕ → Formatter W → Type 0
WritesPlainly took f bytes g = IsFlush f → HasWrittenStyled took f bytes g
