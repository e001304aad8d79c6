-- The forms of credentials: what holds of a token that is sent unasked.
use Rattle.std.specs.Prelude.{◌≡◌, Some}
use Rattle.oci_auth.specs.declared.auth.RegistryAuth.{RegistryAuth}
use Rattle.oci_auth.specs.declared.auth.RegistryAuth.TheVariants.{Anonymous, Basic, Bearer}
use Rattle.oci_auth.specs.declared.token.RegistryToken.{RegistryToken}
use Rattle.oci_auth.specs.declared.token.RegistryToken.TheVariants.{Token}
use Rattle.oci_auth.specs.declared.token_type.RegistryTokenType.{RegistryTokenType}
use Rattle.oci_auth.specs.declared.token_type.RegistryTokenType.TheVariants as shown
use Rattle.oci_auth.specs.Auth.{own_token, unasked}

-- it is the token that can be built from the credentials
pub unasked_own : (a : RegistryAuth) (token : RegistryTokenType) → unasked a ≡ Some token → own_token a ≡ Some token
unasked_own Anonymous token is = absurd (cc is)
unasked_own (Basic user password) token is = absurd (cc is)
unasked_own (Bearer text) token is = is

-- it is a bearer token
pub unasked_bearer : (a : RegistryAuth) (token : RegistryTokenType) → unasked a ≡ Some token → (given : RegistryToken) × (token ≡ shown.Bearer given)
unasked_bearer Anonymous token is = absurd (cc is)
unasked_bearer (Basic user password) token is = absurd (cc is)
unasked_bearer (Bearer text) token is = (Token text, cc is)
