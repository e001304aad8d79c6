-- Credentials, and the tokens that they consist of.
use Rattle.std.specs.Prelude.{ℕ, List, ◌++◌, codes, Option, Some, None}
use Rattle.base64.specs.Engines.{standard}
use Rattle.base64.specs.GeneralPurpose.{encode_of}
use Rattle.oci_auth.specs.declared.auth.RegistryAuth.{RegistryAuth}
use Rattle.oci_auth.specs.declared.auth.RegistryAuth.TheVariants.{Anonymous, Basic, Bearer}
use Rattle.oci_auth.specs.declared.token.RegistryToken.TheVariants.{Token}
use Rattle.oci_auth.specs.declared.token_type.RegistryTokenType.{RegistryTokenType}
use Rattle.oci_auth.specs.declared.token_type.RegistryTokenType.TheVariants as shown
use Rattle.oci_auth.specs.Token.{token_text}

-- the token that can be built from the credentials without a request
abbrev pub own_token : RegistryAuth → Option RegistryTokenType
own_token Anonymous = None
own_token (Basic user password) = Some (shown.Basic user password)
own_token (Bearer token) = Some (shown.Bearer (Token token))

-- the token that is sent to a registry without a request for one: credentials that are a token
abbrev pub unasked : RegistryAuth → Option RegistryTokenType
unasked Anonymous = None
unasked (Basic user password) = None
unasked (Bearer token) = Some (shown.Bearer (Token token))

-- the value of the `authorization` header (RFC 6750, 2.1, and RFC 7617, 2)
abbrev pub authorization_of : RegistryTokenType → List ℕ
authorization_of (shown.Bearer token) = codes "Bearer " ++ token_text token
authorization_of (shown.Basic user password) = codes "Basic " ++ encode_of standard (user ++ codes ":" ++ password)
