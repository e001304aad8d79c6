-- The response of a registry's realm.
use Rattle.std.specs.Prelude.{◌≡◌, ℕ, List, codes, Option, Some, None, option_map, option_and_then, Result, Ok, Err, ⊤}
use Rattle.std.specs.Option.{option_or}
use Rattle.serde_json.specs.Data.{Data}
use Rattle.serde_json.specs.Find.{get, as_str}
use Rattle.json_values.specs.JsonText.{plain_json_of}
use Rattle.oci_auth.specs.declared.token.RegistryToken.{RegistryToken}
use Rattle.oci_auth.specs.declared.token.RegistryToken.TheVariants.{Token, AccessToken}
use Rattle.oci_auth.specs.declared.token.TokenError.{TokenError}
use Rattle.oci_auth.specs.declared.token.TokenError.TheVariants.{Unreadable, WantOfMemory}

-- the string in the member with this name
abbrev pub text_in : List ℕ → Data → Option (List ℕ)
text_in name d = option_and_then as_str (get name d)

-- the string `token`, else the string `access_token`
abbrev pub token_in : Data → Option RegistryToken
token_in d = option_or
    (option_map Token (text_in (codes "token") d))
    (option_map AccessToken (text_in (codes "access_token") d))

-- the token in a body: JSON without floats
abbrev pub token_of : List ℕ → Option RegistryToken
token_of body = option_and_then token_in (plain_json_of body)

-- the token as it is sent to the registry
abbrev pub token_text : RegistryToken → List ℕ
token_text (Token token) = token
token_text (AccessToken token) = token

-- the token, or `Unreadable` if and only if there is none, or out of memory
abbrev pub ReadsToken : Result RegistryToken TokenError → Option RegistryToken → Type 0
ReadsToken (Ok t) read = read ≡ Some t
ReadsToken (Err Unreadable) read = read ≡ None
ReadsToken (Err WantOfMemory) read = ⊤
