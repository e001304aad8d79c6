-- The credentials of a case.
use Rattle.std.specs.Prelude.{[], ◌∷◌, Option, Some, None, if◌then◌else◌, codes}
use Rattle.std.specs.Str.{bytes_eq}
use Rattle.std.specs.Option.{option_or}
use Rattle.serde_json.specs.Data.{Data, string}
use Rattle.json_tables.specs.Reading.{◌>>=◌, text_of, pair_of}
use Rattle.json_tables.specs.Objects.{only}
use Rattle.json_tables.specs.Member.{required}
use Rattle.oci_auth.specs.declared.auth.RegistryAuth.{RegistryAuth}
use Rattle.oci_auth.specs.declared.auth.RegistryAuth.TheVariants.{Anonymous, Basic, Bearer}

-- a user name and a password
unfoldable pub basic_of : Data → Option RegistryAuth
basic_of d = do
  known ← only (codes "basic" ∷ []) d
  pair ← required (pair_of text_of text_of) (codes "basic") d
  Some (Basic pair.0 pair.1)

-- a token
unfoldable pub bearer_of : Data → Option RegistryAuth
bearer_of d = do
  known ← only (codes "bearer" ∷ []) d
  token ← required text_of (codes "bearer") d
  Some (Bearer token)

-- `anonymous`, or an object with either a user name and a password or a token
unfoldable pub auth_of : Data → Option RegistryAuth
auth_of (string text) = if bytes_eq text (codes "anonymous") then Some Anonymous else None
auth_of d = option_or (basic_of d) (bearer_of d)
