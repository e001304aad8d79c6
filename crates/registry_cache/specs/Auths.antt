-- Credentials as the registry client's type and as JSON values.
use Rattle.std.specs.Prelude.{ℕ, List, [], ◌∷◌, codes, Some}
use Rattle.serde_json.specs.Data.{Data, string}
use Rattle.json_values.specs.Writing.{listed}
use Rattle.json_tables.specs.Fields.{fields}
use Rattle.oci_auth.specs.declared.auth.RegistryAuth.{RegistryAuth}
use Rattle.oci_auth.specs.declared.auth.RegistryAuth.TheVariants as registry
use Rattle.registry_cache.specs.declared.auth.Auth.{Auth}
use Rattle.registry_cache.specs.declared.auth.Auth.TheVariants as given

abbrev pub registry_auth : Auth → RegistryAuth
registry_auth given.Anonymous = registry.Anonymous
registry_auth (given.Basic user password) = registry.Basic user password
registry_auth (given.Bearer token) = registry.Bearer token

abbrev pub auth_from : RegistryAuth → Auth
auth_from registry.Anonymous = given.Anonymous
auth_from (registry.Basic user password) = given.Basic user password
auth_from (registry.Bearer token) = given.Bearer token

-- credentials as a JSON value
abbrev pub auth_value : Auth → Data
auth_value given.Anonymous = string (codes "Anonymous")
auth_value (given.Basic user password) = fields ((codes "Basic", Some (listed string (user ∷ password ∷ []))) ∷ [])
auth_value (given.Bearer token) = fields ((codes "Bearer", Some (string token)) ∷ [])
