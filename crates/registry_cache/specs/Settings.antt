-- The arguments of calls as JSON values.
use Rattle.std.specs.Prelude.{◌≡◌, ◌↔◌, ℕ, List, [], ◌∷◌, codes, Option, Some}
use Rattle.serde_json.specs.Data.{Data, string}
use Rattle.json_values.specs.Writing.{listed, null_or}
use Rattle.json_tables.specs.Fields.{fields}
use Rattle.oci_names.specs.declared.reference.Reference.{Reference}
use Rattle.oci_names.specs.Reference.{whole_text}
use Rattle.oci_auth.specs.declared.auth.RegistryAuth.{RegistryAuth}
use Rattle.registry_cache.specs.declared.manifest_settings.PullManifestSettings.{PullManifestSettings}
use Rattle.registry_cache.specs.declared.pull_settings.PullSettings.{PullSettings}
use Rattle.registry_cache.specs.declared.referrers_settings.PullReferrersSettings.{PullReferrersSettings}
use Rattle.registry_cache.specs.Auths.{auth_from, auth_value}
use Rattle.registry_cache.specs.Keys.{manifest_key, pull_key, referrers_key}

abbrev pub image_value : Reference → Data
image_value image = string (whole_text image)

abbrev pub credentials_value : RegistryAuth → Data
credentials_value auth = auth_value (auth_from auth)

abbrev pub manifest_value : PullManifestSettings → Data
manifest_value s = fields (
    (codes "image", Some (image_value s.image))
    ∷ (codes "auth", Some (credentials_value s.auth)) ∷ [])

abbrev pub pull_value : PullSettings → Data
pull_value s = fields (
    (codes "image", Some (image_value s.image))
    ∷ (codes "auth", Some (credentials_value s.auth))
    ∷ (codes "accepted_media_types", Some (listed string s.accepted_media_types)) ∷ [])

abbrev pub referrers_value : PullReferrersSettings → Data
referrers_value s = fields (
    (codes "image", Some (image_value s.image))
    ∷ (codes "auth", Some (credentials_value s.auth))
    ∷ (codes "artifact_type", Some (null_or string s.artifact_type)) ∷ [])

-- ---- two calls have the same key if and only if their arguments are equal

abbrev pub ManifestKeysTell : Type 0
ManifestKeysTell = (image other : Reference) (auth others : RegistryAuth)
    → (manifest_key image auth ≡ manifest_key other others)
    ↔ ((whole_text image ≡ whole_text other) × (auth ≡ others))

abbrev pub PullKeysTell : Type 0
PullKeysTell = (image other : Reference) (auth others : RegistryAuth) (types kinds : List (List ℕ))
    → (pull_key image auth types ≡ pull_key other others kinds)
    ↔ ((whole_text image ≡ whole_text other) × (auth ≡ others) × (types ≡ kinds))

abbrev pub ReferrersKeysTell : Type 0
ReferrersKeysTell = (image other : Reference) (auth others : RegistryAuth) (type kind : Option (List ℕ))
    → (referrers_key image auth type ≡ referrers_key other others kind)
    ↔ ((whole_text image ≡ whole_text other) × (auth ≡ others) × (type ≡ kind))
