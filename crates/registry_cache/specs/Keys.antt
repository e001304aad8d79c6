-- The keys of cached responses: the canonical texts (RFC 8785) of the arguments of a call.
use Rattle.std.specs.Prelude.{ℕ, List, [], ◌∷◌, codes, map, Option, Some, None}
use Rattle.json_values.specs.Canon.{quoted_text}
use Rattle.json_events.specs.Canonical.{array_text, object_text}
use Rattle.oci_names.specs.declared.reference.Reference.{Reference}
use Rattle.oci_names.specs.Reference.{whole_text}
use Rattle.oci_auth.specs.declared.auth.RegistryAuth.{RegistryAuth}
use Rattle.oci_auth.specs.declared.auth.RegistryAuth.TheVariants.{Anonymous, Basic, Bearer}

abbrev pub auth_text : RegistryAuth → List ℕ
auth_text Anonymous = quoted_text (codes "Anonymous")
auth_text (Basic user password) =
    object_text ((codes "Basic", array_text (quoted_text user ∷ quoted_text password ∷ [])) ∷ [])
auth_text (Bearer token) = object_text ((codes "Bearer", quoted_text token) ∷ [])

abbrev pub text_or_null : Option (List ℕ) → List ℕ
text_or_null None = codes "null"
text_or_null (Some text) = quoted_text text

-- the key of a call for a digest or a manifest
abbrev pub manifest_key : Reference → RegistryAuth → List ℕ
manifest_key image auth =
    object_text ((codes "auth", auth_text auth) ∷ (codes "image", quoted_text (whole_text image)) ∷ [])

-- the key of a call for an image whose layers have these media types
abbrev pub pull_key : Reference → RegistryAuth → List (List ℕ) → List ℕ
pull_key image auth types =
    object_text (
    (codes "accepted_media_types", array_text (map quoted_text types))
    ∷ (codes "auth", auth_text auth)
    ∷ (codes "image", quoted_text (whole_text image)) ∷ [])

-- the key of a call for the list of referrers of an image
abbrev pub referrers_key : Reference → RegistryAuth → Option (List ℕ) → List ℕ
referrers_key image auth artifact_type =
    object_text (
    (codes "artifact_type", text_or_null artifact_type)
    ∷ (codes "auth", auth_text auth)
    ∷ (codes "image", quoted_text (whole_text image)) ∷ [])
