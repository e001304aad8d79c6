-- The contents of a simple signing payload.
use Rattle.std.specs.Prelude.{ℕ, List, [], ◌∷◌, bytes_eq, Option, Some, None, codes, if◌then◌else◌}
use Rattle.json_values.specs.JsonText.{plain_json_of}
use Rattle.json_tables.specs.Reading.{◌>>=◌}
use Rattle.json_tables.specs.Paths.{text_at}
use Rattle.json_tables.specs.Member.{or_null}
use Rattle.serde_json.specs.Data.{Data}
use Rattle.serde_json.specs.Find.{get}
use Rattle.cosign_parts.specs.declared.layer.SimpleSigning.{SimpleSigning}

-- the string, if it is this one
abbrev pub equal_to : List ℕ → List ℕ → Option (List ℕ)
equal_to expected text = if bytes_eq text expected then Some text else None

-- the table of the payload's members
unfoldable pub payload_of : Data → Option SimpleSigning
payload_of d = do
  docker_reference ← text_at (codes "critical" ∷ codes "identity" ∷ codes "docker-reference" ∷ []) d
  docker_manifest_digest ← text_at (codes "critical" ∷ codes "image" ∷ codes "docker-manifest-digest" ∷ []) d
  kind ← text_at (codes "critical" ∷ codes "type" ∷ []) d
  known ← equal_to (codes "cosign container image signature") kind
  optional ← or_null (get (codes "optional") d)
  Some (record {
    docker_reference = docker_reference;
    docker_manifest_digest = docker_manifest_digest;
    optional = optional;
  })

-- the payload that the bytes encode in JSON without floats
abbrev pub content_of : List ℕ → Option SimpleSigning
content_of bytes = plain_json_of bytes >>= payload_of
