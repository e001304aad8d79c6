-- Layers and configurations with a media type.
use Rattle.std.specs.Prelude.{ℕ, List, Option}
use Rattle.json_tables.specs.Reading.{Map}
use Rattle.oci_manifests.specs.declared.blob.ImageLayer.{ImageLayer}
use Rattle.oci_manifests.specs.declared.blob.Config.{Config}

-- the layer with this media type, these bytes and annotations
abbrev pub typed_layer : List ℕ → List ℕ → Option (Map (List ℕ)) → ImageLayer
typed_layer media_type content annotations =
    record { content = content; media_type = media_type; annotations = annotations }

-- the configuration with this media type, these bytes and annotations
abbrev pub typed_config : List ℕ → List ℕ → Option (Map (List ℕ)) → Config
typed_config media_type content annotations =
    record { content = content; media_type = media_type; annotations = annotations }
