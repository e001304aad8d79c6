-- The parts of an image that its manifest leads to, and what comes after them.
use Rattle.std.specs.Prelude.{ℕ, List, [], Result, Ok, Err}
use Rattle.oci_names.specs.declared.reference.Reference.{Reference}
use Rattle.oci_auth.specs.declared.auth_state.AuthState.{AuthState}
use Rattle.oci_manifests.specs.declared.blob.Config.{Config}
use Rattle.oci_manifests.specs.declared.blob.ImageLayer.{ImageLayer}
use Rattle.oci_manifests.specs.declared.manifest.OciImageManifest.{OciImageManifest}
use Rattle.oci_protocol.specs.Proto.{Done, ◌>>=◌, ◌>>◌}
use Rattle.oci_protocol.specs.Runs.{Meets}
use Rattle.oci_transport.specs.Link.{Link}
use Rattle.engine_terms.specs.Contexts.{Context}
use Rattle.engine_terms.specs.Error.{is_memory}
use Rattle.engine_requests.specs.Sources.{described}
use Rattle.engine_terms.specs.declared.error.OciDistributionError.{OciDistributionError}
use Rattle.engine_rows.specs.Image.{config_of, layers_accepted, pull_layers}
use Rattle.engine_rows.specs.Pulls.{held_blob}
use Rattle.engine_rows.specs.Rows.{Row}
use Rattle.engine_rows.specs.declared.image.ImageData.{ImageData}

-- the configuration and the layers
abbrev pub Parts : Type 0
Parts = Config × List ImageLayer

-- a manifest's configuration, a check of the media types of its layers, its layers, and then what follows from them
abbrev pub with_parts : Context → Reference → List (List ℕ) → OciImageManifest → (Parts → Row ImageData) → Row ImageData
with_parts s image accepted manifest next = do
  content ← held_blob s image (described manifest.config)
  Done (layers_accepted accepted manifest.layers)
  layers ← pull_layers s image manifest.layers []
  next (config_of manifest content, layers)

-- whatever comes next, these parts lead to it, or their refusal ends it
abbrev pub LeadsTo : Context → Reference → List (List ℕ) → OciImageManifest → Link → Link → AuthState → AuthState
    → Result Parts OciDistributionError → (Parts → Row ImageData) → Type 0
LeadsTo s image accepted manifest old new k l (Ok parts) next =
    (end : Link) (j : AuthState) (r : Result ImageData OciDistributionError)
    → Meets is_memory (next parts) new end l j r
    → Meets is_memory (with_parts s image accepted manifest next) old end k j r
LeadsTo s image accepted manifest old new k l (Err e) next =
    Meets is_memory (with_parts s image accepted manifest next) old new k l (Err e)
