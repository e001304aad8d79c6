-- The pull of some of an image's blobs, in order, each into a sink of its own: one token for all of them, and then one
-- request for each (OCI distribution specification, "Pulling blobs").
use Rattle.std.specs.Prelude.{ℕ, ◌-◌, List, [], ◌∷◌, ◌++◌, take, drop, Option, Some, None, Result, Ok, Err}
use Rattle.std.specs.Prelude.{if◌then◌else◌}
use Rattle.url.specs.Parts.{Parts, serialize}
use Rattle.oci_transport.specs.Urls.{request_url}
use Rattle.oci_transport.specs.declared.message.Method.TheVariants.{Get}
use Rattle.oci_names.specs.declared.reference.Reference.{Reference}
use Rattle.oci_auth.specs.declared.token_type.RegistryTokenType.{RegistryTokenType}
use Rattle.oci_auth.specs.declared.token_type.RegistryOperation.TheVariants.{Pull}
use Rattle.oci_manifests.specs.declared.descriptor.OciDescriptor.{OciDescriptor}
use Rattle.oci_manifests.specs.declared.manifest.OciImageManifest.{OciImageManifest}
use Rattle.oci_protocol.specs.Proto.{Done, Consult, ◌>>=◌, ◌>>◌}
use Rattle.engine_terms.specs.Contexts.{Context}
use Rattle.engine_terms.specs.declared.settings.Settings.{Settings}
use Rattle.engine_terms.specs.declared.error.OciDistributionError.{OciDistributionError}
use Rattle.engine_terms.specs.declared.error.OciDistributionError.TheVariants as refusal
use Rattle.engine_requests.specs.Addresses.{registry_text, blob_text, url_read}
use Rattle.engine_requests.specs.Requests.{manifest_types, request_of}
use Rattle.engine_requests.specs.Sources.{described, places_of}
use Rattle.engine_rows.specs.Rows.{Row, goes_to, authorized}
use Rattle.call_laws.specs.Cut.{size_of, cut_at}

-- the descriptors of an image's blobs: the configuration, and then the layers
abbrev pub descriptors_of : OciImageManifest → List OciDescriptor
descriptors_of manifest = manifest.config ∷ manifest.layers

-- those from one index up to another one
abbrev pub range_of : ℕ → ℕ → List OciDescriptor → List OciDescriptor
range_of first end xs = take (end - first) (drop first xs)

-- the token of a request for this URL: none unless it goes to the registry
abbrev pub sent_token : Parts → Option RegistryTokenType → Parts → Option RegistryTokenType
sent_token registry token url = if goes_to (request_url (serialize url)) registry then token else None

-- the bytes of a blob, which its digest names, with a token that was obtained before
unfoldable pub blob_with : Settings → Reference → Parts → Option RegistryTokenType → OciDescriptor → Row (List ℕ)
blob_with s image registry token x = do
  url ← Done (url_read (blob_text s image x.digest))
  request ← Done (request_of s Get url (Some manifest_types) (sent_token registry token url))
  cut_at s (size_of x) x.digest (places_of (described x).urls) request

-- the caller's sinks refuse, or go on
abbrev pub going_on : Option (List ℕ) → Result Unit OciDistributionError
going_on None = Err refusal.SinkFault
going_on (Some said) = Ok tt

unfoldable pub sinks_asked : Row Unit
sinks_asked = Consult (λ said. Done (going_on said))

-- a blob for which a sink is opened, and which is told that it has it
unfoldable pub kept_blob : Settings → Reference → Parts → Option RegistryTokenType → OciDescriptor → Row (List ℕ)
kept_blob s image registry token x = do
  sinks_asked
  bytes ← blob_with s image registry token x
  sinks_asked
  Done (Ok bytes)

-- each descriptor's blob, in order
unfoldable pub each_blob : Settings → Reference → Parts → Option RegistryTokenType → List OciDescriptor
    → List (List ℕ) → Row (List (List ℕ))
each_blob s image registry token [] blobs = Done (Ok blobs)
each_blob s image registry token (x ∷ xs) blobs = do
  bytes ← kept_blob s image registry token x
  each_blob s image registry token xs (blobs ++ bytes ∷ [])

-- the same, after the token of requests to the registry was obtained; no token for no blob
unfoldable pub pull_blobs : Context → Reference → List OciDescriptor → Row (List (List ℕ))
pull_blobs s image [] = Done (Ok [])
pull_blobs s image (x ∷ xs) = do
  registry ← Done (url_read (registry_text s.settings image))
  token ← authorized s image Pull registry
  each_blob s.settings image registry token (x ∷ xs) []
