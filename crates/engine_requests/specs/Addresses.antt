-- The URLs of requests (OCI distribution specification, "Endpoints").
use Rattle.std.specs.Prelude.{ℕ, List, [], ◌++◌, Option, Some, None, Result, Ok, Err, codes}
use Rattle.url.specs.Parts.{Parts}
use Rattle.oci_transport.specs.Urls.{request_url}
use Rattle.oci_names.specs.declared.reference.Reference.{Reference}
use Rattle.oci_names.specs.Reference.{repository_of, tag_of, digest_of, namespace_of, resolved_registry}
use Rattle.engine_terms.specs.Settings.{scheme_for}
use Rattle.engine_terms.specs.declared.settings.Settings.{Settings}
use Rattle.engine_terms.specs.declared.error.OciDistributionError.{OciDistributionError}
use Rattle.engine_terms.specs.declared.error.OciDistributionError.TheVariants as refusal

abbrev pub registry_text : Settings → Reference → List ℕ
registry_text s image = scheme_for s.protocol (resolved_registry image) ++ codes "://" ++ resolved_registry image

abbrev pub base_text : Settings → Reference → List ℕ
base_text s image = registry_text s image ++ codes "/v2/"

-- the digest, else the tag, else `latest`
abbrev pub manifest_name : Option (List ℕ) → Option (List ℕ) → List ℕ
manifest_name (Some digest) tag = digest
manifest_name None (Some tag) = tag
manifest_name None None = codes "latest"

-- a mirror gets the registry that it mirrors in its query
abbrev pub mirrored : Option (List ℕ) → List ℕ
mirrored None = []
mirrored (Some registry) = codes "?ns=" ++ registry

abbrev pub manifest_text : Settings → Reference → List ℕ
manifest_text s image = base_text s image ++ repository_of image ++ codes "/manifests/" ++ manifest_name
    (digest_of image) (tag_of image) ++ mirrored (namespace_of image)

abbrev pub blob_text : Settings → Reference → List ℕ → List ℕ
blob_text s image digest = base_text s image ++ repository_of image ++ codes "/blobs/" ++ digest ++ mirrored
    (namespace_of image)

-- where uploads of blobs begin
abbrev pub uploads_text : Settings → Reference → List ℕ
uploads_text s image = base_text s image ++ repository_of image ++ codes "/blobs/uploads/" ++ mirrored
    (namespace_of image)

abbrev pub url_or : List ℕ → Option Parts → Result Parts OciDistributionError
url_or text (Some url) = Ok url
url_or text None = Err (refusal.UrlParseError text)

-- the URL that a text parses to
abbrev pub url_read : List ℕ → Result Parts OciDistributionError
url_read text = url_or text (request_url text)
