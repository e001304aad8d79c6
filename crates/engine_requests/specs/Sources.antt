-- Where a blob may be: at the registry by its digest, and at the URLs that its descriptor lists (OCI image
-- specification, descriptor.md, `urls`).
use Rattle.std.specs.Prelude.{ℕ, ◌&&◌, ◌||◌, List, [], ◌∷◌, Option, Some, None, Result, Ok, Err, codes, bytes_eq}
use Rattle.std.specs.Prelude.{option_copied, unwrap_or, if◌then◌else◌}
use Rattle.url.specs.Parts.{Parts}
use Rattle.url.specs.Input.{is_empty}
use Rattle.url.specs.Parser.{Parsed, parse_url}
use Rattle.oci_manifests.specs.declared.descriptor.OciDescriptor.{OciDescriptor}
use Rattle.oci_transport.specs.declared.message.Method.TheVariants.{Get}
use Rattle.oci_transport.specs.declared.message.Request.{Request}
use Rattle.engine_requests.specs.Requests.{manifest_types, request_of}
use Rattle.engine_terms.specs.declared.error.OciDistributionError.{OciDistributionError}
use Rattle.engine_terms.specs.declared.error.OciDistributionError.TheVariants as refusal
use Rattle.engine_terms.specs.declared.settings.Settings.{Settings}
use Rattle.engine_requests.specs.declared.sources.LayerDescriptor.{LayerDescriptor}
use Rattle.engine_requests.specs.declared.sources.Place.{Place}
use Rattle.engine_requests.specs.declared.sources.Place.TheVariants.{Web, Unfit}

-- the digest of a blob, and the other URLs at which it may be, in order
pub record Layer : Type 0 where
  pub digest : List ℕ
  pub urls : List (List ℕ)

-- a blob that is known by its digest alone
abbrev pub named : List ℕ → Layer
named digest = record { digest = digest; urls = [] }

-- the blob of a descriptor
abbrev pub described : OciDescriptor → Layer
described x = record { digest = x.digest; urls = unwrap_or x.urls [] }

-- the same, from what the code passes
abbrev pub layer_in : LayerDescriptor → Layer
layer_in x = record { digest = x.digest.now; urls = unwrap_or (option_copied x.urls) [] }

-- a URL of another scheme is skipped, and one with a user name or a password is `Unfit`
abbrev pub by_scheme : List ℕ → Parts → Option Place
by_scheme text url =
    if bytes_eq url.scheme (codes "http") || bytes_eq url.scheme (codes "https")
    then Some (if is_empty url.username && is_empty url.password then Web url else Unfit text)
    else None

-- a malformed URL is `Unfit`
abbrev pub taken_as : List ℕ → Parsed Parts → Option Place
taken_as text (Ok url) = by_scheme text url
taken_as text (Err e) = Some (Unfit text)

-- the place that a listed URL names
unfoldable pub place_of : List ℕ → Option Place
place_of text = taken_as text (parse_url None text)

abbrev pub with_place : Option Place → List Place → List Place
with_place None places = places
with_place (Some place) places = place ∷ places

-- the places that listed URLs name, in order
abbrev pub places_of : List (List ℕ) → List Place
places_of [] = []
places_of (text ∷ texts) = with_place (place_of text) (places_of texts)

-- the request for a blob at a place, with no credentials
unfoldable pub asked_at : Settings → Place → Result Request OciDistributionError
asked_at s (Web url) = request_of s Get url (Some manifest_types) None
asked_at s (Unfit text) = Err (refusal.UrlParseError text)
