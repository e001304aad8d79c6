-- The requests that a guard allows.
use Rattle.std.specs.Prelude.{ℕ, Bool, true, false, not, ◌&&◌, ◌||◌, List, Option, Some, None, Result, Ok, Err, codes}
use Rattle.std.specs.Prelude.{bytes_eq, nat_eq, is_some, if◌then◌else◌}
use Rattle.std.specs.List.{list_any, starts_with}
use Rattle.url.specs.Parts.{Parts}
use Rattle.oci_auth.specs.Bearer.{in_header}
use Rattle.oci_auth.specs.declared.bearer.BearerChallenge.{BearerChallenge}
use Rattle.oci_auth.specs.declared.bearer.ChallengeError.{ChallengeError}
use Rattle.oci_transport.specs.Headers.{Fields, first_of}
use Rattle.oci_transport.specs.Urls.{request_url, registry_text, host_of, same_text, targets}
use Rattle.oci_transport.specs.declared.message.Request.{Request}
use Rattle.oci_transport.specs.declared.message.Method.{Method}
use Rattle.oci_transport.specs.declared.message.Method.TheVariants.{Get}
use Rattle.oci_link.specs.declared.rules.Hosts.{Hosts}
use Rattle.oci_link.specs.declared.rules.Hosts.TheVariants.{Any, Only}
use Rattle.oci_link.specs.declared.rules.Rules.{Rules}

-- the URL has this target, if the target is a URL
abbrev pub goes_to : Parts → Option Parts → Bool
goes_to url None = false
goes_to url (Some there) = targets url there

-- the URL goes to this registry, which accepts http
abbrev pub goes_plain : Parts → List ℕ → Bool
goes_plain url registry = goes_to url (request_url (registry_text (codes "http") registry))

-- over https, or to one of the registries that accept http
abbrev pub has_scheme : Rules → Parts → Bool
has_scheme rules url = bytes_eq url.scheme (codes "https") || list_any (goes_plain url) rules.plain

abbrev pub is_host : Parts → List ℕ → Bool
is_host url host = same_text (host_of url) (Some host)

abbrev pub has_host : Hosts → Parts → Bool
has_host Any url = true
has_host (Only hosts) url = list_any (is_host url) hosts

abbrev pub is_path : List ℕ → Bool
is_path path = starts_with nat_eq path (codes "/v2/")

-- the same origin and path as the realm, with any query
abbrev pub is_at : Parts → Option Parts → Bool
is_at url None = false
is_at url (Some realm) = targets url realm && bytes_eq url.path realm.path

abbrev pub is_realm : Parts → Option (List ℕ) → Bool
is_realm url None = false
is_realm url (Some realm) = is_at url (request_url realm)

-- credentials may be sent below `/v2/` and to the realm that was named last
abbrev pub may_show : Bool → Option (List ℕ) → Parts → Bool
may_show shows realm url = not shows || (is_path url.path || is_realm url realm)

abbrev pub url_passes : Rules → Option (List ℕ) → Bool → Option Parts → Bool
url_passes rules realm shows None = false
url_passes rules realm shows (Some url) = has_scheme rules url && (has_host rules.hosts url && may_show shows realm url)

abbrev pub shows : Request → Bool
shows request = is_some (first_of (codes "authorization") request.headers)

-- the request keeps the rules, given that this realm was named directly before
unfoldable pub passes : Rules → Option (List ℕ) → Request → Bool
passes rules realm request = url_passes rules realm (shows request) (request_url request.url)

-- ---- the realm that an answer names

abbrev pub realm_in : Result BearerChallenge ChallengeError → Option (List ℕ)
realm_in (Ok challenge) = Some challenge.realm
realm_in (Err e) = None

abbrev pub realm_by : Option (List ℕ) → Option (List ℕ)
realm_by None = None
realm_by (Some value) = realm_in (in_header value)

abbrev pub is_base : Option Parts → Bool
is_base None = false
is_base (Some url) = bytes_eq url.path (codes "/v2/")

abbrev pub by_get : Method → Bool
by_get Get = true
by_get _ = false

-- the realm named by an answer with these headers to a GET of a registry's `/v2/`
unfoldable pub realm_named : Request → Fields → Option (List ℕ)
realm_named request headers =
    if by_get request.method && is_base (request_url request.url)
    then realm_by (first_of (codes "www-authenticate") headers)
    else None
