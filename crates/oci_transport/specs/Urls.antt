-- URLs of requests.
use Rattle.std.specs.Prelude.{ℕ, Bool, true, false, not, ◌&&◌, ◌||◌, List, ◌++◌, Option, Some, None, Ok, Err, codes}
use Rattle.std.specs.Prelude.{bytes_eq, nat_eq, option_map, if◌then◌else◌}
use Rattle.std.specs.Option.{option_or}
use Rattle.url.specs.Parts.{Parts, nonempty_host}
use Rattle.url.specs.Host.{host_text}
use Rattle.url.specs.Scheme.{default_port}
use Rattle.url.specs.Input.{is_empty}
use Rattle.url.specs.Parser.{Parsed, parse_url}

-- requests go to `http` and `https` URLs without user name and password
abbrev pub is_web : Parts → Bool
is_web url =
    (bytes_eq url.scheme (codes "http") || bytes_eq url.scheme (codes "https"))
    && (is_empty url.username && is_empty url.password)

-- the parsed URL, if it is of this form
abbrev pub readable : Parsed Parts → Option Parts
readable (Ok url) = if is_web url then Some url else None
readable (Err e) = None

-- the URL of a text
unfoldable pub request_url : List ℕ → Option Parts
request_url text = readable (parse_url None text)

-- the text of a registry's URL
abbrev pub registry_text : List ℕ → List ℕ → List ℕ
registry_text scheme registry = scheme ++ codes "://" ++ registry

abbrev pub host_of : Parts → Option (List ℕ)
host_of url = option_map host_text (nonempty_host url)

-- the given port, or the scheme's default port
abbrev pub port_of : Parts → Option ℕ
port_of url = option_or url.port (default_port url.scheme)

abbrev pub same_text : Option (List ℕ) → Option (List ℕ) → Bool
same_text (Some a) (Some b) = bytes_eq a b
same_text None None = true
same_text a b = false

abbrev pub same_port : Option ℕ → Option ℕ → Bool
same_port (Some a) (Some b) = nat_eq a b
same_port None None = true
same_port a b = false

-- the same host and port
unfoldable pub same_place : Parts → Parts → Bool
same_place a b = same_text (host_of a) (host_of b) && same_port (port_of a) (port_of b)

-- the same scheme, host and port
unfoldable pub same_origin : Parts → Parts → Bool
same_origin a b = bytes_eq a.scheme b.scheme && same_place a b

-- The URL goes to the registry: the same host and port, and not `http` if the registry is `https`.
unfoldable pub targets : Parts → Parts → Bool
targets url registry =
    same_place url registry
    && not (bytes_eq registry.scheme (codes "https") && not (bytes_eq url.scheme (codes "https")))
