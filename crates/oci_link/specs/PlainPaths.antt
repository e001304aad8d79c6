-- Paths of a registry that a URL's text contains verbatim.
use Rattle.std.specs.Prelude.{◌≡◌, ℕ, ◌==◌, Bool, not, ◌||◌, List, [], ◌∷◌, ◌++◌, Some, IsTrue, codes, ◌⊎◌}
use Rattle.std.specs.List.{list_all}
use Rattle.std.specs.Char.{is_ascii_alphanumeric}
use Rattle.url.specs.Parts.{Parts, serialize}
use Rattle.oci_names.specs.Words.{Domain}
use Rattle.oci_transport.specs.Urls.{request_url, registry_text}

-- a letter, a digit or an underscore
abbrev pub is_first_byte : ℕ → Bool
is_first_byte b = is_ascii_alphanumeric b || b == 95

-- these, and dots, dashes and colons
abbrev pub is_segment_byte : ℕ → Bool
is_segment_byte b = is_first_byte b || (b == 46 || (b == 45 || b == 58))

abbrev pub Segment : List ℕ → Type 0
Segment text =
    (first : ℕ) × (rest : List ℕ) × (text ≡ first ∷ rest)
    × IsTrue (is_first_byte first) × IsTrue (list_all is_segment_byte rest)

-- a slash before each segment, of which the last may be empty
pub data PlainPath : List ℕ → Type 0 where
  last : (segment : List ℕ) → (segment ≡ []) ⊎ Segment segment → PlainPath (47 ∷ segment)
  more : (segment path : List ℕ) → Segment segment → PlainPath path → PlainPath (47 ∷ (segment ++ path))

-- a scheme has no colon
abbrev pub Scheme : List ℕ → Type 0
Scheme text = IsTrue (list_all (λ b. not (b == 58)) text)

-- the text parses to a URL with this text, and with the scheme, host and port of another URL
pub record ReadsAs (text : List ℕ) (url : Parts) : Type 0 where
  pub read : Parts
  pub reads : request_url text ≡ Some read
  pub same_text : serialize read ≡ text
  pub scheme : read.scheme ≡ url.scheme
  pub host : read.host ≡ url.host
  pub port : read.port ≡ url.port

-- if a registry is a domain, and its URL has the text `scheme://registry/`, each plain path after
-- `scheme://registry` is parsed verbatim
abbrev pub PlainPathsRead : Parts → Type 0
PlainPathsRead url =
    (scheme registry path : List ℕ) → Scheme scheme → Domain registry
    → request_url (registry_text scheme registry) ≡ Some url
    → serialize url ≡ registry_text scheme registry ++ codes "/"
    → PlainPath path → ReadsAs (registry_text scheme registry ++ path) url
