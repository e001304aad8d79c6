-- How the text of a reference is split, and which parts make a reference.
use Rattle.std.specs.Prelude.{ℕ, ◌==◌, List, [], ◌++◌, Bool, true, ◌&&◌, ◌||◌, not, if◌then◌else◌, Option, Some, None}
use Rattle.std.specs.Prelude.{length, nat_lt, is_none, codes}
use Rattle.std.specs.List.{list_any}
use Rattle.std.specs.Option.{option_map_or}
use Rattle.std.specs.Str.{bytes_eq}
use Rattle.oci_names.specs.declared.parse_error.ParseError.{ParseError}
use Rattle.oci_names.specs.declared.parse_error.ParseError.TheVariants.{ReferenceInvalidFormat, NameTooLong}
use Rattle.oci_names.specs.declared.parse_error.ParseError.TheVariants.{DigestUnsupported, DigestInvalidLength}
use Rattle.oci_names.specs.Algorithms.{algorithm_of, digits_in}
use Rattle.oci_names.specs.Grammar.{before, after, is_domain, is_path, is_tag, is_digest}

-- the parts of a text
pub record Parts : Type 0 where
  pub domain : List ℕ
  pub path : List ℕ
  pub tag : Option (List ℕ)
  pub digest : Option (List ℕ)

-- a dot or a colon
abbrev pub is_domain_mark : ℕ → Bool
is_domain_mark b = b == 46 || b == 58

-- a first part that contains a dot or a colon, or is `localhost`, is a domain
abbrev pub is_domain_part : List ℕ → Bool
is_domain_part xs = list_any is_domain_mark xs || bytes_eq xs (codes "localhost")

-- the domain, or Docker Hub's if the text names none
abbrev pub domain_in : List ℕ → List ℕ
domain_in xs =
    option_map_or (λ _. if is_domain_part (before 47 xs) then before 47 xs else codes "docker.io")
    (after 47 xs) (codes "docker.io")

-- the rest after the domain
abbrev pub rest_in : List ℕ → List ℕ
rest_in xs = option_map_or (λ rest. if is_domain_part (before 47 xs) then rest else xs) (after 47 xs) xs

-- the digest follows the first `@`, and the tag the first `:` before it
abbrev pub parts_of : List ℕ → Parts
parts_of xs =
    let rest = rest_in xs in
    let name = before 64 rest in
    record { domain = domain_in xs; path = before 58 name; tag = after 58 name; digest = after 64 rest }

-- each part is a word of the grammar
abbrev pub is_grammatical : Parts → Bool
is_grammatical p =
    is_domain p.domain && is_path p.path && option_map_or is_tag p.tag true && option_map_or is_digest p.digest true

-- `index.docker.io` is replaced by `docker.io`
abbrev pub registry_named : List ℕ → List ℕ
registry_named domain = if bytes_eq domain (codes "index.docker.io") then codes "docker.io" else domain

abbrev pub is_slash : ℕ → Bool
is_slash b = b == 47

-- on `docker.io` a path without a slash gets the prefix `library/`
abbrev pub library_for : List ℕ → List ℕ → List ℕ
library_for registry path =
    if bytes_eq registry (codes "docker.io") && not (list_any is_slash path) then codes "library/" else []

abbrev pub repository_named : Parts → List ℕ
repository_named p = library_for (registry_named p.domain) p.path ++ p.path

-- without tag and digest the tag is `latest`
abbrev pub tag_named : Parts → Option (List ℕ)
tag_named p = if is_none p.tag && is_none p.digest then Some (codes "latest") else p.tag

-- why a digest is refused
abbrev pub digest_refusal : List ℕ → Option ParseError
digest_refusal digest =
    option_map_or
    (λ a. if option_map_or length (after 58 digest) 0 == digits_in a then None else Some DigestInvalidLength)
    (algorithm_of (before 58 digest)) (Some DigestUnsupported)

-- why parts are refused, the first cause first
abbrev pub refusal_of : Parts → Option ParseError
refusal_of p =
    if not (is_grammatical p) then Some ReferenceInvalidFormat
    else (if nat_lt 255 (length (repository_named p)) then Some NameTooLong
    else option_map_or digest_refusal p.digest None)

-- a part after its mark
abbrev pub marked : List ℕ → Option (List ℕ) → List ℕ
marked mark part = option_map_or (λ text. mark ++ text) part []
