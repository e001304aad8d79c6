-- The parts of references, their text and how they are parsed.
use Rattle.std.specs.Prelude.{ℕ, ◌==◌, List, ◌++◌, Bool, false, ◌&&◌, if◌then◌else◌, Option, Some, None, Result, Ok}
use Rattle.std.specs.Prelude.{Err, length, is_some, unwrap_or, codes}
use Rattle.std.specs.Option.{option_map_or, option_eq}
use Rattle.std.specs.Str.{bytes_eq}
use Rattle.oci_names.specs.declared.parse_error.ParseError.{ParseError}
use Rattle.oci_names.specs.declared.parse_error.ParseError.TheVariants.{NameEmpty}
use Rattle.oci_names.specs.declared.reference.Reference.{Reference}
use Rattle.oci_names.specs.Parts.{Parts, parts_of, refusal_of, registry_named, repository_named, tag_named, marked}

abbrev pub registry_of : Reference → List ℕ
registry_of r = r.registry

abbrev pub repository_of : Reference → List ℕ
repository_of r = r.repository

abbrev pub tag_of : Reference → Option (List ℕ)
tag_of r = r.tag

abbrev pub digest_of : Reference → Option (List ℕ)
digest_of r = r.digest

-- the registry that replaces the reference's own
abbrev pub mirror_of : Reference → Option (List ℕ)
mirror_of r = r.mirror

-- the reference of parts that are not refused
abbrev pub reference_named : Parts → Reference
reference_named p = record {
  registry = registry_named p.domain;
  mirror = None;
  repository = repository_named p;
  tag = tag_named p;
  digest = p.digest;
}

-- the result of parsing a text
abbrev pub reference_of : List ℕ → Result Reference ParseError
reference_of xs =
    if length xs == 0 then Err NameEmpty
    else option_map_or (λ e. Err e) (refusal_of (parts_of xs)) (Ok (reference_named (parts_of xs)))

-- `registry/repository`, then `:tag` and `@digest` if present
abbrev pub whole_text : Reference → List ℕ
whole_text r = r.registry ++ codes "/" ++ r.repository ++ marked (codes ":") r.tag ++ marked (codes "@") r.digest

-- the registry that receives requests: the mirror if one is set, and for `docker.io` the host that serves it
abbrev pub resolved_registry : Reference → List ℕ
resolved_registry r =
    unwrap_or r.mirror (if bytes_eq r.registry (codes "docker.io") then codes "index.docker.io" else r.registry)

-- the registry for which a mirror is asked
abbrev pub namespace_of : Reference → Option (List ℕ)
namespace_of r = if is_some r.mirror then Some r.registry else None

-- the same parts, and the same mirror
abbrev pub is_same : Reference → Reference → Bool
is_same a b =
    bytes_eq a.registry b.registry && option_eq bytes_eq a.mirror b.mirror
    && bytes_eq a.repository b.repository && option_eq bytes_eq a.tag b.tag
    && option_eq bytes_eq a.digest b.digest

-- whether this result is the reference
abbrev pub is_read_as : Reference → Result Reference ParseError → Bool
is_read_as r (Ok s) = is_same s r
is_read_as r (Err e) = false

-- whether the reference's text parses to the reference itself, which then has no mirror
abbrev pub reads_back : Reference → Bool
reads_back r = is_read_as r (reference_of (whole_text r))
