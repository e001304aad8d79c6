-- The provided resolvers.
use Rattle.std.specs.Prelude.{ℕ, Bool, false, ◌&&◌, List, Option, bytes_eq}
use Rattle.std.specs.List.{find}
use Rattle.std.specs.Option.{option_map, option_map_or}
use Rattle.oci_manifests.specs.declared.index_entry.ImageIndexEntry.{ImageIndexEntry}

-- whether the entry is for this operating system and architecture
abbrev pub is_for : List ℕ → List ℕ → ImageIndexEntry → Bool
is_for os architecture entry =
    option_map_or (λ p. bytes_eq p.os os && bytes_eq p.architecture architecture) entry.platform false

-- the digest of the first entry for this operating system and architecture
abbrev pub first_for : List ℕ → List ℕ → List ImageIndexEntry → Option (List ℕ)
first_for os architecture entries = option_map (λ entry. entry.digest) (find (is_for os architecture) entries)
