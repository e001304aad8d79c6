-- Redirects that end.
use Rattle.std.specs.Prelude.{ℕ, zero, suc, Bool, true, false, ◌&&◌, is_none, List, Option, Some, None, bytes_eq}
use Rattle.std.specs.Option.{option_map_or}
use Rattle.std.specs.List.{list_all}
use Rattle.std.specs.FinMap as map
use Rattle.std.specs.FinMap.{FinMap}
use Rattle.json_values.specs.Places.{by_bytes}
use Rattle.url.specs.Parts.{Parts, serialize}
use Rattle.oci_transport.specs.Urls.{request_url}
use Rattle.oci_link.specs.Paths.{path_of}
use Rattle.oci_link.specs.declared.shelf.Shelf.{Shelf}

-- texts by name
abbrev pub Texts : Type 0
Texts = FinMap by_bytes (List ℕ)

-- the text parses to a URL with this text
abbrev pub is_own_text : List ℕ → Option Parts → Bool
is_own_text text None = false
is_own_text text (Some url) = bytes_eq (serialize url) text

-- both have a path, and the paths are equal
abbrev pub same_path : Option (List ℕ) → Option (List ℕ) → Bool
same_path (Some a) (Some b) = bytes_eq a b
same_path _ _ = false

-- at most n steps of the map lead to a string that is not a name
abbrev pub ends_within : ℕ → Texts → List ℕ → Bool
ends_within zero redirects text = is_none (map.get redirects text)
ends_within (suc n) redirects text = option_map_or (ends_within n redirects) (map.get redirects text) true

-- a name and its value have one path, and at most ten steps lead to an end
abbrev pub entry_leads : Texts → List ℕ × List ℕ → Bool
entry_leads redirects entry =
    is_own_text entry.1 (request_url entry.1)
    && (same_path (path_of entry.0) (path_of entry.1) && ends_within 10 redirects entry.0)

unfoldable pub redirects_lead : Shelf → Bool
redirects_lead shelf = list_all (entry_leads shelf.redirects) (map.entries shelf.redirects)
