-- A registry in memory, as written in a case.
use Rattle.std.specs.Prelude.{List, [], ◌∷◌, ℕ, Option, Some, codes}
use Rattle.std.specs.FinMap.{empty}
use Rattle.serde_json.specs.Data.{Data}
use Rattle.json_tables.specs.Reading.{◌>>=◌, text_of, map_of}
use Rattle.json_tables.specs.Objects.{only}
use Rattle.json_tables.specs.Member.{required, at_name}
use Rattle.json_tables.specs.Bytes.{bytes_of}
use Rattle.oci_link.specs.Leads.{redirects_lead}
use Rattle.oci_link.specs.declared.shelf.Shelf.{Shelf}
use Rattle.oci_link.specs.declared.shelf.ShelfDocument.{ShelfDocument}
use Rattle.recorded_case.specs.Members.{unless_absent, passing}

-- a manifest or an index with its media type
unfoldable pub document_of : Data → Option ShelfDocument
document_of d = do
  known ← only (codes "media_type" ∷ codes "content" ∷ []) d
  media_type ← required text_of (codes "media_type") d
  content ← required bytes_of (codes "content") d
  Some (record { media_type = media_type; content = content })

-- the members of a shelf
abbrev pub shelf_members : List (List ℕ)
shelf_members =
    codes "repository"
    ∷ codes "tags"
    ∷ codes "documents"
    ∷ codes "blobs"
    ∷ codes "referrers"
    ∷ codes "redirects"
    ∷ []

-- A repository with its maps: from tags to digests, from digests to documents, to blobs and to lists of referrers,
-- and, which may be absent, from URLs to the URLs that they redirect to.
unfoldable pub maps_of : Data → Option Shelf
maps_of d = do
  known ← only shelf_members d
  repository ← required text_of (codes "repository") d
  tags ← required (map_of text_of) (codes "tags") d
  documents ← required (map_of document_of) (codes "documents") d
  blobs ← required (map_of bytes_of) (codes "blobs") d
  referrers ← required (map_of bytes_of) (codes "referrers") d
  redirects ← at_name (unless_absent empty (map_of text_of)) (codes "redirects") d
  Some (record {
    repository = repository;
    tags = tags;
    documents = documents;
    blobs = blobs;
    referrers = referrers;
    redirects = redirects;
  })

-- a shelf, whose redirects all end
abbrev pub shelf_of : Data → Option Shelf
shelf_of d = maps_of d >>= passing redirects_lead
