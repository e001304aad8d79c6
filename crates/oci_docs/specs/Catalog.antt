-- The repositories of a registry (Docker Registry HTTP API V2, "Catalog").
use Rattle.std.specs.Prelude.{Option, Some, codes}
use Rattle.serde_json.specs.Data.{Data}
use Rattle.json_tables.specs.Reading.{◌>>=◌, text_of, list_of}
use Rattle.json_tables.specs.Member.{required}
use Rattle.oci_docs.specs.declared.catalog.CatalogResponse.{CatalogResponse}

unfoldable pub catalog_response_of : Data → Option CatalogResponse
catalog_response_of d = do
  repositories ← required (list_of text_of) (codes "repositories") d
  Some (record { repositories = repositories })
