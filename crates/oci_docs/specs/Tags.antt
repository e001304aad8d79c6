-- The tags of a repository (OCI distribution specification, "Listing Tags").
use Rattle.std.specs.Prelude.{ℕ, List, [], Option, Some, None, codes}
use Rattle.serde_json.specs.Data.{Data, null}
use Rattle.json_tables.specs.Reading.{◌>>=◌, text_of, list_of}
use Rattle.json_tables.specs.Member.{required, at_name}
use Rattle.oci_docs.specs.declared.tags.TagResponse.{TagResponse}

-- a list of strings that must be present, null being the empty list
abbrev pub tags_of : Option Data → Option (List (List ℕ))
tags_of None = None
tags_of (Some null) = Some []
tags_of (Some d) = list_of text_of d

unfoldable pub tag_response_of : Data → Option TagResponse
tag_response_of d = do
  name ← required text_of (codes "name") d
  tags ← at_name tags_of (codes "tags") d
  Some (record { name = name; tags = tags })
