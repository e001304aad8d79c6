-- The layers of a root file system (OCI image specification, config.md, `rootfs`).
use Rattle.std.specs.Prelude.{List, [], ◌∷◌, Option, Some, codes}
use Rattle.serde_json.specs.Data.{Data, string}
use Rattle.json_values.specs.Writing.{listed}
use Rattle.json_tables.specs.Reading.{◌>>=◌, text_of, list_of}
use Rattle.json_tables.specs.Member.{required}
use Rattle.json_tables.specs.Fields.{Field, fields}
use Rattle.oci_docs.specs.declared.rootfs.Rootfs.{Rootfs}

unfoldable pub rootfs_of : Data → Option Rootfs
rootfs_of d = do
  kind ← required text_of (codes "type") d
  diff_ids ← required (list_of text_of) (codes "diff_ids") d
  Some (record { kind = kind; diff_ids = diff_ids })

-- how it is written
abbrev pub rootfs_fields : Rootfs → List Field
rootfs_fields x = (codes "type", Some (string x.kind)) ∷ (codes "diff_ids", Some (listed string x.diff_ids)) ∷ []

unfoldable pub rootfs_written : Rootfs → Data
rootfs_written x = fields (rootfs_fields x)

-- the kind `layers`, without layers
abbrev pub no_layers : Rootfs
no_layers = record { kind = codes "layers"; diff_ids = [] }
