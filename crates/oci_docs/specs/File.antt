-- The configuration file of an image (OCI image specification, config.md).
use Rattle.std.specs.Prelude.{List, [], ◌∷◌, Option, Some, option_map, codes}
use Rattle.serde_json.specs.Data.{Data, string}
use Rattle.json_values.specs.Writing.{listed}
use Rattle.json_tables.specs.Reading.{◌>>=◌, text_of, list_of}
use Rattle.json_tables.specs.Member.{required, optional}
use Rattle.json_tables.specs.Fields.{Field, fields}
use Rattle.oci_docs.specs.Reader.{time_of}
use Rattle.oci_docs.specs.Writer.{time_written}
use Rattle.oci_docs.specs.declared.file.ConfigFile.{ConfigFile}
use Rattle.oci_docs.specs.Config.{config_of, config_written, normal_config, some_list}
use Rattle.oci_docs.specs.History.{history_of, history_written}
use Rattle.oci_docs.specs.Rootfs.{rootfs_of, rootfs_written}

unfoldable pub file_of : Data → Option ConfigFile
file_of d = do
  created ← optional time_of (codes "created") d
  author ← optional text_of (codes "author") d
  architecture ← required text_of (codes "architecture") d
  os ← required text_of (codes "os") d
  config ← optional config_of (codes "config") d
  rootfs ← required rootfs_of (codes "rootfs") d
  history ← optional (list_of history_of) (codes "history") d
  Some (record {
    created = created;
    author = author;
    architecture = architecture;
    os = os;
    config = config;
    rootfs = rootfs;
    history = history;
  })

-- empty members of `config` and an empty history are replaced by none
abbrev pub normal_file : ConfigFile → ConfigFile
normal_file x = record x { config = option_map normal_config x.config; history = some_list x.history }

-- how it is written
abbrev pub file_fields : ConfigFile → List Field
file_fields x =
    (codes "created", option_map time_written x.created)
    ∷ (codes "author", option_map string x.author)
    ∷ (codes "architecture", Some (string x.architecture))
    ∷ (codes "os", Some (string x.os))
    ∷ (codes "config", option_map config_written x.config)
    ∷ (codes "rootfs", Some (rootfs_written x.rootfs))
    ∷ (codes "history", option_map (listed history_written) (some_list x.history))
    ∷ []

unfoldable pub file_written : ConfigFile → Data
file_written x = fields (file_fields x)
