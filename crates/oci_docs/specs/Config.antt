-- How a container is started (OCI image specification, config.md, `config`).
use Rattle.std.specs.Prelude.{List, [], ◌∷◌, Option, Some, None, option_map, codes}
use Rattle.std.specs.FinMap.{entries}
use Rattle.serde_json.specs.Data.{Data, string}
use Rattle.json_values.specs.Writing.{listed, map_written, set_written}
use Rattle.json_tables.specs.Reading.{◌>>=◌, text_of, list_of, map_of, Map}
use Rattle.json_tables.specs.Objects.{an_object, set_of}
use Rattle.json_tables.specs.Member.{optional}
use Rattle.json_tables.specs.Fields.{Field, fields, no_entries, unless_empty}
use Rattle.oci_docs.specs.declared.config.Config.{Config}

unfoldable pub config_members : Data → Option Config
config_members d = do
  user ← optional text_of (codes "User") d
  exposed_ports ← optional set_of (codes "ExposedPorts") d
  env ← optional (list_of text_of) (codes "Env") d
  cmd ← optional (list_of text_of) (codes "Cmd") d
  entrypoint ← optional (list_of text_of) (codes "Entrypoint") d
  volumes ← optional set_of (codes "Volumes") d
  working_dir ← optional text_of (codes "WorkingDir") d
  labels ← optional (map_of text_of) (codes "Labels") d
  stop_signal ← optional text_of (codes "StopSignal") d
  Some (record {
    user = user;
    exposed_ports = exposed_ports;
    env = env;
    cmd = cmd;
    entrypoint = entrypoint;
    volumes = volumes;
    working_dir = working_dir;
    labels = labels;
    stop_signal = stop_signal;
  })

unfoldable pub config_of : Data → Option Config
config_of d = do
  members ← an_object d
  config_members d

-- all fields are none
abbrev pub no_config : Config
no_config = record {
  user = None;
  exposed_ports = None;
  env = None;
  cmd = None;
  entrypoint = None;
  volumes = None;
  working_dir = None;
  labels = None;
  stop_signal = None;
}

-- the list, if it is not empty
abbrev pub some_list : {X : Type 0} → Option (List X) → Option (List X)
some_list = unless_empty no_entries

-- the map or set, if it is not empty
abbrev pub some_map : {V : Type 0} → Option (Map V) → Option (Map V)
some_map = unless_empty (λ m. no_entries (entries m))

-- empty lists, sets and maps are replaced by none
abbrev pub normal_config : Config → Config
normal_config x = record x {
  exposed_ports = some_map x.exposed_ports;
  env = some_list x.env;
  cmd = some_list x.cmd;
  entrypoint = some_list x.entrypoint;
  volumes = some_map x.volumes;
  labels = some_map x.labels;
}

-- how it is written
abbrev pub config_fields : Config → List Field
config_fields x =
    (codes "User", option_map string x.user)
    ∷ (codes "ExposedPorts", option_map set_written (some_map x.exposed_ports))
    ∷ (codes "Env", option_map (listed string) (some_list x.env))
    ∷ (codes "Cmd", option_map (listed string) (some_list x.cmd))
    ∷ (codes "Entrypoint", option_map (listed string) (some_list x.entrypoint))
    ∷ (codes "Volumes", option_map set_written (some_map x.volumes))
    ∷ (codes "WorkingDir", option_map string x.working_dir)
    ∷ (codes "Labels", option_map (map_written string) (some_map x.labels))
    ∷ (codes "StopSignal", option_map string x.stop_signal)
    ∷ []

unfoldable pub config_written : Config → Data
config_written x = fields (config_fields x)
