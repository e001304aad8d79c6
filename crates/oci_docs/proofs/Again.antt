-- Written values round-trip.
use Rattle.std.proofs.Common.{◌≡◌, List, false, Option, Some, None, option_map, refl, sym, ap, subst}
use Rattle.serde_json.specs.Data.{Data, string, boolean}
use Rattle.serde_json.specs.Find.{get}
use Rattle.json_values.specs.Writing.{listed, map_written, set_written}
use Rattle.json_tables.specs.Reading.{◌>>=◌, text_of, bool_of, list_of, map_of}
use Rattle.json_tables.specs.Objects.{an_object, set_of}
use Rattle.json_tables.specs.Member.{present, unless_null}
use Rattle.json_tables.specs.Outcomes.{Refuses}
use Rattle.json_tables.specs.declared.error.ReadError.{ReadError}
use Rattle.json_tables.specs.declared.error.ReadError.TheVariants.{Float, Shape, Ambiguous, WantOfMemory}
use Rattle.json_tables.specs.Again.{ReadsAgain, MemberReadsAgain}
use Rattle.json_tables.proofs.Members.{among, or_else-none, get-fields, fields_plain}
use Rattle.oci_docs.specs.declared.config.Config.{Config}
use Rattle.oci_docs.specs.declared.rootfs.Rootfs.{Rootfs}
use Rattle.oci_docs.specs.Reader.{time_of}
use Rattle.oci_docs.specs.Writer.{time_written}
use Rattle.oci_docs.specs.declared.history.History.{History}
use Rattle.oci_docs.specs.declared.file.ConfigFile.{ConfigFile}
use Rattle.oci_docs.specs.History.{history_of, history_members, history_fields, history_written}
use Rattle.oci_docs.specs.File.{file_of, file_fields, file_written, normal_file}
use Rattle.oci_docs.specs.Config.{config_of, config_members, config_fields, config_written, normal_config, some_list, some_map}
use Rattle.oci_docs.specs.Rootfs.{rootfs_of, rootfs_fields, rootfs_written}

abbrev pub Optional : {X : Type 0} → (Data → Option X) → (X → Data) → Option X → Type 0
Optional f w x = MemberReadsAgain (unless_null f) (option_map w x) x false

config_reads : (x : Config) (d : Data) → an_object d ≡ Some tt → ((q : List _) → get q d ≡ among q (config_fields x) None)
    → unless_null text_of (option_map string x.user) ≡ Some x.user
    → unless_null set_of (option_map set_written (some_map x.exposed_ports)) ≡ Some (some_map x.exposed_ports)
    → unless_null (list_of text_of) (option_map (listed string) (some_list x.env)) ≡ Some (some_list x.env)
    → unless_null (list_of text_of) (option_map (listed string) (some_list x.cmd)) ≡ Some (some_list x.cmd)
    → unless_null (list_of text_of) (option_map (listed string) (some_list x.entrypoint)) ≡ Some (some_list x.entrypoint)
    → unless_null set_of (option_map set_written (some_map x.volumes)) ≡ Some (some_map x.volumes)
    → unless_null text_of (option_map string x.working_dir) ≡ Some x.working_dir
    → unless_null (map_of text_of) (option_map (map_written string) (some_map x.labels)) ≡ Some (some_map x.labels)
    → unless_null text_of (option_map string x.stop_signal) ≡ Some x.stop_signal
    → config_of d ≡ Some (normal_config x)
unfolding config_of config_members
config_reads x d is_object found user exposed_ports env cmd entrypoint volumes working_dir labels stop_signal = simp (is_object, found, or_else-none, user, exposed_ports, env, cmd, entrypoint, volumes, working_dir, labels, stop_signal)

pub config_again : (x : Config) → Optional text_of string x.user → Optional set_of set_written (some_map x.exposed_ports) → Optional (list_of text_of) (listed string) (some_list x.env) → Optional (list_of text_of) (listed string) (some_list x.cmd) → Optional (list_of text_of) (listed string) (some_list x.entrypoint)
    → Optional set_of set_written (some_map x.volumes) → Optional text_of string x.working_dir → Optional (map_of text_of) (map_written string) (some_map x.labels) → Optional text_of string x.stop_signal
    → ReadsAgain config_of (config_written x) (normal_config x) false
unfolding config_written
config_again x user exposed_ports env cmd entrypoint volumes working_dir labels stop_signal = record {
  reads = config_reads x _ refl (λ q. get-fields q (config_fields x)) user.reads exposed_ports.reads env.reads cmd.reads entrypoint.reads volumes.reads working_dir.reads labels.reads stop_signal.reads;
  is_there = refl;
  plain = λ _. fields_plain (config_fields x) (simp (user.plain refl, exposed_ports.plain refl, env.plain refl, cmd.plain refl, entrypoint.plain refl, volumes.plain refl, working_dir.plain refl, labels.plain refl, stop_signal.plain refl));
}

rootfs_reads : (x : Rootfs) (d : Data) → ((q : List _) → get q d ≡ among q (rootfs_fields x) None) → list_of text_of (listed string x.diff_ids) ≡ Some x.diff_ids → rootfs_of d ≡ Some x
unfolding rootfs_of
rootfs_reads x d found diff_ids = simp (found, diff_ids)

pub rootfs_again : (x : Rootfs) → MemberReadsAgain (present (list_of text_of)) (Some (listed string x.diff_ids)) x.diff_ids false → ReadsAgain rootfs_of (rootfs_written x) x false
unfolding rootfs_written
rootfs_again x diff_ids = record {
  reads = rootfs_reads x _ (λ q. get-fields q (rootfs_fields x)) diff_ids.reads;
  is_there = refl;
  plain = λ _. fields_plain (rootfs_fields x) (simp (diff_ids.plain refl));
}

history_reads : (x : History) (d : Data) → an_object d ≡ Some tt → ((q : List _) → get q d ≡ among q (history_fields x) None)
    → unless_null time_of (option_map time_written x.created) ≡ Some x.created
    → unless_null text_of (option_map string x.author) ≡ Some x.author
    → unless_null text_of (option_map string x.created_by) ≡ Some x.created_by
    → unless_null text_of (option_map string x.comment) ≡ Some x.comment
    → unless_null bool_of (option_map boolean x.empty_layer) ≡ Some x.empty_layer
    → history_of d ≡ Some x
unfolding history_of history_members
history_reads x d is_object found created author created_by comment empty_layer = simp (is_object, found, or_else-none, created, author, created_by, comment, empty_layer)

pub history_again : (x : History) → Optional time_of time_written x.created → Optional text_of string x.author → Optional text_of string x.created_by → Optional text_of string x.comment → Optional bool_of boolean x.empty_layer
    → ReadsAgain history_of (history_written x) x false
unfolding history_written
history_again x created author created_by comment empty_layer = record {
  reads = history_reads x _ refl (λ q. get-fields q (history_fields x)) created.reads author.reads created_by.reads comment.reads empty_layer.reads;
  is_there = refl;
  plain = λ _. fields_plain (history_fields x) (simp (created.plain refl, author.plain refl, created_by.plain refl, comment.plain refl, empty_layer.plain refl));
}

file_reads : (x : ConfigFile) (d : Data) → ((q : List _) → get q d ≡ among q (file_fields x) None)
    → unless_null time_of (option_map time_written x.created) ≡ Some x.created
    → unless_null text_of (option_map string x.author) ≡ Some x.author
    → unless_null config_of (option_map config_written x.config) ≡ Some (option_map normal_config x.config)
    → rootfs_of (rootfs_written x.rootfs) ≡ Some x.rootfs
    → unless_null (list_of history_of) (option_map (listed history_written) (some_list x.history)) ≡ Some (some_list x.history)
    → file_of d ≡ Some (normal_file x)
unfolding file_of
file_reads x d found created author config rootfs history = simp (found, or_else-none, created, author, config, rootfs, history)

pub file_again : (x : ConfigFile) → Optional time_of time_written x.created → Optional text_of string x.author
    → MemberReadsAgain (unless_null config_of) (option_map config_written x.config) (option_map normal_config x.config) false
    → MemberReadsAgain (present rootfs_of) (Some (rootfs_written x.rootfs)) x.rootfs false
    → Optional (list_of history_of) (listed history_written) (some_list x.history)
    → ReadsAgain file_of (file_written x) (normal_file x) false
unfolding file_written
file_again x created author config rootfs history = record {
  reads = file_reads x _ (λ q. get-fields q (file_fields x)) created.reads author.reads config.reads rootfs.reads history.reads;
  is_there = refl;
  plain = λ _. fields_plain (file_fields x) (simp (created.plain refl, author.plain refl, config.plain refl, rootfs.plain refl, history.plain refl));
}

-- a value that is not an object is refused
pub no_object : {X : Type 0} (f : Data → Option X) (d : Data) (e : ReadError) → Refuses e (an_object d) → Refuses e (an_object d >>= λ _. f d)
no_object f d Float h = h
no_object f d Shape h = ap (λ o. o >>= λ _. f d) h
no_object f d Ambiguous h = h
no_object f d WantOfMemory h = tt

-- an object is refused if its members are
pub behind_object : {X : Type 0} (f : Data → Option X) (d : Data) (e : ReadError) → an_object d ≡ Some tt → Refuses e (f d) → Refuses e (an_object d >>= λ _. f d)
behind_object f d e object h = subst (Refuses e) (sym (ap (λ o. o >>= λ _. f d) object)) h

pub ruleset object_rules = (no_object, behind_object)
