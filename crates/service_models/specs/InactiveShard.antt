-- A part of the log that accepts no more entries (Rekor's API, `InactiveShardLogInfo`).
use Rattle.std.specs.Prelude.{List, [], ◌∷◌, Option, Some, codes}
use Rattle.serde_json.specs.Data.{Data, string}
use Rattle.json_tables.specs.Reading.{◌>>=◌, text_of, u64_of}
use Rattle.json_tables.specs.Member.{required}
use Rattle.json_tables.specs.Fields.{Field, fields}
use Rattle.service_models.specs.Numbers.{size}
use Rattle.service_models.specs.declared.inactive_shard.InactiveShardLogInfo.{InactiveShardLogInfo}

unfoldable pub shard_of : Data → Option InactiveShardLogInfo
shard_of d = do
  root_hash ← required text_of (codes "rootHash") d
  tree_size ← required u64_of (codes "treeSize") d
  signed_tree_head ← required text_of (codes "signedTreeHead") d
  tree_id ← required text_of (codes "treeID") d
  Some (record {
    root_hash = root_hash;
    tree_size = tree_size;
    signed_tree_head = signed_tree_head;
    tree_id = tree_id;
  })

-- how it is written
abbrev pub shard_fields : InactiveShardLogInfo → List Field
shard_fields x =
    (codes "rootHash", Some (string x.root_hash))
    ∷ (codes "treeSize", Some (size x.tree_size))
    ∷ (codes "signedTreeHead", Some (string x.signed_tree_head))
    ∷ (codes "treeID", Some (string x.tree_id))
    ∷ []

unfoldable pub shard_written : InactiveShardLogInfo → Data
shard_written x = fields (shard_fields x)
