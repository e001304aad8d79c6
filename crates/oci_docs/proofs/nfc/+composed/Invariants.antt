use Rattle.std.proofs.Common.{◌≡◌, map, take}
use Rattle.serde_json.specs.Data.{no_members}
use Rattle.serde_json.specs.View.{view, members_view}
use Rattle.oci_docs.specs.Nfc.{composed_members}
use Rattle.oci_docs.proofs.Steps.{composed_view}
use Rattle.oci_docs.proofs.nfc.+composed.Given as goal

abbrev pub invariant-compose_items-loop-item : goal.invariant-compose_items-loop-item
invariant-compose_items-loop-item l = map view l.values.items ≡ map composed_view (take l.item-index l.item-items)

abbrev pub invariant-compose_members-loop-name : goal.invariant-compose_members-loop-name
invariant-compose_members-loop-name l = composed_members no_members (members_view l.members.entries) ≡ composed_members (members_view l.found.entries) (members_view l.name-iterator)
