use Rattle.live_pull.proofs.PartsTogether.{prepared_in, prepares_opened}
use Rattle.live_pull.proofs.Justifies.{live_decides}
use Rattle.live_pull.proofs.documents.search_and_decide.Goals as goal

pub returns : goal.returns
returns g c = record {
  decided =
      live_decides _ c.args.settings (prepared_in c.open_settings-client.result c.in-Ok-constraints_from.constraints) _ _ _ _
      (prepares_opened c.in-Ok.asked c.args.settings c.open_settings-client.result c.in-Ok-constraints_from.constraints c.in-Ok.ensures.usual c.open_settings-client.ensures
      (rw c.as_str.ensures at c.in-Ok.ensures.image) c.in-Ok.ensures.auth (rw c.as_slice.ensures at c.in-Ok-constraints_from.ensures))
      c.converse-decided.ensures.decided;
}
