use Rattle.std.proofs.Common.{sym}
use Rattle.serde_json.specs.View.{view}
use Rattle.json_canon.proofs.Puts.{fed_writes, refused_first}
use Rattle.json_canon.proofs.whole.put_text.Goals as goal

pub returns-in-Some-clause-text : goal.returns-in-Some-clause-text
returns-in-Some-clause-text g c = refused_first c.in-Some.refused (view c.args.value.now) (g.K.Sink.state c.args.sink.now) (sym c.in-Some.ensures.first)

pub returns-clause-text : goal.returns-clause-text
returns-clause-text g c = fed_writes (view c.args.value.now) c.feed-fed.result _ _ _ _ (sym c.in-None.ensures.first) c.in-None.ensures.value c.new-formatter.ensures c.feed-fed.ensures.accepted
