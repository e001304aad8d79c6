use Rattle.live_copy.proofs.live.serve_copy.Goals as goal

pub returns : goal.returns
returns g c = record { status = c.follow-ended.ensures c.args.settings _ c.in-Ok.ensures (rw c.source_settings.ensures at c.search_and_decide-decided.ensures.decided) }
