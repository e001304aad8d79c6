use Rattle.std.proofs.Common.{sym, ◌∙◌}
use Rattle.json_events.specs.declared.spot.Spot.TheVariants.{Names}
use Rattle.json_events.specs.States.{draft_of, level_of}
use Rattle.json_events.proofs.DraftTurns.{tried, closes_object}
use Rattle.json_events.proofs.turns.end_object.Goals as goal

pub returns-clause-turns : goal.returns-clause-turns
returns-clause-turns g c =
    tried c.write_object-written.result _ _ _ _ _ _
    (closes_object Names (draft_of c.args.state.now) (draft_of c.close.new.state) (level_of c.in-Some.object) (sym c.is_at.ensures ∙ c.if-not-is_at.false) c.in-Some.ensures.some)
    c.write_object-written.ensures.tries
