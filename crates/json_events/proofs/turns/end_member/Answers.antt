use Rattle.std.proofs.Common.{inl, refl, sym, ap, ◌∙◌}
use Rattle.json_events.specs.States.{draft_of}
use Rattle.json_events.specs.Units.{units}
use Rattle.json_events.proofs.DraftTurns.{duplicate}
use Rattle.json_events.proofs.turns.end_member.Goals as goal

pub returns-then-contains : goal.returns-then-contains
returns-then-contains c =
    inl (duplicate (draft_of c.args.state.now) c.in_ok-member.member (sym c.is_at.ensures ∙ c.if-not-is_at.false) (ap (λ m. m.sorting_key) c.in_ok-member.ensures ∙ ap units c.as_str-2.ensures.value) (sym c.contains.ensures ∙ c.if-contains.true), refl)
