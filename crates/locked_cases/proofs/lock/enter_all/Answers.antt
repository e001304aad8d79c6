use Rattle.std.proofs.Common.{◌≡◌, ◌∷◌, [], ◌++◌, List, length, refl, sym, ap, subst, ◌∙◌, append_assoc, append-nil, arith}
use Rattle.std.specs.Vec.Iter.{into_iter_items}
use Rattle.recorded_case.specs.Case.{IsReady}
use Rattle.recorded_case.specs.declared.case.Case.{Case}
use Rattle.pulled_cases.specs.Once.{HasOneMoment}
use Rattle.locked_cases.specs.Entering.{EntersCase}
use Rattle.locked_cases.specs.Locks.{HaveEntries}
use Rattle.locked_cases.proofs.Entered.{one_more, at_place, refuses}
use Rattle.locked_cases.proofs.lock.enter_all.Goals as goal

nothing_left : {X : Type 0} (l : List X) → length l ≡ 0 → l ≡ []
nothing_left [] h = refl
nothing_left (x ∷ xs) h = absurd (omega arith)

-- the cases so far, this one and the others are all cases
joined : {X : Type 0} (yielded left rest all given cases : List X) (x : X) → left ≡ x ∷ rest → yielded ++ left ≡ all → all ≡ given → given ≡ cases → yielded ++ x ∷ rest ≡ cases
joined yielded left rest all given cases x steps so_far gives are = ap (λ xs. yielded ++ xs) (sym steps) ∙ so_far ∙ gives ∙ are

pub enter_case-requires-clause-ready : goal.enter_case-requires-clause-ready
enter_case-requires-clause-ready c =
    at_place IsReady c.loop-case.yielded _ c.in-Some.case c.args.input.cases
    (joined _ _ _ _ _ _ _ c.in-Some.ensures.steps.0 c.loop-case.invariant.0 c.into_iter-case-iterator.ensures.into_iter_gives.0 c.into_vec-case-items.ensures) c.requires.ready

pub enter_case-requires-clause-once : goal.enter_case-requires-clause-once
enter_case-requires-clause-once c =
    at_place HasOneMoment c.loop-case.yielded _ c.in-Some.case c.args.input.cases
    (joined _ _ _ _ _ _ _ c.in-Some.ensures.steps.0 c.loop-case.invariant.0 c.into_iter-case-iterator.ensures.into_iter_gives.0 c.into_vec-case-items.ensures) c.requires.once

pub loop-case-preserved : goal.loop-case-preserved
loop-case-preserved c =
    let at = c.loop-case in
    let x = c.in-Some.case in
    let steps : into_iter_items at.case-iterator ≡ x ∷ into_iter_items c.next.new.self = c.in-Some.ensures.steps.0 in (
      append_assoc at.yielded (x ∷ []) _ ∙ rw (← steps) at.invariant.0,
      subst (HaveEntries (at.yielded ++ x ∷ [])) (sym c.in_ok-push-in-Ok.ensures.ok) (one_more at.yielded at.entries x c.in_ok-entered.entered c.in-Ok.entry c.in-Ok.is c.in_ok-entered.ensures at.invariant.1),
      let was = at.invariant.2 in
          let gone = c.in-Some.ensures.steps.1 in
          let short = ap length steps in
          omega arith,
    )

pub returns-in-Err : goal.returns-in-Err
returns-in-Err c =
    refuses c.loop-case.yielded _ c.args.input.cases c.in-Some.case c.loop-case.entries c.in-Err.refused
    (joined _ _ _ _ _ _ _ c.in-Some.ensures.steps.0 c.loop-case.invariant.0 c.into_iter-case-iterator.ensures.into_iter_gives.0 c.into_vec-case-items.ensures)
    c.loop-case.invariant.1 (subst (EntersCase c.in-Some.case) c.in-Err.is c.in_ok-entered.ensures)

pub returns : goal.returns
returns c =
    let at = c.loop-case in
    let none = c.in-None.ensures.steps in
    let empty : into_iter_items at.case-iterator ≡ [] = nothing_left _ (sym at.invariant.2 ∙ none.0) in
    let all = sym (append-nil at.yielded) ∙ rw empty at at.invariant.0 ∙ c.into_iter-case-iterator.ensures.into_iter_gives.0 ∙ c.into_vec-case-items.ensures in
    subst (λ (l : List Case). HaveEntries l at.entries) all at.invariant.1
