use Rattle.std.proofs.Common.{sym, ◌∙◌, ap, subst, set}
use Rattle.std.specs.FinMap as map
use Rattle.json_values.specs.Places.{place_of, Sorted}
use Rattle.json_values.proofs.Maps.{sorted_put, from_put, put_found, put_gap}
use Rattle.json_values.proofs.map.TextMap.insert.Goals as goal

pub place-requires : goal.place-requires
place-requires g c = subst Sorted (sym c.as_slice.ensures.value) c.self.invariant

-- the name is present, and its value is replaced
pub invariant_of-self : goal.invariant_of-self
invariant_of-self g c =
    let there = sym (c.in-Ok.ensures.place ∙ ap (λ k. place_of k c.as_slice.result.now) c.as_str.ensures ∙ ap (place_of c.args.name) c.as_slice.ensures.value) in
    let is = put_found c.args.name c.args.value c.self.inside.entries.items c.in-Ok.at c.index_mut.result.now there
    ∙ ap (λ x. set c.self.inside.entries.items c.in-Ok.at (x.0, c.args.value)) (sym c.index_mut.ensures.value) in
    subst Sorted is (sorted_put c.self.inside.entries.items c.self.invariant c.args.name c.args.value)

pub returns-in-Ok-clause-ok : goal.returns-in-Ok-clause-ok
returns-in-Ok-clause-ok g c =
    let there = sym (c.in-Ok.ensures.place ∙ ap (λ k. place_of k c.as_slice.result.now) c.as_str.ensures ∙ ap (place_of c.args.name) c.as_slice.ensures.value) in
    let is = put_found c.args.name c.args.value c.self.inside.entries.items c.in-Ok.at c.index_mut.result.now there
    ∙ ap (λ x. set c.self.inside.entries.items c.in-Ok.at (x.0, c.args.value)) (sym c.index_mut.ensures.value) in
    ap map.from_sorted (sym is) ∙ from_put c.self.inside.entries.items c.self.invariant c.args.name c.args.value
    ∙ ap (λ m. map.insert m c.args.name c.args.value) c.self.view_is

-- the name is missing, and is inserted at its index
pub invariant_of-self-in-Err : goal.invariant_of-self-in-Err
invariant_of-self-in-Err g c =
    let gap = sym (c.in-Err.ensures.place ∙ ap (λ k. place_of k c.as_slice.result.now) c.as_str.ensures ∙ ap (place_of c.args.name) c.as_slice.ensures.value) in
    let is = put_gap c.args.name c.args.value c.self.inside.entries.items c.in-Err.at gap ∙ sym c.in_ok-insert-in-Err.ensures.items in
    subst Sorted is (sorted_put c.self.inside.entries.items c.self.invariant c.args.name c.args.value)

pub returns-in_ok-insert-in-Err-clause-ok : goal.returns-in_ok-insert-in-Err-clause-ok
returns-in_ok-insert-in-Err-clause-ok g c =
    let gap = sym (c.in-Err.ensures.place ∙ ap (λ k. place_of k c.as_slice.result.now) c.as_str.ensures ∙ ap (place_of c.args.name) c.as_slice.ensures.value) in
    let is = put_gap c.args.name c.args.value c.self.inside.entries.items c.in-Err.at gap ∙ sym c.in_ok-insert-in-Err.ensures.items in
    ap map.from_sorted (sym is) ∙ from_put c.self.inside.entries.items c.self.invariant c.args.name c.args.value
    ∙ ap (λ m. map.insert m c.args.name c.args.value) c.self.view_is
