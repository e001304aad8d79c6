use Rattle.std.proofs.Common.{ap, refl, sym, ◌∙◌}
use Rattle.oci_link.specs.State.{failing, is_among}
use Rattle.oci_link.proofs.ServedLinks.{gives, bodies_unknown, stays, piece_may_fail}
use Rattle.oci_link.proofs.faulty_shelf.FaultyShelfTransport.piece.Goals as goal

pub returns-then-is_among-clause-steady : goal.returns-then-is_among-clause-steady
returns-then-is_among-clause-steady c =
    let t = c.args.self.now in
    let there = sym (c.is_among.ensures ∙ ap (is_among t.calls) c.as_slice.ensures) ∙ c.if-is_among.true in
    let table = failing t.served.shelf t.sends t.pieces in
    stays table table t.faults c.saturating_add-self-then-is_among.result t.served t.served refl (λ never. absurd (piece_may_fail t.served.shelf t.sends t.pieces t.calls there never))

pub returns-clause-taken : goal.returns-clause-taken
returns-clause-taken c =
    let t = c.args.self.now in
    gives (failing t.served.shelf t.sends t.pieces) (failing c.next.new.self.shelf t.sends t.pieces) t.faults t.served c.next.new.self c.in_ok-piece.piece (bodies_unknown t.served.shelf t.sends t.pieces) c.in_ok-piece.ensures.ok
