use Rattle.std.proofs.Common.{ap, sym, ◌∙◌, length}
use Rattle.oci_link.specs.State.{failing, is_among}
use Rattle.oci_link.proofs.ServedLinks.{sent, failed, nothing, failing-answer, failing-none, send_may_fail}
use Rattle.oci_link.proofs.faulty_shelf.FaultyShelfTransport.send.Goals as goal

pub returns-then-is_among-clause-unanswered : goal.returns-then-is_among-clause-unanswered
returns-then-is_among-clause-unanswered c _ =
    let t = c.args.self.now in
    let step = c.in_ok-unanswered.ensures.ok in
    let there = sym (c.is_among.ensures ∙ (λ i. is_among (length (c.as_slice.ensures i)) (c.as_slice-2.ensures i))) ∙ c.if-is_among.true in
    failed (failing t.served.shelf t.sends t.pieces) (failing c.unanswered.new.self.shelf t.sends t.pieces) t.faults c.saturating_add-self.result t.served c.unanswered.new.self c.args.request.now step
    (failing-none t.served.shelf t.sends t.pieces (length t.served.told) c.args.request.now there) (ap (λ shelf. failing shelf t.sends t.pieces) step.shelf) (λ never. absurd (send_may_fail t.served.shelf t.sends t.pieces (length t.served.told) there never))

pub returns-then-is_among-clause-nothing : goal.returns-then-is_among-clause-nothing
returns-then-is_among-clause-nothing c _ =
    let t = c.args.self.now in
    nothing (failing t.served.shelf t.sends t.pieces) (failing c.unanswered.new.self.shelf t.sends t.pieces) t.faults c.saturating_add-self.result t.served c.unanswered.new.self c.args.request.now c.in_ok-unanswered.ensures.ok

pub returns-clause-answered : goal.returns-clause-answered
returns-clause-answered c =
    let t = c.args.self.now in
    let step = c.in_ok-head.ensures.ok in
    let not_there = sym (c.is_among.ensures ∙ (λ i. is_among (length (c.as_slice.ensures i)) (c.as_slice-2.ensures i))) ∙ c.if-is_among.false in
    sent (failing t.served.shelf t.sends t.pieces) (failing c.answered.new.self.shelf t.sends t.pieces) t.faults t.served c.answered.new.self c.args.request.now c.in_ok-head.head step
    (failing-answer t.served.shelf t.sends t.pieces (length t.served.told) c.args.request.now not_there) (ap (λ shelf. failing shelf t.sends t.pieces) step.shelf)
