use Rattle.std.proofs.Common.{◌≡◌, ◌≤◌, ◌+◌, Some, take, get_or, length, arith, refl, sym, ap, ◌∙◌}
use Rattle.oci_transport.proofs.ScriptFaults.{stop_given, calm_stop}
use Rattle.oci_transport.specs.Recorded.{last_pieces}
use Rattle.oci_transport.specs.Link.{Link}
use Rattle.oci_transport.specs.Script.{state_of}
use Rattle.oci_transport.proofs.ScriptAnswers.{same_answers}
use Rattle.oci_transport.proofs.ScriptBreaks.{met_stop, rest_by, none_left, some_in, joined_at, takes_none, ends_unbroken, stays_unbroken, met_given, takes_next}
use Rattle.oci_transport.proofs.script.ScriptTransport.piece.Goals as goal

pub returns-then-eq-clause-steady : goal.returns-then-eq-clause-steady
returns-then-eq-clause-steady c = same_answers c.args.self.now.answers _ _ refl refl refl

pub invariant_of-self : goal.invariant_of-self
invariant_of-self c = record { met = rw c.saturating_add-self.ensures (met_stop c.args.self.now.answers c.args.self.now.told c.args.self.now.given c.args.self.now.stopped c.args.self.now.faults c.stop.result c.stop.ensures (sym c.eq.ensures ∙ c.if-eq.true) c.args.self.now.met); faults_recorded = calm_stop c.args.self.now.answers c.args.self.now.told c.args.self.now.given c.args.self.now.faults _ (stop_given c.args.self.now.stopped c.stop.result _ c.args.self.now.given c.stop.ensures (sym c.eq.ensures ∙ c.if-eq.true)) c.args.self.now.faults_recorded }

pub returns-clause-taken : goal.returns-clause-taken
returns-clause-taken c =
    let script = c.args.self.now in
    let pieces : c.last_pieces-pieces.result.now ≡ last_pieces script.answers (length script.told) = c.last_pieces-pieces.ensures.pieces ∙ (λ i. last_pieces (c.as_slice.ensures i) (length (c.as_slice-2.ensures i))) in
    let none : length c.last_pieces-pieces.result.now ≤ script.given = (omega (arith, c.if-self-pieces.false)) in
    let all : length (last_pieces script.answers (length script.told)) ≤ script.given = rw pieces at none in
    let unbroken = ends_unbroken script.answers script.told script.given script.stopped script.faults c.stop.result c.stop.ensures (sym c.eq.ensures ∙ c.if-eq.false) script.met all (state_of script) (state_of script) refl refl refl refl in
    let stays = stays_unbroken script.answers script.told script.given script.stopped script.faults script.met (state_of script) (state_of script) refl refl refl in
    rw c.empty.ensures (takes_none script.stopped (last_pieces script.answers (length script.told)) script.given (state_of script) all refl unbroken stays)

pub returns-clause-continues : goal.returns-clause-continues
returns-clause-continues c =
    let script = c.args.self.now in
    let pieces : c.last_pieces-pieces.result.now ≡ last_pieces script.answers (length script.told) = c.last_pieces-pieces.ensures.pieces ∙ (λ i. last_pieces (c.as_slice.ensures i) (length (c.as_slice-2.ensures i))) in
    let none : length c.last_pieces-pieces.result.now ≤ script.given = (omega (arith, c.if-self-pieces.false)) in
    let all : length (last_pieces script.answers (length script.told)) ≤ script.given = rw pieces at none in
    rw c.empty.ensures (record { front = refl; ends = λ empty. none_left (last_pieces script.answers (length script.told)) script.given all })

pub returns-then-self-pieces-clause-taken : goal.returns-then-self-pieces-clause-taken
returns-then-self-pieces-clause-taken c =
    let script = c.args.self.now in
    let met = met_given script.answers script.told script.given script.stopped script.faults c.stop.result c.stop.ensures (sym c.eq.ensures ∙ c.if-eq.false) script.met in
    let pieces : c.last_pieces-pieces.result.now ≡ last_pieces script.answers (length script.told) = c.last_pieces-pieces.ensures.pieces ∙ (λ i. last_pieces (c.as_slice.ensures i) (length (c.as_slice-2.ensures i))) in
    let after : Link = record (state_of script) { rest = rest_by script.stopped (script.given + 1) (last_pieces script.answers (length script.told)); pieces = Some (take (script.given + 1) (last_pieces script.answers (length script.told))) } in
    let piece : c.in_ok-piece.piece ≡ get_or (last_pieces script.answers (length script.told)) script.given c.in_ok-piece.piece = rw (← pieces, c.in_ok-piece.ensures) c.index-pieces-self.is in
    takes_next script.stopped (last_pieces script.answers (length script.told)) script.given c.in_ok-piece.piece (state_of script) after (rw pieces at c.last_pieces-pieces.ensures.none_empty) refl refl refl refl refl (rw pieces at c.if-self-pieces.true) piece (stays_unbroken script.answers script.told (script.given + 1) script.stopped script.faults met (state_of script) after refl refl refl)

pub returns-then-self-pieces-clause-continues : goal.returns-then-self-pieces-clause-continues
returns-then-self-pieces-clause-continues c =
    let script = c.args.self.now in
    let pieces : c.last_pieces-pieces.result.now ≡ last_pieces script.answers (length script.told) = c.last_pieces-pieces.ensures.pieces ∙ (λ i. last_pieces (c.as_slice.ensures i) (length (c.as_slice-2.ensures i))) in
    let piece : c.in_ok-piece.piece ≡ get_or (last_pieces script.answers (length script.told)) script.given c.in_ok-piece.piece = rw (← pieces, c.in_ok-piece.ensures) c.index-pieces-self.is in
    let some = some_in (last_pieces script.answers (length script.told)) script.given c.in_ok-piece.piece (rw pieces at c.last_pieces-pieces.ensures.none_empty) (rw pieces at c.if-self-pieces.true) piece in
    record {
      front = joined_at script.given (last_pieces script.answers (length script.told)) c.in_ok-piece.piece (rw pieces at c.if-self-pieces.true) piece;
      ends = λ empty. absurd (omega (arith, some, ap length empty));
    }
