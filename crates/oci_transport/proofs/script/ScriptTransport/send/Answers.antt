use Rattle.std.proofs.Common.{◌≡◌, ◌++◌, ◌∷◌, [], Some, None, refl, sym, ap, subst, IsTrue, false, arith, ◌∙◌, length, drop, slice_get}
use Rattle.oci_transport.specs.Recorded.{answering, recorded_answer, last_pieces, HasMet}
use Rattle.oci_transport.proofs.ScriptBreaks.{met_sent}
use Rattle.oci_transport.specs.declared.message.Request.{Request}
use Rattle.oci_transport.specs.FaultsOnlyWhere.{faults_only_where}
use Rattle.oci_transport.specs.Pieces.{joined}
use Rattle.oci_transport.proofs.ScriptFaults.{calm_push, calm_failed}
use Rattle.oci_transport.proofs.ScriptAnswers.{told_next, answered_next, rest_next, nothing_next}
use Rattle.oci_transport.proofs.script.ScriptTransport.send.Goals as goal

pub returns-in_ok-push-in-Some-clause-answered : goal.returns-in_ok-push-in-Some-clause-answered
returns-in_ok-push-in-Some-clause-answered c =
    let items = c.args.self.now.answers in
    let is : recorded_answer (slice_get items (length c.args.self.now.told)) ≡ Some c.in-Some.answer = sym (c.in_ok-answer.ensures ∙ (λ i. recorded_answer (slice_get (c.as_slice.ensures i) (length (c.as_slice-place.ensures i))))) ∙ c.in-Some.is in
    answered_next items _ _ c.args.self.now.told c.args.request.now _ c.in-Some.answer refl refl refl refl refl (ap Some c.in_ok-push-in-Some.ensures.ok ∙ ap (λ (r : Request). Some (c.args.self.now.told ++ record { request = r; answer = Some c.in-Some.answer; faults = c.args.self.now.faults } ∷ [])) c.in_ok-request.ensures) is refl c.in_ok-headers-in-Some.ensures (ap Some (ap (λ told. joined (drop 0 (last_pieces items (length told)))) c.in_ok-push-in-Some.ensures.ok ∙ rest_next items c.args.self.now.told _ c.in-Some.answer is))

pub returns-in_ok-push-in-None-clause-unanswered :
    goal.returns-in_ok-push-in-None-clause-unanswered
returns-in_ok-push-in-None-clause-unanswered c _ = told_next c.args.self.now.answers _ _ c.args.self.now.told (record { request = c.args.request.now; answer = None; faults = c.args.self.now.faults }) refl refl refl refl (ap Some c.in_ok-push-in-None.ensures.ok ∙ ap (λ (r : Request). Some (c.args.self.now.told ++ record { request = r; answer = None; faults = c.args.self.now.faults } ∷ [])) c.in_ok-request.ensures) (sym c.in-None.is ∙ c.in_ok-answer.ensures ∙ (λ i. recorded_answer (slice_get (c.as_slice.ensures i) (length (c.as_slice-place.ensures i)))))

pub returns-in_ok-push-in-None-clause-nothing :
    goal.returns-in_ok-push-in-None-clause-nothing
returns-in_ok-push-in-None-clause-nothing c _ =
    let items = c.args.self.now.answers in
    let none : recorded_answer (slice_get items (length c.args.self.now.told)) ≡ None = sym (c.in_ok-answer.ensures ∙ (λ i. recorded_answer (slice_get (c.as_slice.ensures i) (length (c.as_slice-place.ensures i))))) ∙ c.in-None.is in
    λ b h. ap Some (ap (λ told. joined (drop 0 (last_pieces items (length told)))) c.in_ok-push-in-None.ensures.ok ∙ nothing_next items c.args.self.now.told _ none)

pub invariant_of-self-in-Some : goal.invariant_of-self-in-Some
invariant_of-self-in-Some c = record { met = subst (λ told. HasMet c.args.self.now.answers told 0 false c.args.self.now.faults) (sym c.in_ok-push-in-Some.ensures.ok) (met_sent c.args.self.now.answers c.args.self.now.told _ c.args.self.now.faults (omega arith)); faults_recorded = subst (λ told. IsTrue (faults_only_where (answering c.args.self.now.answers).fails 0 told c.args.self.now.faults)) (sym c.in_ok-push-in-Some.ensures.ok) (calm_push (answering c.args.self.now.answers).fails c.args.self.now.told _ c.args.self.now.faults refl c.args.self.now.faults_recorded) }

pub invariant_of-self-in-None : goal.invariant_of-self-in-None
invariant_of-self-in-None c = record {
  met = subst (λ told. HasMet c.args.self.now.answers told 0 false c.saturating_add-self.result) (sym c.in_ok-push-in-None.ensures.ok)
      (met_sent c.args.self.now.answers c.args.self.now.told _ c.saturating_add-self.result (omega (arith, c.saturating_add-self.ensures)));
  faults_recorded = subst (λ told. IsTrue (faults_only_where (answering c.args.self.now.answers).fails 0 told c.saturating_add-self.result)) (sym c.in_ok-push-in-None.ensures.ok)
      (calm_failed c.args.self.now.answers c.args.self.now.told _ c.args.self.now.faults c.saturating_add-self.result refl (sym (c.in_ok-answer.ensures ∙ (λ i. recorded_answer (slice_get (c.as_slice.ensures i) (length (c.as_slice-place.ensures i))))) ∙ c.in-None.is) c.args.self.now.faults_recorded);
}
