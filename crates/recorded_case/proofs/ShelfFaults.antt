-- No exchange of a shelf's transport fails.
use Rattle.std.proofs.Common.{◌≡◌, List, [], ◌∷◌, ◌++◌, Some, Result, Ok, Err, false, refl, sym, subst, ◌∙◌}
use Rattle.std.specs.Prelude.{IfOk, IsErrOf, IsTrue}
use Rattle.oci_transport.specs.FaultsOnlyWhere.{faults_only_where}
use Rattle.oci_transport.specs.Link.{Answers, answer_of, exchange_of}
use Rattle.oci_transport.specs.declared.message.AnswerHead.{AnswerHead}
use Rattle.oci_transport.specs.declared.message.Exchange.{Exchange}
use Rattle.oci_transport.specs.declared.message.Request.{Request}
use Rattle.oci_transport.specs.declared.transport.LinkError.{LinkError}
use Rattle.oci_transport.specs.declared.transport.LinkError.TheVariants.{Failed, WantOfMemory}
use Rattle.oci_transport.proofs.ScriptFaults.{calm_push}
use Rattle.oci_link.specs.State.{answering, state_of}
use Rattle.oci_link.specs.declared.shelf.Shelf.{Shelf}
use Rattle.oci_link.specs.declared.shelf_transport.ShelfTransport.{ShelfTransport}
use Rattle.recorded_case.specs.HasNoFaults.{HasNoFaults}

some_is : {A : Type 0} (x y : A) → Some x ≡ Some y → x ≡ y
some_is x y h = cc h

pub still_quiet : (r : Result AnswerHead LinkError) (request : Request) (old new : ShelfTransport)
    → IfOk r (λ head. Answers request head (state_of old) (state_of new)) → (IsErrOf r Failed → ⊥) → (IsErrOf r WantOfMemory → new ≡ old) → HasNoFaults old → HasNoFaults new
still_quiet (Ok head) request old new answered fails memory quiet = λ told is.
    let e : Exchange = exchange_of request (Some (answer_of head answered.body)) (state_of old) in
    let same : old.served.told ++ e ∷ [] ≡ told = some_is _ _ (sym (answered.added.told old.served.told refl) ∙ is) in
    subst (λ (c : List Exchange). IsTrue (faults_only_where (λ place. false) 0 c 0)) same (calm_push (λ place. false) old.served.told e 0 refl (quiet old.served.told refl))
still_quiet (Err Failed) request old new answered fails memory quiet = absurd (fails refl)
still_quiet (Err WantOfMemory) request old new answered fails memory quiet = subst HasNoFaults (sym (memory refl)) quiet

-- a shelf has no faults
pub shelf_calm : (shelf : Shelf) (told : List Exchange) → IsTrue (faults_only_where (λ place. false) 0 told 0) → IsTrue (faults_only_where (answering shelf).fails 0 told 0)
unfolding answering
shelf_calm shelf told h = h
