-- The beginning and the end of a transport.
use Rattle.std.proofs.Common.{◌≡◌, ℕ, List, [], ◌∷◌, Option, Some, None, refl, sym, ap, subst, ◌∙◌, append-nil}
use Rattle.std.proofs.Math.Logic.{∥∥₁_map}
use Rattle.byte_streams.specs.SinkState.{SinkState}
use Rattle.byte_streams.specs.Source.{SourceState}
use Rattle.oci_transport.specs.declared.message.Exchange.{Exchange}
use Rattle.oci_transport.specs.declared.message.Answer.{Answer}
use Rattle.live_link.specs.State.{opening, told_from, told_since, breach_in, Held, HeldAt, Holds}
use Rattle.live_link.proofs.Kept.{nothing_last}
use Rattle.live_link.specs.declared.stage.Stage.{Stage}
use Rattle.live_link.specs.declared.stage.Stage.TheVariants.{Ended}

-- nothing was sent or received
pub begun : (sink_state : SinkState) (source_state : SourceState) (taken left : List ℕ) → sink_state.taken ≡ Some taken → source_state.left ≡ Some left → HeldAt taken left sink_state source_state Ended []
begun sink_state source_state taken left took leaves = record {
  held = record {
    sent = [];
    came = [];
    lost_out = [];
    lost_in = [];
    after = left;
    took = took ∙ ap Some (sym (append-nil taken));
    leaves = leaves;
    gave = refl;
    spoke = (refl, refl);
    last = nothing_last [];
    in_step = λ none. (refl, refl);
  };
  answered = λ is. absurd (cc is);
}

pub begins : {S K : Type 0} (source_state : S → SourceState) (sink_state : K → SinkState) (items : List (S × K)) (source : S) (sink : K) (c : List Exchange)
    → items ≡ (source, sink) ∷ [] → c ≡ [] → Holds source_state sink_state items source sink Ended c
begins source_state sink_state items source sink c is none =
    subst (λ is'. Holds source_state sink_state is' source sink Ended c) (sym is)
    (λ taken left took leaves. subst (HeldAt taken left (sink_state sink) (source_state source) Ended) (sym none) (begun (sink_state sink) (source_state source) taken left took leaves))

abbrev body_in_request : Option (List Exchange) → Option (List ℕ)
body_in_request None = None
body_in_request (Some []) = None
body_in_request (Some (e ∷ c)) = Some e.request.body

abbrev answer_body : Option Answer → Option (List ℕ)
answer_body None = None
answer_body (Some a) = Some a.body

abbrev body_in_answer : Option (List Exchange) → Option (List ℕ)
body_in_answer None = None
body_in_answer (Some []) = None
body_in_answer (Some (e ∷ c)) = answer_body e.answer

abbrev behind : List Exchange → Option (List Exchange) → List Exchange
behind other None = other
behind other (Some []) = other
behind other (Some (e ∷ c)) = c

-- the exposed exchanges determine how they began
pub told_is : (took leaves : Option (List ℕ)) (c d : List Exchange) (taken left : List ℕ) → told_from took leaves c ≡ Some (opening taken left ∷ d)
    → (took ≡ Some taken) × (leaves ≡ Some left) × (c ≡ d)
told_is None leaves c d taken left told = absurd (cc told)
told_is (Some t) None c d taken left told = absurd (cc told)
told_is (Some t) (Some l) c d taken left told = (ap body_in_request told, ap body_in_answer told, ap (behind c) told)

pub ends : {S K : Type 0} (source_state : S → SourceState) (sink_state : K → SinkState) (items : List (S × K)) (source : S) (sink : K) (stage : Stage) (c d : List Exchange) (taken left : List ℕ)
    → ∥ Holds source_state sink_state items source sink stage c ∥₁ → told_since source_state sink_state items c ≡ Some (opening taken left ∷ d)
    → ∥ Held taken left (sink_state sink) (source_state source) (breach_in stage) d ∥₁
ends source_state sink_state [] source sink stage c d taken left holds told = absurd (cc told)
ends source_state sink_state (first ∷ later) source sink stage c d taken left holds told =
    let is = told_is (sink_state first.1).taken (source_state first.0).left c d taken left told in
    ∥∥₁_map holds (λ h. subst (Held taken left (sink_state sink) (source_state source) (breach_in stage)) is.2 (h taken left is.0 is.1).held)
