-- A call by a transport over the streams, by the frames that carried it.
use Rattle.std.proofs.Common.{◌≡◌, ℕ, List, [], ◌∷◌, Option, Some, Result, Ok, Err, refl, ◌∙◌, subst}
use Rattle.std.specs.Prelude.{IfOk}
use Rattle.byte_streams.specs.SinkState.{SinkState}
use Rattle.byte_streams.specs.Source.{SourceState}
use Rattle.oci_transport.specs.Link.{Link, Extends}
use Rattle.oci_transport.specs.declared.message.Exchange.{Exchange}
use Rattle.oci_protocol.specs.Proto.{Proto}
use Rattle.oci_protocol.specs.Runs.{Runs, Performs, Meets, Told}
use Rattle.registry_calls.specs.Clients.{Kept, Row}
use Rattle.registry_calls.specs.Error.{is_memory as of_memory}
use Rattle.registry_calls.specs.declared.error.SigstoreError.{SigstoreError}
use Rattle.cosign_parts.specs.declared.layer.SignatureLayer.{SignatureLayer}
use Rattle.cosign_rows.specs.Refusal.{is_memory}
use Rattle.cosign_rows.specs.Verified.{Whole}
use Rattle.cosign_rows.specs.declared.found.TrustedLayers.{TrustedLayers}
use Rattle.cosign_rows.specs.declared.refusal.PullRefusal.{PullRefusal}
use Rattle.live_link.specs.State.{Held, opening, told_from}
use Rattle.live_link.specs.declared.stage.Breach.{Breach}
use Rattle.live_host.specs.Wire.{Wire}
use Rattle.live_pull.specs.Pulls.{Carries, Collects, IsWhole, Transfer, collected_of}
use Rattle.live_pull.specs.Justified.{Shown}
use Rattle.live_pull.specs.Terms.{PulledBy}

-- the state of a transport's streams once it is dropped
abbrev pub Lets : Link → Option Breach → SinkState → SourceState → Type 0
Lets t breach sink source = (taken left : List ℕ) (c : List Exchange) → t.told ≡ Some (opening taken left ∷ c) → ∥ Held taken left sink source breach c ∥₁

told_at : (taken left : Option (List ℕ)) (t l : List ℕ) → taken ≡ Some t → left ≡ Some l → told_from taken left [] ≡ Some (opening t l ∷ [])
told_at taken left t l is_taken is_left = rw (is_taken, is_left) refl

carried : (first last : Link) (breach : Option Breach) (old new : Wire) (c : List Exchange) → first.told ≡ told_from old.sink.taken old.source.left [] → Extends first last c → Lets last breach new.sink new.source → Carries c old new
carried first last breach old new c told added lets = λ taken left is_taken is_left.
    (breach, lets taken left c (added.told (opening taken left ∷ []) (told ∙ told_at old.sink.taken old.source.left taken left is_taken is_left)))

pub transfer : {A : Type 0} (row : Proto Kept A) (first last : Link) (breach : Option Breach) (old new : Wire) (k l : Kept) (a : A)
    → first.told ≡ told_from old.sink.taken old.source.left [] → first.faults ≡ 0 → Performs row first last k l a → Lets last breach new.sink new.source → Transfer row old new k l a
transfer row first last breach old new k l a told none performed lets = record {
  conversation = performed.conversation;
  faults = last.faults;
  runs = subst (λ (m : ℕ). Runs row k m performed.conversation last.faults l a) none performed.runs;
  carried = carried first last breach old new performed.conversation told performed.told lets;
}

whole_search : (row : Row TrustedLayers) (first last : Link) (k l : Kept) (r : Result TrustedLayers SigstoreError) → IsWhole r → Meets of_memory row first last k l r → Performs row first last k l r
whole_search row first last k l (Ok found) whole met = met.outcome
whole_search row first last k l (Err e) whole met = rw whole at met.outcome

-- the layers of a search that did not run out of memory
pub found : (row : Row TrustedLayers) (first last : Link) (breach : Option Breach) (old new : Wire) (k l : Kept) (r : Result TrustedLayers SigstoreError) {E : Type 0} (layers : Result (List SignatureLayer) E)
    → first.told ≡ told_from old.sink.taken old.source.left [] → first.faults ≡ 0 → Meets of_memory row first last k l r → Lets last breach new.sink new.source
    → IfOk layers (λ found. found ≡ collected_of r) → IfOk layers (λ found. IsWhole r) → IfOk layers (Collects row old new k l)
found row first last breach old new k l r (Ok layers) told none met lets are whole = record {
  answer = r;
  transfer = transfer row first last breach old new k l r told none (whole_search row first last k l r whole met) lets;
  whole = whole;
  are = are;
}
found row first last breach old new k l r (Err e) told none met lets are whole = tt

-- a pull that did not run out of memory
pub pulled : {A : Type 0} (row : Whole A) (first last : Link) (breach : Option Breach) (old new : Wire) (k l : Kept) (r : Result A PullRefusal)
    → first.told ≡ told_from old.sink.taken old.source.left [] → first.faults ≡ 0 → Meets is_memory row first last k l r → Lets last breach new.sink new.source → PulledBy row old new k l r
pulled row first last breach old new k l (Ok v) told none met lets = transfer row first last breach old new k l (Ok v) told none met.outcome lets
pulled row first last breach old new k l (Err e) told none met lets = λ whole. transfer row first last breach old new k l (Err e) told none (rw whole at met.outcome) lets

-- a property of the exposed conversation holds for the frames that carried it
pub shown : (P : List Exchange → Type 0) (first last : Link) (breach : Option Breach) (old new : Wire) → first.told ≡ told_from old.sink.taken old.source.left [] → Told P first last → Lets last breach new.sink new.source → Shown P old new
shown P first last breach old new told is lets = (is.conversation, carried first last breach old new is.conversation told is.told lets, is.holds)
