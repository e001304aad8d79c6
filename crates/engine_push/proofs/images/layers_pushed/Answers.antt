use Rattle.oci_protocol.proofs.Exits.{refused, and_then}
use Rattle.engine_push.proofs.Leads.{leads_start}
use Rattle.engine_push.proofs.ManifestTree.{next_layer, none_left, none_named, no_more, one_less}
use Rattle.engine_push.proofs.images.layers_pushed.Goals.{in_default, in_default-2}
use Rattle.engine_push.proofs.images.layers_pushed.Goals as goal

pub loop-digest-init : goal.loop-digest-init
loop-digest-init g c = leads_start _ _ _

pub loop-digest-smaller : goal.loop-digest-smaller
loop-digest-smaller g c = one_less c.loop-digest.left.now c.in-Some-Some.others.now c.in-Some-Some.layer.now c.in-Some-Some.ensures'.cases.0

pub returns-in_err-push_blob : goal.returns-in_err-push_blob
returns-in_err-push_blob g c = c.loop-digest.invariant.met _ _ _ (next_layer _ _ _ _ _ _ _ _ c.in-Some-Some.ensures.cases.0 c.in-Some-Some.ensures'.cases.0 (refused _ (rw (c.as_slice-content.ensures, c.as_str.ensures) at c.in_err-push_blob.ensures) c.from_residual.ensures.1))

pub loop-digest-preserved : goal.loop-digest-preserved
loop-digest-preserved g c = record { met = λ new l r rest. c.loop-digest.invariant.met new l r (next_layer _ _ _ _ _ _ _ _ c.in-Some-Some.ensures.cases.0 c.in-Some-Some.ensures'.cases.0 (and_then _ (rw (c.as_slice-content.ensures, c.as_str.ensures) at c.in_ok-push_blob.ensures) rest)) }

pub returns : goal.returns
returns g c = elim c.match-split_first.branch [
  | in_default w ↦ c.loop-digest.invariant.met _ _ _ (none_left _ _ c.loop-digest.named.now c.loop-digest.left.now _ _ (no_more _ w.in_default.ensures'.cases))
  | in_default-2 w ↦ c.loop-digest.invariant.met _ _ _ (none_named _ _ c.loop-digest.named.now c.loop-digest.left.now _ _ (no_more _ w.in_default.ensures.cases))
]
