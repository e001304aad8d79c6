-- The pushes of an image, as they are planned.
use Rattle.std.proofs.Common.{◌≡◌, ◌<◌, ℕ, true, false, List, [], ◌∷◌, ◌++◌, length, map, Option, Some, None, refl, sym, ap, subst, ◌∙◌, append_assoc, append-nil, arith}
use Rattle.std.specs.FinMap.{FinMap, empty, insert, contains_key}
use Rattle.json_values.specs.Places.{by_bytes}
use Rattle.oci_manifests.specs.declared.descriptor.OciDescriptor.{OciDescriptor}
use Rattle.oci_manifests.specs.declared.blob.ImageLayer.{ImageLayer}
use Rattle.pull_mirror.specs.Plans.{push_of, pushes_of, Holds, AddsBlob}
use Rattle.pull_mirror.specs.Pushes.{Push, Blob, push_digest, layer_blobs, without_repeats, digests_of}
use Rattle.pull_mirror.specs.declared.planning.Blobs.{Blobs}
use Rattle.pull_mirror.specs.declared.planning.Planned.{Planned}
use Rattle.pull_mirror.proofs.Pushing.{mapped}
use Rattle.pull_mirror.proofs.Repeats.{left_out, kept, seen_none, seen_still, seen_more}

pub holds_none : (b : Blobs) → b.pushes ≡ [] → b.seen ≡ empty → Holds [] b
holds_none b none unseen = record { planned = ap pushes_of none; seen = λ digest. ap (λ s. contains_key s digest) unseen ∙ seen_none digest }

-- a blob of this digest was planned before
pub adds_none : (digest bytes : List ℕ) (b : Blobs) → contains_key b.seen digest ≡ true → AddsBlob digest bytes b b
adds_none digest bytes b there blobs h =
    let before = sym (h.seen digest) ∙ there in
    record { planned = h.planned ∙ sym (left_out blobs (Blob digest bytes) before); seen = seen_still b.seen blobs (Blob digest bytes) before h.seen }

pub adds_one : (digest bytes : List ℕ) (old new : Blobs) (p : Planned) → contains_key old.seen digest ≡ false → push_of p ≡ Blob digest bytes → new.pushes ≡ old.pushes ++ p ∷ [] → new.seen ≡ insert old.seen digest tt → AddsBlob digest bytes old new
adds_one digest bytes old new p unseen p_is pushed seen blobs h =
    let before = sym (h.seen digest) ∙ unseen in
    record {
      planned = ap pushes_of pushed ∙ mapped push_of old.pushes (p ∷ []) ∙ ap (λ q. pushes_of old.pushes ++ q ∷ []) p_is ∙ ap (λ ps. ps ++ Blob digest bytes ∷ []) h.planned ∙ sym (kept blobs (Blob digest bytes) before);
      seen = λ other. ap (λ s. contains_key s other) seen ∙ seen_more old.seen blobs (Blob digest bytes) h.seen other;
    }

-- ---- layers

-- the layers before those that are left were planned
pub record LayersSoFar (xs : List OciDescriptor) (layers : List ImageLayer) (named : List OciDescriptor) (left : List ImageLayer) (b : Blobs) : Type 0 where
  pub gone : List Push
  pub split : layer_blobs xs layers ≡ gone ++ layer_blobs named left
  pub holds : Holds gone b

pub layers_start : (xs : List OciDescriptor) (layers : List ImageLayer) (b : Blobs) → b.pushes ≡ [] → b.seen ≡ empty → LayersSoFar xs layers xs layers b
layers_start xs layers b none unseen = record { gone = []; split = refl; holds = holds_none b none unseen }

module _ {xs named : List OciDescriptor} {layers left : List ImageLayer} {b : Blobs} (so_far : LayersSoFar xs layers named left b) where
  pub layers_next : (x : OciDescriptor) (more : List OciDescriptor) (layer : ImageLayer) (others : List ImageLayer) (c : Blobs) → named ≡ x ∷ more → left ≡ layer ∷ others → AddsBlob x.digest layer.content b c → LayersSoFar xs layers more others c
  layers_next x more layer others c named_is left_is adds =
      let p = Blob x.digest layer.content in
      record {
        gone = so_far.gone ++ p ∷ [];
        split = so_far.split ∙ ap (λ ys. so_far.gone ++ layer_blobs ys left) named_is ∙ ap (λ ys. so_far.gone ++ layer_blobs (x ∷ more) ys) left_is ∙ sym (append_assoc so_far.gone (p ∷ []) (layer_blobs more others));
        holds = adds so_far.gone so_far.holds;
      }

  ended : layer_blobs named left ≡ [] → Holds (layer_blobs xs layers) b
  ended none = subst (λ ps. Holds ps b) (sym (so_far.split ∙ ap (λ ps. so_far.gone ++ ps) none ∙ append-nil so_far.gone)) so_far.holds

  no_layers : (ys : List OciDescriptor) → layer_blobs ys [] ≡ []
  no_layers [] = refl
  no_layers (y ∷ ys) = refl

  pub none_named : named ≡ [] → Holds (layer_blobs xs layers) b
  none_named none = ended (ap (λ ys. layer_blobs ys left) none)

  pub none_left : left ≡ [] → Holds (layer_blobs xs layers) b
  none_left none = ended (ap (λ ys. layer_blobs named ys) none ∙ no_layers named)

pub no_more : {A : Type 0} (xs : List A) → length xs ≡ 0 → xs ≡ []
no_more [] none = refl
no_more (x ∷ xs) none = absurd (omega (arith, none))

pub one_less : {A : Type 0} (left others : List A) (x : A) → left ≡ x ∷ others → length others < length left
one_less left others x is = omega (arith, ap length is)

-- ---- all blobs

pub all_planned : (ps : List Push) (a b c : Push) (blobs : Blobs) → Holds (((ps ++ a ∷ []) ++ b ∷ []) ++ c ∷ []) blobs → pushes_of blobs.pushes ≡ without_repeats (ps ++ a ∷ b ∷ c ∷ [])
all_planned ps a b c blobs h = h.planned ∙ ap without_repeats (append_assoc (ps ++ a ∷ []) (b ∷ []) (c ∷ []) ∙ append_assoc ps (a ∷ []) (b ∷ c ∷ []))

-- two blobs
pub both_planned : (a b : Push) (none one two : Blobs) → none.pushes ≡ [] → none.seen ≡ empty → ((before : List Push) → Holds before none → Holds (before ++ a ∷ []) one) → ((before : List Push) → Holds before one → Holds (before ++ b ∷ []) two) → pushes_of two.pushes ≡ without_repeats (a ∷ b ∷ [])
both_planned a b none one two empties unseen first second = (second (a ∷ []) (first [] (holds_none none empties unseen))).planned
