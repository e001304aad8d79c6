-- The blobs of a range, one after another.
use Rattle.std.proofs.Common.{◌≡◌, ◌<◌, inl, inr, ℕ, ◌+◌, Bool, true, false, List, [], Option, Some, None, refl, sym, ap, subst}
use Rattle.oci_manifests.specs.declared.descriptor.OciDescriptor.{OciDescriptor}
use Rattle.call_laws.specs.Blobs.{range_of}
use Rattle.image_blobs.specs.Taken.{IsAt}
use Rattle.image_blobs.proofs.EachInTurn.{range_next}
use Rattle.live_host.specs.Wire.{Wire}
use Rattle.live_host.specs.declared.streams.HostError.{HostError}
use Rattle.live_pull.specs.Status.{StatusCause}
use Rattle.live_pull.specs.declared.status.Status.{Status}
use Rattle.live_check.specs.Blobs.{BlobChecked, BlobCut, Went, WentCut}
use Rattle.live_check.proofs.Ends.{caused_so}

-- whatever the blobs that are left lead to, those that stand and they lead to
pub record SoFar (ds : List OciDescriptor) (first end at : ℕ) (old now : Wire) : Type 0 where
  pub leads : (fell : Option (List ℕ)) (new : Wire) → Went (range_of at end ds) fell now new → Went (range_of first end ds) fell old new
  pub cuts : (e : HostError) (new : Wire) → WentCut (range_of at end ds) e now new → WentCut (range_of first end ds) e old new

pub none_yet : (ds : List OciDescriptor) (first end : ℕ) (w : Wire) → SoFar ds first end first w w
none_yet ds first end w = record { leads = λ fell new h. h; cuts = λ e new h. h }

-- one more stands
pub one_more : (ds : List OciDescriptor) (first end at : ℕ) (x : OciDescriptor) (stood : Bool) (old now next : Wire) → at < end → IsAt ds at x → stood ≡ true → SoFar ds first end at old now → BlobChecked x stood now next → SoFar ds first end (at + 1) old next
one_more ds first end at x stood old now next lt is true_is so checked = record {
  leads = λ fell new h. so.leads fell new (subst (λ (xs : List OciDescriptor). Went xs fell now new) (sym (range_next at end ds x lt is)) (inl (next, rw true_is at checked, h)));
  cuts = λ e new h. so.cuts e new (subst (λ (xs : List OciDescriptor). WentCut xs e now new) (sym (range_next at end ds x lt is)) (inr (next, rw true_is at checked, h)));
}

-- one does not
pub one_fell : (ds : List OciDescriptor) (first end at : ℕ) (x : OciDescriptor) (stood : Bool) (digest : List ℕ) (old now new : Wire) → at < end → IsAt ds at x → stood ≡ false → digest ≡ x.digest → SoFar ds first end at old now → BlobChecked x stood now new → Went (range_of first end ds) (Some digest) old new
one_fell ds first end at x stood digest old now new lt is false_is named so checked = so.leads (Some digest) new (subst (λ (xs : List OciDescriptor). Went xs (Some digest) now new) (sym (range_next at end ds x lt is)) (inr (ap Some named, rw false_is at checked)))

-- none is left
pub all_stand : (ds : List OciDescriptor) (first end at : ℕ) (old now : Wire) → range_of at end ds ≡ [] → SoFar ds first end at old now → Went (range_of first end ds) None old now
all_stand ds first end at old now none so = so.leads None now (subst (λ (xs : List OciDescriptor). Went xs None now now) (sym none) (refl, refl))

-- one was cut
pub one_cut : (ds : List OciDescriptor) (first end at : ℕ) (x : OciDescriptor) (s : Status) (old now new : Wire) → at < end → IsAt ds at x → SoFar ds first end at old now → StatusCause (λ e. BlobCut x e now new) s → StatusCause (λ e. WentCut (range_of first end ds) e old new) s
one_cut ds first end at x s old now new lt is so h =
    caused_so (λ e. BlobCut x e now new) (λ e. WentCut (range_of first end ds) e old new) s (λ e cut. so.cuts e new (subst (λ (xs : List OciDescriptor). WentCut xs e now new) (sym (range_next at end ds x lt is)) (inl cut))) h
