-- The digests of a range, one after another.
use Rattle.std.proofs.Common.{◌≡◌, ◌<◌, ◌+◌, ℕ, List, [], ◌∷◌, ◌++◌, refl, sym, ap, ◌∙◌, append_assoc, append-nil}
use Rattle.std.proofs.lemmas.List.{map-append}
use Rattle.oci_manifests.specs.declared.descriptor.OciDescriptor.{OciDescriptor}
use Rattle.call_laws.specs.Blobs.{range_of}
use Rattle.image_blobs.proofs.EachInTurn.{range_next}
use Rattle.image_blobs.specs.Taken.{IsAt}
use Rattle.live_blobs.specs.LiveBlobs.{digests_of}

module _ (ds : List OciDescriptor) (first end : ℕ) where
  -- the digests so far, and the descriptors that are left
  pub record Listed (at : ℕ) (list : List (List ℕ)) : Type 0 where
    pub past : List OciDescriptor
    pub split : range_of first end ds ≡ past ++ range_of at end ds
    pub are : list ≡ digests_of past

  pub listed_none : Listed first []
  listed_none = record { past = []; split = refl; are = refl }

  pub listed_next : (at : ℕ) (list : List (List ℕ)) (x : OciDescriptor) → at < end → IsAt ds at x → Listed at list → Listed (at + 1) (list ++ x.digest ∷ [])
  listed_next at list x lt is so = record {
    past = so.past ++ x ∷ [];
    split = so.split ∙ (ap (λ (xs : List OciDescriptor). so.past ++ xs) (range_next at end ds x lt is) ∙ sym (append_assoc so.past (x ∷ []) (range_of (at + 1) end ds)));
    are = ap (λ (d : List (List ℕ)). d ++ x.digest ∷ []) so.are ∙ sym (map-append (λ (y : OciDescriptor). y.digest) so.past (x ∷ []));
  }

  pub listed_all : (at : ℕ) (list : List (List ℕ)) → range_of at end ds ≡ [] → Listed at list → list ≡ digests_of (range_of first end ds)
  listed_all at list none so = so.are ∙ ap digests_of (sym (so.split ∙ ap (λ (xs : List OciDescriptor). so.past ++ xs) none ∙ append-nil so.past))
