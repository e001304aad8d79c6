-- Documents with the blobs of every range of their descriptors are an image with its chain.
use Rattle.std.proofs.Common.{◌≡◌, ◌≤◌, ◌<◌, ◌-◌, ℕ, zero, suc, List, [], ◌∷◌, ◌++◌, Option, Some, Ok, Contains, length, take, drop, refl, sym, ap, subst, ◌∙◌, arith, append_assoc}
use Rattle.std.proofs.lemmas.List.{take_all}
use Rattle.byte_streams.specs.SinkState.{SinkState}
use Rattle.oci_manifests.specs.declared.descriptor.OciDescriptor.{OciDescriptor}
use Rattle.oci_manifests.specs.declared.promise.ResolverPromise.{ResolverPromise}
use Rattle.oci_manifests.specs.declared.blob.ImageLayer.{ImageLayer}
use Rattle.oci_names.specs.declared.reference.Reference.{Reference}
use Rattle.oci_transport.specs.Link.{Link}
use Rattle.oci_transport.specs.declared.message.Exchange.{Exchange}
use Rattle.engine_rows.specs.Image.{layer_of, config_of}
use Rattle.cosign_chain.specs.Chain.{LayersLink}
use Rattle.cosign_chain.specs.declared.image.VerifiedImage.{VerifiedImage}
use Rattle.cosign_chain.specs.VerifiedDocuments.{Documents}
use Rattle.cosign_chain.specs.declared.verified_documents.VerifiedDocuments.{VerifiedDocuments}
use Rattle.cosign_chain.proofs.Images.{blobs_chain}
use Rattle.cosign_layers.specs.Satisfying.{PolicyContext}
use Rattle.call_laws.specs.Blobs.{descriptors_of, range_of}
use Rattle.image_blobs.specs.Images.{EachHasBlob, HasBlobs, EachTook, contents_of, blobs_of, AreAccepted, TakenImage}
use Rattle.image_blobs.specs.SinksState.{Closed, SinksState, Closes}
use Rattle.image_blobs.specs.Taken.{EachStands, TookBlobs}

-- ---- one call, and the next one

each_has : (fresh : SinkState) (c : List Exchange) (xs : List OciDescriptor) (zs : List Closed) → EachStands fresh c xs zs → EachHasBlob fresh xs zs
each_has fresh c [] [] h = tt
each_has fresh c (x ∷ xs) (z ∷ zs) h = ((c, h.0), each_has fresh c xs zs h.1)
each_has fresh c [] (z ∷ zs) h = absurd h
each_has fresh c (x ∷ xs) [] h = absurd h

pub call_took : (fresh : SinkState) (xs : List OciDescriptor) (old new : Link) (before after : SinksState) → TookBlobs fresh xs old new before after (Ok tt) → HasBlobs fresh xs before after
call_took fresh xs old new before after took = record { closed = took.closed; closes = took.closes; each = each_has fresh took.stand.conversation xs took.closed took.stand.holds }

both_have : (fresh : SinkState) (xs ys : List OciDescriptor) (zs ws : List Closed) → EachHasBlob fresh xs zs → EachHasBlob fresh ys ws → EachHasBlob fresh (xs ++ ys) (zs ++ ws)
both_have fresh [] ys [] ws h k = k
both_have fresh (x ∷ xs) ys (z ∷ zs) ws h k = (h.0, both_have fresh xs ys zs ws h.1 k)
both_have fresh [] ys (z ∷ zs) ws h k = absurd h
both_have fresh (x ∷ xs) ys [] ws h k = absurd h

closes_both : (zs ws : List Closed) (before between after : SinksState) → Closes zs before between → Closes ws between after → Closes (zs ++ ws) before after
closes_both zs ws before between after first second = record { closed = λ seen is. second.closed (seen ++ zs) (first.closed seen is) ∙ ap Some (append_assoc seen zs ws) }

has_both : (fresh : SinkState) (xs ys : List OciDescriptor) (before between after : SinksState) → HasBlobs fresh xs before between → HasBlobs fresh ys between after → HasBlobs fresh (xs ++ ys) before after
has_both fresh xs ys before between after first second = record {
  closed = first.closed ++ second.closed;
  closes = closes_both first.closed second.closed before between after first.closes second.closes;
  each = both_have fresh xs ys first.closed second.closed first.each second.each;
}

-- ---- ranges

take_none : {A : Type 0} (n : ℕ) → take {A = A} n [] ≡ []
take_none zero = refl
take_none (suc n) = refl

taken_first : (mid end : ℕ) (xs : List OciDescriptor) → mid ≤ end → take mid xs ++ take (end - mid) (drop mid xs) ≡ take end xs
taken_first zero end xs le = let all : end - 0 ≡ end = omega arith in ap (λ (n : ℕ). take n xs) all
taken_first (suc mid) zero xs le = absurd (omega (arith, le))
taken_first (suc mid) (suc end) [] le = take_none (suc end - suc mid)
taken_first (suc mid) (suc end) (x ∷ xs) le =
    let less : mid ≤ end = omega (arith, le) in
    let same : suc end - suc mid ≡ end - mid = omega (arith, le) in
    ap (λ (n : ℕ). x ∷ (take mid xs ++ take n (drop mid xs))) same ∙ ap (λ (ys : List OciDescriptor). x ∷ ys) (taken_first mid end xs less)

range_end : (first end : ℕ) (xs : List OciDescriptor) → first ≤ end → range_of (suc first) (suc end) xs ≡ take (end - first) (drop (suc first) xs)
range_end first end xs le = let same : suc end - suc first ≡ end - first = omega (arith, le) in ap (λ (n : ℕ). take n (drop (suc first) xs)) same

ranges : (first mid end : ℕ) (xs : List OciDescriptor) → first ≤ mid → mid ≤ end → range_of first mid xs ++ range_of mid end xs ≡ range_of first end xs
ranges zero mid end xs le more =
    let front : mid - 0 ≡ mid = omega arith in
    let all : end - 0 ≡ end = omega arith in
    ap (λ (n : ℕ). take n xs ++ take (end - mid) (drop mid xs)) front ∙ taken_first mid end xs more ∙ sym (ap (λ (n : ℕ). take n xs) all)
ranges (suc first) zero end xs le more = absurd (omega (arith, le))
ranges (suc first) (suc mid) zero xs le more = absurd (omega (arith, more))
ranges (suc first) (suc mid) (suc end) [] le more = ap (λ (ys : List OciDescriptor). ys ++ take (suc end - suc mid) []) (take_none (suc mid - suc first)) ∙ take_none (suc end - suc mid) ∙ sym (take_none (suc end - suc first))
ranges (suc first) (suc mid) (suc end) (x ∷ xs) le more =
    let less : first ≤ mid = omega (arith, le) in
    let fewer : mid ≤ end = omega (arith, more) in
    let whole : first ≤ end = omega (arith, le, more) in
    ap (λ (ys : List OciDescriptor). ys ++ range_of (suc mid) (suc end) (x ∷ xs)) (range_end first mid (x ∷ xs) less)
    ∙ ap (λ (ys : List OciDescriptor). range_of first mid xs ++ ys) (range_end mid end (x ∷ xs) fewer)
    ∙ ranges first mid end xs less fewer
    ∙ sym (range_end first end (x ∷ xs) whole)

pub ranges_join : (fresh : SinkState) (xs : List OciDescriptor) (first mid end : ℕ) (before between after : SinksState) → first ≤ mid → mid ≤ end → HasBlobs fresh (range_of first mid xs) before between → HasBlobs fresh (range_of mid end xs) between after → HasBlobs fresh (range_of first end xs) before after
ranges_join fresh xs first mid end before between after le more one two =
    subst (λ (ys : List OciDescriptor). HasBlobs fresh ys before after) (ranges first mid end xs le more) (has_both fresh (range_of first mid xs) (range_of mid end xs) before between after one two)

range_all : (end : ℕ) (xs : List OciDescriptor) → length xs ≤ end → range_of 0 end xs ≡ xs
range_all end xs le = let all : end - 0 ≡ end = omega arith in ap (λ (n : ℕ). take n xs) all ∙ take_all end xs le

-- ---- the image

record LayersTaken (accepted : List (List ℕ)) (fresh : SinkState) (xs : List OciDescriptor) (zs : List Closed) : Type 0 where
  layers : List ImageLayer
  linked : LayersLink accepted xs layers
  took : EachTook fresh (contents_of layers) zs
  many : length layers ≡ length xs

layers_taken : (accepted : List (List ℕ)) (fresh : SinkState) (xs : List OciDescriptor) (zs : List Closed) → EachHasBlob fresh xs zs → AreAccepted accepted xs → LayersTaken accepted fresh xs zs
layers_taken accepted fresh [] [] h allowed = record { layers = []; linked = tt; took = tt; many = refl }
layers_taken accepted fresh (x ∷ xs) (z ∷ zs) h allowed =
    let stands = (h.0).1 in
    let rest = layers_taken accepted fresh xs zs h.1 allowed.1 in
    record {
      layers = layer_of x stands.bytes ∷ rest.layers;
      linked = (record { named = stands.blob.names; media_type = refl; annotations = refl; allowed = allowed.0 }, rest.linked);
      took = (stands.took, rest.took);
      many = ap suc rest.many;
    }
layers_taken accepted fresh [] (z ∷ zs) h allowed = absurd h
layers_taken accepted fresh (x ∷ xs) [] h allowed = absurd h

module _ {V : Type 0} {H : V → Type 0} (policy_context : PolicyContext V H) (image : Reference) (accepted : List (List ℕ)) (promise : Option ResolverPromise) (d : VerifiedDocuments) (fresh : SinkState) (before after : SinksState) where
  image_taken : Documents policy_context image promise d → 0 < length d.manifest.layers → AreAccepted accepted d.manifest.layers → (closed : List Closed) → Closes closed before after → EachHasBlob fresh (descriptors_of d.manifest) closed → TakenImage policy_context image accepted promise d fresh before after
  image_taken holds some allowed [] closes each = absurd each
  image_taken holds some allowed (z ∷ zs) closes each =
      let stands = (each.0).1 in
      let rest = layers_taken accepted fresh d.manifest.layers zs each.1 allowed in
      let v : VerifiedImage = record {
        digest = d.digest;
        first = d.first;
        manifest_bytes = d.manifest_bytes;
        manifest = d.manifest;
        manifest_digest = d.manifest_digest;
        list_digest = d.list_digest;
        config = config_of d.manifest stands.bytes;
        layers = rest.layers;
        signature = d.signature;
      } in
      record {
        v = v;
        documents = refl;
        closed = z ∷ zs;
        closes = closes;
        took = (stands.took, rest.took);
        chain = blobs_chain policy_context image accepted promise v holds (record {
          config = record { named = stands.blob.names; media_type = refl; annotations = refl };
          some = subst (λ (n : ℕ). 0 < n) (sym rest.many) some;
          layers = rest.linked;
        });
      }

  pub blobs_taken : (end : ℕ) → Documents policy_context image promise d → 0 < length d.manifest.layers → AreAccepted accepted d.manifest.layers → length (descriptors_of d.manifest) ≤ end → HasBlobs fresh (range_of 0 end (descriptors_of d.manifest)) before after → TakenImage policy_context image accepted promise d fresh before after
  blobs_taken end holds some allowed all has =
      let whole = subst (λ (xs : List OciDescriptor). HasBlobs fresh xs before after) (range_all end (descriptors_of d.manifest) all) has in
      image_taken holds some allowed whole.closed whole.closes whole.each
