-- The unique image that can be built from a written chain.
use Rattle.std.proofs.Common.{◌≡◌, ℕ, false, List, Option, Some, None, sym, ap, subst, ◌∙◌}
use Rattle.oci_digests.specs.Names.{digest_text}
use Rattle.oci_names.specs.declared.algorithm.Algorithm.TheVariants.{Sha256}
use Rattle.oci_manifests.specs.declared.manifest.OciImageManifest.{OciImageManifest}
use Rattle.cosign_layers.specs.Read.{Gives, HasOneOutcome, RejectedUnlessMemory}
use Rattle.cosign_layers.specs.Rejection.{is_memory}
use Rattle.cosign_parts.specs.Trust.{Trust}
use Rattle.cosign_parts.specs.declared.layer.SignatureLayer.{SignatureLayer}
use Rattle.cosign_layers.specs.declared.rejection.LayerRejection.{LayerRejection}
use Rattle.cosign_chain.specs.declared.image.VerifiedImage.{VerifiedImage}
use Rattle.locked_cases.specs.Built.{image_of, input_by, input_of, manifest_in, GivesOne, Builds}
use Rattle.locked_cases.specs.Built.{parts_of, image_with}
use Rattle.locked_cases.specs.declared.built.Parts.{Parts}
use Rattle.locked_cases.specs.declared.chain_input.WrittenChain.{WrittenChain}
use Rattle.locked_cases.specs.declared.chain_input.WrittenSignature.{WrittenSignature}

some_is : {A : Type 0} (x y : A) → Some x ≡ Some y → x ≡ y
some_is x y h = cc h

-- a layer that was read is the only one
pub gives_one : (trust : Trust) (d : List ℕ) (written : WrittenSignature) (named : List ℕ) (layer : SignatureLayer) → named ≡ digest_text Sha256 written.content
    → Gives trust d (input_by named written) layer → HasOneOutcome trust d (input_by named written) → GivesOne trust d (input_of written) (Some layer)
gives_one trust d written named layer is gives law =
    subst (λ (n : List ℕ). GivesOne trust d (input_by n written) (Some layer)) is (gives, λ other h. law.one_layer other layer h gives)

-- a layer that is rejected yields none
pub gives_none : (trust : Trust) (d : List ℕ) (written : WrittenSignature) (named : List ℕ) (x : LayerRejection) → named ≡ digest_text Sha256 written.content
    → is_memory x ≡ false → RejectedUnlessMemory trust d (input_by named written) x → HasOneOutcome trust d (input_by named written) → GivesOne trust d (input_of written) None
gives_none trust d written named x is other rejects law =
    subst (λ (n : List ℕ). GivesOne trust d (input_by n written) None) is (λ layer gives. law.not_both layer x gives (rw other at rejects))

same_image : (chain : WrittenChain) {m n : OciImageManifest} {s t : SignatureLayer} → m ≡ n → s ≡ t → image_of chain m s ≡ image_of chain n t
same_image chain same_manifest same_signature = λ i. image_of chain (same_manifest i) (same_signature i)

-- the image of what was read is built, and is the only one
pub built : (trust : Trust) (chain : WrittenChain) (digest : List ℕ) (read : Option SignatureLayer) (found : Option OciImageManifest) (manifest : OciImageManifest) (signature : SignatureLayer) (parts : Parts) (image : VerifiedImage)
    → digest ≡ chain.digest → read ≡ Some signature → GivesOne trust digest (input_of chain.signature) read → found ≡ Some manifest → found ≡ manifest_in chain
    → parts ≡ parts_of chain manifest → image ≡ image_with parts manifest signature → Builds trust chain (Some image)
built trust chain digest read found manifest signature parts image digest_is read_is gives found_is in_chain parts_are is =
    let one : GivesOne trust chain.digest (input_of chain.signature) (Some signature) = rw (digest_is, read_is) at gives in
    let reads : manifest_in chain ≡ Some manifest = sym in_chain ∙ found_is in
    let whole : image ≡ image_of chain manifest signature = is ∙ ap (λ (p : Parts). image_with p manifest signature) parts_are in
    let own_manifest : image.manifest ≡ manifest = ap (λ (v : VerifiedImage). v.manifest) whole in
    let own_signature : image.signature ≡ signature = ap (λ (v : VerifiedImage). v.signature) whole in (
      record {
        reads = reads ∙ ap Some (sym own_manifest);
        gives = subst (λ (s : SignatureLayer). Gives trust chain.digest (input_of chain.signature) s) (sym own_signature) one.0;
        is = whole ∙ same_image chain (sym own_manifest) (sym own_signature);
      },
      λ other h. h.is ∙ same_image chain (some_is _ _ (sym h.reads ∙ reads)) (one.1 other.signature h.gives) ∙ sym whole,
    )

-- without a layer, none is built
pub no_signature : (trust : Trust) (chain : WrittenChain) (digest : List ℕ) (read : Option SignatureLayer) → digest ≡ chain.digest → read ≡ None
    → GivesOne trust digest (input_of chain.signature) read → Builds trust chain None
no_signature trust chain digest read digest_is read_is gives =
    let none : GivesOne trust chain.digest (input_of chain.signature) None = rw (digest_is, read_is) at gives in λ found h. none found.signature h.gives

-- without a manifest, none is built
pub no_manifest : (trust : Trust) (chain : WrittenChain) (found : Option OciImageManifest) → found ≡ None → found ≡ manifest_in chain → Builds trust chain None
no_manifest trust chain found none in_chain = λ image h. absurd (cc (sym none ∙ in_chain ∙ h.reads))
