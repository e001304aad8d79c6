-- What is pushed for signature layers: a layer for each payload.
use Rattle.std.proofs.Common.{◌≡◌, List, [], ◌∷◌, ◌++◌, Option, Some, sym, subst}
use Rattle.oci_manifests.specs.declared.blob.ImageLayer.{ImageLayer}
use Rattle.cosign_parts.specs.declared.layer.SignatureLayer.{SignatureLayer}
use Rattle.cosign_parts.specs.declared.layer.SimpleSigning.{SimpleSigning}
use Rattle.cosign_client.specs.Signature.{AreLayersFor, IsLayerFor, Signed, signed_in, signed_with}

layers_more : (ss : List Signed) (images : List ImageLayer) (s : Signed) (image : ImageLayer) → AreLayersFor ss images → IsLayerFor s image → AreLayersFor (ss ++ s ∷ []) (images ++ image ∷ [])
layers_more [] [] s image are is = (is, tt)
layers_more (x ∷ ss) (y ∷ images) s image are is = (are.0, layers_more ss images s image are.1 is)
layers_more [] (y ∷ images) s image are is = absurd are
layers_more (x ∷ ss) [] s image are is = absurd are

-- the layer of a payload is added
pub layer_added : (ss : List Signed) (old new : List ImageLayer) (layer : SignatureLayer) (signing : SimpleSigning) (image : ImageLayer) → AreLayersFor ss old → layer.simple_signing ≡ Some signing → IsLayerFor (signing, layer.signature) image → new ≡ old ++ image ∷ [] → AreLayersFor (ss ++ signed_in layer) new
layer_added ss old new layer signing image are there is added =
    subst (λ (images : List ImageLayer). AreLayersFor (ss ++ signed_in layer) images) (sym added)
    (subst (λ (o : Option SimpleSigning). AreLayersFor (ss ++ signed_with layer.signature o) (old ++ image ∷ [])) (sym there)
    (layers_more ss old (signing, layer.signature) image are is))
