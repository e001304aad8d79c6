-- Frames that are sent, one after another.
use Rattle.std.proofs.Common.{◌≡◌, ℕ, Bool, false, ◌||◌, List, [], ◌∷◌, ◌++◌, length, suc, ◌≤◌, append_assoc, Some, refl, subst, sym, ap, codes, arith}
use Rattle.std.specs.FinMap.{FinMap}
use Rattle.serde_json.specs.Data.{string}
use Rattle.serde_json.specs.Written.{has_float}
use Rattle.json_values.specs.Places.{by_bytes}
use Rattle.json_values.specs.Writing.{map_written}
use Rattle.json_tables.specs.Reading.{text_of}
use Rattle.json_tables.proofs.Entries.{map_again}
use Rattle.json_tables.proofs.Members.{fields_plain}
use Rattle.byte_streams.specs.SinkState.{SinkState, Adds}
use Rattle.byte_streams.proofs.Sinks.{adds_more}
use Rattle.oci_manifests.specs.declared.blob.ImageLayer.{ImageLayer}
use Rattle.oci_manifests.specs.declared.descriptor.OciDescriptor.{OciDescriptor}
use Rattle.cosign_chain.specs.declared.image.VerifiedImage.{VerifiedImage}
use Rattle.cosign_chain.specs.declared.verified_documents.VerifiedDocuments.{VerifiedDocuments}
use Rattle.live_host.specs.Heads.{count_field, item_head, signature_head, text_field}
use Rattle.live_host.specs.Items.{Sent, WereTold, blobs_sent, config_sent, documents_sent, image_sent, index_sent, layers_sent, manifest_sent, pulled_sent, signature_sent}
use Rattle.live_host.specs.Wire.{Wire, SendsFrame}

-- a line followed by its bytes
pub told_behind : (line bytes : List ℕ) (old between end : SinkState) → Adds (line ++ 10 ∷ []) old between → Adds bytes between end → Adds (line ++ 10 ∷ bytes) old end
told_behind line bytes old between end first second =
    subst (λ text. Adds text old end) (append_assoc line (10 ∷ []) bytes) (adds_more (line ++ 10 ∷ []) bytes old between end first second)

pub told_both : (xs ys : List Sent) (a b c : Wire) → WereTold xs a b → WereTold ys b c → WereTold (xs ++ ys) a c
told_both [] ys a b c first second = subst (λ w. WereTold ys w c) (sym first) second
told_both (x ∷ xs) ys a b c first second = (first.0, first.1, told_both xs ys first.0 b c first.2 second)

-- a layer, followed by the others
pub told_layer : (named more : List OciDescriptor) (rest others : List ImageLayer) (x : OciDescriptor) (layer : ImageLayer) (old between end : Wire)
    → named ≡ x ∷ more → rest ≡ layer ∷ others
    → SendsFrame (item_head (codes "blob") (codes "layer") layer.media_type x.digest (length layer.content)) layer.content old between → WereTold (layers_sent more others) between end
    → WereTold (layers_sent named rest) old end
told_layer named more rest others x layer old between end named_is rest_is told after = rw (named_is, rest_is) (between, told, after)

no_more : {A : Type 0} (xs : List A) → length xs ≡ 0 → xs ≡ []
no_more [] h = refl
no_more (x ∷ xs) h = cc h

no_layer : (named : List OciDescriptor) (w : Wire) → WereTold (layers_sent named []) w w
no_layer [] w = refl
no_layer (x ∷ named) w = refl

pub none_named : (named : List OciDescriptor) (rest : List ImageLayer) (w : Wire) → length named ≡ 0 → WereTold (layers_sent named rest) w w
none_named named rest w is = rw (no_more named is) refl

pub none_left : (named : List OciDescriptor) (rest : List ImageLayer) (w : Wire) → length rest ≡ 0 → WereTold (layers_sent named rest) w w
none_left named rest w is = rw (no_more rest is) (no_layer named w)

pub one_less : (rest others : List ImageLayer) (layer : ImageLayer) → rest ≡ layer ∷ others → suc (length others) ≤ length rest
one_less rest others layer is = rw is (omega arith)

-- the whole image
pub told_image : (blobs : Bool) (v : VerifiedImage) (a b c d e f : Wire) → WereTold (index_sent v.list_digest v.first) a b → SendsFrame (manifest_sent v.manifest_digest v.manifest_bytes).0 (manifest_sent v.manifest_digest v.manifest_bytes).1 b c
    → SendsFrame (config_sent v).0 (config_sent v).1 c d → WereTold (blobs_sent blobs v) d e → SendsFrame (pulled_sent v).0 (pulled_sent v).1 e f → WereTold (image_sent blobs v) a f
told_image blobs v a b c d e f index manifest config layers pulled =
    told_both (index_sent v.list_digest v.first) (manifest_sent v.manifest_digest v.manifest_bytes ∷ config_sent v ∷ (blobs_sent blobs v ++ pulled_sent v ∷ [])) a b f index
    (c, manifest, (d, config, told_both (blobs_sent blobs v) (pulled_sent v ∷ []) d e f layers (f, pulled, refl)))

-- documents alone, and the signature layer
pub told_documents : (v : VerifiedDocuments) (a b c d : Wire) → WereTold (index_sent v.list_digest v.first) a b → SendsFrame (manifest_sent v.manifest_digest v.manifest_bytes).0 (manifest_sent v.manifest_digest v.manifest_bytes).1 b c → SendsFrame (signature_sent v.signature).0 (signature_sent v.signature).1 c d → WereTold (documents_sent v) a d
told_documents v a b c d index manifest signature =
    told_both (index_sent v.list_digest v.first) (manifest_sent v.manifest_digest v.manifest_bytes ∷ signature_sent v.signature ∷ []) a b d index (c, manifest, (d, signature, refl))

-- a signature layer's line has no float
pub signature_plain : (kind digest : List ℕ) (annotations : FinMap by_bytes (List ℕ)) (count : ℕ) → has_float (signature_head kind digest annotations count) ≡ false
signature_plain kind digest annotations count =
    fields_plain (text_field (codes "frame") (codes "signature") ∷ text_field (codes "kind") kind ∷ text_field (codes "digest") digest ∷ (codes "annotations", Some (map_written string annotations)) ∷ count_field (codes "bytes") count ∷ [])
    (ap (λ b. b || false) ((map_again text_of string (λ _. refl) (λ _. refl) annotations).plain refl))
