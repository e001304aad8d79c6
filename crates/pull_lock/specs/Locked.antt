-- What a lock says of its images: its definition mentions no file, no client and no request.
use Rattle.std.specs.Prelude.{◌≡◌, ◌<◌, ℕ, Bool, true, false, ◌&&◌, List, ◌∷◌, ◌++◌, All, length, Option, Some, Contains}
use Rattle.std.specs.Prelude.{Result, Ok, Err, ⊤}
use Rattle.std.specs.Str.{is_utf8}
use Rattle.oci_names.specs.declared.reference.Reference.{Reference}
use Rattle.oci_names.specs.Reference.{whole_text, reads_back, digest_of}
use Rattle.oci_digests.specs.Names.{Names}
use Rattle.oci_manifests.specs.declared.promise.ResolverPromise.{ResolverPromise}
use Rattle.cosign_parts.specs.declared.layer.SignatureLayer.{SignatureLayer}
use Rattle.cosign_layers.specs.Satisfying.{PolicyContext, CustomVerdict, StandsFor, policy_context}
use Rattle.cosign_layers.specs.declared.policy.PullPolicy.{PullPolicy}
use Rattle.cosign_parts.specs.Trust.{Trust}
use Rattle.cosign_chain.specs.Chain.{Chain, LeadsToManifest}
use Rattle.cosign_chain.specs.declared.image.VerifiedImage.{VerifiedImage}
use Rattle.pull_lock.specs.declared.lock.LockEntry.{LockEntry}
use Rattle.pull_lock.specs.declared.lock.LockedSignature.{LockedSignature}
use Rattle.pull_lock.specs.declared.checking.LockVerdict.{LockVerdict}
use Rattle.pull_lock.specs.declared.checking.LockVerdict.TheVariants.{Holds, Fails}
use Rattle.pull_lock.specs.declared.error.LockError.{LockError}
use Rattle.pull_lock.specs.declared.error.LockError.TheVariants as error

-- what a signature layer is read from
abbrev pub locked_signature : SignatureLayer → LockedSignature
locked_signature layer = record {
  kind = layer.kind;
  oci_digest = layer.oci_digest;
  content = layer.content;
  annotations = layer.annotations;
}

-- the entry of an image: its documents with their digests, and its signature layer
abbrev pub entry_with : List ℕ → List (List ℕ) → VerifiedImage → LockEntry
entry_with image accepted found = record {
  image = image;
  accepted = accepted;
  digest = found.digest;
  first = found.first;
  manifest_digest = found.manifest_digest;
  manifest = found.manifest_bytes;
  signature = locked_signature found.signature;
}

-- There is an image of which this is the entry: its digest names the first document, as the reference's does where it
-- has one; the document leads to the manifest; the manifest has layers, each of a type among the entry's; and the
-- signature layer stands for the digest.
pub record Locked {V : Type 0} {H : V → Type 0} (policy_context : PolicyContext V H) (promise : Option ResolverPromise)
    (e : LockEntry) : Type 0 where
  pub image : Reference
  pub whole : e.image ≡ whole_text image
  pub reads : reads_back image ≡ true
  pub found : VerifiedImage
  pub is : e ≡ entry_with e.image e.accepted found
  pub named : Names e.digest e.first
  pub asked : (digest : List ℕ) → digest_of image ≡ Some digest → Names digest e.first
  pub manifest : LeadsToManifest promise found
  pub some : 0 < length found.manifest.layers
  pub accepted : All (λ x. Contains e.accepted x.media_type) found.manifest.layers
  pub signature : StandsFor policy_context e.digest found.signature

-- `Holds` if every entry is locked, else `Fails` with the image of the first one that is not
abbrev pub Judges : (LockEntry → Type 0) → List LockEntry → LockVerdict → Type 0
Judges IsLocked entries Holds = All IsLocked entries
Judges IsLocked entries (Fails image) =
    (before after : List LockEntry) × (e : LockEntry) × (entries ≡ before ++ e ∷ after)
    × All IsLocked before × ¬ IsLocked e × (image ≡ e.image)

-- whether all three are UTF-8
abbrev pub all_text : List ℕ → List ℕ → List ℕ → Bool
all_text first manifest content = is_utf8 first && is_utf8 manifest && is_utf8 content

-- whether the documents of an image and its signature layer are UTF-8
abbrev pub is_text : VerifiedImage → Bool
is_text found = all_text found.first found.manifest_bytes found.signature.content

-- `NotText` if and only if it is not, or out of memory
abbrev pub NotTextOnly : Bool → Result LockEntry LockError → Type 0
NotTextOnly is_text (Ok e) = is_text ≡ true
NotTextOnly is_text (Err error.NotText) = is_text ≡ false
NotTextOnly is_text (Err error.WantOfMemory) = ⊤
NotTextOnly is_text (Err _) = ⊥

-- the entry of an image whose chain holds, by a reference that reads back, is locked
abbrev pub ChainsAreLocked : {V : Type 0} {H : V → Type 0} → PullPolicy V H → Type 0
ChainsAreLocked {V} {H} policy =
    (own : CustomVerdict V H) (trust : Trust) (image : Reference) (accepted : List (List ℕ))
    (promise : Option ResolverPromise) (found : VerifiedImage)
    → Chain (policy_context policy own trust) image accepted promise found → reads_back image ≡ true
    → Locked (policy_context policy own trust) promise (entry_with (whole_text image) accepted found)
