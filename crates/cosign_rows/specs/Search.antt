-- The search for the signatures of an image: its digest, the layers under the digest's signature tag (cosign's layout
-- of signatures in a registry), and the bundles of the images that refer to the digest (OCI distribution specification,
-- "Listing Referrers").
use Rattle.std.specs.Prelude.{ℕ, Bool, true, false, List, [], ◌∷◌, None, Result, Ok, Err, codes, if◌then◌else◌}
use Rattle.oci_names.specs.declared.reference.Reference.{Reference}
use Rattle.oci_names.specs.Reference.{whole_text, reads_back}
use Rattle.oci_auth.specs.declared.auth.RegistryAuth.{RegistryAuth}
use Rattle.oci_manifests.specs.declared.document.OciManifest.{OciManifest}
use Rattle.oci_manifests.specs.declared.document.OciManifest.TheVariants.{Image, ImageIndex}
use Rattle.oci_manifests.specs.declared.index.OciImageIndex.{OciImageIndex}
use Rattle.oci_manifests.specs.declared.index_entry.ImageIndexEntry.{ImageIndexEntry}
use Rattle.oci_protocol.specs.Proto.{Done, bind, ◌>>=◌, ◌>>◌}
use Rattle.engine_terms.specs.Contexts.{Context}
use Rattle.engine_rows.specs.declared.image.ImageData.{ImageData}
use Rattle.registry_calls.specs.declared.error.SigstoreError.{SigstoreError}
use Rattle.registry_calls.specs.Error.{is_memory}
use Rattle.registry_calls.specs.Clients.{Row}
use Rattle.registry_calls.specs.Calls.{digest_call, manifest_call, image_call, referrers_call}
use Rattle.cosign_parts.specs.Trust.{Trust}
use Rattle.cosign_rows.specs.Part.{nothing, skipping, appended, descriptors_part, bundles_part}
use Rattle.cosign_rows.specs.References.{tag_reference, digest_reference, reading_back}
use Rattle.cosign_rows.specs.declared.found.Part.{Part}
use Rattle.cosign_rows.specs.declared.found.SkipCause.{SkipCause}
use Rattle.cosign_rows.specs.declared.found.SkipCause.TheVariants.{NotAReference, FoundIndex, Refused}
use Rattle.cosign_rows.specs.declared.found.Skipped.{Skipped}
use Rattle.cosign_rows.specs.declared.found.Skipped.TheVariants.{Source, Referrer}
use Rattle.cosign_rows.specs.declared.found.SourceKind.TheVariants.{Tag, Referrers}
use Rattle.cosign_rows.specs.declared.found.TrustedLayers.{TrustedLayers}

-- ---- the signature tag

-- the media type of the layers that cosign signs
abbrev pub payload_type : List ℕ
payload_type = codes "application/vnd.dev.cosign.simplesigning.v1+json"

-- the part of the document under the tag with its layers, for the image of digest d
abbrev pub document_part : Trust → List ℕ → OciManifest → ImageData → Part
document_part trust d (ImageIndex index) image = skipping (Source Tag FoundIndex)
document_part trust d (Image manifest) image = descriptors_part trust d image.layers manifest.layers

-- the same, if the image was pulled
abbrev pub pulled_part : Trust → List ℕ → OciManifest → Result ImageData SigstoreError → Result Part SigstoreError
pulled_part trust d document (Ok image) = Ok (document_part trust d document image)
pulled_part trust d document (Err e) = Err e

-- requests the manifest under the tag, and then the image that it is
unfoldable pub tag_layers : Trust → List ℕ → Context → Reference → RegistryAuth → Row Part
tag_layers trust d s tag a = do
  document ← manifest_call s tag a
  image ← image_call s tag a (payload_type ∷ [])
  Done (Ok (document_part trust d document.0 image))

-- an error is recorded as skipped at `place`; out of memory is not
abbrev pub or_skipped : (SkipCause → Skipped) → Result Part SigstoreError → Result Part SigstoreError
or_skipped place (Ok part) = Ok part
or_skipped place (Err e) = if is_memory e then Err e else Ok (skipping (place (Refused e)))

-- the signature tag as a source, if its reference round-trips
abbrev pub tag_by : Trust → List ℕ → Context → Reference → RegistryAuth → Bool → Row Part
tag_by trust d s tag a false = Done (Ok (skipping (Source Tag (NotAReference (whole_text tag)))))
tag_by trust d s tag a true = bind (tag_layers trust d s tag a) (λ r. Done (or_skipped (Source Tag) r))

-- the signature tag of digest d as a source
unfoldable pub tag_source : Trust → Context → Reference → RegistryAuth → List ℕ → Row Part
tag_source trust s image a d = tag_by trust d s (tag_reference image d) a (reads_back (tag_reference image d))

-- ---- the referrers

-- the media type of bundles
abbrev pub bundle_type : List ℕ
bundle_type = codes "application/vnd.dev.sigstore.bundle.v0.3+json"

-- the bundles of a referrer that was pulled
abbrev pub referrer_part : Trust → List ℕ → Result ImageData SigstoreError → Result Part SigstoreError
referrer_part trust d (Ok image) = Ok (bundles_part trust d image.layers)
referrer_part trust d (Err e) = Err e

-- the referrer of this digest, if its reference round-trips
abbrev pub referrer_by : Trust → List ℕ → Context → Reference → RegistryAuth → List ℕ → Bool → Row Part
referrer_by trust d s referrer a digest false =
    Done (Ok (skipping (Referrer digest (NotAReference (whole_text referrer)))))
referrer_by trust d s referrer a digest true =
    bind (image_call s referrer a (bundle_type ∷ []))
    (λ r. Done (or_skipped (Referrer digest) (referrer_part trust d r)))

-- a referrer of the source, in its repository
unfoldable pub referrer_row : Trust → List ℕ → Context → Reference → RegistryAuth → List ℕ → Row Part
referrer_row trust d s source a digest =
    let referrer = digest_reference source digest in referrer_by trust d s referrer a digest (reads_back referrer)

-- the parts of the referrers, in order
unfoldable pub referrers_row : Trust → List ℕ → Context → Reference → RegistryAuth → List ImageIndexEntry → Row Part
referrers_row trust d s source a [] = Done (Ok nothing)
referrers_row trust d s source a (x ∷ xs) = do
  one ← referrer_row trust d s source a x.digest
  rest ← referrers_row trust d s source a xs
  Done (Ok (appended one rest))

-- the referrers that were listed; a refused listing is skipped
abbrev pub listed_row : Trust → List ℕ → Context → Reference → RegistryAuth → Result OciImageIndex SigstoreError
    → Row Part
listed_row trust d s source a (Ok index) = referrers_row trust d s source a index.manifests
listed_row trust d s source a (Err e) = Done (or_skipped (Source Referrers) (Err e))

-- the referrers of digest d, of which `source` is the reference, as a source
unfoldable pub referrers_source : Trust → List ℕ → Context → Reference → RegistryAuth → Row Part
referrers_source trust d s source a = bind (referrers_call s source a None) (listed_row trust d s source a)

-- ---- the search

abbrev pub trusted_layers : List ℕ → Part → TrustedLayers
trusted_layers digest part = record { digest = digest; collected = part.collected; skipped = part.skipped }

-- the digest of the image, and what the search for its signatures found: under the tag, then among the referrers
unfoldable pub searched : Trust → Context → Reference → RegistryAuth → Row TrustedLayers
searched trust s image a = do
  digest ← digest_call s image a
  Done (reading_back (digest_reference image digest))
  tag ← tag_source trust s image a digest
  more ← referrers_source trust digest s (digest_reference image digest) a
  Done (Ok (trusted_layers digest (appended tag more)))
