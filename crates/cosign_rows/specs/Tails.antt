-- The last parts of `verified` as rows of their own: private functions meet them, and laws go through them.
use Rattle.std.specs.Prelude.{ℕ, List, Ok}
use Rattle.oci_names.specs.declared.reference.Reference.{Reference}
use Rattle.oci_auth.specs.declared.auth.RegistryAuth.{RegistryAuth}
use Rattle.oci_protocol.specs.Proto.{Done, ◌>>=◌}
use Rattle.engine_terms.specs.Contexts.{Context}
use Rattle.cosign_layers.specs.Satisfying.{PolicyContext}
use Rattle.cosign_chain.specs.declared.image.VerifiedImage.{VerifiedImage}
use Rattle.cosign_rows.specs.Image.{image_row}
use Rattle.cosign_rows.specs.References.{digest_reference}
use Rattle.cosign_rows.specs.Verified.{Whole, part_of, standing, verified_image}
use Rattle.cosign_rows.specs.declared.found.TrustedLayers.{TrustedLayers}
use Rattle.cosign_rows.specs.declared.signed_digest.SignedDigest.{SignedDigest}

-- the image of a digest that a layer stands for
abbrev pub after_selection : Context → Reference → RegistryAuth → List (List ℕ) → SignedDigest → Whole VerifiedImage
after_selection s image a accepted stood = do
  pulled ← part_of (image_row s image (digest_reference image stood.digest) a accepted)
  Done (Ok (verified_image stood pulled))

-- a layer that satisfies the policy, and only then the image
unfoldable pub after_search : {V : Type 0} {H : V → Type 0} → PolicyContext V H → Context → Reference → RegistryAuth
    → List (List ℕ) → TrustedLayers → Whole VerifiedImage
after_search policy_context s image a accepted found = do
  stood ← Done (standing policy_context found)
  after_selection s image a accepted stood
