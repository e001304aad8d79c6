-- A pull under another meaning with the same trust, by which the same layers satisfy the policy, is the same pull.
use Rattle.std.proofs.Common.{◌≡◌, ℕ, Bool, List, Ok, refl, sym, ap, ◌∙◌}
use mathlib.Core.Path.{fun_ext}
use Rattle.std.specs.Prelude.{find}
use Rattle.oci_names.specs.declared.reference.Reference.{Reference}
use Rattle.oci_auth.specs.declared.auth.RegistryAuth.{RegistryAuth}
use Rattle.oci_protocol.specs.Proto.{Done, ◌>>=◌, ◌>>◌}
use Rattle.engine_terms.specs.Contexts.{Context}
use Rattle.cosign_layers.specs.Satisfying.{PolicyContext}
use Rattle.cosign_parts.specs.Trust.{Trust}
use Rattle.cosign_parts.specs.declared.layer.SignatureLayer.{SignatureLayer}
use Rattle.cosign_chain.specs.declared.image.VerifiedImage.{VerifiedImage}
use Rattle.cosign_rows.specs.Image.{image_row}
use Rattle.cosign_rows.specs.References.{digest_reference}
use Rattle.cosign_rows.specs.Search.{searched}
use Rattle.cosign_rows.specs.Verified.{Whole, constrained, is_unconstrained, readable, part_of, stands_by}
use Rattle.cosign_rows.specs.Verified.{signed_digest, verified_image, verified}

-- the pull as a function of whether there is no constraint, which layers satisfy the policy, and who is trusted
by_parts : Context → Reference → RegistryAuth → List (List ℕ) → Bool → (SignatureLayer → Bool) → Trust → Whole VerifiedImage
by_parts s image a accepted none fits trusted = do
  Done (constrained none)
  Done (readable image)
  found ← part_of (searched trusted s image a)
  stood ← Done (signed_digest found (find fits found.collected))
  pulled ← part_of (image_row s image (digest_reference image stood.digest) a accepted)
  Done (Ok (verified_image stood pulled))

is_by_parts : {V : Type 0} {H : V → Type 0} (m : PolicyContext V H) (s : Context) (image : Reference) (a : RegistryAuth)
    (accepted : List (List ℕ))
    → verified m s image a accepted ≡ by_parts s image a accepted (is_unconstrained m.policy) (stands_by m) m.trust
unfolding verified by_parts
is_by_parts m s image a accepted = refl

pub verified_same : {V W : Type 0} {H : V → Type 0} {I : W → Type 0} (m : PolicyContext V H) (n : PolicyContext W I) (s : Context)
    (image : Reference) (a : RegistryAuth) (accepted : List (List ℕ))
    → is_unconstrained m.policy ≡ is_unconstrained n.policy
    → ((layer : SignatureLayer) → stands_by m layer ≡ stands_by n layer) → m.trust ≡ n.trust
    → verified m s image a accepted ≡ verified n s image a accepted
verified_same m n s image a accepted none fits trusted =
    is_by_parts m s image a accepted
    ∙ ap (λ (b : Bool). by_parts s image a accepted b (stands_by m) m.trust) none
    ∙ ap (λ (f : SignatureLayer → Bool). by_parts s image a accepted (is_unconstrained n.policy) f m.trust) (fun_ext fits)
    ∙ ap (λ (t : Trust). by_parts s image a accepted (is_unconstrained n.policy) (stands_by n) t) trusted
    ∙ sym (is_by_parts n s image a accepted)
