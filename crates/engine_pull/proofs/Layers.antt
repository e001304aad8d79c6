-- The layers of an image, one after another.
use Rattle.std.proofs.Common.{◌≡◌, ◌<◌, ℕ, ◌+◌, suc, List, [], ◌∷◌, ◌++◌, Result, Ok, length, drop, get_or, sym, ap, ◌∙◌, add-one}
use Rattle.std.proofs.Math.Seq.{drop-cons}
use Rattle.oci_transport.specs.Link.{Link}
use Rattle.oci_names.specs.declared.reference.Reference.{Reference}
use Rattle.oci_auth.specs.declared.auth_state.AuthState.{AuthState}
use Rattle.oci_manifests.specs.declared.descriptor.OciDescriptor.{OciDescriptor}
use Rattle.oci_manifests.specs.declared.blob.ImageLayer.{ImageLayer}
use Rattle.oci_protocol.specs.Proto.{◌>>=◌}
use Rattle.oci_protocol.specs.Runs.{Meets}
use Rattle.engine_terms.specs.Contexts.{Context}
use Rattle.engine_requests.specs.Sources.{Layer, described}
use Rattle.engine_terms.specs.declared.error.OciDistributionError.{OciDistributionError}
use Rattle.engine_terms.specs.Error.{is_memory}
use Rattle.engine_rows.specs.Rows.{Row}
use Rattle.oci_protocol.proofs.Exits.{done}
use Rattle.engine_rows.specs.Pulls.{held_blob}
use Rattle.engine_rows.specs.Image.{layer_of, layers_by, pull_layers}

pub at_next : {A : Type 0} (xs : List A) (i : ℕ) (x : A) → i < length xs → x ≡ get_or xs i x → drop i xs ≡ x ∷ drop (i + 1) xs
at_next {A} xs i x lt is = rw add-one (drop-cons xs i x lt ∙ ap (λ (y : A). y ∷ drop (suc i) xs) (sym is))

-- a blob by the same digest and the same URLs
pub held_as : (s : Context) (image : Reference) {a b : Layer} {old new : Link} {k l : AuthState} {r : Result (List ℕ) OciDistributionError} → a ≡ b → Meets is_memory (held_blob s image a) old new k l r → Meets is_memory (held_blob s image b) old new k l r
held_as s image is met = rw is at met

pub layers_end : (s : Context) (image : Reference) (xs : List OciDescriptor) (layers : List ImageLayer) (link : Link) (k : AuthState) → xs ≡ [] → Meets is_memory (pull_layers s image xs layers) link link k k (Ok layers)
unfolding layers_by
layers_end s image xs layers link k h = rw h done

pub layers_next : (s : Context) (image : Reference) (xs : List OciDescriptor) (i : ℕ) (x : OciDescriptor) (layers : List ImageLayer) {old new : Link} {k l : AuthState} {r : Result (List ImageLayer) OciDistributionError} → i < length xs → x ≡ get_or xs i x
    → Meets is_memory (held_blob s image (described x) >>= (λ content. pull_layers s image (drop (i + 1) xs) (layers ++ layer_of x content ∷ []))) old new k l r → Meets is_memory (pull_layers s image (drop i xs) layers) old new k l r
unfolding layers_by
layers_next s image xs i x layers lt is rest = rw (at_next xs i x lt is) rest

-- What was done leads from row p to row q: whatever q then does, p did.
pub record Leads {A : Type 0} (p q : Row A) (old mid : Link) (k j : AuthState) : Type 0 where
  pub met : (new : Link) (l : AuthState) (r : Result A OciDistributionError) → Meets is_memory q mid new j l r
      → Meets is_memory p old new k l r
