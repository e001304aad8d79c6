-- The descriptors of an image, one after another.
use Rattle.std.proofs.Common.{◌≡◌, ◌<◌, ℕ, ◌+◌, suc, List, [], ◌∷◌, ◌++◌, Result, Ok, length, drop, get_or, sym, ap, ◌∙◌, add-one, append_assoc, append-nil}
use Rattle.std.proofs.Math.Seq.{drop-cons}
use Rattle.oci_transport.specs.Link.{Link}
use Rattle.oci_names.specs.declared.reference.Reference.{Reference}
use Rattle.oci_manifests.specs.declared.descriptor.OciDescriptor.{OciDescriptor}
use Rattle.oci_manifests.specs.declared.blob.ImageLayer.{ImageLayer}
use Rattle.oci_protocol.specs.Proto.{◌>>=◌}
use Rattle.engine_terms.specs.Contexts.{within}
use Rattle.engine_requests.specs.Sources.{described}
use Rattle.engine_terms.specs.declared.settings.Settings.{Settings}
use Rattle.engine_rows.specs.Image.{layers_by, layer_of}
use Rattle.registry_calls.specs.declared.error.SigstoreError.{SigstoreError}
use Rattle.registry_calls.specs.Error.{is_memory}
use Rattle.registry_calls.specs.Clients.{Client, ClientMeets}
use Rattle.registry_calls.specs.Calls.{blob_call}
use Rattle.cosign_parts.specs.Trust.{Trust}
use Rattle.cosign_rows.specs.declared.found.Part.{Part}
use Rattle.cosign_rows.specs.Part.{appended, descriptor_part, descriptors_part, nothing}
use Rattle.cosign_rows.specs.Image.{layers_row}
use Rattle.cosign_rows.proofs.Exits.{done}

pub at_next : {A : Type 0} (xs : List A) (i : ℕ) (x : A) → i < length xs → x ≡ get_or xs i x → drop i xs ≡ x ∷ drop (i + 1) xs
at_next {A} xs i x lt is = rw add-one (drop-cons xs i x lt ∙ ap (λ (y : A). y ∷ drop (suc i) xs) (sym is))

pub layers_end : {s : Settings} (moment : ℕ) (source : Reference) (xs : List OciDescriptor) (layers : List ImageLayer) {c : Client} {link : Link} → xs ≡ [] → ClientMeets is_memory s (layers_row (within s moment) source xs layers) c c link link (Ok layers)
unfolding layers_by
layers_end moment source xs layers h = rw h done

pub layers_next : {s : Settings} (moment : ℕ) (source : Reference) (xs : List OciDescriptor) (i : ℕ) (x : OciDescriptor) (layers : List ImageLayer) {c e : Client} {old new : Link} {r : Result (List ImageLayer) SigstoreError} → i < length xs → x ≡ get_or xs i x
    → ClientMeets is_memory s (blob_call (within s moment) source (described x) >>= (λ content. layers_row (within s moment) source (drop (i + 1) xs) (layers ++ layer_of x content ∷ []))) c e old new r → ClientMeets is_memory s (layers_row (within s moment) source (drop i xs) layers) c e old new r
unfolding layers_by
layers_next moment source xs i x layers lt is rest = rw (at_next xs i x lt is) rest

-- ---- the parts of the descriptors

pub joined_part : (p q r : Part) → appended (appended p q) r ≡ appended p (appended q r)
joined_part p q r = λ i. record { collected = append_assoc p.collected q.collected r.collected i; skipped = append_assoc p.skipped q.skipped r.skipped i }

pub alone : (p : Part) → appended p nothing ≡ p
alone p = λ i. record { collected = append-nil p.collected i; skipped = append-nil p.skipped i }

-- one more descriptor
pub descriptors_next : (trust : Trust) (d : List ℕ) (layers : List ImageLayer) (xs : List OciDescriptor) (i : ℕ) (x : OciDescriptor) (p q all : Part) → i < length xs → x ≡ get_or xs i x
    → q ≡ appended p (descriptor_part trust d layers x) → appended p (descriptors_part trust d layers (drop i xs)) ≡ all → appended q (descriptors_part trust d layers (drop (i + 1) xs)) ≡ all
descriptors_next trust d layers xs i x p q all lt is more rest =
    ap (λ q. appended q (descriptors_part trust d layers (drop (i + 1) xs))) more
    ∙ joined_part p (descriptor_part trust d layers x) (descriptors_part trust d layers (drop (i + 1) xs))
    ∙ ap (λ ys. appended p (descriptors_part trust d layers ys)) (sym (at_next xs i x lt is))
    ∙ rest

-- no descriptors left
pub descriptors_end : (trust : Trust) (d : List ℕ) (layers : List ImageLayer) (xs : List OciDescriptor) (p all : Part) → xs ≡ [] → appended p (descriptors_part trust d layers xs) ≡ all → p ≡ all
descriptors_end trust d layers xs p all none rest = sym (alone p) ∙ ap (λ ys. appended p (descriptors_part trust d layers ys)) (sym none) ∙ rest

pub ruleset descriptors_rules = (descriptors_next, descriptors_end)
