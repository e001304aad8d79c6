-- A whole copy: where its credentials go, and that a fault of the transport is returned only if its count increased.
use Rattle.std.proofs.Common.{◌≡◌, ◌≤◌, ℕ, false, List, [], ◌∷◌, Option, Some, None, Result, Ok, Err, refl, sym, ap, subst, arith}
use Rattle.json_values.specs.Counts.{Increased}
use Rattle.oci_auth.specs.declared.auth.RegistryAuth.{RegistryAuth}
use Rattle.oci_auth.specs.declared.auth_state.AuthState.{AuthState}
use Rattle.oci_names.specs.Reference.{mirror_of}
use Rattle.oci_names.specs.declared.reference.Reference.{Reference}
use Rattle.oci_protocol.specs.Proto.{Done}
use Rattle.oci_protocol.specs.Runs.{Meets, Performs, Told}
use Rattle.oci_protocol.proofs.Laws.{Runs-count}
use Rattle.oci_transport.specs.Link.{Link}
use Rattle.engine_terms.specs.Contexts.{Context}
use Rattle.engine_terms.specs.Error.{is_memory}
use Rattle.engine_terms.specs.declared.error.OciDistributionError.{OciDistributionError}
use Rattle.engine_terms.specs.declared.error.OciDistributionError.TheVariants as refusal
use Rattle.engine_rows.specs.Confined.{Within}
use Rattle.engine_rows.specs.Rows.{store}
use Rattle.push_laws.proofs.CallCauses.{blob_fault}
use Rattle.push_laws.proofs.Confinement.{pushing}
use Rattle.push_laws.proofs.PublishedCalls.{raw_fault}
use Rattle.push_rows.specs.Images.{push_manifest_raw}
use Rattle.cosign_chain.specs.declared.image.VerifiedImage.{VerifiedImage}
use Rattle.pull_mirror.specs.Copies.{push_row, all_pushed, image_copied, mirrored_row}
use Rattle.pull_mirror.specs.Every.{Every, IsIn, plain}
use Rattle.pull_mirror.specs.Pushes.{Push, Blob, Manifest, before_document, document_of, signature_of}
use Rattle.pull_mirror.specs.Stopped.{Stopped}
use Rattle.pull_mirror.proofs.Confining.{Stays, stays_done, stays_next, stays_as, stays_told, raw_stays, blob_stays, store_stays}
use Rattle.pull_mirror.proofs.Images.{first_in, document_in_it, signature_in, plain_is}

module _ (k : AuthState) (s : Context) (target : Reference) (handed : Option RegistryAuth) (none : mirror_of target ≡ None) where
  pub push_stays : (p : Push) → IsIn target p → Stays (pushing k s target handed) s.settings (push_row s target p)
  push_stays (Blob digest bytes) h = blob_stays k s target handed bytes digest
  push_stays (Manifest reference digest bytes kind) h =
      subst (λ (t : Reference). Stays (pushing k s t handed) s.settings (push_manifest_raw s reference bytes kind)) (sym (plain_is target none))
      (subst (λ (r : Reference). Stays (pushing k s (plain target.registry target.repository target.tag target.digest) handed) s.settings (push_manifest_raw s r bytes kind)) (sym h.2)
      (stays_as k s target.registry target.repository target.tag target.digest h.0 h.1 handed (push_manifest_raw s (plain target.registry target.repository h.0 h.1) bytes kind)
      (raw_stays k s (plain target.registry target.repository h.0 h.1) handed bytes kind)))

  pub all_stays : (ps : List Push) → Every (IsIn target) ps → Stays (pushing k s target handed) s.settings (all_pushed s target ps)
  unfolding all_pushed
  all_stays [] h = stays_done (pushing k s target handed) s.settings (Ok tt)
  all_stays (p ∷ ps) h = stays_next (pushing k s target handed) s.settings (push_row s target p) _ (push_stays p h.0) (λ url. all_stays ps h.1)

  copied_stays : (v : VerifiedImage) → Stays (pushing k s target handed) s.settings (image_copied s target v)
  unfolding image_copied
  copied_stays v =
      let x = pushing k s target handed in
      stays_next x s.settings (all_pushed s target (before_document v target)) _ (all_stays (before_document v target) (first_in v target)) (λ u.
      stays_next x s.settings (push_row s target (document_of v target)) _ (push_stays (document_of v target) (document_in_it v target none)) (λ url.
      stays_next x s.settings (push_row s target (signature_of v target)) _ (push_stays (signature_of v target) (signature_in v target)) (λ other.
      stays_done x s.settings (Ok url))))

mirrored_stays : (k : AuthState) (s : Context) (target : Reference) (a : RegistryAuth) (v : VerifiedImage) → mirror_of target ≡ None → Stays (pushing k s target (Some a)) s.settings (mirrored_row s target a v)
unfolding mirrored_row
mirrored_stays k s target a v none = stays_next (pushing k s target (Some a)) s.settings (store target a) _ (store_stays k s target a) (λ u. copied_stays k s target (Some a) none v)

pub mirrored_confined : (s : Context) (target : Reference) (a : RegistryAuth) (v : VerifiedImage) {old new : Link} {k l : AuthState} {r : Result (List ℕ) OciDistributionError} → mirror_of target ≡ None → Meets is_memory (mirrored_row s target a v) old new k l r → Told (Within (pushing k s target (Some a)) s.settings l) old new
mirrored_confined s target a v {k = k} none met = stays_told s target (Some a) (mirrored_row s target a v) (mirrored_stays k s target a v none) met

-- ---- faults

push_fault : (s : Context) (target : Reference) (p : Push) {old new : Link} {k l : AuthState} (e : OciDistributionError) → Meets is_memory (push_row s target p) old new k l (Err e) → e ≡ refusal.TransportFault → Increased old.faults new.faults
push_fault s target (Blob digest bytes) e met is = blob_fault s target bytes digest (Err e) met (ap Err is)
push_fault s target (Manifest reference digest bytes kind) e met is = raw_fault s reference bytes kind (Err e) met (ap Err is)

pub still_more : (a b c : ℕ) → a ≤ b → Increased b c → Increased a c
still_more a b c le more = omega (arith, le, more)

pub stopped_fault : {s : Context} {target : Reference} {ps : List Push} {old new : Link} {k l : AuthState} {digest : List ℕ} (e : OciDistributionError) → Stopped s target ps old new k l digest e → e ≡ refusal.TransportFault → Increased old.faults new.faults
stopped_fault {s} {target} {ps} {old} {new} {k} {l} e h is =
    let plain : is_memory e ≡ false = ap is_memory is in
    let met : Meets is_memory (push_row s target h.push) h.mid new h.between l (Err e) = record { outcome = rw plain h.refused } in
    let before : old.faults ≤ h.mid.faults = Runs-count (all_pushed s target h.made) k h.between old.faults h.mid.faults h.pushed.conversation (Ok tt) h.pushed.runs in
    still_more old.faults h.mid.faults new.faults before (push_fault s target h.push e met is)
