-- The questions about both tags, one after the other.
use Rattle.std.proofs.Common.{◌≡◌, ◌≤◌, inl, inr, ℕ, List, [], ◌++◌, Option, Some, None, Result, Ok, Err, IfErr, refl, sym, append-nil}
use Rattle.oci_auth.specs.declared.auth.RegistryAuth.{RegistryAuth}
use Rattle.oci_auth.specs.declared.auth_state.AuthState.{AuthState}
use Rattle.oci_names.specs.declared.reference.Reference.{Reference}
use Rattle.oci_protocol.specs.Runs.{Meets, Told}
use Rattle.oci_protocol.proofs.Conversations.{Extends-more}
use Rattle.oci_protocol.proofs.Laws.{Meets-refused, Runs-count}
use Rattle.oci_transport.specs.Link.{Link}
use Rattle.oci_protocol.proofs.Exits.{and_then, done}
use Rattle.engine_rows.specs.Confined.{Within}
use Rattle.engine_rows.specs.Held.{pulling}
use Rattle.engine_terms.specs.Contexts.{Context}
use Rattle.engine_terms.specs.Error.{is_memory}
use Rattle.engine_terms.specs.declared.error.OciDistributionError.{OciDistributionError}
use Rattle.engine_terms.specs.declared.error.OciDistributionError.TheVariants as refusal
use Rattle.oci_engine.specs.Refusals.{FaultCounted}
use Rattle.cosign_chain.specs.declared.verified_documents.VerifiedDocuments.{VerifiedDocuments}
use Rattle.cosign_parts.specs.declared.layer.LayerKind.{LayerKind}
use Rattle.cosign_parts.specs.declared.layer.LayerKind.TheVariants.{Payload}
use Rattle.pull_mirror.proofs.Copied.{still_more}
use Rattle.live_copy.specs.FreeTargets.{document_tag, signature_asked, signature_tag, tag_asked, target_free, unless_taken}
use Rattle.live_copy.specs.Taken.{IsOfSignature, IsOfTag, IsOfTarget, TagsWithin, taken_of}
use Rattle.live_copy.specs.declared.refusals.TargetRefusal.{TargetRefusal}
use Rattle.live_copy.specs.declared.refusals.TargetRefusal.TheVariants.{Taken, Unread, WantOfMemory}
use Rattle.live_copy.proofs.AskedTags.{none_asked, none_within, unread_fault}

-- ---- steps

module _ (s : Context) (target : Reference) (a : RegistryAuth) (d : VerifiedDocuments) where
  pub document_ended : {old new : Link} {k l : AuthState} (e : TargetRefusal) → Meets is_memory (tag_asked s a (document_tag d target)) old new k l (taken_of (Err e)) → Meets is_memory (target_free s target a d) old new k l (taken_of (Err e))
  unfolding target_free
  document_ended (Taken reference digest) met = and_then (unless_taken (signature_asked s a d.signature.kind (signature_tag d target))) met done
  document_ended (Unread reference error) met = Meets-refused (unless_taken (signature_asked s a d.signature.kind (signature_tag d target))) met
  document_ended WantOfMemory met = Meets-refused (unless_taken (signature_asked s a d.signature.kind (signature_tag d target))) met

  pub document_free : {old mid new : Link} {k j l : AuthState} {r : Result (Option (List ℕ)) OciDistributionError} → Meets is_memory (tag_asked s a (document_tag d target)) old mid k j (Ok None) → Meets is_memory (signature_asked s a d.signature.kind (signature_tag d target)) mid new j l r → Meets is_memory (target_free s target a d) old new k l r
  unfolding target_free
  document_free first second = and_then (unless_taken (signature_asked s a d.signature.kind (signature_tag d target))) first second

  pub signature_stopped : {old mid : Link} (new : Link) {k j : AuthState} (l : AuthState) (r : Result (Unit {0}) TargetRefusal) → Meets is_memory (tag_asked s a (document_tag d target)) old mid k j (Ok None) → IfErr r (λ e. (d.signature.kind ≡ Payload) × IsOfTag s a (signature_tag d target) mid new j l e) → IfErr r (IsOfTarget s target a d old new k l)
  signature_stopped new l (Ok u) free h = tt
  signature_stopped {mid = mid} new {j = j} l (Err e) free h = inr (record { mid = mid; between = j; free = free.outcome; payload = h.0; signature = h.1 })

  signature_fault : {old new : Link} {k l : AuthState} (reference : List ℕ) (e : OciDistributionError) (h : IsOfSignature s target a d old new k l (Unread reference e)) → FaultCounted {A = Option (List ℕ)} old new (Err e)
  signature_fault {old} {new} {k} {l} reference e h = λ fault.
      let before : old.faults ≤ h.mid.faults = Runs-count (tag_asked s a (document_tag d target)) k h.between old.faults h.mid.faults h.free.conversation (Ok None) h.free.runs in
      still_more old.faults h.mid.faults new.faults before (unread_fault e h.signature.1 (cc fault))

  pub target_fault : (old new : Link) (k l : AuthState) (r : Result (Unit {0}) TargetRefusal) → IfErr r (IsOfTarget s target a d old new k l) → FaultCounted old new (taken_of r)
  target_fault old new k l (Ok u) h = λ fault. absurd (cc fault)
  target_fault old new k l (Err (Taken reference digest)) h = λ fault. absurd (cc fault)
  target_fault old new k l (Err WantOfMemory) h = λ fault. absurd (cc fault)
  target_fault old new k l (Err (Unread reference error)) (inl h) = λ fault. unread_fault error h.1 (cc fault)
  target_fault old new k l (Err (Unread reference error)) (inr h) = signature_fault reference error h

-- a signature with a tag
pub of_payload : (P : TargetRefusal → Type 0) (kind : LayerKind) (r : Result (Unit {0}) TargetRefusal) → kind ≡ Payload → IfErr r P → IfErr r (λ e. (kind ≡ Payload) × P e)
of_payload P kind (Ok u) is h = tt
of_payload P kind (Err e) is h = (is, h)

-- ---- credentials

pub both_within : (s : Context) (target signature : Reference) (a : RegistryAuth) {old mid new : Link} {k j l : AuthState} → Told (Within (pulling k s target (Some a)) s.settings j) old mid → Told (Within (pulling j s signature (Some a)) s.settings l) mid new → Told (TagsWithin k s target signature a l) old new
both_within s target signature a {old} {mid} {new} {j = j} first second = record {
  conversation = first.conversation ++ second.conversation;
  told = Extends-more old mid new first.conversation second.conversation first.told second.told;
  holds = record {
    first = first.conversation;
    second = second.conversation;
    split = refl;
    between = j;
    document_question = first.holds;
    signature_question = second.holds;
  };
}

pub first_only : (s : Context) (target signature : Reference) (a : RegistryAuth) {old new : Link} {k l : AuthState} → Told (Within (pulling k s target (Some a)) s.settings l) old new → Told (TagsWithin k s target signature a l) old new
first_only s target signature a {l = l} first = record {
  conversation = first.conversation;
  told = first.told;
  holds = record {
    first = first.conversation;
    second = [];
    split = sym (append-nil first.conversation);
    between = l;
    document_question = first.holds;
    signature_question = none_within s signature a l;
  };
}

pub not_tags : (s : Context) (target signature : Reference) (a : RegistryAuth) (link : Link) (k : AuthState) → Told (TagsWithin k s target signature a k) link link
not_tags s target signature a link k = first_only s target signature a (none_asked s target a link k)
