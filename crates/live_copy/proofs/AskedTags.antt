-- One question about a tag, as a step of its row, and what its refusal states.
use Rattle.std.proofs.Common.{◌≡◌, inl, ℕ, Bool, true, false, List, [], Option, Some, Result, Ok, Err, IfErr, bytes_eq, refl, sym, ap, subst, ◌∙◌}
use Rattle.std.specs.Result.{IsErrAnd}
use Rattle.std.proofs.lemmas.Result.{err_from_is_err_and}
use Rattle.std.proofs.lemmas.Slice.Eq.{bytes_eq-Decides}
use Rattle.json_values.specs.Counts.{Increased}
use Rattle.oci_auth.specs.declared.auth.RegistryAuth.{RegistryAuth}
use Rattle.oci_auth.specs.declared.auth_state.AuthState.{AuthState}
use Rattle.oci_names.specs.Reference.{whole_text}
use Rattle.oci_names.specs.declared.reference.Reference.{Reference}
use Rattle.oci_protocol.specs.Proto.{Done}
use Rattle.oci_protocol.specs.Runs.{Meets, Told}
use Rattle.oci_protocol.proofs.Conversations.{Extends-none}
use Rattle.oci_protocol.proofs.Laws.{Meets-memory, Performs-done}
use Rattle.oci_transport.specs.Link.{Link}
use Rattle.engine_laws.proofs.CallCauses.{digest_fault, digest_reason}
use Rattle.oci_protocol.proofs.Exits.{done}
use Rattle.engine_rows.proofs.Exits.{caught, caught_memory, caught_refusal}
use Rattle.engine_rows.specs.Confined.{Within}
use Rattle.engine_rows.specs.Held.{pulling}
use Rattle.engine_rows.specs.Pulls.{fetch_manifest_digest}
use Rattle.engine_rows.specs.Rows.{Row}
use Rattle.engine_terms.specs.Contexts.{Context}
use Rattle.engine_terms.specs.Error.{is_memory}
use Rattle.engine_terms.specs.declared.error.OciDistributionError.{OciDistributionError}
use Rattle.engine_terms.specs.declared.error.OciDistributionError.TheVariants as refusal
use Rattle.live_copy.specs.FreeTargets.{is_unknown, tag_asked, told_other, unless_same, unless_unknown}
use Rattle.live_copy.specs.Steps.{SaysTaken, SaysUnread}
use Rattle.live_copy.specs.Taken.{IsOfTag, IsUnread, NamesOther, taken_of}
use Rattle.live_copy.specs.declared.questions.TagPush.{TagPush}
use Rattle.live_copy.specs.declared.refusals.TargetRefusal.{TargetRefusal}
use Rattle.live_copy.specs.declared.refusals.TargetRefusal.TheVariants.{Taken, Unread, WantOfMemory}

-- ---- results that are passed on

pub passed_tag : (P : TargetRefusal → Type 0) (r : Result (Unit {0}) TargetRefusal) (e : TargetRefusal) → IsErrAnd r (λ x. x ≡ e) → P e → IfErr r P
passed_tag P r e is h = let at = err_from_is_err_and r is in rw (at.1, at.2) h

taken_err : (r : Result (Unit {0}) TargetRefusal) (e : TargetRefusal) → IsErrAnd r (λ x. x ≡ e) → taken_of r ≡ taken_of (Err e)
taken_err r e is = let at = err_from_is_err_and r is in rw (at.1, at.2) refl

-- memory ran out before the question
pub tag_unasked : {p : Row (Option (List ℕ))} {link : Link} {k : AuthState} (r : Result (Unit {0}) TargetRefusal) → IsErrAnd r (λ x. x ≡ WantOfMemory) → Meets is_memory p link link k k (taken_of r)
tag_unasked {p} {link} {k} r is = rw (taken_err r WantOfMemory is) (Meets-memory is_memory p link k refusal.WantOfMemory refl)

pub tag_passed : {p : Row (Option (List ℕ))} {old new : Link} {k l : AuthState} (r : Result (Unit {0}) TargetRefusal) (e : TargetRefusal) → IsErrAnd r (λ x. x ≡ e) → Meets is_memory p old new k l (taken_of (Err e)) → Meets is_memory p old new k l (taken_of r)
tag_passed r e is met = rw (taken_err r e is) met

-- ---- the question

module _ (s : Context) (a : RegistryAuth) (tag : TagPush) where
  -- it was answered with a digest
  pub named_met : {old new : Link} {k l : AuthState} (digest : List ℕ) (r : Result (Unit {0}) TargetRefusal) → taken_of r ≡ Ok (unless_same (bytes_eq digest tag.digest) digest) → Meets is_memory (fetch_manifest_digest s tag.reference a) old new k l (Ok digest) → Meets is_memory (tag_asked s a tag) old new k l (taken_of r)
  unfolding tag_asked
  named_met digest r is met = rw is (caught (told_other tag.digest) met done)

  names_other : {old new : Link} {k l : AuthState} (digest : List ℕ) → bytes_eq digest tag.digest ≡ false → Meets is_memory (fetch_manifest_digest s tag.reference a) old new k l (Ok digest) → NamesOther s a tag old new k l digest
  names_other digest differs met = record {
    answered = met.outcome;
    other = λ same. let yes : bytes_eq digest tag.digest ≡ true = (bytes_eq-Decides digest tag.digest).1 same in cc (sym yes ∙ differs);
  }

  pub named_other : {old new : Link} {k l : AuthState} (digest : List ℕ) (r : Result (Unit {0}) TargetRefusal) → IfErr r (SaysTaken (whole_text tag.reference) digest tag.digest) → Meets is_memory (fetch_manifest_digest s tag.reference a) old new k l (Ok digest) → IfErr r (IsOfTag s a tag old new k l)
  named_other digest (Ok u) h met = tt
  named_other {old} {new} {k} {l} digest (Err (Taken name other)) h met = (h.0, subst (λ (d : List ℕ). NamesOther s a tag old new k l d) (sym h.1) (names_other digest h.2 met))
  named_other digest (Err (Unread name e)) h met = absurd h
  named_other digest (Err WantOfMemory) h met = absurd h

  -- it was refused, or the registry states that there is nothing
  pub refused_met : {old new : Link} {k l : AuthState} (e : OciDistributionError) (r : Result (Unit {0}) TargetRefusal) → (is_memory e ≡ false → taken_of r ≡ unless_unknown (is_unknown e) e) → (is_memory e ≡ true → taken_of r ≡ Err refusal.WantOfMemory)
      → Meets is_memory (fetch_manifest_digest s tag.reference a) old new k l (Err e) → Meets is_memory (tag_asked s a tag) old new k l (taken_of r)
  unfolding tag_asked
  refused_met {old} {new} {k} {l} e r read memory met = by_memory (is_memory e) refl where
    by_unknown : (b : Bool) → is_memory e ≡ false → Meets is_memory (Done (unless_unknown b e)) new new l l (unless_unknown b e)
    by_unknown true plain = done
    by_unknown false plain = record { outcome = rw plain (Performs-done new l (Err e)) }

    by_memory : (b : Bool) → is_memory e ≡ b → Meets is_memory (tag_asked s a tag) old new k l (taken_of r)
    by_memory true is = rw (memory is) (caught_memory (told_other tag.digest) is met)
    by_memory false is = rw (read is) (caught_refusal (told_other tag.digest) is met (by_unknown (is_unknown e) is))

  is_unread : {old new : Link} {k l : AuthState} (e : OciDistributionError) → is_memory e ≡ false → is_unknown e ≡ false → Meets is_memory (fetch_manifest_digest s tag.reference a) old new k l (Err e) → IsUnread s a tag old new k l e
  is_unread e plain known met = record {
    refused = rw plain at met.outcome;
    cause = digest_reason s tag.reference a met;
    no_memory = plain;
    known = known;
  }

  pub refused_unread : {old new : Link} {k l : AuthState} (e : OciDistributionError) (r : Result (Unit {0}) TargetRefusal) → IfErr r (SaysUnread (whole_text tag.reference) e) → Meets is_memory (fetch_manifest_digest s tag.reference a) old new k l (Err e) → IfErr r (IsOfTag s a tag old new k l)
  refused_unread e (Ok u) h met = tt
  refused_unread e (Err (Taken name digest)) h met = absurd h
  refused_unread {old} {new} {k} {l} e (Err (Unread name error)) h met = (h.0, subst (λ (x : OciDistributionError). IsUnread s a tag old new k l x) (sym h.1) (is_unread e h.2 h.3 met))
  refused_unread e (Err WantOfMemory) h met = tt

-- ---- what follows

-- a fault of the transport counts
pub unread_fault : {s : Context} {a : RegistryAuth} {tag : TagPush} {old new : Link} {k l : AuthState} (e : OciDistributionError) → IsUnread s a tag old new k l e → e ≡ refusal.TransportFault → Increased old.faults new.faults
unread_fault {s} {a} {tag} {old} {new} {k} {l} e h is =
    let met : Meets is_memory (fetch_manifest_digest s tag.reference a) old new k l (Err e) = record { outcome = rw h.no_memory h.refused } in
    digest_fault s tag.reference a met (ap Err is)

-- no question was asked
pub none_within : (s : Context) (image : Reference) (a : RegistryAuth) (k : AuthState) → Within (pulling k s image (Some a)) s.settings k []
none_within s image a k = record { confined = tt; kept = λ key at token there. inl there; stored = λ registry a there. inl there }

pub none_asked : (s : Context) (image : Reference) (a : RegistryAuth) (link : Link) (k : AuthState) → Told (Within (pulling k s image (Some a)) s.settings k) link link
none_asked s image a link k = record { conversation = []; told = Extends-none link; holds = none_within s image a k }
