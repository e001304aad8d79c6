-- The pushes of one image of an index: as they are planned, sent, and where credentials go.
use Rattle.std.proofs.Common.{◌≡◌, ℕ, false, List, [], ◌∷◌, ◌++◌, Option, Some, None, Result, Ok, Err, IfErr, refl, sym, ap, subst, ◌∙◌, append-nil}
use Rattle.std.specs.Result.{IsErrAnd}
use Rattle.std.proofs.lemmas.Result.{err_from_is_err_and}
use Rattle.oci_auth.specs.declared.auth.RegistryAuth.{RegistryAuth}
use Rattle.oci_auth.specs.declared.auth_state.AuthState.{AuthState}
use Rattle.oci_names.specs.Reference.{mirror_of}
use Rattle.oci_names.specs.declared.reference.Reference.{Reference}
use Rattle.oci_protocol.specs.Runs.{Meets, Told}
use Rattle.oci_protocol.proofs.Laws.{Meets-memory}
use Rattle.oci_transport.specs.Link.{Link}
use Rattle.oci_protocol.proofs.Exits.{and_then}
use Rattle.engine_rows.proofs.Exits.{stores}
use Rattle.engine_rows.specs.Confined.{Within}
use Rattle.engine_rows.specs.Rows.{Row, store}
use Rattle.engine_terms.specs.Contexts.{Context}
use Rattle.engine_terms.specs.Error.{is_memory}
use Rattle.engine_terms.specs.declared.error.OciDistributionError.{OciDistributionError}
use Rattle.engine_terms.specs.declared.error.OciDistributionError.TheVariants as refusal
use Rattle.oci_engine.specs.Refusals.{FaultCounted}
use Rattle.push_laws.proofs.Confinement.{pushing}
use Rattle.cosign_chain.specs.declared.image.VerifiedImage.{VerifiedImage}
use Rattle.pull_mirror.specs.Copies.{all_pushed, with_stored}
use Rattle.pull_mirror.specs.EntryPushes.{entry_blobs, entry_pushes, sent_of, stored_pushed}
use Rattle.pull_mirror.specs.Errors.{IfRefused, error_of}
use Rattle.pull_mirror.specs.Every.{Every, IsIn}
use Rattle.pull_mirror.specs.Plans.{Holds, push_of, pushes_of}
use Rattle.pull_mirror.specs.Pushes.{Push, Blob, layer_blobs, manifest_push, without_repeats}
use Rattle.pull_mirror.specs.Stopped.{Stopped}
use Rattle.pull_mirror.specs.Underway.{Made}
use Rattle.pull_mirror.specs.declared.planning.Blobs.{Blobs}
use Rattle.pull_mirror.specs.declared.planning.Planned.{Planned}
use Rattle.pull_mirror.specs.declared.refusals.PushRefusal.{PushRefusal}
use Rattle.pull_mirror.specs.declared.refusals.PushRefusal.TheVariants.{Refused, WantOfMemory}
use Rattle.pull_mirror.proofs.Confining.{Stays, stays_next, stays_told, store_stays}
use Rattle.pull_mirror.proofs.Copied.{all_stays, stopped_fault}
use Rattle.pull_mirror.proofs.Images.{every_both, every_once, layers_in}
use Rattle.pull_mirror.proofs.Pushing.{made_all, mapped, stopped_in}

-- ---- as planned

pub entry_planned : (ps : List Push) (config manifest : Push) (blobs : Blobs) (pushes : List Planned) (p : Planned) → Holds (ps ++ config ∷ []) blobs → push_of p ≡ manifest → pushes ≡ blobs.pushes ++ p ∷ [] → pushes_of pushes ≡ without_repeats (ps ++ config ∷ []) ++ manifest ∷ []
entry_planned ps config manifest blobs pushes p h is pushed =
    ap pushes_of pushed ∙ mapped push_of blobs.pushes (p ∷ []) ∙ ap (λ q. pushes_of blobs.pushes ++ q ∷ []) is ∙ ap (λ qs. qs ++ manifest ∷ []) h.planned

-- ---- results that are passed on

sent_err : (r : Result (List (List ℕ)) PushRefusal) (e : PushRefusal) → IsErrAnd r (λ x. x ≡ e) → sent_of r ≡ Err (error_of e)
sent_err r e is = let at = err_from_is_err_and r is in rw (at.1, at.2) refl

-- memory ran out between two requests
pub entry_unsent : {p : Row (Unit {0})} {link : Link} {k : AuthState} (r : Result (List (List ℕ)) PushRefusal) → IsErrAnd r (λ x. x ≡ WantOfMemory) → Meets is_memory p link link k k (sent_of r)
entry_unsent {p} {link} {k} r is = rw (sent_err r WantOfMemory is) (Meets-memory is_memory p link k refusal.WantOfMemory refl)

same_error : (e : OciDistributionError) → (let r : Result (Unit {0}) OciDistributionError = Err e in r) ≡ Err refusal.TransportFault → e ≡ refusal.TransportFault
same_error e is = cc is

-- ---- as sent

module _ (s : Context) (target : Reference) (a : RegistryAuth) (ps : List Push) where
  stored_sent : {link new : Link} {k j l : AuthState} {r : Result (Unit {0}) OciDistributionError} → j ≡ with_stored target a k → Meets is_memory (all_pushed s target ps) link new j l r → Meets is_memory (stored_pushed s target a ps) link new k l r
  unfolding stored_pushed
  stored_sent {link} {new} {k} {j} {l} {r} is met = and_then _ (stores target a link k) (subst (λ (m : AuthState). Meets is_memory (all_pushed s target ps) link new m l r) is met)

  pub entry_made : {link new : Link} {k j l : AuthState} → j ≡ with_stored target a k → Made s target ps link new j l → Meets is_memory (stored_pushed s target a ps) link new k l (Ok tt)
  entry_made is made = stored_sent is (made_all s target made)

  pub entry_refused : {link new : Link} {k j l : AuthState} (r : Result (List (List ℕ)) PushRefusal) (e : PushRefusal) → IsErrAnd r (λ x. x ≡ e) → j ≡ with_stored target a k → ((rest : List Push) → Meets is_memory (all_pushed s target (ps ++ rest)) link new j l (Err (error_of e))) → Meets is_memory (stored_pushed s target a ps) link new k l (sent_of r)
  entry_refused {link} {new} {j = j} {l = l} r e passed is met = rw (sent_err r e passed) (stored_sent is (subst (λ qs. Meets is_memory (all_pushed s target qs) link new j l (Err (error_of e))) (append-nil ps) (met [])))

  pub entry_stopped : (old new : Link) (k l : AuthState) (e : PushRefusal) → IfRefused e (λ digest error. (rest : List Push) → Stopped s target (ps ++ rest) old new k l digest error × (is_memory error ≡ false)) → IfRefused e (λ digest error. Stopped s target ps old new k l digest error × (is_memory error ≡ false))
  entry_stopped old new k l (Refused digest error) h = let at = h [] in (stopped_in (append-nil ps) at.0, at.1)
  entry_stopped old new k l WantOfMemory h = tt

  pub entry_fault : (old new : Link) (k l : AuthState) (r : Result (List (List ℕ)) PushRefusal) → IfErr r (λ e. IfRefused e (λ digest error. Stopped s target ps old new k l digest error × (is_memory error ≡ false))) → FaultCounted old new (sent_of r)
  entry_fault old new k l (Ok digests) h = λ fault. absurd (cc fault)
  entry_fault old new k l (Err (Refused digest error)) h = λ fault. stopped_fault error h.0 (same_error error fault)
  entry_fault old new k l (Err WantOfMemory) h = λ fault. absurd (cc fault)

  stored_stays : (k : AuthState) → mirror_of target ≡ None → Every (IsIn target) ps → Stays (pushing k s target (Some a)) s.settings (stored_pushed s target a ps)
  unfolding stored_pushed
  stored_stays k none are = stays_next (pushing k s target (Some a)) s.settings (store target a) _ (store_stays k s target a) (λ u. all_stays k s target (Some a) none ps are)

  pub stored_confined : {old new : Link} {k l : AuthState} {r : Result (Unit {0}) OciDistributionError} → mirror_of target ≡ None → Every (IsIn target) ps → Meets is_memory (stored_pushed s target a ps) old new k l r → Told (Within (pushing k s target (Some a)) s.settings l) old new
  stored_confined {k = k} none are met = stays_told s target (Some a) (stored_pushed s target a ps) (stored_stays k none are) met

-- each push is in the target's repository
pub entry_all_in : (v : VerifiedImage) (target : Reference) → Every (IsIn target) (entry_pushes v target)
entry_all_in v target =
    every_both (IsIn target) (without_repeats (entry_blobs v)) (manifest_push v.manifest_digest v.manifest_bytes target ∷ [])
    (every_once (IsIn target) [] (entry_blobs v) (every_both (IsIn target) (layer_blobs v.manifest.layers v.layers) (Blob v.manifest.config.digest v.config.content ∷ []) (layers_in target v.manifest.layers v.layers) (tt, tt)))
    ((None, Some v.manifest_digest, refl), tt)
