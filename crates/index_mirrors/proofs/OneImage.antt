-- The image of one entry: pulled, and pushed.
use Rattle.std.proofs.Common.{◌≡◌, inl, inr, ℕ, Bool, true, false, List, Some, Result, Ok, Err, bytes_eq, refl, sym, subst, ◌∙◌}
use Rattle.std.specs.Result.{IsErrAnd}
use Rattle.std.proofs.lemmas.Result.{err_from_is_err_and}
use Rattle.std.proofs.lemmas.Slice.Eq.{bytes_eq-Decides}
use Rattle.oci_auth.specs.declared.auth_state.AuthState.{AuthState}
use Rattle.oci_auth.specs.declared.token_type.RegistryOperation.TheVariants.{Push as ForPush}
use Rattle.oci_protocol.specs.Runs.{Meets, Told}
use Rattle.oci_transport.specs.Link.{Link}
use Rattle.engine_rows.specs.Confined.{Within}
use Rattle.engine_rows.specs.Held.{asking}
use Rattle.engine_terms.specs.Error.{is_memory as out_of_memory}
use Rattle.cosign_chain.specs.declared.image.VerifiedImage.{VerifiedImage}
use Rattle.cosign_layers.specs.Satisfying.{PolicyContext}
use Rattle.cosign_rows.specs.Refusal.{is_memory}
use Rattle.cosign_rows.specs.declared.refusal.PullRefusal.{PullRefusal}
use Rattle.cosign_rows.specs.declared.refusal.PullRefusal.TheVariants as pull
use Rattle.pull_mirror.specs.Copies.{with_stored}
use Rattle.pull_mirror.specs.EntryPushes.{entry_pushed, entry_pushes, sent_of}
use Rattle.pull_mirror.specs.Errors.{IfRefused}
use Rattle.pull_mirror.specs.Stopped.{Stopped}
use Rattle.pull_mirror.specs.declared.refusals.PushRefusal.{PushRefusal}
use Rattle.pull_mirror.specs.declared.refusals.PushRefusal.TheVariants as pushing
use Rattle.pull_mirror.proofs.Confining.{nothing_sent}
use Rattle.index_mirrors.specs.Courses.{EntryCourse, EntryPushed, Stage, Target, pull_refusal, pull_refusal_by, push_refusal}
use Rattle.index_mirrors.specs.Terms.{Source}
use Rattle.index_mirrors.specs.declared.refusals.IndexRefusal.{IndexRefusal}
use Rattle.index_mirrors.specs.declared.refusals.IndexRefusal.TheVariants.{Other, WantOfMemory}
use Rattle.index_mirrors.proofs.EntryPulls.{not_begun}

-- ---- pushed

module _ (t : Target) (entry : List ℕ) where
  untouched : (link : Link) (k : AuthState) → Told (Within (asking k t.context t.reference ForPush (Some t.auth)) t.context.settings k) link link
  untouched link k = nothing_sent t.context t.reference (Some t.auth) link k

  module _ (v : VerifiedImage) where
    pub other_found : (link : Link) (k : AuthState) → bytes_eq v.manifest_digest entry ≡ false → EntryPushed t entry (Ok v) link link k k (Err (Other entry))
    other_found link k other = record {
      ends = (refl, (v, refl, λ same. absurd (cc (sym other ∙ (bytes_eq-Decides v.manifest_digest entry).1 same))), refl, refl);
      confined = untouched link k;
    }

    pub entry_sent : {old new : Link} {k l : AuthState} → bytes_eq v.manifest_digest entry ≡ true → Meets out_of_memory (entry_pushed t.context t.reference t.auth v) old new k l (Ok tt) → Told (Within (asking k t.context t.reference ForPush (Some t.auth)) t.context.settings l) old new → EntryPushed t entry (Ok v) old new k l (Ok tt)
    entry_sent same met confined = record { ends = (v, refl, (bytes_eq-Decides v.manifest_digest entry).0 same, met.outcome); confined = confined }

    unsent_by : {old new : Link} {k l : AuthState} (e : PushRefusal) → v.manifest_digest ≡ entry → Meets out_of_memory (entry_pushed t.context t.reference t.auth v) old new k l (sent_of (Err e)) → IfRefused e (λ digest error. Stopped t.context t.reference (entry_pushes v t.reference) old new (with_stored t.reference t.auth k) l digest error × (out_of_memory error ≡ false)) → Told (Within (asking k t.context t.reference ForPush (Some t.auth)) t.context.settings l) old new → EntryPushed t entry (Ok v) old new k l (Err (push_refusal entry e))
    unsent_by (pushing.Refused digest error) same met h confined = record { ends = (refl, (v, refl, same, h.0), h.1); confined = confined }
    unsent_by pushing.WantOfMemory same met h confined = record { ends = inr (v, refl, same, met.outcome); confined = confined }

    pub entry_unsent : {old new : Link} {k l : AuthState} (e : PushRefusal) (x : IndexRefusal) → x ≡ push_refusal entry e → bytes_eq v.manifest_digest entry ≡ true → Meets out_of_memory (entry_pushed t.context t.reference t.auth v) old new k l (sent_of (Err e)) → IfRefused e (λ digest error. Stopped t.context t.reference (entry_pushes v t.reference) old new (with_stored t.reference t.auth k) l digest error × (out_of_memory error ≡ false)) → Told (Within (asking k t.context t.reference ForPush (Some t.auth)) t.context.settings l) old new → EntryPushed t entry (Ok v) old new k l (Err x)
    entry_unsent {old} {new} {k} {l} e x x_is same met h confined = subst (λ y. EntryPushed t entry (Ok v) old new k l (Err y)) (sym x_is) (unsent_by e ((bytes_eq-Decides v.manifest_digest entry).0 same) met h confined)

    pub as_pulled : {old new : Link} {k l : AuthState} {r : Result (Unit {0}) IndexRefusal} (pulled : Result VerifiedImage PullRefusal) → pulled ≡ Ok v → EntryPushed t entry (Ok v) old new k l r → EntryPushed t entry pulled old new k l r
    as_pulled {old} {new} {k} {l} {r} pulled is pushed = subst (λ p. EntryPushed t entry p old new k l r) (sym is) pushed

  -- ---- not pulled

  unpulled_by : (link : Link) (k : AuthState) (e : PullRefusal) (b : Bool) → is_memory e ≡ b → EntryPushed t entry (Err e) link link k k (Err (pull_refusal_by b entry e))
  unpulled_by link k e true is = record { ends = inl (refl, refl); confined = untouched link k }
  unpulled_by link k e false is = record { ends = (refl, refl, is, refl, refl); confined = untouched link k }

  pub unpulled : (link : Link) (k : AuthState) (pulled : Result VerifiedImage PullRefusal) (e : PullRefusal) (x : IndexRefusal) → pulled ≡ Err e → x ≡ pull_refusal entry e → EntryPushed t entry pulled link link k k (Err x)
  unpulled link k pulled e x is x_is = subst (λ p. EntryPushed t entry p link link k k (Err x)) (sym is) (subst (λ y. EntryPushed t entry (Err e) link link k k (Err y)) (sym x_is) (unpulled_by link k e (is_memory e) refl))

-- ---- pulled and pushed

module _ {V : Type 0} {H : V → Type 0} (p : PolicyContext V H) (s : Source) (t : Target) (entry : List ℕ) where
  -- memory ran out before it
  pub course_unbegun : (at : Stage) (r : Result (Unit {0}) IndexRefusal) → IsErrAnd r (λ x. x ≡ WantOfMemory) → EntryCourse p s t entry at at r
  course_unbegun at r is = let err = err_from_is_err_and r is in rw (err.1, err.2) (record {
    result = Err pull.WantOfMemory;
    pulled = not_begun p s entry at.source;
    pushed = record { ends = inl (refl, refl); confined = untouched t entry at.target at.kept };
  })
