-- The exits of the functions that send an image, as steps of its row.
use Rattle.std.proofs.Common.{◌≡◌, ◌<◌, ◌+◌, ℕ, length, take, drop, get_or, Bool, true, false, List, [], ◌∷◌, ◌++◌, Result, Ok, Err, IfErr, IfOk, refl, sym, ap, subst, ◌∙◌, append_assoc, append-nil}
use Rattle.std.specs.Result.{IsErrAnd}
use Rattle.std.proofs.lemmas.Result.{err_from_is_err_and}
use Rattle.oci_auth.specs.declared.auth.RegistryAuth.{RegistryAuth}
use Rattle.oci_auth.specs.declared.auth_state.AuthState.{AuthState}
use Rattle.oci_names.specs.Reference.{resolved_registry}
use Rattle.oci_names.specs.declared.reference.Reference.{Reference}
use Rattle.oci_protocol.specs.Proto.{◌>>=◌}
use Rattle.oci_protocol.specs.Runs.{Meets}
use Rattle.oci_protocol.proofs.Laws.{Meets-refused, Meets-memory}
use Rattle.oci_transport.specs.Link.{Link}
use Rattle.engine_terms.specs.Contexts.{Context}
use Rattle.engine_terms.specs.Error.{is_memory}
use Rattle.engine_terms.specs.declared.error.OciDistributionError.{OciDistributionError}
use Rattle.engine_terms.specs.declared.error.OciDistributionError.TheVariants as refusal
use Rattle.engine_rows.specs.Rows.{Row}
use Rattle.oci_engine.specs.Refusals.{FaultCounted}
use Rattle.oci_protocol.proofs.Exits.{and_then, done}
use Rattle.engine_rows.proofs.Exits.{stores}
use Rattle.cosign_chain.specs.declared.image.VerifiedImage.{VerifiedImage}
use Rattle.pull_mirror.specs.Copies.{push_row, all_pushed, image_copied, mirrored_row, with_stored}
use Rattle.pull_mirror.specs.Errors.{IsRefusalOf, IfRefused, as_answered, error_of, url_answered}
use Rattle.pull_mirror.specs.Plans.{push_of, pushes_of}
use Rattle.pull_mirror.specs.declared.planning.Planned.{Planned}
use Rattle.pull_mirror.specs.Pushes.{Push, push_digest, digests_of, before_document, document_of, signature_of, pushes}
use Rattle.pull_mirror.specs.Stopped.{Stopped}
use Rattle.pull_mirror.specs.Underway.{Made}
use Rattle.pull_mirror.specs.declared.refusals.PushRefusal.{PushRefusal}
use Rattle.pull_mirror.specs.declared.refusals.PushRefusal.TheVariants.{Refused, WantOfMemory}
use Rattle.pull_mirror.specs.declared.refusals.PushReport.{PushReport}
use Rattle.pull_mirror.proofs.Copied.{stopped_fault}
use Rattle.pull_mirror.proofs.Pushing.{around, next_item, mapped, made_all, made_next, ended_at, stopped_at, stopped_in}

-- ---- errors that are passed on

pub answered_err : {A : Type 0} (r : Result A PushRefusal) (e : PushRefusal) → IsErrAnd r (λ x. x ≡ e) → as_answered r ≡ Err (error_of e)
answered_err r e is = let at = err_from_is_err_and r is in rw (at.1, at.2) refl

pub url_err : (r : Result PushReport PushRefusal) (e : PushRefusal) → IsErrAnd r (λ x. x ≡ e) → url_answered r ≡ Err (error_of e)
url_err r e is = let at = err_from_is_err_and r is in rw (at.1, at.2) refl

pub passed_err : {A : Type 0} (P : PushRefusal → Type 0) (r : Result A PushRefusal) (e : PushRefusal) → IsErrAnd r (λ x. x ≡ e) → P e → IfErr r P
passed_err P r e is h = let at = err_from_is_err_and r is in rw (at.1, at.2) h

-- a row whose error is passed on
pub url_ended : {p : Row (List ℕ)} {old new : Link} {k l : AuthState} (r : Result PushReport PushRefusal) (e : PushRefusal) → IsErrAnd r (λ x. x ≡ e) → Meets is_memory p old new k l (Err (error_of e)) → Meets is_memory p old new k l (url_answered r)
url_ended r e is met = rw (url_err r e is) met

-- memory ran out between two requests
pub unsent : {A : Type 0} {p : Row A} {link : Link} {k : AuthState} (r : Result A PushRefusal) → IsErrAnd r (λ x. x ≡ WantOfMemory) → Meets is_memory p link link k k (as_answered r)
unsent {p = p} {link = link} {k = k} r is = rw (answered_err r WantOfMemory is) (Meets-memory is_memory p link k refusal.WantOfMemory refl)

pub url_unsent : {p : Row (List ℕ)} {link : Link} {k : AuthState} (r : Result PushReport PushRefusal) → IsErrAnd r (λ x. x ≡ WantOfMemory) → Meets is_memory p link link k k (url_answered r)
url_unsent {p} {link} {k} r is = rw (url_err r WantOfMemory is) (Meets-memory is_memory p link k refusal.WantOfMemory refl)

pub unrefused : {A : Type 0} (P : List ℕ → OciDistributionError → Type 0) (r : Result A PushRefusal) → IsErrAnd r (λ x. x ≡ WantOfMemory) → IfErr r (λ e. IfRefused e P)
unrefused P r is = passed_err (λ e. IfRefused e P) r WantOfMemory is tt

pub is_refusal : {A : Type 0} (text : List ℕ) (r : Result A PushRefusal) → IsErrAnd r (λ x. x ≡ WantOfMemory) → IfErr r (IsRefusalOf text)
is_refusal text r is = passed_err (IsRefusalOf text) r WantOfMemory is tt

pub no_ok : {A : Type 0} (P : A → Type 0) (r : Result A PushRefusal) (e : PushRefusal) → IsErrAnd r (λ x. x ≡ e) → IfOk r P
no_ok P r e is = let at = err_from_is_err_and r is in rw at.1 tt

pub answered_by : {p : Row (List ℕ)} {old new : Link} {k l : AuthState} (e : PushRefusal) {error : OciDistributionError} → error_of e ≡ error → Meets is_memory p old new k l (Err error) → Meets is_memory p old new k l (Err (error_of e))
answered_by {p} {old} {new} {k} {l} e is met = subst (λ x. Meets is_memory p old new k l (Err x)) (sym is) met

pub no_fault : (old new : Link) (r : Result PushReport PushRefusal) → IsErrAnd r (λ x. x ≡ WantOfMemory) → FaultCounted old new (url_answered r)
no_fault old new r is = λ fault. absurd (cc (sym (url_err r WantOfMemory is) ∙ fault))

same_error : (e : OciDistributionError) → (let r : Result (List ℕ) OciDistributionError = Err e in r) ≡ Err refusal.TransportFault → e ≡ refusal.TransportFault
same_error e is = cc is

pub image_fault : (s : Context) (target : Reference) (ps : List Push) (old new : Link) (k l : AuthState) (r : Result PushReport PushRefusal) → IfErr r (λ e. IfRefused e (λ digest error. Stopped s target ps old new k l digest error × (is_memory error ≡ false))) → FaultCounted old new (url_answered r)
image_fault s target ps old new k l (Ok report) h = λ fault. absurd (cc fault)
image_fault s target ps old new k l (Err (Refused digest error)) h = λ fault. stopped_fault error h.0 (same_error error fault)
image_fault s target ps old new k l (Err WantOfMemory) h = λ fault. absurd (cc fault)

-- ---- one push among others

module _ (s : Context) (target : Reference) where
  -- what a refused push states
  pub stopped_by : {ps : List Push} (p : Push) {old mid new : Link} {k j l : AuthState} (e : PushRefusal) → Made s target ps old mid k j → IsRefusalOf (push_digest p) e → Meets is_memory (push_row s target p) mid new j l (Err (error_of e))
      → (left : List Push) → IfRefused e (λ digest error. Stopped s target (ps ++ p ∷ left) old new k l digest error × (is_memory error ≡ false))
  stopped_by p (Refused digest error) made is met left = (stopped_at s target p made is.1 is.0 met left, is.1)
  stopped_by p WantOfMemory made is met left = tt

pub refused_in : (s : Context) (target : Reference) {ps qs : List Push} (old new : Link) (k l : AuthState) (e : PushRefusal) → ps ≡ qs → IfRefused e (λ digest error. Stopped s target ps old new k l digest error × (is_memory error ≡ false)) → IfRefused e (λ digest error. Stopped s target qs old new k l digest error × (is_memory error ≡ false))
refused_in s target old new k l e is h = subst (λ qs. IfRefused e (λ digest error. Stopped s target qs old new k l digest error × (is_memory error ≡ false))) is h

-- ---- each of a list

module _ (s : Context) (target : Reference) (xs : List Planned) (i : ℕ) (x : Planned) (at : i < length xs) (is : x ≡ get_or xs i x) where
  whole : (rest : List Push) → pushes_of (take i xs) ++ push_of x ∷ (pushes_of (drop (i + 1) xs) ++ rest) ≡ pushes_of xs ++ rest
  whole rest = sym (ap (λ ys. pushes_of ys ++ rest) (around xs i x at is) ∙ ap (λ ps. ps ++ rest) (mapped push_of (take i xs) (x ∷ drop (i + 1) xs)) ∙ append_assoc (pushes_of (take i xs)) (push_of x ∷ pushes_of (drop (i + 1) xs)) rest)

  planned_next : pushes_of (take (i + 1) xs) ≡ pushes_of (take i xs) ++ push_of x ∷ []
  planned_next = ap pushes_of (next_item xs i x at is) ∙ mapped push_of (take i xs) (x ∷ [])

  pub each_ended : {old mid new : Link} {k j l : AuthState} (e : OciDistributionError) → Made s target (pushes_of (take i xs)) old mid k j → Meets is_memory (push_row s target (push_of x)) mid new j l (Err e) → (rest : List Push) → Meets is_memory (all_pushed s target (pushes_of xs ++ rest)) old new k l (Err e)
  each_ended {old} {mid} {new} {k} {j} {l} e made met rest = subst (λ ps. Meets is_memory (all_pushed s target ps) old new k l (Err e)) (whole rest) (ended_at s target (push_of x) made met (pushes_of (drop (i + 1) xs) ++ rest))

  pub each_stopped : {old mid new : Link} {k j l : AuthState} (e : PushRefusal) → Made s target (pushes_of (take i xs)) old mid k j → IsRefusalOf (push_digest (push_of x)) e → Meets is_memory (push_row s target (push_of x)) mid new j l (Err (error_of e))
      → IfRefused e (λ digest error. (rest : List Push) → Stopped s target (pushes_of xs ++ rest) old new k l digest error × (is_memory error ≡ false))
  each_stopped (Refused digest error) made is_of met = λ rest. (stopped_in (whole rest) (stopped_at s target (push_of x) made is_of.1 is_of.0 met (pushes_of (drop (i + 1) xs) ++ rest)), is_of.1)
  each_stopped WantOfMemory made is_of met = tt

  pub each_made : {old mid new : Link} {k j l : AuthState} {url : List ℕ} → Made s target (pushes_of (take i xs)) old mid k j → Meets is_memory (push_row s target (push_of x)) mid new j l (Ok url) → Made s target (pushes_of (take (i + 1) xs)) old new k l
  each_made {old} {mid} {new} {k} {j} {l} made met = subst (λ ps. Made s target ps old new k l) (sym planned_next) (made_next s target (push_of x) made met)

  pub each_digests : (before : List (List ℕ)) {now after : List (List ℕ)} → now ≡ before ++ digests_of (pushes_of (take i xs)) → after ≡ now ++ push_digest (push_of x) ∷ [] → after ≡ before ++ digests_of (pushes_of (take (i + 1) xs))
  each_digests before now_is after_is =
      let last = push_digest (push_of x) ∷ [] in
      after_is ∙ ap (λ ds. ds ++ last) now_is ∙ append_assoc before (digests_of (pushes_of (take i xs))) last
      ∙ ap (λ ds. before ++ ds) (sym (ap digests_of planned_next ∙ mapped push_digest (pushes_of (take i xs)) (push_of x ∷ [])))

-- ---- an image

module _ (s : Context) (target : Reference) (v : VerifiedImage) {first : List Push} {document signature : Push} (first_is : first ≡ before_document v target) (document_is : document ≡ document_of v target) (signature_is : signature ≡ signature_of v target) where
  pub all_are : first ++ document ∷ signature ∷ [] ≡ pushes v target
  all_are = ap (λ ps. ps ++ document ∷ signature ∷ []) first_is ∙ ap (λ p. before_document v target ++ p ∷ signature ∷ []) document_is ∙ ap (λ p. before_document v target ++ document_of v target ∷ p ∷ []) signature_is

  pub all_digests : {pushed one two three : List (List ℕ)} → pushed ≡ [] → one ≡ pushed ++ digests_of first → two ≡ one ++ push_digest document ∷ [] → three ≡ two ++ push_digest signature ∷ [] → three ≡ digests_of (pushes v target)
  all_digests none one_is two_is three_is =
      three_is ∙ ap (λ ds. ds ++ push_digest signature ∷ []) two_is ∙ ap (λ ds. (ds ++ push_digest document ∷ []) ++ push_digest signature ∷ []) (one_is ∙ ap (λ ds. ds ++ digests_of first) none)
      ∙ append_assoc (digests_of first) (push_digest document ∷ []) (push_digest signature ∷ [])
      ∙ sym (mapped push_digest first (document ∷ signature ∷ []))
      ∙ ap digests_of all_are

  pub first_refused : {old new : Link} {k l : AuthState} (e : OciDistributionError) → ((rest : List Push) → Meets is_memory (all_pushed s target (first ++ rest)) old new k l (Err e)) → Meets is_memory (image_copied s target v) old new k l (Err e)
  unfolding image_copied
  first_refused {old} {new} {k} {l} e met = Meets-refused _ (subst (λ ps. Meets is_memory (all_pushed s target ps) old new k l (Err e)) (append-nil first ∙ first_is) (met []))

  first_made : {old mid : Link} {k j : AuthState} → Made s target first old mid k j → Meets is_memory (all_pushed s target (before_document v target)) old mid k j (Ok tt)
  first_made {old} {mid} {k} {j} made = subst (λ ps. Meets is_memory (all_pushed s target ps) old mid k j (Ok tt)) first_is (made_all s target made)

  pub document_refused : {old mid new : Link} {k j l : AuthState} (e : OciDistributionError) → Made s target first old mid k j → Meets is_memory (push_row s target document) mid new j l (Err e) → Meets is_memory (image_copied s target v) old new k l (Err e)
  unfolding image_copied
  document_refused {mid = mid} {new = new} {j = j} {l = l} e made met = and_then _ (first_made made) (Meets-refused _ (subst (λ p. Meets is_memory (push_row s target p) mid new j l (Err e)) document_is met))

  pub signature_refused : {old mid more new : Link} {k j i l : AuthState} {url : List ℕ} (e : OciDistributionError) → Made s target first old mid k j → Meets is_memory (push_row s target document) mid more j i (Ok url) → Meets is_memory (push_row s target signature) more new i l (Err e) → Meets is_memory (image_copied s target v) old new k l (Err e)
  unfolding image_copied
  signature_refused {mid = mid} {more = more} {new = new} {j = j} {i = i} {l = l} {url = url} e made first_met met = and_then _ (first_made made) (and_then _ (subst (λ p. Meets is_memory (push_row s target p) mid more j i (Ok url)) document_is first_met) (Meets-refused _ (subst (λ p. Meets is_memory (push_row s target p) more new i l (Err e)) signature_is met)))

  pub image_met : {old mid more new : Link} {k j i l : AuthState} {url other : List ℕ} → Made s target first old mid k j → Meets is_memory (push_row s target document) mid more j i (Ok url) → Meets is_memory (push_row s target signature) more new i l (Ok other) → Meets is_memory (image_copied s target v) old new k l (Ok url)
  unfolding image_copied
  image_met {mid = mid} {more = more} {new = new} {j = j} {i = i} {l = l} {url = url} {other = other} made first_met met = and_then _ (first_made made) (and_then _ (subst (λ p. Meets is_memory (push_row s target p) mid more j i (Ok url)) document_is first_met) (and_then _ (subst (λ p. Meets is_memory (push_row s target p) more new i l (Ok other)) signature_is met) done))

  pub first_stopped : (old new : Link) (k l : AuthState) (e : PushRefusal) → IfRefused e (λ digest error. (rest : List Push) → Stopped s target (first ++ rest) old new k l digest error × (is_memory error ≡ false)) → IfRefused e (λ digest error. Stopped s target (pushes v target) old new k l digest error × (is_memory error ≡ false))
  first_stopped old new k l (Refused digest error) h = let at = h (document ∷ signature ∷ []) in (stopped_in all_are at.0, at.1)
  first_stopped old new k l WantOfMemory h = tt

  pub document_stopped : {old mid new : Link} {k j l : AuthState} (e : PushRefusal) → Made s target first old mid k j → IsRefusalOf (push_digest document) e → Meets is_memory (push_row s target document) mid new j l (Err (error_of e)) → IfRefused e (λ digest error. Stopped s target (pushes v target) old new k l digest error × (is_memory error ≡ false))
  document_stopped e made is met = refused_in s target _ _ _ _ e all_are (stopped_by s target document e made is met (signature ∷ []))

  pub signature_stopped : {old mid more new : Link} {k j i l : AuthState} {url : List ℕ} (e : PushRefusal) → Made s target first old mid k j → Meets is_memory (push_row s target document) mid more j i (Ok url) → IsRefusalOf (push_digest signature) e → Meets is_memory (push_row s target signature) more new i l (Err (error_of e)) → IfRefused e (λ digest error. Stopped s target (pushes v target) old new k l digest error × (is_memory error ≡ false))
  signature_stopped e made first_met is met = refused_in s target _ _ _ _ e (append_assoc first (document ∷ []) (signature ∷ []) ∙ all_are) (stopped_by s target signature e (made_next s target document made first_met) is met [])

-- the same, after the credentials were stored
pub stored_met : (s : Context) (target : Reference) (a : RegistryAuth) (v : VerifiedImage) {link new : Link} {k j l : AuthState} {r : Result (List ℕ) OciDistributionError} → j ≡ with_stored target a k → Meets is_memory (image_copied s target v) link new j l r → Meets is_memory (mirrored_row s target a v) link new k l r
unfolding mirrored_row
stored_met s target a v {link} {new} {k} {j} {l} {r} is met = and_then _ (stores target a link k) (subst (λ (m : AuthState). Meets is_memory (image_copied s target v) link new m l r) is met)
