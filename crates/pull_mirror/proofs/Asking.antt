-- Questions about blobs one after another, and the one that ends them.
use Rattle.std.proofs.Common.{◌≡◌, ◌⊎◌, inl, inr, ◌<◌, ◌+◌, ◌≤◌, ℕ, Bool, true, false, List, [], ◌∷◌, ◌++◌, length, take, drop, get_or, Option, Some, None, Result, Ok, Err, IfErr, IfOk, OnOk, refl, sym, ap, subst, ◌∙◌, append_assoc, append-nil}
use Rattle.std.specs.Result.{IsErrAnd}
use Rattle.std.proofs.lemmas.Result.{err_from_is_err_and}
use Rattle.json_values.specs.Counts.{Increased}
use Rattle.oci_auth.specs.declared.auth.RegistryAuth.{RegistryAuth}
use Rattle.oci_auth.specs.declared.auth_state.AuthState.{AuthState}
use Rattle.oci_names.specs.declared.reference.Reference.{Reference}
use Rattle.oci_protocol.specs.Proto.{◌>>=◌}
use Rattle.oci_protocol.specs.Runs.{Meets, Performs}
use Rattle.oci_protocol.proofs.Laws.{Meets-refused, Meets-memory, Runs-count}
use Rattle.oci_transport.specs.Link.{Link}
use Rattle.engine_pull.specs.Listings.{blob_exists}
use Rattle.engine_rows.specs.Rows.{Row}
use Rattle.oci_protocol.proofs.Exits.{and_then, done}
use Rattle.engine_rows.proofs.Exits.{stores}
use Rattle.engine_terms.specs.Contexts.{Context}
use Rattle.engine_terms.specs.Error.{is_memory}
use Rattle.engine_terms.specs.declared.error.OciDistributionError.{OciDistributionError}
use Rattle.engine_terms.specs.declared.error.OciDistributionError.TheVariants as refusal
use Rattle.call_laws.proofs.ExistenceLaws.{exists_fault}
use Rattle.pull_mirror.specs.Asked.{AskedUpTo, IsAbout, StoppedAsking, WereThere, missing_of, there_of}
use Rattle.pull_mirror.specs.Copies.{with_stored}
use Rattle.pull_mirror.specs.DocumentCopies.{blobs_asked, first_missing, unless_absent}
use Rattle.pull_mirror.specs.declared.absences.DocumentsRefusal.{DocumentsRefusal}
use Rattle.pull_mirror.specs.declared.absences.DocumentsRefusal.TheVariants.{Missing, Refused, WantOfMemory}
use Rattle.pull_mirror.proofs.Copied.{still_more}
use Rattle.pull_mirror.proofs.Pushing.{around, next_item}

-- ---- results that are passed on

pub passed : {A : Type 0} (P : DocumentsRefusal → Type 0) (r : Result A DocumentsRefusal) (e : DocumentsRefusal) → IsErrAnd r (λ x. x ≡ e) → P e → IfErr r P
passed P r e is h = let at = err_from_is_err_and r is in rw (at.1, at.2) h

pub no_result : {A : Type 0} (P : A → Type 0) (r : Result A DocumentsRefusal) (e : DocumentsRefusal) → IsErrAnd r (λ x. x ≡ e) → IfOk r P
no_result P r e is = let at = err_from_is_err_and r is in rw at.1 tt

pub not_done : (P : Type 0) (r : Result (Unit {0}) DocumentsRefusal) (e : DocumentsRefusal) → IsErrAnd r (λ x. x ≡ e) → OnOk r P
not_done P r e is = let at = err_from_is_err_and r is in rw at.1 tt

there_err : (r : Result (Unit {0}) DocumentsRefusal) (e : DocumentsRefusal) → IsErrAnd r (λ x. x ≡ e) → there_of r ≡ there_of (Err e)
there_err r e is = let at = err_from_is_err_and r is in rw (at.1, at.2) refl

missing_err : (r : Result (Unit {0}) DocumentsRefusal) (e : DocumentsRefusal) → IsErrAnd r (λ x. x ≡ e) → missing_of r ≡ missing_of (Err e)
missing_err r e is = let at = err_from_is_err_and r is in rw (at.1, at.2) refl

-- memory ran out before the question
pub unasked : {p : Row Bool} {link : Link} {k : AuthState} (r : Result (Unit {0}) DocumentsRefusal) → IsErrAnd r (λ x. x ≡ WantOfMemory) → Meets is_memory p link link k k (there_of r)
unasked {p} {link} {k} r is = rw (there_err r WantOfMemory is) (Meets-memory is_memory p link k refusal.WantOfMemory refl)

pub missing_unasked : {p : Row (Option (List ℕ))} {link : Link} {k : AuthState} (r : Result (Unit {0}) DocumentsRefusal) → IsErrAnd r (λ x. x ≡ WantOfMemory) → Meets is_memory p link link k k (missing_of r)
missing_unasked {p} {link} {k} r is = rw (missing_err r WantOfMemory is) (Meets-memory is_memory p link k refusal.WantOfMemory refl)

pub missing_passed : {p : Row (Option (List ℕ))} {old new : Link} {k l : AuthState} (r : Result (Unit {0}) DocumentsRefusal) (e : DocumentsRefusal) → IsErrAnd r (λ x. x ≡ e) → Meets is_memory p old new k l (missing_of (Err e)) → Meets is_memory p old new k l (missing_of r)
missing_passed r e is met = rw (missing_err r e is) met

pub there_as : {p : Row Bool} {old new : Link} {k l : AuthState} (e : DocumentsRefusal) {r : Result Bool OciDistributionError} → there_of (Err e) ≡ r → Meets is_memory p old new k l r → Meets is_memory p old new k l (there_of (Err e))
there_as {p} {old} {new} {k} {l} e is met = subst (λ (x : Result Bool OciDistributionError). Meets is_memory p old new k l x) (sym is) met

-- ---- one question among others

module _ (s : Context) (target : Reference) where
  pub there_none : (link : Link) (k : AuthState) → WereThere s target [] link link k k
  there_none link k = record { met = λ rest new l r h. h }

  -- what is left after one more
  leads_on : {digests : List (List ℕ)} (d : List ℕ) {old mid new : Link} {k j l : AuthState} {r : Result (Option (List ℕ)) OciDistributionError} → WereThere s target digests old mid k j → (rest : List (List ℕ))
      → Meets is_memory (blob_exists s target d >>= unless_absent d (first_missing s target rest)) mid new j l r → Meets is_memory (first_missing s target (digests ++ d ∷ rest)) old new k l r
  unfolding first_missing
  leads_on d {new = new} {l = l} {r = r} there rest h = there.met (d ∷ rest) new l r h

  pub there_next : {digests : List (List ℕ)} (d : List ℕ) {old mid new : Link} {k j l : AuthState} → WereThere s target digests old mid k j → Meets is_memory (blob_exists s target d) mid new j l (Ok true) → WereThere s target (digests ++ d ∷ []) old new k l
  there_next {digests} d {old} {mid} {new} {k} {j} {l} there met = record {
    met = λ rest end m r h. subst (λ ds. Meets is_memory (first_missing s target ds) old end k m r) (sym (append_assoc digests (d ∷ []) rest))
        (leads_on d there rest (and_then (unless_absent d (first_missing s target rest)) met h));
  }

  pub there_all : {digests : List (List ℕ)} {old mid : Link} {k j : AuthState} → WereThere s target digests old mid k j → Meets is_memory (first_missing s target digests) old mid k j (Ok None)
  unfolding first_missing
  there_all {digests} {old} {mid} {k} {j} there = subst (λ ds. Meets is_memory (first_missing s target ds) old mid k j (Ok None)) (append-nil digests) (there.met [] mid j (Ok None) done)

  missing_at : {digests : List (List ℕ)} (d : List ℕ) {old mid new : Link} {k j l : AuthState} → WereThere s target digests old mid k j → Meets is_memory (blob_exists s target d) mid new j l (Ok false) → (left : List (List ℕ)) → Meets is_memory (first_missing s target (digests ++ d ∷ left)) old new k l (Ok (Some d))
  missing_at d there met left = leads_on d there left (and_then (unless_absent d (first_missing s target left)) met done)

  refused_at : {digests : List (List ℕ)} (d : List ℕ) {old mid new : Link} {k j l : AuthState} {e : OciDistributionError} → WereThere s target digests old mid k j → Meets is_memory (blob_exists s target d) mid new j l (Err e) → (left : List (List ℕ)) → Meets is_memory (first_missing s target (digests ++ d ∷ left)) old new k l (Err e)
  refused_at d there met left = leads_on d there left (Meets-refused (unless_absent d (first_missing s target left)) met)

  up_to : {digests : List (List ℕ)} (d : List ℕ) {old mid new : Link} {k j l : AuthState} (r : Result Bool OciDistributionError) → WereThere s target digests old mid k j → Performs (blob_exists s target d) mid new j l r → (left : List (List ℕ)) → AskedUpTo s target (digests ++ d ∷ left) old new k l d r
  up_to {digests} d {mid = mid} {j = j} r there last left = record {
    there = digests;
    left = left;
    split = refl;
    mid = mid;
    between = j;
    all_there = (there_all there).outcome;
    last = last;
  }

  -- ---- each of a list

  module _ (xs : List (List ℕ)) (i : ℕ) (x : List ℕ) (at : i < length xs) (is : x ≡ get_or xs i x) where
    whole : take i xs ++ x ∷ drop (i + 1) xs ≡ xs
    whole = sym (around xs i x at is)

    pub each_there : {old mid new : Link} {k j l : AuthState} → WereThere s target (take i xs) old mid k j → Meets is_memory (blob_exists s target x) mid new j l (Ok true) → WereThere s target (take (i + 1) xs) old new k l
    each_there {old} {mid} {new} {k} {j} {l} there met = subst (λ ds. WereThere s target ds old new k l) (sym (next_item xs i x at is)) (there_next x there met)

    pub each_ended : {old mid new : Link} {k j l : AuthState} (e : DocumentsRefusal) → WereThere s target (take i xs) old mid k j → IsAbout x e → Meets is_memory (blob_exists s target x) mid new j l (there_of (Err e)) → Meets is_memory (first_missing s target xs) old new k l (missing_of (Err e))
    each_ended {old} {mid} {new} {k} {j} {l} (Missing digest) there about met =
        subst (λ (d : List ℕ). Meets is_memory (first_missing s target xs) old new k l (Ok (Some d))) (sym about)
        (subst (λ ds. Meets is_memory (first_missing s target ds) old new k l (Ok (Some x))) whole (missing_at x there met (drop (i + 1) xs)))
    each_ended {old} {mid} {new} {k} {j} {l} (Refused digest error) there about met = subst (λ ds. Meets is_memory (first_missing s target ds) old new k l (Err error)) whole (refused_at x there met (drop (i + 1) xs))
    each_ended {old} {mid} {new} {k} {j} {l} WantOfMemory there about met = subst (λ ds. Meets is_memory (first_missing s target ds) old new k l (Err refusal.WantOfMemory)) whole (refused_at x there met (drop (i + 1) xs))

    pub each_stopped : {old mid new : Link} {k j l : AuthState} (e : DocumentsRefusal) → WereThere s target (take i xs) old mid k j → IsAbout x e → Meets is_memory (blob_exists s target x) mid new j l (there_of (Err e)) → StoppedAsking s target xs old new k l e
    each_stopped {old} {mid} {new} {k} {j} {l} (Missing digest) there about met =
        subst (λ (d : List ℕ). AskedUpTo s target xs old new k l d (Ok false)) (sym about)
        (subst (λ ds. AskedUpTo s target ds old new k l x (Ok false)) whole (up_to x (Ok false) there met.outcome (drop (i + 1) xs)))
    each_stopped {old} {mid} {new} {k} {j} {l} (Refused digest error) there about met = (
      subst (λ (d : List ℕ). AskedUpTo s target xs old new k l d (Err error)) (sym about.0)
          (subst (λ ds. AskedUpTo s target ds old new k l x (Err error)) whole (up_to x (Err error) there (rw about.1 at met.outcome) (drop (i + 1) xs))),
      about.1,
    )
    each_stopped WantOfMemory there about met = tt

-- ---- after the credentials were stored

module _ (s : Context) (target : Reference) (a : RegistryAuth) (digests : List (List ℕ)) where
  pub stored_asked : {link new : Link} {k j l : AuthState} {r : Result (Option (List ℕ)) OciDistributionError} → j ≡ with_stored target a k → Meets is_memory (first_missing s target digests) link new j l r → Meets is_memory (blobs_asked s target a digests) link new k l r
  unfolding blobs_asked
  stored_asked {link} {new} {k} {j} {l} {r} is met = and_then _ (stores target a link k) (subst (λ (m : AuthState). Meets is_memory (first_missing s target digests) link new m l r) is met)

pub all_were : (s : Context) (target : Reference) (digests : List (List ℕ)) {old new : Link} {k l : AuthState} (r : Result (Unit {0}) DocumentsRefusal) → Meets is_memory (first_missing s target digests) old new k l (missing_of r) → OnOk r (Performs (first_missing s target digests) old new k l (Ok None))
all_were s target digests (Ok u) met = met.outcome
all_were s target digests (Err e) met = tt

-- ---- faults

pub asked_fault : {s : Context} {target : Reference} {digests : List (List ℕ)} {old new : Link} {k l : AuthState} {digest : List ℕ} (e : OciDistributionError) → AskedUpTo s target digests old new k l digest (Err e) → e ≡ refusal.TransportFault → Increased old.faults new.faults
asked_fault {s} {target} {old = old} {new = new} {k = k} {l = l} {digest = digest} e h is =
    let plain : is_memory e ≡ false = ap is_memory is in
    let met : Meets is_memory (blob_exists s target digest) h.mid new h.between l (Err e) = record { outcome = rw plain h.last } in
    let before : old.faults ≤ h.mid.faults = Runs-count (first_missing s target h.there) k h.between old.faults h.mid.faults h.all_there.conversation (Ok None) h.all_there.runs in
    still_more old.faults h.mid.faults new.faults before (exists_fault s target digest met (ap Err is))
