-- What the policy, the reference and the digest step decide of a pull of documents.
use Rattle.std.proofs.Common.{◌≡◌, inl, inr, ℕ, Bool, true, false, List, [], ◌++◌, Result, Ok, Err, refl, sym, ap, subst, ◌∙◌, append_assoc}
use Rattle.std.specs.Prelude.{MatchBool}
use Rattle.oci_names.specs.declared.reference.Reference.{Reference}
use Rattle.oci_names.specs.Reference.{whole_text, reads_back}
use Rattle.oci_auth.specs.declared.auth.RegistryAuth.{RegistryAuth}
use Rattle.oci_transport.specs.Link.{Link}
use Rattle.oci_transport.specs.declared.message.Exchange.{Exchange}
use Rattle.oci_protocol.specs.Proto.{Done, ◌>>=◌}
use Rattle.oci_protocol.specs.Ends.{UnlessMemory}
use Rattle.oci_protocol.specs.Runs.{Runs, Meets, Told}
use Rattle.oci_protocol.proofs.Parts.{Runs-ok-parts}
use Rattle.engine_terms.specs.Contexts.{Context}
use Rattle.registry_calls.specs.declared.error.SigstoreError.{SigstoreError}
use Rattle.registry_calls.specs.declared.error.SigstoreError.TheVariants as sigstore
use Rattle.registry_calls.specs.Clients.{Kept, Row}
use Rattle.registry_calls.specs.Calls.{digest_call}
use Rattle.cosign_layers.specs.Satisfying.{PolicyContext}
use Rattle.cosign_chain.specs.declared.image.VerifiedImage.{VerifiedImage}
use Rattle.cosign_chain.specs.declared.verified_documents.VerifiedDocuments.{VerifiedDocuments}
use Rattle.cosign_rows.specs.DigestStep.{IsRefusedAs, Decides, BeginsWithDigest}
use Rattle.cosign_rows.specs.Snapshots.{Snapshot, snapshot}
use Rattle.cosign_rows.specs.References.{digest_reference, or_not_valid, reading_back}
use Rattle.cosign_rows.specs.Refusal.{is_memory, refused_as}
use Rattle.cosign_rows.specs.Search.{searched}
use Rattle.cosign_rows.specs.Verified.{constrained, is_unconstrained, readable, readable_by, part_of}
use Rattle.cosign_rows.specs.declared.found.TrustedLayers.{TrustedLayers}
use Rattle.cosign_rows.specs.declared.refusal.PullRefusal.{PullRefusal}
use Rattle.cosign_rows.specs.declared.refusal.PullRefusal.TheVariants as refusal
use Rattle.cosign_laws.proofs.DigestStep.{pull_decided, unread_refused}
use Rattle.cosign_rows.specs.Rows.{documents_after, collected, documents_row}
use Rattle.cosign_laws.proofs.DocumentCauses.{StepRun, step_run, collected_found}
use Rattle.cosign_laws.proofs.Pulls.{pull_of}

-- a reference that round-trips
reads : (image : Reference) (u : Unit {0}) → reading_back image ≡ Ok u → reads_back image ≡ true
reads image u is = by_test (reads_back image) is where
  by_test : (b : Bool) → or_not_valid image b ≡ Ok u → b ≡ true
  by_test true h = refl
  by_test false h = absurd (cc h)

-- an error of the pull of the image, as one of the pull of documents
refused_begins : {s : Context} {image : Reference} {a : RegistryAuth} {start end : Snapshot} {c : List Exchange} {e : PullRefusal} → BeginsWithDigest {A = VerifiedImage} refused_as s image a start c end (Err e) → BeginsWithDigest {A = VerifiedDocuments} refused_as s image a start c end (Err e)
refused_begins {s} {image} {a} {start} {end} {c} {e} h = record { step = h.step; rest = h.rest; split = h.split; between = h.between; answer = h.answer; ran = h.ran; decides = decided h.answer h.decides } where
  same : (x : SigstoreError) → (let r : Result VerifiedImage PullRefusal = Err e in r) ≡ Err (refused_as x) → (let r : Result VerifiedDocuments PullRefusal = Err e in r) ≡ Err (refused_as x)
  same x is = let eq : e ≡ refused_as x = cc is in ap (λ y. let r : Result VerifiedDocuments PullRefusal = Err y in r) eq

  decided : (o : Result (List ℕ) SigstoreError) → Decides {A = VerifiedImage} refused_as image o h.between h.rest end (Err e) → Decides {A = VerifiedDocuments} refused_as image o h.between h.rest end (Err e)
  decided (Err x) is = (same x is.0, is.1)
  decided (Ok digest) is = λ not_read. (same (sigstore.OciReferenceNotValidError (whole_text (digest_reference image digest))) (is not_read).0, (is not_read).1)

module _ {V : Type 0} {H : V → Type 0} (policy_context : PolicyContext V H) (s : Context) (image : Reference) (a : RegistryAuth) where
  -- ---- the reference

  unread_not : (k l : Kept) (m n : ℕ) (c : List Exchange) (found : TrustedLayers) → reads_back image ≡ false → Runs (collected policy_context s image a) k m c n l (Ok found) → ⊥
  unfolding collected
  unread_not k l m n c found unread run = after_policy (step_run (constrained (is_unconstrained policy_context.policy)) (λ u. Done (readable image) >>= (λ u. part_of (searched policy_context.trust s image a))) k l m n c (Ok found) run) where
    not_readable : (b : Bool) (u : Unit {0}) → b ≡ false → readable_by image b ≡ Ok u → ⊥
    not_readable true u is wrong = absurd (cc is)
    not_readable false u is wrong = cc wrong

    after_reading : StepRun (readable image) (λ u. part_of (searched policy_context.trust s image a)) k m c n l (Ok found) → ⊥
    after_reading (inl h) = not_readable (reads_back image) h.0 unread h.1
    after_reading (inr h) = cc h.2

    after_policy : StepRun (constrained (is_unconstrained policy_context.policy)) (λ u. Done (readable image) >>= (λ u. part_of (searched policy_context.trust s image a))) k m c n l (Ok found) → ⊥
    after_policy (inl h) = after_reading (step_run (readable image) (λ u. part_of (searched policy_context.trust s image a)) k l m n c (Ok found) h.2)
    after_policy (inr h) = cc h.2

  -- documents of an image whose reference does not round-trip are refused with its text
  pub documents_unread : {old new : Link} {k l : Kept} (r : Result VerifiedDocuments PullRefusal) → is_unconstrained policy_context.policy ≡ false → reads_back image ≡ false
      → Meets is_memory (documents_row policy_context s image a) old new k l r → IsRefusedAs (refusal.OciReferenceNotValidError (whole_text image)) r
  unfolding documents_row
  documents_unread {old} {new} {k} {l} (Ok d) some unread met =
      let run = met.outcome in
      let parts = Runs-ok-parts (collected policy_context s image a) (λ found. documents_after policy_context s image a found) k old.faults run.conversation new.faults l d run.runs in
      absurd (unread_not k parts.between old.faults parts.count parts.first parts.answer unread parts.runs_first)
  documents_unread (Err e) some unread met = by_memory (is_memory e) (unread_refused policy_context s image a [] some unread (pull_of policy_context s image a [] (Err e) met)) where
    by_memory : (b : Bool) → MatchBool b (Unit {0}) ((let r : Result VerifiedImage PullRefusal = Err e in r) ≡ Err (refusal.OciReferenceNotValidError (whole_text image))) → MatchBool b (Unit {0}) ((let r : Result VerifiedDocuments PullRefusal = Err e in r) ≡ Err (refusal.OciReferenceNotValidError (whole_text image)))
    by_memory true h = tt
    by_memory false h = let same : e ≡ refusal.OciReferenceNotValidError (whole_text image) = cc h in ap (λ y. let r : Result VerifiedDocuments PullRefusal = Err y in r) same

  -- ---- the digest step

  -- a search that found something began with the digest step
  search_begins : (k l : Kept) (m n : ℕ) (c d : List Exchange) (end : Snapshot) (found : TrustedLayers) (v : VerifiedDocuments) → Runs (searched policy_context.trust s image a) k m c n l (Ok found) → BeginsWithDigest {A = VerifiedDocuments} refused_as s image a (snapshot k m) (c ++ d) end (Ok v)
  unfolding searched
  search_begins k l m n c d end found v run =
      let parts = Runs-ok-parts (digest_call s image a) _ k m c n l found run in
      record {
        step = parts.first;
        rest = parts.second ++ d;
        split = ap (λ x. x ++ d) parts.joined ∙ append_assoc parts.first parts.second d;
        between = snapshot parts.between parts.count;
        answer = Ok parts.answer;
        ran = parts.runs_first;
        decides = λ unread. absurd (round_trips parts.answer _ parts.between parts.count parts.second (step_run (reading_back (digest_reference image parts.answer)) _ parts.between l parts.count n parts.second (Ok found) parts.runs_second) unread);
      }
    where
      round_trips : (digest : List ℕ) (f : Unit {0} → Row TrustedLayers) (j : Kept) (o : ℕ) (e : List Exchange) → StepRun (reading_back (digest_reference image digest)) f j o e n l (Ok found) → reads_back (digest_reference image digest) ≡ false → ⊥
      round_trips digest f j o e (inl h) unread = cc (sym (reads (digest_reference image digest) h.0 h.1) ∙ unread)
      round_trips digest f j o e (inr h) unread = cc h.2

  run_begins : (k l : Kept) (m n : ℕ) (c : List Exchange) (d : VerifiedDocuments) → Runs (documents_row policy_context s image a) k m c n l (Ok d) → BeginsWithDigest {A = VerifiedDocuments} refused_as s image a (snapshot k m) c (snapshot l n) (Ok d)
  unfolding documents_row
  run_begins k l m n c d run =
      let parts = Runs-ok-parts (collected policy_context s image a) (λ found. documents_after policy_context s image a found) k m c n l d run in
      subst (λ (x : List Exchange). BeginsWithDigest {A = VerifiedDocuments} refused_as s image a (snapshot k m) x (snapshot l n) (Ok d)) (sym parts.joined) (search_begins k parts.between m parts.count parts.first parts.second (snapshot l n) parts.answer d (collected_found policy_context s image a k parts.between m parts.count parts.first parts.answer parts.runs_first))

  pub documents_decided : {old new : Link} {k l : Kept} (r : Result VerifiedDocuments PullRefusal) → is_unconstrained policy_context.policy ≡ false → reads_back image ≡ true
      → Meets is_memory (documents_row policy_context s image a) old new k l r → UnlessMemory is_memory (λ r. Told (λ c. BeginsWithDigest refused_as s image a (snapshot k old.faults) c (snapshot l new.faults) r) old new) r
  documents_decided {old} {new} {k} {l} (Ok d) some back met = let run = met.outcome in record { conversation = run.conversation; told = run.told; holds = run_begins k l old.faults new.faults run.conversation d run.runs }
  documents_decided {old} {new} {k} {l} (Err e) some back met = by_memory (is_memory e) (pull_decided policy_context s image a [] (Err e) some back (pull_of policy_context s image a [] (Err e) met)) where
    by_memory : (b : Bool) → MatchBool b (Unit {0}) (Told (λ c. BeginsWithDigest {A = VerifiedImage} refused_as s image a (snapshot k old.faults) c (snapshot l new.faults) (Err e)) old new) → MatchBool b (Unit {0}) (Told (λ c. BeginsWithDigest {A = VerifiedDocuments} refused_as s image a (snapshot k old.faults) c (snapshot l new.faults) (Err e)) old new)
    by_memory true h = tt
    by_memory false h = record { conversation = h.conversation; told = h.told; holds = refused_begins h.holds }
