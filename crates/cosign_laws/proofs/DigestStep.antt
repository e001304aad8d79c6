-- What the policy, the reference and the digest step decide of a pull.
use Rattle.std.proofs.Common.{◌≡◌, ℕ, Bool, true, false, List, [], ◌++◌, Result, Ok, Err, refl, sym, ap, ◌∙◌, append_assoc, append-nil}
use Rattle.oci_names.specs.declared.reference.Reference.{Reference}
use Rattle.oci_names.specs.Reference.{whole_text, reads_back}
use Rattle.oci_auth.specs.declared.auth.RegistryAuth.{RegistryAuth}
use Rattle.oci_transport.specs.Link.{Link}
use Rattle.oci_transport.specs.declared.message.Exchange.{Exchange}
use Rattle.oci_protocol.specs.Proto.{Proto, Done, bind, unless_refused, ◌>>=◌}
use Rattle.oci_protocol.specs.Ends.{Ends, UnlessMemory}
use Rattle.oci_protocol.specs.Runs.{Runs, Meets, Told}
use Rattle.oci_protocol.specs.EveryRun.{EveryRunKept}
use Rattle.oci_protocol.proofs.Ends.{Meets-ends}
use Rattle.oci_protocol.proofs.KeptFacts.{EveryRunKept-run, EveryRunKept-bind, EveryRunKept-step, Meets-shows-kept}
use Rattle.engine_terms.specs.Contexts.{Context}
use Rattle.registry_calls.specs.declared.error.SigstoreError.{SigstoreError}
use Rattle.registry_calls.specs.declared.error.SigstoreError.TheVariants as sigstore
use Rattle.registry_calls.specs.Error.{is_memory as of_memory}
use Rattle.registry_calls.specs.Clients.{Kept}
use Rattle.registry_calls.specs.Calls.{digest_call}
use Rattle.cosign_layers.specs.Satisfying.{PolicyContext}
use Rattle.cosign_parts.specs.Trust.{Trust}
use Rattle.cosign_chain.specs.declared.image.VerifiedImage.{VerifiedImage}
use Rattle.cosign_rows.specs.DigestStep.{IsRefusedAs, unchanged, Decides, BeginsWithDigest}
use Rattle.cosign_rows.specs.Snapshots.{Snapshot, snapshot, RanBetween}
use Rattle.cosign_rows.specs.References.{digest_reference, or_not_valid, reading_back}
use Rattle.cosign_rows.specs.Refusal.{is_memory, refused_as}
use Rattle.cosign_rows.specs.Search.{searched}
use Rattle.cosign_rows.specs.Tails.{after_search}
use Rattle.cosign_rows.specs.Verified.{constrained, is_unconstrained, readable, readable_by, as_whole, part_of, verified}
use Rattle.cosign_rows.specs.declared.found.TrustedLayers.{TrustedLayers}
use Rattle.cosign_rows.specs.declared.refusal.PullRefusal.{PullRefusal}
use Rattle.cosign_rows.specs.declared.refusal.PullRefusal.TheVariants as refusal
use Rattle.cosign_laws.proofs.Causes.{Between, at_same, at_once, rest_of}

-- ---- the search

-- anything may follow a result that decides nothing
free : {A E : Type 0} (refused : SigstoreError → E) (s : Context) (image : Reference) (a : RegistryAuth) (start between end : Snapshot) (c d : List Exchange) (digest : List ℕ) (r : Result A E) → RanBetween (digest_call s image a) start c between (Ok digest) → reads_back (digest_reference image digest) ≡ true → BeginsWithDigest refused s image a start (c ++ d) end r
free refused s image a start between end c d digest r ran reads = record { step = c; rest = d; split = refl; between = between; answer = Ok digest; ran = ran; decides = λ unread. absurd (cc (sym reads ∙ unread)) }

-- nothing followed a result that decides everything
decided_at : {A E : Type 0} (refused : SigstoreError → E) (s : Context) (image : Reference) (a : RegistryAuth) (start end : Snapshot) (c : List Exchange) (o : Result (List ℕ) SigstoreError) (r : Result A E) → RanBetween (digest_call s image a) start c end o → Decides refused image o end [] end r → BeginsWithDigest refused s image a start c end r
decided_at refused s image a start end c o r ran decides = record { step = c; rest = []; split = sym (append-nil c); between = end; answer = o; ran = ran; decides = decides }

-- a reference that round-trips
reads : (image : Reference) (u : Unit {0}) → reading_back image ≡ Ok u → reads_back image ≡ true
reads image u is = by_test (reads_back image) is where
  by_test : (b : Bool) → or_not_valid image b ≡ Ok u → b ≡ true
  by_test true h = refl
  by_test false h = absurd (cc h)

-- a reference that does not
unread : (image : Reference) (e : SigstoreError) → reading_back image ≡ Err e → e ≡ sigstore.OciReferenceNotValidError (whole_text image)
unread image e is = by_test (reads_back image) is where
  by_test : (b : Bool) → or_not_valid image b ≡ Err e → e ≡ sigstore.OciReferenceNotValidError (whole_text image)
  by_test true h = absurd (cc h)
  by_test false h = cc h

abbrev Begins : {A : Type 0} → Context → Reference → RegistryAuth → Snapshot → List Exchange → Snapshot → Result A SigstoreError → Type 0
Begins s image a start c end r = BeginsWithDigest unchanged s image a start c end r

digest_then : (trust : Trust) (s : Context) (image : Reference) (a : RegistryAuth) (k j : Kept) (m n : ℕ) (c : List Exchange) (r : Result (List ℕ) SigstoreError) → Runs (digest_call s image a) k m c n j r
    → EveryRunKept (λ j' n' d o l b. (j' ≡ j) → (n' ≡ n) → Between (Begins s image a) k m (c ++ d) o l b) (unless_refused (λ digest. Done (reading_back (digest_reference image digest)) >>= (λ u. rest_of trust s image a digest)) r)
digest_then trust s image a k j m n c (Err e) run = at_once (Begins s image a) k j m n c (Err e) (decided_at unchanged s image a (snapshot k m) (snapshot j n) c (Err e) (Err e) run (refl, (refl, refl)))
digest_then trust s image a k j m n c (Ok digest) run = EveryRunKept-step (λ j' n' d o l b. (j' ≡ j) → (n' ≡ n) → Between (Begins s image a) k m (c ++ d) o l b) (reading_back (digest_reference image digest)) (λ u. rest_of trust s image a digest)
    (λ u is. record { shows = λ j' l n' o d b rest kept count. free unchanged s image a (snapshot k m) (snapshot j n) (snapshot l o) c d digest b run (reads (digest_reference image digest) u is) })
    (λ e is. at_same (Begins s image a) k j m n c (Err e) (decided_at unchanged s image a (snapshot k m) (snapshot j n) c (Ok digest) (Err e) run
    (λ not_read. (ap (λ x. let r : Result TrustedLayers SigstoreError = Err x in r) (unread (digest_reference image digest) e is), (refl, refl)))))

search_begins : (trust : Trust) (s : Context) (image : Reference) (a : RegistryAuth) → EveryRunKept (Between (Begins s image a)) (searched trust s image a)
unfolding searched
search_begins trust s image a = EveryRunKept-bind (λ k m c n l r. Runs (digest_call s image a) k m c n l r) (Between (Begins s image a)) (digest_call s image a) _ (EveryRunKept-run (digest_call s image a)) (λ k j m n c r h. digest_then trust s image a k j m n c r h)

pub search_decided : (trust : Trust) (s : Context) (image : Reference) (a : RegistryAuth) {old new : Link} {k l : Kept} (r : Result TrustedLayers SigstoreError) → Meets of_memory (searched trust s image a) old new k l r
    → UnlessMemory of_memory (λ r. Told (λ c. BeginsWithDigest unchanged s image a (snapshot k old.faults) c (snapshot l new.faults) r) old new) r
search_decided trust s image a r met = Meets-shows-kept (Between (Begins s image a)) (search_begins trust s image a) met

-- ---- the pull

-- what the digest step decides of the search, it decides of the pull
lifted_refusal : {s : Context} {image : Reference} {a : RegistryAuth} {start end : Snapshot} {c : List Exchange} {e : SigstoreError} → BeginsWithDigest {A = TrustedLayers} unchanged s image a start c end (Err e) → BeginsWithDigest {A = VerifiedImage} refused_as s image a start c end (Err (refused_as e))
lifted_refusal {s} {image} {a} {start} {end} {c} {e} h = record { step = h.step; rest = h.rest; split = h.split; between = h.between; answer = h.answer; ran = h.ran; decides = decided h.answer h.decides } where
  same : (x : SigstoreError) → (let r : Result TrustedLayers SigstoreError = Err e in r) ≡ Err x → (let r : Result VerifiedImage PullRefusal = Err (refused_as e) in r) ≡ Err (refused_as x)
  same x is = let eq : e ≡ x = cc is in ap (λ y. let r : Result VerifiedImage PullRefusal = Err (refused_as y) in r) eq

  decided : (o : Result (List ℕ) SigstoreError) → Decides {A = TrustedLayers} unchanged image o h.between h.rest end (Err e) → Decides {A = VerifiedImage} refused_as image o h.between h.rest end (Err (refused_as e))
  decided (Err x) is = (same x is.0, is.1)
  decided (Ok digest) is = λ not_read. (same _ (is not_read).0, (is not_read).1)

lifted_answer : {s : Context} {image : Reference} {a : RegistryAuth} {start between : Snapshot} {c : List Exchange} (d : List Exchange) (end : Snapshot) {found : TrustedLayers} {r : Result VerifiedImage PullRefusal} → BeginsWithDigest unchanged s image a start c between (Ok found) → BeginsWithDigest refused_as s image a start (c ++ d) end r
lifted_answer {s} {image} {a} {start} {between} {c} d end {found} {r} h = record { step = h.step; rest = h.rest ++ d; split = ap (λ x. x ++ d) h.split ∙ append_assoc h.step h.rest d; between = h.between; answer = h.answer; ran = h.ran; decides = decided h.answer h.decides } where
  decided : (o : Result (List ℕ) SigstoreError) → Decides unchanged image o h.between h.rest between (Ok found) → Decides refused_as image o h.between (h.rest ++ d) end r
  decided (Err x) is = absurd (cc is.0)
  decided (Ok digest) is = λ not_read. absurd (cc (is not_read).0)

-- a step without a request ends with its result
ends_step : {A B E : Type 0} (Q : Result B E → Type 0) (r : Result A E) (f : A → Proto Kept (Result B E)) → ((a : A) → r ≡ Ok a → Ends Q (f a)) → ((e : E) → r ≡ Err e → Q (Err e)) → Ends Q (Done r >>= f)
unfolding Ends bind
ends_step Q (Ok a) f each wrong = each a refl
ends_step Q (Err e) f each wrong = wrong e refl

constrained_not : {P : Type 0} (b : Bool) (e : PullRefusal) → b ≡ false → constrained b ≡ Err e → P
constrained_not false e is wrong = absurd (cc wrong)
constrained_not true e is wrong = absurd (cc is)

readable_not : {P : Type 0} (image : Reference) (b : Bool) (u : Unit {0}) → b ≡ false → readable_by image b ≡ Ok u → P
readable_not image true u is wrong = absurd (cc is)
readable_not image false u is wrong = absurd (cc wrong)

unreadable_not : {P : Type 0} (image : Reference) (b : Bool) (e : PullRefusal) → b ≡ true → readable_by image b ≡ Err e → P
unreadable_not image false e is wrong = absurd (cc is)
unreadable_not image true e is wrong = absurd (cc wrong)

unread_so : (image : Reference) (b : Bool) (e : PullRefusal) → readable_by image b ≡ Err e → (let r : Result VerifiedImage PullRefusal = Err e in r) ≡ Err (refusal.OciReferenceNotValidError (whole_text image))
unread_so image true e wrong = absurd (cc wrong)
unread_so image false e wrong = let same : refusal.OciReferenceNotValidError (whole_text image) ≡ e = cc wrong in ap (λ x. let r : Result VerifiedImage PullRefusal = Err x in r) (sym same)

module _ {V : Type 0} {H : V → Type 0} (policy_context : PolicyContext V H) (s : Context) (image : Reference) (a : RegistryAuth) (accepted : List (List ℕ)) where
  unread_ends : is_unconstrained policy_context.policy ≡ false → reads_back image ≡ false → Ends (λ r. r ≡ Err (refusal.OciReferenceNotValidError (whole_text image))) (verified policy_context s image a accepted)
  unfolding verified
  unread_ends some unread =
      ends_step (λ r. r ≡ Err (refusal.OciReferenceNotValidError (whole_text image))) (constrained (is_unconstrained policy_context.policy)) _
      (λ u is. ends_step (λ r. r ≡ Err (refusal.OciReferenceNotValidError (whole_text image))) (readable image) _ (λ v is. readable_not image (reads_back image) v unread is) (λ e is. unread_so image (reads_back image) e is))
      (λ e is. constrained_not (is_unconstrained policy_context.policy) e some is)

  -- an image whose reference does not round-trip is refused with its text
  pub unread_refused : {old new : Link} {k l : Kept} {r : Result VerifiedImage PullRefusal} → is_unconstrained policy_context.policy ≡ false → reads_back image ≡ false
      → Meets is_memory (verified policy_context s image a accepted) old new k l r → IsRefusedAs (refusal.OciReferenceNotValidError (whole_text image)) r
  unread_refused some unread met = Meets-ends (λ r. r ≡ Err (refusal.OciReferenceNotValidError (whole_text image))) (unread_ends some unread) met

  -- how the search as a part of the whole pull begins
  abbrev PartBegins : Snapshot → List Exchange → Snapshot → Result TrustedLayers PullRefusal → Type 0
  PartBegins start c end (Ok found) = BeginsWithDigest unchanged s image a start c end (let r : Result TrustedLayers SigstoreError = Ok found in r)
  PartBegins start c end (Err e) = BeginsWithDigest refused_as s image a start c end (let r : Result VerifiedImage PullRefusal = Err e in r)

  abbrev PullBegins : Snapshot → List Exchange → Snapshot → Result VerifiedImage PullRefusal → Type 0
  PullBegins start c end r = BeginsWithDigest refused_as s image a start c end r

  part_begins : (start : Snapshot) (c : List Exchange) (end : Snapshot) (r : Result TrustedLayers SigstoreError) → BeginsWithDigest unchanged s image a start c end r → PartBegins start c end (as_whole r)
  part_begins start c end (Ok found) h = h
  part_begins start c end (Err e) h = lifted_refusal h

  search_part_begins : EveryRunKept (Between PartBegins) (part_of (searched policy_context.trust s image a))
  unfolding part_of
  search_part_begins = EveryRunKept-bind (Between (Begins s image a)) (Between PartBegins) (searched policy_context.trust s image a) (λ r. Done (as_whole r)) (search_begins policy_context.trust s image a)
      (λ k j m n c r h. at_once PartBegins k j m n c (as_whole r) (part_begins (snapshot k m) c (snapshot j n) r h))

  search_then : (k j : Kept) (m n : ℕ) (c : List Exchange) (r : Result TrustedLayers PullRefusal) → PartBegins (snapshot k m) c (snapshot j n) r → EveryRunKept (λ j' n' d o l b. (j' ≡ j) → (n' ≡ n) → Between PullBegins k m (c ++ d) o l b) (unless_refused (after_search policy_context s image a accepted) r)
  search_then k j m n c (Ok found) h = record { shows = λ j' l n' o d b run kept count. lifted_answer d (snapshot l o) h }
  search_then k j m n c (Err e) h = at_once PullBegins k j m n c (Err e) h

  pull_begins : is_unconstrained policy_context.policy ≡ false → reads_back image ≡ true → EveryRunKept (Between PullBegins) (verified policy_context s image a accepted)
  unfolding verified after_search
  pull_begins some back = EveryRunKept-step (Between PullBegins) (constrained (is_unconstrained policy_context.policy)) _
      (λ u is. EveryRunKept-step (Between PullBegins) (readable image) _
      (λ v is. EveryRunKept-bind (Between PartBegins) (Between PullBegins) (part_of (searched policy_context.trust s image a)) _ search_part_begins (λ k j m n c r h. search_then k j m n c r h))
      (λ e is k m. unreadable_not image (reads_back image) e back is))
      (λ e is k m. constrained_not (is_unconstrained policy_context.policy) e some is)

  pub pull_decided : {old new : Link} {k l : Kept} (r : Result VerifiedImage PullRefusal) → is_unconstrained policy_context.policy ≡ false → reads_back image ≡ true
      → Meets is_memory (verified policy_context s image a accepted) old new k l r → UnlessMemory is_memory (λ r. Told (λ c. BeginsWithDigest refused_as s image a (snapshot k old.faults) c (snapshot l new.faults) r) old new) r
  pull_decided r some back met = Meets-shows-kept (Between PullBegins) (pull_begins some back) met
