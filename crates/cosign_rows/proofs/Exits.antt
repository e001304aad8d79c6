-- The exits of a call whose row is made of other calls.
use Rattle.std.proofs.Common.{◌≡◌, Bool, true, false, ℕ, List, Some, None, Result, Ok, Err, refl, sym, ap, subst, ◌∙◌}
use Rattle.std.specs.Prelude.{MatchBool}
use Rattle.std.specs.Result.{IsErrAnd}
use Rattle.std.proofs.lemmas.Result.{err_from_is_err_and}
use Rattle.oci_transport.specs.Link.{Link}
use Rattle.oci_protocol.specs.Proto.{Proto, Done, bind, unless_refused, ◌>>=◌}
use Rattle.oci_protocol.specs.Runs.{Meets, PerformsPrefix, Performs}
use Rattle.oci_protocol.proofs.Laws.{Meets-next, Meets-refused, Meets-ok, Meets-err, Meets-memory, Meets-caught, PerformsPrefix-first, PerformsPrefix-start, Performs-done}
use Rattle.engine_terms.specs.Contexts.{Context}
use Rattle.engine_terms.specs.declared.settings.Settings.{Settings}
use Rattle.oci_auth.specs.declared.auth.RegistryAuth.{RegistryAuth}
use Rattle.registry_calls.specs.Calls.{digest_call}
use Rattle.registry_calls.specs.declared.error.SigstoreError.{SigstoreError}
use Rattle.registry_calls.specs.declared.error.SigstoreError.TheVariants as sigstore
use Rattle.engine_terms.specs.declared.error.OciDistributionError.{OciDistributionError}
use Rattle.json_values.specs.Refusals.{Matches}
use Rattle.engine_terms.specs.Error.{is_memory as engine_is_memory}
use Rattle.registry_calls.specs.declared.error_context.Called.{Called}
use Rattle.cosign_rows.specs.declared.refusal.PullRefusal.{PullRefusal}
use Rattle.cosign_rows.specs.Refusal.{is_memory as of_refusal, refused_as}
use Rattle.cosign_chain.specs.declared.image.VerifiedImage.{VerifiedImage}
use Rattle.cosign_rows.specs.Image.{with_image}
use Rattle.cosign_rows.specs.References.{signature_tag, tag_reference}
use Rattle.cosign_rows.specs.Triangulated.{tag_shown, triangulated}
use Rattle.cosign_rows.specs.Verified.{as_whole, constrained, part_of, readable_by, signed_image, verified_image}
use Rattle.cosign_rows.specs.declared.pulled.Pulled.{Pulled}
use Rattle.cosign_rows.specs.declared.signed_digest.SignedDigest.{SignedDigest}
use Rattle.cosign_rows.specs.declared.refusal.PullRefusal.TheVariants as refusal
use Rattle.oci_names.specs.declared.reference.Reference.{Reference}
use Rattle.oci_names.specs.Reference.{registry_of, repository_of, mirror_of, tag_of, digest_of}
use Rattle.registry_calls.specs.declared.reference.OciReference.{OciReference}
use Rattle.registry_calls.specs.Error.{is_memory}
use Rattle.registry_calls.specs.ErrorContext.{with_error_context}
use Rattle.registry_calls.specs.Clients.{Kept, Client, ClientMeets}

-- a step that succeeded, followed by the row that its result leads to
pub and_then : {A B E : Type 0} {om : E → Bool} {s : Settings} {p : Proto Kept (Result A E)} (f : A → Proto Kept (Result B E)) {c d e : Client} {old mid new : Link} {a : A} {r : Result B E}
    → ClientMeets om s p c d old mid (Ok a) → ClientMeets om s (f a) d e mid new r → ClientMeets om s (p >>= f) c e old new r
and_then f first second = record { made = λ at. let one = first.made at in let two = second.made one.0 in (two.0, Meets-next f one.1 two.1) }

-- a step that was refused, at the exit of a `?`
pub refused : {A B E : Type 0} {om : E → Bool} {s : Settings} {p : Proto Kept (Result A E)} (f : A → Proto Kept (Result B E)) {c d : Client} {old new : Link} {x : E} {r : Result B E}
    → ClientMeets om s p c d old new (Err x) → IsErrAnd r (λ y. y ≡ x) → ClientMeets om s (p >>= f) c d old new r
refused f {r = r} first is = let at = err_from_is_err_and r is in rw (at.1, at.2) (record { made = λ h. let one = first.made h in (one.0, Meets-refused f one.1) })

-- memory ran out between two calls
pub wanting : {A E : Type 0} {om : E → Bool} {s : Settings} {p : Proto Kept (Result A E)} {c : Client} {link : Link} (x : E) {r : Result A E} → om x ≡ true → IsErrAnd r (λ y. y ≡ x) → ClientMeets om s p c c link link r
wanting {om = om} {p = p} {c = c} {link = link} x {r = r} memory is = let at = err_from_is_err_and r is in rw (at.1, at.2) (record { made = λ h. (h, Meets-memory om p link c.kept x memory) })

-- a row that was refused, at the exit of a `?`
pub passed : {A E : Type 0} {om : E → Bool} {s : Settings} {p : Proto Kept (Result A E)} {c d : Client} {old new : Link} {x : E} {r : Result A E} → ClientMeets om s p c d old new (Err x) → IsErrAnd r (λ y. y ≡ x) → ClientMeets om s p c d old new r
passed {r = r} first is = let at = err_from_is_err_and r is in rw (at.1, at.2) first

pub done : {A E : Type 0} {om : E → Bool} {s : Settings} {c : Client} {link : Link} {a : A} → ClientMeets om s (Done (Ok a)) c c link link (Ok a)
done {om = om} {c = c} {link = link} {a = a} = record { made = λ h. (h, Meets-ok om link c.kept a) }

pub failed : {A E : Type 0} {om : E → Bool} {s : Settings} {c : Client} {link : Link} {x : E} → om x ≡ false → ClientMeets {A = A} om s (Done (Err x)) c c link link (Err x)
failed {om = om} {c = c} {link = link} {x = x} h = record { made = λ at. (at, Meets-err om link c.kept x h) }

-- a step without a call
pub said : {A : Type 0} {s : Settings} (r : Result A SigstoreError) {w : Result A SigstoreError} {c : Client} {link : Link} → Matches is_memory r w → ClientMeets is_memory s (Done w) c c link link r
said (Ok a) h = rw h done
said {A} (Err e) {w = w} {c = c} {link = link} h = record { made = λ at. (at, record { outcome = refusing (is_memory e) h }) } where
  refusing : (b : Bool) → MatchBool b (Unit {0}) (w ≡ Err e) → MatchBool b (PerformsPrefix {A = Result A SigstoreError} (Done w) link link c.kept c.kept) (Performs (Done w) link link c.kept c.kept (Err e))
  refusing true h = PerformsPrefix-start (Done w) link c.kept
  refusing false h = rw h (Performs-done link c.kept (Err e))

-- a call that succeeded, and what the row computes from its result
pub caught : {A B E F : Type 0} {ox : E → Bool} {om : F → Bool} {s : Settings} {p : Proto Kept (Result A E)} (f : Result A E → Proto Kept (Result B F)) {c d e : Client} {old mid new : Link} {a : A} {r : Result B F}
    → ClientMeets ox s p c d old mid (Ok a) → ClientMeets om s (f (Ok a)) d e mid new r → ClientMeets om s (bind p f) c e old new r
caught f first second = record { made = λ at. let one = first.made at in let two = second.made one.0 in (two.0, Meets-caught f (one.1).outcome two.1) }

performed : {A E : Type 0} (ox : E → Bool) {p : Proto Kept (Result A E)} {old new : Link} {k l : Kept} (x : E) (b : Bool) → b ≡ ox x → b ≡ false → MatchBool b (PerformsPrefix p old new k l) (Performs p old new k l (Err x)) → Performs p old new k l (Err x)
performed ox x false is other h = h
performed ox x true is other h = absurd (cc other)

-- a call that was refused, and what the row computes from the error
pub caught_refusal : {A B E F : Type 0} {ox : E → Bool} {om : F → Bool} {s : Settings} {p : Proto Kept (Result A E)} (f : Result A E → Proto Kept (Result B F)) {c d e : Client} {old mid new : Link} {x : E} {r : Result B F}
    → ClientMeets ox s p c d old mid (Err x) → ox x ≡ false → ClientMeets om s (f (Err x)) d e mid new r → ClientMeets om s (bind p f) c e old new r
caught_refusal {ox = ox} f {x = x} first other second = record { made = λ at. let one = first.made at in let two = second.made one.0 in (two.0, Meets-caught f (performed ox x (ox x) refl other (one.1).outcome) two.1) }

broken : {A E : Type 0} {p : Proto Kept (Result A E)} {old new : Link} {k l : Kept} (x : E) (b : Bool) → b ≡ true → MatchBool b (PerformsPrefix p old new k l) (Performs p old new k l (Err x)) → PerformsPrefix p old new k l
broken x true is h = h
broken x false is h = absurd (cc is)

-- a call that was cut short because memory ran out
pub cut_off : {A B E F : Type 0} {ox : E → Bool} {om : F → Bool} {s : Settings} {p : Proto Kept (Result A E)} (f : Result A E → Proto Kept (Result B F)) {c d : Client} {old new : Link} {x : E} {y : F}
    → ClientMeets ox s p c d old new (Err x) → ox x ≡ true → om y ≡ true → ClientMeets om s (bind p f) c d old new (Err y)
cut_off {ox = ox} f {x = x} first is memory = record { made = λ at. let one = first.made at in (one.0, record { outcome = rw memory (PerformsPrefix-first f (broken x (ox x) is (one.1).outcome)) }) }

true_false : true ≡ false → ⊥
true_false h = cc h

abbrev wants : {A : Type 0} → Result A SigstoreError → Bool
wants (Ok a) = false
wants (Err e) = is_memory e

-- a call that was refused, and a step without a call on its error; out of memory stays out of memory
pub said_refusal : {A B : Type 0} {s : Settings} {p : Proto Kept (Result A SigstoreError)} (f : Result A SigstoreError → Proto Kept (Result B SigstoreError)) {c d : Client} {old new : Link} {e : SigstoreError} {w t : Result B SigstoreError}
    → f (Err e) ≡ Done w → (is_memory e ≡ true → w ≡ Err e) → ClientMeets is_memory s p c d old new (Err e) → Matches is_memory t w → ClientMeets is_memory s (bind p f) c d old new t
said_refusal {A} {B} {s} {p} f {c} {d} {old} {new} {e} {w} {t} is stays first says = by_memory (is_memory e) refl where
  wanted : (t : Result B SigstoreError) → is_memory e ≡ true → Matches is_memory t (Err e) → ClientMeets is_memory s (bind p f) c d old new t
  wanted (Ok b) memory h = absurd (cc (sym memory ∙ ap wants h))
  wanted (Err y) memory h = by_cause (is_memory y) refl h where
    by_cause : (b : Bool) → is_memory y ≡ b → MatchBool b (Unit {0}) (◌≡◌ {A = Result B SigstoreError} (Err e) (Err y)) → ClientMeets is_memory s (bind p f) c d old new (Err y)
    by_cause true same h = cut_off f first memory same
    by_cause false other h = absurd (cc (sym memory ∙ ap wants h ∙ other))

  by_memory : (b : Bool) → is_memory e ≡ b → ClientMeets is_memory s (bind p f) c d old new t
  by_memory true memory = wanted t memory (rw (stays memory) at says)
  by_memory false other = caught_refusal f first other (rw is (said t says))

-- a result or an error, and a step without a call on it; out of memory stays out of memory
pub said_of : {A B : Type 0} {s : Settings} {p : Proto Kept (Result A SigstoreError)} (f : Result A SigstoreError → Result B SigstoreError) {c d : Client} {old new : Link} (r : Result A SigstoreError) {t : Result B SigstoreError}
    → ((e : SigstoreError) → is_memory e ≡ true → f (Err e) ≡ Err e) → ClientMeets is_memory s p c d old new r → Matches is_memory t (f r) → ClientMeets is_memory s (bind p (λ x. Done (f x))) c d old new t
said_of f (Ok a) {t = t} stays first says = caught (λ x. Done (f x)) first (said t says)
said_of f (Err e) stays first says = said_refusal (λ x. Done (f x)) refl (stays e) first says

-- a step without a call that depends on the client's settings
pub said_at : {A : Type 0} {s : Settings} (w : Settings → Result A SigstoreError) (r : Result A SigstoreError) {c : Client} {link : Link} → Matches is_memory r (w c.settings) → ClientMeets is_memory s (Done (w s)) c c link link r
said_at {s = s} w r {c = c} {link = link} h = record { made = λ at. (said r (subst (λ t. Matches is_memory r (w t)) at h)).made at }

-- an out-of-memory error holds no image
pub with_stays : {A : Type 0} (text : List ℕ) (e : SigstoreError) → is_memory e ≡ true → (let r : Result A SigstoreError = Err e in with_image text r) ≡ Err e
with_stays text (sigstore.OciReferenceNotValidError t) h = absurd (cc h)
with_stays text (sigstore.RegistryFetchManifestError t e) h = absurd (cc h)
with_stays text (sigstore.RegistryPullError t e) h = absurd (cc h)
with_stays text (sigstore.RegistryPullManifestError t e) h = absurd (cc h)
with_stays text (sigstore.RegistryPushError t e) h = absurd (cc h)
with_stays text sigstore.WantOfMemory h = refl

-- the same, if the row continues with a result only
pub said_next : {A B : Type 0} {s : Settings} {p : Proto Kept (Result A SigstoreError)} (f : A → B) (g : Result A SigstoreError → Result B SigstoreError) {c d : Client} {old new : Link} (r : Result A SigstoreError) {t : Result B SigstoreError}
    → ((a : A) → g (Ok a) ≡ Ok (f a)) → ((e : SigstoreError) → g (Err e) ≡ Err e) → ClientMeets is_memory s p c d old new r → Matches is_memory t (g r) → ClientMeets is_memory s (p >>= (λ a. Done (Ok (f a)))) c d old new t
said_next f g (Ok a) {t = t} works stays first says = caught (unless_refused (λ a. Done (Ok (f a)))) first (said t (subst (Matches is_memory t) (works a) says))
said_next f g (Err e) {t = t} works stays first says = said_refusal (unless_refused (λ a. Done (Ok (f a)))) refl (λ is. refl) first (subst (Matches is_memory t) (stays e) says)

-- a step of the whole pull without a call
pub said_whole : {A : Type 0} {s : Settings} (r : Result A PullRefusal) {w : Result A PullRefusal} {c : Client} {link : Link} → Matches of_refusal r w → ClientMeets of_refusal s (Done w) c c link link r
said_whole (Ok a) h = rw h done
said_whole {A} (Err e) {w = w} {c = c} {link = link} h = record { made = λ at. (at, record { outcome = refusing (of_refusal e) h }) } where
  refusing : (b : Bool) → MatchBool b (Unit {0}) (w ≡ Err e) → MatchBool b (PerformsPrefix {A = Result A PullRefusal} (Done w) link link c.kept c.kept) (Performs (Done w) link link c.kept c.kept (Err e))
  refusing true h = PerformsPrefix-start (Done w) link c.kept
  refusing false h = rw h (Performs-done link c.kept (Err e))

memory_as : (x : SigstoreError) → is_memory x ≡ true → of_refusal (refused_as x) ≡ true
memory_as sigstore.WantOfMemory h = refl
memory_as (sigstore.OciReferenceNotValidError reference) h = absurd (cc h)
memory_as (sigstore.RegistryFetchManifestError image error) h = absurd (cc h)
memory_as (sigstore.RegistryPullError image error) h = absurd (cc h)
memory_as (sigstore.RegistryPullManifestError image error) h = absurd (cc h)
memory_as (sigstore.RegistryPushError image error) h = absurd (cc h)

other_as : (x : SigstoreError) → is_memory x ≡ false → of_refusal (refused_as x) ≡ false
other_as sigstore.WantOfMemory h = absurd (cc h)
other_as (sigstore.OciReferenceNotValidError reference) h = refl
other_as (sigstore.RegistryFetchManifestError image error) h = refl
other_as (sigstore.RegistryPullError image error) h = refl
other_as (sigstore.RegistryPullManifestError image error) h = refl
other_as (sigstore.RegistryPushError image error) h = refl

-- a part that was refused, with its error converted to the pull's
pub refused_whole : {A B : Type 0} {s : Settings} {p : Proto Kept (Result A SigstoreError)} (f : Result A SigstoreError → Proto Kept (Result B PullRefusal)) {c d : Client} {old new : Link} {x : SigstoreError}
    → f (Err x) ≡ Done (Err (refused_as x)) → ClientMeets is_memory s p c d old new (Err x) → ClientMeets of_refusal s (bind p f) c d old new (Err (refused_as x))
refused_whole {A} {B} {s} {p} f {c} {d} {old} {new} {x} is first = by_memory (is_memory x) refl where
  by_memory : (b : Bool) → is_memory x ≡ b → ClientMeets of_refusal s (bind p f) c d old new (Err (refused_as x))
  by_memory true memory = cut_off f first memory (memory_as x memory)
  by_memory false other = caught_refusal f first other (rw is (failed (other_as x other)))

-- a step of the engine without a request, with context
pub in_words_said : {A : Type 0} (called : Called) (text : List ℕ) (r w : Result A OciDistributionError) (t : Result A SigstoreError) → Matches engine_is_memory r w → Matches is_memory t (with_error_context called text r) → Matches is_memory t (with_error_context called text w)
in_words_said called text (Ok a) w t h says = rw h says
in_words_said {A} called text (Err e) w t h says = by_memory (engine_is_memory e) refl h where
  any : (t : Result A SigstoreError) → Matches is_memory t (Err sigstore.WantOfMemory) → Matches is_memory t (with_error_context called text w)
  any (Ok a) h = absurd (true_false (ap wants h))
  any (Err x) h = by_cause (is_memory x) refl h where
    by_cause : (b : Bool) → is_memory x ≡ b → MatchBool b (Unit {0}) (◌≡◌ {A = Result A SigstoreError} (Err sigstore.WantOfMemory) (Err x)) → MatchBool b (Unit {0}) (with_error_context called text w ≡ Err x)
    by_cause true is h = tt
    by_cause false is h = absurd (true_false (ap wants h ∙ is))

  by_memory : (b : Bool) → engine_is_memory e ≡ b → MatchBool b (Unit {0}) (w ≡ Err e) → Matches is_memory t (with_error_context called text w)
  by_memory true is h = any t (rw is at says)
  by_memory false is h = rw h says

pub worded_said : {A : Type 0} {s : Settings} (called : Called) (text : List ℕ) (r w : Result A OciDistributionError) (t : Result A SigstoreError) {c : Client} {link : Link} → Matches engine_is_memory r w → Matches is_memory t (with_error_context called text r) → ClientMeets is_memory s (Done (with_error_context called text w)) c c link link t
worded_said called text r w t h says = said t (in_words_said called text r w t h says)

-- memory ran out before any request was sent
pub meets_wanting : {A E : Type 0} {om : E → Bool} {p : Proto Kept (Result A E)} {k : Kept} {link : Link} (x : E) {r : Result A E} → om x ≡ true → IsErrAnd r (λ y. y ≡ x) → Meets om p link link k k r
meets_wanting {om = om} {p = p} {k = k} {link = link} x {r = r} memory is = let at = err_from_is_err_and r is in rw (at.1, at.2) (Meets-memory om p link k x memory)

-- a part that succeeded, as a part of the whole pull
pub part_answered : {A : Type 0} {s : Settings} {p : Proto Kept (Result A SigstoreError)} {c d : Client} {old new : Link} {a : A} → ClientMeets is_memory s p c d old new (Ok a) → ClientMeets of_refusal s (part_of p) c d old new (Ok a)
unfolding part_of
part_answered first = caught (λ r. Done (as_whole r)) first done

-- a part that was refused, as a part of the whole pull
pub part_refused : {A : Type 0} {s : Settings} {p : Proto Kept (Result A SigstoreError)} {c d : Client} {old new : Link} {x : SigstoreError} → ClientMeets is_memory s p c d old new (Err x) → ClientMeets of_refusal s (part_of p) c d old new (Err (refused_as x))
unfolding part_of
part_refused first = refused_whole (λ r. Done (as_whole r)) refl first

-- the pulled image or its error, as the result of the whole pull
pub stood_then : {s : Settings} {p : Proto Kept (Result Pulled SigstoreError)} (stood : SignedDigest) {c d : Client} {old new : Link} (r : Result Pulled SigstoreError) {t : Result VerifiedImage PullRefusal}
    → ClientMeets is_memory s p c d old new r → t ≡ signed_image stood r → ClientMeets of_refusal s (part_of p >>= (λ pulled. Done (Ok (verified_image stood pulled)))) c d old new t
stood_then stood (Ok pulled) first is = rw is (and_then _ (part_answered first) done)
stood_then stood (Err e) first is = rw is (record { made = λ at. let one = (part_refused first).made at in (one.0, Meets-refused _ one.1) })

-- a step that returns exactly this result
pub says_same : {A : Type 0} (r w : Result A PullRefusal) → r ≡ w → Matches of_refusal r w
says_same (Ok a) w is = sym is
says_same (Err e) w is = by_memory (of_refusal e) where
  by_memory : (b : Bool) → MatchBool b (Unit {0}) (w ≡ Err e)
  by_memory true = tt
  by_memory false = sym is

-- a policy without a constraint, at the exit of a `?`
pub empty_policy : {A : Type 0} (b : Bool) (x : PullRefusal) {r : Result A PullRefusal} → (let w : Result (Unit {0}) PullRefusal = Err x in w) ≡ constrained b → b ≡ true → IsErrAnd r (λ y. y ≡ x) → r ≡ Err refusal.EmptyPolicy
empty_policy false x is so at = absurd (cc so)
empty_policy true x {r} is so at = let e = err_from_is_err_and r at in let same : x ≡ refusal.EmptyPolicy = cc is in rw (e.1, e.2, same) refl

-- a policy with a constraint
pub not_empty : {P : Type 0} (b : Bool) (u : Unit {0}) → (let w : Result (Unit {0}) PullRefusal = Ok u in w) ≡ constrained b → b ≡ true → P
not_empty false u is so = absurd (cc so)
not_empty true u is so = absurd (cc is)

-- a reference that round-trips
pub readable_not : {P : Type 0} (image : Reference) (b : Bool) (u : Unit {0}) → readable_by image b ≡ Ok u → b ≡ false → P
readable_not image true u is so = absurd (cc so)
readable_not image false u is so = absurd (cc is)

-- ---- references for users

-- a reference with these parts is the one of the signature tag
pub tag_same : (image tag : Reference) (digest : List ℕ) → registry_of tag ≡ registry_of image → mirror_of tag ≡ None → repository_of tag ≡ repository_of image → tag_of tag ≡ Some (signature_tag digest) → digest_of tag ≡ None → tag ≡ tag_reference image digest
tag_same image tag digest registry mirror repository name none = λ i. record { registry = registry i; mirror = mirror i; repository = repository i; tag = name i; digest = none i }

-- an error is passed on unchanged, at the exit of a `?`
pub shown_refusal : (x : SigstoreError) (r : Result (OciReference × List ℕ) SigstoreError) → IsErrAnd r (λ y. y ≡ x) → IsErrAnd (tag_shown r) (λ y. y ≡ x)
shown_refusal x (Ok found) h = absurd h
shown_refusal x (Err e) h = h

-- the reference of the tag of the returned digest
pub tag_made : {t : Settings} (s : Context) (image : Reference) (a : RegistryAuth) {c d : Client} {old new : Link} (digest : List ℕ) (tag : Reference) → ClientMeets is_memory t (digest_call s image a) c d old new (Ok digest) → tag ≡ tag_reference image digest → ClientMeets is_memory t (triangulated s image a) c d old new (Ok (tag, digest))
unfolding triangulated
tag_made s image a digest tag first is = and_then _ first (rw is done)
