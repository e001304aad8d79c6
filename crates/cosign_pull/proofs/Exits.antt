-- The exits of the pull of documents.
use Rattle.std.proofs.Common.{◌≡◌, Result, Ok, Err, refl}
use Rattle.std.specs.Result.{IsErrAnd}
use Rattle.std.proofs.lemmas.Result.{err_from_is_err_and}
use Rattle.oci_transport.specs.Link.{Link}
use Rattle.oci_protocol.specs.Proto.{Proto, Done, ◌>>=◌}
use Rattle.oci_protocol.proofs.Laws.{Meets-refused}
use Rattle.engine_terms.specs.declared.settings.Settings.{Settings}
use Rattle.registry_calls.specs.declared.error.SigstoreError.{SigstoreError}
use Rattle.registry_calls.specs.Error.{is_memory}
use Rattle.registry_calls.specs.Clients.{Kept, Client, ClientMeets}
use Rattle.cosign_chain.specs.declared.verified_documents.VerifiedDocuments.{VerifiedDocuments}
use Rattle.cosign_rows.specs.Refusal.{is_memory as of_refusal}
use Rattle.cosign_rows.specs.Verified.{part_of}
use Rattle.cosign_rows.specs.declared.refusal.PullRefusal.{PullRefusal}
use Rattle.cosign_rows.specs.declared.refusal.PullRefusal.TheVariants as refusal
use Rattle.cosign_rows.specs.declared.signed_digest.SignedDigest.{SignedDigest}
use Rattle.cosign_rows.proofs.Exits.{and_then, done, part_answered, part_refused}
use Rattle.cosign_rows.specs.Rows.{signed_documents, signed_or_refused}
use Rattle.cosign_rows.specs.declared.pulled_documents.PulledDocuments.{PulledDocuments}

-- the pulled documents or their error, as the result of the whole pull
pub stood_then : {s : Settings} {p : Proto Kept (Result PulledDocuments SigstoreError)} (stood : SignedDigest) {c d : Client} {old new : Link} (r : Result PulledDocuments SigstoreError) {t : Result VerifiedDocuments PullRefusal}
    → ClientMeets is_memory s p c d old new r → t ≡ signed_or_refused stood r → ClientMeets of_refusal s (part_of p >>= (λ pulled. Done (Ok (signed_documents stood pulled)))) c d old new t
stood_then stood (Ok pulled) first is = rw is (and_then _ (part_answered first) done)
stood_then stood (Err e) first is = rw is (record { made = λ at. let one = (part_refused first).made at in (one.0, Meets-refused _ one.1) })

-- the first part returned `EmptyPolicy`, at the exit of a `?`
pub empty_passed : {A B : Type 0} {x : PullRefusal} {r : Result B PullRefusal} {Q : Type 0} → ((let w : Result A PullRefusal = Err x in w) ≡ Err refusal.EmptyPolicy) × Q → IsErrAnd r (λ y. y ≡ x) → (r ≡ Err refusal.EmptyPolicy) × Q
empty_passed {x = x} {r = r} is so = let e = err_from_is_err_and r so in let same : x ≡ refusal.EmptyPolicy = cc is.0 in (rw (e.1, e.2, same) refl, is.1)

-- the first part returned `Ok`
pub not_refused : {A : Type 0} {P : Type 0} {a : A} {x : PullRefusal} → (let w : Result A PullRefusal = Ok a in w) ≡ Err x → P
not_refused is = absurd (cc is)
