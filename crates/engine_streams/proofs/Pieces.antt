-- What a stream returns when the digests are compared.
use Rattle.std.proofs.Common.{◌≡◌, ℕ, Bool, true, false, arith, List, [], ◌∷◌, Option, Some, None, Result, Ok, Err, length, refl, ap, ◌∙◌}
use Rattle.std.specs.Prelude.{MatchBool, bytes_eq, if◌then◌else◌}
use Rattle.std.specs.Result.{IsErrAnd}
use Rattle.std.proofs.lemmas.Result.{err_from_is_err_and}
use Rattle.oci_transport.specs.Link.{Link, Takes}
use Rattle.oci_digests.specs.Names.{digest_text}
use Rattle.oci_digests.specs.declared.error.DigestError.{DigestError as DigestRefusal}
use Rattle.oci_digests.specs.declared.error.DigestError.TheVariants.{VerificationError}
use Rattle.engine_answers.specs.Blobs.{both_compared, compared as one_compared}
use Rattle.engine_answers.specs.declared.blobs.Expected.{Expected}
use Rattle.engine_terms.specs.declared.error.OciDistributionError.{OciDistributionError}
use Rattle.engine_terms.specs.declared.error.OciDistributionError.TheVariants as refusal
use Rattle.json_values.specs.Refusals.{Matches, ◌>>◌ as ◌and_then◌}
use Rattle.engine_terms.specs.Error.{is_memory}
use Rattle.engine_streams.specs.Streams.{compared, digests_of, NextCause, NothingLeft, Next, HasFailed}
use Rattle.engine_streams.specs.declared.head.Digests.{Digests}
use Rattle.engine_streams.specs.declared.stream.SizedStream.{SizedStream}

memory_is : (e : OciDistributionError) → is_memory e ≡ true → e ≡ refusal.WantOfMemory
memory_is refusal.WantOfMemory h = refl
memory_is _ h = absurd (cc h)

-- a digest that does not name the bytes is refused as such
abbrev IsOfDigest : OciDistributionError → Type 0
IsOfDigest e = (d : DigestRefusal) × (e ≡ refusal.DigestError d)

one_kind : (x : Expected) (bytes : List ℕ) (e : OciDistributionError) → one_compared x bytes ≡ Err e → IsOfDigest e
one_kind x bytes e = by_test (bytes_eq x.text (digest_text x.algorithm bytes)) where
  by_test : (b : Bool) → ◌≡◌ {A = Result Unit OciDistributionError} (if b then Ok tt else Err (refusal.DigestError (VerificationError x.text (digest_text x.algorithm bytes)))) (Err e) → IsOfDigest e
  by_test true h = absurd (cc h)
  by_test false h = (VerificationError x.text (digest_text x.algorithm bytes), cc h)

both_kind : (given : Option Expected) (own : Expected) (bytes : List ℕ) (e : OciDistributionError) → both_compared given own bytes ≡ Err e → IsOfDigest e
both_kind None own bytes e h = one_kind own bytes e h
both_kind (Some given) own bytes e h = by_first (one_compared given bytes) refl h where
  by_first : (r : Result Unit OciDistributionError) → one_compared given bytes ≡ r → (r and_then one_compared own bytes) ≡ Err e → IsOfDigest e
  by_first (Ok u) is h = one_kind own bytes e h
  by_first (Err x) is h = one_kind given bytes e (is ∙ h)

compared_kind : (digests : Option Digests) (bytes : List ℕ) (e : OciDistributionError) → compared digests bytes ≡ Err e → IsOfDigest e
compared_kind None bytes e h = absurd (cc h)
compared_kind (Some d) bytes e h = both_kind d.given d.own bytes e h

compare_refused : (limit : ℕ) (gave : List ℕ) (digests : Option Digests) (old new : Link) (e : OciDistributionError) → NothingLeft old new → Matches {A = Unit} is_memory (Err e) (compared digests gave) → NextCause limit gave digests old new e
compare_refused limit gave digests old new e ended says = by_memory (is_memory e) refl says where
  by_kind : IsOfDigest e → compared digests gave ≡ Err e → NextCause limit gave digests old new e
  by_kind k h = rw k.1 (ended, h ∙ ap Err k.1)

  by_memory : (b : Bool) → is_memory e ≡ b → MatchBool b (Unit {0}) (compared digests gave ≡ Err e) → NextCause limit gave digests old new e
  by_memory true is h = rw (memory_is e is) tt
  by_memory false is h = by_kind (compared_kind digests gave e h) h

empty : (xs : List ℕ) → length xs ≡ 0 → xs ≡ []
empty [] h = refl
empty (x ∷ xs) h = absurd (omega (arith, h))

-- the same at the exit of a `?`
pub compare_on : (limit : ℕ) (gave : List ℕ) (after : SizedStream) (old new : Link) (piece : List ℕ) (before : Option Digests) (e : OciDistributionError) (r : Result (Option (List ℕ)) OciDistributionError)
    → Takes piece old new → length piece ≡ 0 → digests_of after.check ≡ before → Matches {A = Unit} is_memory (Err e) (compared before gave) → HasFailed after → IsErrAnd r (λ x. x ≡ e) → Next limit gave after old new r
compare_on limit gave after old new piece before e r takes none same says failed at_exit =
    let at = err_from_is_err_and r at_exit in
    rw (at.1, at.2) (rw same (compare_refused limit gave before old new e (rw (empty piece none) at takes) says), failed)
