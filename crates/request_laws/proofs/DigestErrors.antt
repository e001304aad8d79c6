-- Why digests were refused, by what a response shows.
use Rattle.std.proofs.Common.{◌≡◌, ◌≢◌, inl, inr, ℕ, Bool, true, false, List, [], ◌∷◌, Option, Some, None, Result, Ok, Err, bytes_eq, refl, sym, ap, subst, ◌∙◌}
use Rattle.std.specs.Prelude.{if◌then◌else◌, ok_or, not, ◌&&◌}
use Rattle.std.proofs.lemmas.Slice.Eq.{bytes_eq-Decides}
use Rattle.oci_transport.specs.Headers.{digest_header, first_of}
use Rattle.oci_transport.specs.declared.message.Answer.{Answer}
use Rattle.oci_digests.specs.Names.{digest_text}
use Rattle.oci_digests.specs.Checks.{parts_of, named_by, named_algorithm}
use Rattle.oci_names.specs.Algorithms.{algorithm_of}
use Rattle.oci_digests.specs.Checks.{is_header_text, header_digest as digest_in, and_then, checked_by, checked, both_checked, both_validated, validated}
use Rattle.oci_names.specs.declared.algorithm.Algorithm.{Algorithm}
use Rattle.oci_digests.specs.declared.error.DigestError.{DigestError}
use Rattle.oci_digests.specs.declared.error.DigestError.TheVariants.{InvalidHeader, MissingAlgorithm, UnsupportedAlgorithm, VerificationError, WantOfMemory}
use Rattle.engine_terms.specs.declared.error.OciDistributionError.{OciDistributionError}
use Rattle.engine_terms.specs.declared.error.OciDistributionError.TheVariants as refusal
use Rattle.engine_answers.specs.Answers.{or_digest_error, header_digest, agreed}
use Rattle.engine_rows.specs.Causes.{Claimed, DigestCause}

-- why a text names no algorithm
abbrev pub NameCause : List ℕ → DigestError → Type 0
NameCause text MissingAlgorithm = parts_of text ≡ None
NameCause text (UnsupportedAlgorithm name) = (rest : List ℕ) × (parts_of text ≡ Some (name, rest)) × (algorithm_of name ≡ None)
NameCause text _ = ⊥

unnamed : (text : List ℕ) (parts : List ℕ × List ℕ) (a : Option Algorithm) (e : DigestError) → parts_of text ≡ Some parts → algorithm_of parts.0 ≡ a → ok_or a (UnsupportedAlgorithm parts.0) ≡ Err e → NameCause text e
unnamed text parts (Some a) e is none h = absurd (cc h)
unnamed text parts None e is none h = let same : UnsupportedAlgorithm parts.0 ≡ e = cc h in subst (NameCause text) same (parts.1, is, none)

by_parts : (text : List ℕ) (o : Option (List ℕ × List ℕ)) (e : DigestError) → parts_of text ≡ o → named_by o ≡ Err e → NameCause text e
by_parts text None e is h = let same : MissingAlgorithm ≡ e = cc h in subst (NameCause text) same is
by_parts text (Some parts) e is h = unnamed text parts (algorithm_of parts.0) e is refl h

pub name_cause : (text : List ℕ) (e : DigestError) → named_algorithm text ≡ Err e → NameCause text e
name_cause text e h = by_parts text (parts_of text) e refl h

-- a claimed text names no algorithm
pub name_claimed : (Given : List ℕ → Type 0) (answer : Answer) (text : List ℕ) (e : DigestError) → Claimed Given answer text → NameCause text e → DigestCause Given answer e
name_claimed Given answer text MissingAlgorithm claimed h = (text, claimed, h)
name_claimed Given answer text (UnsupportedAlgorithm name) claimed h = (text, h.0, claimed, h.1, h.2)
name_claimed Given answer text (InvalidHeader value) claimed h = absurd h
name_claimed Given answer text (VerificationError expected actual) claimed h = absurd h
name_claimed Given answer text WantOfMemory claimed h = absurd h

differs : (text computed : List ℕ) → bytes_eq text computed ≡ false → text ≢ computed
differs text computed test same = cc (test, (bytes_eq-Decides text computed).1 same)

-- the text is not that of the body's hash
pub differs_claimed : (Given : List ℕ → Type 0) (answer : Answer) (text : List ℕ) (a : Algorithm) → Claimed Given answer text → named_algorithm text ≡ Ok a → bytes_eq text (digest_text a answer.body) ≡ false → DigestCause Given answer (VerificationError text (digest_text a answer.body))
differs_claimed Given answer text a claimed named test = (claimed, differs text (digest_text a answer.body) test, inl (a, named, refl))

by_test : (Given : List ℕ → Type 0) (answer : Answer) (text : List ℕ) (a : Algorithm) (e : DigestError) (b : Bool) → Claimed Given answer text → named_algorithm text ≡ Ok a → bytes_eq text (digest_text a answer.body) ≡ b → (if b then Ok text else Err (VerificationError text (digest_text a answer.body))) ≡ Err e → DigestCause Given answer e
by_test Given answer text a e true claimed named test is = absurd (cc is)
by_test Given answer text a e false claimed named test is = let same : VerificationError text (digest_text a answer.body) ≡ e = cc is in subst (DigestCause Given answer) same (differs_claimed Given answer text a claimed named test)

by_name : (Given : List ℕ → Type 0) (answer : Answer) (text : List ℕ) (e : DigestError) (r : Result Algorithm DigestError) → Claimed Given answer text → named_algorithm text ≡ r → and_then r (λ a. checked_by a answer.body text) ≡ Err e → DigestCause Given answer e
by_name Given answer text e (Err x) claimed named is = let same : x ≡ e = cc is in name_claimed Given answer text e claimed (name_cause text e (named ∙ ap Err same))
by_name Given answer text e (Ok a) claimed named is = by_test Given answer text a e (bytes_eq text (digest_text a answer.body)) claimed named refl is

-- a text was checked against the body
checked_cause : (Given : List ℕ → Type 0) (answer : Answer) (text : List ℕ) (e : DigestError) → Claimed Given answer text → checked answer.body text ≡ Err e → DigestCause Given answer e
checked_cause Given answer text e claimed is = by_name Given answer text e (named_algorithm text) claimed refl is

then_checked : (Given : List ℕ → Type 0) (answer : Answer) (header reference : List ℕ) (e : DigestError) (r : Result (List ℕ) DigestError) → Claimed Given answer header → Claimed Given answer reference → checked answer.body reference ≡ r → and_then r (λ _. checked answer.body header) ≡ Err e → DigestCause Given answer e
then_checked Given answer header reference e (Ok x) first second found is = checked_cause Given answer header e first is
then_checked Given answer header reference e (Err x) first second found is = let same : x ≡ e = cc is in checked_cause Given answer reference e second (found ∙ ap Err same)

both_cause : (Given : List ℕ → Type 0) (answer : Answer) (header reference : List ℕ) (e : DigestError) (b : Bool) → Claimed Given answer header → Claimed Given answer reference → (if b then checked answer.body header else and_then (checked answer.body reference) (λ _. checked answer.body header)) ≡ Err e → DigestCause Given answer e
both_cause Given answer header reference e true first second is = checked_cause Given answer header e first is
both_cause Given answer header reference e false first second is = then_checked Given answer header reference e (checked answer.body reference) first second refl is

both_parts : (Given : List ℕ → Type 0) (answer : Answer) (header reference : List ℕ) (e : DigestError) (a b : Option (List ℕ × List ℕ)) → Claimed Given answer header → Claimed Given answer reference → parts_of header ≡ a → parts_of reference ≡ b → both_validated a b (both_checked answer.body header reference) ≡ Err e → DigestCause Given answer e
both_parts Given answer header reference e None b first second x y is = let same : MissingAlgorithm ≡ e = cc is in subst (DigestCause Given answer) same (header, first, x)
both_parts Given answer header reference e (Some p) None first second x y is = let same : MissingAlgorithm ≡ e = cc is in subst (DigestCause Given answer) same (reference, second, y)
both_parts Given answer header reference e (Some p) (Some q) first second x y is = both_cause Given answer header reference e (bytes_eq header reference) first second is

-- the body was checked against the header's digest and the given one
pub validated_cause : (Given : List ℕ → Type 0) (answer : Answer) (header own : Option (List ℕ)) (e : DigestError) → header_digest answer.headers ≡ Ok header → ((text : List ℕ) → own ≡ Some text → Given text) → validated answer.body header own ≡ Err e → DigestCause Given answer e
validated_cause Given answer None None e named given is = absurd (cc is)
validated_cause Given answer (Some h) None e named given is = checked_cause Given answer h e (inr named) is
validated_cause Given answer None (Some r) e named given is = checked_cause Given answer r e (inl (given r refl)) is
validated_cause Given answer (Some h) (Some r) e named given is = both_parts Given answer h r e (parts_of h) (parts_of r) (inr named) (inl (given r refl)) refl refl is

-- ---- the header

by_text : (Given : List ℕ → Type 0) (answer : Answer) (value : List ℕ) (e : DigestError) (b : Bool) → first_of digest_header answer.headers ≡ Some value → is_header_text value ≡ b → ◌≡◌ {A = Result (Option (List ℕ)) DigestError} (if b then Ok (Some value) else Err (InvalidHeader value)) (Err e) → DigestCause Given answer e
by_text Given answer value e true first test is = absurd (cc is)
by_text Given answer value e false first test is = let same : InvalidHeader value ≡ e = cc is in subst (DigestCause Given answer) same (first, test)

pub header_cause : (Given : List ℕ → Type 0) (answer : Answer) (o : Option (List ℕ)) (e : DigestError) → first_of digest_header answer.headers ≡ o → digest_in o ≡ Err e → DigestCause Given answer e
header_cause Given answer None e first is = absurd (cc is)
header_cause Given answer (Some []) e first is = absurd (cc is)
header_cause Given answer (Some (b ∷ bs)) e first is = by_text Given answer (b ∷ bs) e (is_header_text (b ∷ bs)) first refl is

-- a digest error, converted to the client's
pub digest_err : {A : Type 0} (r : Result A DigestError) (e : OciDistributionError) → or_digest_error r ≡ Err e → (x : DigestError) × (e ≡ refusal.DigestError x) × (r ≡ Err x)
digest_err (Ok a) e is = absurd (cc is)
digest_err (Err x) e is = (x, cc is, refl)

-- ---- the header's digest and the reference's

by_names : (Given : List ℕ → Type 0) (answer : Answer) (digest own : List ℕ) (given named : List ℕ × List ℕ) (e : DigestError) (same other : Bool) → header_digest answer.headers ≡ Ok (Some digest) → Given own → parts_of digest ≡ Some given → parts_of own ≡ Some named → bytes_eq given.0 named.0 ≡ same → bytes_eq digest own ≡ other → (if same && not other then Err (VerificationError own digest) else Ok digest) ≡ Err e → DigestCause Given answer e
by_names Given answer digest own given named e false other header has x y s t is = absurd (cc is)
by_names Given answer digest own given named e true true header has x y s t is = absurd (cc is)
by_names Given answer digest own given named e true false header has x y s t is =
    let alike : given.0 ≡ named.0 = (bytes_eq-Decides given.0 named.0).0 s in
    let here : VerificationError own digest ≡ e = cc is in
    subst (DigestCause Given answer) here (inl has, (λ h. differs digest own t (sym h)), inr (header, (given.0, given.1, named.1, x, y ∙ ap (λ (n : List ℕ). Some (n, named.1)) (sym alike))))

pub agreed_cause : (Given : List ℕ → Type 0) (answer : Answer) (digest own : List ℕ) (a b : Option (List ℕ × List ℕ)) (e : DigestError) → header_digest answer.headers ≡ Ok (Some digest) → Given own → parts_of digest ≡ a → parts_of own ≡ b → agreed digest own a b ≡ Err e → DigestCause Given answer e
agreed_cause Given answer digest own None b e header has x y is = let same : MissingAlgorithm ≡ e = cc is in subst (DigestCause Given answer) same (digest, inr header, x)
agreed_cause Given answer digest own (Some given) None e header has x y is = let same : MissingAlgorithm ≡ e = cc is in subst (DigestCause Given answer) same (own, inl has, y)
agreed_cause Given answer digest own (Some given) (Some named) e header has x y is = by_names Given answer digest own given named e (bytes_eq given.0 named.0) (bytes_eq digest own) header has x y refl refl is
