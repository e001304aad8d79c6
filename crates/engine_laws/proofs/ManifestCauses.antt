-- Why the call for a manifest or an index was refused.
use Rattle.std.proofs.Common.{◌≡◌, inl, inr, ℕ, Bool, true, false, List, [], ◌++◌, Option, Some, None, Result, Ok, Err, sym, ap, subst, ◌∙◌, append-nil}
use Rattle.std.specs.Prelude.{pos, if◌then◌else◌}
use Rattle.std.specs.Ordering.{int_eq}
use Rattle.json_values.specs.JsonText.{json_of}
use Rattle.oci_transport.specs.declared.message.Answer.{Answer}
use Rattle.oci_transport.specs.declared.message.Exchange.{Exchange}
use Rattle.oci_names.specs.declared.reference.Reference.{Reference}
use Rattle.oci_digests.specs.declared.error.DigestError.{DigestError}
use Rattle.oci_digests.specs.declared.error.DigestError.TheVariants as digest_refusal
use Rattle.oci_manifests.specs.Types.{is_manifest_type}
use Rattle.oci_manifests.specs.Document.{document_of}
use Rattle.oci_manifests.specs.declared.versioned.Versioned.{Versioned}
use Rattle.oci_manifests.specs.declared.document.OciManifest.{OciManifest}
use Rattle.oci_auth.specs.declared.auth.RegistryAuth.{RegistryAuth}
use Rattle.oci_protocol.specs.Proto.{Done, ◌>>=◌}
use Rattle.oci_protocol.specs.EveryRun.{EveryRun, ByResult}
use Rattle.oci_protocol.proofs.RunFacts.{EveryRun-done, EveryRun-more, EveryRun-each, EveryRun-step}
use Rattle.engine_terms.specs.Contexts.{Context}
use Rattle.engine_terms.specs.declared.settings.Settings.{Settings}
use Rattle.engine_terms.specs.declared.error.SpecViolation.TheVariants.{Status}
use Rattle.engine_terms.specs.declared.error.OciDistributionError.{OciDistributionError}
use Rattle.engine_terms.specs.declared.error.OciDistributionError.TheVariants as refusal
use Rattle.json_values.specs.Refusals.{◌>>◌ as ◌before◌}
use Rattle.engine_requests.specs.Requests.{manifest_types}
use Rattle.engine_answers.specs.Documents.{plain_of, type_checked, version_checked, versioned_in, or_unread, reads_twice, tables_read, document_read}
use Rattle.engine_rows.specs.Pulls.{pull_manifest_raw, pull_manifest}
use Rattle.engine_rows.specs.Causes.{Act, ManifestUrl, Claimed, DigestCause, AnswerCause, IsNoDocument, DocumentCause, ByLast, OwnDigest}
use Rattle.request_laws.proofs.EarlyCauses.{Loose}
use Rattle.request_laws.proofs.DocumentCauses.{cause_later, last_later, Accepted, OwnCause, raw_causes}

-- ---- which refusals are about a document

abbrev IsOfDocument : OciDistributionError → Type 0
IsOfDocument (refusal.VersionedParsingError body) = Unit {0}
IsOfDocument (refusal.ManifestParsingError body) = Unit {0}
IsOfDocument (refusal.AmbiguousManifest body) = Unit {0}
IsOfDocument (refusal.UnsupportedSchemaVersionError version) = Unit {0}
IsOfDocument (refusal.UnsupportedMediaTypeError kind) = Unit {0}
IsOfDocument _ = ⊥

abbrev OfDocument : {A : Type 0} → Result A OciDistributionError → Type 0
OfDocument (Ok a) = Unit {0}
OfDocument (Err e) = IsOfDocument e

type_of_document : (o : Option (List ℕ)) → OfDocument (type_checked o)
type_of_document None = tt
type_of_document (Some kind) = by_test (is_manifest_type kind) where
  by_test : (b : Bool) → OfDocument {A = Unit {0}} (if b then Ok tt else Err (refusal.UnsupportedMediaTypeError kind))
  by_test true = tt
  by_test false = tt

version_of_document : (body : List ℕ) (o : Option Versioned) → OfDocument (version_checked body o)
version_of_document body None = tt
version_of_document body (Some v) = by_test (int_eq v.schema_version (pos 2)) where
  by_test : (b : Bool) → OfDocument (if b then type_checked v.media_type else Err (refusal.UnsupportedSchemaVersionError v.schema_version))
  by_test true = type_of_document v.media_type
  by_test false = tt

one_of_document : (body : List ℕ) (o : Option OciManifest) → OfDocument (or_unread body o)
one_of_document body None = tt
one_of_document body (Some document) = tt

tables_of_document : (body : List ℕ) → OfDocument (tables_read body (plain_of (json_of body)))
tables_of_document body =
    elim (plain_of (json_of body)) as (λ o. OfDocument (tables_read body o)) [
      | None ↦ tt
      | Some d ↦ elim (reads_twice d) as (λ b. OfDocument (if b then Err (refusal.AmbiguousManifest body) else or_unread body (document_of d))) [ true ↦ tt | false ↦ one_of_document body (document_of d) ]
    ]

before_of_document : {A B : Type 0} (p : Result A OciDistributionError) (q : Result B OciDistributionError) → OfDocument p → OfDocument q → OfDocument (p before q)
before_of_document (Ok a) q first second = second
before_of_document (Err e) q first second = first

read_of_document : (body : List ℕ) → OfDocument (document_read body)
read_of_document body = before_of_document (version_checked body (versioned_in (json_of body))) (tables_read body (plain_of (json_of body))) (version_of_document body (versioned_in (json_of body))) (tables_of_document body)

unread_cause : (Given : List ℕ → Type 0) (address : List ℕ) (answer : Answer) (e : OciDistributionError) → IsOfDocument e → IsNoDocument answer e → DocumentCause Given address answer e
unread_cause Given address answer (refusal.VersionedParsingError body) kind h = h
unread_cause Given address answer (refusal.ManifestParsingError body) kind h = h
unread_cause Given address answer (refusal.AmbiguousManifest body) kind h = h
unread_cause Given address answer (refusal.UnsupportedSchemaVersionError version) kind h = h
unread_cause Given address answer (refusal.UnsupportedMediaTypeError media_type) kind h = h
unread_cause Given address answer e kind h = absurd kind

-- the same for the last response
last_unread : (T : Act → Type 0) (Given : List ℕ → Type 0) (s : Settings) (types : List ℕ) (now : ℕ) (c : List Exchange) (e : OciDistributionError) → IsOfDocument e → ByLast T (λ address answer. DocumentCause Given address answer e) c → Loose T (DocumentCause Given) s types c now e
last_unread T Given s types now c (refusal.VersionedParsingError body) kind h = h
last_unread T Given s types now c (refusal.ManifestParsingError body) kind h = h
last_unread T Given s types now c (refusal.AmbiguousManifest body) kind h = h
last_unread T Given s types now c (refusal.UnsupportedSchemaVersionError version) kind h = h
last_unread T Given s types now c (refusal.UnsupportedMediaTypeError media_type) kind h = h
last_unread T Given s types now c e kind h = absurd kind

of_read : (body : List ℕ) (e : OciDistributionError) → document_read body ≡ Err e → IsOfDocument e
of_read body e is = let P : Result OciManifest OciDistributionError → Type 0 = OfDocument in subst P is (read_of_document body)

pub document_refused : (Given : List ℕ → Type 0) (s : Settings) (image : Reference) (types : List ℕ) (now : ℕ) (c : List Exchange) (bytes : List ℕ) (e : OciDistributionError) → Accepted s image c bytes → document_read bytes ≡ Err e → Loose (ManifestUrl s image) (DocumentCause Given) s types c now e
document_refused Given s image types now c bytes e last is =
    let kind = of_read bytes e is in
    last_unread (ManifestUrl s image) Given s types now c e kind (last_later (ManifestUrl s image) (ManifestUrl s image) (λ address answer. DocumentCause Given address answer e) [] (λ act h. h) (λ address answer h. unread_cause Given address answer e kind (h.0, ap document_read (sym h.1) ∙ is)) last)

-- ---- more digests may be claimed

claimed_more : (P Q : List ℕ → Type 0) (answer : Answer) (text : List ℕ) → ((text : List ℕ) → P text → Q text) → Claimed P answer text → Claimed Q answer text
claimed_more P Q answer text more (inl h) = inl (more text h)
claimed_more P Q answer text more (inr h) = inr h

digest_more : (P Q : List ℕ → Type 0) (answer : Answer) (e : DigestError) → ((text : List ℕ) → P text → Q text) → DigestCause P answer e → DigestCause Q answer e
digest_more P Q answer (digest_refusal.InvalidHeader value) more h = h
digest_more P Q answer digest_refusal.MissingAlgorithm more h = (h.0, claimed_more P Q answer h.0 more h.1, h.2)
digest_more P Q answer (digest_refusal.UnsupportedAlgorithm name) more h = (h.0, h.1, claimed_more P Q answer h.0 more h.2, h.3, h.4)
digest_more P Q answer (digest_refusal.VerificationError expected actual) more h = (claimed_more P Q answer expected more h.0, h.1, h.2)
digest_more P Q answer digest_refusal.WantOfMemory more h = h

-- what a response shows about a refusal also holds for a call that parses a document
pub answer_document : (P Q : List ℕ → Type 0) (address : List ℕ) (answer : Answer) (e : OciDistributionError) → ((text : List ℕ) → P text → Q text) → AnswerCause P address answer e → DocumentCause Q address answer e
answer_document P Q address answer (refusal.DigestError e) more h = digest_more P Q answer e more h
answer_document P Q address answer (refusal.UnauthorizedError url) more h = h
answer_document P Q address answer (refusal.RegistryError envelope url) more h = h
answer_document P Q address answer (refusal.ServerError status url body) more h = h
answer_document P Q address answer (refusal.SpecViolationError (Status expected got url)) more h = h
answer_document P Q address answer e more h = absurd h

pub document_more : (P Q : List ℕ → Type 0) (address : List ℕ) (answer : Answer) (e : OciDistributionError) → ((text : List ℕ) → P text → Q text) → DocumentCause P address answer e → DocumentCause Q address answer e
document_more P Q address answer (refusal.DigestError e) more h = digest_more P Q answer e more h
document_more P Q address answer e more h = h

-- ---- a manifest

-- the last response's body is this document
abbrev pub ReadLast : Settings → Reference → List Exchange → OciManifest → Type 0
ReadLast s image c document = ByLast (ManifestUrl s image) (λ address answer. document_read answer.body ≡ Ok document) c

abbrev pub ManifestCause : Settings → Reference → ℕ → List Exchange → ℕ → OciDistributionError → Type 0
ManifestCause s image m c n e = Loose (ManifestUrl s image) (DocumentCause (OwnDigest image)) s manifest_types c n e

pub raw_where : (s : Settings) (image : Reference) (m n : ℕ) (c : List Exchange) (r : Result (List ℕ × List ℕ) OciDistributionError) → ByResult (λ m c n found. Accepted s image c found.0) (OwnCause s image manifest_types) m c n r → ByResult (λ m c n found. Accepted s image c found.0) (ManifestCause s image) m c n r
raw_where s image m n c (Ok found) h = h
raw_where s image m n c (Err e) h = cause_later (ManifestUrl s image) (ManifestUrl s image) (AnswerCause (OwnDigest image)) (DocumentCause (OwnDigest image)) s manifest_types n [] c e (λ text h. h) (λ address answer h. answer_document (OwnDigest image) (OwnDigest image) address answer e (λ text h. h) h) h

pub manifest_causes : (s : Context) (image : Reference) (a : RegistryAuth) → EveryRun (ByResult (λ m c n found. ReadLast s.settings image c found.0) (ManifestCause s.settings image)) (pull_manifest s image a)
unfolding pull_manifest
manifest_causes s image a = EveryRun-each (λ m c n found. Accepted s.settings image c found.0) (λ m c n found. ReadLast s.settings image c found.0) (ManifestCause s.settings image) (pull_manifest_raw s image a manifest_types) (λ found. Done (document_read found.0) >>= λ document. Done (Ok (document, found.1)))
    (EveryRun-more (ByResult (λ m c n found. Accepted s.settings image c found.0) (OwnCause s.settings image manifest_types)) (ByResult (λ m c n found. Accepted s.settings image c found.0) (ManifestCause s.settings image)) (pull_manifest_raw s image a manifest_types) (raw_causes s image a manifest_types) (raw_where s.settings image))
    (λ m n c found h. EveryRun-step (λ start d o r. ByResult (λ m c n found. ReadLast s.settings image c found.0) (ManifestCause s.settings image) m (c ++ d) o r) (document_read found.0) (λ document. Done (Ok (document, found.1)))
    (λ document is. EveryRun-done (λ start d o r. ByResult (λ m c n found. ReadLast s.settings image c found.0) (ManifestCause s.settings image) m (c ++ d) o r) (Ok (document, found.1)) (λ o. subst (λ x. ReadLast s.settings image x document) (sym (append-nil c)) (last_later (ManifestUrl s.settings image) (ManifestUrl s.settings image) (λ address answer. document_read answer.body ≡ Ok document) [] (λ act h. h) (λ address answer g. ap document_read (sym g.1) ∙ is) h)))
    (λ e is o. subst (λ x. ManifestCause s.settings image m x o e) (sym (append-nil c)) (document_refused (OwnDigest image) s.settings image manifest_types o c found.0 e h is)))
