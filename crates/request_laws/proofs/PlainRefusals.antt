-- Refusals that are neither a fault of the sink nor an invalid header value.
use Rattle.std.proofs.Common.{ℕ, Bool, true, false, List, [], ◌∷◌, Option, Some, None, Result, Ok, Err}
use Rattle.std.specs.Prelude.{if◌then◌else◌, nat_eq, pos}
use Rattle.std.specs.Ordering.{int_eq}
use Rattle.std.specs.Str.{is_utf8}
use Rattle.json_values.specs.JsonText.{json_of}
use Rattle.oci_manifests.specs.Types.{is_manifest_type}
use Rattle.oci_manifests.specs.Document.{document_of}
use Rattle.oci_manifests.specs.declared.versioned.Versioned.{Versioned}
use Rattle.oci_manifests.specs.declared.document.OciManifest.{OciManifest}
use Rattle.oci_errors.specs.declared.envelope.OciEnvelope.{OciEnvelope}
use Rattle.oci_transport.specs.declared.message.Answer.{Answer}
use Rattle.oci_names.specs.declared.reference.Reference.{Reference}
use Rattle.engine_answers.specs.declared.answers.Got.{Got}
use Rattle.engine_terms.specs.declared.error.SpecViolation.TheVariants.{Status}
use Rattle.engine_terms.specs.declared.error.OciDistributionError.{OciDistributionError}
use Rattle.engine_terms.specs.declared.error.OciDistributionError.TheVariants as refusal
use Rattle.engine_answers.specs.Answers.{is_success, is_client_error, envelope_in, by_envelope, refused_answer, accepted, or_digest_error, header_digest, answer_digest, document_in}
use Rattle.engine_answers.specs.Documents.{plain_of, type_checked, version_checked, versioned_in, or_unread, reads_twice, tables_read, document_read}
use Rattle.engine_answers.specs.Index.{entry_named, entry_found, entry_manifest, config_text}
use Rattle.engine_rows.specs.Image.{is_accepted, all_accepted, layers_accepted}
use Rattle.oci_manifests.specs.Promise.{lists, resolved}
use Rattle.oci_manifests.specs.declared.promise.ResolverPromise.{ResolverPromise}
use Rattle.oci_manifests.specs.declared.index_entry.ImageIndexEntry.{ImageIndexEntry}
use Rattle.oci_manifests.specs.declared.descriptor.OciDescriptor.{OciDescriptor}
use Rattle.oci_manifests.specs.declared.document.OciManifest.TheVariants.{Image, ImageIndex}
use Rattle.engine_terms.specs.declared.error.GenericCause.TheVariants.{ConfigNotText, HeaderText}
use Rattle.json_values.specs.Refusals.{◌>>=◌ as ◌into◌}

-- the refusal is neither a fault of the sink nor an invalid header value
abbrev pub IsPlain : OciDistributionError → Type 0
IsPlain refusal.SinkFault = ⊥
IsPlain (refusal.GenericError HeaderText) = ⊥
IsPlain _ = Unit {0}

abbrev pub Plain : {A : Type 0} → Result A OciDistributionError → Type 0
Plain (Ok a) = Unit {0}
Plain (Err e) = IsPlain e

pub into_plain : {A B : Type 0} (r : Result A OciDistributionError) (f : A → Result B OciDistributionError) → Plain r → ((a : A) → Plain (f a)) → Plain (r into f)
into_plain (Ok a) f h each = each a
into_plain (Err e) f h each = h

-- ---- responses

listed_plain : (url : List ℕ) (answer : Answer) (o : Option OciEnvelope) → IsPlain (by_envelope url answer o)
listed_plain url answer (Some envelope) = tt
listed_plain url answer None = tt

pub refused_plain : (url : List ℕ) (answer : Answer) → IsPlain (refused_answer 200 url answer)
refused_plain url answer = by_status (nat_eq answer.status 401) (is_success answer.status) (is_client_error answer.status) where
  by_status : (a b c : Bool) → IsPlain (if a then refusal.UnauthorizedError url else (if b then refusal.SpecViolationError (Status 200 answer.status url) else (if c then by_envelope url answer (envelope_in answer.body) else refusal.ServerError answer.status url answer.body)))
  by_status true b c = tt
  by_status false true c = tt
  by_status false false true = listed_plain url answer (envelope_in answer.body)
  by_status false false false = tt

pub accepted_plain : (url : List ℕ) (answer : Answer) → Plain (accepted 200 url answer)
accepted_plain url answer = by_test (nat_eq answer.status 200) where
  by_test : (b : Bool) → Plain {A = Answer} (if b then Ok answer else Err (refused_answer 200 url answer))
  by_test true = tt
  by_test false = refused_plain url answer

pub digest_plain : {A : Type 0} (r : Result A _) → Plain (or_digest_error r)
digest_plain (Ok a) = tt
digest_plain (Err e) = tt

pub found_plain : (image : Reference) (got : Got) → Plain (document_in image got)
found_plain image got = into_plain (accepted 200 got.url got.answer) _ (accepted_plain got.url got.answer) (λ answer.
    into_plain (answer_digest image answer) _ (into_plain (header_digest answer.headers) _ (digest_plain _) (λ header. digest_plain _)) (λ digest. tt))

-- ---- documents

type_plain : (o : Option (List ℕ)) → Plain (type_checked o)
type_plain None = tt
type_plain (Some kind) = by_test (is_manifest_type kind) where
  by_test : (b : Bool) → Plain {A = Unit {0}} (if b then Ok tt else Err (refusal.UnsupportedMediaTypeError kind))
  by_test true = tt
  by_test false = tt

version_plain : (body : List ℕ) (o : Option Versioned) → Plain (version_checked body o)
version_plain body None = tt
version_plain body (Some v) = by_test (int_eq v.schema_version (pos 2)) where
  by_test : (b : Bool) → Plain (if b then type_checked v.media_type else Err (refusal.UnsupportedSchemaVersionError v.schema_version))
  by_test true = type_plain v.media_type
  by_test false = tt

one_plain : (body : List ℕ) (o : Option OciManifest) → Plain (or_unread body o)
one_plain body None = tt
one_plain body (Some document) = tt

pub tables_plain : (body : List ℕ) → Plain (tables_read body (plain_of (json_of body)))
tables_plain body =
    elim (plain_of (json_of body)) as (λ o. Plain (tables_read body o)) [
      | None ↦ tt
      | Some d ↦ elim (reads_twice d) as (λ b. Plain (if b then Err (refusal.AmbiguousManifest body) else or_unread body (document_of d))) [ true ↦ tt | false ↦ one_plain body (document_of d) ]
    ]

pub read_document_plain : (body : List ℕ) → Plain (document_read body)
read_document_plain body = into_plain (version_checked body (versioned_in (json_of body))) _ (version_plain body (versioned_in (json_of body))) (λ u. tables_plain body)

-- ---- images

pub named_plain : (entries : List ImageIndexEntry) (o : Option (List ℕ)) → Plain (entry_named entries o)
named_plain entries None = tt
named_plain entries (Some digest) = by_test (lists digest entries) where
  by_test : (b : Bool) → Plain {A = List ℕ} (if b then Ok digest else Err (refusal.ImageManifestNotFoundError digest))
  by_test true = tt
  by_test false = tt

pub meant_plain : (o : Option ResolverPromise) (entries : List ImageIndexEntry) → Plain (entry_found o entries)
meant_plain None entries = tt
meant_plain (Some promise) entries = named_plain entries (resolved promise entries)

pub entry_plain : (digest : List ℕ) (document : OciManifest) → Plain (entry_manifest digest document)
entry_plain digest (Image manifest) = tt
entry_plain digest (ImageIndex index) = tt

pub config_plain : (content : List ℕ) → Plain (config_text content)
config_plain content = by_test (is_utf8 content) where
  by_test : (b : Bool) → Plain {A = List ℕ} (if b then Ok content else Err (refusal.GenericError ConfigNotText))
  by_test true = tt
  by_test false = tt

types_plain : (types : List (List ℕ)) (xs : List OciDescriptor) → Plain (all_accepted types xs)
types_plain types [] = tt
types_plain types (x ∷ xs) = by_test (is_accepted types x.media_type) (types_plain types xs) where
  by_test : (b : Bool) → Plain (all_accepted types xs) → Plain (if b then all_accepted types xs else Err (refusal.IncompatibleLayerMediaTypeError x.media_type))
  by_test true rest = rest
  by_test false rest = tt

pub layers_plain : (types : List (List ℕ)) (xs : List OciDescriptor) → Plain (layers_accepted types xs)
layers_plain types [] = tt
layers_plain types (x ∷ xs) = types_plain types (x ∷ xs)
