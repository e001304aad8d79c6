-- The properties of a call for referrers, which requests a tag if the registry has no list of them.
use Rattle.std.specs.Prelude.{◌≡◌, ◌≢◌, ◌⊎◌, ℕ, false, List, ◌++◌, Option, Some, None, Ok, Err}
use Rattle.url.specs.Parts.{Parts}
use Rattle.oci_transport.specs.Urls.{request_url}
use Rattle.oci_transport.specs.declared.message.Answer.{Answer}
use Rattle.oci_transport.specs.declared.message.Exchange.{Exchange}
use Rattle.oci_names.specs.declared.reference.Reference.{Reference}
use Rattle.oci_names.specs.Reference.{digest_of}
use Rattle.oci_auth.specs.declared.auth_state.AuthState.{AuthState}
use Rattle.oci_manifests.specs.declared.document.OciManifest.TheVariants.{Image}
use Rattle.oci_manifests.specs.declared.manifest.OciImageManifest.{OciImageManifest}
use Rattle.engine_terms.specs.declared.settings.Settings.{Settings}
use Rattle.engine_terms.specs.declared.error.GenericCause.TheVariants.{NoDigest}
use Rattle.engine_terms.specs.declared.error.SpecViolation.TheVariants.{ReferrersTag}
use Rattle.engine_terms.specs.declared.error.OciDistributionError.{OciDistributionError}
use Rattle.engine_terms.specs.declared.error.OciDistributionError.TheVariants as refusal
use Rattle.engine_requests.specs.Addresses.{registry_text}
use Rattle.engine_answers.specs.Documents.{document_read}
use Rattle.engine_answers.specs.Referrers.{referrers_tag, fallback_reference, index_read, is_absent}
use Rattle.engine_requests.specs.ReferrerLists.{referrers_text, with_artifact_type}
use Rattle.engine_requests.specs.Requests.{manifest_types}
use Rattle.engine_rows.specs.Held.{Entry}
use Rattle.engine_rows.specs.Confined.{Within}
use Rattle.engine_rows.specs.Causes.{Act, Reads, Sends, AsksAt, Cause, AnswerCause, DocumentCause, ByLast, BadHeader}
use Rattle.engine_rows.specs.Causes.{OwnDigest, ManifestUrl}

-- the call for the tag, by the client state when it begins; no credentials are passed in
abbrev pub for_tag : Entry → List ℕ → AuthState → Entry
for_tag x digest between = record {
  kept = between;
  image = fallback_reference x.image digest;
  operation = x.operation;
  moment = x.moment;
  handed = None;
}

-- the URL of the registry or of the list is parsed, and the list is requested, possibly restricted to an artifact type
abbrev pub ListUrl : Settings → Reference → List ℕ → Act → Type 0
ListUrl s image digest (Reads text) = (text ≡ registry_text s image) ⊎ (text ≡ referrers_text s image digest)
ListUrl s image digest (Sends request) = (url : Parts) × (request_url (referrers_text s image digest) ≡ Some url)
    × (kind : Option (List ℕ)) × AsksAt s (with_artifact_type kind url) request

-- The response for the list has status 404. The exchanges up to it are confined to the image; P holds for those after
-- it, with the digest and the client state between.
pub record AfterMissing (x : Entry) (s : Settings) (P : List ℕ → AuthState → List Exchange → Type 0)
    (c : List Exchange) : Type 0 where
  pub digest : List ℕ
  pub digest_is : digest_of x.image ≡ Some digest
  pub front : List Exchange
  pub rest : List Exchange
  pub split : c ≡ front ++ rest
  pub missing : ByLast (ListUrl s x.image digest) (λ address answer. answer.status ≡ 404) front
  pub between : AuthState
  pub first : Within x s between front
  pub after : P digest between rest

-- The exchanges are confined to the image and, after the list was missing, to the tag: that is another registry only if
-- the image's mirror is `docker.io`.
abbrev pub WithinReferrers : Entry → Settings → AuthState → List Exchange → Type 0
WithinReferrers x s l c = Within x s l c
    ⊎ AfterMissing x s (λ digest between rest. Within (for_tag x digest between) s l rest) c

-- ---- causes

-- the response's body does not parse as an index, as the refusal states
abbrev pub IsNoIndex : Answer → OciDistributionError → Type 0
IsNoIndex answer e = (answer.status ≡ 200) × (index_read answer.body ≡ Err e)

-- what the list's response shows about a refusal: its body, or its status, which is not 404
abbrev pub ListAnswer : List ℕ → Answer → OciDistributionError → Type 0
ListAnswer address answer (refusal.ManifestParsingError body) = IsNoIndex answer (refusal.ManifestParsingError body)
ListAnswer address answer (refusal.AmbiguousManifest body) = IsNoIndex answer (refusal.AmbiguousManifest body)
ListAnswer address answer (refusal.DigestError e) = ⊥
ListAnswer address answer e = (answer.status ≢ 404) × AnswerCause (λ text. ⊥) address answer e

-- What the tag's response shows: it is a manifest, or not a document, and does not state that the tag does not exist.
abbrev pub TagAnswer : Reference → List ℕ → List ℕ → Answer → OciDistributionError → Type 0
TagAnswer image digest address answer (refusal.SpecViolationError (ReferrersTag tag)) = (tag ≡ referrers_tag digest)
    × (manifest : OciImageManifest) × (document_read answer.body ≡ Ok (Image manifest))
TagAnswer image digest address answer e = (is_absent e ≡ false)
    × DocumentCause (OwnDigest (fallback_reference image digest)) address answer e

-- of the call for the list
pub record ListCause (x : Entry) (s : Settings) (c : List Exchange) (now : ℕ) (e : OciDistributionError) : Type 0 where
  pub digest : List ℕ
  pub digest_is : digest_of x.image ≡ Some digest
  pub cause : Cause (ListUrl s x.image digest) ListAnswer (BadHeader x s manifest_types) s c now e

-- of the call for the tag
abbrev pub TagCause : Entry → Settings → ℕ → OciDistributionError → List ℕ → AuthState → List Exchange → Type 0
TagCause x s now e digest between rest =
    Cause (ManifestUrl s (fallback_reference x.image digest)) (TagAnswer x.image digest)
    (BadHeader (for_tag x digest between) s manifest_types) s rest now e

-- why a call for referrers was refused
abbrev pub ReferrersCause : Entry → Settings → List Exchange → ℕ → OciDistributionError → Type 0
ReferrersCause x s c now (refusal.GenericError NoDigest) = digest_of x.image ≡ None
ReferrersCause x s c now refusal.WantOfMemory = Unit {0}
ReferrersCause x s c now e = ListCause x s c now e ⊎ AfterMissing x s (TagCause x s now e) c
