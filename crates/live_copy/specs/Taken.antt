-- What the refusal of a target states, and where credentials were sent.
use Rattle.std.specs.Prelude.{◌≡◌, ◌⊎◌, ℕ, false, List, ◌++◌, Option, Some, None, Result, Ok, Err}
use Rattle.oci_auth.specs.declared.auth.RegistryAuth.{RegistryAuth}
use Rattle.oci_auth.specs.declared.auth_state.AuthState.{AuthState}
use Rattle.oci_names.specs.Reference.{whole_text}
use Rattle.oci_names.specs.declared.reference.Reference.{Reference}
use Rattle.oci_protocol.specs.Runs.{Performs, Told}
use Rattle.oci_transport.specs.Link.{Link}
use Rattle.oci_transport.specs.declared.message.Exchange.{Exchange}
use Rattle.engine_requests.specs.Requests.{manifest_types}
use Rattle.engine_rows.specs.Causes.{AnswerCause, BadHeader, Cause, ManifestUrl, OwnDigest}
use Rattle.engine_rows.specs.Confined.{Within}
use Rattle.engine_rows.specs.Held.{pulling}
use Rattle.engine_rows.specs.Pulls.{fetch_manifest_digest}
use Rattle.engine_terms.specs.Contexts.{Context}
use Rattle.engine_terms.specs.Error.{is_memory}
use Rattle.engine_terms.specs.declared.error.OciDistributionError.{OciDistributionError}
use Rattle.engine_terms.specs.declared.error.OciDistributionError.TheVariants as engine
use Rattle.cosign_chain.specs.declared.verified_documents.VerifiedDocuments.{VerifiedDocuments}
use Rattle.cosign_parts.specs.declared.layer.LayerKind.TheVariants.{Payload}
use Rattle.live_copy.specs.FreeTargets.{document_tag, is_unknown, signature_tag, tag_asked}
use Rattle.live_copy.specs.declared.questions.TagPush.{TagPush}
use Rattle.live_copy.specs.declared.refusals.TargetRefusal.{TargetRefusal}
use Rattle.live_copy.specs.declared.refusals.TargetRefusal.TheVariants.{Taken, Unread, WantOfMemory}

-- ---- the result as the row has it

abbrev pub taken_of : Result (Unit {0}) TargetRefusal → Result (Option (List ℕ)) OciDistributionError
taken_of (Ok u) = Ok None
taken_of (Err (Taken reference digest)) = Ok (Some digest)
taken_of (Err (Unread reference error)) = Err error
taken_of (Err WantOfMemory) = Err engine.WantOfMemory

-- ---- what a refusal states about one tag

-- the question what the tag names was answered with this digest, which is not that of what would be pushed under it
pub record NamesOther (s : Context) (a : RegistryAuth) (tag : TagPush) (old new : Link) (k l : AuthState)
    (digest : List ℕ) : Type 0 where
  pub answered : Performs (fetch_manifest_digest s tag.reference a) old new k l (Ok digest)
  pub other : digest ≡ tag.digest → ⊥

-- the cause of a refused question about what a reference names (`DigestRefused` of `oci_engine`), from this client
-- state on
abbrev pub QuestionCause : AuthState → Context → Reference → RegistryAuth → List Exchange → ℕ → OciDistributionError
    → Type 0
QuestionCause k s image a c now e = Cause (ManifestUrl s.settings image) (AnswerCause (OwnDigest image))
    (BadHeader (pulling k s image (Some a)) s.settings manifest_types) s.settings c now e

-- the question was refused with this error, which has its cause in the question's exchanges, and is neither that memory
-- ran out nor a registry's statement that nothing exists under the tag
pub record IsUnread (s : Context) (a : RegistryAuth) (tag : TagPush) (old new : Link) (k l : AuthState)
    (e : OciDistributionError) : Type 0 where
  pub refused : Performs (fetch_manifest_digest s tag.reference a) old new k l (Err e)
  pub cause : Told (λ c. QuestionCause k s tag.reference a c new.faults e) old new
  pub no_memory : is_memory e ≡ false
  pub known : is_unknown e ≡ false

-- the refusal is about this tag
abbrev pub IsOfTag : Context → RegistryAuth → TagPush → Link → Link → AuthState → AuthState → TargetRefusal → Type 0
IsOfTag s a tag old new k l (Taken reference digest) =
    (reference ≡ whole_text tag.reference) × NamesOther s a tag old new k l digest
IsOfTag s a tag old new k l (Unread reference error) =
    (reference ≡ whole_text tag.reference) × IsUnread s a tag old new k l error
IsOfTag s a tag old new k l WantOfMemory = Unit {0}

-- ---- about one of the two

-- the document's tag may be pushed, and the refusal is about the tag of its signature, which is a payload
pub record IsOfSignature (s : Context) (target : Reference) (a : RegistryAuth) (d : VerifiedDocuments) (old new : Link)
    (k l : AuthState) (e : TargetRefusal) : Type 0 where
  pub mid : Link
  pub between : AuthState
  pub free : Performs (tag_asked s a (document_tag d target)) old mid k between (Ok None)
  pub payload : d.signature.kind ≡ Payload
  pub signature : IsOfTag s a (signature_tag d target) mid new between l e

abbrev pub IsOfTarget : Context → Reference → RegistryAuth → VerifiedDocuments → Link → Link → AuthState → AuthState
    → TargetRefusal → Type 0
IsOfTarget s target a d old new k l e =
    IsOfTag s a (document_tag d target) old new k l e ⊎ IsOfSignature s target a d old new k l e

-- ---- credentials

-- Each question sends credentials and tokens as a pull does: only to the target's registry and to the realm that it
-- names.
pub record TagsWithin (k : AuthState) (s : Context) (target signature : Reference) (a : RegistryAuth) (l : AuthState)
    (c : List Exchange) : Type 0 where
  pub first : List Exchange
  pub second : List Exchange
  pub split : c ≡ first ++ second
  pub between : AuthState
  pub document_question : Within (pulling k s target (Some a)) s.settings between first
  pub signature_question : Within (pulling between s signature (Some a)) s.settings l second
