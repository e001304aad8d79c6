-- The row of the questions about a target's tags: what each names is requested, and compared with what would be pushed
-- under it.
use Rattle.std.specs.Prelude.{ℕ, Bool, true, false, List, Option, Some, None, Result, Ok, Err, bytes_eq, nat_eq}
use Rattle.std.specs.List.{list_any}
use Rattle.oci_auth.specs.declared.auth.RegistryAuth.{RegistryAuth}
use Rattle.oci_digests.specs.Names.{digest_text}
use Rattle.oci_errors.specs.declared.envelope.OciError.{OciError}
use Rattle.oci_errors.specs.declared.error_code.OciErrorCode.{OciErrorCode}
use Rattle.oci_errors.specs.declared.error_code.OciErrorCode.TheVariants.{ManifestUnknown, NameUnknown, NotFound}
use Rattle.oci_names.specs.declared.algorithm.Algorithm.TheVariants.{Sha256}
use Rattle.oci_names.specs.declared.reference.Reference.{Reference}
use Rattle.oci_protocol.specs.Proto.{Done, bind, ◌>>=◌}
use Rattle.engine_rows.specs.Pulls.{fetch_manifest_digest}
use Rattle.engine_rows.specs.Rows.{Row}
use Rattle.engine_terms.specs.Contexts.{Context}
use Rattle.engine_terms.specs.declared.error.OciDistributionError.{OciDistributionError}
use Rattle.engine_terms.specs.declared.error.OciDistributionError.TheVariants as engine
use Rattle.cosign_chain.specs.declared.verified_documents.VerifiedDocuments.{VerifiedDocuments}
use Rattle.cosign_parts.specs.declared.layer.LayerKind.{LayerKind}
use Rattle.cosign_parts.specs.declared.layer.LayerKind.TheVariants.{Payload, Bundle}
use Rattle.cosign_rows.specs.References.{tag_reference}
use Rattle.pull_mirror.specs.Signatures.{signature_text}
use Rattle.live_copy.specs.declared.questions.TagPush.{TagPush}

-- ---- what would be pushed

-- the document that was signed, under the target's tag
abbrev pub document_tag : VerifiedDocuments → Reference → TagPush
document_tag d target = record { reference = target; digest = d.digest }

-- the manifest of its signature, under the signature tag of the signed digest
abbrev pub signature_tag : VerifiedDocuments → Reference → TagPush
signature_tag d target = record {
  reference = tag_reference target d.digest;
  digest = digest_text Sha256 (signature_text d.signature d.digest d.first);
}

-- ---- what a registry states about a tag

-- a code that states that a manifest or a repository does not exist
abbrev pub is_unknown_code : OciErrorCode → Bool
is_unknown_code ManifestUnknown = true
is_unknown_code NameUnknown = true
is_unknown_code NotFound = true
is_unknown_code _ = false

abbrev pub is_unknown_error : OciError → Bool
is_unknown_error e = is_unknown_code e.code

-- nothing exists under the tag: such a code, or the status 404 without a list of errors
abbrev pub is_unknown : OciDistributionError → Bool
is_unknown (engine.RegistryError envelope url) = list_any is_unknown_error envelope.errors
is_unknown (engine.ServerError status url body) = nat_eq status 404
is_unknown _ = false

abbrev pub unless_same : Bool → List ℕ → Option (List ℕ)
unless_same true digest = None
unless_same false digest = Some digest

abbrev pub unless_unknown : Bool → OciDistributionError → Result (Option (List ℕ)) OciDistributionError
unless_unknown true e = Ok None
unless_unknown false e = Err e

-- another digest under the tag than this one, if there is one
abbrev pub other_digest : List ℕ → Result (List ℕ) OciDistributionError → Result (Option (List ℕ)) OciDistributionError
other_digest own (Ok digest) = Ok (unless_same (bytes_eq digest own) digest)
other_digest own (Err e) = unless_unknown (is_unknown e) e

-- ---- requests

abbrev pub told_other : List ℕ → Result (List ℕ) OciDistributionError → Row (Option (List ℕ))
told_other own r = Done (other_digest own r)

-- the digest that a tag names in place of what would be pushed under it, if there is one
unfoldable pub tag_asked : Context → RegistryAuth → TagPush → Row (Option (List ℕ))
tag_asked s a tag = bind (fetch_manifest_digest s tag.reference a) (told_other tag.digest)

-- the same of a signature's tag; a bundle is not pushed under a tag
abbrev pub signature_asked : Context → RegistryAuth → LayerKind → TagPush → Row (Option (List ℕ))
signature_asked s a Payload tag = tag_asked s a tag
signature_asked s a Bundle tag = Done (Ok None)

abbrev pub unless_taken : Row (Option (List ℕ)) → Option (List ℕ) → Row (Option (List ℕ))
unless_taken next (Some digest) = Done (Ok (Some digest))
unless_taken next None = next

-- of the document's tag, and then of its signature's
unfoldable pub target_free : Context → Reference → RegistryAuth → VerifiedDocuments → Row (Option (List ℕ))
target_free s target a d = do
  other ← tag_asked s a (document_tag d target)
  unless_taken (signature_asked s a d.signature.kind (signature_tag d target)) other
