-- What the built-in constraints accept.
use Rattle.std.specs.Prelude.{ℕ, List, Bool, false, ◌&&◌, Option, Some, None, option_and_then}
use Rattle.std.specs.FinMap.{FinMap, entries}
use Rattle.std.specs.List.{list_all}
use Rattle.std.specs.declared.alloc.Global.{Global}
use Rattle.std.specs.declared.dyn_box.DynBox.{DynBox}
use Rattle.json_values.specs.Places.{by_bytes}
use Rattle.serde_json.specs.Data.{Data}
use Rattle.serde_json.specs.Find.{get, as_str}
use Rattle.cosign_parts.specs.declared.certificate.CertificateSignature.{CertificateSignature}
use Rattle.cosign_layers.specs.declared.constraint.Constraint.{Constraint}
use Rattle.cosign_layers.specs.declared.constraint.Constraint.TheVariants.{Annotations, Email, Url, Statements, Own}
use Rattle.cosign_parts.specs.declared.layer.SignatureLayer.{SignatureLayer}
use Rattle.cosign_parts.specs.declared.layer.SimpleSigning.{SimpleSigning}
use Rattle.cosign_layers.specs.declared.subject.CertSubjectEmailVerifier.{CertSubjectEmailVerifier}
use Rattle.cosign_layers.specs.declared.subject.CertSubjectUrlVerifier.{CertSubjectUrlVerifier}
use Rattle.cosign_layers.specs.Statement.{has_statement}
use Rattle.cosign_layers.specs.Subject.{is_text, has_issuer}
use Rattle.cosign_parts.specs.Items.{has_no_item}

-- the data has a member of this name with this string
abbrev pub has_text_member : Data → List ℕ × List ℕ → Bool
has_text_member d pair = is_text pair.1 (option_and_then as_str (get pair.0 d))

-- each pair is a string member of `optional`; without a payload no pair is
abbrev pub has_annotations : FinMap by_bytes (List ℕ) → Option SimpleSigning → Bool
has_annotations pairs None = has_no_item (entries pairs)
has_annotations pairs (Some signing) = list_all (has_text_member signing.optional) (entries pairs)

-- the layer has a certificate that is vouched for with this email and issuer
abbrev pub has_email : CertSubjectEmailVerifier → Option CertificateSignature → Bool
has_email asked None = false
has_email asked (Some c) = is_text asked.email c.vouched.email && has_issuer asked.issuer c.vouched.issuer

-- the layer has a certificate that is vouched for with this URL and issuer
abbrev pub has_url : CertSubjectUrlVerifier → Option CertificateSignature → Bool
has_url asked None = false
has_url asked (Some c) = is_text asked.url c.vouched.url && is_text asked.issuer c.vouched.issuer

-- a constraint accepts what the value that it holds accepts; `own` is the verdict of a custom constraint
abbrev pub accepts : {V : Type 0} {H : V → Type 0} → (DynBox V Global H → SignatureLayer → Bool) → Constraint V H
    → SignatureLayer → Bool
accepts own (Annotations a) layer = has_annotations a.annotations layer.simple_signing
accepts own (Email asked) layer = has_email asked layer.certificate_signature
accepts own (Url asked) layer = has_url asked layer.certificate_signature
accepts own (Statements types) layer = has_statement types layer.kind layer.content
accepts own (Own b) layer = own b layer
