-- Constraints of a policy as written in a case.
use Rattle.std.specs.Prelude.{[], ◌∷◌, Option, Some, option_map, codes}
use Rattle.std.specs.Option.{option_or}
use Rattle.serde_json.specs.Data.{Data}
use Rattle.json_tables.specs.Reading.{◌>>=◌, text_of, map_of}
use Rattle.json_tables.specs.Objects.{only}
use Rattle.json_tables.specs.Member.{required}
use Rattle.cosign_layers.specs.declared.constraint.AnnotationVerifier.{AnnotationVerifier}
use Rattle.cosign_layers.specs.declared.subject.CertSubjectEmailVerifier.{CertSubjectEmailVerifier}
use Rattle.cosign_layers.specs.declared.subject.CertSubjectUrlVerifier.{CertSubjectUrlVerifier}
use Rattle.recorded_case.specs.Members.{null_or}
use Rattle.recorded_case.specs.declared.constraint.WrittenConstraint.{WrittenConstraint}
use Rattle.recorded_case.specs.declared.constraint.WrittenConstraint.TheVariants.{Annotations, Email, Url}

-- pairs that a payload must contain
unfoldable pub annotations_of : Data → Option AnnotationVerifier
annotations_of d = do
  known ← only (codes "annotations" ∷ []) d
  annotations ← required (map_of text_of) (codes "annotations") d
  Some (record { annotations = annotations })

-- an email and its issuer; null accepts every issuer
unfoldable pub email_of : Data → Option CertSubjectEmailVerifier
email_of d = do
  known ← only (codes "email" ∷ codes "issuer" ∷ []) d
  email ← required text_of (codes "email") d
  issuer ← required (null_or text_of) (codes "issuer") d
  Some (record { email = email; issuer = issuer })

-- a URL and its issuer
unfoldable pub url_of : Data → Option CertSubjectUrlVerifier
url_of d = do
  known ← only (codes "url" ∷ codes "issuer" ∷ []) d
  url ← required text_of (codes "url") d
  issuer ← required text_of (codes "issuer") d
  Some (record { url = url; issuer = issuer })

-- a constraint on a certificate's subject
abbrev pub subject_of : Data → Option WrittenConstraint
subject_of d = option_or (option_map Email (email_of d)) (option_map Url (url_of d))

-- a constraint in one of the three forms
unfoldable pub constraint_of : Data → Option WrittenConstraint
constraint_of d = option_or (option_map Annotations (annotations_of d)) (subject_of d)
