-- What is found in the content and annotations of a layer, before any signature is verified.
use Rattle.std.specs.Prelude.{ℕ, List, [], Bool, bytes_eq, codes, Option, Some, None, option_map}
use Rattle.std.specs.FinMap.{FinMap, get}
use Rattle.std.specs.List.{list_any}
use Rattle.json_tables.specs.Reading.{◌>>=◌}
use Rattle.json_values.specs.JsonText.{plain_json_of}
use Rattle.json_values.specs.Places.{by_bytes}
use Rattle.serde_json.specs.Data.{Data}
use Rattle.cosign_parts.specs.Bundle.{statement_of, signature_at, certificate_at, entry_at, read_or_not, has_digest}
use Rattle.cosign_parts.specs.LogEntry.{annotated_entry}
use Rattle.cosign_parts.specs.Payload.{content_of}
use Rattle.cosign_parts.specs.declared.bundle.BundleParts.{BundleParts}
use Rattle.cosign_parts.specs.declared.layer.LayerKind.{LayerKind}
use Rattle.cosign_parts.specs.declared.layer.LayerKind.TheVariants as kinds
use Rattle.cosign_parts.specs.declared.layer.SimpleSigning.{SimpleSigning}
use Rattle.cosign_parts.specs.declared.log_entry.LogEntryBundle.{LogEntryBundle}
use Rattle.cosign_parts.specs.declared.shown.Found.{Found}
use Rattle.cosign_parts.specs.declared.shown.Found.TheVariants.{Absent, Read}
use Rattle.cosign_parts.specs.declared.shown.Shown.{Shown}
use Rattle.cosign_parts.specs.declared.shown.Subject.{Subject}

abbrev pub Notes : Type 0
Notes = FinMap by_bytes (List ℕ)

-- the log entry in the annotations of a payload
abbrev pub noted_entry : Option (List ℕ) → Found LogEntryBundle
noted_entry None = Absent
noted_entry (Some text) = read_or_not (annotated_entry text)

-- the certificate in the annotations of a payload
abbrev pub noted_certificate : Option (List ℕ) → Found (List ℕ)
noted_certificate None = Absent
noted_certificate (Some text) = Read text

-- the findings in a payload and its annotations
abbrev pub payload_shown : Notes → SimpleSigning → Shown
payload_shown notes signing = record {
  signing = Some signing;
  subjects = [];
  signature = get notes (codes "dev.cosignproject.cosign/signature");
  log_entry = noted_entry (get notes (codes "dev.sigstore.cosign/bundle"));
  certificate = noted_certificate (get notes (codes "dev.sigstore.cosign/certificate"));
}

-- the findings in a bundle about these subjects
abbrev pub bundle_shown : Data → List Subject → Shown
bundle_shown d subjects = record {
  signing = None;
  subjects = subjects;
  signature = signature_at d;
  log_entry = entry_at d;
  certificate = certificate_at d;
}

-- the findings in a value as a bundle
abbrev pub shown_by_bundle : Data → Option Shown
shown_by_bundle d = option_map (bundle_shown d) (statement_of d)

-- the findings in bytes as a bundle
abbrev pub shown_in_bundle : List ℕ → Option Shown
shown_in_bundle content = plain_json_of content >>= shown_by_bundle

-- for private clauses: the same from a bundle's parts
abbrev pub shown_with : BundleParts → List Subject → Shown
shown_with parts subjects = record {
  signing = None;
  subjects = subjects;
  signature = parts.signature;
  log_entry = parts.log_entry;
  certificate = parts.certificate;
}

-- the findings in a layer, if its content has the form of its kind
abbrev pub shown : LayerKind → List ℕ → Notes → Option Shown
shown kinds.Payload content notes = option_map (payload_shown notes) (content_of content)
shown kinds.Bundle content notes = shown_in_bundle content

-- whether a payload has this digest, or else one of the subjects has it
abbrev pub is_about_by : List ℕ → Option SimpleSigning → List Subject → Bool
is_about_by d (Some signing) subjects = bytes_eq signing.docker_manifest_digest d
is_about_by d None subjects = list_any (has_digest d) subjects

-- whether the layer with these findings is about the image of this digest
abbrev pub is_about : List ℕ → Shown → Bool
is_about d s = is_about_by d s.signing s.subjects
