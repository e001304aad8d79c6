-- What is found in a payload and in a bundle.
use Rattle.std.proofs.Common.{◌≡◌, ℕ, List, Option, Some, None, unwrap_or, refl, ap, ◌∙◌}
use Rattle.std.specs.Prelude.{option_map}
use Rattle.cosign_parts.specs.Payload.{content_of}
use Rattle.json_tables.specs.Reading.{◌>>=◌}
use Rattle.json_values.specs.JsonText.{plain_json_of}
use Rattle.serde_json.specs.Data.{Data}
use Rattle.cosign_parts.specs.Bundle.{read_or_not, envelope_of, held_with, held_by, held_in, subjects_of}
use Rattle.cosign_parts.specs.LogEntry.{annotated_entry}
use Rattle.cosign_parts.specs.Shown.{Notes, noted_entry, payload_shown, shown}
use Rattle.cosign_parts.specs.Shown.{bundle_shown, shown_with, shown_by_bundle, shown_in_bundle}
use Rattle.cosign_parts.specs.declared.bundle.BundleParts.{BundleParts}
use Rattle.cosign_parts.specs.declared.bundle.Envelope.{Envelope}
use Rattle.cosign_parts.specs.declared.log_entry.LogEntryBundle.{LogEntryBundle}
use Rattle.cosign_parts.specs.declared.shown.Found.{Found}
use Rattle.cosign_parts.specs.declared.layer.LayerKind.TheVariants.{Payload}
use Rattle.cosign_parts.specs.declared.layer.SimpleSigning.{SimpleSigning}
use Rattle.cosign_parts.specs.declared.shown.Shown.{Shown as Shows}
use Rattle.cosign_parts.specs.declared.shown.Subject.{Subject}

pub payload_is : (content : List ℕ) (notes : Notes) (signing : SimpleSigning) (found : Shows) → Some signing ≡ content_of content → found ≡ payload_shown notes signing → Some found ≡ shown Payload content notes
payload_is content notes signing found is made = ap Some made ∙ ap (option_map (payload_shown notes)) is

pub no_payload : (content : List ℕ) (notes : Notes) → None ≡ content_of content → None ≡ shown Payload content notes
no_payload content notes is = ap (option_map (payload_shown notes)) is

pub noted : (o : Option (List ℕ)) (text : List ℕ) (found : Found LogEntryBundle) → Some text ≡ o → found ≡ read_or_not (annotated_entry text) → found ≡ noted_entry o
noted o text found same is = is ∙ ap noted_entry same

-- ---- a bundle, by its parts

module _ (parts : BundleParts) (subjects : List Subject) where
  by_envelope : (d : Data) (o : Option Envelope) → Some parts ≡ option_map (held_with d) o
      → Some subjects ≡ subjects_of parts.payload
      → Some (shown_with parts subjects) ≡ option_map (bundle_shown d) (o >>= λ e. subjects_of e.payload)
  by_envelope d None e f = absurd (cc)
  by_envelope d (Some envelope) e f =
      let same : parts ≡ held_with d envelope = ap (λ o. unwrap_or o parts) e in
      ap (λ p. Some (shown_with p subjects)) same
      ∙ ap (option_map (bundle_shown d)) (f ∙ ap (λ p. subjects_of p.payload) same)

  by_parts : (o : Option Data) → Some parts ≡ (o >>= held_by) → Some subjects ≡ subjects_of parts.payload
      → Some (shown_with parts subjects) ≡ (o >>= shown_by_bundle)
  by_parts None e f = absurd (cc)
  by_parts (Some d) e f = by_envelope d (envelope_of d) e f

  pub bundle : (content : List ℕ) (found : Shows) → Some parts ≡ held_in content
      → Some subjects ≡ subjects_of parts.payload → found ≡ shown_with parts subjects
      → Some found ≡ shown_in_bundle content
  bundle content found e f made = ap Some made ∙ by_parts (plain_json_of content) e f

no_envelope : (d : Data) (o : Option Envelope) → None ≡ option_map (held_with d) o
    → None ≡ option_map (bundle_shown d) (o >>= λ e. subjects_of e.payload)
no_envelope d None e = refl
no_envelope d (Some envelope) e = absurd (cc)

no_parts : (o : Option Data) → None ≡ (o >>= held_by) → None ≡ (o >>= shown_by_bundle)
no_parts None e = refl
no_parts (Some d) e = no_envelope d (envelope_of d) e

pub no_bundle : (content : List ℕ) → None ≡ held_in content → None ≡ shown_in_bundle content
no_bundle content e = no_parts (plain_json_of content) e

module _ (parts : BundleParts) where
  no_subjects : (d : Data) (o : Option Envelope) → Some parts ≡ option_map (held_with d) o
      → None ≡ subjects_of parts.payload
      → None ≡ option_map (bundle_shown d) (o >>= λ e. subjects_of e.payload)
  no_subjects d None e f = refl
  no_subjects d (Some envelope) e f =
      let same : parts ≡ held_with d envelope = ap (λ o. unwrap_or o parts) e in
      ap (option_map (bundle_shown d)) (f ∙ ap (λ p. subjects_of p.payload) same)

  none_by_parts : (o : Option Data) → Some parts ≡ (o >>= held_by) → None ≡ subjects_of parts.payload
      → None ≡ (o >>= shown_by_bundle)
  none_by_parts None e f = refl
  none_by_parts (Some d) e f = no_subjects d (envelope_of d) e f

  pub no_subject : (content : List ℕ) → Some parts ≡ held_in content → None ≡ subjects_of parts.payload
      → None ≡ shown_in_bundle content
  no_subject content e f = none_by_parts (plain_json_of content) e f
