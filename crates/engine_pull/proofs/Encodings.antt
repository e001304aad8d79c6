-- What is read from a body that is UTF-8, and from one that is not.
use Rattle.std.proofs.Common.{◌≡◌, ℕ, Bool, true, false, List, Option, Result, Err, if◌then◌else◌, refl, ap}
use Rattle.std.specs.Str.{IsUtf8, is_utf8}
use Rattle.std.proofs.lemmas.Str.{IsUtf8-from_is_utf8, is_utf8-from_IsUtf8}
use Rattle.serde_json.specs.Data.{Data}
use Rattle.json_tables.specs.Plain.{read_plain}
use Rattle.engine_terms.specs.declared.error.OciDistributionError.{OciDistributionError}
use Rattle.engine_terms.specs.declared.error.OciDistributionError.TheVariants as refusal
use Rattle.engine_pull.specs.Listings.{or_unread, list_in}

by_text : {A : Type 0} → (Data → Option A) → List ℕ → Bool → Result A OciDistributionError
by_text table body b = if b then or_unread body (read_plain table body) else Err (refusal.ManifestEncodingError body)

pub text_read : {A : Type 0} (table : Data → Option A) (body : List ℕ) → IsUtf8 body → list_in table body ≡ or_unread body (read_plain table body)
unfolding by_text
text_read table body spelt = ap (by_text table body) (is_utf8-from_IsUtf8 body spelt)

not_text : {A : Type 0} (table : Data → Option A) (body : List ℕ) (b : Bool) → is_utf8 body ≡ b → (IsUtf8 body → ⊥) → by_text table body b ≡ Err (refusal.ManifestEncodingError body)
unfolding by_text
not_text table body true said other = absurd (other (IsUtf8-from_is_utf8 body said))
not_text table body false said other = refl

pub other_read : {A : Type 0} (table : Data → Option A) (body : List ℕ) → (IsUtf8 body → ⊥) → list_in table body ≡ Err (refusal.ManifestEncodingError body)
unfolding by_text
other_read table body other = not_text table body (is_utf8 body) refl other
