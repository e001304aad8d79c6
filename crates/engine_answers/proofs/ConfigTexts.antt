-- Which configurations are text.
use Rattle.std.proofs.Common.{◌≡◌, ℕ, Bool, true, false, List, Result, Ok, Err, if◌then◌else◌, refl, ap}
use Rattle.std.specs.Str.{IsUtf8, is_utf8}
use Rattle.std.proofs.lemmas.Str.{IsUtf8-from_is_utf8, is_utf8-from_IsUtf8}
use Rattle.engine_terms.specs.declared.error.GenericCause.TheVariants.{ConfigNotText}
use Rattle.engine_terms.specs.declared.error.OciDistributionError.{OciDistributionError}
use Rattle.engine_terms.specs.declared.error.OciDistributionError.TheVariants as refusal
use Rattle.engine_answers.specs.Index.{config_text}

by_text : List ℕ → Bool → Result (List ℕ) OciDistributionError
by_text content b = if b then Ok content else Err (refusal.GenericError ConfigNotText)

pub text_is : (content : List ℕ) → IsUtf8 content → config_text content ≡ Ok content
unfolding by_text
text_is content spelt = ap (by_text content) (is_utf8-from_IsUtf8 content spelt)

not_text : (content : List ℕ) (b : Bool) → is_utf8 content ≡ b → (IsUtf8 content → ⊥) → by_text content b ≡ Err (refusal.GenericError ConfigNotText)
unfolding by_text
not_text content true said other = absurd (other (IsUtf8-from_is_utf8 content said))
not_text content false said other = refl

pub text_is_not : (content : List ℕ) → (IsUtf8 content → ⊥) → config_text content ≡ Err (refusal.GenericError ConfigNotText)
unfolding by_text
text_is_not content other = not_text content (is_utf8 content) refl other
