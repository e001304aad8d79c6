-- Errors that hold similar values: a variant's name followed by their print is the error's print.
use Rattle.std.proofs.Common.{◌≡◌, ℕ, List, [], ◌∷◌, ◌⊎◌, ⊎_elim, refl, sym, ap, subst, ◌∙◌}
use Rattle.engine_terms.specs.Error.{name_of}
use Rattle.engine_terms.specs.declared.error.OciDistributionError.{OciDistributionError}
use Rattle.engine_terms.specs.declared.error.OciDistributionError.TheVariants as refusal
use Rattle.pull_report.specs.Words.{spaced}
use Rattle.pull_report.specs.Prints.{bytes_print, distribution_print}

-- a name followed by the number of bytes is the error's print
abbrev pub Counts : List ℕ → List ℕ → OciDistributionError → Type 0
Counts bytes name error = spaced (name ∷ bytes_print bytes ∷ []) ≡ distribution_print error

module _ (error : OciDistributionError) (name bytes : List ℕ) (named : name ≡ name_of error) where
  same : (variant : OciDistributionError) → Counts bytes (name_of variant) variant → error ≡ variant
      → Counts bytes name error
  same variant counts e =
      ap (λ n. spaced (n ∷ bytes_print bytes ∷ [])) named ∙ subst (λ x. Counts bytes (name_of x) x) (sym e) counts

  pub with_document : (error ≡ refusal.AmbiguousManifest bytes) ⊎ ((error ≡ refusal.ConfigConversionError bytes)
      ⊎ ((error ≡ refusal.HeaderValueError bytes)
      ⊎ ((error ≡ refusal.JsonError bytes) ⊎ ((error ≡ refusal.ManifestEncodingError bytes)
      ⊎ ((error ≡ refusal.ManifestParsingError bytes) ⊎ (error ≡ refusal.VersionedParsingError bytes))))))
      → Counts bytes name error
  with_document is =
      ⊎_elim (same _ refl) (⊎_elim (same _ refl) (⊎_elim (same _ refl) (⊎_elim (same _ refl)
      (⊎_elim (same _ refl) (⊎_elim (same _ refl) (same _ refl)))))) is

  pub with_body : (error ≡ refusal.AuthenticationFailure bytes) ⊎ (error ≡ refusal.RegistryTokenDecodeError bytes)
      → Counts bytes name error
  with_body is = ⊎_elim (same _ refl) (same _ refl) is
