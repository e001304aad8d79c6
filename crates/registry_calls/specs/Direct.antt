-- References without a mirror.
use Rattle.std.specs.Prelude.{◌≡◌, ⊤, ℕ, List, Bool, Err}
use Rattle.std.specs.Cmp.{IsEquivalence, on_equiv}
use Rattle.oci_names.specs.declared.parse_error.ParseError.{ParseError}
use Rattle.oci_names.specs.declared.reference.Reference.{Reference}
use Rattle.oci_names.specs.Equalities.{references as equal_references}
use Rattle.oci_names.specs.Reference.{reference_of, is_same}
use Rattle.registry_calls.specs.declared.reference.OciReference.{OciReference}
use Rattle.registry_calls.specs.declared.error.SigstoreError.{SigstoreError}
use Rattle.registry_calls.specs.declared.error.SigstoreError.TheVariants as sigstore

abbrev pub reference_in : OciReference → Reference
reference_in r = r.inner

abbrev pub is_same_reference : OciReference → OciReference → Bool
is_same_reference a b = is_same (reference_in a) (reference_in b)

pub references : IsEquivalence is_same_reference
references = on_equiv reference_in equal_references

-- the text is not a reference, and the refusal holds the text; or memory ran out
abbrev pub NotRead : List ℕ → SigstoreError → Type 0
NotRead text sigstore.WantOfMemory = ⊤
NotRead text e = (e ≡ sigstore.OciReferenceNotValidError text) × (cause : ParseError) × (reference_of text ≡ Err cause)
