-- The references that the search and the pull request, in the image's repository.
use Rattle.std.specs.Prelude.{ℕ, Bool, true, false, if◌then◌else◌, List, ◌++◌, ◌==◌, map, Some, None, Result, Ok, Err}
use Rattle.std.specs.Prelude.{codes, chars, encode_utf8_all}
use Rattle.oci_names.specs.declared.reference.Reference.{Reference}
use Rattle.oci_names.specs.Reference.{registry_of, repository_of, whole_text, reads_back}
use Rattle.registry_calls.specs.declared.error.SigstoreError.{SigstoreError}
use Rattle.registry_calls.specs.declared.error.SigstoreError.TheVariants as sigstore

-- a dash replaces each colon
abbrev pub dashed : ℕ → ℕ
dashed c = if c == 58 then 45 else c

abbrev pub with_dashes : List ℕ → List ℕ
with_dashes text = encode_utf8_all (map dashed (chars text))

-- the signature tag of a digest: dashes for its colons, followed by `.sig`
abbrev pub signature_tag : List ℕ → List ℕ
signature_tag digest = with_dashes digest ++ codes ".sig"

-- the reference of the signatures' manifest, in the image's repository
abbrev pub tag_reference : Reference → List ℕ → Reference
tag_reference image digest = record {
  registry = registry_of image;
  mirror = None;
  repository = repository_of image;
  tag = Some (signature_tag digest);
  digest = None;
}

-- the image by a digest
abbrev pub digest_reference : Reference → List ℕ → Reference
digest_reference image digest = record {
  registry = registry_of image;
  mirror = None;
  repository = repository_of image;
  tag = None;
  digest = Some digest;
}

abbrev pub or_not_valid : Reference → Bool → Result (Unit {0}) SigstoreError
or_not_valid image true = Ok tt
or_not_valid image false = Err (sigstore.OciReferenceNotValidError (whole_text image))

-- a reference that round-trips
abbrev pub reading_back : Reference → Result (Unit {0}) SigstoreError
reading_back image = or_not_valid image (reads_back image)
