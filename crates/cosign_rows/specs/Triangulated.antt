-- The location of an image's signatures: the reference of its digest's signature tag, with the digest.
use Rattle.std.specs.Prelude.{ℕ, List, Result, Ok, Err}
use Rattle.oci_names.specs.declared.reference.Reference.{Reference}
use Rattle.oci_auth.specs.declared.auth.RegistryAuth.{RegistryAuth}
use Rattle.oci_protocol.specs.Proto.{Done, bind, ◌>>=◌}
use Rattle.engine_terms.specs.Contexts.{Context}
use Rattle.registry_calls.specs.declared.error.SigstoreError.{SigstoreError}
use Rattle.registry_calls.specs.declared.reference.OciReference.{OciReference}
use Rattle.registry_calls.specs.Calls.{digest_call}
use Rattle.registry_calls.specs.Clients.{Row}
use Rattle.registry_calls.specs.Direct.{reference_in}
use Rattle.cosign_rows.specs.References.{tag_reference}

unfoldable pub triangulated : Context → Reference → RegistryAuth → Row (Reference × List ℕ)
triangulated s image a = do
  digest ← digest_call s image a
  Done (Ok (tag_reference image digest, digest))

-- a result with the reference itself
abbrev pub tag_shown : Result (OciReference × List ℕ) SigstoreError → Result (Reference × List ℕ) SigstoreError
tag_shown (Ok found) = Ok (reference_in found.0, found.1)
tag_shown (Err e) = Err e
