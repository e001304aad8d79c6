-- A reference of these parts.
use Rattle.std.proofs.Common.{◌≡◌, List, Option, Some, None, codes, refl}
use Rattle.oci_names.specs.declared.reference.Reference.{Reference}
use Rattle.pull_generated.specs.Terms.{generated_reference}

pub by_parts : (r : Reference) → r.registry ≡ codes "localhost:5000" → r.mirror ≡ None → r.repository ≡ codes "gen" → r.tag ≡ Some (codes "v1") → r.digest ≡ None → r ≡ generated_reference
by_parts r registry mirror repository tag digest = λ i. record { registry = registry i; mirror = mirror i; repository = repository i; tag = tag i; digest = digest i }
