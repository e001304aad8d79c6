-- What a loop over calls has established about its row.
use Rattle.std.proofs.Common.{Result}
use Rattle.oci_transport.specs.Link.{Link}
use Rattle.engine_terms.specs.declared.settings.Settings.{Settings}
use Rattle.registry_calls.specs.declared.error.SigstoreError.{SigstoreError}
use Rattle.registry_calls.specs.Error.{is_memory}
use Rattle.registry_calls.specs.Clients.{Client, Row, ClientMeets}

-- from the first client to the second, the run of `p` continues as a run of `q`
pub record Leads {A : Type 0} (s : Settings) (p q : Row A) (c d : Client) (old mid : Link) : Type 0 where
  pub made : (e : Client) (new : Link) (r : Result A SigstoreError) → ClientMeets is_memory s q d e mid new r → ClientMeets is_memory s p c e old new r
