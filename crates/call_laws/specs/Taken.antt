-- What the pull of a blob returns.
use Rattle.std.specs.Prelude.{◌≤◌, ℕ, List, length}
use Rattle.oci_transport.specs.declared.message.Exchange.{Exchange}
use Rattle.oci_digests.specs.Names.{Names}
use Rattle.oci_manifests.specs.declared.descriptor.OciDescriptor.{OciDescriptor}
use Rattle.engine_rows.specs.Answered.{Body}
use Rattle.call_laws.specs.Cut.{size_of}

-- The bytes are the blob of the descriptor: the body of a response, which the descriptor's digest names, with at most
-- as many bytes as it states.
pub record IsBlobOf (c : List Exchange) (x : OciDescriptor) (bytes : List ℕ) : Type 0 where
  pub names : Names x.digest bytes
  pub within : length bytes ≤ size_of x
  pub body : Body c bytes
