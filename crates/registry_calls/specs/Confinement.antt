-- Where a client's credentials and tokens are sent in a call.
use Rattle.std.specs.Prelude.{ℕ, Option}
use Rattle.oci_transport.specs.Link.{Link}
use Rattle.oci_names.specs.declared.reference.Reference.{Reference}
use Rattle.oci_auth.specs.declared.auth.RegistryAuth.{RegistryAuth}
use Rattle.oci_protocol.specs.Runs.{Told}
use Rattle.engine_terms.specs.Contexts.{within}
use Rattle.engine_rows.specs.Confined.{Within}
use Rattle.oci_auth.specs.declared.token_type.RegistryOperation.TheVariants.{Push}
use Rattle.engine_rows.specs.Held.{asking, pulling}
use Rattle.engine_rows.specs.ReferrersCauses.{WithinReferrers}
use Rattle.registry_calls.specs.Clients.{Client}

-- If the requests are exposed, credentials and tokens were sent only to the image's registry and to the realm that it
-- names. Each token that is kept afterwards was kept before, or the call may send it and it is kept under the image's
-- repository.
abbrev pub StaysConfined : Client → Client → ℕ → Reference → Option RegistryAuth → Link → Link → Type 0
StaysConfined before after moment image handed old new =
    Told
    (Within (pulling before.kept.0 (within before.settings moment) image handed) before.settings after.kept.0)
    old new

-- The same for a call that may request a tag instead of a list of referrers: from then on also to the tag's registry.
abbrev pub StaysWithTag : Client → Client → ℕ → Reference → Option RegistryAuth → Link → Link → Type 0
StaysWithTag before after moment image handed old new =
    Told
    (WithinReferrers (pulling before.kept.0 (within before.settings moment) image handed) before.settings after.kept.0)
    old new

-- The same for a call that pushes: a token that is kept is kept for pushes.
abbrev pub StaysForPush : Client → Client → ℕ → Reference → Option RegistryAuth → Link → Link → Type 0
StaysForPush before after moment image handed old new =
    Told
    (Within (asking before.kept.0 (within before.settings moment) image Push handed) before.settings after.kept.0)
    old new
