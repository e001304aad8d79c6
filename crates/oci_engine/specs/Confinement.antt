-- Where a client's credentials and tokens go in a call.
use Rattle.std.specs.Prelude.{ℕ, Option, None}
use Rattle.oci_transport.specs.Link.{Link}
use Rattle.oci_names.specs.declared.reference.Reference.{Reference}
use Rattle.oci_auth.specs.declared.auth.RegistryAuth.{RegistryAuth}
use Rattle.oci_auth.specs.declared.token_type.RegistryOperation.{RegistryOperation}
use Rattle.oci_auth.specs.declared.token_type.RegistryOperation.TheVariants.{Pull}
use Rattle.oci_protocol.specs.Runs.{Told}
use Rattle.engine_rows.specs.Confined.{Within}
use Rattle.engine_rows.specs.Held.{asking, pulling}
use Rattle.engine_rows.specs.ReferrersCauses.{WithinReferrers}
use Rattle.oci_engine.specs.declared.client.Client.{Client}
use Rattle.oci_engine.specs.Kept.{auth_state_of}
use Rattle.oci_engine.specs.Refusals.{at_moment}

-- Each exposed request sends credentials and tokens only to the image's registry and to the realm that it names. They
-- are those that the client stores for it, that are passed in, or that a response contained. Each token that is stored
-- afterwards was stored before, or is one of these and is stored under the image's registry, its repository and the
-- operation.
abbrev pub StaysFor : RegistryOperation → Client → Client → ℕ → Reference → Option RegistryAuth → Link → Link
    → Type 0
StaysFor op before after moment image handed old new =
    Told
    (Within (asking (auth_state_of before) (at_moment before moment) image op handed) before.settings
    (auth_state_of after))
    old new

-- of a call that pulls
abbrev pub StaysConfined : Client → Client → ℕ → Reference → Option RegistryAuth → Link → Link → Type 0
StaysConfined before after moment image handed old new = StaysFor Pull before after moment image handed old new

-- of a call for referrers, to which no credentials are passed: to the image's registry and, after the list was missing,
-- to the tag's
abbrev pub StaysWithTag : Client → Client → ℕ → Reference → Link → Link → Type 0
StaysWithTag before after moment image old new =
    Told
    (WithinReferrers
    (pulling (auth_state_of before) (at_moment before moment) image None) before.settings (auth_state_of after))
    old new
