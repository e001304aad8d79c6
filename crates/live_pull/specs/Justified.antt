-- Properties of the conversations of a live pull.
use Rattle.std.specs.Prelude.{ℕ, List, Some, Result, Ok, Err}
use Rattle.oci_names.specs.declared.reference.Reference.{Reference}
use Rattle.oci_auth.specs.declared.auth.RegistryAuth.{RegistryAuth}
use Rattle.oci_transport.specs.declared.message.Exchange.{Exchange}
use Rattle.engine_terms.specs.Contexts.{Context}
use Rattle.engine_rows.specs.Confined.{Within}
use Rattle.engine_rows.specs.Held.{pulling}
use Rattle.registry_calls.specs.Clients.{Kept}
use Rattle.cosign_layers.specs.Satisfying.{PolicyContext}
use Rattle.cosign_chain.specs.Chain.{Chain}
use Rattle.cosign_chain.specs.declared.image.VerifiedImage.{VerifiedImage}
use Rattle.cosign_rows.specs.Causes.{PullCause}
use Rattle.cosign_rows.specs.Snapshots.{snapshot}
use Rattle.cosign_rows.specs.Sound.{Backed}
use Rattle.cosign_rows.specs.declared.refusal.PullRefusal.{PullRefusal}
use Rattle.live_host.specs.Wire.{Wire}
use Rattle.live_pull.specs.Pulls.{Carries}

-- what was sent and received are the frames of exchanges with the property `P`
abbrev pub Shown : (List Exchange → Type 0) → Wire → Wire → Type 0
Shown P old new = (c : List Exchange) × Carries c old new × P c

-- credentials and tokens were sent only to the image's registry and to the realm that it names
abbrev pub Confined : Context → Reference → RegistryAuth → Kept → Kept → List Exchange → Type 0
Confined s image a k l c = Within (pulling k.0 s image (Some a)) s.settings l.0 c

-- an image has its chain and comes from these exchanges; an error has its cause there, with this fault count afterwards
abbrev pub Justified : {V : Type 0} {H : V → Type 0} → PolicyContext V H → Context → Reference → RegistryAuth
    → List (List ℕ) → Kept → Kept → List Exchange → ℕ → Result VerifiedImage PullRefusal → Type 0
Justified policy_context s image a accepted k l c faults (Ok v) =
    Chain policy_context image accepted s.settings.platform_resolver v × Backed k s image a c v
Justified policy_context s image a accepted k l c faults (Err e) =
    PullCause policy_context s image a accepted (snapshot k 0) c (snapshot l faults) e
