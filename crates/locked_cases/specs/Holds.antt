-- When a written chain holds.
use Rattle.std.specs.Prelude.{◌≡◌, ℕ, List, Option, Ok}
use Rattle.oci_names.specs.Reference.{reference_of}
use Rattle.oci_names.specs.declared.reference.Reference.{Reference}
use Rattle.oci_manifests.specs.declared.promise.ResolverPromise.{ResolverPromise}
use Rattle.cosign_layers.specs.Satisfying.{PolicyContext}
use Rattle.cosign_chain.specs.Chain.{Chain}
use Rattle.cosign_chain.specs.declared.image.VerifiedImage.{VerifiedImage}
use Rattle.recorded_case.specs.Policy.{meaning_of}
use Rattle.locked_cases.specs.Built.{IsBuilt}
use Rattle.locked_cases.specs.declared.chain_input.ChainInput.{ChainInput}
use Rattle.locked_cases.specs.declared.chain_input.WrittenChain.{WrittenChain}

-- an image can be built from what is written, and its chain holds
pub record HoldsUnder {V : Type 0} {H : V → Type 0} (policy_context : PolicyContext V H) (image : Reference)
    (accepted : List (List ℕ)) (promise : Option ResolverPromise) (chain : WrittenChain) : Type 0 where
  pub found : VerifiedImage
  pub built : IsBuilt policy_context.trust chain found
  pub holds : Chain policy_context image accepted promise found

-- the same under the policy, the tables, the keys of logs and the platform of the case
pub record Holds (input : ChainInput) : Type 0 where
  pub image : Reference
  pub reads : reference_of input.case.reference ≡ Ok image
  pub under :
      HoldsUnder (meaning_of input.case) image input.case.accepted input.case.platform input.chain
