-- What new clients keep, and what a client keeps after a pull.
use Rattle.std.proofs.Common.{◌≡◌, ◌⊎◌, inl, inr, ℕ, Bool, List, Option, Some, None, sym, subst}
use Rattle.std.specs.FinMap as map
use Rattle.oci_names.specs.Reference.{resolved_registry}
use Rattle.oci_names.specs.declared.reference.Reference.{Reference}
use Rattle.oci_auth.specs.AuthState.{fresh}
use Rattle.oci_auth.specs.declared.auth.RegistryAuth.{RegistryAuth}
use Rattle.oci_transport.specs.Link.{Link}
use Rattle.registry_calls.specs.Clients.{Client, Kept, no_answers}
use Rattle.registry_calls.specs.Confinement.{StaysConfined}
use Rattle.cosign_laws.specs.Settled.{IsSettled, IsSettledForAll}
use Rattle.cosign_laws.proofs.ShelfCalls.{new_settled}
use Rattle.cosign_client.specs.Keeping.{KeepsOnly}

-- a new client is settled
pub fresh_settled : {k : Kept} (expiry : ℕ) (caching : Bool) → k ≡ (fresh expiry, no_answers caching) → IsSettledForAll k
fresh_settled expiry caching is = λ s image a shelf. subst (IsSettled s image a shelf) (sym is) (new_settled s image a shelf expiry caching)

-- what a confined pull of a client may add to what the client keeps
pub keeps_only : (before after : Client) {old new : Link} (moment : ℕ) (image : Reference) (a : RegistryAuth) → StaysConfined before after moment image (Some a) old new → (before.kept.1 ≡ None → after.kept.1 ≡ None) → KeepsOnly before.kept image a after.kept
keeps_only before after moment image a confined plain = record {
  plain = plain;
  tokens = λ key at token there. by_token (confined.holds.kept key at token there);
  credentials = λ registry stored there. by_credentials registry stored (confined.holds.stored registry stored there);
} where
  by_token : {P Q R : Type 0} → P ⊎ (Q × R) → P ⊎ Q
  by_token (inl h) = inl h
  by_token (inr h) = inr h.0

  by_credentials : (registry : List ℕ) (stored : RegistryAuth) → (map.get before.kept.0.credentials registry ≡ Some stored) ⊎ ((registry ≡ resolved_registry image) × (Some a ≡ Some stored)) → (map.get before.kept.0.credentials registry ≡ Some stored) ⊎ ((registry ≡ resolved_registry image) × (stored ≡ a))
  by_credentials registry stored (inl h) = inl h
  by_credentials registry stored (inr h) = let same : stored ≡ a = cc (sym h.1) in inr (h.0, same)
