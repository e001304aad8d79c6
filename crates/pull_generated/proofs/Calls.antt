-- The row of a pull by the generated terms, and that it succeeds over the generated shelf.
use Rattle.std.proofs.Common.{◌≡◌, ℕ, List, [], ◌∷◌, codes, Option, Some, None, Result, Err, IsErrAnd, refl, sym, ap, subst, ◌∙◌}
use Rattle.std.specs.FinMap.{FinMap, empty}
use Rattle.std.proofs.lemmas.Result.{err_from_is_err_and}
use Rattle.json_values.specs.Places.{by_bytes}
use Rattle.oci_names.specs.declared.reference.Reference.{Reference}
use Rattle.oci_auth.specs.declared.auth.RegistryAuth.TheVariants.{Anonymous}
use Rattle.oci_protocol.specs.Runs.{Meets}
use Rattle.oci_protocol.proofs.Laws.{Meets-memory}
use Rattle.oci_transport.specs.Link.{Link}
use Rattle.engine_terms.specs.Contexts.{within}
use Rattle.oci_link.specs.declared.shelf.Shelf.{Shelf}
use Rattle.shelf_laws.proofs.Tokens.{fresh_settled}
use Rattle.registry_calls.specs.Clients.{Kept, Client}
use Rattle.cosign_layers.specs.Satisfying.{CustomVerdict, policy_context, satisfies_policy}
use Rattle.cosign_parts.specs.Trust.{trust}
use Rattle.cosign_parts.specs.Verifier.{valid_in}
use Rattle.cosign_layers.specs.declared.policy.PullPolicy.{PullPolicy}
use Rattle.cosign_parts.specs.declared.verifier.TableVerifier.{TableVerifier}
use Rattle.cosign_chain.specs.declared.image.VerifiedImage.{VerifiedImage}
use Rattle.cosign_rows.specs.Refusal.{is_memory}
use Rattle.cosign_laws.specs.Settled.{IsSettled}
use Rattle.cosign_laws.specs.Shelves.{AnswersFrom, OkOrMemory, ValidShelf}
use Rattle.cosign_rows.specs.Verified.{verified}
use Rattle.cosign_rows.specs.declared.refusal.PullRefusal.{PullRefusal}
use Rattle.cosign_rows.specs.declared.refusal.PullRefusal.TheVariants as refusal
use Rattle.pull_generated.specs.Shelf.{generated_shelf, HasTwoDigests}
use Rattle.pull_generated.specs.Terms.{generated_settings, generated_context, fresh, generated_reference, generated_types, any_layer, generated_policy, signed_row, meaning_with, generated_row, PullsGenerated, IsCount}
use Rattle.pull_generated.proofs.Valid.{valid}

-- ---- memory ran out before the call

pub wanting : (n : ℕ) {link : Link} (r : Result VerifiedImage PullRefusal) → IsErrAnd r (λ x. x ≡ refusal.WantOfMemory) → PullsGenerated n link link r
wanting n {link} r h = let at = err_from_is_err_and r h in rw (at.1, at.2) (fresh, Meets-memory is_memory (generated_row n) link fresh refusal.WantOfMemory refl)

pub wanting_gives : (r : Result VerifiedImage PullRefusal) → IsErrAnd r (λ x. x ≡ refusal.WantOfMemory) → OkOrMemory r
wanting_gives r h = let at = err_from_is_err_and r h in rw (at.1, at.2) refl

-- ---- the terms

policy_is : {V : Type 0} {H : V → Type 0} (policy : PullPolicy V H) → policy.keys ≡ codes "k1" ∷ [] → policy.constraints ≡ any_layer ∷ [] → policy ≡ generated_policy
policy_is policy keys constraints = rw (← keys, ← constraints) refl

table_is : (n : ℕ) (table : TableVerifier) → table.rows ≡ signed_row n ∷ [] → table ≡ record { rows = signed_row n ∷ [] }
table_is n table rows = rw (← rows) refl

-- whatever a box means
row_same : {V : Type 0} {H : V → Type 0} (own : CustomVerdict V H) (n : ℕ) → verified (meaning_with own n) generated_context generated_reference Anonymous generated_types ≡ generated_row n
unfolding verified satisfies_policy
row_same own n = refl

module _ {V : Type 0} {H : V → Type 0} (own : CustomVerdict V H) (n : ℕ) (policy : PullPolicy V H) (table : TableVerifier) (logs : FinMap by_bytes (List ℕ)) (client : Client) (image : Reference) (accepted : List (List ℕ))
    (keys_are : policy.keys ≡ codes "k1" ∷ []) (constraints_are : policy.constraints ≡ any_layer ∷ []) (rows_are : table.rows ≡ signed_row n ∷ []) (logs_are : logs ≡ empty) (client_is : client ≡ record { settings = generated_settings; kept = fresh }) (image_is : image ≡ generated_reference) (accepted_are : accepted ≡ generated_types) where
  pub ran : {old new : Link} {l : Kept} {r : Result VerifiedImage PullRefusal} → Meets is_memory (verified (policy_context policy own (trust (valid_in table) (λ evidence. None) logs)) (within client.settings 100) image Anonymous accepted) old new client.kept l r → PullsGenerated n old new r
  ran {old} {new} {l} {r} met =
      (l, subst (λ row. Meets is_memory row old new fresh l r) (row_same own n) (rw (policy_is policy keys_are constraints_are, table_is n table rows_are, logs_are, client_is, image_is, accepted_are) at met))

  pub gives_image : {old : Link} (r : Result VerifiedImage PullRefusal)
      → ((shelf : Shelf) → AnswersFrom shelf old → IsSettled client.settings image Anonymous shelf client.kept → ValidShelf (policy_context policy own (trust (valid_in table) (λ evidence. None) logs)) client.settings image Anonymous accepted shelf → OkOrMemory r)
      → IsCount n → HasTwoDigests n → AnswersFrom (generated_shelf n) old → OkOrMemory r
  gives_image r completes count two from =
      (rw (policy_is policy keys_are constraints_are, table_is n table rows_are, logs_are, client_is, image_is, accepted_are) at completes) (generated_shelf n) from (record { memory = fresh_settled _ _ _ _; answers = tt }) (valid own n count.0 count.1 two)
