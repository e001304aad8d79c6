-- One image of a review.
use Rattle.std.specs.Prelude.{◌≡◌, ◌≤◌, ℕ, All, Bool, false, List, [], ◌∷◌, ◌++◌, length, Some, None, Result, Ok, Err}
use Rattle.std.specs.FinMap.{FinMap}
use Rattle.json_values.specs.Places.{by_bytes}
use Rattle.oci_link.specs.declared.shelf.Shelf.{Shelf}
use Rattle.oci_transport.specs.Link.{Link, Answering, Extends}
use Rattle.oci_transport.specs.declared.message.Exchange.{Exchange}
use Rattle.oci_protocol.specs.Runs.{Told}
use Rattle.engine_terms.specs.declared.settings.Settings.{Settings}
use Rattle.registry_cache.specs.Auths.{registry_auth}
use Rattle.registry_calls.specs.Clients.{Kept}
use Rattle.cosign_parts.specs.Trust.{Valid, Vouching, trust}
use Rattle.cosign_layers.specs.Satisfying.{CustomVerdict}
use Rattle.cosign_chain.specs.declared.image.VerifiedImage.{VerifiedImage}
use Rattle.cosign_rows.specs.Refusal.{is_memory}
use Rattle.cosign_rows.specs.Snapshots.{snapshot}
use Rattle.cosign_rows.specs.declared.refusal.PullRefusal.{PullRefusal}
use Rattle.cosign_laws.specs.Shelves.{AnswersFrom}
use Rattle.pull_admit.specs.Causes.{CountsFault, EachFaultCounted, HoldsNoMemory}
use Rattle.pull_admit.specs.Complete.{IsAtRegistry, SettledAt, AllowedIfThere, EachAllowedIfThere}
use Rattle.pull_admit.specs.Confining.{EachConfined}
use Rattle.pull_admit.specs.Decided.{PullTerms, DecidedBy, Reviews, terms_by}
use Rattle.pull_admit.specs.declared.decision.Decision.{Decision}
use Rattle.pull_admit.specs.declared.decision.Decision.TheVariants.{Allow, Deny}
use Rattle.pull_admit.specs.declared.decision.DenyCause.TheVariants.{Refused}
use Rattle.pull_admit.specs.declared.decisions.Pulling.{Pulling}
use Rattle.pod_reviews.specs.declared.images.ReviewImage.{ReviewImage}

-- the decision that a pull leads to
abbrev pub decision_of : Result VerifiedImage PullRefusal → Decision
decision_of (Ok v) = Allow v
decision_of (Err e) = Deny (Refused e)

-- whether memory ran out
abbrev pub is_wanting : Result VerifiedImage PullRefusal → Bool
is_wanting (Ok v) = false
is_wanting (Err e) = is_memory e

-- the terms of a client with these keys of logs and these settings
abbrev pub terms_in : {V O W : Type 0} {H : W → Type 0} → (V → Valid) → (O → Vouching) → CustomVerdict W H
    → Pulling V O W H → FinMap by_bytes (List ℕ) → Settings → PullTerms W H
terms_in valid vouched own p log_keys settings =
    terms_by p.policy.now own (trust (valid p.verifier.now) (vouched p.judge.now) log_keys) settings p.moment
    (registry_auth p.auth.now) p.accepted.now

-- the decision about one image, from one state of the transport and the client to another
pub record Decided {V : Type 0} {H : V → Type 0} (t : PullTerms V H) (x : ReviewImage) (old new : Link) (k l : Kept)
    (d : Decision) : Type 0 where
  pub conversation : List Exchange
  pub told : Extends old new conversation
  pub decided : DecidedBy None 0 t x (snapshot k old.faults) conversation (snapshot l new.faults) d
  pub decided_by : (a : Answering) (before : List Exchange) → old.answers ≡ Some a → old.told ≡ Some before
      → DecidedBy (Some a) (length before) t x (snapshot k old.faults) conversation (snapshot l new.faults) d
  pub count : old.faults ≤ new.faults
  pub fault : CountsFault old new d
  pub memory : HoldsNoMemory d
  pub completes : (shelf : Shelf) (registry : List ℕ) → AnswersFrom shelf old → IsAtRegistry registry x
      → SettledAt t.context.settings registry t.auth shelf k → AllowedIfThere t shelf x d

-- one more decision in the list
pub record OneMore {V : Type 0} {H : V → Type 0} (t : PullTerms V H) (x : ReviewImage) (old new : Link) (k l : Kept)
    (before after : List Decision) : Type 0 where
  pub decision : Decision
  pub added : after ≡ before ++ decision ∷ []
  pub decided : Decided t x old new k l decision

-- whatever the result: the requests about one image are confined, and a client that was settled for the registry of
-- the image stays settled, over a shelf that responds as before
pub record Keeps {V : Type 0} {H : V → Type 0} (t : PullTerms V H) (x : ReviewImage) (old new : Link) (k l : Kept)
    : Type 0 where
  pub confined : Told (λ c. EachConfined t (x ∷ []) k c l) old new
  pub settled : (shelf : Shelf) (registry : List ℕ) → AnswersFrom shelf old → IsAtRegistry registry x
      → SettledAt t.context.settings registry t.auth shelf k
      → AnswersFrom shelf new × SettledAt t.context.settings registry t.auth shelf l

-- ---- the images so far

-- these decisions were made about these images
pub record DecidedSoFar {V : Type 0} {H : V → Type 0} (t : PullTerms V H) (xs : List ReviewImage) (old new : Link)
    (k l : Kept) (ds : List Decision) : Type 0 where
  pub reviews : Reviews t xs old new k l ds
  pub count : old.faults ≤ new.faults
  pub faults : EachFaultCounted old new ds
  pub memory : All HoldsNoMemory ds
  pub completes : (shelf : Shelf) (registry : List ℕ) → AnswersFrom shelf old → All (IsAtRegistry registry) xs
      → SettledAt t.context.settings registry t.auth shelf k → EachAllowedIfThere t shelf xs ds

-- the same for the images of which memory ran out in the last one
pub record KeepsSoFar {V : Type 0} {H : V → Type 0} (t : PullTerms V H) (xs : List ReviewImage) (old new : Link)
    (k l : Kept) : Type 0 where
  pub confined : Told (λ c. EachConfined t xs k c l) old new
  pub settled : (shelf : Shelf) (registry : List ℕ) → AnswersFrom shelf old → All (IsAtRegistry registry) xs
      → SettledAt t.context.settings registry t.auth shelf k
      → AnswersFrom shelf new × SettledAt t.context.settings registry t.auth shelf l
