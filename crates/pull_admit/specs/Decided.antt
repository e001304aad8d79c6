-- The decisions about the images of a review.
use Rattle.std.specs.Prelude.{◌≡◌, ◌+◌, ℕ, false, List, [], ◌∷◌, ◌++◌, length, Option, Some, None}
use Rattle.std.specs.Prelude.{Result, Ok, Err, IsErr}
use Rattle.oci_names.specs.Reference.{reference_of}
use Rattle.oci_names.specs.declared.reference.Reference.{Reference}
use Rattle.oci_auth.specs.declared.auth.RegistryAuth.{RegistryAuth}
use Rattle.oci_transport.specs.Link.{Link, Answering, Extends}
use Rattle.oci_transport.specs.declared.message.Exchange.{Exchange}
use Rattle.oci_protocol.specs.Runs.{Runs, RunsBy}
use Rattle.engine_rows.specs.Confined.{Within}
use Rattle.engine_rows.specs.Held.{pulling}
use Rattle.engine_terms.specs.Contexts.{Context, within}
use Rattle.engine_terms.specs.declared.settings.Settings.{Settings}
use Rattle.registry_calls.specs.Clients.{Kept}
use Rattle.cosign_parts.specs.Trust.{Trust}
use Rattle.cosign_layers.specs.Satisfying.{PolicyContext, CustomVerdict, policy_context}
use Rattle.cosign_layers.specs.declared.policy.PullPolicy.{PullPolicy}
use Rattle.cosign_chain.specs.Chain.{Chain}
use Rattle.cosign_chain.specs.declared.image.VerifiedImage.{VerifiedImage}
use Rattle.cosign_rows.specs.Causes.{PullCause}
use Rattle.cosign_rows.specs.Refusal.{is_memory}
use Rattle.cosign_rows.specs.Snapshots.{Snapshot, snapshot, NoOp}
use Rattle.cosign_rows.specs.Sound.{Backed}
use Rattle.cosign_rows.specs.Verified.{Whole, verified}
use Rattle.cosign_rows.specs.declared.refusal.PullRefusal.{PullRefusal}
use Rattle.pull_admit.specs.declared.decision.Decision.{Decision}
use Rattle.pull_admit.specs.declared.decision.Decision.TheVariants.{Allow, Deny}
use Rattle.pull_admit.specs.declared.decision.DenyCause.TheVariants.{NotAReference, Refused}
use Rattle.pod_reviews.specs.declared.images.ReviewImage.{ReviewImage}

-- what each image is pulled with: the policy and whom it trusts, the client's settings and the moment, the credentials,
-- and the accepted media types
pub record PullTerms (V : Type 0) (H : V → Type 0) : Type 0 where
  pub policy_context : PolicyContext V H
  pub context : Context
  pub auth : RegistryAuth
  pub accepted : List (List ℕ)

-- these terms, at a moment in seconds since 1970
abbrev pub terms_by : {V : Type 0} {H : V → Type 0} → PullPolicy V H → CustomVerdict V H → Trust → Settings → ℕ
    → RegistryAuth → List (List ℕ) → PullTerms V H
terms_by policy own trust settings moment a accepted = record {
  policy_context = policy_context policy own trust;
  context = within settings moment;
  auth = a;
  accepted = accepted;
}

abbrev pub pull_of : {V : Type 0} {H : V → Type 0} → PullTerms V H → Reference → Whole VerifiedImage
pull_of t image = verified t.policy_context t.context image t.auth t.accepted

-- These exchanges are a complete run of the pull with this result; of a transport that is known to respond in some way,
-- from this index of its whole conversation on.
abbrev pub RanBy : Option Answering → ℕ → Whole VerifiedImage → Snapshot → List Exchange → Snapshot
    → Result VerifiedImage PullRefusal → Type 0
RanBy None place p start c end r = Runs p start.kept start.faults c end.faults end.kept r
RanBy (Some t) place p start c end r = RunsBy t place p start.kept start.faults c end.faults end.kept r

-- Credentials and tokens are sent in these exchanges only to the registry of this image and to the realm that it names;
-- what the client stores afterwards was stored before or results from them.
abbrev pub IsConfined : {V : Type 0} {H : V → Type 0} → PullTerms V H → Reference → Kept → List Exchange → Kept → Type 0
IsConfined t image k c l = Within (pulling k.0 t.context image (Some t.auth)) t.context.settings l.0 c

-- the image was pulled: it has a chain, which comes from these exchanges, and they are confined for it
pub record WasPulled {V : Type 0} {H : V → Type 0} (known : Option Answering) (place : ℕ) (t : PullTerms V H)
    (text : List ℕ) (start : Snapshot) (c : List Exchange) (end : Snapshot) (v : VerifiedImage) : Type 0 where
  pub image : Reference
  pub parses : reference_of text ≡ Ok image
  pub run : RanBy known place (pull_of t image) start c end (Ok v)
  pub chain : Chain t.policy_context image t.accepted t.context.settings.platform_resolver v
  pub backed : Backed start.kept t.context image t.auth c v
  pub confined : IsConfined t image start.kept c end.kept

-- The pull was refused, with its cause in these exchanges, and not because memory ran out. They are confined for the
-- image.
pub record WasRefused {V : Type 0} {H : V → Type 0} (known : Option Answering) (place : ℕ) (t : PullTerms V H)
    (text : List ℕ) (start : Snapshot) (c : List Exchange) (end : Snapshot) (e : PullRefusal) : Type 0 where
  pub image : Reference
  pub parses : reference_of text ≡ Ok image
  pub run : RanBy known place (pull_of t image) start c end (Err e)
  pub cause : PullCause t.policy_context t.context image t.auth t.accepted start c end e
  pub memory : is_memory e ≡ false
  pub confined : IsConfined t image start.kept c end.kept

-- nothing is requested for a string that is not a reference; any other is a whole run of the pull
abbrev pub DecidedBy : {V : Type 0} {H : V → Type 0} → Option Answering → ℕ → PullTerms V H → ReviewImage → Snapshot
    → List Exchange → Snapshot → Decision → Type 0
DecidedBy known place t x start c end (Allow v) = WasPulled known place t x.image start c end v
DecidedBy known place t x start c end (Deny (NotAReference text)) =
    (text ≡ x.image) × IsErr (reference_of x.image) × NoOp start c end
DecidedBy known place t x start c end (Deny (Refused e)) = WasRefused known place t x.image start c end e

-- one part of the exchanges and one decision for each image, in order, each from where the one before it ended
abbrev pub Reviewed : {V : Type 0} {H : V → Type 0} → Option Answering → ℕ → PullTerms V H → List ReviewImage → Snapshot
    → List Exchange → Snapshot → List Decision → Type 0
Reviewed known place t [] start c end [] = NoOp start c end
Reviewed known place t [] start c end (d ∷ ds) = ⊥
Reviewed known place t (x ∷ xs) start c end [] = ⊥
Reviewed known place t (x ∷ xs) start c end (d ∷ ds) =
    (first rest : List Exchange) × (between : Snapshot) × (c ≡ first ++ rest)
    × DecidedBy known place t x start first between d
    × Reviewed known (place + length first) t xs between rest end ds

-- The images were reviewed over a transport, from one state to another. The exchanges are the exposed ones, if
-- exchanges are exposed, and those of a transport that responds as it is known to.
pub record Reviews {V : Type 0} {H : V → Type 0} (t : PullTerms V H) (images : List ReviewImage) (old new : Link)
    (k l : Kept) (decisions : List Decision) : Type 0 where
  pub conversation : List Exchange
  pub told : Extends old new conversation
  pub reviewed : Reviewed None 0 t images (snapshot k old.faults) conversation (snapshot l new.faults) decisions
  pub reviewed_by : (a : Answering) (before : List Exchange) → old.answers ≡ Some a → old.told ≡ Some before
      → Reviewed (Some a) (length before) t images (snapshot k old.faults) conversation (snapshot l new.faults)
      decisions
