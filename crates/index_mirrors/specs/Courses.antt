-- The course of a copy of an index: one image after another, and how far it came.
use Rattle.std.specs.Prelude.{◌≡◌, ◌⊎◌, ℕ, Bool, true, false, List, [], ◌∷◌, ◌++◌, Some, Result, Ok, Err}
use Rattle.oci_auth.specs.declared.auth.RegistryAuth.{RegistryAuth}
use Rattle.oci_auth.specs.declared.auth_state.AuthState.{AuthState}
use Rattle.oci_auth.specs.declared.token_type.RegistryOperation.TheVariants.{Push as ForPush}
use Rattle.oci_names.specs.declared.reference.Reference.{Reference}
use Rattle.oci_protocol.specs.Runs.{Performs, PerformsPrefix, Told}
use Rattle.oci_transport.specs.Link.{Link}
use Rattle.engine_rows.specs.Confined.{Within}
use Rattle.engine_rows.specs.Held.{asking}
use Rattle.engine_terms.specs.Contexts.{Context}
use Rattle.engine_terms.specs.Error.{is_memory as out_of_memory}
use Rattle.oci_engine.specs.Kept.{auth_state_of}
use Rattle.oci_engine.specs.Refusals.{at_moment}
use Rattle.oci_engine.specs.declared.client.Client.{Client}
use Rattle.registry_cache.specs.Auths.{registry_auth}
use Rattle.registry_calls.specs.Direct.{reference_in}
use Rattle.cosign_chain.specs.declared.image.VerifiedImage.{VerifiedImage}
use Rattle.cosign_layers.specs.Satisfying.{PolicyContext}
use Rattle.cosign_rows.specs.Refusal.{is_memory}
use Rattle.cosign_rows.specs.declared.refusal.PullRefusal.{PullRefusal}
use Rattle.pull_mirror.specs.Copies.{with_stored}
use Rattle.pull_mirror.specs.EntryPushes.{entry_pushed, entry_pushes}
use Rattle.pull_mirror.specs.Stopped.{Stopped}
use Rattle.pull_mirror.specs.declared.document_copies.CopyTarget.{CopyTarget}
use Rattle.pull_mirror.specs.declared.refusals.PushRefusal.{PushRefusal}
use Rattle.pull_mirror.specs.declared.refusals.PushRefusal.TheVariants as pushing
use Rattle.index_mirrors.specs.Pulled.{EntryPulled}
use Rattle.index_mirrors.specs.Terms.{Source}
use Rattle.index_mirrors.specs.declared.refusals.IndexRefusal.{IndexRefusal}
use Rattle.index_mirrors.specs.declared.refusals.IndexRefusal.TheVariants.{NotIndex, Pull, Other, Push, Index}
use Rattle.index_mirrors.specs.declared.refusals.IndexRefusal.TheVariants.{WantOfMemory}

-- the target: what the requests to it are made with, its reference, and its credentials
pub record Target : Type 0 where
  pub context : Context
  pub reference : Reference
  pub auth : RegistryAuth

abbrev pub target_of : Client → ℕ → CopyTarget → Target
target_of client moment to = record {
  context = at_moment client moment;
  reference = reference_in to.image;
  auth = registry_auth to.auth;
}

-- where a copy is: the states of both transports, and what the target's client stores
pub record Stage : Type 0 where
  pub source : Link
  pub target : Link
  pub kept : AuthState

abbrev pub stage : Link → Link → Client → Stage
stage source target client = record { source = source; target = target; kept = auth_state_of client }

-- ---- one image

-- How it ended: the image of the entry was pulled and pushed; or it was not pulled, or is another one, and nothing was
-- sent to the target; or one of its pushes was refused; or memory ran out, before its pushes or within them.
abbrev pub EntryEnds : Target → List ℕ → Link → Link → AuthState → AuthState → Result VerifiedImage PullRefusal
    → Result (Unit {0}) IndexRefusal → Type 0
EntryEnds t entry old new k l pulled (Ok u) = (v : VerifiedImage) × (pulled ≡ Ok v) × (v.manifest_digest ≡ entry)
    × Performs (entry_pushed t.context t.reference t.auth v) old new k l (Ok tt)
EntryEnds t entry old new k l pulled (Err NotIndex) = ⊥
EntryEnds t entry old new k l pulled (Err (Pull name e)) =
    (name ≡ entry) × (pulled ≡ Err e) × (is_memory e ≡ false) × (new ≡ old) × (l ≡ k)
EntryEnds t entry old new k l pulled (Err (Other name)) = (name ≡ entry)
    × ((v : VerifiedImage) × (pulled ≡ Ok v) × (v.manifest_digest ≡ entry → ⊥)) × (new ≡ old) × (l ≡ k)
EntryEnds t entry old new k l pulled (Err (Push name digest e)) = (name ≡ entry)
    × ((v : VerifiedImage) × (pulled ≡ Ok v) × (v.manifest_digest ≡ entry)
    × Stopped t.context t.reference (entry_pushes v t.reference) old new (with_stored t.reference t.auth k) l digest e)
    × (out_of_memory e ≡ false)
EntryEnds t entry old new k l pulled (Err (Index e)) = ⊥
EntryEnds t entry old new k l pulled (Err WantOfMemory) = (new ≡ old) × (l ≡ k)
    ⊎ ((v : VerifiedImage) × (pulled ≡ Ok v) × (v.manifest_digest ≡ entry)
    × PerformsPrefix (entry_pushed t.context t.reference t.auth v) old new k l)

-- So ended an entry whose pull had this result. Whatever the result, the target's credentials and tokens were sent only
-- to its registry and to the realm that it names.
pub record EntryPushed (t : Target) (entry : List ℕ) (pulled : Result VerifiedImage PullRefusal) (old new : Link)
    (k l : AuthState) (r : Result (Unit {0}) IndexRefusal) : Type 0 where
  pub ends : EntryEnds t entry old new k l pulled r
  pub confined : Told (Within (asking k t.context t.reference ForPush (Some t.auth)) t.context.settings l) old new

-- the refusal of an entry that was not pulled, or not pushed
abbrev pub pull_refusal_by : Bool → List ℕ → PullRefusal → IndexRefusal
pull_refusal_by true entry e = WantOfMemory
pull_refusal_by false entry e = Pull entry e

abbrev pub pull_refusal : List ℕ → PullRefusal → IndexRefusal
pull_refusal entry e = pull_refusal_by (is_memory e) entry e

abbrev pub push_refusal : List ℕ → PushRefusal → IndexRefusal
push_refusal entry (pushing.Refused digest error) = Push entry digest error
push_refusal entry pushing.WantOfMemory = WantOfMemory

-- The image of one entry, from one state of both registries to another: it was pulled, and then it ended in this way.
pub record EntryCourse {V : Type 0} {H : V → Type 0} (policy_context : PolicyContext V H) (s : Source) (t : Target)
    (entry : List ℕ) (old new : Stage) (r : Result (Unit {0}) IndexRefusal) : Type 0 where
  pub result : Result VerifiedImage PullRefusal
  pub pulled : EntryPulled policy_context s entry old.source new.source result
  pub pushed : EntryPushed t entry result old.target new.target old.kept new.kept r

-- ---- one after another

-- each of these was pulled and pushed before the next one
unfoldable pub AllMirrored : {V : Type 0} {H : V → Type 0} → PolicyContext V H → Source → Target → List (List ℕ)
    → Stage → Stage → Type 0
AllMirrored policy_context s t [] old new = old ≡ new
AllMirrored policy_context s t (entry ∷ entries) old new = (mid : Stage)
    × EntryCourse policy_context s t entry old mid (Ok tt) × AllMirrored policy_context s t entries mid new

-- those before this entry were mirrored, and this one was not
pub record StoppedAt {V : Type 0} {H : V → Type 0} (policy_context : PolicyContext V H) (s : Source) (t : Target)
    (entries : List (List ℕ)) (old new : Stage) (e : IndexRefusal) : Type 0 where
  pub made : List (List ℕ)
  pub entry : List ℕ
  pub left : List (List ℕ)
  pub split : entries ≡ made ++ entry ∷ left
  pub mid : Stage
  pub mirrored : AllMirrored policy_context s t made old mid
  pub stopped : EntryCourse policy_context s t entry mid new (Err e)

-- all of them, or up to one
abbrev pub EntriesCourse : {V : Type 0} {H : V → Type 0} → PolicyContext V H → Source → Target → List (List ℕ)
    → Stage → Stage → Result (Unit {0}) IndexRefusal → Type 0
EntriesCourse policy_context s t entries old new (Ok u) = AllMirrored policy_context s t entries old new
EntriesCourse policy_context s t entries old new (Err e) = StoppedAt policy_context s t entries old new e
