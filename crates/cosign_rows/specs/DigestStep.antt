-- Which refusals the policy, the reference and the digest step force.
use Rattle.std.specs.Prelude.{◌≡◌, ℕ, false, List, ◌++◌, Result, Ok, Err}
use Rattle.oci_names.specs.declared.reference.Reference.{Reference}
use Rattle.oci_names.specs.Reference.{whole_text, reads_back}
use Rattle.oci_auth.specs.declared.auth.RegistryAuth.{RegistryAuth}
use Rattle.oci_transport.specs.declared.message.Exchange.{Exchange}
use Rattle.oci_protocol.specs.Ends.{UnlessMemory}
use Rattle.engine_terms.specs.Contexts.{Context}
use Rattle.registry_calls.specs.declared.error.SigstoreError.{SigstoreError}
use Rattle.registry_calls.specs.declared.error.SigstoreError.TheVariants as sigstore
use Rattle.registry_calls.specs.Calls.{digest_call}
use Rattle.cosign_rows.specs.declared.refusal.PullRefusal.{PullRefusal}
use Rattle.cosign_rows.specs.Refusal.{is_memory}
use Rattle.cosign_rows.specs.Snapshots.{Snapshot, RanBetween, NoOp}
use Rattle.cosign_rows.specs.References.{digest_reference}

-- the pull was refused with `e`, or memory ran out
abbrev pub IsRefusedAs : {A : Type 0} → PullRefusal → Result A PullRefusal → Type 0
IsRefusedAs e r = UnlessMemory is_memory (λ r. r ≡ Err e) r

-- an error of the search, unchanged
abbrev pub unchanged : SigstoreError → SigstoreError
unchanged e = e

-- What the result of the digest step decides: its error is the error of the whole call; and if it is a digest by which
-- the image's reference does not round-trip, so is that reference's text. No more requests are sent then.
abbrev pub Decides : {A E : Type 0} → (SigstoreError → E) → Reference → Result (List ℕ) SigstoreError
    → Snapshot → List Exchange → Snapshot → Result A E → Type 0
Decides refused image (Err e) between rest end r = (r ≡ Err (refused e)) × NoOp between rest end
Decides refused image (Ok digest) between rest end r =
    reads_back (digest_reference image digest) ≡ false
    → (r ≡ Err (refused (sigstore.OciReferenceNotValidError (whole_text (digest_reference image digest)))))
    × NoOp between rest end

-- the exchanges begin with those of the digest step, and its result decides the rest
pub record BeginsWithDigest {A E : Type 0} (refused : SigstoreError → E) (s : Context) (image : Reference)
    (a : RegistryAuth) (start : Snapshot) (c : List Exchange) (end : Snapshot) (r : Result A E) : Type 0 where
  pub step : List Exchange
  pub rest : List Exchange
  pub split : c ≡ step ++ rest
  pub between : Snapshot
  pub answer : Result (List ℕ) SigstoreError
  pub ran : RanBetween (digest_call s image a) start step between answer
  pub decides : Decides refused image answer between rest end r
