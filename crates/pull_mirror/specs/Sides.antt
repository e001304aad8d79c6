-- What a copy did to its target, whatever its result.
use Rattle.std.specs.Prelude.{◌≡◌, ℕ, Bool, true, false, List, Option, Some, Result, Ok, Err, IfOk}
use Rattle.json_values.specs.Counts.{Increased}
use Rattle.oci_auth.specs.declared.auth.RegistryAuth.{RegistryAuth}
use Rattle.oci_auth.specs.declared.auth_state.AuthState.{AuthState}
use Rattle.oci_auth.specs.declared.token_type.RegistryOperation.TheVariants.{Push as ForPush}
use Rattle.oci_names.specs.declared.reference.Reference.{Reference}
use Rattle.oci_protocol.specs.Runs.{Performs, Told}
use Rattle.oci_transport.specs.Link.{Link}
use Rattle.engine_terms.specs.Contexts.{Context}
use Rattle.engine_terms.specs.Error.{is_memory as of_memory}
use Rattle.engine_terms.specs.declared.error.OciDistributionError.{OciDistributionError}
use Rattle.engine_terms.specs.declared.error.OciDistributionError.TheVariants as engine
use Rattle.engine_rows.specs.Confined.{Within}
use Rattle.engine_rows.specs.Held.{asking}
use Rattle.cosign_chain.specs.declared.image.VerifiedImage.{VerifiedImage}
use Rattle.cosign_rows.specs.Refusal.{is_memory}
use Rattle.cosign_rows.specs.declared.refusal.PullRefusal.{PullRefusal}
use Rattle.pull_mirror.specs.Copies.{mirrored_row, with_stored}
use Rattle.pull_mirror.specs.Found.{IfStopped}
use Rattle.pull_mirror.specs.Pushes.{digests_of, pushes}
use Rattle.pull_mirror.specs.Stopped.{Stopped}
use Rattle.pull_mirror.specs.declared.refusals.MirrorError.{MirrorError}
use Rattle.pull_mirror.specs.declared.refusals.MirrorError.TheVariants.{Pull, Push, WantOfMemory}
use Rattle.pull_mirror.specs.declared.refusals.MirrorReport.{MirrorReport}
use Rattle.pull_mirror.specs.declared.refusals.PushRefusal.{PushRefusal}
use Rattle.pull_mirror.specs.declared.refusals.PushRefusal.TheVariants as pushing
use Rattle.pull_mirror.specs.declared.refusals.PushReport.{PushReport}

-- the result of a copy whose pushes had this outcome
abbrev pub copy_of : VerifiedImage → Result PushReport PushRefusal → Result MirrorReport MirrorError
copy_of v (Ok report) = Ok (record { found = v; pushed = report.pushed; manifest_url = report.manifest_url })
copy_of v (Err (pushing.Refused digest error)) = Err (Push v digest error)
copy_of v (Err pushing.WantOfMemory) = Err WantOfMemory

abbrev pub pull_error_by : Bool → PullRefusal → MirrorError
pull_error_by true e = WantOfMemory
pull_error_by false e = Pull e

-- the error of a copy whose pull was refused
abbrev pub pull_error : PullRefusal → MirrorError
pull_error e = pull_error_by (is_memory e) e

-- what was done to the target: a complete copy, or a refused push after others; credentials were sent only to it
pub record TargetSide (s : Context) (target : Reference) (a : RegistryAuth) (old new : Link) (k l : AuthState)
    (r : Result MirrorReport MirrorError) : Type 0 where
  pub mirrored : IfOk r
      (λ report. Performs (mirrored_row s target a report.found) old new k l (Ok report.manifest_url))
  pub pushed : IfOk r (λ report. report.pushed ≡ digests_of (pushes report.found target))
  pub stopped : IfStopped r (λ v digest error.
      Stopped s target (pushes v target) old new (with_stored target a k) l digest error)
  pub no_memory : IfStopped r (λ v digest error. of_memory error ≡ false)
  pub fault : IfStopped r (λ v digest error. error ≡ engine.TransportFault → Increased old.faults new.faults)
  pub confined : Told (Within (asking k s target ForPush (Some a)) s.settings l) old new
