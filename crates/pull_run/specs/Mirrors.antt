-- A mirror over recorded answers, and its report.
use Rattle.std.specs.Prelude.{◌≡◌, ℕ, Bool, true, false, All, IsTrue, List, [], ◌∷◌, ◌++◌, length, Some}
use Rattle.std.specs.Prelude.{Result, Ok, Err}
use Rattle.oci_auth.specs.declared.auth_state.AuthState.{AuthState}
use Rattle.oci_auth.specs.declared.token_type.RegistryOperation.TheVariants.{Push as ForPush}
use Rattle.oci_names.specs.Reference.{whole_text}
use Rattle.oci_protocol.specs.Runs.{RunsBy}
use Rattle.oci_transport.specs.FaultsOnlyWhere.{faults_only_where}
use Rattle.oci_transport.specs.Link.{AnsweredBy}
use Rattle.oci_transport.specs.declared.message.Exchange.{Exchange}
use Rattle.engine_rows.specs.Confined.{Within}
use Rattle.engine_rows.specs.Held.{asking}
use Rattle.engine_terms.specs.declared.error.OciDistributionError.{OciDistributionError}
use Rattle.cosign_chain.specs.declared.image.VerifiedImage.{VerifiedImage}
use Rattle.cosign_rows.specs.declared.refusal.PullRefusal.{PullRefusal}
use Rattle.pull_report.specs.Report.{report}
use Rattle.pulled_cases.specs.declared.report.Report.{Report}
use Rattle.pull_mirror.specs.Copies.{mirrored_row, all_pushed, push_row, with_stored}
use Rattle.pull_mirror.specs.Pushes.{Push, IsNamed, push_digest, pushes, digests_of}
use Rattle.pull_mirror.specs.Targets.{is_target}
use Rattle.pull_mirror.specs.declared.refusals.MirrorReport.{MirrorReport}
use Rattle.pull_mirror.specs.declared.refusals.MirrorError.{MirrorError}
use Rattle.pull_mirror.specs.declared.refusals.MirrorError.TheVariants as mirror
use Rattle.pull_run.specs.Lines.{mirrored_lines, refused_lines, target_line}
use Rattle.pull_run.specs.Targets.{Side}

-- ---- the pushes

-- What holds of every conversation with the target. Each exchange has the recorded answer at its index, and the
-- transport failed only if that is recorded. The target's credentials and tokens were sent only to the target's
-- registry and to the realm that it names, and no others were.
pub record OverTarget (side : Side) (c : List Exchange) (faults : ℕ) (end : AuthState) : Type 0 where
  pub answered : AnsweredBy side.answers 0 c
  pub calm_is : IsTrue (faults_only_where side.answers.fails 0 c faults)
  pub confined : Within (asking side.kept side.context side.image ForPush (Some side.auth)) side.context.settings end c

-- All of an image was pushed, and its signed document is at this URL now. The digests are those of the pushes, and each
-- names the bytes that were pushed for it.
pub record PushesAll (side : Side) (c : List Exchange) (r : MirrorReport) : Type 0 where
  pub faults : ℕ
  pub end : AuthState
  pub run : RunsBy side.answers 0 (mirrored_row side.context side.image side.auth r.found) side.kept 0 c faults end
      (Ok r.manifest_url)
  pub over : OverTarget side c faults end
  pub pushed : r.pushed ≡ digests_of (pushes r.found side.image)
  pub named : All IsNamed (pushes r.found side.image)

-- Of the pushes of an image, those before one were made; then the target refused that one, of this digest, with this
-- error, and nothing was sent after it.
pub record PushesUntil (side : Side) (c : List Exchange) (found : VerifiedImage) (digest : List ℕ)
    (e : OciDistributionError) : Type 0 where
  pub made : List Push
  pub push : Push
  pub left : List Push
  pub split : pushes found side.image ≡ made ++ push ∷ left
  pub digest_is : digest ≡ push_digest push
  pub before : List Exchange
  pub last : List Exchange
  pub parts : c ≡ before ++ last
  pub mid : ℕ
  pub between : AuthState
  pub faults : ℕ
  pub end : AuthState
  pub run : RunsBy side.answers 0 (all_pushed side.context side.image made)
      (with_stored side.image side.auth side.kept) 0 before mid between (Ok tt)
  pub refused : RunsBy side.answers (length before) (push_row side.context side.image push) between mid last faults end
      (Err e)
  pub over : OverTarget side c faults end
  pub named : All IsNamed (pushes found side.image)

-- ---- the mirror

-- The conversations of a mirror, with the image's registry and with the target, and its result. `Pulls` says which
-- conversation gave which result of the pull. A refused target, which has no tag, has a digest or does not round-trip,
-- is asked nothing, and neither is the image's registry; after a refused pull the target is asked nothing.
abbrev pub Mirrors : (List Exchange → Result VerifiedImage PullRefusal → Type 0) → Side
    → List Exchange → List Exchange → Result MirrorReport MirrorError → Type 0
Mirrors Pulls side c d (Ok r) = (is_target side.image ≡ true) × Pulls c (Ok r.found) × PushesAll side d r
Mirrors Pulls side c d (Err (mirror.Target reference)) =
    (is_target side.image ≡ false) × (reference ≡ whole_text side.image) × (c ≡ []) × (d ≡ [])
Mirrors Pulls side c d (Err (mirror.Pull refusal)) =
    (is_target side.image ≡ true) × Pulls c (Err refusal) × (d ≡ [])
Mirrors Pulls side c d (Err (mirror.Push found digest e)) =
    (is_target side.image ≡ true) × Pulls c (Ok found) × PushesUntil side d found digest e
Mirrors Pulls side c d (Err mirror.WantOfMemory) = ⊥

-- ---- the output

-- whether memory ran out
abbrev pub wants_memory : Result MirrorReport MirrorError → Bool
wants_memory (Err mirror.WantOfMemory) = true
wants_memory _ = false

-- the report of the pull, then the requests to the target and what was pushed; or where the mirror was refused
abbrev pub mirror_report : ℕ → List Exchange → List Exchange → Result MirrorReport MirrorError → Report
mirror_report moment c d (Ok r) = record {
  bytes = report moment c (Ok r.found) ++ mirrored_lines d r.pushed r.manifest_url;
  refused = false;
}
mirror_report moment c d (Err (mirror.Target reference)) = record {
  bytes = target_line (record { reference = reference });
  refused = true;
}
mirror_report moment c d (Err (mirror.Pull refusal)) = record { bytes = report moment c (Err refusal); refused = true }
mirror_report moment c d (Err (mirror.Push found digest e)) = record {
  bytes = report moment c (Ok found) ++ refused_lines d (record { digest = digest; error = e });
  refused = true;
}
-- unreachable: there is no report then
mirror_report moment c d (Err mirror.WantOfMemory) = record { bytes = []; refused = true }

-- the output is the report of a mirror at this moment
pub record ReportsOver (Pulls : List Exchange → Result VerifiedImage PullRefusal → Type 0) (side : Side) (moment : ℕ)
    (made : Report) : Type 0 where
  pub pull : List Exchange
  pub pushes : List Exchange
  pub outcome : Result MirrorReport MirrorError
  pub mirrors : Mirrors Pulls side pull pushes outcome
  pub written : made ≡ mirror_report moment pull pushes outcome
