-- A mirror of an opened case to an opened target is that of the input.
use Rattle.std.proofs.Common.{◌≡◌, ◌∙◌, ℕ, List, [], ◌∷◌, length, Some, refl, sym, ap, subst, arith}
use Rattle.std.specs.Prelude.{Result, Ok, Err, get_or}
use Rattle.oci_auth.specs.AuthState.{fresh}
use Rattle.oci_engine.specs.Clients.{default_config, settings_of}
use Rattle.oci_engine.specs.Kept.{auth_state_of}
use Rattle.oci_engine.specs.declared.client.Client.{Client}
use Rattle.oci_engine.specs.declared.config.ClientConfig.{ClientConfig}
use Rattle.oci_names.specs.Reference.{reference_of}
use Rattle.oci_protocol.specs.Runs.{Meets}
use Rattle.oci_transport.specs.Recorded.{answering}
use Rattle.oci_transport.specs.declared.message.Exchange.{Exchange}
use Rattle.engine_terms.specs.Contexts.{within}
use Rattle.registry_cache.specs.Auths.{registry_auth}
use Rattle.registry_calls.specs.Direct.{reference_in}
use Rattle.cosign_chain.specs.declared.image.VerifiedImage.{VerifiedImage}
use Rattle.cosign_client.specs.State.{client_state}
use Rattle.cosign_client.specs.declared.asked.Asked.{Asked}
use Rattle.cosign_layers.specs.Satisfying.{CustomVerdict}
use Rattle.cosign_rows.specs.Refusal.{is_memory}
use Rattle.cosign_rows.specs.declared.refusal.PullRefusal.{PullRefusal}
use Rattle.recorded_case.specs.Replay.{state_of}
use Rattle.recorded_case.specs.declared.case.Case.{Case}
use Rattle.pulled_cases.proofs.PullsOnce.{pulled_once}
use Rattle.pulled_cases.specs.Opening.{Opens}
use Rattle.pulled_cases.specs.PullsAt.{row_for}
use Rattle.pulled_cases.specs.declared.once.OnePull.{OnePull}
use Rattle.pulled_cases.specs.declared.opening.Opened.{Opened}
use Rattle.pulled_cases.specs.declared.report.Report.{Report}
use Rattle.pull_mirror.specs.declared.refusals.MirrorError.{MirrorError}
use Rattle.pull_mirror.specs.declared.refusals.MirrorError.TheVariants as mirror
use Rattle.pull_mirror.specs.declared.refusals.MirrorReport.{MirrorReport}
use Rattle.pull_run.specs.Mirrors.{Mirrors, ReportsOver}
use Rattle.pull_run.specs.Replayed.{PullsOver}
use Rattle.pull_run.specs.Reports.{PullsOnce, ReportsMirror}
use Rattle.pull_run.specs.Targets.{OpensTarget, Side, side_for, side_of}
use Rattle.pull_run.specs.declared.mirror_input.Target.{Target}
use Rattle.pull_run.specs.declared.target.OpenedTarget.{OpenedTarget}

-- ---- the target

pub opens_target : (target : Target) (asked : Asked) (client : Client) → asked.usual ≡ default_config → registry_auth asked.auth ≡ target.auth → reference_of target.reference ≡ Ok (reference_in asked.image)
    → client.settings ≡ settings_of (record asked.usual { protocol = target.protocol }) → auth_state_of client ≡ fresh asked.usual.default_token_expiration_secs
    → OpensTarget target (record { client = client; image = asked.image; auth = asked.auth; answers = target.answers })
opens_target target asked client usual auth reads settings kept = record {
  settings = settings ∙ ap (λ (u : ClientConfig). settings_of (record u { protocol = target.protocol })) usual;
  kept = kept ∙ ap (λ (u : ClientConfig). fresh u.default_token_expiration_secs) usual;
  image = reads;
  auth = auth;
  answers = refl;
}

sides : (to : Target) (o : OpenedTarget) (moment : ℕ) → OpensTarget to o → side_of o moment ≡ side_for to (reference_in o.image) moment
sides to o moment opens = λ i. record {
  answers = answering (opens.answers i);
  context = within (opens.settings i) moment;
  image = reference_in o.image;
  auth = opens.auth i;
  kept = opens.kept i;
}

-- ---- the pull

-- a pull by an opened case's client at its first moment is the one pull of the case
once : {V : Type 0} {H : V → Type 0} (own : CustomVerdict V H) (case : Case) (o : Opened V H) (moments : List ℕ) (c : List Exchange) (outcome : Result VerifiedImage PullRefusal)
    → moments ≡ o.moments → length o.moments ≡ 1 → Opens case o
    → PullsOver (row_for own o.terms (client_state o.client).settings o.client.rekor_pub_keys (get_or moments 0 0)) o.registry (client_state o.client).kept c outcome
    → PullsOnce case c outcome
once own case o moments c outcome same one opens pulls =
    let p : OnePull = record { outcome = outcome; replay = pulls.last } in
    let timed : Meets is_memory (row_for own o.terms (client_state o.client).settings o.client.rekor_pub_keys (get_or o.moments 0 0)) (state_of pulls.first) (state_of pulls.last) (client_state o.client).kept pulls.end outcome =
    subst (λ (ms : List ℕ). Meets is_memory (row_for own o.terms (client_state o.client).settings o.client.rekor_pub_keys (get_or ms 0 0)) (state_of pulls.first) (state_of pulls.last) (client_state o.client).kept pulls.end outcome) same pulls.met in
    let pulled = pulled_once own case o pulls.first pulls.end p one opens pulls.untold pulls.faultless pulls.table pulls.whole timed in
    record { talk = pulled.talk; pulled = pulled.pulled; conversation = cc (sym pulled.told ∙ pulls.told); outcome_is = pulled.outcome }

-- ---- the mirror

-- a weaker property of the pull
mirrors_weaker : (P Q : List Exchange → Result VerifiedImage PullRefusal → Type 0) (side : Side) (c d : List Exchange) (outcome : Result MirrorReport MirrorError)
    → ((r : Result VerifiedImage PullRefusal) → P c r → Q c r) → Mirrors P side c d outcome → Mirrors Q side c d outcome
mirrors_weaker P Q side c d (Ok r) more h = (h.0, more (Ok r.found) h.1, h.2)
mirrors_weaker P Q side c d (Err (mirror.Target reference)) more h = h
mirrors_weaker P Q side c d (Err (mirror.Pull e)) more h = (h.0, more (Err e) h.1, h.2)
mirrors_weaker P Q side c d (Err (mirror.Push found digest e)) more h = (h.0, more (Ok found) h.1, h.2)
mirrors_weaker P Q side c d (Err mirror.WantOfMemory) more h = absurd h

one_moment : (moments : List ℕ) → length moments ≡ 1 → moments ≡ get_or moments 0 0 ∷ []
one_moment [] once = absurd (omega (arith, once))
one_moment (m ∷ []) once = refl
one_moment (m ∷ n ∷ moments) once = absurd (omega (arith, once))

pub reports_opened : {V : Type 0} {H : V → Type 0} (own : CustomVerdict V H) (case : Case) (o : Opened V H) (to : Target) (t : OpenedTarget) (moments : List ℕ) (made : Report)
    → moments ≡ o.moments → length o.moments ≡ 1 → Opens case o → OpensTarget to t
    → ReportsOver (PullsOver (row_for own o.terms (client_state o.client).settings o.client.rekor_pub_keys (get_or moments 0 0)) o.registry (client_state o.client).kept)
    (side_of t (get_or moments 0 0)) (get_or moments 0 0) made
    → ReportsMirror (record { case = case; target = to }) made
reports_opened own case o to t moments made same one opens opens_to over =
    let moment : ℕ = get_or moments 0 0 in
    record {
      moment = moment;
      moment_is = sym opens.moments ∙ sym same ∙ one_moment moments (ap length same ∙ one);
      image = reference_in t.image;
      reads = opens_to.image;
      reports = record {
        pull = over.pull;
        pushes = over.pushes;
        outcome = over.outcome;
        mirrors = subst (λ (s : Side). Mirrors (PullsOnce case) s over.pull over.pushes over.outcome) (sides to t moment opens_to)
            (mirrors_weaker (PullsOver (row_for own o.terms (client_state o.client).settings o.client.rekor_pub_keys moment) o.registry (client_state o.client).kept) (PullsOnce case) (side_of t moment) over.pull over.pushes over.outcome (λ r. once own case o moments over.pull r same one opens) over.mirrors);
        written = over.written;
      };
    }
