-- A mirror over replays of recorded answers.
use Rattle.std.proofs.Common.{◌≡◌, ◌∙◌, ℕ, Bool, true, false, List, [], ◌∷◌, ◌++◌, Some, refl, sym, subst}
use Rattle.std.specs.Prelude.{All, IfErr, IfOk, IsErr, IsTrue, OnOk, Result, Ok, Err}
use Rattle.std.specs.declared.alloc.AllocError.{AllocError}
use Rattle.oci_auth.specs.declared.auth_state.AuthState.{AuthState}
use Rattle.oci_auth.specs.declared.token_type.RegistryOperation.TheVariants.{Push as ForPush}
use Rattle.oci_names.specs.Reference.{whole_text}
use Rattle.oci_protocol.specs.Runs.{Meets, Performs, RunsBy, Told}
use Rattle.oci_transport.specs.FaultsOnlyWhere.{faults_only_where}
use Rattle.oci_transport.specs.Link.{Answering, AnsweredBy}
use Rattle.oci_transport.specs.declared.message.Exchange.{Exchange}
use Rattle.engine_rows.specs.Confined.{Within}
use Rattle.engine_rows.specs.Held.{asking}
use Rattle.engine_terms.specs.declared.error.OciDistributionError.{OciDistributionError}
use Rattle.registry_calls.specs.Clients.{Kept}
use Rattle.cosign_chain.specs.declared.image.VerifiedImage.{VerifiedImage}
use Rattle.cosign_rows.specs.Refusal.{is_memory}
use Rattle.cosign_rows.specs.Verified.{Whole}
use Rattle.cosign_rows.specs.declared.refusal.PullRefusal.{PullRefusal}
use Rattle.recorded_case.specs.Registry.{answering_by}
use Rattle.recorded_case.specs.Replay.{answering_of, state_of}
use Rattle.recorded_case.specs.declared.registry.Registry.{Registry}
use Rattle.recorded_case.specs.declared.replay.Replay.{Replay}
use Rattle.pulled_cases.proofs.PullsInTurn.{answers_by}
use Rattle.pull_mirror.specs.Copies.{all_pushed, mirrored_row, push_row, with_stored}
use Rattle.pull_mirror.specs.Errors.{IsTargetOf}
use Rattle.pull_mirror.specs.Found.{IfFound, IfNoTarget, IfNotFound, IfPulled, IfStopped}
use Rattle.pull_mirror.specs.Pushes.{IsNamed, digests_of, pushes}
use Rattle.pull_mirror.specs.Stopped.{Stopped}
use Rattle.pull_mirror.specs.Targets.{is_target}
use Rattle.pull_mirror.specs.declared.refusals.MirrorError.{MirrorError}
use Rattle.pull_mirror.specs.declared.refusals.MirrorError.TheVariants as mirror
use Rattle.pull_mirror.specs.declared.refusals.MirrorReport.{MirrorReport}
use Rattle.pulled_cases.specs.declared.report.Report.{Report}
use Rattle.pull_run.specs.Mirrors.{Mirrors, OverTarget, PushesAll, PushesUntil, ReportsOver, mirror_report, wants_memory}
use Rattle.pull_run.specs.Replayed.{PullsOver}
use Rattle.pull_run.specs.Targets.{Side}

pub from_ok : {A E : Type 0} {X : Type 0} {P Q : A → Type 0} (r : Result A E) → IfOk r P → OnOk r X → ((a : A) → P a → X → Q a) → IfOk r Q
from_ok (Ok a) h x more = more a h x
from_ok (Err e) h x more = tt

-- ---- the pull

-- a pull over a new replay, unless memory ran out in it
pub pulls_over : (row : Whole VerifiedImage) (k l : Kept) (X : PullRefusal → Type 0) (registry : Registry) (first last : Replay) (c : List Exchange) (outcome : Result MirrorReport MirrorError)
    → (state_of first).told ≡ Some [] → (state_of first).faults ≡ 0 → (state_of first).answers ≡ Some (answering_by registry) → Some c ≡ (state_of last).told
    → IfPulled outcome (λ o. Meets is_memory row (state_of first) (state_of last) k l o) → IfNotFound outcome (λ e. (is_memory e ≡ false) × X e)
    → IfPulled outcome (PullsOver row registry k c)
pulls_over row k l X registry first last c (Ok r) untold faultless table told met whole =
    record { first = first; last = last; end = l; untold = untold; faultless = faultless; table = table; told = sym told; met = met; whole = refl }
pulls_over row k l X registry first last c (Err (mirror.Target reference)) untold faultless table told met whole = tt
pulls_over row k l X registry first last c (Err (mirror.Pull e)) untold faultless table told met whole =
    record { first = first; last = last; end = l; untold = untold; faultless = faultless; table = table; told = sym told; met = met; whole = whole.0 }
pulls_over row k l X registry first last c (Err (mirror.Push found digest e)) untold faultless table told met whole =
    record { first = first; last = last; end = l; untold = untold; faultless = faultless; table = table; told = sym told; met = met; whole = refl }
pulls_over row k l X registry first last c (Err mirror.WantOfMemory) untold faultless table told met whole = tt

-- ---- the pushes

module _ (side : Side) (first last : Replay) (l : AuthState) (d : List Exchange) (untold : (state_of first).told ≡ Some []) (faultless : (state_of first).faults ≡ 0)
    (table : (state_of first).answers ≡ Some side.answers) (told : Some d ≡ (state_of last).told) where
  pub over_target : IsTrue (faults_only_where (answering_of last).fails 0 d (state_of last).faults)
      → Told (Within (asking side.kept side.context side.image ForPush (Some side.auth)) side.context.settings l) (state_of first) (state_of last)
      → OverTarget side d (state_of last).faults l
  over_target calm confined =
      let all : d ≡ confined.conversation = cc (told ∙ confined.told.told [] untold) in
      let same : answering_of last ≡ side.answers = cc (sym (answers_by last) ∙ confined.told.stays.steady side.answers table) in
      record {
        answered = subst (AnsweredBy side.answers 0) (sym all) (confined.told.table side.answers [] table untold);
        calm_is = subst (λ (a : Answering). IsTrue (faults_only_where a.fails 0 d (state_of last).faults)) same calm;
        confined = subst (Within (asking side.kept side.context side.image ForPush (Some side.auth)) side.context.settings l) (sym all) confined.holds;
      }

  pub pushes_all : (r : MirrorReport) → OverTarget side d (state_of last).faults l
      → Performs (mirrored_row side.context side.image side.auth r.found) (state_of first) (state_of last) side.kept l (Ok r.manifest_url)
      → r.pushed ≡ digests_of (pushes r.found side.image) → All IsNamed (pushes r.found side.image) → PushesAll side d r
  pushes_all r over made pushed named =
      let all : d ≡ made.conversation = cc (told ∙ made.told.told [] untold) in
      record {
        faults = (state_of last).faults;
        end = l;
        run = subst (λ (c : List Exchange). RunsBy side.answers 0 (mirrored_row side.context side.image side.auth r.found) side.kept 0 c (state_of last).faults l (Ok r.manifest_url)) (sym all)
            (subst (λ (n : ℕ). RunsBy side.answers 0 (mirrored_row side.context side.image side.auth r.found) side.kept n made.conversation (state_of last).faults l (Ok r.manifest_url)) faultless
            (made.runs_by side.answers [] table untold));
        over = over;
        pushed = pushed;
        named = named;
      }

  pub pushes_until : (found : VerifiedImage) (digest : List ℕ) (e : OciDistributionError) → OverTarget side d (state_of last).faults l
      → Stopped side.context side.image (pushes found side.image) (state_of first) (state_of last) (with_stored side.image side.auth side.kept) l digest e
      → All IsNamed (pushes found side.image) → PushesUntil side d found digest e
  pushes_until found digest e over stopped named =
      let before : List Exchange = stopped.pushed.conversation in
      let there : stopped.mid.told ≡ Some before = stopped.pushed.told.told [] untold in
      record {
        made = stopped.made;
        push = stopped.push;
        left = stopped.left;
        split = stopped.split;
        digest_is = stopped.digest_is;
        before = before;
        last = stopped.refused.conversation;
        parts = cc (told ∙ stopped.refused.told.told before there);
        mid = stopped.mid.faults;
        between = stopped.between;
        faults = (state_of last).faults;
        end = l;
        run = subst (λ (n : ℕ). RunsBy side.answers 0 (all_pushed side.context side.image stopped.made) (with_stored side.image side.auth side.kept) n before stopped.mid.faults stopped.between (Ok tt)) faultless
            (stopped.pushed.runs_by side.answers [] table untold);
        refused = stopped.refused.runs_by side.answers before (stopped.pushed.told.stays.steady side.answers table) there;
        over = over;
        named = named;
      }

  pub all_pushed_if : (outcome : Result MirrorReport MirrorError) → OverTarget side d (state_of last).faults l
      → IfOk outcome (λ r. Performs (mirrored_row side.context side.image side.auth r.found) (state_of first) (state_of last) side.kept l (Ok r.manifest_url))
      → IfOk outcome (λ r. r.pushed ≡ digests_of (pushes r.found side.image)) → IfFound outcome (λ v. All IsNamed (pushes v side.image))
      → IfOk outcome (PushesAll side d)
  all_pushed_if (Ok r) over made pushed named = pushes_all r over made pushed named
  all_pushed_if (Err e) over made pushed named = tt

  pub stopped_if : (outcome : Result MirrorReport MirrorError) → OverTarget side d (state_of last).faults l
      → IfStopped outcome (λ v digest e. Stopped side.context side.image (pushes v side.image) (state_of first) (state_of last) (with_stored side.image side.auth side.kept) l digest e)
      → IfFound outcome (λ v. All IsNamed (pushes v side.image))
      → IfStopped outcome (λ v digest e. PushesUntil side d v digest e)
  stopped_if (Ok r) over stopped named = tt
  stopped_if (Err (mirror.Target reference)) over stopped named = tt
  stopped_if (Err (mirror.Pull e)) over stopped named = tt
  stopped_if (Err (mirror.Push found digest e)) over stopped named = pushes_until found digest e over stopped named
  stopped_if (Err mirror.WantOfMemory) over stopped named = tt

  -- no request was sent, if the transport is unchanged
  pub unasked : state_of last ≡ state_of first → d ≡ []
  unasked same = cc (told, same, untold)

  pub unsent_if : (X : Type 0) (outcome : Result MirrorReport MirrorError) → IfNotFound outcome (λ e. X × (state_of last ≡ state_of first)) → IfNotFound outcome (λ e. d ≡ [])
  unsent_if X (Ok r) h = tt
  unsent_if X (Err (mirror.Target reference)) h = tt
  unsent_if X (Err (mirror.Pull e)) h = unasked h.1
  unsent_if X (Err (mirror.Push found digest e)) h = tt
  unsent_if X (Err mirror.WantOfMemory) h = tt

-- ---- the mirror

true_unless : (b : Bool) → (b ≡ false → ⊥) → b ≡ true
true_unless true h = refl
true_unless false h = absurd (h refl)

-- what a refused target leads to
abbrev pub Refuses : Side → List Exchange → List Exchange → Result MirrorReport MirrorError → Type 0
Refuses side c d outcome = is_target side.image ≡ false → IfErr outcome (IsTargetOf side.image) × IsErr outcome × (c ≡ []) × (d ≡ [])

pub mirrors_of : (P : List Exchange → Result VerifiedImage PullRefusal → Type 0) (side : Side) (c d : List Exchange) (outcome : Result MirrorReport MirrorError)
    → wants_memory outcome ≡ false → IfPulled outcome (P c) → Refuses side c d outcome
    → IfNoTarget outcome (λ reference. (is_target side.image ≡ false) × (reference ≡ whole_text side.image))
    → IfNotFound outcome (λ e. d ≡ []) → IfOk outcome (PushesAll side d) → IfStopped outcome (λ v digest e. PushesUntil side d v digest e)
    → Mirrors P side c d outcome
mirrors_of P side c d (Ok r) whole pulled refuses cause unsent all stopped = (true_unless (is_target side.image) (λ no. absurd (cc (refuses no).1)), pulled, all)
mirrors_of P side c d (Err (mirror.Target reference)) whole pulled refuses cause unsent all stopped = (cause.0, cause.1, (refuses cause.0).2, (refuses cause.0).3)
mirrors_of P side c d (Err (mirror.Pull e)) whole pulled refuses cause unsent all stopped = (true_unless (is_target side.image) (λ no. (refuses no).0), pulled, unsent)
mirrors_of P side c d (Err (mirror.Push found digest e)) whole pulled refuses cause unsent all stopped = (true_unless (is_target side.image) (λ no. (refuses no).0), pulled, stopped)
mirrors_of P side c d (Err mirror.WantOfMemory) whole pulled refuses cause unsent all stopped = absurd (cc whole)

-- no request was sent to the image's registry, if its transport is unchanged
unasked_source : (first last : Replay) (c : List Exchange) → (state_of first).told ≡ Some [] → Some c ≡ (state_of last).told → state_of last ≡ state_of first → c ≡ []
unasked_source first last c untold told same = cc (told, same, untold)

-- the report of what a mirror returned over two new replays
pub reports_over : (row : Whole VerifiedImage) (k l : Kept) (X : PullRefusal → Type 0) (Y A B : Type 0) (registry : Registry) (side : Side) (first last to to_last : Replay) (end : AuthState) (moment : ℕ)
    (c d : List Exchange) (outcome : Result MirrorReport MirrorError) (r : Result Report AllocError)
    → (state_of first).told ≡ Some [] → (state_of first).faults ≡ 0 → (state_of first).answers ≡ Some (answering_by registry) → Some c ≡ (state_of last).told
    → (state_of to).told ≡ Some [] → (state_of to).faults ≡ 0 → (state_of to).answers ≡ Some side.answers → Some d ≡ (state_of to_last).told
    → IsTrue (faults_only_where (answering_of to_last).fails 0 d (state_of to_last).faults)
    → IfPulled outcome (λ o. Meets is_memory row (state_of first) (state_of last) k l o)
    → IfNotFound outcome (λ e. (is_memory e ≡ false) × X e)
    → (is_target side.image ≡ false → IfErr outcome (IsTargetOf side.image) × IsErr outcome × A × (state_of last ≡ state_of first) × B × (state_of to_last ≡ state_of to))
    → IfNoTarget outcome (λ reference. (is_target side.image ≡ false) × (reference ≡ whole_text side.image))
    → IfNotFound outcome (λ e. Y × (state_of to_last ≡ state_of to))
    → IfOk outcome (λ report. Performs (mirrored_row side.context side.image side.auth report.found) (state_of to) (state_of to_last) side.kept end (Ok report.manifest_url))
    → IfOk outcome (λ report. report.pushed ≡ digests_of (pushes report.found side.image))
    → IfFound outcome (λ v. All IsNamed (pushes v side.image))
    → IfStopped outcome (λ v digest e. Stopped side.context side.image (pushes v side.image) (state_of to) (state_of to_last) (with_stored side.image side.auth side.kept) end digest e)
    → Told (Within (asking side.kept side.context side.image ForPush (Some side.auth)) side.context.settings end) (state_of to) (state_of to_last)
    → IfOk r (λ made. made ≡ mirror_report moment c d outcome) → OnOk r (wants_memory outcome ≡ false)
    → IfOk r (ReportsOver (PullsOver row registry k) side moment)
reports_over row k l X Y A B registry side first last to to_last end moment c d outcome r untold faultless table told to_untold to_faultless to_table to_told calm met whole target cause unsent mirrored pushed named stopped confined written full =
    let over : OverTarget side d (state_of to_last).faults end = over_target side to to_last end d to_untold to_faultless to_table to_told calm confined in
    from_ok r written full (λ made is ended. record {
      pull = c;
      pushes = d;
      outcome = outcome;
      mirrors = mirrors_of (PullsOver row registry k) side c d outcome ended (pulls_over row k l X registry first last c outcome untold faultless table told met whole)
          (λ no. let all = target no in (all.0, all.1, unasked_source first last c untold told all.3, unasked side to to_last end d to_untold to_faultless to_table to_told all.5))
          cause (unsent_if side to to_last end d to_untold to_faultless to_table to_told Y outcome unsent)
          (all_pushed_if side to to_last end d to_untold to_faultless to_table to_told outcome over mirrored pushed named)
          (stopped_if side to to_last end d to_untold to_faultless to_table to_told outcome over stopped named);
      written = is;
    })
