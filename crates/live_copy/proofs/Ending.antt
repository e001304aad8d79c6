-- How the parts of a copy fit together, and how it ends.
use Rattle.std.proofs.Common.{◌≡◌, ◌⊎◌, inl, inr, false, true, [], List, ℕ, Option, Some, None, is_some, Result, Ok, Err, IsErr, refl, sym, subst, codes}
use Rattle.std.specs.Prelude.{IfErr, IsErrAnd}
use Rattle.serde_json.specs.Data.{Data}
use Rattle.oci_auth.specs.declared.auth_state.AuthState.{AuthState}
use Rattle.registry_calls.specs.Direct.{reference_in}
use Rattle.oci_engine.specs.Kept.{auth_state_of}
use Rattle.cosign_chain.specs.declared.verified_documents.VerifiedDocuments.{VerifiedDocuments}
use Rattle.cosign_rows.specs.Refusal.{is_memory}
use Rattle.cosign_rows.specs.declared.refusal.PullRefusal.{PullRefusal}
use Rattle.live_host.specs.Heads.{refused_head}
use Rattle.live_host.specs.HostErrors.{HearCause, SendsPrefix, TellCause}
use Rattle.live_host.specs.Names.{frame_named}
use Rattle.live_host.specs.Wire.{Wire, ReceivesFrame, SendsAndReceives, SendsFrame}
use Rattle.live_host.specs.declared.streams.HostError.{HostError}
use Rattle.live_host.specs.declared.streams.HostError.TheVariants as host
use Rattle.live_pull.specs.Parts.{DeliversBy}
use Rattle.live_pull.specs.Status.{StatusCause, status_of}
use Rattle.live_pull.specs.declared.status.Status.{Status}
use Rattle.live_pull.specs.declared.status.Status.TheVariants as status
use Rattle.live_pull.specs.Course.{DocumentsCut, DocumentsTold}
use Rattle.live_pull.specs.Decided.{DecidedDocuments, Undecided}
use Rattle.live_pull.proofs.Justifies.{sent}
use Rattle.live_copy.specs.declared.refusals.TargetRefusal.{TargetRefusal}
use Rattle.pull_mirror.specs.declared.absences.DocumentsRefusal.{DocumentsRefusal}
use Rattle.pull_mirror.specs.declared.refusals.PushReport.{PushReport}
use Rattle.live_copy.specs.Course.{AtSource, CarryCut, CopyCut, CopyEnds, CopyRefusal, CopyTold, Giving, IsKept, IsReport, LiveCopyBy, OfDocuments, OfTags, OutcomeCut, RefusalCut, ResultCut, UnlessMemory, copied_of, copy_ran_out, refusal_print, tags_ran_out}
use Rattle.live_copy.specs.Heads.{carried_by, carried_of, carry_head, copied_head, side_head}
use Rattle.live_copy.specs.Opening.{Opens}
use Rattle.live_copy.specs.Parts.{AskedBy, AtTargetBy, CarriedAndPushed, Delivers, EndsBy, EndsTelling, FoundCut, HandCut, HandedAndGiven, HandedOver, IsStill, PushedAndGiven, PushedBy, TargetAndGiven, UncarriedBy}
use Rattle.live_copy.specs.declared.opening.Opened.{Opened}
use Rattle.live_copy.specs.declared.settings.CopySettings.{CopySettings}

-- ---- statuses

-- an error of the streams, as a status
pub host_cause : (Cause : HostError → Type 0) (e : HostError) → Cause e → StatusCause Cause (status_of e)
host_cause Cause host.Broken cause = cause
host_cause Cause host.Unwritten cause = cause
host_cause Cause host.WantOfMemory cause = tt

-- a status that `?` passes on, with its cause
pub passed_on : {X : Type 0} (Cause : HostError → Type 0) (r : Result X Status) (s : Status) → StatusCause Cause s → (IsErr r × IsErrAnd r (λ y. y ≡ s)) → IfErr r (StatusCause Cause)
passed_on Cause (Ok x) s cause is = tt
passed_on Cause (Err t) s cause is = subst (λ (y : Status). StatusCause Cause y) (sym is.1) cause

-- a result that was not sent
pub not_sent : (x : Result PushReport CopyRefusal) (e : HostError) (old new : Wire) → IsKept x → OutcomeCut e x old new → Delivers x (status_of e) old new
not_sent x host.Broken old new kept cut = inr (x, kept, (refl, cut))
not_sent x host.Unwritten old new kept cut = inr (x, kept, (refl, cut))
not_sent x host.WantOfMemory old new kept cut = tt

-- a refusal that was not sent
pub not_told : (print : List ℕ) (e : HostError) (old new : Wire) → RefusalCut print e old new → EndsTelling print (status_of e) old new
not_told print host.Broken old new cut = cut
not_told print host.Unwritten old new cut = cut
not_told print host.WantOfMemory old new cut = tt

-- its line was made, but not sent
pub line_cut : (print report : List ℕ) (head : Data) (e : HostError) (old new : Wire) → IsReport print report → head ≡ refused_head report → TellCause (head, []) e old new → RefusalCut print e old new
line_cut print report head host.Broken old new made is cut = cut
line_cut print report head host.Unwritten old new made is cut = (report, made, subst (λ (h : Data). SendsPrefix (h, []) old new) is cut)
line_cut print report head host.WantOfMemory old new made is cut = tt

-- the line of what was pushed was not sent
pub report_cut : (report : PushReport) (head : Data) (e : HostError) (old new : Wire) → head ≡ copied_head report.manifest_url report.pushed → TellCause (head, []) e old new → OutcomeCut e (Ok report) old new
report_cut report head e old new is cut = subst (λ (h : Data). TellCause (h, []) e old new) is cut

-- a refusal that was sent, unless memory ran out
pub refusal_ends : (e : CopyRefusal) (s : Status) (old new : Wire) → copy_ran_out e ≡ false → EndsTelling (refusal_print e) s old new → Delivers (Err e) s old new
refusal_ends e status.Pulled old new plain h = absurd h
refusal_ends e status.Refused old new plain h = (e, plain, (refl, h))
refusal_ends e status.UnreadableSettings old new plain h = absurd h
refusal_ends e status.HostBroken old new plain h = absurd h
refusal_ends e status.SinkFault old new plain h = inr (Err e, plain, (refl, h))
refusal_ends e status.WantOfMemory old new plain h = tt

-- there is no result
pub before_ends : (Does : Giving → Result PushReport CopyRefusal → Type 0) (Cut : HostError → Type 0) (s : Status) → StatusCause Cut s → EndsBy Does Cut s
before_ends Does Cut status.Pulled h = absurd h
before_ends Does Cut status.Refused h = absurd h
before_ends Does Cut status.UnreadableSettings h = absurd h
before_ends Does Cut status.HostBroken h = inl h
before_ends Does Cut status.SinkFault h = inl h
before_ends Does Cut status.WantOfMemory h = tt

-- consequences of a result that is not that memory ran out, and of what broke the streams before, are those of the end
module _ {P Q : Giving → Result PushReport CopyRefusal → Type 0} {C D : HostError → Type 0} (f : (Gives : Giving) (r : Result PushReport CopyRefusal) → IsKept r → P Gives r → Q Gives r) (g : (e : HostError) → C e → D e) where
  cut_as : (e : HostError) → (C e ⊎ ResultCut P e) → D e ⊎ ResultCut Q e
  cut_as e (inl h) = inl (g e h)
  cut_as e (inr h) = inr (h.0, h.1, f (OutcomeCut e) h.0 h.1 h.2)

  pub ends_as : (s : Status) → EndsBy P C s → EndsBy Q D s
  ends_as status.Pulled h = (h.0, f CopyTold (Ok h.0) tt h.1)
  ends_as status.Refused h = (h.0, h.1, f CopyTold (Err h.0) h.1 h.2)
  ends_as status.UnreadableSettings h = absurd h
  ends_as status.HostBroken h = cut_as host.Broken h
  ends_as status.SinkFault h = cut_as host.Unwritten h
  ends_as status.WantOfMemory h = tt

-- ---- the reply of the host

some_after : (o : Option (List ℕ)) → is_some o ≡ true → carried_by o ≡ Some tt
some_after (Some name) is = refl
some_after None is = absurd (cc is)

none_after : (o : Option (List ℕ)) → is_some o ≡ false → carried_by o ≡ None
none_after None is = refl
none_after (Some name) is = absurd (cc is)

pub is_carried : (d : Data) → is_some (frame_named (codes "carried") d) ≡ true → carried_of d ≡ Some tt
is_carried d is = some_after (frame_named (codes "carried") d) is

-- the question was not sent
pub unasked : (head : Data) (e : HostError) (old new : Wire) → head ≡ carry_head → TellCause (head, []) e old new → StatusCause (λ x. CarryCut x old new) (status_of e)
unasked head host.Broken old new is cut = absurd cut
unasked head host.Unwritten old new is cut = subst (λ (h : Data). SendsPrefix (h, []) old new) is cut
unasked head host.WantOfMemory old new is cut = tt

-- no frame was received after it
pub unheard : (head : Data) (e : HostError) (old asked new : Wire) → head ≡ carry_head → SendsFrame head [] old asked → HearCause e asked new → StatusCause (λ x. CarryCut x old new) (status_of e)
unheard head host.Broken old asked new is told cause = (asked, subst (λ (h : Data). SendsFrame h [] old asked) is told, inl cause)
unheard head host.Unwritten old asked new is told cause = absurd cause
unheard head host.WantOfMemory old asked new is told cause = tt

-- one that is not the reply
pub other_reply : (head d : Data) (old asked new : Wire) → head ≡ carry_head → SendsFrame head [] old asked → ReceivesFrame d asked new → is_some (frame_named (codes "carried") d) ≡ false → CarryCut host.Broken old new
other_reply head d old asked new is told heard other = (asked, subst (λ (h : Data). SendsFrame h [] old asked) is told, inr (d, heard, none_after (frame_named (codes "carried") d) other))

-- ---- the documents are handed over

pub no_documents : (d : VerifiedDocuments) (e : HostError) (old new : Wire) → DocumentsCut (Ok d) e old new → StatusCause (λ x. HandCut d x old new) (status_of e)
no_documents d e old new cut = host_cause (λ x. HandCut d x old new) e (inl cut)

pub no_side : (head : Data) (d : VerifiedDocuments) (e : HostError) (old at new : Wire) → head ≡ side_head → DocumentsTold (Ok d) old at → TellCause (head, []) e at new → StatusCause (λ x. HandCut d x old new) (status_of e)
no_side head d e old at new is given cut = host_cause (λ x. HandCut d x old new) e (inr (at, given, subst (λ (h : Data). TellCause (h, []) e at new) is cut))

-- ---- the pushes, and what is sent of them

when_kept : (P : Type 0) (r : Result PushReport CopyRefusal) (made : Result PushReport DocumentsRefusal) → IsKept r → r ≡ copied_of made → UnlessMemory made P → P
when_kept P r (Ok report) kept is h = h
when_kept P r (Err e) kept is h = h (subst IsKept is kept)

pub told_ends : (o : Opened) (d : VerifiedDocuments) (old at new : Wire) (made : Result PushReport DocumentsRefusal) (s : Status) → UnlessMemory made (PushedBy o d made old at) → Delivers (copied_of made) s at new
    → EndsBy (λ Gives. PushedAndGiven Gives o d old new) (λ e. ⊥) s
told_ends o d old at new made s pushed ends = ends_as {P = λ Gives r. (r ≡ copied_of made) × Gives r at new} {Q = λ Gives. PushedAndGiven Gives o d old new} {C = λ e. ⊥} {D = λ e. ⊥} (λ Gives r kept h. record {
  made = made;
  same = h.0;
  pushed_at = at;
  pushed = when_kept (PushedBy o d made old at) r made kept h.0 pushed;
  given = h.1;
}) (λ e none. none) s ends

pub carried_ends : (o : Opened) (d : VerifiedDocuments) (old at new : Wire) (s : Status) → SendsAndReceives carry_head [] carried_of tt old at → EndsBy (λ Gives. PushedAndGiven Gives o d at new) (λ e. ⊥) s
    → EndsBy (λ Gives. CarriedAndPushed Gives o d old new) (λ e. CarryCut e old new) s
carried_ends o d old at new s carried ends = ends_as {P = λ Gives. PushedAndGiven Gives o d at new} {Q = λ Gives. CarriedAndPushed Gives o d old new} {C = λ e. ⊥} {D = λ e. CarryCut e old new} (λ Gives r kept h. record { carried_at = at; carried = carried; pushed = h }) (λ e none. absurd none) s ends

-- ---- the questions, and what follows

module _ (o p : Opened) (d : VerifiedDocuments) (still : IsStill o p) where
  at_target : (old free at new : Wire) (made : Result PushReport DocumentsRefusal) → AskedBy o (auth_state_of p.client) d (Ok tt) old free → SendsAndReceives carry_head [] carried_of tt free at → PushedBy p d made at new → AtTargetBy o d (copied_of made) old new
  at_target old free at new (Ok report) asked carried pushed = record {
    free_at = free;
    left = auth_state_of p.client;
    free = asked;
    carried_at = at;
    carried = carried;
    pushed = rw (still.settings, still.moment, still.to) at pushed;
  }
  at_target old free at new (Err e) asked carried pushed = record {
    free_at = free;
    left = auth_state_of p.client;
    free = asked;
    carried_at = at;
    carried = carried;
    pushed = rw (still.settings, still.moment, still.to) at pushed;
  }

  pub free_ends : (old mid new : Wire) (s : Status) → AskedBy o (auth_state_of p.client) d (Ok tt) old mid → EndsBy (λ Gives. CarriedAndPushed Gives p d mid new) (λ e. CarryCut e mid new) s
      → EndsBy (λ Gives. TargetAndGiven Gives o d old new) (λ e. UncarriedBy o d e old new) s
  free_ends old mid new s asked ends = ends_as {P = λ Gives. CarriedAndPushed Gives p d mid new} {Q = λ Gives. TargetAndGiven Gives o d old new} {C = λ e. CarryCut e mid new} {D = λ e. UncarriedBy o d e old new} (λ Gives r kept h. record {
    target_at = h.pushed.pushed_at;
    target = subst (λ (x : Result PushReport CopyRefusal). AtTargetBy o d x old h.pushed.pushed_at) (sym h.pushed.same) (at_target old mid h.carried_at h.pushed.pushed_at h.pushed.made asked h.carried h.pushed.pushed);
    given = h.pushed.given;
  }) (λ e cut. record { free_at = mid; left = auth_state_of p.client; free = asked; carry = cut }) s ends

-- a tag refused the copy
pub taken_ends : (o : Opened) (l : AuthState) (d : VerifiedDocuments) (old mid new : Wire) (e : TargetRefusal) (s : Status) → (tags_ran_out e ≡ false → AskedBy o l d (Err e) old mid) → Delivers (Err (OfTags e)) s mid new
    → EndsBy (λ Gives. TargetAndGiven Gives o d old new) (λ e. UncarriedBy o d e old new) s
taken_ends o l d old mid new e s asked ends = ends_as {P = λ Gives r. (r ≡ Err (OfTags e)) × Gives r mid new} {Q = λ Gives. TargetAndGiven Gives o d old new} {C = λ e. ⊥} {D = λ e. UncarriedBy o d e old new} (λ Gives r kept h. record {
  target_at = mid;
  target = subst (λ (x : Result PushReport CopyRefusal). AtTargetBy o d x old mid) (sym h.0) (l, asked (subst IsKept h.0 kept));
  given = h.1;
}) (λ e none. absurd none) s ends

pub handed_ends : (o : Opened) (d : VerifiedDocuments) (old at new : Wire) (s : Status) → HandedOver d old at → EndsBy (λ Gives. TargetAndGiven Gives o d at new) (λ e. UncarriedBy o d e at new) s
    → EndsBy (λ Gives. HandedAndGiven Gives o d old new) (λ e. FoundCut o d e old new) s
handed_ends o d old at new s handed ends = ends_as {P = λ Gives. TargetAndGiven Gives o d at new} {Q = λ Gives. HandedAndGiven Gives o d old new} {C = λ e. UncarriedBy o d e at new} {D = λ e. FoundCut o d e old new} (λ Gives r kept h. record { side_at = at; handed = handed; target = h }) (λ e cut. inr (at, handed, cut)) s ends

pub unhanded_ends : (o : Opened) (d : VerifiedDocuments) (old new : Wire) (s : Status) → StatusCause (λ e. HandCut d e old new) s → EndsBy (λ Gives. HandedAndGiven Gives o d old new) (λ e. FoundCut o d e old new) s
unhanded_ends o d old new status.Pulled h = absurd h
unhanded_ends o d old new status.Refused h = absurd h
unhanded_ends o d old new status.UnreadableSettings h = absurd h
unhanded_ends o d old new status.HostBroken h = inl (inl h)
unhanded_ends o d old new status.SinkFault h = inl (inl h)
unhanded_ends o d old new status.WantOfMemory h = tt

-- ---- by the settings

module _ (settings : CopySettings) (o : Opened) (d : VerifiedDocuments) (old at new : Wire) (opens : Opens settings o) (decided : DecidedDocuments settings.settings (Ok d) old at) where
  at_source : (side : Wire) → HandedOver d at side → AtSource settings (reference_in o.to.image) d old side
  at_source side handed = record {
    reads = opens.image;
    decided_at = handed.given_at;
    documents = sent settings.settings old at handed.given_at (Ok d) handed.given decided;
    side = handed.side;
  }

  live_copy : (Gives : Giving) (r : Result PushReport CopyRefusal) → HandedAndGiven Gives o d at new r → LiveCopyBy Gives settings d r old new
  live_copy Gives r h = record {
    image = reference_in o.to.image;
    side_at = h.side_at;
    source = at_source h.side_at h.handed;
    target_at = h.target.target_at;
    target = rw (opens.client, opens.moment, opens.auth, opens.tag, opens.asks, opens.state) at h.target.target;
    given = h.target.given;
  }

  found_cut : (e : HostError) → FoundCut o d e at new → CopyCut settings e old new
  found_cut e (inl (inl h)) = inl (inr (record { result = Ok d; decided_at = at; decided = decided; cut = h }))
  found_cut e (inl (inr h)) = inr (inl (record { found = d; decided_at = h.0; documents = sent settings.settings old at h.0 (Ok d) h.1 decided; side = h.2 }))
  found_cut e (inr h) = inr (inr (inl (record {
    found = d;
    image = reference_in o.to.image;
    side_at = h.0;
    source = at_source h.0 h.1;
    target = rw (opens.client, opens.moment, opens.auth, opens.asks, opens.state) at h.2;
  })))

  copied_cut : (e : HostError) → (FoundCut o d e at new ⊎ ResultCut (λ Gives. HandedAndGiven Gives o d at new) e) → CopyCut settings e old new
  copied_cut e (inl h) = found_cut e h
  copied_cut e (inr h) = inr (inr (inr (d, (h.0, h.1, live_copy (OutcomeCut e) h.0 h.2))))

  pub copied_ends : (s : Status) → EndsBy (λ Gives. HandedAndGiven Gives o d at new) (λ e. FoundCut o d e at new) s → CopyEnds settings s old new
  copied_ends status.Pulled h = (d, h.0, live_copy CopyTold (Ok h.0) h.1)
  copied_ends status.Refused h = inr (d, h.0, h.1, live_copy CopyTold (Err h.0) h.2)
  copied_ends status.UnreadableSettings h = absurd h
  copied_ends status.HostBroken h = copied_cut host.Broken h
  copied_ends status.SinkFault h = copied_cut host.Unwritten h
  copied_ends status.WantOfMemory h = tt

pub refused_ends : (settings : CopySettings) (e : PullRefusal) (old at new : Wire) (s : Status) → (is_memory e ≡ false → DecidedDocuments settings.settings (Err e) old at) → DeliversBy DocumentsTold DocumentsCut (Err e) s at new → CopyEnds settings s old new
refused_ends settings e old at new status.Pulled decided given = absurd given
refused_ends settings e old at new status.Refused decided given = inl (e, given.0, sent settings.settings old at new (Err e) given.1 (decided given.0))
refused_ends settings e old at new status.UnreadableSettings decided given = absurd given
refused_ends settings e old at new status.HostBroken decided given = inl (inr (record { result = Err e; decided_at = at; decided = decided given.0; cut = given.1 }))
refused_ends settings e old at new status.SinkFault decided given = inl (inr (record { result = Err e; decided_at = at; decided = decided given.0; cut = given.1 }))
refused_ends settings e old at new status.WantOfMemory decided given = tt

pub undecided_ends : (settings : CopySettings) (old new : Wire) (s : Status) → StatusCause (λ e. Undecided settings.settings e old new) s → CopyEnds settings s old new
undecided_ends settings old new status.Pulled h = absurd h
undecided_ends settings old new status.Refused h = absurd h
undecided_ends settings old new status.UnreadableSettings h = absurd h
undecided_ends settings old new status.HostBroken h = inl (inl h)
undecided_ends settings old new status.SinkFault h = inl (inl h)
undecided_ends settings old new status.WantOfMemory h = tt
