-- A course extends the log of its client's calls, by calls that were made with its exchanges.
use Rattle.std.proofs.Common.{ℕ, List, [], ◌++◌, Result, Ok, Err, sym, ap, ◌∙◌, append_assoc}
use Rattle.std.proofs.lemmas.List.Elements.{All-append, All-weaker}
use Rattle.oci_names.specs.declared.reference.Reference.{Reference}
use Rattle.oci_transport.specs.declared.message.Exchange.{Exchange}
use Rattle.engine_terms.specs.declared.settings.Settings.{Settings}
use Rattle.registry_calls.specs.Clients.{Kept}
use Rattle.registry_calls.specs.Log.{LoggedCall, IsRun, IsBacked}
use Rattle.cosign_chain.specs.declared.verified_documents.VerifiedDocuments.{VerifiedDocuments}
use Rattle.cosign_rows.specs.declared.found.TrustedLayers.{TrustedLayers}
use Rattle.cosign_rows.specs.declared.refusal.PullRefusal.{PullRefusal}
use Rattle.cosign_client.specs.Growth.{IsMadeIn, ExtendsLog}
use Rattle.cosign_client.proofs.PartsInTurn.{as_it_was}
use Rattle.live_host.specs.Wire.{Wire}
use Rattle.live_pull.specs.Pulls.{client_settings, meaning_of}
use Rattle.live_pull.specs.declared.settings.LiveSettings.{LiveSettings}
use Rattle.live_pull.specs.Course.{AfterSearchBy, CourseBy, NothingTold, exchanges_after, exchanges_of}
use Rattle.live_pull.specs.Rows.{asks_of, collect_row, decide_row, everyone_of}
use Rattle.live_pull.proofs.Grows.{collected_grows, decided_grows}

-- what is made in a part is made in the whole
made_first : (now : ℕ) (first second : List Exchange) (p : LoggedCall) → IsMadeIn now first p → IsMadeIn now (first ++ second) p
made_first now first second p made = record {
  moment_is = made.moment_is;
  before = made.before;
  after = made.after ++ second;
  split = ap (λ x. x ++ second) made.split ∙ append_assoc made.before (p.conversation ++ made.after) second ∙ ap (λ x. made.before ++ x) (append_assoc p.conversation made.after second);
}

made_second : (now : ℕ) (first second : List Exchange) (p : LoggedCall) → IsMadeIn now second p → IsMadeIn now (first ++ second) p
made_second now first second p made = record {
  moment_is = made.moment_is;
  before = first ++ made.before;
  after = made.after;
  split = ap (λ x. first ++ x) made.split ∙ sym (append_assoc first made.before (p.conversation ++ made.after));
}

both_logged : (s : Settings) (now : ℕ) (first second : List Exchange) (k l : Kept) (log : List LoggedCall) (one : ExtendsLog s now first k.1 log) → ExtendsLog s now second l.1 (one.more ++ log) → ExtendsLog s now (first ++ second) l.1 log
both_logged s now first second k l log one two = record {
  more = two.more ++ one.more;
  made = All-append (IsMadeIn now (first ++ second)) two.more one.more
      (All-weaker (IsMadeIn now second) (IsMadeIn now (first ++ second)) (made_second now first second) two.more two.made)
      (All-weaker (IsMadeIn now first) (IsMadeIn now (first ++ second)) (made_first now first second) one.more one.made);
  run = rw (append_assoc two.more one.more log) two.run;
  backed = rw (append_assoc two.more one.more log) two.backed;
}

module _ (settings : LiveSettings) (image : Reference) where
  after_logged : (k l : Kept) (found : Result TrustedLayers PullRefusal) (old new : Wire) (r : Result VerifiedDocuments PullRefusal) (after : AfterSearchBy NothingTold (asks_of settings) (decide_row settings image) k l found old new r) (log : List LoggedCall) → IsRun (client_settings settings) log → IsBacked (client_settings settings) k.1 log
      → ExtendsLog (client_settings settings) settings.moment (exchanges_after NothingTold (asks_of settings) (decide_row settings image) k l found old new r after) l.1 log
  after_logged k l (Ok found) old new r after log run backed =
      let decision = after.finished.decision in
      (decided_grows (client_settings settings) settings.moment (meaning_of settings after.answers) image settings.auth found).log.grows k l 0 decision.faults decision.conversation r log decision.runs run backed
  after_logged k l (Err e) old new r after log run backed = as_it_was (client_settings settings) settings.moment [] k l log (sym (ap (λ (k : Kept). k.1) after.1)) run backed

  pub course_logged : (k l : Kept) (old new : Wire) (r : Result VerifiedDocuments PullRefusal) (course : CourseBy NothingTold (asks_of settings) (collect_row settings image) (decide_row settings image) k l old new r) (log : List LoggedCall) → IsRun (client_settings settings) log → IsBacked (client_settings settings) k.1 log
      → ExtendsLog (client_settings settings) settings.moment (exchanges_of course) l.1 log
  course_logged k l old new r course log run backed =
      let search = course.search in
      let one = (collected_grows (client_settings settings) settings.moment (everyone_of settings) image settings.auth).log.grows k course.kept 0 search.faults search.conversation course.found log search.runs run backed in
      let two = after_logged course.kept l course.found course.searched_at new r course.after (one.more ++ log) one.run one.backed in
      both_logged (client_settings settings) settings.moment search.conversation (exchanges_after NothingTold (asks_of settings) (decide_row settings image) course.kept l course.found course.searched_at new r course.after) course.kept l log one two
