-- How the parts of a live pull fit together.
use Rattle.std.proofs.Common.{◌≡◌, ℕ, Bool, true, List, Result, Ok, Err, inl, inr, refl, sym, ap, ◌∙◌, subst}
use Rattle.std.specs.FinMap.{FinMap}
use Rattle.json_values.specs.Places.{by_bytes}
use Rattle.engine_terms.specs.declared.settings.Settings.{Settings}
use Rattle.registry_calls.specs.Clients.{Client as Shown, Kept, Row}
use Rattle.registry_calls.specs.Direct.{reference_in}
use Rattle.registry_calls.specs.declared.reference.OciReference.{OciReference}
use Rattle.registry_cache.specs.Auths.{registry_auth}
use Rattle.oci_names.specs.Reference.{reference_of}
use Rattle.oci_engine.specs.Clients.{default_config}
use Rattle.sig_registry.specs.States.{fresh_state}
use Rattle.cosign_layers.specs.declared.constraint.Constraint.{Constraint}
use Rattle.recorded_case.specs.Policy.{constraints_by}
use Rattle.cosign_client.specs.Clients.{config_by, fresh}
use Rattle.cosign_client.specs.declared.asked.Asked.{Asked}
use Rattle.live_pull.specs.Opening.{client_in, Opens}
use Rattle.live_pull.specs.declared.opening.Opened.{Opened}
use Rattle.cosign_layers.specs.Satisfying.{CustomVerdict}
use Rattle.cosign_parts.specs.declared.layer.SignatureLayer.{SignatureLayer}
use Rattle.cosign_chain.specs.declared.image.VerifiedImage.{VerifiedImage}
use Rattle.cosign_client.specs.State.{client_state}
use Rattle.cosign_rows.specs.Verified.{Whole}
use Rattle.cosign_rows.specs.declared.found.TrustedLayers.{TrustedLayers}
use Rattle.cosign_rows.specs.declared.refusal.PullRefusal.{PullRefusal}
use Rattle.live_host.specs.HostErrors.{AsksCause}
use Rattle.live_host.specs.Questions.{WereAsked}
use Rattle.live_host.specs.Wire.{Wire}
use Rattle.live_host.specs.declared.answers.Answers.{Answers}
use Rattle.live_host.specs.declared.streams.HostError.{HostError}
use Rattle.live_host.specs.declared.streams.HostError.TheVariants as host
use Rattle.live_pull.specs.Live.{Ends, Live, LiveAskingCut, LiveBy, LiveCut}
use Rattle.live_pull.specs.Parts.{Delivers, Finished, FinishedCut, Prepares, SearchAskPull, SearchAskPullCut, SearchCut, searched_by}
use Rattle.live_pull.specs.Refusals.{OutcomeCut, OutcomeTold}
use Rattle.live_pull.specs.Status.{status_of}
use Rattle.live_pull.specs.Pulls.{Collects, Transfer, pull_row, search_row}
use Rattle.live_pull.specs.Rows.{layers_asked}
use Rattle.live_pull.specs.Terms.{PulledBy, row_for}
use Rattle.live_pull.specs.declared.live.Prepared.{Prepared}
use Rattle.live_pull.specs.declared.pulls.Terms.{Terms}
use Rattle.live_pull.specs.declared.settings.LiveSettings.{LiveSettings}
use Rattle.live_pull.specs.declared.status.Status.{Status}
use Rattle.live_pull.specs.declared.status.Status.TheVariants as status
use Rattle.live_pull.proofs.EarlyEnds.{host_ends}
use Rattle.live_pull.proofs.Policies.{policy_is, row_same}
use Rattle.live_pull.proofs.PullJustifies.{pull_justified, pull_stays, search_stays}

-- a consequence of each result, and of each cut, is a consequence of the end
pub ends_as : {A : Type 0} {P Q : Result A PullRefusal → Type 0} {C D : HostError → Type 0} (s : Status) → ((r : Result A PullRefusal) → P r → Q r) → ((e : HostError) → C e → D e) → Ends P C s → Ends Q D s
ends_as status.Pulled f cuts h = (h.0, f (Ok h.0) h.1)
ends_as status.Refused f cuts h = (h.0, h.1, f (Err h.0) h.2)
ends_as status.UnreadableSettings f cuts h = absurd h
ends_as status.HostBroken f cuts h = cuts host.Broken h
ends_as status.SinkFault f cuts h = cuts host.Unwritten h
ends_as status.WantOfMemory f cuts h = tt

-- a pull, and what was sent for it
pub finished : (row : Whole VerifiedImage) (blobs : Bool) (k l : Kept) (old pulled new : Wire) (r : Result VerifiedImage PullRefusal) (s : Status)
    → PulledBy row old pulled k l r → Delivers blobs r s pulled new → Ends (Finished row (OutcomeTold blobs) k old new) (λ e. FinishedCut row blobs k e old new) s
finished row blobs k l old pulled new (Ok v) status.Pulled pull given = (v, (pulled, l, pull, tt, given))
finished row blobs k l old pulled new (Err e) status.Pulled pull given = absurd given
finished row blobs k l old pulled new (Ok v) status.Refused pull given = absurd given
finished row blobs k l old pulled new (Err e) status.Refused pull given = (e, given.0, (pulled, l, pull given.0, given.0, given.1))
finished row blobs k l old pulled new (Ok v) status.UnreadableSettings pull given = absurd given
finished row blobs k l old pulled new (Err e) status.UnreadableSettings pull given = absurd given
finished row blobs k l old pulled new (Ok v) status.HostBroken pull given = (Ok v, (pulled, l, pull, tt, given.1))
finished row blobs k l old pulled new (Err e) status.HostBroken pull given = (Err e, (pulled, l, pull given.0, given.0, given.1))
finished row blobs k l old pulled new (Ok v) status.SinkFault pull given = (Ok v, (pulled, l, pull, tt, given.1))
finished row blobs k l old pulled new (Err e) status.SinkFault pull given = (Err e, (pulled, l, pull given.0, given.0, given.1))
finished row blobs k l old pulled new (Ok v) status.WantOfMemory pull given = tt
finished row blobs k l old pulled new (Err e) status.WantOfMemory pull given = tt

-- the pull by these terms is that of the settings
row_is : {V : Type 0} {H : V → Type 0} (own : CustomVerdict V H) (settings : LiveSettings) (p : Prepared V H) (answers : Answers) → Prepares settings p
    → row_for own p.terms answers p.client.rekor_pub_keys (client_state p.client).settings ≡ pull_row settings answers (reference_in p.terms.image)
row_is own settings p answers (reads, auth, accepted, moment, keys, constraints, client, logs) =
    rw (client, logs, moment, auth, accepted) (row_same p.terms.policy own settings answers (reference_in p.terms.image) (policy_is p.terms.policy settings keys constraints))

search_is : {V : Type 0} {H : V → Type 0} (settings : LiveSettings) (p : Prepared V H) → Prepares settings p
    → searched_by p.terms p.client.rekor_pub_keys (client_state p.client).settings ≡ search_row settings (reference_in p.terms.image)
search_is settings p (reads, auth, accepted, moment, keys, constraints, client, logs) = rw (client, logs, moment, auth) refl

-- a client and its arguments, from settings that were opened
abbrev pub prepared_in : {V : Type 0} {H : V → Type 0} → Opened → List (Constraint V H) → Prepared V H
prepared_in o constraints = record {
  client = o.client;
  terms = record {
    moment = o.moment;
    image = o.image;
    auth = o.auth;
    accepted = o.accepted;
    policy = record { keys = o.keys; constraints = constraints };
  };
}

pub prepares_opened : {V : Type 0} {H : V → Type 0} (asked : Asked) (settings : LiveSettings) (o : Opened) (constraints : List (Constraint V H))
    → asked.usual ≡ default_config → Opens asked settings o → reference_of settings.reference ≡ Ok (reference_in asked.image) → registry_auth asked.auth ≡ settings.auth
    → constraints ≡ constraints_by settings.constraints → Prepares settings (prepared_in o constraints)
prepares_opened asked settings o constraints usual opens reads auth written = (
  reads ∙ ap (λ (image : OciReference). Ok (reference_in image)) (sym opens.image),
  ap registry_auth opens.auth ∙ auth,
  opens.accepted,
  opens.moment,
  opens.keys,
  written,
  opens.client ∙ ap (λ u. fresh_state (config_by u (client_in settings)) true) usual,
  opens.log_keys,
)

module _ {V : Type 0} {H : V → Type 0} (settings : LiveSettings) (p : Prepared V H) (prepares : Prepares settings p) where
  -- the search by these terms is that of the settings, by a new client
  collects_by : (old searched_at : Wire) (kept : Kept) (layers : List SignatureLayer) → Collects (searched_by p.terms p.client.rekor_pub_keys (client_state p.client).settings) old searched_at (client_state p.client).kept kept layers
      → Collects (search_row settings (reference_in p.terms.image)) old searched_at (fresh true) kept layers
  collects_by old searched_at kept layers collects =
      subst (λ (k : Kept). Collects (search_row settings (reference_in p.terms.image)) old searched_at k kept layers) (ap (λ (c : Shown). c.kept) prepares.6)
      (subst (λ (row : Row TrustedLayers). Collects row old searched_at (client_state p.client).kept kept layers) (search_is settings p prepares) collects)

  -- all of it, by the settings
  live : (own : CustomVerdict V H) (Gives : Result VerifiedImage PullRefusal → Wire → Wire → Type 0) (old new : Wire) (r : Result VerifiedImage PullRefusal)
      → SearchAskPull (searched_by p.terms p.client.rekor_pub_keys (client_state p.client).settings) (layers_asked p.terms p.client.rekor_pub_keys)
      (λ answers. row_for own p.terms answers p.client.rekor_pub_keys (client_state p.client).settings) Gives (client_state p.client).kept old new r
      → LiveBy Gives settings r old new
  live own Gives old new r talked =
      let search = collects_by old talked.searched_at talked.kept talked.layers talked.collects in
      let pull = subst (λ (row : Whole VerifiedImage). Transfer row talked.asked_at talked.finished.0 talked.kept talked.finished.1 r) (row_is own settings p talked.answers prepares) talked.finished.2 in
      record {
        image = reference_in p.terms.image;
        reads = prepares.0;
        searched = talked.searched_at;
        kept = talked.kept;
        layers = talked.layers;
        search = search;
        search_confined = search_stays settings (reference_in p.terms.image) p.terms.image.direct (fresh true) talked.kept old talked.searched_at talked.layers search;
        asked = talked.asked_at;
        answers = talked.answers;
        questions = talked.questions;
        about = rw (prepares.4, prepares.7) at talked.about;
        pulled = talked.finished.0;
        left = talked.finished.1;
        pull = pull;
        founded = pull_justified settings (reference_in p.terms.image) talked.answers talked.kept talked.finished.1 talked.asked_at talked.finished.0 r talked.finished.3 pull;
        confined = pull_stays settings (reference_in p.terms.image) talked.answers talked.kept talked.finished.1 talked.asked_at talked.finished.0 p.terms.image.direct r talked.finished.3 pull;
        given = talked.finished.4;
      }

  -- a search, and questions of which not every one was answered
  live_asking : (e : HostError) (old new : Wire) → SearchCut (searched_by p.terms p.client.rekor_pub_keys (client_state p.client).settings) (client_state p.client).kept e old new → LiveAskingCut settings e old new
  live_asking e old new cut =
      let search = collects_by old cut.searched_at cut.kept cut.layers cut.collects in
      record {
        image = reference_in p.terms.image;
        reads = prepares.0;
        searched = cut.searched_at;
        kept = cut.kept;
        layers = cut.layers;
        search = search;
        search_confined = search_stays settings (reference_in p.terms.image) p.terms.image.direct (fresh true) cut.kept old cut.searched_at cut.layers search;
        asks = cut.asks;
      }

-- a search, questions, and a pull whose client knows the same logs and has the same settings as before
together : {V : Type 0} {H : V → Type 0} (own : CustomVerdict V H) (terms : Terms V H) (search : Row TrustedLayers) (Gives : Result VerifiedImage PullRefusal → Wire → Wire → Type 0) (k kept : Kept) (old searched_at asked new : Wire) (layers : List SignatureLayer) (answers : Answers)
    (logs same_logs : FinMap by_bytes (List ℕ)) (s same : Settings) (r : Result VerifiedImage PullRefusal)
    → Collects search old searched_at k kept layers → WereAsked answers.list searched_at asked → layers_asked terms same_logs answers layers → same_logs ≡ logs → same ≡ s
    → Finished (row_for own terms answers same_logs same) Gives kept asked new r
    → SearchAskPull search (layers_asked terms logs) (λ a. row_for own terms a logs s) Gives k old new r
together own terms search Gives k kept old searched_at asked new layers answers logs same_logs s same r collects questions about is_logs is_settings h = record {
  searched_at = searched_at;
  kept = kept;
  layers = layers;
  collects = collects;
  asked_at = asked;
  answers = answers;
  questions = questions;
  about = subst (λ (l : FinMap by_bytes (List ℕ)). layers_asked terms l answers layers) is_logs about;
  finished = subst (λ (l : FinMap by_bytes (List ℕ)). Finished (row_for own terms answers l s) Gives kept asked new r) is_logs
      (subst (λ (x : Settings). Finished (row_for own terms answers same_logs x) Gives kept asked new r) is_settings h);
}

pub talked : {V : Type 0} {H : V → Type 0} (own : CustomVerdict V H) (terms : Terms V H) (search : Row TrustedLayers) (blobs : Bool) (k kept : Kept) (old searched_at asked new : Wire) (layers : List SignatureLayer) (answers : Answers)
    (logs same_logs : FinMap by_bytes (List ℕ)) (s same : Settings) (e : Status)
    → Collects search old searched_at k kept layers → WereAsked answers.list searched_at asked → layers_asked terms same_logs answers layers → same_logs ≡ logs → same ≡ s
    → Ends (Finished (row_for own terms answers same_logs same) (OutcomeTold blobs) kept asked new) (λ x. FinishedCut (row_for own terms answers same_logs same) blobs kept x asked new) e
    → Ends (SearchAskPull search (layers_asked terms logs) (λ a. row_for own terms a logs s) (OutcomeTold blobs) k old new) (λ x. SearchAskPullCut search (layers_asked terms logs) (λ a. row_for own terms a logs s) blobs k x old new) e
talked own terms search blobs k kept old searched_at asked new layers answers logs same_logs s same e collects questions about is_logs is_settings ends =
    ends_as {P = Finished (row_for own terms answers same_logs same) (OutcomeTold blobs) kept asked new}
    {Q = SearchAskPull search (layers_asked terms logs) (λ a. row_for own terms a logs s) (OutcomeTold blobs) k old new}
    {C = λ x. FinishedCut (row_for own terms answers same_logs same) blobs kept x asked new}
    {D = λ x. SearchAskPullCut search (layers_asked terms logs) (λ a. row_for own terms a logs s) blobs k x old new} e
    (λ r h. together own terms search (OutcomeTold blobs) k kept old searched_at asked new layers answers logs same_logs s same r collects questions about is_logs is_settings h)
    (λ x h. inr (h.0, together own terms search (λ outcome. OutcomeCut blobs outcome x) k kept old searched_at asked new layers answers logs same_logs s same h.0 collects questions about is_logs is_settings h.1)) ends

-- a search, and questions of which not every one was answered
pub talked_part : {V : Type 0} {H : V → Type 0} (own : CustomVerdict V H) (terms : Terms V H) (search : Row TrustedLayers) (blobs : Bool) (k kept : Kept) (old searched_at new : Wire) (layers : List SignatureLayer) (logs : FinMap by_bytes (List ℕ)) (s : Settings) (e : HostError)
    → Collects search old searched_at k kept layers → AsksCause e searched_at new
    → Ends (SearchAskPull search (layers_asked terms logs) (λ a. row_for own terms a logs s) (OutcomeTold blobs) k old new) (λ x. SearchAskPullCut search (layers_asked terms logs) (λ a. row_for own terms a logs s) blobs k x old new) (status_of e)
talked_part own terms search blobs k kept old searched_at new layers logs s e collects asks =
    host_ends (SearchAskPull search (layers_asked terms logs) (λ a. row_for own terms a logs s) (OutcomeTold blobs) k old new)
    (λ x. SearchAskPullCut search (layers_asked terms logs) (λ a. row_for own terms a logs s) blobs k x old new) e
    (inl (record { searched_at = searched_at; kept = kept; layers = layers; collects = collects; asks = asks }))

-- a pull by these terms, and what was sent for it
pub finished_for : {V : Type 0} {H : V → Type 0} (own : CustomVerdict V H) (terms : Terms V H) (answers : Answers) (logs : FinMap by_bytes (List ℕ)) (s : Settings) (blobs : Bool) (k l : Kept) (old pulled new : Wire) (r : Result VerifiedImage PullRefusal) (e : Status)
    → PulledBy (row_for own terms answers logs s) old pulled k l r → Delivers blobs r e pulled new
    → Ends (Finished (row_for own terms answers logs s) (OutcomeTold blobs) k old new) (λ x. FinishedCut (row_for own terms answers logs s) blobs k x old new) e
finished_for own terms answers logs s blobs k l old pulled new r e pull given = finished (row_for own terms answers logs s) blobs k l old pulled new r e pull given

-- how all of it ends, by the settings
pub live_ends : {V : Type 0} {H : V → Type 0} (own : CustomVerdict V H) (settings : LiveSettings) (p : Prepared V H) (old new : Wire) (e : Status) → Prepares settings p
    → Ends (SearchAskPull (searched_by p.terms p.client.rekor_pub_keys (client_state p.client).settings) (layers_asked p.terms p.client.rekor_pub_keys)
    (λ answers. row_for own p.terms answers p.client.rekor_pub_keys (client_state p.client).settings) (OutcomeTold settings.blobs) (client_state p.client).kept old new)
    (λ x. SearchAskPullCut (searched_by p.terms p.client.rekor_pub_keys (client_state p.client).settings) (layers_asked p.terms p.client.rekor_pub_keys)
    (λ answers. row_for own p.terms answers p.client.rekor_pub_keys (client_state p.client).settings) settings.blobs (client_state p.client).kept x old new) e
    → Ends (λ r. Live settings r old new) (λ x. LiveCut settings x old new) e
live_ends own settings p old new e prepares h =
    ends_as {P = SearchAskPull (searched_by p.terms p.client.rekor_pub_keys (client_state p.client).settings) (layers_asked p.terms p.client.rekor_pub_keys) (λ answers. row_for own p.terms answers p.client.rekor_pub_keys (client_state p.client).settings) (OutcomeTold settings.blobs) (client_state p.client).kept old new}
    {Q = λ r. Live settings r old new}
    {C = λ x. SearchAskPullCut (searched_by p.terms p.client.rekor_pub_keys (client_state p.client).settings) (layers_asked p.terms p.client.rekor_pub_keys) (λ answers. row_for own p.terms answers p.client.rekor_pub_keys (client_state p.client).settings) settings.blobs (client_state p.client).kept x old new}
    {D = λ x. LiveCut settings x old new} e
    (λ r t. live settings p prepares own (OutcomeTold settings.blobs) old new r t)
    (λ x cut. live_cut x cut) h where
      live_cut : (x : HostError) → SearchAskPullCut (searched_by p.terms p.client.rekor_pub_keys (client_state p.client).settings) (layers_asked p.terms p.client.rekor_pub_keys) (λ answers. row_for own p.terms answers p.client.rekor_pub_keys (client_state p.client).settings) settings.blobs (client_state p.client).kept x old new
          → LiveCut settings x old new
      live_cut x (inl asking) = inl (live_asking settings p prepares x old new asking)
      live_cut x (inr (r, t)) = inr (r, live settings p prepares own (λ outcome. OutcomeCut settings.blobs outcome x) old new r t)
