-- The clients of the rules, and the states in which they are.
use Rattle.std.proofs.Common.{◌≡◌, ◌<◌, ◌≤◌, ◌+◌, ℕ, zero, suc, true, false, Bool, List, [], ◌∷◌, ◌++◌, length, drop, slice_index_or, slice_set, Option, Some, None, Result, Ok, Err, refl, sym, ap, ◌∙◌, subst, append_assoc, append-nil, inl, inr}
use Rattle.std.proofs.lemmas.List.{drop_all, drop_more}
use Rattle.std.specs.FinMap.{get-empty}
use Rattle.json_values.specs.Places.{by_bytes}
use Rattle.engine_terms.specs.declared.settings.Settings.{Settings}
use Rattle.oci_auth.specs.AuthState.{fresh}
use Rattle.oci_auth.specs.Cache.{bounded}
use Rattle.oci_auth.specs.declared.auth.RegistryAuth.{RegistryAuth}
use Rattle.oci_auth.specs.declared.auth_state.AuthState.{AuthState}
use Rattle.oci_engine.specs.Kept.{auth_state_of}
use Rattle.oci_engine.specs.declared.client.Client.{Client as Engine}
use Rattle.registry_calls.specs.Clients.{Client as Shown, Kept, none_kept}
use Rattle.sig_registry.specs.States.{engine_state, with_few_tokens}
use Rattle.cosign_client.specs.State.{client_state}
use Rattle.oci_names.specs.Reference.{reference_of}
use Rattle.oci_names.specs.declared.parse_error.ParseError.{ParseError}
use Rattle.oci_names.specs.declared.reference.Reference.{Reference}
use Rattle.live_admit.specs.Covering.{covers, place_of}
use Rattle.live_admit.specs.Rules.{IsFirstAt, first_for, rule_for, with_first}
use Rattle.live_admit.specs.declared.rule.Rule.{Rule}
use Rattle.pod_reviews.specs.declared.verdict.Denial.TheVariants.{NotAReference, NoRule}
use Rattle.pod_reviews.specs.declared.verdict.Verdict.{Verdict}
use Rattle.pod_reviews.specs.declared.verdict.Verdict.TheVariants.{Denied}
use Rattle.live_host.specs.HostErrors.{TellCause}
use Rattle.live_host.specs.Wire.{Wire, SendsFrame}
use Rattle.live_host.specs.declared.streams.HostError.{HostError}
use Rattle.live_pull.specs.Pulls.{client_settings}
use Rattle.live_pull.specs.declared.settings.LiveSettings.{LiveSettings}
use Rattle.live_pull.specs.declared.status.Status.{Status}
use Rattle.live_pull.specs.Decided.{Suits, UndecidedFrom}
use Rattle.live_pull.specs.Status.{status_of}
use Rattle.live_pull.specs.Keeping.{IsWithin, StoresOnly}
use Rattle.live_pull.proofs.Keeping.{decided_stores, decided_within}
use Rattle.live_pull.proofs.Logs.{course_logged}
use Rattle.live_admit.specs.Clients.{AreIn, ClientState, Gives, IsIn, Leads, LeadsOne, States, client_bounds, new_state, new_states, nothing_kept}
use Rattle.live_admit.specs.Decided.{ByReference, ByRule, DecidedBy, ImageCut, ImageDecided, UnderRule, UnderRuleCut}
use Rattle.live_admit.specs.Frames.{image_head}
use Rattle.live_admit.specs.Settings.{Rules, settings_for}
use Rattle.live_admit.specs.declared.clients.RuleClient.{RuleClient}
use Rattle.live_admit.proofs.Ends.{by_host, cause_as, never_cut}

-- ---- the client of the first rule that covers a place

pub record FindsClient (helds : List (Rule RuleClient)) (states : States) (place : List ℕ) (at : ℕ) (default : Rule RuleClient) : Type 0 where
  pub state : Rule ClientState
  pub found : first_for states place ≡ Some state
  pub is_in : IsIn (slice_index_or helds at default) state
  pub left : (left : ClientState) (held : Rule RuleClient) → IsIn held (record state { settings = left }) → AreIn (slice_set helds at held) (with_first states place left)

same_place : (held : Rule RuleClient) (state : Rule ClientState) (place : List ℕ) (b : Bool) → IsIn held state → covers held.images place ≡ b → covers state.images place ≡ b
same_place held state place b is at = subst (λ (images : List ℕ). covers images place ≡ b) is.images at

pub finds : (helds : List (Rule RuleClient)) (states : States) (place : List ℕ) (at : ℕ) (default : Rule RuleClient) → AreIn helds states → IsFirstAt helds place at → FindsClient helds states place at default
finds [] states place at default are first = absurd first
finds (held ∷ helds) [] place at default are first = absurd are
finds (held ∷ helds) (state ∷ states) place zero default are first =
    let here = same_place held state place true are.0 first in
    record { state = state; found = rw here refl; is_in = are.0; left = λ left held is. rw here (is, are.1) }
finds (held ∷ helds) (state ∷ states) place (suc at) default are first =
    let here = same_place held state place false are.0 first.0 in
    let rest = finds helds states place at default are.1 first.1 in
    record { state = rest.state; found = rw here rest.found; is_in = rest.is_in; left = λ left held is. rw here (are.0, rest.left left held is) }

pub finds_none : (helds : List (Rule RuleClient)) (states : States) (place : List ℕ) → AreIn helds states → first_for helds place ≡ None → first_for states place ≡ None
finds_none [] [] place are none = refl
finds_none [] (state ∷ states) place are none = absurd are
finds_none (held ∷ helds) [] place are none = absurd are
finds_none (held ∷ helds) (state ∷ states) place are none = by_head (covers held.images place) refl (finds_none helds states place are.1) where
  by_head : (b : Bool) → covers held.images place ≡ b → (first_for helds place ≡ None → first_for states place ≡ None) → first_for (state ∷ states) place ≡ None
  by_head true is rest = absurd (cc (rw is at none))
  by_head false is rest = rw (same_place held state place false are.0 is) (rest (rw is at none))

-- ---- one decision

kept_of : (c : Shown) (s : Settings) → c.settings ≡ s → c ≡ record { settings = s; kept = c.kept }
kept_of c s is = ap (λ (x : Settings). let shown : Shown = record { settings = x; kept = c.kept } in shown) is

-- a decision by the settings of a rule and by its client
pub under_rule : (held left_held : Rule RuleClient) (settings : LiveSettings) (moment : ℕ) (image : List ℕ) (verdict : Result Verdict Status) (old told_at new : Wire)
    → SendsFrame (image_head image held.images) [] old told_at → settings ≡ settings_for held.settings.settings image moment
    → (Suits settings held.settings.client → Gives (λ v. DecidedBy settings (client_state held.settings.client).kept (client_state left_held.settings.client).kept v told_at new)
    (λ e. UndecidedFrom settings (client_state held.settings.client).kept (client_state left_held.settings.client).kept e told_at new) verdict)
    → (client_state left_held.settings.client).settings ≡ (client_state held.settings.client).settings → left_held.settings.client.rekor_pub_keys ≡ held.settings.client.rekor_pub_keys
    → left_held.images ≡ held.images → left_held.settings.settings ≡ held.settings.settings
    → LeadsOne held left_held (λ before left v. UnderRule before left moment image v old new) (λ before e. UnderRuleCut before moment image e old new) verdict
under_rule held left_held settings moment image verdict old told_at new told by decided same_settings same_logs same_images same_rule = λ before is. given before is verdict (decided (suits before is)) where
  by_state : (before : Rule ClientState) → IsIn held before → settings ≡ settings_for before.settings.settings image moment
  by_state before is = by ∙ ap (λ (s : LiveSettings). settings_for s image moment) is.settings

  suits : (before : Rule ClientState) → IsIn held before → Suits settings held.settings.client
  suits before is = (
    ap (λ (c : Shown). c.settings) is.client ∙ ap client_settings (sym (by_state before is)),
    is.log_keys ∙ ap (λ (s : LiveSettings). s.log_keys) (sym (by_state before is)),
  )

  told_by : (before : Rule ClientState) → IsIn held before → SendsFrame (image_head image before.images) [] old told_at
  told_by before is = subst (λ (images : List ℕ). SendsFrame (image_head image images) [] old told_at) is.images told

  undecided_by : (before : Rule ClientState) (e : HostError) → IsIn held before → UndecidedFrom settings (client_state held.settings.client).kept (client_state left_held.settings.client).kept e told_at new
      → UndecidedFrom (settings_for before.settings.settings image moment) before.settings.kept (client_state left_held.settings.client).kept e told_at new
  undecided_by before e is cut =
      subst (λ (k : Kept). UndecidedFrom (settings_for before.settings.settings image moment) k (client_state left_held.settings.client).kept e told_at new) (ap (λ (c : Shown). c.kept) is.client)
      (subst (λ (s : LiveSettings). UndecidedFrom s (client_state held.settings.client).kept (client_state left_held.settings.client).kept e told_at new) (by_state before is) cut)

  given : (before : Rule ClientState) → IsIn held before → (verdict : Result Verdict Status)
      → Gives (λ v. DecidedBy settings (client_state held.settings.client).kept (client_state left_held.settings.client).kept v told_at new)
      (λ e. UndecidedFrom settings (client_state held.settings.client).kept (client_state left_held.settings.client).kept e told_at new) verdict
      → Gives (λ v. (left : ClientState) × IsIn left_held (record before { settings = left }) × UnderRule before left moment image v old new) (λ e. UnderRuleCut before moment image e old new) verdict
  given before is (Err s) h =
      cause_as (λ e. UndecidedFrom settings (client_state held.settings.client).kept (client_state left_held.settings.client).kept e told_at new) (λ e. UnderRuleCut before moment image e old new) s
      (λ e cut. inr (record { told_at = told_at; told = told_by before is; left = (client_state left_held.settings.client).kept; undecided = undecided_by before e is cut })) h
  given before is (Ok v) h =
      let own = before.settings in
      let kept : Kept = (client_state left_held.settings.client).kept in
      let here : DecidedBy (settings_for own.settings image moment) own.kept kept v told_at new =
      subst (λ (k : Kept). DecidedBy (settings_for own.settings image moment) k kept v told_at new) (ap (λ (c : Shown). c.kept) is.client)
      (subst (λ (s : LiveSettings). DecidedBy s (client_state held.settings.client).kept kept v told_at new) (by_state before is) h) in
      let logged = course_logged (settings_for own.settings image moment) here.documents.image own.kept kept told_at new here.outcome here.documents.course own.calls is.run is.backed in
      let bounds = decided_within (settings_for own.settings image moment) client_bounds own.kept kept here.outcome told_at new here.documents is.bounds in
      let credentials = decided_stores (settings_for own.settings image moment) own.kept kept here.outcome told_at new here.documents is.credentials in
      let left : ClientState = record { settings = own.settings; kept = kept; calls = logged.more ++ own.calls } in (
        left,
        record {
          images = same_images ∙ is.images;
          settings = same_rule ∙ is.settings;
          client = kept_of (client_state left_held.settings.client) (client_settings own.settings) (same_settings ∙ ap (λ (c : Shown). c.settings) is.client);
          log_keys = same_logs ∙ is.log_keys;
          run = logged.run;
          backed = logged.backed;
          bounds = bounds;
          credentials = credentials;
        },
        record {
          told_at = told_at;
          told = told_by before is;
          decided = here;
          settings = refl;
          logged = logged;
          calls = refl;
          bounds = bounds;
          credentials = credentials;
        },
      )

-- the host was not told the image
pub untold : (held left_held : Rule RuleClient) (moment : ℕ) (image : List ℕ) (e : HostError) (old new : Wire) → TellCause (image_head image held.images, []) e old new
    → LeadsOne {A = Verdict} held left_held (λ before left v. UnderRule before left moment image v old new) (λ before e. UnderRuleCut before moment image e old new) (Err (status_of e))
untold held left_held moment image e old new cause = λ before is.
    by_host (λ e. UnderRuleCut before moment image e old new) e (inl (subst (λ (images : List ℕ). TellCause (image_head image images, []) e old new) is.images cause))

-- ---- among the rules

-- by the client at this index, which is of the first rule that covers the place
pub led : (helds : List (Rule RuleClient)) (at : ℕ) (reference : Reference) (moment : ℕ) (image : List ℕ) (held left_held : Rule RuleClient) (verdict : Result Verdict Status) (old new : Wire)
    → IsFirstAt helds (place_of reference) at → reference_of image ≡ Ok reference → held ≡ slice_index_or helds at held
    → LeadsOne held left_held (λ before left v. UnderRule before left moment image v old new) (λ before e. UnderRuleCut before moment image e old new) verdict
    → Leads helds (slice_set helds at left_held) (λ before after v. ByRule (rule_for before reference) (place_of reference) before after moment image v old new) (λ before e. ImageCut before moment image e old new) verdict
led helds at reference moment image held left_held (Err s) old new first reads item one = λ before are.
    let found = finds helds before (place_of reference) at held are first in
    cause_as (λ e. UnderRuleCut found.state moment image e old new) (λ e. ImageCut before moment image e old new) s
    (λ e cut. record { reference = reference; reads = reads; rule = found.state; covers = found.found; cut = cut })
    (one found.state (subst (λ (x : Rule RuleClient). IsIn x found.state) (sym item) found.is_in))
led helds at reference moment image held left_held (Ok v) old new first reads item one = λ before are.
    let found = finds helds before (place_of reference) at held are first in
    let given = one found.state (subst (λ (x : Rule RuleClient). IsIn x found.state) (sym item) found.is_in) in
    let after = with_first before (place_of reference) given.0 in (
      after,
      found.left given.0 left_held given.1,
      subst (λ (rule : Option (Rule ClientState)). ByRule rule (place_of reference) before after moment image v old new) (sym found.found) (given.0, refl, given.2),
    )

-- an image under no rule
pub led_none : (helds : List (Rule RuleClient)) (reference : Reference) (moment : ℕ) (image : List ℕ) (old : Wire) → rule_for helds reference ≡ None
    → Leads helds helds (λ before after v. ByRule (rule_for before reference) (place_of reference) before after moment image v old old) (λ before e. ImageCut before moment image e old old) (Ok (Denied NoRule))
led_none helds reference moment image old none = λ before are. (
  before,
  are,
  subst (λ (rule : Option (Rule ClientState)). ByRule rule (place_of reference) before before moment image (Denied NoRule) old old) (sym (finds_none helds before (place_of reference) are none)) (refl, refl, refl),
)

-- a text that is not a reference
pub led_no_reference : (helds : List (Rule RuleClient)) (moment : ℕ) (image : List ℕ) (e : ParseError) (verdict : Result Verdict Status) (old new : Wire) → reference_of image ≡ Err e
    → Gives (λ v. (v ≡ Denied (NotAReference image)) × (old ≡ new)) (λ e. ⊥) verdict → Leads helds helds (λ before after v. ImageDecided before after moment image v old new) (λ before e. ImageCut before moment image e old new) verdict
led_no_reference helds moment image e (Ok v) old new is denied = λ before are.
    (before, are, subst (λ (r : Result Reference ParseError). ByReference r before before moment image v old new) (sym is) (denied.0, refl, denied.1))
led_no_reference helds moment image e (Err s) old new is denied = λ before are. never_cut (λ e. ImageCut before moment image e old new) s denied

-- a text that is one
pub led_reference : (olds news : List (Rule RuleClient)) (reference : Reference) (moment : ℕ) (image : List ℕ) (verdict : Result Verdict Status) (old new : Wire) → reference_of image ≡ Ok reference
    → Leads olds news (λ before after v. ByRule (rule_for before reference) (place_of reference) before after moment image v old new) (λ before e. ImageCut before moment image e old new) verdict
    → Leads olds news (λ before after v. ImageDecided before after moment image v old new) (λ before e. ImageCut before moment image e old new) verdict
led_reference olds news reference moment image verdict old new is led =
    subst (λ (r : Result Reference ParseError). Leads olds news (λ before after v. ByReference r before after moment image v old new) (λ before e. ImageCut before moment image e old new) verdict) (sym is) led

-- ---- new clients

-- the client state, with few tokens
pub few_kept : (engine : Engine) (config_secs : ℕ) → auth_state_of engine ≡ fresh config_secs → config_secs ≡ 60 → engine_state (with_few_tokens client_bounds.answers engine) (Some (none_kept (Some client_bounds))) ≡ record { settings = engine.settings; kept = nothing_kept }
few_kept engine config_secs is usual =
    let kept : auth_state_of engine ≡ fresh 60 = is ∙ ap fresh usual in
    ap (λ (auth : AuthState). let state : Shown = record { settings = engine.settings; kept = (record auth { tokens = bounded client_bounds.answers auth.tokens }, Some (none_kept (Some client_bounds))) } in state) kept

-- a client by its parts
pub client_is : (c : Shown) (s : Settings) → c.settings ≡ s → c.kept ≡ nothing_kept → c ≡ record { settings = s; kept = nothing_kept }
client_is c s settings kept =
    ap (λ (x : Settings). let state : Shown = record { settings = x; kept = c.kept } in state) settings
    ∙ ap (λ (k : Kept). let state : Shown = record { settings = s; kept = k } in state) kept

abbrev pub OpensRest : Rules → List (Rule RuleClient) → ℕ → Type 0
OpensRest rules opened at = (more : List (Rule RuleClient)) → AreIn more (new_states (drop at rules)) → AreIn (opened ++ more) (new_states rules)

pub one_opened : (rules : Rules) (opened next : List (Rule RuleClient)) (at : ℕ) (rule : Rule LiveSettings) (held : Rule RuleClient) → at < length rules → rule ≡ slice_index_or rules at rule → IsIn held (new_state rule) → next ≡ opened ++ held ∷ []
    → OpensRest rules opened at → OpensRest rules next (at + 1)
one_opened rules opened next at rule held in_it item is pushed rest = λ more are.
    let here : AreIn (held ∷ more) (new_state rule ∷ new_states (drop (at + 1) rules)) = (is, are) in
    let states : AreIn (held ∷ more) (new_states (drop at rules)) =
    subst (λ (xs : Rules). AreIn (held ∷ more) (new_states xs)) (sym (drop_more rules at rule in_it)) (subst (λ (x : Rule LiveSettings). AreIn (held ∷ more) (new_state x ∷ new_states (drop (at + 1) rules))) item here) in
    subst (λ (xs : List (Rule RuleClient)). AreIn (xs ++ more) (new_states rules)) (sym pushed) (subst (λ (xs : List (Rule RuleClient)). AreIn xs (new_states rules)) (sym (append_assoc opened (held ∷ []) more)) (rest (held ∷ more) states))

pub all_opened : (rules : Rules) (opened : List (Rule RuleClient)) (at : ℕ) → length rules ≤ at → OpensRest rules opened at → AreIn opened (new_states rules)
all_opened rules opened at none rest =
    subst (λ (xs : List (Rule RuleClient)). AreIn xs (new_states rules)) (append-nil opened) (rest [] (subst (λ (xs : Rules). AreIn [] (new_states xs)) (sym (drop_all at rules none)) tt))

-- a new client has nothing cached, and no credentials
pub new_within : IsWithin client_bounds nothing_kept.1
new_within = (refl, refl)

pub new_stores : (a : RegistryAuth) → StoresOnly a nothing_kept.0
new_stores a = λ registry stored here. cc (sym (get-empty by_bytes registry) ∙ here)
