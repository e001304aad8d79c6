-- What a client keeps after a decision: responses within the bounds that it had, and credentials that it stored before or
-- those of the settings.
use Rattle.std.proofs.Common.{◌≡◌, ◌⊎◌, inl, inr, List, Some, Result, Ok, Err, sym, subst}
use Rattle.std.specs.FinMap as map
use Rattle.oci_names.specs.Reference.{resolved_registry}
use Rattle.oci_names.specs.declared.reference.Reference.{Reference}
use Rattle.oci_auth.specs.declared.auth.RegistryAuth.{RegistryAuth}
use Rattle.oci_transport.specs.declared.message.Exchange.{Exchange}
use Rattle.registry_cache.specs.declared.answers.Bounds.{Bounds}
use Rattle.registry_calls.specs.Clients.{Kept}
use Rattle.cosign_chain.specs.declared.verified_documents.VerifiedDocuments.{VerifiedDocuments}
use Rattle.cosign_rows.specs.declared.found.TrustedLayers.{TrustedLayers}
use Rattle.cosign_rows.specs.declared.refusal.PullRefusal.{PullRefusal}
use Rattle.live_host.specs.Wire.{Wire}
use Rattle.live_pull.specs.Justified.{Confined}
use Rattle.live_pull.specs.Pulls.{client_settings, context_of, meaning_of}
use Rattle.live_pull.specs.declared.settings.LiveSettings.{LiveSettings}
use Rattle.live_pull.specs.Course.{AfterSearchBy, NothingTold}
use Rattle.live_pull.specs.Decided.{DecidedFrom}
use Rattle.live_pull.specs.DocumentsJustified.{AfterJustified}
use Rattle.live_pull.specs.Keeping.{IsWithin, StoresOnly}
use Rattle.live_pull.specs.Rows.{asks_of, decide_row, everyone_of}
use Rattle.live_pull.proofs.Grows.{collected_grows, decided_grows}

module _ (settings : LiveSettings) where
  -- ---- bounds

  after_within : (bounds : Bounds) (image : Reference) (k l : Kept) (found : Result TrustedLayers PullRefusal) (old new : Wire) (r : Result VerifiedDocuments PullRefusal) → AfterSearchBy NothingTold (asks_of settings) (decide_row settings image) k l found old new r → IsWithin bounds k.1 → IsWithin bounds l.1
  after_within bounds image k l (Ok found) old new r after is =
      let decision = after.finished.decision in
      ((decided_grows (client_settings settings) settings.moment (meaning_of settings after.answers) image settings.auth found).bounds bounds).stays k l 0 decision.faults decision.conversation r decision.runs is
  after_within bounds image k l (Err e) old new r after is = subst (λ (k : Kept). IsWithin bounds k.1) (sym after.1) is

  pub decided_within : (bounds : Bounds) (k l : Kept) (r : Result VerifiedDocuments PullRefusal) (old new : Wire) → DecidedFrom settings k l r old new → IsWithin bounds k.1 → IsWithin bounds l.1
  decided_within bounds k l r old new decided is =
      let course = decided.course in
      let search = course.search in
      after_within bounds decided.image course.kept l course.found course.searched_at new r course.after
      (((collected_grows (client_settings settings) settings.moment (everyone_of settings) decided.image settings.auth).bounds bounds).stays k course.kept 0 search.faults search.conversation course.found search.runs is)

  -- ---- credentials

  by_stored : (a stored : RegistryAuth) (P Q : Type 0) → (P → stored ≡ a) → P ⊎ (Q × (Some a ≡ Some stored)) → stored ≡ a
  by_stored a stored P Q before (inl h) = before h
  by_stored a stored P Q before (inr h) = cc (sym h.1)

  confined_stores : (image : Reference) (k l : Kept) (c : List Exchange) → Confined (context_of settings) image settings.auth k l c → StoresOnly settings.auth k.0 → StoresOnly settings.auth l.0
  confined_stores image k l c confined only = λ registry stored here.
      by_stored settings.auth stored (map.get k.0.credentials registry ≡ Some stored) (registry ≡ resolved_registry image) (only registry stored) (confined.stored registry stored here)

  after_stores : (image : Reference) (k l : Kept) (found : Result TrustedLayers PullRefusal) (old new : Wire) (r : Result VerifiedDocuments PullRefusal) (after : AfterSearchBy NothingTold (asks_of settings) (decide_row settings image) k l found old new r)
      → AfterJustified NothingTold settings image k l found old new r after → StoresOnly settings.auth k.0 → StoresOnly settings.auth l.0
  after_stores image k l (Ok found) old new r after justified only = confined_stores image k l after.finished.decision.conversation justified.1 only
  after_stores image k l (Err e) old new r after justified only = subst (λ (k : Kept). StoresOnly settings.auth k.0) (sym after.1) only

  pub decided_stores : (k l : Kept) (r : Result VerifiedDocuments PullRefusal) (old new : Wire) → DecidedFrom settings k l r old new → StoresOnly settings.auth k.0 → StoresOnly settings.auth l.0
  decided_stores k l r old new decided only =
      let course = decided.course in
      after_stores decided.image course.kept l course.found course.searched_at new r course.after decided.justified.after
      (confined_stores decided.image k course.kept course.search.conversation decided.justified.confined only)
