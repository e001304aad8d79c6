-- The frame `check`, read member by member.
use Rattle.std.proofs.Common.{◌≡◌, ℕ, true, Option, Some, None, refl, ap, ◌∙◌, codes}
use Rattle.std.specs.Prelude.{is_some, ⊤}
use Rattle.serde_json.specs.Data.{Data}
use Rattle.json_tables.specs.Reading.{◌>>=◌, u64_of}
use Rattle.json_tables.specs.Objects.{only}
use Rattle.json_tables.specs.Member.{required}
use Rattle.json_tables.specs.Outcomes.{Refuses}
use Rattle.json_tables.specs.declared.error.ReadError.{ReadError}
use Rattle.json_tables.specs.declared.error.ReadError.TheVariants as read
use Rattle.json_tables.proofs.Refusals.{behind}
use Rattle.live_host.proofs.FrameWords.{behind_some}
use Rattle.live_host.specs.Names.{frame_named}
use Rattle.live_pull.specs.Settings.{documents_of}
use Rattle.live_pull.specs.declared.settings.LiveSettings.{LiveSettings}
use Rattle.pull_lock.specs.Files.{entry_of}
use Rattle.pull_lock.specs.declared.lock.LockEntry.{LockEntry}
use Rattle.live_check.specs.Settings.{check_of, members}

refused_here : {A X : Type 0} (e : ReadError) (o : Option A) (k : A → Option X) → Refuses e o → Refuses e (o >>= k)
refused_here read.Float o k h = absurd h
refused_here read.Shape o k h = ap (λ p. p >>= k) h
refused_here read.Ambiguous o k h = absurd h
refused_here read.WantOfMemory o k h = tt

next : {A X : Type 0} {o : Option A} {x : A} {r : Option X} (k : A → Option X) → o ≡ Some x → k x ≡ r → (o >>= k) ≡ r
next k same h = ap (λ p. p >>= k) same ∙ h

next_some : {A X : Type 0} {r : Option X} (o : Option A) (k : A → Option X) → is_some o ≡ true → ((a : A) → k a ≡ r) → (o >>= k) ≡ r
next_some None k is h = absurd (cc is)
next_some (Some a) k is h = h a

module _ (d : Data) (k : ⊤) (first end : ℕ) (entry : LockEntry) (known : only members d ≡ Some k) (named : is_some (frame_named (codes "check") d) ≡ true) (is_first : required u64_of (codes "first") d ≡ Some first) (is_end : required u64_of (codes "end") d ≡ Some end) (is_entry : required entry_of (codes "entry") d ≡ Some entry) where
  pub unread : (e : ReadError) → Refuses e (required documents_of (codes "settings") d) → Refuses e (check_of d)
  unfolding check_of
  unread e h = behind e _ known (behind_some e _ _ named (λ name. behind e _ is_first (behind e _ is_end (behind e _ is_entry (refused_here e _ _ h)))))

  pub all_read : (settings : LiveSettings) → required documents_of (codes "settings") d ≡ Some settings → check_of d ≡ Some (record { entry = entry; settings = settings; first = first; end = end })
  unfolding check_of
  all_read settings h = next _ known (next_some _ _ named (λ name. next _ is_first (next _ is_end (next _ is_entry (next _ h refl)))))
