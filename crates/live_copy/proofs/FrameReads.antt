-- The frame `copy`, read member by member.
use Rattle.std.proofs.Common.{◌≡◌, Bool, true, Option, Some, None, refl, ap, ◌∙◌, codes}
use Rattle.std.specs.Prelude.{is_some, ⊤}
use Rattle.serde_json.specs.Data.{Data}
use Rattle.json_tables.specs.Reading.{◌>>=◌, bool_of}
use Rattle.json_tables.specs.Objects.{only}
use Rattle.json_tables.specs.Member.{required}
use Rattle.json_tables.specs.Outcomes.{Refuses}
use Rattle.json_tables.specs.declared.error.ReadError.{ReadError}
use Rattle.json_tables.specs.declared.error.ReadError.TheVariants as read
use Rattle.json_tables.proofs.Refusals.{behind}
use Rattle.live_host.proofs.FrameWords.{behind_some}
use Rattle.live_host.specs.Names.{frame_named}
use Rattle.live_pull.specs.Settings.{documents_of}
use Rattle.live_pull.specs.declared.settings.LiveSettings.{LiveSettings}
use Rattle.live_pull.specs.Target.{target_of}
use Rattle.live_pull.specs.declared.target.TargetSettings.{TargetSettings}
use Rattle.live_copy.specs.Settings.{copy_of, members}

refused_here : {A X : Type 0} (e : ReadError) (o : Option A) (k : A → Option X) → Refuses e o → Refuses e (o >>= k)
refused_here read.Float o k h = absurd h
refused_here read.Shape o k h = ap (λ p. p >>= k) h
refused_here read.Ambiguous o k h = absurd h
refused_here read.WantOfMemory o k h = tt

next : {A X : Type 0} {o : Option A} {x : A} {r : Option X} (k : A → Option X) → o ≡ Some x → k x ≡ r → (o >>= k) ≡ r
next k same h = ap (λ p. p >>= k) same ∙ h

next_some : {A X : Type 0} {r : Option X} (o : Option A) (k : A → Option X) → is_some o ≡ true → ((a : A) → k a ≡ r) → (o >>= k) ≡ r
next_some None k is h = absurd (cc is)
next_some (Some a) k is h = h a

module _ (d : Data) (k : ⊤) (replace tag : Bool) (target : TargetSettings) (known : only members d ≡ Some k) (named : is_some (frame_named (codes "copy") d) ≡ true) (is_replace : required bool_of (codes "replace") d ≡ Some replace) (is_tag : required bool_of (codes "tag") d ≡ Some tag) (is_target : required target_of (codes "target") d ≡ Some target) where
  pub unread : (e : ReadError) → Refuses e (required documents_of (codes "settings") d) → Refuses e (copy_of d)
  unfolding copy_of
  unread e h = behind e _ known (behind_some e _ _ named (λ name. behind e _ is_replace (behind e _ is_tag (behind e _ is_target (refused_here e _ _ h)))))

  pub all_read : (settings : LiveSettings) → required documents_of (codes "settings") d ≡ Some settings → copy_of d ≡ Some (record { settings = settings; target = target; replace = replace; tag = tag })
  unfolding copy_of
  all_read settings h = next _ known (next_some _ _ named (λ name. next _ is_replace (next _ is_tag (next _ is_target (next _ h refl)))))
