-- A property of all settings: both references parse.
use Rattle.std.proofs.Common.{◌≡◌, Option, Some, None, IfSome, subst, codes}
use Rattle.serde_json.specs.Data.{Data}
use Rattle.serde_json.specs.Find.{get}
use Rattle.json_tables.specs.Reading.{◌>>=◌, bool_of}
use Rattle.json_tables.specs.Objects.{only}
use Rattle.json_tables.specs.Member.{required}
use Rattle.recorded_case.proofs.CaseParts.{through}
use Rattle.live_host.specs.Names.{frame_named}
use Rattle.live_pull.proofs.Ready.{documents_ready}
use Rattle.live_pull.specs.Settings.{IsReady, documents_of}
use Rattle.live_pull.specs.declared.settings.LiveSettings.{LiveSettings}
use Rattle.live_pull.proofs.TargetReady.{target_ready}
use Rattle.live_pull.specs.Target.{target_of}
use Rattle.live_copy.specs.Settings.{AreReady, copy_of, members}
use Rattle.live_copy.specs.declared.settings.CopySettings.{CopySettings}

frame_ready : (o : Option Data) (settings : LiveSettings) → (o >>= documents_of) ≡ Some settings → IsReady settings
frame_ready None settings is = absurd (cc is)
frame_ready (Some d) settings is = documents_ready d settings is

all_ready : (d : Data) → IfSome (copy_of d) AreReady
unfolding copy_of
all_ready d =
    through AreReady (only members d) _ (λ known _.
    through AreReady (frame_named (codes "copy") d) _ (λ name _.
    through AreReady (required bool_of (codes "replace") d) _ (λ replace _.
    through AreReady (required bool_of (codes "tag") d) _ (λ tag _.
    through AreReady (required target_of (codes "target") d) _ (λ target is_target.
    through AreReady (required documents_of (codes "settings") d) _ (λ settings is. (frame_ready (get (codes "settings") d) settings is, target_ready (get (codes "target") d) target is_target)))))))

ready_by : (o : Option CopySettings) (settings : CopySettings) → o ≡ Some settings → IfSome o AreReady → AreReady settings
ready_by None settings is h = absurd (cc is)
ready_by (Some found) settings is h = subst AreReady (some_is is) h where
  some_is : Some found ≡ Some settings → found ≡ settings
  some_is e = cc e

pub ready : (d : Data) (settings : CopySettings) → copy_of d ≡ Some settings → AreReady settings
ready d settings is = ready_by (copy_of d) settings is (all_ready d)
