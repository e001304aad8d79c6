-- A property of all settings: the target's reference parses.
use Rattle.std.proofs.Common.{◌≡◌, Option, Some, None, IfSome, subst, codes}
use Rattle.serde_json.specs.Data.{Data}
use Rattle.serde_json.specs.Find.{get}
use Rattle.json_tables.specs.Reading.{u64_of}
use Rattle.json_tables.specs.Objects.{only}
use Rattle.json_tables.specs.Member.{required}
use Rattle.recorded_case.proofs.CaseParts.{through}
use Rattle.live_host.specs.Names.{frame_named}
use Rattle.live_pull.proofs.TargetReady.{target_ready}
use Rattle.live_pull.specs.Target.{target_of}
use Rattle.live_blobs.specs.CarrySettings.{AreReady, carry_of, digest_of, members}
use Rattle.live_blobs.specs.declared.carry_settings.CarrySettings.{CarrySettings}

all_ready : (d : Data) → IfSome (carry_of d) AreReady
unfolding carry_of
all_ready d =
    through AreReady (only members d) _ (λ known _.
    through AreReady (frame_named (codes "carry") d) _ (λ name _.
    through AreReady (required target_of (codes "target") d) _ (λ target is_target.
    through AreReady (required digest_of (codes "digest") d) _ (λ digest _.
    through AreReady (required u64_of (codes "size") d) _ (λ size _.
    through AreReady (required u64_of (codes "moment") d) _ (λ moment _. target_ready (get (codes "target") d) target is_target))))))

ready_by : (o : Option CarrySettings) (settings : CarrySettings) → o ≡ Some settings → IfSome o AreReady → AreReady settings
ready_by None settings is h = absurd (cc is)
ready_by (Some found) settings is h = subst AreReady (some_is is) h where
  some_is : Some found ≡ Some settings → found ≡ settings
  some_is e = cc e

pub ready : (d : Data) (settings : CarrySettings) → carry_of d ≡ Some settings → AreReady settings
ready d settings is = ready_by (carry_of d) settings is (all_ready d)
