-- A property of all settings: their reference parses.
use Rattle.std.proofs.Common.{◌≡◌, Option, Some, None, IfSome, subst, codes}
use Rattle.serde_json.specs.Data.{Data}
use Rattle.serde_json.specs.Find.{get}
use Rattle.json_tables.specs.Reading.{◌>>=◌, u64_of}
use Rattle.json_tables.specs.Objects.{only}
use Rattle.json_tables.specs.Member.{required}
use Rattle.oci_manifests.specs.Manifest.{manifest_of}
use Rattle.recorded_case.proofs.CaseParts.{through}
use Rattle.live_host.specs.Names.{frame_named}
use Rattle.live_pull.proofs.Ready.{documents_ready}
use Rattle.live_pull.specs.Settings.{IsReady, documents_of}
use Rattle.live_pull.specs.declared.settings.LiveSettings.{LiveSettings}
use Rattle.live_blobs.specs.Settings.{AreReady, blobs_of, members}
use Rattle.live_blobs.specs.declared.settings.BlobSettings.{BlobSettings}

pub frame_ready : (o : Option Data) (settings : LiveSettings) → (o >>= documents_of) ≡ Some settings → IsReady settings
frame_ready None settings is = absurd (cc is)
frame_ready (Some d) settings is = documents_ready d settings is

all_ready : (d : Data) → IfSome (blobs_of d) AreReady
unfolding blobs_of
all_ready d =
    through AreReady (only members d) _ (λ known _.
    through AreReady (frame_named (codes "blobs") d) _ (λ name _.
    through AreReady (required u64_of (codes "first") d) _ (λ first _.
    through AreReady (required u64_of (codes "end") d) _ (λ end _.
    through AreReady (required manifest_of (codes "manifest") d) _ (λ manifest _.
    through AreReady (required documents_of (codes "settings") d) _ (λ settings is. frame_ready (get (codes "settings") d) settings is))))))

ready_by : (o : Option BlobSettings) (settings : BlobSettings) → o ≡ Some settings → IfSome o AreReady → AreReady settings
ready_by None settings is h = absurd (cc is)
ready_by (Some found) settings is h = subst AreReady (some_is is) h where
  some_is : Some found ≡ Some settings → found ≡ settings
  some_is e = cc e

pub ready : (d : Data) (settings : BlobSettings) → blobs_of d ≡ Some settings → AreReady settings
ready d settings is = ready_by (blobs_of d) settings is (all_ready d)
