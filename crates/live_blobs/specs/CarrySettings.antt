-- The settings of a carry.
use Rattle.std.specs.Prelude.{ℕ, Bool, false, ◌&&◌, ◌==◌, List, [], ◌∷◌, length, Option, Some, None, IsOk, bytes_eq, codes}
use Rattle.std.specs.Char.{is_ascii_hexdigit}
use Rattle.std.specs.List.{list_all}
use Rattle.serde_json.specs.Data.{Data}
use Rattle.json_tables.specs.Reading.{◌>>=◌, text_of, u64_of}
use Rattle.json_tables.specs.Objects.{only}
use Rattle.json_tables.specs.Member.{required}
use Rattle.oci_digests.specs.Checks.{parts_of}
use Rattle.oci_names.specs.Reference.{reference_of}
use Rattle.recorded_case.specs.Members.{passing}
use Rattle.live_host.specs.Names.{frame_named}
use Rattle.live_pull.specs.Target.{target_of}
use Rattle.live_blobs.specs.declared.carry_settings.CarrySettings.{CarrySettings}

-- 64 hexadecimal digits
abbrev pub are_digits : List ℕ → Bool
are_digits digits = (length digits == 64) && list_all is_ascii_hexdigit digits

abbrev pub is_hash : Option (List ℕ × List ℕ) → Bool
is_hash None = false
is_hash (Some parts) = bytes_eq parts.0 (codes "sha256") && are_digits parts.1

-- `sha256:` and 64 hexadecimal digits
abbrev pub is_sha256 : List ℕ → Bool
is_sha256 text = is_hash (parts_of text)

unfoldable pub digest_of : Data → Option (List ℕ)
digest_of d = text_of d >>= passing is_sha256

-- the members of the frame
abbrev pub members : List (List ℕ)
members = codes "target" ∷ codes "digest" ∷ codes "size" ∷ codes "moment" ∷ codes "frame" ∷ []

-- The frame `carry`, with no other members: the target, the blob's digest and size, and the moment.
unfoldable pub carry_of : Data → Option CarrySettings
carry_of d = do
  known ← only members d
  name ← frame_named (codes "carry") d
  target ← required target_of (codes "target") d
  digest ← required digest_of (codes "digest") d
  size ← required u64_of (codes "size") d
  moment ← required u64_of (codes "moment") d
  Some (record { target = target; digest = digest; size = size; moment = moment })

-- the target's reference parses
abbrev pub AreReady : CarrySettings → Type 0
AreReady settings = IsOk (reference_of settings.target.reference)
