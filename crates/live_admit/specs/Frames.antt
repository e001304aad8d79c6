-- The frames of a review.
use Rattle.std.specs.Prelude.{ℕ, List, [], ◌∷◌, Option, Some, codes}
use Rattle.serde_json.specs.Data.{Data}
use Rattle.json_tables.specs.Fields.{fields}
use Rattle.json_tables.specs.Reading.{◌>>=◌, text_of, u64_of, bool_of}
use Rattle.json_tables.specs.Objects.{only}
use Rattle.json_tables.specs.Member.{required}
use Rattle.live_host.specs.Heads.{text_field}
use Rattle.live_host.specs.Names.{frame_named}
use Rattle.live_admit.specs.declared.frames.ReviewFrame.{ReviewFrame}

-- the frame `review`, with no other members
unfoldable pub review_frame_of : Data → Option ReviewFrame
review_frame_of d = do
  known ← only (codes "moment" ∷ codes "mutate" ∷ codes "review" ∷ codes "frame" ∷ []) d
  name ← frame_named (codes "review") d
  moment ← required u64_of (codes "moment") d
  mutate ← required bool_of (codes "mutate") d
  review ← required text_of (codes "review") d
  Some (record { moment = moment; mutate = mutate; review = review })

-- which image is decided next, and the images of its rule
abbrev pub image_head : List ℕ → List ℕ → Data
image_head image rule = fields (
    text_field (codes "frame") (codes "image")
    ∷ text_field (codes "image") image
    ∷ text_field (codes "rule") rule
    ∷ [])

abbrev pub response_head : List ℕ → Data
response_head response = fields (
    text_field (codes "frame") (codes "response") ∷ text_field (codes "response") response ∷ [])

abbrev pub unreadable_head : Data
unreadable_head = fields (text_field (codes "frame") (codes "unreadable") ∷ [])
