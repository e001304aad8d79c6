-- The frames that are received: the head of a response, a piece of its body, the end of the body, a failure.
use Rattle.std.specs.Prelude.{ℕ, List, [], ◌∷◌, Option, Some, None, codes, if◌then◌else◌}
use Rattle.std.specs.Str.{bytes_eq}
use Rattle.serde_json.specs.Data.{Data}
use Rattle.oci_transport.specs.declared.message.AnswerHead.{AnswerHead}
use Rattle.live_link.specs.Frame.{kind_of}
use Rattle.live_link.specs.declared.frame.Frame.{Frame}
use Rattle.live_link.specs.Heads.{answer_head_of}
use Rattle.live_link.specs.declared.replies.Reply.{Reply}
use Rattle.live_link.specs.declared.replies.Reply.TheVariants.{Answer, Piece, End, Failed, Other}

abbrev pub answer_reply : Option AnswerHead → Reply
answer_reply None = Other
answer_reply (Some head) = Answer head

-- a frame with no bytes after its line
abbrev pub plain_reply : List ℕ → Data → Reply
plain_reply kind head =
    if bytes_eq kind (codes "answer") then answer_reply (answer_head_of head)
    else (if bytes_eq kind (codes "end") then End else (if bytes_eq kind (codes "failed") then Failed else Other))

-- a frame with bytes
abbrev pub piece_reply : List ℕ → List ℕ → Reply
piece_reply kind bytes = if bytes_eq kind (codes "piece") then Piece bytes else Other

abbrev pub reply_by : Option (List ℕ) → Data → List ℕ → Reply
reply_by None head bytes = Other
reply_by (Some kind) head [] = plain_reply kind head
reply_by (Some kind) head (b ∷ bytes) = piece_reply kind (b ∷ bytes)

-- the meaning of a frame
unfoldable pub reply_of : Frame → Reply
reply_of frame = reply_by (kind_of frame.head) frame.head frame.bytes
