-- One request, whose redirects are not followed, and its complete answer.
use Rattle.std.specs.Prelude.{ℕ, [], Result, Ok, Err}
use Rattle.oci_transport.specs.Link.{answer_of}
use Rattle.oci_transport.specs.declared.message.Request.{Request}
use Rattle.oci_transport.specs.declared.message.Answer.{Answer}
use Rattle.oci_protocol.specs.Proto.{Reply, Headed, Answered, Failed, TooLong, SinkFailed, read_within, Proto, Done}
use Rattle.oci_protocol.specs.Follow.{follow}

-- a protocol without client state
abbrev pub Row : Type 0 → Type 0 → Type 0
Row E A = Proto (Unit {0}) (Result A E)

-- the answer, or the error of this name
abbrev pub whole_reply : {E : Type 0} → E → E → Request → Reply → Row E Answer
whole_reply link too_long last (Answered answer) = Done (Ok answer)
whole_reply link too_long last TooLong = Done (Err too_long)
whole_reply link too_long last Failed = Done (Err link)
-- never: the body is read, and not into a sink
whole_reply link too_long last (Headed head) = Done (Ok (answer_of head []))
whole_reply link too_long last SinkFailed = Done (Err link)

unfoldable pub whole : {E : Type 0} → E → E → ℕ → Request → Row E Answer
whole link too_long limit request = follow 0 request (read_within limit) (whole_reply link too_long)
