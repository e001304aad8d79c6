-- What a transport over a source and a sink exposes.
use Rattle.std.specs.Prelude.{true, List, Option, None}
use Rattle.byte_streams.specs.declared.source.Source as source
use Rattle.byte_streams.specs.declared.sink.Sink as sink
use Rattle.oci_transport.specs.Link.{Link}
use Rattle.oci_transport.specs.declared.message.Exchange.{Exchange}
use Rattle.live_link.specs.State.{told_since, rest_in, breach_in, exchanges_by}
use Rattle.live_link.specs.declared.stage.Breach.{Breach}
use Rattle.live_link.specs.declared.transport.StreamTransport.{StreamTransport}

-- the exchanges of its history
abbrev pub exchanges_of : {S K : Type 0} {s : source.Ghosts S} {k : sink.Ghosts K}
    → StreamTransport S K s k → List Exchange
exchanges_of {s = s} t = exchanges_by s.state t.heard.items

-- Exposes its exchanges if source and sink expose their bytes. Its responses are not predetermined. Only failed calls
-- increase its fault count.
abbrev pub state_of : {S K : Type 0} {s : source.Ghosts S} {k : sink.Ghosts K} → StreamTransport S K s k → Link
state_of {s = s} {k = k} t = record {
  told = told_since s.state k.state t.began.items (exchanges_of t);
  rest = rest_in t.stage (s.state t.source).left;
  pieces = None;
  faults = t.faults;
  exact = true;
  answers = None;
}

-- why nothing more is sent
abbrev pub breach_of : {S K : Type 0} {s : source.Ghosts S} {k : sink.Ghosts K}
    → StreamTransport S K s k → Option Breach
breach_of t = breach_in t.stage
