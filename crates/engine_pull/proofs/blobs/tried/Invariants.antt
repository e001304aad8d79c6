use Rattle.std.proofs.Common.{drop}
use Rattle.engine_requests.specs.Sources.{places_of}
use Rattle.engine_rows.specs.Blobs.{IntoSink}
use Rattle.engine_rows.specs.Offers.{tried}
use Rattle.engine_pull.proofs.PlacesInTurn.{LeadsInto}
use Rattle.engine_pull.proofs.blobs.tried.Given as goal

-- the requests so far lead to the places that are left
abbrev pub invariant-loop-url : goal.invariant-loop-url
invariant-loop-url g l = LeadsInto (tried IntoSink l.settings l.digest (places_of l.urls) l.fn.request) (tried IntoSink l.settings l.digest (places_of (drop l.url-index l.urls)) l.request) (g.T.Transport.state l.fn.transport) (g.T.Transport.state l.transport) (g.K.Sink.state l.fn.out) (g.K.Sink.state l.out)
