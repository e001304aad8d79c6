use Rattle.std.proofs.Common.{drop}
use Rattle.engine_requests.specs.Sources.{places_of}
use Rattle.engine_streams.specs.Blobs.{tried}
use Rattle.engine_streams.proofs.NextPlaces.{Leads}
use Rattle.engine_streams.proofs.asking.tried.Given as goal

-- the requests so far lead to the URLs that are left
abbrev pub invariant-loop-url : goal.invariant-loop-url
invariant-loop-url g l = Leads (tried l.settings l.range l.digest (places_of l.urls) l.fn.request) (tried l.settings l.range l.digest (places_of (drop l.url-index l.urls)) l.request) (g.T.Transport.state l.fn.transport) (g.T.Transport.state l.transport)
