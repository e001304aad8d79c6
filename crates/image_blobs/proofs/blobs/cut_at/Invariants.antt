use Rattle.std.proofs.Common.{◌≡◌, drop}
use Rattle.engine_requests.specs.Sources.{places_of}
use Rattle.engine_pull.proofs.PlacesInTurn.{LeadsInto}
use Rattle.call_laws.specs.Cut.{cut_at}
use Rattle.image_blobs.proofs.blobs.cut_at.Given as goal

-- the requests so far lead to the places that are left, and nothing was written
abbrev pub invariant-loop-url : goal.invariant-loop-url
invariant-loop-url g l = (LeadsInto (cut_at l.settings l.blob.size l.blob.digest.now (places_of l.urls) l.fn.request) (cut_at l.settings l.blob.size l.blob.digest.now (places_of (drop l.url-index l.urls)) l.request) (g.T.Transport.state l.fn.transport) (g.T.Transport.state l.transport) (g.K.Sink.state l.fn.out) (g.K.Sink.state l.out)) × (g.K.Sink.state l.out ≡ g.K.Sink.state l.fn.out)
