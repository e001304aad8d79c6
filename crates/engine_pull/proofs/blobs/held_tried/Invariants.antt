use Rattle.std.proofs.Common.{drop}
use Rattle.engine_requests.specs.Sources.{places_of}
use Rattle.engine_rows.specs.Blobs.{IntoMemory}
use Rattle.engine_rows.specs.Offers.{tried}
use Rattle.engine_pull.proofs.PlacesInTurn.{LeadsOn}
use Rattle.engine_pull.proofs.blobs.held_tried.Given as goal

-- the requests so far lead to the places that are left
abbrev pub invariant-loop-url : goal.invariant-loop-url
invariant-loop-url g l = LeadsOn (tried IntoMemory l.settings l.digest (places_of l.urls) l.fn.request) (tried IntoMemory l.settings l.digest (places_of (drop l.url-index l.urls)) l.request) (g.T.Transport.state l.fn.transport) (g.T.Transport.state l.transport)
