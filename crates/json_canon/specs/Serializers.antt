-- The state of a serializer.
use Rattle.json_canon.specs.declared.serializer.JcsSerializer.{JcsSerializer}

abbrev pub sink_of : {K : Type 0} → JcsSerializer K → K
sink_of s = s.sink
