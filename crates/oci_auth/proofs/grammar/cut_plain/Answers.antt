use Rattle.oci_auth.proofs.Quotes.{plain_front, plain_stops_here}
use Rattle.oci_auth.proofs.grammar.cut_plain.Goals as goal

pub returns-clause-reads : goal.returns-clause-reads
returns-clause-reads c = rw (c.cut_front.ensures.prefix, c.cut_front.ensures.rest) (plain_front c.args.text.now)

pub returns-clause-stops : goal.returns-clause-stops
returns-clause-stops c = rw c.cut_front.ensures.rest (plain_stops_here c.args.text.now)
