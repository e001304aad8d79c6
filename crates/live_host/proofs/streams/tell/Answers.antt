use Rattle.std.proofs.Common.{Err, ap, refl}
use Rattle.live_host.proofs.streams.tell.Goals as goal

pub returns-in-Err-Failed-clause-cause : goal.returns-in-Err-Failed-clause-cause
returns-in-Err-Failed-clause-cause g c = record { part = c.in-Err-Failed.ensures.part; failed = c.in-Err-Failed.ensures.fault (ap Err c.in-Err-Failed.field-0-is); stays = refl }
