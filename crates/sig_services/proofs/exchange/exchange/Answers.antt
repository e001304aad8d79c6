use Rattle.std.proofs.Common.{refl}
use Rattle.sig_services.proofs.Exchanges.{answered, long, failed, wanting_body, missed_it, wanting_send}
use Rattle.sig_services.proofs.exchange.exchange.Goals as goal

pub returns-in-Err-Failed : goal.returns-in-Err-Failed
returns-in-Err-Failed g c = λ k. rw c.link.ensures (missed_it _ _ _ _ _ _ _ g.F.Refusal.not_link (c.in-Err-Failed.ensures.missed (rw c.in-Err-Failed.field-0-is refl)) k)

pub returns-in-Err-WantOfMemory : goal.returns-in-Err-WantOfMemory
returns-in-Err-WantOfMemory g c = λ k. rw c.memory.ensures (wanting_send _ _ _ _ _ _ _ _ g.F.Refusal.of_memory (c.in-Err-WantOfMemory.ensures.cut (rw c.in-Err-WantOfMemory.field-0-is refl)) k)

pub returns-in-Ok-read_body : goal.returns-in-Ok-read_body
returns-in-Ok-read_body g c = λ k. rw c.whole_answer.ensures (answered _ _ _ _ _ _ _ _ _ _ _ c.in-Ok.ensures.reached c.read_body.ensures.count c.read_body.ensures.told c.read_body.ensures.steady c.in-Ok-read_body.ensures.within c.in-Ok-read_body.ensures.whole c.in-Ok-read_body.ensures.unbroken k)

pub returns-in-Err-TransportFault : goal.returns-in-Err-TransportFault
returns-in-Err-TransportFault g c = λ k. rw c.link-in-Err-TransportFault.ensures (failed _ _ _ _ _ _ _ _ _ _ g.F.Refusal.not_link c.in-Ok.ensures.reached c.read_body.ensures.count c.read_body.ensures.told c.read_body.ensures.steady (c.in-Err-TransportFault.ensures.fault (rw c.in-Err-TransportFault.field-0-is refl)) k)

pub returns-in-Err-BodyTooLong : goal.returns-in-Err-BodyTooLong
returns-in-Err-BodyTooLong g c = λ k. rw c.too_long.ensures (long _ _ _ _ _ _ _ _ _ _ g.F.Refusal.not_long c.in-Ok.ensures.reached c.read_body.ensures.count c.read_body.ensures.told c.read_body.ensures.steady (c.in-Err-BodyTooLong.ensures.long (rw c.in-Err-BodyTooLong.field-0-is refl)) k)

pub returns : goal.returns
returns g c = λ k. rw c.memory-in-Err-WantOfMemory-read_body.ensures (wanting_body _ _ _ _ _ _ _ _ _ _ _ g.F.Refusal.of_memory c.in-Ok.ensures.reached c.read_body.ensures.count c.read_body.ensures.told c.read_body.ensures.steady k)
