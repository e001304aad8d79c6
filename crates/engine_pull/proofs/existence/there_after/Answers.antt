use Rattle.std.proofs.Common.{refl}
use Rattle.engine_pull.proofs.ThereTree.{there_told, there_refused, there_long, there_failed, there_wanting, there_missed, there_cut}
use Rattle.engine_pull.proofs.existence.there_after.Goals as goal

pub returns-in-Err-Failed : goal.returns-in-Err-Failed
returns-in-Err-Failed g c = λ k. there_missed _ _ k _ _ (c.in-Err-Failed.ensures.missed (rw c.in-Err-Failed.field-0-is refl))

pub returns-in-Err-WantOfMemory : goal.returns-in-Err-WantOfMemory
returns-in-Err-WantOfMemory g c = λ k. there_cut _ _ k _ _ (c.in-Err-WantOfMemory.ensures.cut (rw c.in-Err-WantOfMemory.field-0-is refl))

pub returns-then-is_told : goal.returns-then-is_told
returns-then-is_told g c = λ k. rw c.is_success.ensures (there_told _ _ k _ _ _ _ c.in-Ok.ensures.reached (rw c.is_told.ensures at c.if-is_told.true))

pub returns-in-Ok-read_body : goal.returns-in-Ok-read_body
returns-in-Ok-read_body g c = λ k. there_refused _ _ k _ _ _ _ _ _ _ c.in-Ok.ensures.reached (rw c.is_told.ensures at c.if-is_told.false) c.read_body.ensures.count c.read_body.ensures.told c.read_body.ensures.steady c.in-Ok-read_body.ensures.within c.in-Ok-read_body.ensures.whole c.in-Ok-read_body.ensures.unbroken c.refused_answer.ensures

pub returns-in-Err-TransportFault : goal.returns-in-Err-TransportFault
returns-in-Err-TransportFault g c = λ k. there_failed _ _ k _ _ _ _ _ c.in-Ok.ensures.reached (rw c.is_told.ensures at c.if-is_told.false) c.read_body.ensures.count c.read_body.ensures.told c.read_body.ensures.steady (c.in-Err-TransportFault.ensures.fault (rw c.in-Err-TransportFault.field-0-is refl))

pub returns-in-Err-BodyTooLong : goal.returns-in-Err-BodyTooLong
returns-in-Err-BodyTooLong g c = λ k. there_long _ _ k _ _ _ _ _ c.in-Ok.ensures.reached (rw c.is_told.ensures at c.if-is_told.false) c.read_body.ensures.count c.read_body.ensures.told c.read_body.ensures.steady (c.in-Err-BodyTooLong.ensures.long (rw c.in-Err-BodyTooLong.field-0-is refl))

pub returns : goal.returns
returns g c = λ k. there_wanting _ _ k _ _ _ _ _ c.in-Ok.ensures.reached c.read_body.ensures.count c.read_body.ensures.told c.read_body.ensures.steady
