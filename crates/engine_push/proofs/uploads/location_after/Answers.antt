use Rattle.oci_protocol.proofs.Exits.{passed_on}
use Rattle.std.proofs.Common.{refl}
use Rattle.engine_push.proofs.LocationTree.{location_headed, location_refused, location_long, location_failed, location_wanting, location_missed, location_cut}
use Rattle.engine_push.proofs.uploads.location_after.Goals as goal

pub returns-in-Err-Failed : goal.returns-in-Err-Failed
returns-in-Err-Failed g c = λ k. location_missed _ _ _ _ k _ _ (c.in-Err-Failed.ensures.missed (rw c.in-Err-Failed.field-0-is refl))

pub returns-in-Err-WantOfMemory : goal.returns-in-Err-WantOfMemory
returns-in-Err-WantOfMemory g c = λ k. location_cut _ _ _ _ k _ _ (c.in-Err-WantOfMemory.ensures.cut (rw c.in-Err-WantOfMemory.field-0-is refl))

pub returns-in_err-location : goal.returns-in_err-location
returns-in_err-location g c = λ k. passed_on (location_headed _ _ _ _ k _ _ _ _ _ c.in-Ok.ensures.reached (rw c.is_success.ensures at c.if-is_success.true) c.in_err-location.ensures) c.from_residual.ensures.1

pub returns-then-is_success : goal.returns-then-is_success
returns-then-is_success g c = λ k. location_headed _ _ _ _ k _ _ _ _ _ c.in-Ok.ensures.reached (rw c.is_success.ensures at c.if-is_success.true) c.in_ok-location.ensures

pub returns-in-Ok-read_body : goal.returns-in-Ok-read_body
returns-in-Ok-read_body g c = λ k. location_refused _ _ _ _ k _ _ _ _ _ _ c.in-Ok.ensures.reached (rw c.is_success.ensures at c.if-is_success.false) c.read_body.ensures.count c.read_body.ensures.told c.read_body.ensures.steady c.in-Ok-read_body.ensures.within c.in-Ok-read_body.ensures.whole c.in-Ok-read_body.ensures.unbroken

pub returns-in-Err-TransportFault : goal.returns-in-Err-TransportFault
returns-in-Err-TransportFault g c = λ k. location_failed _ _ _ _ k _ _ _ _ _ c.in-Ok.ensures.reached (rw c.is_success.ensures at c.if-is_success.false) c.read_body.ensures.count c.read_body.ensures.told c.read_body.ensures.steady (c.in-Err-TransportFault.ensures.fault (rw c.in-Err-TransportFault.field-0-is refl))

pub returns-in-Err-BodyTooLong : goal.returns-in-Err-BodyTooLong
returns-in-Err-BodyTooLong g c = λ k. location_long _ _ _ _ k _ _ _ _ _ c.in-Ok.ensures.reached (rw c.is_success.ensures at c.if-is_success.false) c.read_body.ensures.count c.read_body.ensures.told c.read_body.ensures.steady (c.in-Err-BodyTooLong.ensures.long (rw c.in-Err-BodyTooLong.field-0-is refl))

pub returns : goal.returns
returns g c = λ k. location_wanting _ _ _ _ k _ _ _ _ _ c.in-Ok.ensures.reached c.read_body.ensures.count c.read_body.ensures.told c.read_body.ensures.steady
