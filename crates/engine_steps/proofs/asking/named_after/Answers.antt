use Rattle.std.proofs.Common.{refl, ap, ◌∙◌, Ok, None}
use Rattle.engine_rows.specs.declared.named.NamedAnswer.TheVariants.{Unnamed}
use Rattle.engine_steps.proofs.NamedTree.{named_missed, named_cut, named_refused, named_unread, named_answered, named_failed, named_long, named_wanting}
use Rattle.engine_steps.proofs.HelperTrees.{reached_untaken, not_ok}
use Rattle.engine_steps.proofs.asking.named_after.Goals as goal

pub returns-in-Err-Failed : goal.returns-in-Err-Failed
returns-in-Err-Failed g c = record { run = λ k. named_missed _ _ _ _ _ k (c.in-Err-Failed.ensures.missed (rw c.in-Err-Failed.field-0-is refl)); body_unread = tt }

pub returns-in-Err-WantOfMemory : goal.returns-in-Err-WantOfMemory
returns-in-Err-WantOfMemory g c = record { run = λ k. named_cut _ _ _ _ _ k (c.in-Err-WantOfMemory.ensures.cut (rw c.in-Err-WantOfMemory.field-0-is refl)); body_unread = tt }

pub returns-in_err-digest : goal.returns-in_err-digest
returns-in_err-digest g c = record { run = λ k. named_refused _ _ _ _ _ _ _ k _ _ c.in-Ok.ensures.reached c.in_err-digest.ensures c.from_residual.ensures.1; body_unread = not_ok _ _ _ c.from_residual.ensures.1 }

pub returns-in_default : goal.returns-in_default
returns-in_default g c = record { run = λ k. named_unread _ _ _ _ _ _ _ k (Ok None) (Ok Unnamed) c.in-Ok.ensures.reached (c.in_ok-digest.ensures ∙ ap Ok c.in_default.is) refl refl; body_unread = (_, reached_untaken _ _ _ _ _ _ c.in-Ok.ensures.reached) }

pub returns-in-Ok-read_body : goal.returns-in-Ok-read_body
returns-in-Ok-read_body g c = record { run = λ k. rw c.with_body.ensures (named_answered _ _ _ _ _ _ _ _ _ _ k c.in-Ok.ensures.reached (c.in_ok-digest.ensures ∙ ap Ok c.in-Some.is) c.read_body.ensures.count c.read_body.ensures.told c.read_body.ensures.steady c.in-Ok-read_body.ensures.within c.in-Ok-read_body.ensures.whole c.in-Ok-read_body.ensures.unbroken); body_unread = tt }

pub returns-in-Err-TransportFault : goal.returns-in-Err-TransportFault
returns-in-Err-TransportFault g c = record { run = λ k. named_failed _ _ _ _ _ _ _ _ _ k c.in-Ok.ensures.reached (c.in_ok-digest.ensures ∙ ap Ok c.in-Some.is) c.read_body.ensures.count c.read_body.ensures.told c.read_body.ensures.steady (c.in-Err-TransportFault.ensures.fault (rw c.in-Err-TransportFault.field-0-is refl)); body_unread = tt }

pub returns-in-Err-BodyTooLong : goal.returns-in-Err-BodyTooLong
returns-in-Err-BodyTooLong g c = record { run = λ k. named_long _ _ _ _ _ _ _ _ _ k c.in-Ok.ensures.reached (c.in_ok-digest.ensures ∙ ap Ok c.in-Some.is) c.read_body.ensures.count c.read_body.ensures.told c.read_body.ensures.steady (c.in-Err-BodyTooLong.ensures.long (rw c.in-Err-BodyTooLong.field-0-is refl)); body_unread = tt }

pub returns : goal.returns
returns g c = record { run = λ k. named_wanting _ _ _ _ _ _ _ _ k c.in-Ok.ensures.reached c.read_body.ensures.count c.read_body.ensures.told c.read_body.ensures.steady; body_unread = tt }
