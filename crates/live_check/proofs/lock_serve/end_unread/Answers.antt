use Rattle.live_check.proofs.LockEnds.{lock_ends}
use Rattle.live_check.proofs.lock_serve.end_unread.Goals as goal

pub returns : goal.returns
returns g c = rw (c.end_with.ensures, c.status_by.ensures) (lock_ends _ _ c.tell_unread-held.result c.tell_unread-held.ensures.told c.tell_unread-held.ensures.cause)
