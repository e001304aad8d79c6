use Rattle.cosign_parts.proofs.Texts.{put_together}
use Rattle.cosign_parts.proofs.log_entry.log_text.Goals as goal

pub returns : goal.returns
returns c = put_together _ _ _ _ _ _ _ _ _ c.args.entry.now
    c.in_ok-text.ensures
    (rw (c.as_str-2.ensures, c.in_ok-write_quoted.ensures, c.as_str.ensures) at c.in_ok-push_str.ensures.ok)
    c.in_ok-push_str-2.ensures.ok
    (rw (c.as_str-3.ensures, c.in_ok-decimal_text.ensures) at c.in_ok-push_str-3.ensures.ok)
    c.in_ok-push_str-4.ensures.ok
    (rw (c.as_str-5.ensures, c.in_ok-write_quoted-2.ensures, c.as_str-4.ensures) at c.in_ok-push_str-5.ensures.ok)
    c.in_ok-push_str-6.ensures.ok
    (rw (c.as_str-6.ensures, c.in_ok-decimal_text-2.ensures) at c.in_ok-push_str-7.ensures.ok)
    c.in_ok-push_str-8.ensures.ok
