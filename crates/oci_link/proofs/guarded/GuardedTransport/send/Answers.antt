use Rattle.std.proofs.Common.{refl, true, false, None}
use Rattle.oci_link.proofs.Steps.{answered, at_most_one, unanswered, at_most, one_more, perhaps_one, refused, passed, same_known, nothing_shown}
use Rattle.oci_link.proofs.guarded.GuardedTransport.send.Goals as goal

pub returns-in_err-push-clause-memory : goal.returns-in_err-push-clause-memory
returns-in_err-push-clause-memory g c = λ h. rw (c.in_err-push.ensures.err) (nothing_shown _ _)

pub returns-then-not-passes-clause-unanswered : goal.returns-then-not-passes-clause-unanswered
returns-then-not-passes-clause-unanswered g c = λ h. refused c.args.self.now (record { transport = c.args.self.now.transport; rules = c.args.self.now.rules; unsent = c.push.new.self; since = 0; lost = c.args.self.now.lost; closed = true; realm = None }) (g.T.Transport.state c.args.self.now.transport) c.args.request.now _ refl c.in_ok-push.ensures.ok c.if-self.false refl refl refl c.in_ok-request.ensures c.faults-faults.ensures refl

pub returns-in_err-self-in-Ok-clause-memory : goal.returns-in_err-self-in-Ok-clause-memory
returns-in_err-self-in-Ok-clause-memory g c = λ h. at_most_one c.args.self.now (record { transport = c.send.new.self; rules = c.args.self.now.rules; unsent = c.args.self.now.unsent; since = c.in-Some.since; lost = c.args.self.now.lost; closed = false; realm = None }) (g.T.Transport.state c.args.self.now.transport) (g.T.Transport.state c.send.new.self) _ _ c.in-Ok.ensures.answered (one_more _ _ _ _ refl refl refl c.in-Some.ensures.1 refl (passed _ _ _ _ c.in_ok-passes.ensures c.if-not-passes.false))

pub returns-in_ok-self-in-Ok-clause-answered : goal.returns-in_ok-self-in-Ok-clause-answered
returns-in_ok-self-in-Ok-clause-answered g c = answered c.args.self.now (record { transport = c.send.new.self; rules = c.args.self.now.rules; unsent = c.args.self.now.unsent; since = c.in-Some.since; lost = c.args.self.now.lost; closed = false; realm = c.in_ok-self-in-Ok.field-0 }) (g.T.Transport.state c.args.self.now.transport) (g.T.Transport.state c.send.new.self) _ _ c.in-Ok.ensures.answered (one_more _ _ _ _ refl refl refl c.in-Some.ensures.1 (same_known _ _ c.in_ok-self-in-Ok.ensures) (passed _ _ _ _ c.in_ok-passes.ensures c.if-not-passes.false)) refl

pub returns-in-Err-Failed-clause-unanswered : goal.returns-in-Err-Failed-clause-unanswered
returns-in-Err-Failed-clause-unanswered g c = λ h. unanswered c.args.self.now (record { transport = c.send.new.self; rules = c.args.self.now.rules; unsent = c.args.self.now.unsent; since = c.in-Some.since; lost = c.args.self.now.lost; closed = false; realm = None }) (g.T.Transport.state c.args.self.now.transport) (g.T.Transport.state c.send.new.self) _ (c.in-Err-Failed.ensures.unanswered (rw c.in-Err-Failed.field-0-is refl)) (one_more _ _ _ _ refl refl refl c.in-Some.ensures.1 refl (passed _ _ _ _ c.in_ok-passes.ensures c.if-not-passes.false))

pub returns-in-Err-WantOfMemory-clause-memory : goal.returns-in-Err-WantOfMemory-clause-memory
returns-in-Err-WantOfMemory-clause-memory g c = λ h.
    let by = c.in-Err-WantOfMemory.ensures.memory (rw c.in-Err-WantOfMemory.field-0-is refl) in
    at_most c.args.self.now (record { transport = c.send.new.self; rules = c.args.self.now.rules; unsent = c.args.self.now.unsent; since = c.args.self.now.since; lost = true; closed = false; realm = None }) (g.T.Transport.state c.args.self.now.transport) (g.T.Transport.state c.send.new.self) _ by (perhaps_one _ _ _ c.args.request.now by.conversation refl refl refl refl (passed _ _ _ _ c.in_ok-passes.ensures c.if-not-passes.false) by.most)
