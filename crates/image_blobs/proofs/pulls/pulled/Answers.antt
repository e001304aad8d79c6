use Rattle.std.proofs.Common.{inl, inr, Ok, Err, arith}
use Rattle.std.proofs.lemmas.Result.{err_from_is_err_and}
use Rattle.engine_terms.specs.Contexts.{context_of}
use Rattle.call_laws.specs.Blobs.{descriptors_of, range_of}
use Rattle.image_blobs.proofs.EachInTurn.{range_none}
use Rattle.image_blobs.proofs.PullsOfRange.{pull_none, pull_unread, pull_unauthorized, pull_each, pull_refused, none_took, first_took, each_took, url_counted, token_counted, took_err}
use Rattle.image_blobs.proofs.pulls.pulled.Goals as goal

pub returns-then-range-clause-run : goal.returns-then-range-clause-run
returns-then-range-clause-run g c = pull_none (context_of c.args.call.now) c.args.call.now.image.now (descriptors_of c.args.manifest.now) c.args.range.first c.args.range.end (g.T.Transport.state c.args.transport.now) c.args.memory.now (range_none _ _ _ (inl c.if-range.true))

pub returns-then-range-clause-took : goal.returns-then-range-clause-took
returns-then-range-clause-took g c = none_took (context_of c.args.call.now) c.args.call.now.image.now (descriptors_of c.args.manifest.now) c.args.range.first c.args.range.end g.S.Sinks.fresh (g.T.Transport.state c.args.transport.now) (g.S.Sinks.state c.args.sinks.now) (range_none _ _ _ (inl c.if-range.true))

pub returns-then-range-clause-causes : goal.returns-then-range-clause-causes
returns-then-range-clause-causes g c = tt

pub returns-then-range-clause-count : goal.returns-then-range-clause-count
returns-then-range-clause-count g c = omega arith

pub returns-then-range-clause-sink : goal.returns-then-range-clause-sink
returns-then-range-clause-sink g c = λ h. absurd (cc h)

pub returns-in_default-clause-run : goal.returns-in_default-clause-run
returns-in_default-clause-run g c = pull_none (context_of c.args.call.now) c.args.call.now.image.now (descriptors_of c.args.manifest.now) c.args.range.first c.args.range.end (g.T.Transport.state c.args.transport.now) c.args.memory.now (range_none _ _ _ (inr c.in_default.ensures))

pub returns-in_default-clause-took : goal.returns-in_default-clause-took
returns-in_default-clause-took g c = none_took (context_of c.args.call.now) c.args.call.now.image.now (descriptors_of c.args.manifest.now) c.args.range.first c.args.range.end g.S.Sinks.fresh (g.T.Transport.state c.args.transport.now) (g.S.Sinks.state c.args.sinks.now) (range_none _ _ _ (inr c.in_default.ensures))

pub returns-in_default-clause-causes : goal.returns-in_default-clause-causes
returns-in_default-clause-causes g c = tt

pub returns-in_default-clause-count : goal.returns-in_default-clause-count
returns-in_default-clause-count g c = omega arith

pub returns-in_default-clause-sink : goal.returns-in_default-clause-sink
returns-in_default-clause-sink g c = λ h. absurd (cc h)

pub returns-in_err-registry-clause-run : goal.returns-in_err-registry-clause-run
returns-in_err-registry-clause-run g c = let at = err_from_is_err_and c.from_residual.result c.from_residual.ensures.1 in rw (at.1, at.2) (pull_unread (context_of c.args.call.now) c.args.call.now.image.now (descriptors_of c.args.manifest.now) c.args.range.first c.args.range.end c.in-Some.field-0.now c.in_err-registry.field-0.0 (g.T.Transport.state c.args.transport.now) c.args.memory.now c.if-range.false c.in-Some.ensures c.in_err-registry.ensures)

pub returns-in_err-registry-clause-took : goal.returns-in_err-registry-clause-took
returns-in_err-registry-clause-took g c = took_err g.S.Sinks.fresh (range_of c.args.range.first c.args.range.end (descriptors_of c.args.manifest.now)) (g.T.Transport.state c.args.transport.now) (g.T.Transport.state c.args.transport.now) (g.S.Sinks.state c.args.sinks.now) (g.S.Sinks.state c.args.sinks.now) c.in_err-registry.field-0.0 c.from_residual.result c.from_residual.ensures.1 (first_took (context_of c.args.call.now) c.args.call.now.image.now (descriptors_of c.args.manifest.now) c.args.range.first c.args.range.end g.S.Sinks.fresh c.in-Some.field-0.now c.in_err-registry.field-0.0 (g.T.Transport.state c.args.transport.now) (g.T.Transport.state c.args.transport.now) c.args.memory.now c.args.memory.now (g.S.Sinks.state c.args.sinks.now) c.if-range.false c.in-Some.ensures (pull_unread (context_of c.args.call.now) c.args.call.now.image.now (descriptors_of c.args.manifest.now) c.args.range.first c.args.range.end c.in-Some.field-0.now c.in_err-registry.field-0.0 (g.T.Transport.state c.args.transport.now) c.args.memory.now c.if-range.false c.in-Some.ensures c.in_err-registry.ensures))

pub returns-in_err-registry-clause-causes : goal.returns-in_err-registry-clause-causes
returns-in_err-registry-clause-causes g c = let at = err_from_is_err_and c.from_residual.result c.from_residual.ensures.1 in rw (at.1, at.2) (pull_refused (context_of c.args.call.now) c.args.call.now.image.now (descriptors_of c.args.manifest.now) c.args.range.first c.args.range.end c.in-Some.field-0.now (g.T.Transport.state c.args.transport.now) (g.T.Transport.state c.args.transport.now) c.args.memory.now c.args.memory.now _ c.if-range.false c.in-Some.ensures (pull_unread (context_of c.args.call.now) c.args.call.now.image.now (descriptors_of c.args.manifest.now) c.args.range.first c.args.range.end c.in-Some.field-0.now c.in_err-registry.field-0.0 (g.T.Transport.state c.args.transport.now) c.args.memory.now c.if-range.false c.in-Some.ensures c.in_err-registry.ensures))

pub returns-in_err-registry-clause-count : goal.returns-in_err-registry-clause-count
returns-in_err-registry-clause-count g c = omega arith

pub returns-in_err-registry-clause-sink : goal.returns-in_err-registry-clause-sink
returns-in_err-registry-clause-sink g c = let at = err_from_is_err_and c.from_residual.result c.from_residual.ensures.1 in rw (at.1, at.2) (url_counted _ c.in_err-registry.field-0.0 _ c.in_err-registry.ensures)

pub returns-in_err-token-clause-run : goal.returns-in_err-token-clause-run
returns-in_err-token-clause-run g c = let at = err_from_is_err_and c.from_residual-in_err-token.result c.from_residual-in_err-token.ensures.1 in rw (at.1, at.2) (pull_unauthorized (context_of c.args.call.now) c.args.call.now.image.now (descriptors_of c.args.manifest.now) c.args.range.first c.args.range.end c.in-Some.field-0.now c.in_ok-registry.registry c.in_err-token.field-0.0 (g.T.Transport.state c.args.transport.now) (g.T.Transport.state c.authorized.new.transport) c.args.memory.now c.authorized.new.memory c.if-range.false c.in-Some.ensures c.in_ok-registry.ensures c.in_err-token.ensures)

pub returns-in_err-token-clause-took : goal.returns-in_err-token-clause-took
returns-in_err-token-clause-took g c = took_err g.S.Sinks.fresh (range_of c.args.range.first c.args.range.end (descriptors_of c.args.manifest.now)) (g.T.Transport.state c.args.transport.now) (g.T.Transport.state c.authorized.new.transport) (g.S.Sinks.state c.args.sinks.now) (g.S.Sinks.state c.args.sinks.now) c.in_err-token.field-0.0 c.from_residual-in_err-token.result c.from_residual-in_err-token.ensures.1 (first_took (context_of c.args.call.now) c.args.call.now.image.now (descriptors_of c.args.manifest.now) c.args.range.first c.args.range.end g.S.Sinks.fresh c.in-Some.field-0.now c.in_err-token.field-0.0 (g.T.Transport.state c.args.transport.now) (g.T.Transport.state c.authorized.new.transport) c.args.memory.now c.authorized.new.memory (g.S.Sinks.state c.args.sinks.now) c.if-range.false c.in-Some.ensures (pull_unauthorized (context_of c.args.call.now) c.args.call.now.image.now (descriptors_of c.args.manifest.now) c.args.range.first c.args.range.end c.in-Some.field-0.now c.in_ok-registry.registry c.in_err-token.field-0.0 (g.T.Transport.state c.args.transport.now) (g.T.Transport.state c.authorized.new.transport) c.args.memory.now c.authorized.new.memory c.if-range.false c.in-Some.ensures c.in_ok-registry.ensures c.in_err-token.ensures))

pub returns-in_err-token-clause-causes : goal.returns-in_err-token-clause-causes
returns-in_err-token-clause-causes g c = let at = err_from_is_err_and c.from_residual-in_err-token.result c.from_residual-in_err-token.ensures.1 in rw (at.1, at.2) (pull_refused (context_of c.args.call.now) c.args.call.now.image.now (descriptors_of c.args.manifest.now) c.args.range.first c.args.range.end c.in-Some.field-0.now (g.T.Transport.state c.args.transport.now) (g.T.Transport.state c.authorized.new.transport) c.args.memory.now c.authorized.new.memory _ c.if-range.false c.in-Some.ensures (pull_unauthorized (context_of c.args.call.now) c.args.call.now.image.now (descriptors_of c.args.manifest.now) c.args.range.first c.args.range.end c.in-Some.field-0.now c.in_ok-registry.registry c.in_err-token.field-0.0 (g.T.Transport.state c.args.transport.now) (g.T.Transport.state c.authorized.new.transport) c.args.memory.now c.authorized.new.memory c.if-range.false c.in-Some.ensures c.in_ok-registry.ensures c.in_err-token.ensures))

pub returns-in_err-token-clause-count : goal.returns-in_err-token-clause-count
returns-in_err-token-clause-count g c = omega arith

pub returns-in_err-token-clause-sink : goal.returns-in_err-token-clause-sink
returns-in_err-token-clause-sink g c = let at = err_from_is_err_and c.from_residual-in_err-token.result c.from_residual-in_err-token.ensures.1 in rw (at.1, at.2) (token_counted (context_of c.args.call.now) c.args.call.now.image.now c.in_ok-registry.registry (g.T.Transport.state c.args.transport.now) (g.T.Transport.state c.authorized.new.transport) c.args.memory.now c.authorized.new.memory c.in_err-token.field-0.0 _ c.in_err-token.ensures)

pub returns-in_err-each_blob-clause-run : goal.returns-in_err-each_blob-clause-run
returns-in_err-each_blob-clause-run g c = let at = err_from_is_err_and c.from_residual-in_err-each_blob.result c.from_residual-in_err-each_blob.ensures.1 in rw (at.1, at.2) (pull_each (context_of c.args.call.now) c.args.call.now.image.now (descriptors_of c.args.manifest.now) c.args.range.first c.args.range.end c.in-Some.field-0.now c.in_ok-registry.registry c.in_ok-token.token _ (g.T.Transport.state c.args.transport.now) (g.T.Transport.state c.authorized.new.transport) (g.T.Transport.state c.each_blob.new.transport) c.args.memory.now c.authorized.new.memory c.if-range.false c.in-Some.ensures c.in_ok-registry.ensures c.in_ok-token.ensures (c.in_err-each_blob.ensures.run c.authorized.new.memory))

pub returns-in_err-each_blob-clause-took : goal.returns-in_err-each_blob-clause-took
returns-in_err-each_blob-clause-took g c = took_err g.S.Sinks.fresh (range_of c.args.range.first c.args.range.end (descriptors_of c.args.manifest.now)) (g.T.Transport.state c.args.transport.now) (g.T.Transport.state c.each_blob.new.transport) (g.S.Sinks.state c.args.sinks.now) (g.S.Sinks.state c.each_blob.new.sinks) c.in_err-each_blob.field-0.0 c.from_residual-in_err-each_blob.result c.from_residual-in_err-each_blob.ensures.1 (each_took (context_of c.args.call.now) c.args.call.now.image.now (descriptors_of c.args.manifest.now) c.args.range.first c.args.range.end g.S.Sinks.fresh c.in_ok-registry.registry c.in_ok-token.token (Err c.in_err-each_blob.field-0.0) (g.T.Transport.state c.args.transport.now) (g.T.Transport.state c.authorized.new.transport) (g.T.Transport.state c.each_blob.new.transport) c.args.memory.now c.authorized.new.memory (g.S.Sinks.state c.args.sinks.now) (g.S.Sinks.state c.each_blob.new.sinks) c.in_ok-token.ensures (c.in_err-each_blob.ensures.took c.args.memory.now))

pub returns-in_err-each_blob-clause-causes : goal.returns-in_err-each_blob-clause-causes
returns-in_err-each_blob-clause-causes g c = let at = err_from_is_err_and c.from_residual-in_err-each_blob.result c.from_residual-in_err-each_blob.ensures.1 in rw (at.1, at.2) (pull_refused (context_of c.args.call.now) c.args.call.now.image.now (descriptors_of c.args.manifest.now) c.args.range.first c.args.range.end c.in-Some.field-0.now (g.T.Transport.state c.args.transport.now) (g.T.Transport.state c.each_blob.new.transport) c.args.memory.now c.authorized.new.memory _ c.if-range.false c.in-Some.ensures (pull_each (context_of c.args.call.now) c.args.call.now.image.now (descriptors_of c.args.manifest.now) c.args.range.first c.args.range.end c.in-Some.field-0.now c.in_ok-registry.registry c.in_ok-token.token _ (g.T.Transport.state c.args.transport.now) (g.T.Transport.state c.authorized.new.transport) (g.T.Transport.state c.each_blob.new.transport) c.args.memory.now c.authorized.new.memory c.if-range.false c.in-Some.ensures c.in_ok-registry.ensures c.in_ok-token.ensures (c.in_err-each_blob.ensures.run c.authorized.new.memory)))

pub returns-in_err-each_blob-clause-count : goal.returns-in_err-each_blob-clause-count
returns-in_err-each_blob-clause-count g c = c.in_err-each_blob.ensures.count

pub returns-in_err-each_blob-clause-sink : goal.returns-in_err-each_blob-clause-sink
returns-in_err-each_blob-clause-sink g c = let at = err_from_is_err_and c.from_residual-in_err-each_blob.result c.from_residual-in_err-each_blob.ensures.1 in rw (at.1, at.2) (c.in_err-each_blob.ensures.sink c.args.memory.now)

pub returns-clause-run : goal.returns-clause-run
returns-clause-run g c = pull_each (context_of c.args.call.now) c.args.call.now.image.now (descriptors_of c.args.manifest.now) c.args.range.first c.args.range.end c.in-Some.field-0.now c.in_ok-registry.registry c.in_ok-token.token (Ok tt) (g.T.Transport.state c.args.transport.now) (g.T.Transport.state c.authorized.new.transport) (g.T.Transport.state c.each_blob.new.transport) c.args.memory.now c.authorized.new.memory c.if-range.false c.in-Some.ensures c.in_ok-registry.ensures c.in_ok-token.ensures (c.in_ok-each_blob.ensures.run c.authorized.new.memory)

pub returns-clause-took : goal.returns-clause-took
returns-clause-took g c = each_took (context_of c.args.call.now) c.args.call.now.image.now (descriptors_of c.args.manifest.now) c.args.range.first c.args.range.end g.S.Sinks.fresh c.in_ok-registry.registry c.in_ok-token.token (Ok tt) (g.T.Transport.state c.args.transport.now) (g.T.Transport.state c.authorized.new.transport) (g.T.Transport.state c.each_blob.new.transport) c.args.memory.now c.authorized.new.memory (g.S.Sinks.state c.args.sinks.now) (g.S.Sinks.state c.each_blob.new.sinks) c.in_ok-token.ensures (c.in_ok-each_blob.ensures.took c.args.memory.now)

pub returns-clause-causes : goal.returns-clause-causes
returns-clause-causes g c = tt

pub returns-clause-count : goal.returns-clause-count
returns-clause-count g c = c.in_ok-each_blob.ensures.count

pub returns-clause-sink : goal.returns-clause-sink
returns-clause-sink g c = λ h. absurd (cc h)
