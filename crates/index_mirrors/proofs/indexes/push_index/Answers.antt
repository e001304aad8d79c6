use Rattle.std.proofs.Common.{refl}
use Rattle.index_mirrors.specs.Courses.{target_of}
use Rattle.index_mirrors.proofs.WholeIndex.{refused_index}
use Rattle.index_mirrors.proofs.indexes.push_index.Goals as goal

pub returns-in-Ok-clause-ends : goal.returns-in-Ok-clause-ends
returns-in-Ok-clause-ends g c = λ source. record {
  source = refl;
  run = c.in-Ok.ensures.run;
  pushed = c.in-Ok.ensures.pushed;
  stopped = tt;
  confined = c.in-Ok.ensures.confined;
}

pub returns-in-Err-clause-ends : goal.returns-in-Err-clause-ends
returns-in-Err-clause-ends g c = λ source. refused_index (target_of c.args.client.now c.args.moment c.args.to.now) c.args.to.now.tag c.args.documents.now _ _ c.in-Err.refusal _ c.index_refusal.ensures (record {
  source = refl;
  run = c.in-Err.ensures.run;
  pushed = tt;
  stopped = c.in-Err.ensures.stopped;
  confined = c.in-Err.ensures.confined;
})
