-- The output of a pull over the generated shelf is that of `gen`.
use Rattle.std.proofs.Common.{◌≡◌, ℕ, List, [], Some, Result, Ok, Err, IfOk, length, sym, ap, ◌∙◌}
use Rattle.oci_transport.specs.Link.{Link}
use Rattle.oci_transport.specs.declared.message.Exchange.{Exchange}
use Rattle.oci_link.specs.State.{answering}
use Rattle.cosign_chain.specs.declared.image.VerifiedImage.{VerifiedImage}
use Rattle.cosign_rows.specs.declared.refusal.PullRefusal.{PullRefusal}
use Rattle.pull_generated.specs.Shelf.{generated_shelf}
use Rattle.pull_generated.specs.Terms.{PullsGenerated}
use Rattle.pull_run.specs.Generated.{generated_lines, WritesGenerated, Generated}
use Rattle.pulled_cases.specs.declared.report.Report.{Report}

pub gives : {E : Type 0} (n requests : ℕ) (before after : Link) (asked : List Exchange) (outcome : Result VerifiedImage PullRefusal) (written : Result Report E)
    → before.answers ≡ Some (answering (generated_shelf n)) → before.told ≡ Some [] → Some asked ≡ after.told → requests ≡ length asked
    → PullsGenerated n before after outcome → IfOk written (WritesGenerated requests outcome) → IfOk written (Generated n)
gives n requests before after asked outcome (Err e) answers untold told count pulled h = tt
gives n requests before after asked (Ok image) (Ok made) answers untold told count pulled h = record {
  before = before;
  answers = answers;
  untold = untold;
  after = after;
  asked = asked;
  told = sym told;
  image = image;
  pulled = pulled;
  written = h.0 ∙ ap (λ k. generated_lines k image) count;
  refused_is = h.1;
}
gives n requests before after asked (Err e) (Ok made) answers untold told count pulled h = absurd h
