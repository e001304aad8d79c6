use Rattle.std.proofs.Common.{◌+◌, take, drop, length, refl, sym, ap, ◌∙◌}
use Rattle.oci_link.proofs.LinkSteps.{take_most}
use Rattle.oci_link.proofs.served.Served.next.Goals as goal

pub returns-clause-ok : goal.returns-clause-ok
returns-clause-ok c =
    let left = c.split_at.result.1.now in
    record {
      shelf = refl;
      told = refl;
      body = refl;
      piece_is = c.in_ok-piece.ensures ∙ c.split_at-2.ensures.front ∙ ap (λ n. take n left) c.min-count.ensures ∙ take_most 65536 left ∙ ap (take 65536) (c.split_at.ensures.back ∙ ap (drop c.args.self.now.given) c.as_slice.ensures);
      given = ap (λ n. c.args.self.now.given + n) (sym (ap length c.in_ok-piece.ensures ∙ c.split_at-2.ensures.front_len));
    }
