-- Without bounds nothing is evicted.
use Rattle.std.proofs.Common.{◌≡◌, List, Option, Some, None, sym, ap, ◌∙◌}
use Rattle.registry_cache.specs.declared.answers.Answers.{Answers}
use Rattle.registry_cache.specs.declared.answers.Bounds.{Bounds}
use Rattle.registry_cache.specs.declared.answers.Entry.{Entry}
use Rattle.registry_cache.specs.Answers.{replaced, within, keep}
use Rattle.registry_cache.proofs.Backs.{within_none}

pub kept_unbounded : (k : Answers) (e : Entry) (es : List Entry) → k.bounds ≡ None → es ≡ replaced e k.entries → record { bounds = k.bounds; entries = es } ≡ keep e k
kept_unbounded k e es none is =
    let all : es ≡ within k.bounds (replaced e k.entries) = is ∙ sym (within_none (replaced e k.entries)) ∙ ap (λ bounds. within bounds (replaced e k.entries)) (sym none) in
    λ i. record { bounds = k.bounds; entries = all i }
