use Rattle.std.proofs.Common.{◌≡◌, drop}
use Rattle.std.specs.List.{list_any}
use Rattle.oci_link.specs.Rules.{goes_plain}
use Rattle.oci_link.proofs.rules.is_plain.Given as goal

abbrev pub invariant-loop-registry : goal.invariant-loop-registry
invariant-loop-registry l =
    list_any (goes_plain l.url) l.registries ≡ list_any (goes_plain l.url) (drop l.registry-index l.registries)
