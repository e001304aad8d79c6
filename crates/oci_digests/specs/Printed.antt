-- The parts of a digest text: how they are printed, when they are equal, and their order.
use Rattle.std.specs.Prelude.{ℕ, List, ◌++◌, Bool, ◌&&◌, bytes_eq, codes}
use Rattle.std.specs.Cmp.{IsEquivalence, IsTotalOrder, and_equiv, then_total}
use Rattle.std.specs.Cmp.Lexicographic.{slice_cmp, on_texts, on_texts_equal}
use Rattle.std.specs.Ordering.{ordering_then, nat_cmp}
use Rattle.std.specs.declared.cmp.Ordering.{Ordering}
use Rattle.oci_digests.specs.declared.digest.Digest.{Digest}

-- the algorithm, a colon and the digest
abbrev pub printed : Digest → List ℕ
printed d = d.algorithm.now ++ codes ":" ++ d.digest.now

-- the same algorithm and the same digest
abbrev pub is_same : Digest → Digest → Bool
is_same a b = bytes_eq a.algorithm.now b.algorithm.now && bytes_eq a.digest.now b.digest.now

-- by algorithm, and then by digest, each by its bytes
abbrev pub order : Digest → Digest → Ordering
order a b =
    ordering_then (slice_cmp nat_cmp a.algorithm.now b.algorithm.now) (slice_cmp nat_cmp a.digest.now b.digest.now)

pub equal : IsEquivalence is_same
equal = and_equiv (on_texts_equal (λ (d : Digest). d.algorithm.now)) (on_texts_equal (λ (d : Digest). d.digest.now))

pub ordered : IsTotalOrder order
ordered = then_total (on_texts (λ (d : Digest). d.algorithm.now)) (on_texts (λ (d : Digest). d.digest.now))
