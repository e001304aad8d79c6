-- The bytes that were read and hashed so far.
use Rattle.std.proofs.Common.{◌≡◌, ◌↔◌, ◌⊎◌, inl, inr, ◌≤◌, ◌<◌, ℕ, ◌+◌, ◌-◌, pos, Bool, true, false, List, [], ◌++◌, length, take, IsTrue, Option, Some, None, Result, Ok, Err, refl, sym, ap, subst, ◌∙◌, append-nil, length-append, arith}
use Rattle.std.specs.Prelude.{◌==◌, IfOk}
use Rattle.std.specs.Io.KnownBytes.{Consumes, IsAtEnd, Keeps}
use Rattle.std.proofs.KnownBytes.{Consumes-kept}
use Rattle.std.proofs.lemmas.List.{length-take-le}
use Rattle.json_values.specs.Counts.{Increased}
use Rattle.byte_streams.specs.Source.{SourceState, Takes}
use Rattle.byte_streams.proofs.Springs.{Consumes-none, Consumes-then}
use Rattle.oci_names.specs.declared.algorithm.Algorithm.{Algorithm}
use Rattle.oci_digests.specs.Holds.{Holds}
use Rattle.oci_digests.specs.declared.digester.Digester.{Digester}
use Rattle.oci_digests.specs.declared.error.DigestError.{DigestError}
use Rattle.oci_digests.specs.Checks.{named_algorithm}
use Rattle.oci_digests.specs.Hashes.{hash_of}
use Rattle.oci_digests.specs.Names.{Names, digest_text}
use Rattle.oci_digests.proofs.Algorithms.{algorithm_named}
use Rattle.oci_manifests.specs.declared.descriptor.OciDescriptor.{OciDescriptor}
use Rattle.engine_terms.specs.declared.error.OciDistributionError.{OciDistributionError}
use Rattle.hex.specs.Hex.{encode_lower}
use Rattle.call_laws.specs.Cut.{bytes_in}
use Rattle.image_blobs.specs.Checked.{Checks, Decided, DecidesAll, Hashed, IsBlob, IsDigesterOf, IsSettledBy, TakesWithin}

pub record HashedSoFar (size left : ℕ) (from to : Digester) (old new : SourceState) : Type 0 where
  pub bytes : List ℕ
  pub took : Takes bytes old new
  pub counted : length bytes + left ≡ size
  pub count : old.faults ≤ new.faults
  pub hashed : (a : Algorithm) → Holds from a [] → Holds to a bytes

pub hashed_none : (size : ℕ) (d : Digester) (s : SourceState) → HashedSoFar size size d d s s
hashed_none size d s = record { bytes = []; took = Consumes-none s.left; counted = omega arith; count = omega arith; hashed = λ a h. h }

-- one more piece
pub hashed_more : (size left n : ℕ) (room piece : List ℕ) (from mid to : Digester) (a b c : SourceState) → HashedSoFar size left from mid a b → Takes (take n room) b c → n ≤ length room → n ≤ left → b.faults ≤ c.faults → piece ≡ take n room → ((d : Algorithm) (m : List ℕ) → Holds mid d m → Holds to d (m ++ piece)) → HashedSoFar size (left - n) from to a c
hashed_more size left n room piece from mid to a b c so_far takes most under le same more = record {
  bytes = so_far.bytes ++ take n room;
  took = Consumes-then a.left b.left c.left so_far.bytes (take n room) so_far.took takes;
  counted = omega (arith, so_far.counted, under, length-append so_far.bytes (take n room), length-take-le n room most);
  count = omega (arith, so_far.count, le);
  hashed = λ d h. subst (λ (p : List ℕ). Holds to d (so_far.bytes ++ p)) same (more d so_far.bytes (so_far.hashed d h));
}

-- more bytes than are left
pub hashed_over : (size left n : ℕ) (room : List ℕ) (from mid : Digester) (a b c : SourceState) → HashedSoFar size left from mid a b → Takes (take n room) b c → n ≤ length room → left < n → Hashed size from mid a c false
hashed_over size left n room from mid a b c so_far piece most over = record {
  bytes = so_far.bytes ++ take n room;
  took = Consumes-then a.left b.left c.left so_far.bytes (take n room) so_far.took piece;
  exact = ((λ h. absurd (cc h)), (λ is. absurd (omega (arith, so_far.counted, over, is, length-append so_far.bytes (take n room), length-take-le n room most))));
  whole = λ h. absurd (cc h);
  settled = inr (omega (arith, so_far.counted, over, length-append so_far.bytes (take n room), length-take-le n room most));
  hashed = λ h. absurd (cc h);
}

-- none is left
pub hashed_all : (size left n : ℕ) (room : List ℕ) (from mid : Digester) (a b c : SourceState) (sized : Bool) → HashedSoFar size left from mid a b → Takes (take n room) b c → n ≡ 0 → IsAtEnd c.left → (IsTrue sized ↔ (left ≡ 0)) → Hashed size from mid a c sized
hashed_all size left n room from mid a b c sized so_far piece none end zero = record {
  bytes = so_far.bytes;
  took = rw append-nil at (Consumes-then a.left b.left c.left so_far.bytes [] so_far.took (rw none at piece));
  exact = ((λ h. omega (arith, so_far.counted, zero.0 h)), (λ is. zero.1 (omega (arith, so_far.counted, is))));
  whole = λ h. end;
  settled = inl end;
  hashed = λ h. so_far.hashed;
}

-- the source failed
pub hashed_failed : {size left : ℕ} {from mid : Digester} (a b c : SourceState) → HashedSoFar size left from mid a b → Increased b.faults c.faults → Increased a.faults c.faults
hashed_failed a b c so_far rose = omega (arith, so_far.count, rose)

-- ---- the digest

-- a digest that names bytes names their algorithm
named_by_it : (text bytes : List ℕ) (n : Names text bytes) → named_algorithm text ≡ Ok n.0
named_by_it text bytes n = ap named_algorithm n.1 ∙ algorithm_named n.0 (encode_lower (hash_of n.0 bytes))

-- the text has an unknown algorithm, or none
pub no_digester : (text : List ℕ) (e : DigestError) → named_algorithm text ≡ Err e → IsDigesterOf text None
no_digester text e is = λ bytes n. let never : ◌≡◌ {A = Result Algorithm DigestError} (Ok n.0) (Err e) = sym (named_by_it text bytes n) ∙ is in absurd (cc never)

-- the size is that of the bytes, and the digest is compared
pub decided : (x : OciDescriptor) (n : ℕ) (from to : Digester) (old new : SourceState) (a : Algorithm) (text : List ℕ) (same : Bool) → x.size ≡ pos n → named_algorithm x.digest ≡ Ok a → Holds from a [] → Hashed n from to old new true → ((m : List ℕ) → Holds to a m → text ≡ digest_text a m) → (IsTrue same ↔ (text ≡ x.digest)) → Decided x old new same
decided x n from to old new a text same size named fresh h computed compared =
    let is : text ≡ digest_text a h.bytes = computed h.bytes (h.hashed refl a fresh) in
    record {
      bytes = h.bytes;
      took = h.took;
      exact = (
        (λ t. (ap pos (h.exact.0 refl) ∙ sym size, (a, sym (compared.0 t) ∙ is))),
        (λ b. compared.1 (is ∙ same_text b.1)),
      );
      whole = λ t. h.whole refl;
      settled = inl (h.whole refl);
    } where
      same_text : Names x.digest h.bytes → digest_text a h.bytes ≡ x.digest
      same_text n = let one : ◌≡◌ {A = Result Algorithm DigestError} (Ok a) (Ok n.0) = sym named ∙ named_by_it x.digest h.bytes n in let both : a ≡ n.0 = cc one in rw both (sym n.1)

-- the size is another one
pub undecided : (x : OciDescriptor) (n : ℕ) (from to : Digester) (old new : SourceState) → x.size ≡ pos n → Hashed n from to old new false → Decided x old new false
undecided x n from to old new size h = record {
  bytes = h.bytes;
  took = h.took;
  exact = ((λ t. absurd (cc t)), (λ b. h.exact.1 (let both : pos (length h.bytes) ≡ pos n = b.0 ∙ size in cc both)));
  whole = λ t. absurd (cc t);
  settled = by_size h.settled;
} where
  by_size : IsAtEnd new.left ⊎ (n < length h.bytes) → IsSettledBy x h.bytes new
  by_size (inl end) = inl end
  by_size (inr more) = inr (inl (omega (arith, more, ap bytes_in size)))

-- nothing was read, and no bytes are the blob
pub never_blob : (x : OciDescriptor) (s : SourceState) → ((bytes : List ℕ) → IsBlob x bytes → ⊥) → Decided x s s false
never_blob x s never = record { bytes = []; took = Consumes-none s.left; exact = ((λ t. absurd (cc t)), (λ b. absurd (never [] b))); whole = λ t. absurd (cc t); settled = inr (inr never) }

-- ---- at most this many bytes

pub nothing_within : (limit : ℕ) (s : SourceState) → TakesWithin limit s s
nothing_within limit s = record { bytes = []; within = omega arith; took = Consumes-none s.left }

-- those so far, and the last piece
pub within_piece : (size left n limit : ℕ) (room : List ℕ) (from mid : Digester) (a b c : SourceState) → HashedSoFar size left from mid a b → Takes (take n room) b c → n ≤ length room → length room ≡ limit → TakesWithin (size + limit) a c
within_piece size left n limit room from mid a b c so_far piece most long = record {
  bytes = so_far.bytes ++ take n room;
  within = omega (arith, so_far.counted, most, long, length-append so_far.bytes (take n room), length-take-le n room most);
  took = Consumes-then a.left b.left c.left so_far.bytes (take n room) so_far.took piece;
}

-- those so far, if the source failed
pub within_failed : (size left limit : ℕ) (from mid : Digester) (a b c : SourceState) → HashedSoFar size left from mid a b → Keeps b.left c.left → TakesWithin (size + limit) a c
within_failed size left limit from mid a b c so_far same = record {
  bytes = so_far.bytes;
  within = omega (arith, so_far.counted);
  took = Consumes-kept a.left b.left c.left so_far.bytes so_far.took same;
}

pub within_as : {n m : ℕ} {old new : SourceState} → n ≡ m → TakesWithin n old new → TakesWithin m old new
within_as same within = record { bytes = within.bytes; within = omega (arith, same, within.within); took = within.took }

-- ---- all bytes of the source

left_after : (all bytes : List ℕ) (left : Option (List ℕ)) → Consumes (Some all) left bytes → (rest : List ℕ) × (left ≡ Some rest) × (all ≡ bytes ++ rest)
left_after all bytes None h = absurd h
left_after all bytes (Some rest) h = (rest, refl, h)

none_after : (left : Option (List ℕ)) (rest : List ℕ) → left ≡ Some rest → IsAtEnd left → rest ≡ []
none_after None rest is end = absurd (cc is)
none_after (Some bytes) rest is end = let same : bytes ≡ rest = cc is in sym same ∙ end

all_read : (all bytes rest : List ℕ) → all ≡ bytes ++ rest → rest ≡ [] → all ≡ bytes
all_read all bytes rest split none = split ∙ ap (λ (end : List ℕ). bytes ++ end) none ∙ append-nil bytes

-- what was decided of the bytes that were read is decided of all
pub all_decided : (x : OciDescriptor) (old new : SourceState) (stood : Bool) → Decided x old new stood → DecidesAll x old stood
all_decided x old new stood d all is = (forth, λ blob. back blob d.settled) where
  after : (rest : List ℕ) × (new.left ≡ Some rest) × (all ≡ d.bytes ++ rest)
  after = left_after all d.bytes new.left (subst (λ (left : Option (List ℕ)). Consumes left new.left d.bytes) is d.took)

  whole : IsAtEnd new.left → all ≡ d.bytes
  whole end = all_read all d.bytes after.0 after.2 (none_after new.left after.0 after.1 end)

  forth : IsTrue stood → IsBlob x all
  forth t = subst (IsBlob x) (sym (whole (d.whole t))) (d.exact.0 t)

  back : IsBlob x all → IsSettledBy x d.bytes new → IsTrue stood
  back blob (inl end) = d.exact.1 (subst (IsBlob x) (whole end) blob)
  back blob (inr (inl more)) = absurd (omega (arith, more, ap bytes_in blob.0, ap length after.2, length-append d.bytes after.0))
  back blob (inr (inr never)) = absurd (never all blob)

pub all_checked : (x : OciDescriptor) (old new : SourceState) (r : Result Bool OciDistributionError) → Checks x old new r → IfOk r (DecidesAll x old)
all_checked x old new (Ok stood) h = all_decided x old new stood h
all_checked x old new (Err e) h = tt
