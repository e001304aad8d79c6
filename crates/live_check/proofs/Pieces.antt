-- The pieces of a blob that were received and hashed so far.
use Rattle.std.proofs.Common.{◌≡◌, ◌↔◌, ◌≤◌, ◌<◌, ℕ, ◌+◌, ◌-◌, pos, inl, inr, Bool, true, false, List, [], ◌∷◌, ◌++◌, length, IsTrue, None, Result, Ok, Err, refl, sym, ap, subst, ◌∙◌, length-append, arith}
use Rattle.oci_names.specs.declared.algorithm.Algorithm.{Algorithm}
use Rattle.oci_digests.specs.Holds.{Holds}
use Rattle.oci_digests.specs.declared.digester.Digester.{Digester}
use Rattle.oci_digests.specs.declared.error.DigestError.{DigestError}
use Rattle.oci_digests.specs.Checks.{named_algorithm}
use Rattle.oci_digests.specs.Hashes.{hash_of}
use Rattle.oci_digests.specs.Names.{Names, digest_text}
use Rattle.oci_digests.proofs.Algorithms.{algorithm_named}
use Rattle.oci_manifests.specs.declared.descriptor.OciDescriptor.{OciDescriptor}
use Rattle.hex.specs.Hex.{encode_lower}
use Rattle.image_blobs.specs.Checked.{IsBlob, IsDigesterOf}
use Rattle.live_host.specs.Wire.{Wire}
use Rattle.live_host.specs.declared.streams.HostError.{HostError}
use Rattle.live_pull.specs.Status.{StatusCause}
use Rattle.live_pull.specs.declared.status.Status.{Status}
use Rattle.live_check.specs.Blobs.{NotSized, PartsChecked, PartsFall, PartsHashed, PartsOther, PartsStand, PartsWhole, PiecesCut, WereReceived, WhyNot, bytes_of}
use Rattle.live_check.specs.Parts.{IsPart, PartCut}
use Rattle.live_check.specs.declared.parts.Part.TheVariants.{Piece, End, Failed}
use Rattle.live_check.proofs.Ends.{caused_so}
use Rattle.live_check.proofs.PartsIn.{some_bytes}

-- ---- one piece after another

pub record HashedSoFar (size left : ℕ) (from to : Digester) (old now : Wire) : Type 0 where
  pub pieces : List (List ℕ)
  pub received : WereReceived pieces old now
  pub counted : length (bytes_of pieces) + left ≡ size
  pub hashed : (a : Algorithm) → Holds from a [] → Holds to a (bytes_of pieces)

pub hashed_none : (size : ℕ) (d : Digester) (w : Wire) → HashedSoFar size size d d w w
hashed_none size d w = record { pieces = []; received = refl; counted = omega arith; hashed = λ a h. h }

-- one more
pub hashed_more : (size left : ℕ) (piece : List ℕ) (from mid to : Digester) (old now next : Wire) → HashedSoFar size left from mid old now → IsPart (Piece piece) now next → length piece ≤ left → ((a : Algorithm) (m : List ℕ) → Holds mid a m → Holds to a (m ++ piece)) → HashedSoFar size (left - length piece) from to old next
hashed_more size left piece from mid to old now next so part under more = record {
  pieces = piece ∷ so.pieces;
  received = (now, so.received, part);
  counted = omega (arith, so.counted, under, length-append (bytes_of so.pieces) piece);
  hashed = λ a h. more a (bytes_of so.pieces) (so.hashed a h);
}

-- fewer bytes are left than before
pub fewer_left : (left : ℕ) (piece : List ℕ) (now next : Wire) → IsPart (Piece piece) now next → length piece ≤ left → left - length piece < left
fewer_left left piece now next part under = omega (arith, some_bytes piece now next part, under)

-- the end
pub hashed_all : (size left : ℕ) (from to : Digester) (old now new : Wire) (sized : Bool) → HashedSoFar size left from to old now → IsPart End now new → (IsTrue sized ↔ (left ≡ 0)) → PartsHashed size from to sized old new
hashed_all size left from to old now new true so end zero = record { pieces = so.pieces; ended_at = now; received = so.received; ended = end; sized = omega (arith, so.counted, zero.0 refl); hashed = so.hashed }
hashed_all size left from to old now new false so end zero = record {
  pieces = so.pieces;
  read_at = now;
  received = so.received;
  why = inr (inl (end, λ is. let none : left ≡ 0 = omega (arith, so.counted, is) in absurd (cc (zero.1 none))));
}

-- the host does not have it
pub hashed_failed : (size left : ℕ) (from to : Digester) (old now new : Wire) → HashedSoFar size left from to old now → IsPart Failed now new → PartsOther size old new
hashed_failed size left from to old now new so failed = record { pieces = so.pieces; read_at = now; received = so.received; why = inl failed }

-- more bytes than are left
pub hashed_over : (size left : ℕ) (piece : List ℕ) (from to : Digester) (old now next : Wire) → HashedSoFar size left from to old now → IsPart (Piece piece) now next → left < length piece → PartsOther size old next
hashed_over size left piece from to old now next so part over = record {
  pieces = piece ∷ so.pieces;
  read_at = next;
  received = (now, so.received, part);
  why = inr (inr (refl, omega (arith, so.counted, over, length-append (bytes_of so.pieces) piece)));
}

-- the next part was not received
pub hashed_cut : (size left : ℕ) (from to : Digester) (s : Status) (old now new : Wire) → HashedSoFar size left from to old now → StatusCause (λ e. PartCut e now new) s → StatusCause (λ e. PiecesCut size e old new) s
hashed_cut size left from to s old now new so h =
    caused_so (λ e. PartCut e now new) (λ e. PiecesCut size e old new) s (λ e cut. record { pieces = so.pieces; cut_at = now; received = so.received; fit = omega (arith, so.counted); cut = cut }) h

-- ---- the digest

-- a text that names bytes names their algorithm
named_by_it : (text bytes : List ℕ) (n : Names text bytes) → named_algorithm text ≡ Ok n.0
named_by_it text bytes n = ap named_algorithm n.1 ∙ algorithm_named n.0 (encode_lower (hash_of n.0 bytes))

-- the whole blob was received, and its digest is compared
pub compared : (x : OciDescriptor) (n : ℕ) (from to : Digester) (old new : Wire) (a : Algorithm) (text : List ℕ) (same : Bool) → x.size ≡ pos n → named_algorithm x.digest ≡ Ok a → Holds from a [] → PartsWhole n from to old new → ((m : List ℕ) → Holds to a m → text ≡ digest_text a m) → (IsTrue same ↔ (text ≡ x.digest)) → PartsChecked x same old new
compared x n from to old new a text true size named fresh h computed is =
    record { pieces = h.pieces; ended_at = h.ended_at; received = h.received; ended = h.ended; blob = (ap pos h.sized ∙ sym size, (a, sym (is.0 refl) ∙ computed (bytes_of h.pieces) (h.hashed a fresh))) }
compared x n from to old new a text false size named fresh h computed is =
    record { pieces = h.pieces; read_at = h.ended_at; received = h.received; why = inr (inl (h.ended, λ b. absurd (cc (is.1 (computed (bytes_of h.pieces) (h.hashed a fresh) ∙ same_text b.1))))) } where
      same_text : Names x.digest (bytes_of h.pieces) → digest_text a (bytes_of h.pieces) ≡ x.digest
      same_text n = let one : ◌≡◌ {A = Result Algorithm DigestError} (Ok a) (Ok n.0) = sym named ∙ named_by_it x.digest (bytes_of h.pieces) n in let both : a ≡ n.0 = cc one in rw both (sym n.1)

-- bytes of another number are not the blob
not_sized : (x : OciDescriptor) (n : ℕ) (bytes : List ℕ) (old new : Wire) → x.size ≡ pos n → NotSized n bytes old new → WhyNot x bytes old new
not_sized x n bytes old new size (inl failed) = inl failed
not_sized x n bytes old new size (inr (inl (end, other))) = inr (inl (end, λ b. other (let both : pos (length bytes) ≡ pos n = b.0 ∙ size in cc both)))
not_sized x n bytes old new size (inr (inr (same, over))) = inr (inr (same, λ rest b. let both : pos (length (bytes ++ rest)) ≡ pos n = b.0 ∙ size in let is : length (bytes ++ rest) ≡ n = cc both in omega (arith, is, over, length-append bytes rest)))

pub other_size : (x : OciDescriptor) (n : ℕ) (old new : Wire) → x.size ≡ pos n → PartsOther n old new → PartsFall x old new
other_size x n old new size h = record { pieces = h.pieces; read_at = h.read_at; received = h.received; why = not_sized x n (bytes_of h.pieces) h.read_at new size h.why }

-- nothing was received, and no bytes are the blob
pub never : (x : OciDescriptor) (w : Wire) → ((bytes : List ℕ) → IsBlob x bytes → ⊥) → PartsFall x w w
never x w none = record { pieces = []; read_at = w; received = refl; why = inr (inr (refl, λ rest b. none rest b)) }
