-- A sink took at most this number of bytes.
use Rattle.std.proofs.Common.{◌≡◌, ◌≤◌, ◌+◌, ◌-◌, ℕ, Bool, true, false, List, [], ◌++◌, Option, Some, Result, Ok, Err, length, length-append, refl, sym, ap, ◌∙◌, arith}
use Rattle.std.specs.Result.{IsErrAnd}
use Rattle.std.proofs.lemmas.Result.{err_from_is_err_and}
use Rattle.byte_streams.specs.SinkState.{SinkState, Adds, AddsPrefix}
use Rattle.byte_streams.proofs.Sinks.{adds_none, adds_more}
use Rattle.oci_transport.specs.Link.{Link}
use Rattle.oci_digests.specs.declared.both.Digesters.{Digesters}
use Rattle.oci_protocol.proofs.PiecesIntoSink.{Poured}
use Rattle.engine_terms.specs.declared.error.OciDistributionError.{OciDistributionError}
use Rattle.image_blobs.specs.Taken.{AddsWithin}

-- none
pub within_none : (limit : ℕ) (sink : SinkState) → AddsWithin limit sink sink
within_none limit sink = record { bytes = []; within = omega arith; added = adds_none sink sink refl }

-- those that were written so far
pub within_so_far : (limit taken : ℕ) (from to : Digesters) (old mid : Link) (before after : SinkState) → Poured limit taken from to old mid before after → AddsWithin limit before after
within_so_far limit taken from to old mid before after p = record { bytes = p.body; within = omega (arith, p.small, p.taken_is); added = p.so_far.put }

-- and a prefix of a piece that was checked
pub within_part : (limit taken : ℕ) (piece : List ℕ) (from to : Digesters) (old mid : Link) (before between after : SinkState) → Poured limit taken from to old mid before between → length piece ≤ limit - taken → AddsPrefix piece between after → AddsWithin limit before after
within_part limit taken piece from to old mid before between after p small part = record {
  bytes = p.body ++ part.front;
  within = omega (arith, p.small, p.taken_is, small, length-append p.body part.front, ap length part.split ∙ length-append part.front part.left);
  added = adds_more p.body part.front before between after p.so_far.put part.added;
}

-- the sink is as it was before
pub within_same : (limit : ℕ) {old mid new : SinkState} → mid ≡ old → AddsWithin limit mid new → AddsWithin limit old new
within_same limit same within = rw (sym same) within

-- an offer that was refused, or that was taken, is not one that was skipped
pub refused_offer : (e : OciDistributionError) (r : Result Bool OciDistributionError) (P : Type 0) → IsErrAnd r (λ x. x ≡ e) → r ≡ Ok false → P
refused_offer e r P is skipped = let at = err_from_is_err_and r is in absurd (cc (at.1, skipped))

pub taken_offer : (P : Type 0) → ◌≡◌ {A = Result Bool OciDistributionError} (Ok true) (Ok false) → P
taken_offer P h = absurd (cc h)

pub failed_offer : (e : OciDistributionError) (P : Type 0) → ◌≡◌ {A = Result Bool OciDistributionError} (Err e) (Ok false) → P
failed_offer e P h = absurd (cc h)

pub unwritten : {put : Bool} {old new : SinkState} → put ≡ false → (◌≡◌ {A = Result Bool OciDistributionError} (Ok put) (Ok false) → new ≡ old) → new ≡ old
unwritten skipped h = h (ap Ok skipped)
