-- How the input was read.
use Rattle.std.proofs.Common.{◌≡◌, ◌+◌, ℕ, List, ◌++◌, Option, Some, None, Result, Ok, Err, length, sym, ap, ◌∙◌, append-nil, length-append}
use Rattle.std.specs.Prelude.{Result, IfOk}
use Rattle.std.specs.Result.{IsErr, IsErrAnd}
use Rattle.std.specs.Io.KnownBytes.{Consumes, IsAtEnd}
use Rattle.byte_streams.specs.Source.{SourceState}
use Rattle.byte_streams.specs.Reading.{Reads, TakesWithin}
use Rattle.byte_streams.specs.declared.reading.ReadRefusal.{ReadRefusal}
use Rattle.byte_streams.specs.declared.reading.ReadRefusal.TheVariants as read
use Rattle.pull_run.specs.Input.{input_limit, IsInput, IsRead, ReadsInput}
use Rattle.pull_run.specs.Status.{status_of}
use Rattle.pull_run.specs.declared.status.Status.{Status}
use Rattle.pull_run.specs.declared.status.Status.TheVariants as status

-- the source was not read to its end
pub cut_off : {X : Type 0} (reads : List ℕ → Option X) (r : Result X Status) (refusal : ReadRefusal) (old new : SourceState) → IsErr r → IsErrAnd r (λ s. s ≡ status_of refusal) → Reads input_limit (Err refusal) old new → ReadsInput reads r old new
cut_off reads (Ok x) refusal old new err is cut = absurd (cc err)
cut_off reads (Err s) read.TooLong old new err is cut = rw is cut
cut_off reads (Err s) read.SourceFault old new err is cut = rw is cut
cut_off reads (Err s) read.WantOfMemory old new err is cut = rw is cut

pub within_limit : (bytes : List ℕ) (old new : SourceState) → IsInput bytes old new → TakesWithin input_limit old new
within_limit bytes old new h = (bytes, h.0.0, h.1)

-- memory ran out after the whole input was read
pub wanting_behind : {X : Type 0} (reads : List ℕ → Option X) (r : Result X Status) (bytes : List ℕ) (old new : SourceState) → IsErr r → IsErrAnd r (λ s. s ≡ status.WantOfMemory) → IsInput bytes old new → ReadsInput reads r old new
wanting_behind reads (Ok x) bytes old new err is h = absurd (cc err)
wanting_behind reads (Err s) bytes old new err is h = rw is (within_limit bytes old new h, h.2)

pub read_within : {X : Type 0} (reads : List ℕ → Option X) (x : X) (old new : SourceState) → IsRead reads x old new → TakesWithin input_limit old new
read_within reads x old new h = within_limit h.0 old new h.1

whole_is : (left right : Option (List ℕ)) (bytes told : List ℕ) → left ≡ Some told → Consumes left right bytes → IsAtEnd right → bytes ≡ told
whole_is None right bytes told is taken end = cc is
whole_is (Some xs) None bytes told is taken end = absurd taken
whole_is (Some xs) (Some ys) bytes told is taken end = sym (append-nil bytes) ∙ sym (ap (λ zs. bytes ++ zs) end) ∙ sym taken ∙ cc is

-- what was read is what the source exposed
pub input_is : (bytes told : List ℕ) (old new : SourceState) → old.left ≡ Some told → IsInput bytes old new → bytes ≡ told
input_is bytes told old new is h = whole_is old.left new.left bytes told is h.0.0 h.0.1

pub taken_is : (left right : Option (List ℕ)) (front told rest : List ℕ) → left ≡ Some told → right ≡ Some rest → Consumes left right front → length told ≡ length front + length rest
taken_is left right front told rest left_is right_is taken = let e : told ≡ front ++ rest = rw (left_is, right_is) at taken in ap length e ∙ length-append front rest

pub no_ok : {X E : Type 0} (r : Result X E) (P : X → Type 0) → IsErr r → IfOk r P
no_ok (Ok x) P err = absurd (cc err)
no_ok (Err e) P err = tt
