-- The calls, each outcome.
use Rattle.std.proofs.Common.{◌≡◌, ◌≢◌, ℕ, Bool, true, false, List, [], ◌∷◌, Option, Result, Ok, Err, length, refl, sym, subst, arith}
use Rattle.std.specs.Prelude.{nat_eq, if◌then◌else◌}
use Rattle.std.proofs.lemmas.Bool.Decides.{nat_tests}
use Rattle.oci_names.specs.declared.reference.Reference.{Reference}
use Rattle.oci_transport.specs.Link.{Link}
use Rattle.oci_auth.specs.declared.auth_state.AuthState.{AuthState}
use Rattle.oci_protocol.specs.Proto.{Done, bind, ◌>>=◌}
use Rattle.oci_protocol.specs.Runs.{Meets}
use Rattle.oci_protocol.proofs.Laws.{Meets-err, Meets-refused}
use Rattle.engine_terms.specs.Error.{is_memory}
use Rattle.engine_terms.specs.declared.error.OciDistributionError.{OciDistributionError}
use Rattle.engine_terms.specs.declared.error.OciDistributionError.TheVariants as refusal
use Rattle.engine_rows.specs.Rows.{Row}
use Rattle.engine_terms.specs.Contexts.{Context}
use Rattle.engine_terms.specs.declared.error.GenericCause.TheVariants.{SizeDiffers}
use Rattle.oci_protocol.proofs.Exits.{said, done}
use Rattle.engine_rows.proofs.Exits.{caught, caught_refusal, caught_memory}
use Rattle.push_rows.specs.Calls.{not_empty, push_chunked, push_whole, is_violation, or_whole, push_blob, of_size, stream_whole, stream_chunked, push_blob_stream}

empty_refused : (bytes : List ℕ) → length bytes ≡ 0 → not_empty bytes ≡ Err refusal.PushNoDataError
empty_refused [] none = refl
empty_refused (x ∷ xs) none = absurd (omega (arith, none))

some_answered : (bytes : List ℕ) → length bytes ≢ 0 → not_empty bytes ≡ Ok tt
some_answered [] some = absurd (some refl)
some_answered (x ∷ xs) some = refl

-- nothing was given
pub none_given : {A : Type 0} (f : Unit {0} → Row A) (bytes : List ℕ) (link : Link) (k : AuthState) → length bytes ≡ 0 → Meets is_memory (Done (not_empty bytes) >>= f) link link k k (Err refusal.PushNoDataError)
none_given f bytes link k none = Meets-refused f (said (Err refusal.PushNoDataError) (empty_refused bytes none))

pub some_given : (bytes : List ℕ) (link : Link) (k : AuthState) → length bytes ≢ 0 → Meets is_memory (Done (not_empty bytes)) link link k k (Ok tt)
some_given bytes link k some = said (Ok tt) (some_answered bytes some)

-- ---- bytes in memory

only_memory : (e : OciDistributionError) → is_memory e ≡ true → e ≡ refusal.WantOfMemory
only_memory refusal.WantOfMemory is = refl
only_memory _ is = absurd (cc is)

no_memory : (e : OciDistributionError) → is_violation e ≡ true → is_memory e ≡ false
no_memory (refusal.SpecViolationError v) is = refl
no_memory _ is = absurd (cc is)

module _ (s : Context) (image : Reference) (content digest : List ℕ) where
  pub blob_whole : {old new : Link} {k l : AuthState} (r : Result (List ℕ) OciDistributionError) → s.settings.use_monolithic_push ≡ true → Meets is_memory (push_whole s image content digest) old new k l r → Meets is_memory (push_blob s image content digest) old new k l r
  unfolding push_blob
  blob_whole {old} {new} {k} {l} r is met = subst (λ b. Meets is_memory (if b then push_whole s image content digest else bind (push_chunked s image content digest) (or_whole (push_whole s image content digest))) old new k l r) (sym is) met

  abbrev Chunked : Row (List ℕ)
  Chunked = push_chunked s image content digest

  abbrev Whole : Row (List ℕ)
  Whole = push_whole s image content digest

  in_chunks : {old new : Link} {k l : AuthState} (r : Result (List ℕ) OciDistributionError) → s.settings.use_monolithic_push ≡ false → Meets is_memory (bind Chunked (or_whole Whole)) old new k l r → Meets is_memory (push_blob s image content digest) old new k l r
  unfolding push_blob
  in_chunks {old} {new} {k} {l} r is met = subst (λ b. Meets is_memory (if b then Whole else bind Chunked (or_whole Whole)) old new k l r) (sym is) met

  pub blob_chunked : {old new : Link} {k l : AuthState} (url : List ℕ) → s.settings.use_monolithic_push ≡ false → Meets is_memory Chunked old new k l (Ok url) → Meets is_memory (push_blob s image content digest) old new k l (Ok url)
  blob_chunked url is met = in_chunks (Ok url) is (caught (or_whole Whole) met done)

  pub blob_again : {old mid new : Link} {k j l : AuthState} (e : OciDistributionError) (r : Result (List ℕ) OciDistributionError) → s.settings.use_monolithic_push ≡ false → is_violation e ≡ true → Meets is_memory Chunked old mid k j (Err e) → Meets is_memory Whole mid new j l r → Meets is_memory (push_blob s image content digest) old new k l r
  blob_again {mid = mid} {new = new} {j = j} {l = l} e r is violates first second = in_chunks r is (caught_refusal (or_whole Whole) (no_memory e violates) first (by_test (is_violation e) violates)) where
    by_test : (b : Bool) → b ≡ true → Meets is_memory (if b then Whole else Done (Err e)) mid new j l r
    by_test true is = second
    by_test false is = absurd (cc is)

  pub blob_refused : {old new : Link} {k l : AuthState} (e : OciDistributionError) → s.settings.use_monolithic_push ≡ false → is_violation e ≡ false → Meets is_memory Chunked old new k l (Err e) → Meets is_memory (push_blob s image content digest) old new k l (Err e)
  blob_refused {old} {new} {k} {l} e is other met = in_chunks (Err e) is (by_memory (is_memory e) refl) where
    by_test : (b : Bool) → b ≡ false → is_memory e ≡ false → Meets is_memory (if b then Whole else Done (Err e)) new new l l (Err e)
    by_test true is plain = absurd (cc is)
    by_test false is plain = Meets-err is_memory new l e plain

    by_memory : (b : Bool) → is_memory e ≡ b → Meets is_memory (bind Chunked (or_whole Whole)) old new k l (Err e)
    by_memory true wanted = subst (λ x. Meets is_memory (bind Chunked (or_whole Whole)) old new k l (Err x)) (sym (only_memory e wanted)) (caught_memory (or_whole Whole) wanted met)
    by_memory false plain = caught_refusal (or_whole Whole) plain met (by_test (is_violation e) other plain)

-- ---- a stream

module _ (s : Context) (image : Reference) (digest : List ℕ) (size : Option ℕ) where
  pub stream_by_one : {old new : Link} {k l : AuthState} (r : Result (List ℕ) OciDistributionError) → s.settings.use_monolithic_push ≡ true → Meets is_memory (stream_whole s image digest size) old new k l r → Meets is_memory (push_blob_stream s image digest size) old new k l r
  unfolding push_blob_stream
  stream_by_one {old} {new} {k} {l} r is met = subst (λ b. Meets is_memory (if b then stream_whole s image digest size else stream_chunked s image digest) old new k l r) (sym is) met

  pub stream_in_chunks : {old new : Link} {k l : AuthState} (r : Result (List ℕ) OciDistributionError) → s.settings.use_monolithic_push ≡ false → Meets is_memory (stream_chunked s image digest) old new k l r → Meets is_memory (push_blob_stream s image digest size) old new k l r
  unfolding push_blob_stream
  stream_in_chunks {old} {new} {k} {l} r is met = subst (λ b. Meets is_memory (if b then stream_whole s image digest size else stream_chunked s image digest) old new k l r) (sym is) met

other_size : (size : ℕ) (bytes : List ℕ) → length bytes ≢ size → of_size size bytes ≡ Err (refusal.GenericError SizeDiffers)
other_size size bytes other = by_test (nat_eq (length bytes) size) refl where
  by_test : (b : Bool) → nat_eq (length bytes) size ≡ b → (if b then Ok bytes else Err (refusal.GenericError SizeDiffers)) ≡ Err (refusal.GenericError SizeDiffers)
  by_test true is = absurd (grind (arith, nat_tests, is, other))
  by_test false is = refl

same_size : (size : ℕ) (bytes : List ℕ) → length bytes ≡ size → of_size size bytes ≡ Ok bytes
same_size size bytes same = by_test (nat_eq (length bytes) size) refl where
  by_test : (b : Bool) → nat_eq (length bytes) size ≡ b → (if b then Ok bytes else Err (refusal.GenericError SizeDiffers)) ≡ Ok bytes
  by_test true is = refl
  by_test false is = absurd (grind (arith, nat_tests, is, same))

pub size_refused : {A : Type 0} (size : ℕ) (bytes : List ℕ) (f : List ℕ → Row A) (link : Link) (k : AuthState) → length bytes ≢ size → Meets is_memory (Done (of_size size bytes) >>= f) link link k k (Err (refusal.GenericError SizeDiffers))
size_refused size bytes f link k other = Meets-refused f (said (Err (refusal.GenericError SizeDiffers)) (other_size size bytes other))

pub size_met : (size : ℕ) (bytes : List ℕ) (link : Link) (k : AuthState) → length bytes ≡ size → Meets is_memory (Done (of_size size bytes)) link link k k (Ok bytes)
size_met size bytes link k same = said (Ok bytes) (same_size size bytes same)
