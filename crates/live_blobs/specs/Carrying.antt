-- One blob that is pushed to a registry, unless that has it: what is asked, and what is sent of a source's bytes.
use Rattle.std.specs.Prelude.{◌≡◌, ◌≢◌, ◌⊎◌, ◌<◌, ℕ, Bool, true, false, List, [], length, Some, None, Result, Ok, Err, IfErr}
use Rattle.std.specs.Io.KnownBytes.{IsAtEnd}
use Rattle.json_values.specs.Counts.{Increased}
use Rattle.byte_streams.specs.Source.{SourceState, Takes}
use Rattle.oci_auth.specs.declared.auth_state.AuthState.{AuthState}
use Rattle.oci_auth.specs.declared.token_type.RegistryOperation.TheVariants.{Pull, Push}
use Rattle.oci_digests.specs.Names.{digest_text}
use Rattle.oci_digests.specs.declared.error.DigestError.TheVariants.{VerificationError}
use Rattle.oci_names.specs.declared.algorithm.Algorithm.TheVariants.{Sha256}
use Rattle.oci_names.specs.declared.reference.Reference.{Reference}
use Rattle.oci_protocol.specs.Proto.{Proto}
use Rattle.oci_protocol.specs.Runs.{Runs}
use Rattle.oci_transport.specs.Pieces.{joined}
use Rattle.oci_transport.specs.declared.message.Exchange.{Exchange}
use Rattle.engine_pull.specs.Causes.{BadValue, ExistsAnswer, ExistsUrl}
use Rattle.engine_pull.specs.Listings.{blob_exists}
use Rattle.engine_rows.specs.Causes.{Cause}
use Rattle.engine_rows.specs.Confined.{Within}
use Rattle.engine_rows.specs.Held.{Entry, asking, pulling}
use Rattle.engine_rows.specs.Rows.{Row}
use Rattle.engine_terms.specs.Contexts.{Context}
use Rattle.engine_terms.specs.Error.{is_memory}
use Rattle.engine_terms.specs.declared.error.OciDistributionError.{OciDistributionError}
use Rattle.engine_terms.specs.declared.error.OciDistributionError.TheVariants as refusal
use Rattle.engine_terms.specs.declared.settings.Settings.{Settings}
use Rattle.push_rows.specs.Bodies.{LastLong, bodies}
use Rattle.push_rows.specs.Calls.{push_blob_stream_chunked}
use Rattle.push_rows.specs.Causes.{OfNamedStream, UploadCause}
use Rattle.push_rows.specs.declared.responses.PushBlobStreamChunkedResponse.{PushBlobStreamChunkedResponse}
use Rattle.engine_push.specs.Sources.{IsPrefixOf}
use Rattle.live_host.specs.Wire.{Wire}
use Rattle.live_pull.specs.Justified.{Shown}
use Rattle.live_pull.specs.Pulls.{Carries}

-- a result for which `P` holds, unless memory ran out
abbrev pub Unless : {A : Type 0} → (Result A OciDistributionError → Type 0) → Result A OciDistributionError → Type 0
Unless P (Ok a) = P (Ok a)
Unless P (Err e) = is_memory e ≡ false → P (Err e)

-- ---- the calls

-- a complete run of this row, by the frames that were sent and received
pub record ByFrames {K A : Type 0} (row : Proto K A) (old new : Wire) (k l : K) (a : A) : Type 0 where
  pub conversation : List Exchange
  pub faults : ℕ
  pub runs : Runs row k 0 conversation faults l a
  pub carried : Carries conversation old new

-- These requests were sent: a complete run of the row. Credentials and tokens were sent only to places that the call
-- may send them to, and an error has its cause.
pub record Call {A : Type 0} (row : Row A) (entry : Entry) (s : Settings)
    (Why : List Exchange → ℕ → OciDistributionError → Type 0) (k l : AuthState) (r : Result A OciDistributionError)
    (old new : Wire) : Type 0 where
  pub run : ByFrames row old new k l r
  pub confined : Shown (Within entry s l) old new
  pub cause : IfErr r (λ e. (n : ℕ) × Shown (λ c. Why c n e) old new)

-- the target is asked whether it has the blob of this digest
abbrev pub Asks : Context → Reference → List ℕ → AuthState → AuthState → Result Bool OciDistributionError
    → Wire → Wire → Type 0
Asks s into digest k l r old new = Call (blob_exists s into digest) (asking k s into Pull None) s.settings
    (Cause (ExistsUrl s.settings into digest) ExistsAnswer (BadValue (pulling k s into None) s.settings) s.settings)
    k l r old new

-- ---- what is sent of the source's bytes

-- the streams expose their bytes
abbrev pub IsExposed : Wire → Type 0
IsExposed wire = (taken left : List ℕ) × (wire.sink.taken ≡ Some taken) × (wire.source.left ≡ Some left)

-- The requests contained these bytes, in order, and the digest is theirs. If the streams expose their bytes, they are
-- all that the source had left.
pub record SentAll (digest : List ℕ) (before after : SourceState) (old new : Wire) : Type 0 where
  pub bytes : List ℕ
  pub sent : Shown (λ c. joined (bodies c) ≡ bytes) old new
  pub named : digest_text Sha256 bytes ≡ digest
  pub taken : IsExposed old → Takes bytes before after
  pub ended : IsAtEnd after.left

-- more bytes than the limit were taken of the source
abbrev pub TookMore : ℕ → SourceState → SourceState → Type 0
TookMore limit before after = (bytes : List ℕ) × Takes bytes before after × (limit < length bytes)

-- Why a push was refused for what the source gave: it failed; it gave more bytes than the limit, if not the last
-- response had more; or it gave none.
abbrev pub SourceCause : ℕ → SourceState → SourceState → Wire → Wire → OciDistributionError → Type 0
SourceCause limit before after old new refusal.SourceFault = Increased before.faults after.faults
SourceCause limit before after old new refusal.BodyTooLong =
    TookMore limit before after ⊎ Shown (LastLong limit) old new
SourceCause limit before after old new refusal.PushNoDataError = Takes [] before after × IsAtEnd after.left
SourceCause limit before after old new _ = Unit {0}

-- the requests contained a prefix of what the source had left
pub record SentPart (limit : ℕ) (e : OciDistributionError) (before after : SourceState) (old new : Wire) : Type 0 where
  pub sent : Shown (λ c. IsPrefixOf (joined (bodies c)) before.left) old new
  pub cause : SourceCause limit before after old new e

-- all of it, under the digest that is returned, or a prefix
abbrev pub SentBy : ℕ → Result PushBlobStreamChunkedResponse OciDistributionError → SourceState → SourceState
    → Wire → Wire → Type 0
SentBy limit (Ok response) before after old new = SentAll response.blob_digest before after old new
SentBy limit (Err e) before after old new = SentPart limit e before after old new

-- the source's bytes are pushed to the target, under the digest that is computed from them
pub record Pushes (s : Context) (into : Reference) (k : AuthState)
    (r : Result PushBlobStreamChunkedResponse OciDistributionError) (before after : SourceState) (old new : Wire)
    : Type 0 where
  pub left : AuthState
  pub call : Call (push_blob_stream_chunked s into) (asking k s into Push None) s.settings
      (UploadCause OfNamedStream (asking k s into Push None) s.settings) k left r old new
  pub sent : SentBy s.settings.max_body_bytes r before after old new

-- ---- the course, by its result: whether the blob was pushed

-- the digest that was computed is the one that was asked for, or the error names both
abbrev pub Compares : List ℕ → PushBlobStreamChunkedResponse → Result Bool OciDistributionError → Type 0
Compares digest response (Ok true) = response.blob_digest ≡ digest
Compares digest response (Ok false) = ⊥
Compares digest response (Err e) = (response.blob_digest ≢ digest)
    × (e ≡ refusal.DigestError (VerificationError digest response.blob_digest))

-- the source's bytes were pushed, and their digest was compared
pub record Pushed (s : Context) (into : Reference) (digest : List ℕ) (k : AuthState)
    (r : Result Bool OciDistributionError) (before after : SourceState) (old new : Wire) : Type 0 where
  pub response : PushBlobStreamChunkedResponse
  pub pushes : Pushes s into k (Ok response) before after old new
  pub compares : Compares digest response r

-- a blob that the target lacks: what the source gave was pushed, or the push was refused
abbrev pub Lacked : Context → Reference → List ℕ → AuthState → Result Bool OciDistributionError
    → SourceState → SourceState → Wire → Wire → Type 0
Lacked s into digest k (Ok pushed) before after old new = Pushed s into digest k (Ok pushed) before after old new
Lacked s into digest k (Err e) before after old new =
    Pushes s into k (Err e) before after old new ⊎ Pushed s into digest k (Err e) before after old new

-- the target answered that it lacks the blob, and then
pub record AskedAndLacked (s : Context) (into : Reference) (digest : List ℕ) (k : AuthState)
    (r : Result Bool OciDistributionError) (before after : SourceState) (old new : Wire) : Type 0 where
  pub left : AuthState
  pub asked_at : Wire
  pub asked : Asks s into digest k left (Ok false) old asked_at
  pub lacked : Lacked s into digest left r before after asked_at new

-- The target answered so, or refused to, and nothing was taken of the source.
pub record AskedAlone (s : Context) (into : Reference) (digest : List ℕ) (k : AuthState)
    (r : Result Bool OciDistributionError) (before after : SourceState) (old new : Wire) : Type 0 where
  pub left : AuthState
  pub asked : Asks s into digest k left r old new
  pub untaken : after ≡ before

-- the target answered that it has the blob; or it lacked it; or it refused to say
abbrev pub Carried : Context → Reference → List ℕ → AuthState → Result Bool OciDistributionError
    → SourceState → SourceState → Wire → Wire → Type 0
Carried s into digest k (Ok false) before after old new = AskedAlone s into digest k (Ok true) before after old new
Carried s into digest k (Ok true) before after old new = AskedAndLacked s into digest k (Ok true) before after old new
Carried s into digest k (Err e) before after old new = AskedAlone s into digest k (Err e) before after old new
    ⊎ AskedAndLacked s into digest k (Err e) before after old new
