-- A call by a transport over the streams, by the frames that carried it.
use Rattle.std.proofs.Common.{◌≡◌, inl, inr, ℕ, List, [], ◌∷◌, ◌++◌, Option, Some, None, Result, Ok, Err, refl, sym, ap, subst, ◌∙◌}
use Rattle.std.specs.Prelude.{IfErr}
use Rattle.byte_streams.specs.Source.{SourceState, Takes}
use Rattle.oci_auth.specs.declared.auth_state.AuthState.{AuthState}
use Rattle.oci_auth.specs.declared.token_type.RegistryOperation.TheVariants.{Push}
use Rattle.oci_names.specs.declared.reference.Reference.{Reference}
use Rattle.oci_protocol.specs.Proto.{Proto}
use Rattle.oci_protocol.specs.Runs.{Meets, Performs, Runs, Told}
use Rattle.oci_transport.specs.Link.{Link}
use Rattle.oci_transport.specs.Pieces.{joined}
use Rattle.oci_transport.specs.declared.message.Exchange.{Exchange}
use Rattle.engine_rows.specs.Confined.{Within}
use Rattle.engine_rows.specs.Held.{Entry, asking}
use Rattle.engine_rows.specs.Rows.{Row}
use Rattle.engine_terms.specs.Contexts.{Context}
use Rattle.engine_terms.specs.Error.{is_memory}
use Rattle.engine_terms.specs.declared.error.OciDistributionError.{OciDistributionError}
use Rattle.engine_terms.specs.declared.error.OciDistributionError.TheVariants as refusal
use Rattle.engine_terms.specs.declared.settings.Settings.{Settings}
use Rattle.push_rows.specs.Bodies.{LastLong, bodies}
use Rattle.push_rows.specs.Calls.{push_blob_stream_chunked}
use Rattle.push_rows.specs.Causes.{OfNamedStream, UploadCause}
use Rattle.push_rows.specs.declared.responses.PushBlobStreamChunkedResponse.{PushBlobStreamChunkedResponse}
use Rattle.engine_push.specs.Sources.{IsPrefixOf, Pushes as PushesPieces, SourceCause as PiecesCause, TookMore as TookMorePieces}
use Rattle.live_link.specs.State.{opening, told_from}
use Rattle.live_link.specs.declared.stage.Breach.{Breach}
use Rattle.live_host.specs.Wire.{Wire}
use Rattle.live_pull.proofs.CarriedCalls.{Lets, shown}
use Rattle.live_pull.specs.Justified.{Shown}
use Rattle.live_blobs.proofs.SentBytes.{digest_sent}
use Rattle.live_blobs.specs.Carrying.{ByFrames, Call, Pushes, SentAll, SentBy, SentPart, SourceCause, TookMore, Unless}
use Rattle.live_blobs.specs.SourcePieces.{by_pieces}

module _ (first last : Link) (breach : Option Breach) (old new : Wire) (told : first.told ≡ told_from old.sink.taken old.source.left []) (none : first.faults ≡ 0) (lets : Lets last breach new.sink new.source) where
  shows : (P : List Exchange → Type 0) → Told P first last → Shown P old new
  shows P h = shown P first last breach old new told h lets

  by_frames : {K A : Type 0} (row : Proto K A) (k l : K) (a : A) → Performs row first last k l a → ByFrames row old new k l a
  by_frames row k l a performed =
      let it = shows (λ c. Runs row k 0 c last.faults l a) (record {
        conversation = performed.conversation;
        told = performed.told;
        holds = subst (λ (m : ℕ). Runs row k m performed.conversation last.faults l a) none performed.runs;
      }) in
      record { conversation = it.0; faults = last.faults; runs = it.2; carried = it.1 }

  module _ {A : Type 0} (row : Row A) (entry : Entry) (s : Settings) (Why : List Exchange → ℕ → OciDistributionError → Type 0) (k l : AuthState) (confined : Told (Within entry s l) first last) where
    pub made : (r : Result A OciDistributionError) → Performs row first last k l r → IfErr r (λ e. Told (λ c. Why c last.faults e) first last) → Call row entry s Why k l r old new
    made r performed causes = record {
      run = by_frames row k l r performed;
      confined = shows (Within entry s l) confined;
      cause = caused r causes;
    } where
      caused : (x : Result A OciDistributionError) → IfErr x (λ e. Told (λ c. Why c last.faults e) first last) → IfErr x (λ e. (n : ℕ) × Shown (λ c. Why c n e) old new)
      caused (Ok a) h = tt
      caused (Err e) h = (last.faults, shows (λ c. Why c last.faults e) h)

    pub call : (r : Result A OciDistributionError) → Meets is_memory row first last k l r → IfErr r (λ e. Told (λ c. Why c last.faults e) first last) → Unless (λ x. Call row entry s Why k l x old new) r
    call (Ok a) met causes = made (Ok a) met.outcome causes
    call (Err e) met causes = λ kept. made (Err e) (rw kept at met.outcome) causes

  -- ---- a push of a source's bytes

  module _ (s : Context) (into : Reference) (k l : AuthState) (before after : SourceState) where
    some_is : {A : Type 0} {x y : A} → Some x ≡ Some y → x ≡ y
    some_is e = cc e

    behind : {A : Type 0} {x y : A} {c d : List A} → x ∷ c ≡ y ∷ d → c ≡ d
    behind e = cc e

    -- if the streams expose their bytes, the exposed exchanges are the same
    same_exchanges : (c d : List Exchange) (taken left : List ℕ) → old.sink.taken ≡ Some taken → old.source.left ≡ Some left → ((x : List Exchange) → first.told ≡ Some x → last.told ≡ Some (x ++ c)) → ((x : List Exchange) → first.told ≡ Some x → last.told ≡ Some (x ++ d)) → c ≡ d
    same_exchanges c d taken left is_taken is_left to_c to_d =
        let began : first.told ≡ Some (opening taken left ∷ []) = told ∙ ap (λ t. told_from t old.source.left []) is_taken ∙ ap (λ t. told_from (Some taken) t []) is_left in
        behind (some_is (sym (to_c (opening taken left ∷ []) began) ∙ to_d (opening taken left ∷ []) began))

    sent_all : (response : PushBlobStreamChunkedResponse) → Performs (push_blob_stream_chunked s into) first last k l (Ok response) → PushesPieces {A = PushBlobStreamChunkedResponse} {E = OciDistributionError} (by_pieces before) (by_pieces after) first last (Ok response) → SentAll response.blob_digest before after old new
    sent_all response performed pushes = record {
      bytes = joined (bodies performed.conversation);
      sent = shows (λ c. joined (bodies c) ≡ joined (bodies performed.conversation)) (record { conversation = performed.conversation; told = performed.told; holds = refl });
      named = digest_sent s into k l first.faults last.faults performed.conversation response performed.runs;
      taken = λ exposed. subst (λ c. Takes (joined (bodies c)) before after) (same_exchanges pushes.0.conversation performed.conversation exposed.0 exposed.1 exposed.2 exposed.3 pushes.0.told.told performed.told.told) pushes.0.holds;
      ended = pushes.1;
    }

    took_more : (limit : ℕ) → TookMorePieces limit (by_pieces before) (by_pieces after) → TookMore limit before after
    took_more limit h = (joined h.pieces ++ h.last, h.bytes, h.exceeds)

    cause_of : (limit : ℕ) (e : OciDistributionError) → PiecesCause limit None (by_pieces before) (by_pieces after) first last e → SourceCause limit before after old new e
    cause_of limit refusal.SourceFault h = h
    cause_of limit refusal.BodyTooLong (inl h) = inl (took_more limit h)
    cause_of limit refusal.BodyTooLong (inr h) = inr (shows (LastLong limit) h)
    cause_of limit refusal.PushNoDataError h = h
    cause_of limit _ h = tt

    sent_part : (e : OciDistributionError) → PushesPieces {A = PushBlobStreamChunkedResponse} {E = OciDistributionError} (by_pieces before) (by_pieces after) first last (Err e) → PiecesCause s.settings.max_body_bytes None (by_pieces before) (by_pieces after) first last e → SentPart s.settings.max_body_bytes e before after old new
    sent_part e pushes source = record { sent = shows (λ c. IsPrefixOf (joined (bodies c)) before.left) pushes; cause = cause_of s.settings.max_body_bytes e source }

    module _ (confined : Told (Within (asking k s into Push None) s.settings l) first last) where
      pushed_by : (r : Result PushBlobStreamChunkedResponse OciDistributionError) → Performs (push_blob_stream_chunked s into) first last k l r → IfErr r (λ e. Told (λ c. UploadCause OfNamedStream (asking k s into Push None) s.settings c last.faults e) first last) → SentBy s.settings.max_body_bytes r before after old new → Pushes s into k r before after old new
      pushed_by r performed causes sent = record {
        left = l;
        call = made (push_blob_stream_chunked s into) (asking k s into Push None) s.settings (UploadCause OfNamedStream (asking k s into Push None) s.settings) k l confined r performed causes;
        sent = sent;
      }

      pub pushed : (r : Result PushBlobStreamChunkedResponse OciDistributionError) → Meets is_memory (push_blob_stream_chunked s into) first last k l r → IfErr r (λ e. Told (λ c. UploadCause OfNamedStream (asking k s into Push None) s.settings c last.faults e) first last) → PushesPieces (by_pieces before) (by_pieces after) first last r → IfErr r (PiecesCause s.settings.max_body_bytes None (by_pieces before) (by_pieces after) first last) → Unless (λ x. Pushes s into k x before after old new) r
      pushed (Ok response) met causes pushes source = pushed_by (Ok response) met.outcome causes (sent_all response met.outcome pushes)
      pushed (Err e) met causes pushes source = λ kept. pushed_by (Err e) (rw kept at met.outcome) causes (sent_part e pushes source)
