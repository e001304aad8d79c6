-- Why frames were not sent or received.
use Rattle.std.proofs.Common.{◌≡◌, ℕ, Bool, List, [], ◌∷◌, ◌++◌, Result, Ok, Err, IsErr, append_assoc, ap, ◌∙◌, inl, inr, refl, sym, subst, codes}
use Rattle.std.specs.Prelude.{IfErr, IsErrAnd, OnErr}
use Rattle.serde_json.specs.Data.{Data}
use Rattle.byte_streams.specs.SinkState.{SinkState, Adds, AddsPrefix}
use Rattle.byte_streams.proofs.Sinks.{adds_more}
use Rattle.oci_manifests.specs.declared.blob.ImageLayer.{ImageLayer}
use Rattle.oci_manifests.specs.declared.descriptor.OciDescriptor.{OciDescriptor}
use Rattle.cosign_chain.specs.declared.image.VerifiedImage.{VerifiedImage}
use Rattle.cosign_chain.specs.declared.verified_documents.VerifiedDocuments.{VerifiedDocuments}
use Rattle.cosign_parts.specs.declared.certificate.Evidence.{Evidence}
use Rattle.json_tables.specs.Outcomes.{Refuses}
use Rattle.json_tables.specs.declared.error.ReadError.{ReadError}
use Rattle.json_tables.specs.declared.error.ReadError.TheVariants as read
use Rattle.live_host.specs.HostErrors.{AskCause, AsksCause, GiveCause, HearCause, Question, SendsPrefix, TellCause, about_certificate, about_key, host_error, question_sent}
use Rattle.live_host.specs.Items.{Sent, WereTold, blobs_sent, config_sent, documents_sent, image_sent, index_sent, item, layers_sent, manifest_sent, pulled_sent, signature_sent}
use Rattle.live_host.specs.Questions.{AsksMore, answer_of, verified_of}
use Rattle.live_host.specs.Wire.{Wire, ReceivesFrame, SendsFrame}
use Rattle.live_host.specs.declared.answers.HostAnswer.{HostAnswer}
use Rattle.live_host.specs.declared.streams.HostError.{HostError}
use Rattle.live_host.specs.declared.streams.HostError.TheVariants as host
use Rattle.live_host.proofs.QuestionSteps.{were_more}

-- ---- one frame

-- a prefix of a frame's line is one of the frame
pub part_of_line : (line bytes : List ℕ) (old new : SinkState) → AddsPrefix (line ++ 10 ∷ []) old new → AddsPrefix (line ++ 10 ∷ bytes) old new
part_of_line line bytes old new h = record {
  front = h.front;
  left = h.left ++ bytes;
  split = sym (append_assoc line (10 ∷ []) bytes) ∙ ap (λ l. l ++ bytes) h.split ∙ append_assoc h.front h.left bytes;
  added = h.added;
}

-- and so is the line with a prefix of the bytes after it
pub part_behind : (line bytes : List ℕ) (old between new : SinkState) → Adds (line ++ 10 ∷ []) old between → AddsPrefix bytes between new → AddsPrefix (line ++ 10 ∷ bytes) old new
part_behind line bytes old between new whole h = record {
  front = (line ++ 10 ∷ []) ++ h.front;
  left = h.left;
  split = sym (append_assoc line (10 ∷ []) bytes) ∙ ap (λ l. (line ++ 10 ∷ []) ++ l) h.split ∙ sym (append_assoc (line ++ 10 ∷ []) h.front h.left);
  added = adds_more (line ++ 10 ∷ []) h.front old between new whole h.added;
}

-- what holds of a call holds if it returned an error
pub on_err : {X E : Type 0} (r : Result X E) (P : Type 0) → P → OnErr r P
on_err (Ok x) P h = tt
on_err (Err e) P h = h

-- an error that `?` passes on, with its cause
pub passed : {X : Type 0} (Cause : HostError → Wire → Wire → Type 0) (r : Result X HostError) (h : HostError) (old new : Wire) → Cause h old new → (IsErr r × IsErrAnd r (λ y. y ≡ h)) → IfErr r (λ e. Cause e old new)
passed Cause (Ok x) h old new cause is = tt
passed Cause (Err e) h old new cause is = subst (λ y. Cause y old new) (sym is.1) cause

-- the same of a frame that is known by another name
pub same_frame : (frame same : Sent) (e : HostError) (old new : Wire) → frame ≡ same → TellCause frame e old new → TellCause same e old new
same_frame frame same e old new is cause = subst (λ f. TellCause f e old new) is cause

-- ---- frames, one after another

pub tell_first : (x : Sent) (ys : List Sent) (e : HostError) (a b : Wire) → TellCause x e a b → GiveCause (x ∷ ys) e a b
tell_first x ys host.Broken a b cause = absurd cause
tell_first x ys host.Unwritten a b cause = record { sent = []; next = x; rest = ys; are = refl; failed_at = a; told = refl; failed = cause }
tell_first x ys host.WantOfMemory a b cause = tt

pub tell_later : (x : Sent) (ys : List Sent) (e : HostError) (a b c : Wire) → SendsFrame x.0 x.1 a b → GiveCause ys e b c → GiveCause (x ∷ ys) e a c
tell_later x ys host.Broken a b c told cause = absurd cause
tell_later x ys host.Unwritten a b c told cause = record {
  sent = x ∷ cause.sent;
  next = cause.next;
  rest = cause.rest;
  are = ap (λ l. x ∷ l) cause.are;
  failed_at = cause.failed_at;
  told = (b, told, cause.told);
  failed = cause.failed;
}
tell_later x ys host.WantOfMemory a b c told cause = tt

pub give_first : (xs ys : List Sent) (e : HostError) (a b : Wire) → GiveCause xs e a b → GiveCause (xs ++ ys) e a b
give_first xs ys host.Broken a b cause = absurd cause
give_first xs ys host.Unwritten a b cause = record {
  sent = cause.sent;
  next = cause.next;
  rest = cause.rest ++ ys;
  are = ap (λ l. l ++ ys) cause.are ∙ append_assoc cause.sent (cause.next ∷ cause.rest) ys;
  failed_at = cause.failed_at;
  told = cause.told;
  failed = cause.failed;
}
give_first xs ys host.WantOfMemory a b cause = tt

pub give_later : (xs ys : List Sent) (e : HostError) (a b c : Wire) → WereTold xs a b → GiveCause ys e b c → GiveCause (xs ++ ys) e a c
give_later [] ys e a b c told cause = subst (λ w. GiveCause ys e w c) (sym told) cause
give_later (x ∷ xs) ys e a b c told cause = tell_later x (xs ++ ys) e a told.0 c told.1 (give_later xs ys e told.0 b c told.2 cause)

-- a layer, and those after it
pub layer_first : (named more : List OciDescriptor) (rest others : List ImageLayer) (x : OciDescriptor) (layer : ImageLayer) (e : HostError) (old new : Wire)
    → named ≡ x ∷ more → rest ≡ layer ∷ others → TellCause (item (codes "blob") (codes "layer") layer.media_type x.digest layer.content) e old new → GiveCause (layers_sent named rest) e old new
layer_first named more rest others x layer e old new named_is rest_is cause =
    rw (named_is, rest_is) (tell_first (item (codes "blob") (codes "layer") layer.media_type x.digest layer.content) (layers_sent more others) e old new cause)

pub layer_later : (named more : List OciDescriptor) (rest others : List ImageLayer) (x : OciDescriptor) (layer : ImageLayer) (e : HostError) (old between new : Wire)
    → named ≡ x ∷ more → rest ≡ layer ∷ others → SendsFrame (item (codes "blob") (codes "layer") layer.media_type x.digest layer.content).0 layer.content old between
    → GiveCause (layers_sent more others) e between new → GiveCause (layers_sent named rest) e old new
layer_later named more rest others x layer e old between new named_is rest_is told cause =
    rw (named_is, rest_is) (tell_later (item (codes "blob") (codes "layer") layer.media_type x.digest layer.content) (layers_sent more others) e old between new told cause)

-- the parts of an image
module _ (blobs : Bool) (v : VerifiedImage) (e : HostError) where
  abbrev after_index : List Sent
  after_index = manifest_sent v.manifest_digest v.manifest_bytes ∷ config_sent v ∷ (blobs_sent blobs v ++ pulled_sent v ∷ [])

  pub no_index : (a b : Wire) → GiveCause (index_sent v.list_digest v.first) e a b → GiveCause (image_sent blobs v) e a b
  no_index a b cause = give_first (index_sent v.list_digest v.first) after_index e a b cause

  pub no_manifest : (a b c : Wire) → WereTold (index_sent v.list_digest v.first) a b → TellCause (manifest_sent v.manifest_digest v.manifest_bytes) e b c → GiveCause (image_sent blobs v) e a c
  no_manifest a b c index cause = give_later (index_sent v.list_digest v.first) after_index e a b c index (tell_first _ _ e b c cause)

  pub no_config : (a b c d : Wire) → WereTold (index_sent v.list_digest v.first) a b → SendsFrame (manifest_sent v.manifest_digest v.manifest_bytes).0 (manifest_sent v.manifest_digest v.manifest_bytes).1 b c
      → TellCause (config_sent v) e c d → GiveCause (image_sent blobs v) e a d
  no_config a b c d index manifest cause =
      give_later (index_sent v.list_digest v.first) after_index e a b d index (tell_later (manifest_sent v.manifest_digest v.manifest_bytes) _ e b c d manifest (tell_first _ _ e c d cause))

  pub no_blobs : (a b c d f : Wire) → WereTold (index_sent v.list_digest v.first) a b → SendsFrame (manifest_sent v.manifest_digest v.manifest_bytes).0 (manifest_sent v.manifest_digest v.manifest_bytes).1 b c
      → SendsFrame (config_sent v).0 (config_sent v).1 c d → GiveCause (blobs_sent blobs v) e d f → GiveCause (image_sent blobs v) e a f
  no_blobs a b c d f index manifest config cause =
      give_later (index_sent v.list_digest v.first) after_index e a b f index (tell_later (manifest_sent v.manifest_digest v.manifest_bytes) _ e b c f manifest
      (tell_later (config_sent v) _ e c d f config (give_first (blobs_sent blobs v) (pulled_sent v ∷ []) e d f cause)))

  pub no_end : (a b c d f g : Wire) → WereTold (index_sent v.list_digest v.first) a b → SendsFrame (manifest_sent v.manifest_digest v.manifest_bytes).0 (manifest_sent v.manifest_digest v.manifest_bytes).1 b c
      → SendsFrame (config_sent v).0 (config_sent v).1 c d → WereTold (blobs_sent blobs v) d f → TellCause (pulled_sent v) e f g → GiveCause (image_sent blobs v) e a g
  no_end a b c d f g index manifest config layers cause =
      give_later (index_sent v.list_digest v.first) after_index e a b g index (tell_later (manifest_sent v.manifest_digest v.manifest_bytes) _ e b c g manifest
      (tell_later (config_sent v) _ e c d g config (give_later (blobs_sent blobs v) (pulled_sent v ∷ []) e d f g layers (tell_first _ _ e f g cause))))

-- those of documents alone
module _ (v : VerifiedDocuments) (e : HostError) where
  abbrev after_first : List Sent
  after_first = manifest_sent v.manifest_digest v.manifest_bytes ∷ signature_sent v.signature ∷ []

  pub no_list : (a b : Wire) → GiveCause (index_sent v.list_digest v.first) e a b → GiveCause (documents_sent v) e a b
  no_list a b cause = give_first (index_sent v.list_digest v.first) after_first e a b cause

  pub no_document : (a b c : Wire) → WereTold (index_sent v.list_digest v.first) a b → TellCause (manifest_sent v.manifest_digest v.manifest_bytes) e b c → GiveCause (documents_sent v) e a c
  no_document a b c index cause = give_later (index_sent v.list_digest v.first) after_first e a b c index (tell_first _ _ e b c cause)

  pub no_signature : (a b c d : Wire) → WereTold (index_sent v.list_digest v.first) a b → SendsFrame (manifest_sent v.manifest_digest v.manifest_bytes).0 (manifest_sent v.manifest_digest v.manifest_bytes).1 b c
      → TellCause (signature_sent v.signature) e c d → GiveCause (documents_sent v) e a d
  no_signature a b c d index manifest cause =
      give_later (index_sent v.list_digest v.first) after_first e a b d index (tell_later (manifest_sent v.manifest_digest v.manifest_bytes) _ e b c d manifest (tell_first _ _ e c d cause))

-- ---- questions

-- a question that was not sent
pub untold : (q : Question) (frame : Sent) (e : HostError) (old new : Wire) → frame ≡ question_sent q → TellCause frame e old new → AskCause q e old new
untold q frame host.Broken old new is cause = absurd cause
untold q frame host.Unwritten old new is cause = subst (λ f. SendsPrefix f old new) is cause
untold q frame host.WantOfMemory old new is cause = tt

-- one after which no frame was received
pub unheard : (q : Question) (e : HostError) (old asked new : Wire) → SendsFrame (question_sent q).0 (question_sent q).1 old asked → HearCause e asked new → AskCause q e old new
unheard q host.Broken old asked new told cause = record { asked_at = asked; told = told; unheard = inl cause }
unheard q host.Unwritten old asked new told cause = absurd cause
unheard q host.WantOfMemory old asked new told cause = tt

-- one after which a frame was received that does not answer it
pub unverified : (key message signature : List ℕ) (e : ReadError) (d : Data) (old asked new : Wire) → SendsFrame (question_sent (about_key key message signature)).0 (question_sent (about_key key message signature)).1 old asked → ReceivesFrame d asked new → Refuses e (verified_of d) → AskCause (about_key key message signature) (host_error e) old new
unverified key message signature read.Float d old asked new told heard is = absurd is
unverified key message signature read.Shape d old asked new told heard is = record { asked_at = asked; told = told; unheard = inr (d, heard, is) }
unverified key message signature read.Ambiguous d old asked new told heard is = absurd is
unverified key message signature read.WantOfMemory d old asked new told heard is = tt

pub unvouched : (evidence : Evidence) (e : ReadError) (d : Data) (old asked new : Wire) → SendsFrame (question_sent (about_certificate evidence)).0 (question_sent (about_certificate evidence)).1 old asked → ReceivesFrame d asked new → Refuses e (answer_of d) → AskCause (about_certificate evidence) (host_error e) old new
unvouched evidence read.Float d old asked new told heard is = absurd is
unvouched evidence read.Shape d old asked new told heard is = record { asked_at = asked; told = told; unheard = inr (d, heard, is) }
unvouched evidence read.Ambiguous d old asked new told heard is = absurd is
unvouched evidence read.WantOfMemory d old asked new told heard is = tt

-- the first question has no answer
pub ask_first : (q : Question) (e : HostError) (old new : Wire) → AskCause q e old new → AsksCause e old new
ask_first q host.Broken old new cause = record { answers = []; answered_at = old; asked = refl; question = q; cause = cause }
ask_first q host.Unwritten old new cause = record { answers = []; answered_at = old; asked = refl; question = q; cause = cause }
ask_first q host.WantOfMemory old new cause = tt

-- a later one has none
pub ask_later : (xs ys : List HostAnswer) (e : HostError) (old mid new : Wire) → AsksMore xs ys old mid → AsksCause e mid new → AsksCause e old new
ask_later xs ys host.Broken old mid new more cause = record {
  answers = more.more ++ cause.answers;
  answered_at = cause.answered_at;
  asked = were_more more.more cause.answers old mid cause.answered_at more.asked cause.asked;
  question = cause.question;
  cause = cause.cause;
}
ask_later xs ys host.Unwritten old mid new more cause = record {
  answers = more.more ++ cause.answers;
  answered_at = cause.answered_at;
  asked = were_more more.more cause.answers old mid cause.answered_at more.asked cause.asked;
  question = cause.question;
  cause = cause.cause;
}
ask_later xs ys host.WantOfMemory old mid new more cause = tt
