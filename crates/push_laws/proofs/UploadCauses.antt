-- Why an upload was refused, step by step.
use Rattle.std.proofs.Common.{◌≡◌, inl, ℕ, zero, suc, Bool, true, false, List, [], ◌∷◌, ◌++◌, ◌-◌, Option, Some, None, Result, Ok, Err, codes, length, refl, sym, ap, subst, append-nil}
use Rattle.std.specs.Prelude.{◌+◌, nat_lt, nat_eq, if◌then◌else◌}
use Rattle.url.specs.Setters.{append_query_pairs}
use Rattle.oci_digests.specs.Names.{digest_text}
use Rattle.oci_names.specs.declared.algorithm.Algorithm.TheVariants.{Sha256}
use Rattle.oci_names.specs.declared.reference.Reference.{Reference}
use Rattle.oci_transport.specs.declared.message.Exchange.{Exchange}
use Rattle.oci_transport.specs.declared.message.Method.TheVariants.{Post, Patch, Put}
use Rattle.oci_protocol.specs.Proto.{Done, bind, ◌>>=◌}
use Rattle.oci_protocol.specs.EveryRun.{EveryRun, ByResult}
use Rattle.oci_protocol.specs.Runs.{Runs}
use Rattle.oci_protocol.proofs.Parts.{Runs-parts}
use Rattle.oci_protocol.proofs.RunFacts.{done_run, EveryRun-done, EveryRun-more, EveryRun-consult}
use Rattle.oci_auth.specs.declared.auth_state.AuthState.{AuthState}
use Rattle.engine_terms.specs.Contexts.{Context}
use Rattle.engine_terms.specs.declared.error.GenericCause.TheVariants.{NoSize, SizeDiffers}
use Rattle.engine_terms.specs.declared.error.OciDistributionError.{OciDistributionError}
use Rattle.engine_terms.specs.declared.error.OciDistributionError.TheVariants as refusal
use Rattle.engine_requests.specs.Addresses.{uploads_text}
use Rattle.engine_rows.specs.Rows.{Row}
use Rattle.push_rows.specs.Calls.{push_chunked, not_empty, push_whole, is_violation, or_whole, push_blob, size_given, of_size, stream_whole, stream_sent, stream_chunked, push_blob_stream, response_of, push_blob_stream_chunked, mount_url, mount_blob}
use Rattle.push_rows.specs.Uploads.{Sent, upload_begun, chunk_sent, upload_ended, chunks, chunks_sent, piece_of, next_piece, no_longer, unless_last, pieces_sent, pieces_read, all_read, sent}
use Rattle.push_rows.specs.declared.content.Content.{Content}
use Rattle.push_rows.specs.declared.content.Content.TheVariants.{Nothing, Whole, Chunk}
use Rattle.engine_terms.specs.declared.settings.Settings.{Settings}
use Rattle.push_rows.specs.Causes.{of_upload, of_mount, Named, PushText, OfBytes, OfStream, OfNamedStream, OfNothing}
use Rattle.push_laws.proofs.RequestCauses.{Loose, Texts, call_texts, texts_after, cause_after, Shown, shown_next, shown_step, shown_done, url_shown, sent_shown}

-- what holds for a larger set of texts holds for a smaller one
pub shown_more : {A : Type 0} (T : List Exchange → List ℕ → Type 0) (Own : OciDistributionError → Type 0) (s : Settings) (P Q : List Exchange → A → Type 0) (p : Row A) → ((c : List Exchange) (a : A) → P c a → Q c a) → Shown of_upload T Own s P p → Shown of_upload T Own s Q p
shown_more {A} T Own s P Q p more h = EveryRun-more (ByResult (λ m c n a. P c a) (λ m c n e. Loose of_upload T Own s c n e)) (ByResult (λ m c n a. Q c a) (λ m c n e. Loose of_upload T Own s c n e)) p h by_answer where
  by_answer : (m n : ℕ) (c : List Exchange) (r : Result A OciDistributionError) → ByResult (λ m c n a. P c a) (λ m c n e. Loose of_upload T Own s c n e) m c n r → ByResult (λ m c n a. Q c a) (λ m c n e. Loose of_upload T Own s c n e) m c n r
  by_answer m n c (Ok a) g = more c a g
  by_answer m n c (Err e) g = g

module _ (s : Context) (image : Reference) (Own : OciDistributionError → Type 0) where
  abbrev pub AreTexts : (List Exchange → List ℕ → Type 0) → Type 0
  AreTexts T = Texts s.settings image T

  -- P holds for the exchanges and the value of an `Ok`
  abbrev pub Tells : (List Exchange → List ℕ → Type 0) → {A : Type 0} → (List Exchange → A → Type 0) → Row A → Type 0
  Tells T P p = Shown of_upload T Own s.settings P p

  -- what is sent leads to a location that may be parsed
  abbrev pub Leads : (List Exchange → List ℕ → Type 0) → Row (List ℕ) → Type 0
  Leads T p = Tells T (λ c location. T c location) p

  abbrev pub Anything : {A : Type 0} → List Exchange → A → Type 0
  Anything c a = Unit {0}

  named_leads : (T : List Exchange → List ℕ → Type 0) → AreTexts T → (p : Row (List ℕ)) → Tells T (Named s.settings image) p → Leads T p
  named_leads T texts p h = shown_more T Own s.settings (Named s.settings image) (λ c location. T c location) p (λ c location g. texts.named c location g) h

  pub any_tells : {A : Type 0} (T : List Exchange → List ℕ → Type 0) (P : List Exchange → A → Type 0) (p : Row A) → Tells T P p → Tells T Anything p
  any_tells T P p h = shown_more T Own s.settings P Anything p (λ c a g. tt) h

  pub here_after : (T : List Exchange → List ℕ → Type 0) (c : List Exchange) (text : List ℕ) → T c text → T (c ++ []) text
  here_after T c text h = subst (λ x. T x text) (sym (append-nil c)) h

  begun_leads : (T : List Exchange → List ℕ → Type 0) → AreTexts T → Leads T (upload_begun s image)
  unfolding upload_begun
  begun_leads T texts = url_shown of_upload T Own s.settings (λ c location. T c location) (uploads_text s.settings image) _ (texts.uploads []) (λ url. named_leads T texts _ (sent_shown of_upload s image Own T texts.registry Post url Nothing 202 refl))

  chunk_leads : (T : List Exchange → List ℕ → Type 0) → AreTexts T → (location : List ℕ) (start : ℕ) (bytes : List ℕ) → T [] location → Leads T (chunk_sent s image location start bytes)
  unfolding chunk_sent
  chunk_leads T texts location start bytes here = url_shown of_upload T Own s.settings (λ c location. T c location) location _ here (λ url. named_leads T texts _ (sent_shown of_upload s image Own T texts.registry Patch url (Chunk start bytes) 202 refl))

  ended_leads : (T : List Exchange → List ℕ → Type 0) → AreTexts T → (digest location : List ℕ) (content : Content) → T [] location → Leads T (upload_ended s image digest location content)
  unfolding upload_ended
  ended_leads T texts digest location content here = url_shown of_upload T Own s.settings (λ c location. T c location) location _ here (λ url. named_leads T texts _ (sent_shown of_upload s image Own T texts.registry Put (append_query_pairs url ((codes "digest", digest) ∷ [])) content 201 refl))

  chunks_lead : (T : List Exchange → List ℕ → Type 0) → AreTexts T → (location : List ℕ) (start : ℕ) (parts : List (List ℕ)) → T [] location → Leads T (chunks_sent s image location start parts)
  unfolding chunks_sent
  chunks_lead T texts location start [] here = shown_done of_upload T Own s.settings (λ c location. T c location) location here
  chunks_lead T texts location start (chunk ∷ rest) here = shown_next of_upload T Own s.settings (λ c location. T c location) (λ c location. T c location) (chunk_sent s image location start chunk) _ (chunk_leads T texts location start chunk here)
      (λ c next h. chunks_lead (λ d. T (c ++ d)) (texts_after c texts) next (start + length chunk) rest (here_after T c next h))

  -- the last step of a call
  ended_tells : {A : Type 0} (T : List Exchange → List ℕ → Type 0) → AreTexts T → (digest location : List ℕ) (content : Content) (f : List ℕ → A) → T [] location → Tells T Anything (upload_ended s image digest location content >>= λ url. Done (Ok (f url)))
  ended_tells T texts digest location content f here = shown_next of_upload T Own s.settings (λ c location. T c location) Anything (upload_ended s image digest location content) _ (ended_leads T texts digest location content here) (λ c url h. shown_done of_upload (λ d. T (c ++ d)) Own s.settings (λ d a. Unit {0}) (f url) tt)

-- ---- bytes in memory

module _ (s : Context) (image : Reference) (content digest : List ℕ) (Of : OciDistributionError → Type 0) (empty : content ≡ [] → Of refusal.PushNoDataError) where
  chunked_leads : (T : List Exchange → List ℕ → Type 0) → Texts s.settings image T → Leads s image Of T (push_chunked s image content digest)
  unfolding push_chunked
  chunked_leads T texts = shown_next of_upload T Of s.settings (λ c location. T c location) (λ c location. T c location) (upload_begun s image) _ (begun_leads s image Of T texts) (λ c location h.
      let U : List Exchange → List ℕ → Type 0 = λ d. T (c ++ d) in
      let later = texts_after c texts in
      shown_next of_upload U Of s.settings (λ d location. U d location) (λ d location. U d location) (chunks_sent s image location 0 (chunks content)) _ (chunks_lead s image Of U later location 0 (chunks content) (here_after s image Of T c location h)) (λ d location g.
      ended_leads s image Of (λ e. U (d ++ e)) (texts_after d later) digest location Nothing (here_after s image Of U d location g)))

  whole_leads : (T : List Exchange → List ℕ → Type 0) → Texts s.settings image T → Leads s image Of T (push_whole s image content digest)
  unfolding push_whole
  whole_leads T texts = shown_next of_upload T Of s.settings (λ c location. T c location) (λ c location. T c location) (upload_begun s image) _ (begun_leads s image Of T texts) (λ c location h.
      let U : List Exchange → List ℕ → Type 0 = λ d. T (c ++ d) in
      shown_step of_upload U Of s.settings (λ d location. U d location) (not_empty content) _ (λ u is. ended_leads s image Of U (texts_after c texts) digest location (Whole content) (here_after s image Of T c location h)) (λ e is n. no_bytes U n content refl e is)) where
        no_bytes : (U : List Exchange → List ℕ → Type 0) (n : ℕ) (bytes : List ℕ) → bytes ≡ content → (e : OciDistributionError) → not_empty bytes ≡ Err e → Loose of_upload U Of s.settings [] n e
        no_bytes U n [] same e is = let at : refusal.PushNoDataError ≡ e = cc is in subst (Loose of_upload U Of s.settings [] n) at (inl (empty (sym same)))
        no_bytes U n (b ∷ bytes) same e is = absurd (cc is)

  abbrev Answers : (List Exchange → List ℕ → Type 0) → ℕ → List Exchange → ℕ → Result (List ℕ) OciDistributionError → Type 0
  Answers T = ByResult (λ m c n location. T c location) (λ m c n e. Loose of_upload T Of s.settings c n e)

  -- in either way
  pub blob_leads : (T : List Exchange → List ℕ → Type 0) → Texts s.settings image T → Leads s image Of T (push_blob s image content digest)
  unfolding push_blob
  blob_leads T texts = by_setting s.settings.use_monolithic_push where
    behind : (m start : ℕ) (c d : List Exchange) (o : ℕ) (r : Result (List ℕ) OciDistributionError) → ByResult (λ m d n location. T (c ++ d) location) (λ m d n e. Loose of_upload (λ d. T (c ++ d)) Of s.settings d n e) start d o r → Answers T m (c ++ d) o r
    behind m start c d o (Ok location) g = g
    behind m start c d o (Err e) g = cause_after of_upload T Of s.settings c d o e g

    again : (m n : ℕ) (c : List Exchange) → EveryRun (λ start d o r. Answers T m (c ++ d) o r) (push_whole s image content digest)
    again m n c = EveryRun-more (ByResult (λ m d n location. T (c ++ d) location) (λ m d n e. Loose of_upload (λ d. T (c ++ d)) Of s.settings d n e)) (λ start d o r. Answers T m (c ++ d) o r) (push_whole s image content digest) (whole_leads (λ d. T (c ++ d)) (texts_after c texts)) (λ start o d r g. behind m start c d o r g)

    -- what the second part computes from the result of the first
    by_result : (m n : ℕ) (c : List Exchange) (r : Result (List ℕ) OciDistributionError) → Answers T m c n r → (k l : AuthState) (d : List Exchange) (o : ℕ) (b : Result (List ℕ) OciDistributionError) → Runs (or_whole (push_whole s image content digest) r) k n d o l b → Answers T m (c ++ d) o b
    by_result m n c (Ok location) h k l d o b run = done_run (λ start d o b. Answers T m (c ++ d) o b) _ k l n o d b (rw append-nil h) run
    by_result m n c (Err e) h k l d o b run = by_test (is_violation e) run where
      by_test : (violates : Bool) → Runs (if violates then push_whole s image content digest else Done (Err e)) k n d o l b → Answers T m (c ++ d) o b
      by_test true run = (again m n c).shows k l n o d b run
      by_test false run = done_run (λ start d o b. Answers T m (c ++ d) o b) _ k l n o d b (rw append-nil h) run

    or_shown : Leads s image Of T (bind (push_chunked s image content digest) (or_whole (push_whole s image content digest)))
    or_shown = record {
      shows = λ k l m n c b run.
          let t = Runs-parts (push_chunked s image content digest) (or_whole (push_whole s image content digest)) k m c n l b run in
          subst (λ c. Answers T m c n b) (sym t.joined) (by_result m t.count t.first t.answer ((chunked_leads T texts).shows k t.between m t.count t.first t.answer t.runs_first) t.between l t.second n b t.runs_second);
    }

    by_setting : (b : Bool) → Leads s image Of T (if b then push_whole s image content digest else bind (push_chunked s image content digest) (or_whole (push_whole s image content digest)))
    by_setting true = whole_leads T texts
    by_setting false = or_shown

pub blob_shown : (s : Context) (image : Reference) (content digest : List ℕ) → Shown of_upload (PushText s.settings image) (OfBytes content) s.settings (λ c location. Unit {0}) (push_blob s image content digest)
blob_shown s image content digest =
    let T : List Exchange → List ℕ → Type 0 = PushText s.settings image in
    any_tells s image (OfBytes content) T (λ c location. T c location) (push_blob s image content digest) (blob_leads s image content digest (OfBytes content) (λ is. is) T (call_texts s.settings image))

-- ---- a stream, for any external input

module _ (s : Context) (image : Reference) (Own : OciDistributionError → Type 0) (fails : Own refusal.SourceFault) (too_long : Own refusal.BodyTooLong) where
  piece_tells : (T : List Exchange → List ℕ → Type 0) → Tells s image Own T (λ c piece. Unit {0}) next_piece
  unfolding next_piece
  piece_tells T = EveryRun-consult (ByResult (λ m c n piece. Unit {0}) (λ m c n e. Loose of_upload T Own s.settings c n e)) (λ said. Done (piece_of said)) by_said where
    by_said : (said : Option (List ℕ)) → EveryRun {K = AuthState} (ByResult (λ m c n piece. Unit {0}) (λ m c n e. Loose of_upload T Own s.settings c n e)) (Done (piece_of said))
    by_said None = EveryRun-done _ (Err refusal.SourceFault) (λ m. inl fails)
    by_said (Some piece) = EveryRun-done _ (Ok piece) (λ m. tt)

  longer : (T : List Exchange → List ℕ → Type 0) (left : ℕ) (piece : List ℕ) (e : OciDistributionError) → no_longer left piece ≡ Err e → (n : ℕ) → Loose of_upload T Own s.settings [] n e
  longer T left piece e is n = by_test (nat_lt left (length piece)) is where
    by_test : (b : Bool) → (if b then Err refusal.BodyTooLong else Ok piece) ≡ Err e → Loose of_upload T Own s.settings [] n e
    by_test true is = let at : refusal.BodyTooLong ≡ e = cc is in subst (Loose of_upload T Own s.settings [] n) at (inl too_long)
    by_test false is = absurd (cc is)

  last_tells : {A : Type 0} (T : List Exchange → List ℕ → Type 0) (P : List Exchange → A → Type 0) (piece : List ℕ) (end next : Row A) → Tells s image Own T P end → Tells s image Own T P next → Tells s image Own T P (unless_last piece end next)
  last_tells T P [] end next a b = a
  last_tells T P (byte ∷ bytes) end next a b = b

  -- the location at which it continues may be parsed
  abbrev Goes : (List Exchange → List ℕ → Type 0) → List Exchange → Sent → Type 0
  Goes T c sent = T c sent.location

  pieces_tell : (T : List Exchange → List ℕ → Type 0) → Texts s.settings image T → (n left : ℕ) (location bytes : List ℕ) → T [] location → Tells s image Own T (Goes T) (pieces_sent n left s image location bytes)
  unfolding pieces_sent
  pieces_tell T texts zero left location bytes here = EveryRun-done _ (Err refusal.BodyTooLong) (λ m. inl too_long)
  pieces_tell T texts (suc n) left location bytes here = shown_next of_upload T Own s.settings (λ c piece. Unit {0}) (Goes T) next_piece _ (piece_tells T) (λ c piece u.
      let U : List Exchange → List ℕ → Type 0 = λ d. T (c ++ d) in
      let later = texts_after c texts in
      let still = texts.more [] c location here in
      shown_step of_upload U Own s.settings (Goes U) (no_longer left piece) _ (λ piece is. last_tells U (Goes U) piece _ _ (shown_done of_upload U Own s.settings (Goes U) (record { location = location; bytes = bytes }) (here_after s image Own T c location still))
      (shown_next of_upload U Own s.settings (λ d next. U d next) (Goes U) (chunks_sent s image location (length bytes) (chunks piece)) _ (chunks_lead s image Own U later location (length bytes) (chunks piece) (here_after s image Own T c location still)) (λ d next g.
      pieces_tell (λ e. U (d ++ e)) (texts_after d later) n (left - length piece) next (bytes ++ piece) (here_after s image Own U d next g))))
      (longer U left piece))

  read_tells : (T : List Exchange → List ℕ → Type 0) → (n left : ℕ) (bytes : List ℕ) → Tells s image Own T (λ c bytes. Unit {0}) (pieces_read n left bytes)
  unfolding pieces_read
  read_tells T zero left bytes = EveryRun-done _ (Err refusal.BodyTooLong) (λ m. inl too_long)
  read_tells T (suc n) left bytes = shown_next of_upload T Own s.settings (λ c piece. Unit {0}) (λ c bytes. Unit {0}) next_piece _ (piece_tells T) (λ c piece u.
      let U : List Exchange → List ℕ → Type 0 = λ d. T (c ++ d) in
      shown_step of_upload U Own s.settings (λ d bytes. Unit {0}) (no_longer left piece) _ (λ piece is. last_tells U (λ d bytes. Unit {0}) piece _ _ (shown_done of_upload U Own s.settings (λ d bytes. Unit {0}) bytes tt) (read_tells U n (left - length piece) (bytes ++ piece))) (longer U left piece))

  sent_tells : (T : List Exchange → List ℕ → Type 0) → Texts s.settings image T → Tells s image Own T (Goes T) (stream_sent s image)
  unfolding stream_sent
  sent_tells T texts = shown_next of_upload T Own s.settings (λ c location. T c location) (Goes T) (upload_begun s image) _ (begun_leads s image Own T texts) (λ c location h.
      pieces_tell (λ d. T (c ++ d)) (texts_after c texts) _ _ location [] (here_after s image Own T c location h))

module _ (s : Context) (image : Reference) (digest : List ℕ) (size : Option ℕ) where
  abbrev OfSize : OciDistributionError → Type 0
  OfSize = OfStream size

  no_size : (T : List Exchange → List ℕ → Type 0) (n : ℕ) (given : Option ℕ) → given ≡ size → (e : OciDistributionError) → size_given given ≡ Err e → Loose of_upload T OfSize s.settings [] n e
  no_size T n None same e is = let at : refusal.GenericError NoSize ≡ e = cc is in subst (Loose of_upload T OfSize s.settings [] n) at (inl (sym same))
  no_size T n (Some count) same e is = absurd (cc is)

  size_known : (given : Option ℕ) (count : ℕ) → size_given given ≡ Ok count → given ≡ Some count
  size_known None count is = absurd (cc is)
  size_known (Some n) count is = let same : n ≡ count = cc is in ap Some same

  other_size : (T : List Exchange → List ℕ → Type 0) (n count : ℕ) (bytes : List ℕ) → size ≡ Some count → (e : OciDistributionError) → of_size count bytes ≡ Err e → Loose of_upload T OfSize s.settings [] n e
  other_size T n count bytes known e is = by_test (nat_eq (length bytes) count) is where
    by_test : (b : Bool) → (if b then Ok bytes else Err (refusal.GenericError SizeDiffers)) ≡ Err e → Loose of_upload T OfSize s.settings [] n e
    by_test true is = absurd (cc is)
    by_test false is = let at : refusal.GenericError SizeDiffers ≡ e = cc is in subst (Loose of_upload T OfSize s.settings [] n) at (inl (count, known))

  whole_tells : (T : List Exchange → List ℕ → Type 0) → Texts s.settings image T → Leads s image OfSize T (stream_whole s image digest size)
  unfolding stream_whole
  whole_tells T texts = shown_step of_upload T OfSize s.settings (λ c location. T c location) (size_given size) _ (λ count known. shown_next of_upload T OfSize s.settings (λ c location. T c location) (λ c location. T c location) (upload_begun s image) _ (begun_leads s image OfSize T texts) (λ c location h.
      let U : List Exchange → List ℕ → Type 0 = λ d. T (c ++ d) in
      let later = texts_after c texts in
      shown_next of_upload U OfSize s.settings (λ d bytes. Unit {0}) (λ d location. U d location) (all_read s.settings.max_body_bytes) _ (read_tells s image OfSize tt tt U _ _ []) (λ d bytes u.
      let V : List Exchange → List ℕ → Type 0 = λ e. U (d ++ e) in
      shown_step of_upload V OfSize s.settings (λ e location. V e location) (of_size count bytes) _ (λ bytes is. ended_leads s image OfSize V (texts_after d later) digest location (Whole bytes) (here_after s image OfSize U d location (later.more [] d location (here_after s image OfSize T c location h)))) (λ e is n. other_size V n count bytes (size_known size count known) e is)))) (λ e is n. no_size T n size refl e is)

  chunked_tells : (T : List Exchange → List ℕ → Type 0) → Texts s.settings image T → Leads s image OfSize T (stream_chunked s image digest)
  unfolding stream_chunked
  chunked_tells T texts = shown_next of_upload T OfSize s.settings (λ c (sent : Sent). T c sent.location) (λ c location. T c location) (stream_sent s image) _ (sent_tells s image OfSize tt tt T texts) (λ c sent h.
      ended_leads s image OfSize (λ d. T (c ++ d)) (texts_after c texts) digest sent.location Nothing (here_after s image OfSize T c sent.location h))

  pub stream_shown : Shown of_upload (PushText s.settings image) OfSize s.settings (λ c location. Unit {0}) (push_blob_stream s image digest size)
  unfolding push_blob_stream
  stream_shown = any_tells s image OfSize (PushText s.settings image) (λ c location. PushText s.settings image c location) _ (by_setting s.settings.use_monolithic_push) where
    by_setting : (b : Bool) → Leads s image OfSize (PushText s.settings image) (if b then stream_whole s image digest size else stream_chunked s image digest)
    by_setting true = whole_tells (PushText s.settings image) (call_texts s.settings image)
    by_setting false = chunked_tells (PushText s.settings image) (call_texts s.settings image)

module _ (s : Context) (image : Reference) where
  nothing_sent : (T : List Exchange → List ℕ → Type 0) (n : ℕ) (bytes : List ℕ) (e : OciDistributionError) → not_empty bytes ≡ Err e → Loose of_upload T OfNamedStream s.settings [] n e
  nothing_sent T n [] e is = let at : refusal.PushNoDataError ≡ e = cc is in subst (Loose of_upload T OfNamedStream s.settings [] n) at (inl tt)
  nothing_sent T n (b ∷ bytes) e is = absurd (cc is)

  pub named_shown : Shown of_upload (PushText s.settings image) OfNamedStream s.settings (λ c response. Unit {0}) (push_blob_stream_chunked s image)
  unfolding push_blob_stream_chunked
  named_shown = shown_next of_upload (PushText s.settings image) OfNamedStream s.settings (λ c (sent : Sent). PushText s.settings image c sent.location) (λ c response. Unit {0}) (stream_sent s image) _ (sent_tells s image OfNamedStream tt tt (PushText s.settings image) (call_texts s.settings image)) (λ c sent h.
      let U : List Exchange → List ℕ → Type 0 = λ d. PushText s.settings image (c ++ d) in
      shown_step of_upload U OfNamedStream s.settings (λ d response. Unit {0}) (not_empty sent.bytes) _ (λ u is. ended_tells s image OfNamedStream U (texts_after c (call_texts s.settings image)) (digest_text Sha256 sent.bytes) sent.location Nothing (λ url. response_of url sent.bytes) (here_after s image OfNamedStream (PushText s.settings image) c sent.location h))
      (λ e is n. nothing_sent U n sent.bytes e is))

  pub mount_shown : (source : Reference) (digest : List ℕ) → Shown of_mount (PushText s.settings image) OfNothing s.settings (λ c u. Unit {0}) (mount_blob s image source digest)
  unfolding mount_blob
  mount_shown source digest =
      let T : List Exchange → List ℕ → Type 0 = PushText s.settings image in
      let texts = call_texts s.settings image in
      url_shown of_mount T OfNothing s.settings (λ c u. Unit {0}) (uploads_text s.settings image) _ (texts.uploads []) (λ url.
      shown_next of_mount T OfNothing s.settings (Named s.settings image) (λ c u. Unit {0}) (sent s image Post (mount_url source digest url) Nothing 201) _ (sent_shown of_mount s image OfNothing T texts.registry Post (mount_url source digest url) Nothing 201 refl) (λ c location h.
      shown_done of_mount (λ d. T (c ++ d)) OfNothing s.settings (λ d u. Unit {0}) tt tt))
