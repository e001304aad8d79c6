-- What the requests of a push contained, in each of its runs: the bytes that its digest is of.
use Rattle.std.proofs.Common.{◌≡◌, ◌+◌, ◌-◌, ℕ, zero, suc, List, [], ◌∷◌, ◌++◌, Option, Some, None, Result, Ok, Err, length, refl, sym, ap, subst, ◌∙◌, append_assoc, append-nil, codes}
use Rattle.std.specs.Prelude.{false}
use Rattle.url.specs.Parts.{Parts}
use Rattle.url.specs.Setters.{append_query_pairs}
use Rattle.oci_auth.specs.declared.auth_state.AuthState.{AuthState}
use Rattle.oci_auth.specs.declared.token_type.RegistryOperation.TheVariants.{Push}
use Rattle.oci_digests.specs.Names.{digest_text}
use Rattle.oci_names.specs.declared.algorithm.Algorithm.TheVariants.{Sha256}
use Rattle.oci_names.specs.declared.reference.Reference.{Reference}
use Rattle.oci_protocol.proofs.RunFacts.{EveryRun-consult, EveryRun-done, EveryRun-more, EveryRun-next, EveryRun-step}
use Rattle.oci_protocol.specs.EveryRun.{EveryRun, WhenOk}
use Rattle.oci_protocol.specs.Proto.{Done, ◌>>=◌}
use Rattle.oci_protocol.specs.Runs.{Meets, Runs, Told}
use Rattle.oci_transport.specs.Link.{Link}
use Rattle.oci_transport.specs.Pieces.{joined}
use Rattle.oci_transport.specs.declared.message.Exchange.{Exchange}
use Rattle.oci_transport.specs.declared.message.Method.{Method}
use Rattle.oci_transport.specs.declared.message.Method.TheVariants.{Patch, Post, Put}
use Rattle.oci_transport.specs.declared.message.Request.{Request}
use Rattle.engine_requests.specs.Addresses.{uploads_text, url_read}
use Rattle.engine_requests.specs.Requests.{request_of}
use Rattle.engine_rows.specs.Rows.{Row, authorized}
use Rattle.engine_terms.specs.Contexts.{Context}
use Rattle.engine_terms.specs.Error.{is_memory}
use Rattle.engine_terms.specs.declared.error.OciDistributionError.{OciDistributionError}
use Rattle.push_rows.proofs.Carried.{bodies_both, joined_both, joined_chunks, joined_part}
use Rattle.push_rows.proofs.Quiet.{token_bodiless}
use Rattle.push_rows.specs.Bodies.{bodies}
use Rattle.push_rows.specs.Calls.{not_empty, push_blob_stream_chunked, response_of, stream_sent}
use Rattle.push_rows.specs.Contents.{bytes_of, with_content}
use Rattle.push_rows.specs.PieceStates.{part}
use Rattle.push_rows.specs.Uploads.{Sent, chunk_sent, chunks, chunks_sent, location_after, next_piece, no_longer, piece_of, pieces_sent, sent, unless_last, upload_begun, upload_ended}
use Rattle.push_rows.specs.declared.content.Content.{Content}
use Rattle.push_rows.specs.declared.content.Content.TheVariants.{Chunk, Nothing}
use Rattle.push_rows.specs.declared.responses.PushBlobStreamChunkedResponse.{PushBlobStreamChunkedResponse}
use Rattle.engine_push.proofs.LocationTree.{as_sent, location_sends}

-- ---- a run as the exchanges of a transport that exposes them

abbrev exposing : ℕ → List Exchange → Link
exposing faults c = record { told = Some c; rest = None; pieces = None; faults = faults; exact = false; answers = None }

some_is : {A : Type 0} {x y : A} → Some x ≡ Some y → x ≡ y
some_is e = cc e

exposed : {A : Type 0} {p : Row A} (k l : AuthState) (m n : ℕ) (c : List Exchange) (a : A) → Runs p k m c n l (Ok a) → Meets is_memory p (exposing m []) (exposing n c) k l (Ok a)
exposed k l m n c a run = record {
  outcome = record {
    conversation = c;
    told = record {
      told = λ before is. ap (λ (x : List Exchange). Some (x ++ c)) (some_is is);
      table = λ t before is here. absurd (cc is);
      stays = record { exact = refl; steady = λ t is. absurd (cc is); quiet = λ t is never. absurd (cc is) };
    };
    runs = run;
    runs_by = λ t before is here. absurd (cc is);
  };
}

told_here : (P : List Exchange → Type 0) (m n : ℕ) (c : List Exchange) → Told P (exposing m []) (exposing n c) → P c
told_here P m n c h = subst P (sym (some_is (h.told.told [] refl))) h.holds

-- ---- what the requests of a row contained, if it was not refused

abbrev Puts : {A : Type 0} → (List ℕ → A → Type 0) → Row A → Type 0
Puts Q p = EveryRun (WhenOk (λ m c n a. Q (joined (bodies c)) a)) p

joined_bodies : (c d : List Exchange) → joined (bodies (c ++ d)) ≡ joined (bodies c) ++ joined (bodies d)
joined_bodies c d = ap joined (bodies_both c d) ∙ joined_both (bodies c) (bodies d)

puts_next : {A B : Type 0} (P : List ℕ → A → Type 0) (Q : List ℕ → B → Type 0) (p : Row A) (f : A → Row B) → Puts P p → ((x : List ℕ) (a : A) → P x a → Puts (λ y b. Q (x ++ y) b) (f a)) → Puts Q (p >>= f)
puts_next {A} {B} P Q p f first each = EveryRun-next (λ m c n a. P (joined (bodies c)) a) (λ m c n b. Q (joined (bodies c)) b) p f first (λ m n c a h.
    EveryRun-more (WhenOk (λ s d o b. Q (joined (bodies c) ++ joined (bodies d)) b)) (λ s d o b. WhenOk (λ m c n b. Q (joined (bodies c)) b) m (c ++ d) o b) (f a) (each (joined (bodies c)) a h) (λ s o d r g. by_result m s o c d r g)) where
      by_result : (m s o : ℕ) (c d : List Exchange) (r : Result B OciDistributionError) → WhenOk (λ s d o b. Q (joined (bodies c) ++ joined (bodies d)) b) s d o r → WhenOk (λ m c n b. Q (joined (bodies c)) b) m (c ++ d) o r
      by_result m s o c d (Ok b) g = subst (λ bytes. Q bytes b) (sym (joined_bodies c d)) g
      by_result m s o c d (Err e) g = tt

puts_more : {A : Type 0} (P Q : List ℕ → A → Type 0) (p : Row A) → Puts P p → ((x : List ℕ) (a : A) → P x a → Q x a) → Puts Q p
puts_more {A} P Q p h more = EveryRun-more (WhenOk (λ m c n a. P (joined (bodies c)) a)) (WhenOk (λ m c n a. Q (joined (bodies c)) a)) p h (λ m n c r g. by_result m n c r g) where
  by_result : (m n : ℕ) (c : List Exchange) (r : Result A OciDistributionError) → WhenOk (λ m c n a. P (joined (bodies c)) a) m c n r → WhenOk (λ m c n a. Q (joined (bodies c)) a) m c n r
  by_result m n c (Ok a) g = more (joined (bodies c)) a g
  by_result m n c (Err e) g = tt

-- a step without a request
puts_step : {A B : Type 0} (Q : List ℕ → B → Type 0) (r : Result A OciDistributionError) (f : A → Row B) → ((a : A) → r ≡ Ok a → Puts Q (f a)) → Puts Q (Done r >>= f)
puts_step Q r f each = EveryRun-step (WhenOk (λ m c n b. Q (joined (bodies c)) b)) r f each (λ e is m. tt)

puts_done : {A : Type 0} (Q : List ℕ → A → Type 0) (a : A) → Q [] a → Puts Q (Done (Ok a))
puts_done Q a h = EveryRun-done (WhenOk (λ m c n a. Q (joined (bodies c)) a)) (Ok a) (λ m. h)

-- ---- one request

abbrev Is : {A : Type 0} → List ℕ → List ℕ → A → Type 0
Is bytes x a = x ≡ bytes

token_puts : (s : Context) (image : Reference) (url : Parts) → Puts (Is []) (authorized s image Push url)
token_puts s image url = record { shows = λ k l m n c r run. by_result k l m n c r run } where
  by_result : (k l : AuthState) (m n : ℕ) (c : List Exchange) (r : Result _ OciDistributionError) → Runs (authorized s image Push url) k m c n l r → WhenOk (λ m c n a. Is [] (joined (bodies c)) a) m c n r
  by_result k l m n c (Ok token) run = ap joined (told_here (λ c. bodies c ≡ []) m n c (token_bodiless s image Push url (exposed k l m n c token run)))
  by_result k l m n c (Err e) run = tt

location_puts : (s : Context) (image : Reference) (expected : ℕ) (content : Content) (bare request : Request) → with_content content bare ≡ Ok request → Puts (Is (bytes_of content)) (location_after s.settings image expected request)
location_puts s image expected content bare request is = record { shows = λ k l m n c r run. by_result k l m n c r run } where
  by_result : (k l : AuthState) (m n : ℕ) (c : List Exchange) (r : Result (List ℕ) OciDistributionError) → Runs (location_after s.settings image expected request) k m c n l r → WhenOk (λ m c n a. Is (bytes_of content) (joined (bodies c)) a) m c n r
  by_result k l m n c (Ok location) run =
      let r : Result (List ℕ) OciDistributionError = Ok location in
      let told = as_sent content bare request (exposing m []) (exposing n c) r is (location_sends s.settings image expected request r (exposed k l m n c location run)) in
      ap joined (told_here (λ c. bodies c ≡ part (bytes_of content)) m n c told) ∙ joined_part (bytes_of content)
  by_result k l m n c (Err e) run = tt

after_none : {A : Type 0} (bytes x : List ℕ) (p : Row A) → x ≡ [] → Puts (Is bytes) p → Puts (λ y a. Is bytes (x ++ y) a) p
after_none bytes x p none h = puts_more (Is bytes) (λ y a. Is bytes (x ++ y) a) p h (λ y a is. ap (λ z. z ++ y) none ∙ is)

sent_puts : (s : Context) (image : Reference) (method : Method) (url : Parts) (content : Content) (expected : ℕ) → Puts (Is (bytes_of content)) (sent s image method url content expected)
unfolding sent
sent_puts s image method url content expected = puts_next (Is []) (Is (bytes_of content)) (authorized s image Push url) _ (token_puts s image url) (λ x token none.
    puts_step (λ y a. Is (bytes_of content) (x ++ y) a) (request_of s.settings method url None token) _ (λ bare made.
    puts_step (λ y a. Is (bytes_of content) (x ++ y) a) (with_content content bare) _ (λ request is.
    after_none (bytes_of content) x _ none (location_puts s image expected content bare request is))))

begun_puts : (s : Context) (image : Reference) → Puts (Is []) (upload_begun s image)
unfolding upload_begun
begun_puts s image = puts_step (Is []) (url_read (uploads_text s.settings image)) _ (λ url is. sent_puts s image Post url Nothing 202)

chunk_puts : (s : Context) (image : Reference) (location : List ℕ) (start : ℕ) (bytes : List ℕ) → Puts (Is bytes) (chunk_sent s image location start bytes)
unfolding chunk_sent
chunk_puts s image location start bytes = puts_step (Is bytes) (url_read location) _ (λ url is. sent_puts s image Patch url (Chunk start bytes) 202)

ended_puts : (s : Context) (image : Reference) (digest location : List ℕ) → Puts (Is []) (upload_ended s image digest location Nothing)
unfolding upload_ended
ended_puts s image digest location = puts_step (Is []) (url_read location) _ (λ url is. sent_puts s image Put (append_query_pairs url ((codes "digest", digest) ∷ [])) Nothing 201)

-- ---- chunks and pieces

chunks_puts : (s : Context) (image : Reference) (location : List ℕ) (start : ℕ) (parts : List (List ℕ)) → Puts (Is (joined parts)) (chunks_sent s image location start parts)
unfolding chunks_sent
chunks_puts s image location start [] = puts_done (Is []) location refl
chunks_puts s image location start (chunk ∷ rest) = puts_next (Is chunk) (Is (chunk ++ joined rest)) (chunk_sent s image location start chunk) _ (chunk_puts s image location start chunk) (λ x next is.
    puts_more (Is (joined rest)) (λ y a. Is (chunk ++ joined rest) (x ++ y) a) _ (chunks_puts s image next (start + length chunk) rest) (λ y a same. ap (λ z. z ++ y) is ∙ ap (λ z. chunk ++ z) same))

-- the bytes that a row began with, and those that were sent
abbrev Adds : List ℕ → List ℕ → Sent → Type 0
Adds bytes x sent = sent.bytes ≡ bytes ++ x

piece_puts : Puts (Is []) next_piece
unfolding next_piece
piece_puts = EveryRun-consult (WhenOk (λ m c n a. Is [] (joined (bodies c)) a)) (λ said. Done (piece_of said)) by_said where
  by_said : (said : Option (List ℕ)) → EveryRun {K = AuthState} (WhenOk (λ m c n a. Is [] (joined (bodies c)) a)) (Done (piece_of said))
  by_said None = EveryRun-done (WhenOk (λ m c n a. Is [] (joined (bodies c)) a)) _ (λ m. tt)
  by_said (Some piece) = EveryRun-done (WhenOk (λ m c n a. Is [] (joined (bodies c)) a)) _ (λ m. refl)

module _ (s : Context) (image : Reference) where
  -- one piece, and what follows
  one_more : (n left : ℕ) (location bytes : List ℕ) → ((left : ℕ) (location bytes : List ℕ) → Puts (Adds bytes) (pieces_sent n left s image location bytes)) → (x piece : List ℕ) → x ≡ [] → Puts (λ y sent. Adds bytes (x ++ y) sent) (unless_last piece (Done (Ok (record { location = location; bytes = bytes }))) (chunks_sent s image location (length bytes) (chunks piece) >>= λ next. pieces_sent n (left - length piece) s image next (bytes ++ piece)))
  one_more n left location bytes later x [] none = puts_done (λ y sent. Adds bytes (x ++ y) sent) (record { location = location; bytes = bytes }) (sym (ap (λ z. bytes ++ (z ++ [])) none ∙ append-nil bytes))
  one_more n left location bytes later x (b ∷ piece) none = puts_next (Is (joined (chunks (b ∷ piece)))) (λ y sent. Adds bytes (x ++ y) sent) (chunks_sent s image location (length bytes) (chunks (b ∷ piece))) _ (chunks_puts s image location (length bytes) (chunks (b ∷ piece))) (λ y next is.
      puts_more (Adds (bytes ++ (b ∷ piece))) (λ z sent. Adds bytes (x ++ (y ++ z)) sent) _ (later (left - length (b ∷ piece)) next (bytes ++ (b ∷ piece))) (λ z sent same.
      same ∙ append_assoc bytes (b ∷ piece) z ∙ sym (ap (λ w. bytes ++ (w ++ (y ++ z))) none ∙ ap (λ w. bytes ++ (w ++ z)) (is ∙ joined_chunks (b ∷ piece)))))

  pieces_puts : (n left : ℕ) (location bytes : List ℕ) → Puts (Adds bytes) (pieces_sent n left s image location bytes)
  unfolding pieces_sent
  pieces_puts zero left location bytes = EveryRun-done (WhenOk (λ m c n a. Adds bytes (joined (bodies c)) a)) _ (λ m. tt)
  pieces_puts (suc n) left location bytes = puts_next (Is []) (Adds bytes) next_piece _ piece_puts (λ x piece none.
      puts_step (λ y sent. Adds bytes (x ++ y) sent) (no_longer left piece) _ (λ kept is. one_more n left location bytes (λ left location bytes. pieces_puts n left location bytes) x kept none))

  stream_puts : Puts (Adds []) (stream_sent s image)
  unfolding stream_sent
  stream_puts = puts_next (Is []) (Adds []) (upload_begun s image) _ (begun_puts s image) (λ x location none.
      puts_more (Adds []) (λ y sent. Adds [] (x ++ y) sent) _ (pieces_puts _ _ location []) (λ y sent same. same ∙ sym (ap (λ z. z ++ y) none)))

  -- ---- the push

  abbrev Names : List ℕ → PushBlobStreamChunkedResponse → Type 0
  Names x response = digest_text Sha256 x ≡ response.blob_digest

  push_puts : Puts Names (push_blob_stream_chunked s image)
  unfolding push_blob_stream_chunked
  push_puts = puts_next (Adds []) Names (stream_sent s image) _ stream_puts (λ x sent is.
      puts_step (λ y response. Names (x ++ y) response) (not_empty sent.bytes) _ (λ u some.
      puts_next (Is []) (λ y response. Names (x ++ y) response) (upload_ended s image (digest_text Sha256 sent.bytes) sent.location Nothing) _ (ended_puts s image (digest_text Sha256 sent.bytes) sent.location) (λ y url none.
      puts_done (λ z response. Names (x ++ (y ++ z)) response) (response_of url sent.bytes) (ap (digest_text Sha256) (ap (λ w. x ++ (w ++ [])) none ∙ append-nil x ∙ sym is)))))

  pub digest_sent : (k l : AuthState) (m n : ℕ) (c : List Exchange) (response : PushBlobStreamChunkedResponse) → Runs (push_blob_stream_chunked s image) k m c n l (Ok response) → digest_text Sha256 (joined (bodies c)) ≡ response.blob_digest
  digest_sent k l m n c response run = push_puts.shows k l m n c (Ok response) run
