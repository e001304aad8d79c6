-- Why the call for a digest was refused.
use Rattle.std.proofs.Common.{◌≡◌, inl, inr, ℕ, List, [], ◌++◌, Option, Some, None, Result, Ok, Err, refl, sym, subst, append-nil}
use Rattle.url.specs.Parts.{Parts}
use Rattle.oci_transport.specs.Link.{answer_of}
use Rattle.oci_transport.specs.declared.message.Request.{Request}
use Rattle.oci_transport.specs.declared.message.Answer.{Answer}
use Rattle.oci_transport.specs.declared.message.Exchange.{Exchange}
use Rattle.oci_transport.specs.declared.message.Method.TheVariants.{Head}
use Rattle.oci_names.specs.declared.reference.Reference.{Reference}
use Rattle.oci_names.specs.Reference.{digest_of}
use Rattle.oci_digests.specs.Checks.{parts_of}
use Rattle.oci_auth.specs.declared.auth.RegistryAuth.{RegistryAuth}
use Rattle.oci_auth.specs.declared.auth_state.AuthState.{AuthState}
use Rattle.oci_auth.specs.declared.token_type.RegistryOperation.TheVariants.{Pull}
use Rattle.oci_protocol.specs.Proto.{Piped, limit_of, Reply, Headed, Answered, Failed, TooLong, SinkFailed, Done, ◌>>=◌}
use Rattle.oci_protocol.specs.Runs.{Runs}
use Rattle.oci_protocol.specs.EveryRun.{EveryRun, ByResult, Heard}
use Rattle.oci_protocol.proofs.RunFacts.{done_run, EveryRun-more, EveryRun-each, EveryRun-step, EveryRun-last, EveryRun-follow}
use Rattle.engine_answers.specs.declared.answers.Got.{Got}
use Rattle.engine_terms.specs.Contexts.{Context}
use Rattle.engine_terms.specs.declared.settings.Settings.{Settings}
use Rattle.engine_terms.specs.declared.error.OciDistributionError.{OciDistributionError}
use Rattle.engine_terms.specs.declared.error.OciDistributionError.TheVariants as refusal
use Rattle.engine_requests.specs.Addresses.{manifest_text, url_read}
use Rattle.engine_requests.specs.Requests.{manifest_types}
use Rattle.engine_answers.specs.Answers.{accepted, header_digest, agreed, fits_reference}
use Rattle.engine_rows.specs.declared.named.NamedAnswer.{NamedAnswer}
use Rattle.engine_rows.specs.declared.named.NamedAnswer.TheVariants as named
use Rattle.engine_rows.specs.Rows.{store, reading_named, named_reading, unread_named, read_named, named_reply, named_after, prepared}
use Rattle.engine_rows.specs.Pulls.{document, digest_by, fetch_manifest_digest}
use Rattle.engine_rows.specs.Causes.{Sends, ManifestUrl, LastAnswer, AnswerCause, OwnDigest}
use Rattle.request_laws.proofs.PreparedRequests.{Prepared}
use Rattle.request_laws.proofs.DigestErrors.{digest_err, agreed_cause}
use Rattle.request_laws.proofs.EarlyCauses.{prepared_causes, store_causes}
use Rattle.request_laws.proofs.DocumentCauses.{answer_cause, cause_later, header_refused, not_accepted, heard_answer, heard_failed, heard_long, Accepted, OwnCause, manifest_own, document_causes, early_shown, url_cause}

-- the last response, if its header names a digest
abbrev NamedLast : Settings → Reference → ℕ → List Exchange → ℕ → NamedAnswer → Type 0
NamedLast s image m c n (named.ByHeader digest got) = LastAnswer (ManifestUrl s image) c got.url got.answer × (header_digest got.answer.headers ≡ Ok (Some digest))
NamedLast s image m c n named.Unnamed = Unit {0}

unread_where : (s : Settings) (image : Reference) (m after : ℕ) (c : List Exchange) (address : List ℕ) (answer : Answer) (d : Result (Option (List ℕ)) OciDistributionError) → header_digest answer.headers ≡ d → LastAnswer (ManifestUrl s image) c address answer → ByResult (NamedLast s image) (OwnCause s image manifest_types) m c after (unread_named d)
unread_where s image m after c address answer (Ok digest) is last = tt
unread_where s image m after c address answer (Err e) is last = answer_cause (ManifestUrl s image) (OwnDigest image) s manifest_types after c address answer e last (header_refused (OwnDigest image) address answer e is)

read_where : (s : Settings) (image : Reference) (m after : ℕ) (c : List Exchange) (got : Got) (d : Result (Option (List ℕ)) OciDistributionError) → header_digest got.answer.headers ≡ d → LastAnswer (ManifestUrl s image) c got.url got.answer → ByResult (NamedLast s image) (OwnCause s image manifest_types) m c after (read_named got d)
read_where s image m after c got (Ok (Some digest)) is last = (last, is)
read_where s image m after c got (Ok None) is last = tt
read_where s image m after c got (Err e) is last = answer_cause (ManifestUrl s image) (OwnDigest image) s manifest_types after c got.url got.answer e last (header_refused (OwnDigest image) got.url got.answer e is)

limit_is : (limit n : ℕ) (d : Result (Option (List ℕ)) OciDistributionError) → limit_of (reading_named limit d) ≡ Some n → limit ≡ n
limit_is limit n (Ok (Some digest)) is = cc is
limit_is limit n (Ok None) is = absurd (cc is)
limit_is limit n (Err e) is = absurd (cc is)

piped_never : (limit n : ℕ) (d : Result (Option (List ℕ)) OciDistributionError) → reading_named limit d ≡ Piped n → ⊥
piped_never limit n (Ok (Some digest)) is = cc is
piped_never limit n (Ok None) is = cc is
piped_never limit n (Err e) is = cc is

named_run : (s : Settings) (image : Reference) (request : Request) → ManifestUrl s image (Sends request) → (k l : AuthState) (m after o : ℕ) (c d : List Exchange) (last : Request) (reply : Reply) (r : Result NamedAnswer OciDistributionError) → Heard 10 request (named_reading s.max_body_bytes) m c after last reply → Runs (named_reply last reply) k after d o l r → ByResult (NamedLast s image) (OwnCause s image manifest_types) m (c ++ d) o r
unfolding named_reading
named_run s image request own k l m after o c d last (Headed head) r h run =
    let b = h.replies.reply_is in
    done_run (λ start d o r. ByResult (NamedLast s image) (OwnCause s image manifest_types) m (c ++ d) o r) (unread_named (header_digest head.headers)) k l after o d r
    (subst (λ x. ByResult (NamedLast s image) (OwnCause s image manifest_types) m x after (unread_named (header_digest head.headers))) (sym (append-nil c)) (unread_where s image m after c last.url (answer_of head b.0) (header_digest head.headers) refl (heard_answer (ManifestUrl s image) h own (answer_of head b.0) b.1 h.settles))) run
named_run s image request own k l m after o c d last (Answered answer) r h run =
    let got : Got = record { url = last.url; answer = answer } in
    done_run (λ start d o r. ByResult (NamedLast s image) (OwnCause s image manifest_types) m (c ++ d) o r) (read_named got (header_digest answer.headers)) k l after o d r
    (subst (λ x. ByResult (NamedLast s image) (OwnCause s image manifest_types) m x after (read_named got (header_digest answer.headers))) (sym (append-nil c)) (read_where s image m after c got (header_digest answer.headers) refl (heard_answer (ManifestUrl s image) h own answer h.replies.reply_is.1 h.settles))) run
named_run s image request own k l m after o c d last Failed r h run = done_run (λ start d o r. ByResult (NamedLast s image) (OwnCause s image manifest_types) m (c ++ d) o r) (Err refusal.TransportFault) k l after o d r (rw append-nil (heard_failed (ManifestUrl s image) h own)) run
named_run s image request own k l m after o c d last TooLong r h run = done_run (λ start d o r. ByResult (NamedLast s image) (OwnCause s image manifest_types) m (c ++ d) o r) (Err refusal.BodyTooLong) k l after o d r (rw append-nil (heard_long (ManifestUrl s image) h s.max_body_bytes own (λ n head is. limit_is s.max_body_bytes n (header_digest head.headers) is))) run
named_run s image request own k l m after o c d last SinkFailed r h run = let b = h.replies.reply_is in absurd (piped_never s.max_body_bytes b.1 (header_digest b.0.headers) b.3)

named_causes : (s : Settings) (image : Reference) (request : Request) → ManifestUrl s image (Sends request) → EveryRun (ByResult (NamedLast s image) (OwnCause s image manifest_types)) (named_after 10 request s.max_body_bytes)
unfolding named_after
named_causes s image request own = EveryRun-follow (ByResult (NamedLast s image) (OwnCause s image manifest_types)) 10 request (named_reading s.max_body_bytes) named_reply (named_run s image request own)

-- ---- the digest

fits_refused : (image : Reference) (answer : Answer) (address digest : List ℕ) (own : Option (List ℕ)) (e : OciDistributionError) → digest_of image ≡ own → header_digest answer.headers ≡ Ok (Some digest) → fits_reference digest own ≡ Err e → AnswerCause (OwnDigest image) address answer e
fits_refused image answer address digest None e has header is = absurd (cc is)
fits_refused image answer address digest (Some own) e has header is =
    let x = digest_err (agreed digest own (parts_of digest) (parts_of own)) e is in
    subst (AnswerCause (OwnDigest image) address answer) (sym x.1) (agreed_cause (OwnDigest image) answer digest own (parts_of digest) (parts_of own) x.0 header has refl refl x.2)

abbrev Any : ℕ → List Exchange → ℕ → List ℕ → Type 0
Any m c n digest = Unit {0}

any_later : (s : Settings) (image : Reference) (m start o : ℕ) (c d : List Exchange) (r : Result (List ℕ) OciDistributionError) → ByResult Any (OwnCause s image manifest_types) start d o r → ByResult Any (OwnCause s image manifest_types) m (c ++ d) o r
any_later s image m start o c d (Ok x) h = tt
any_later s image m start o c d (Err e) h = cause_later (ManifestUrl s image) (ManifestUrl s image) (AnswerCause (OwnDigest image)) (AnswerCause (OwnDigest image)) s manifest_types o c d e (λ text h. h) (λ address answer h. h) h

document_digest : (s : Context) (image : Reference) (url : Parts) → url_read (manifest_text s.settings image) ≡ Ok url → EveryRun (ByResult Any (OwnCause s.settings image manifest_types)) (document s image url manifest_types >>= λ found. Done (Ok found.1))
document_digest s image url here = EveryRun-each (λ m c n found. Accepted s.settings image c found.0) Any (OwnCause s.settings image manifest_types) (document s image url manifest_types) (λ found. Done (Ok found.1)) (document_causes s image url manifest_types here)
    (λ m n c found h. EveryRun-last (λ start d o x. Unit {0}) (λ start d o e. OwnCause s.settings image manifest_types m (c ++ d) o e) (Ok found.1) (λ x is o. tt) (λ e is o. absurd (cc is)))

by_causes : (s : Context) (image : Reference) (url : Parts) (m n : ℕ) (c : List Exchange) (x : NamedAnswer) → url_read (manifest_text s.settings image) ≡ Ok url → NamedLast s.settings image m c n x → EveryRun (λ start d o r. ByResult Any (OwnCause s.settings image manifest_types) m (c ++ d) o r) (digest_by s image url x)
by_causes s image url m n c (named.ByHeader digest got) here h = EveryRun-step (λ start d o r. ByResult Any (OwnCause s.settings image manifest_types) m (c ++ d) o r) (accepted 200 got.url got.answer) (λ answer. Done (fits_reference digest (digest_of image)))
    (λ answer is. EveryRun-last (λ start d o x. Unit {0}) (λ start d o e. OwnCause s.settings image manifest_types m (c ++ d) o e) (fits_reference digest (digest_of image)) (λ x is o. tt) (λ e is o. at_last o e (fits_refused image got.answer got.url digest (digest_of image) e refl h.1 is)))
    (λ e is o. at_last o e (not_accepted (OwnDigest image) got.url got.answer e is)) where
      at_last : (o : ℕ) (e : OciDistributionError) → AnswerCause (OwnDigest image) got.url got.answer e → OwnCause s.settings image manifest_types m (c ++ []) o e
      at_last o e cause = subst (λ x. OwnCause s.settings image manifest_types m x o e) (sym (append-nil c)) (answer_cause (ManifestUrl s.settings image) (OwnDigest image) s.settings manifest_types o c got.url got.answer e h.0 cause)
by_causes s image url m n c named.Unnamed here h = EveryRun-more (ByResult Any (OwnCause s.settings image manifest_types)) (λ start d o r. ByResult Any (OwnCause s.settings image manifest_types) m (c ++ d) o r) (document s image url manifest_types >>= λ found. Done (Ok found.1)) (document_digest s image url here) (λ start o d r h. any_later s.settings image m start o c d r h)

asked_causes : (s : Context) (image : Reference) (url : Parts) (request : Request) → url_read (manifest_text s.settings image) ≡ Ok url → ManifestUrl s.settings image (Sends request) → EveryRun (ByResult Any (OwnCause s.settings image manifest_types)) (named_after 10 request s.settings.max_body_bytes >>= λ x. digest_by s image url x)
asked_causes s image url request here own = EveryRun-each (NamedLast s.settings image) Any (OwnCause s.settings image manifest_types) (named_after 10 request s.settings.max_body_bytes) (λ x. digest_by s image url x) (named_causes s.settings image request own) (λ m n c x h. by_causes s image url m n c x here h)

head_causes : (s : Context) (image : Reference) (url : Parts) → url_read (manifest_text s.settings image) ≡ Ok url → EveryRun (ByResult Any (OwnCause s.settings image manifest_types)) (prepared s image Pull Head url manifest_types >>= λ request. named_after 10 request s.settings.max_body_bytes >>= λ x. digest_by s image url x)
head_causes s image url here = EveryRun-each (λ m c n request. Prepared s.settings image Pull Head url manifest_types c request) Any (OwnCause s.settings image manifest_types) (prepared s image Pull Head url manifest_types) (λ request. named_after 10 request s.settings.max_body_bytes >>= λ x. digest_by s image url x)
    (early_shown (ManifestUrl s.settings image) (AnswerCause (OwnDigest image)) s.settings manifest_types (λ m c n request. Prepared s.settings image Pull Head url manifest_types c request) (prepared s image Pull Head url manifest_types) (prepared_causes (ManifestUrl s.settings image) s image Pull Head url manifest_types (inl refl)))
    (λ m n c request p. EveryRun-more (ByResult Any (OwnCause s.settings image manifest_types)) (λ start d o r. ByResult Any (OwnCause s.settings image manifest_types) m (c ++ d) o r) (named_after 10 request s.settings.max_body_bytes >>= λ x. digest_by s image url x) (asked_causes s image url request here (manifest_own s.settings image Head url manifest_types c request here p)) (λ start o d r h. any_later s.settings image m start o c d r h))

-- each refusal has its cause
pub digest_causes : (s : Context) (image : Reference) (a : RegistryAuth) → EveryRun (ByResult (λ m c n digest. Unit {0}) (OwnCause s.settings image manifest_types)) (fetch_manifest_digest s image a)
unfolding fetch_manifest_digest
digest_causes s image a = EveryRun-each (λ m c n u. Unit {0}) Any (OwnCause s.settings image manifest_types) (store image a) (λ u. Done (url_read (manifest_text s.settings image)) >>= λ url. prepared s image Pull Head url manifest_types >>= λ request. named_after 10 request s.settings.max_body_bytes >>= λ x. digest_by s image url x)
    (early_shown (ManifestUrl s.settings image) (AnswerCause (OwnDigest image)) s.settings manifest_types (λ m c n u. Unit {0}) (store image a) (store_causes (ManifestUrl s.settings image) s.settings manifest_types image a))
    (λ m n c u h. EveryRun-step (λ start d o r. ByResult Any (OwnCause s.settings image manifest_types) m (c ++ d) o r) (url_read (manifest_text s.settings image)) (λ url. prepared s image Pull Head url manifest_types >>= λ request. named_after 10 request s.settings.max_body_bytes >>= λ x. digest_by s image url x)
    (λ url is. EveryRun-more (ByResult Any (OwnCause s.settings image manifest_types)) (λ start d o r. ByResult Any (OwnCause s.settings image manifest_types) m (c ++ d) o r) (prepared s image Pull Head url manifest_types >>= λ request. named_after 10 request s.settings.max_body_bytes >>= λ x. digest_by s image url x) (head_causes s image url is) (λ start o d r h. any_later s.settings image m start o c d r h))
    (λ e is o. url_cause (ManifestUrl s.settings image) (AnswerCause (OwnDigest image)) s.settings manifest_types (manifest_text s.settings image) o (c ++ []) e (inr refl) is))
