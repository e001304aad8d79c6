-- The properties of the calls for a list of referrers and for a tag, for any invalid header value.
use Rattle.std.proofs.Common.{◌≡◌, ◌⊎◌, inl, inr, ℕ, List, [], ◌++◌, Option, Result, Ok, Err, refl, sym, ap, subst, ◌∙◌, append-nil}
use Rattle.url.specs.Parts.{Parts}
use Rattle.oci_transport.specs.Urls.{request_url}
use Rattle.oci_transport.specs.declared.message.Exchange.{Exchange}
use Rattle.oci_transport.specs.declared.message.Method.TheVariants.{Get}
use Rattle.oci_transport.specs.declared.message.Request.{Request}
use Rattle.oci_names.specs.declared.reference.Reference.{Reference}
use Rattle.oci_auth.specs.declared.token_type.RegistryOperation.TheVariants.{Pull}
use Rattle.oci_protocol.specs.Proto.{Done, ◌>>=◌}
use Rattle.oci_protocol.specs.EveryRun.{EveryRun, ByResult}
use Rattle.oci_protocol.proofs.RunFacts.{EveryRun-done, EveryRun-more, EveryRun-each, EveryRun-step}
use Rattle.engine_terms.specs.Contexts.{Context}
use Rattle.engine_requests.specs.Addresses.{manifest_text, url_read}
use Rattle.engine_answers.specs.Documents.{document_read}
use Rattle.engine_requests.specs.Requests.{manifest_types}
use Rattle.engine_answers.specs.declared.answers.Got.{Got}
use Rattle.engine_terms.specs.declared.settings.Settings.{Settings}
use Rattle.engine_terms.specs.declared.error.OciDistributionError.{OciDistributionError}
use Rattle.engine_requests.specs.ReferrerLists.{referrers_text, referrers_url, with_artifact_type}
use Rattle.engine_rows.specs.Rows.{whole, prepared}
use Rattle.engine_rows.specs.Pulls.{document, manifest_document, manifest_asked}
use Rattle.engine_rows.specs.Referrers.{referrers_asked}
use Rattle.engine_rows.specs.Causes.{Sends, AsksAt, ManifestUrl, LastAnswer, AnswerCause, OwnDigest}
use Rattle.engine_rows.specs.ReferrersCauses.{ListUrl, ListAnswer}
use Rattle.request_laws.proofs.DocumentCauses.{asks_at, Accepted, OwnCause, answer_later, cause_later, last_later, into_err, url_cause, early_shown, whole_causes, document_causes}
use Rattle.request_laws.proofs.EarlyCauses.{Loose, prepared_causes}
use Rattle.engine_laws.proofs.ManifestCauses.{ReadLast, ManifestCause, raw_where, document_refused}
use Rattle.request_laws.proofs.PreparedRequests.{into_ok, Prepared}
use Rattle.request_laws.proofs.DocumentAnswers.{url_is}

-- ---- the list

abbrev pub ListLoose : Settings → Reference → List ℕ → List Exchange → ℕ → OciDistributionError → Type 0
ListLoose s image digest c n e = Loose (ListUrl s image digest) ListAnswer s manifest_types c n e

-- the whole last response, or a cause of the list's
abbrev pub Listed : Settings → Reference → List ℕ → ℕ → List Exchange → ℕ → Result Got OciDistributionError → Type 0
Listed s image digest = ByResult (λ m c n got. LastAnswer (ListUrl s image digest) c got.url got.answer) (λ m c n e. ListLoose s image digest c n e)

listed_later : (s : Settings) (image : Reference) (digest : List ℕ) (c : List Exchange) (m start o : ℕ) (d : List Exchange) (r : Result Got OciDistributionError) → Listed s image digest start d o r → Listed s image digest m (c ++ d) o r
listed_later s image digest c m start o d (Ok got) h = answer_later (ListUrl s image digest) (ListUrl s image digest) c (λ act h. h) h
listed_later s image digest c m start o d (Err e) h = cause_later (ListUrl s image digest) (ListUrl s image digest) ListAnswer ListAnswer s manifest_types o c d e (λ text h. h) (λ address answer h. h) h

url_refused : (s : Settings) (image : Reference) (digest : List ℕ) (kind : Option (List ℕ)) (c : List Exchange) (n : ℕ) (e : OciDistributionError) → referrers_url s image digest kind ≡ Err e → ListLoose s image digest c n e
url_refused s image digest kind c n e is = by_step (into_err (url_read (referrers_text s image digest)) (λ url. Ok (with_artifact_type kind url)) e is) where
  by_step : (url_read (referrers_text s image digest) ≡ Err e) ⊎ ((url : Parts) × (url_read (referrers_text s image digest) ≡ Ok url) × (◌≡◌ {A = Result Parts OciDistributionError} (Ok (with_artifact_type kind url)) (Err e))) → ListLoose s image digest c n e
  by_step (inl refused) = url_cause (ListUrl s image digest) ListAnswer s manifest_types (referrers_text s image digest) n c e (inr refl) refused
  by_step (inr (url, read, never)) = absurd (cc never)

-- the request that was built is for the list
list_own : (s : Settings) (image : Reference) (digest : List ℕ) (kind : Option (List ℕ)) (url : Parts) (c : List Exchange) (request : Request) → referrers_url s image digest kind ≡ Ok url → Prepared s image Pull Get url manifest_types c request → ListUrl s image digest (Sends request)
list_own s image digest kind url c request is p = by_step (into_ok (url_read (referrers_text s image digest)) (λ url. Ok (with_artifact_type kind url)) url is) where
  by_step : (base : Parts) × (url_read (referrers_text s image digest) ≡ Ok base) × (◌≡◌ {A = Result Parts OciDistributionError} (Ok (with_artifact_type kind base)) (Ok url)) → ListUrl s image digest (Sends request)
  by_step (base, read, made) =
      let same : with_artifact_type kind base ≡ url = cc made in
      (base, url_is (referrers_text s image digest) (request_url (referrers_text s image digest)) base read, kind, subst (λ (u : Parts). AsksAt s u request) (sym same) (asks_at s image Pull Get url manifest_types c request p))

pub asked_causes : (s : Context) (image : Reference) (digest : List ℕ) (kind : Option (List ℕ)) → EveryRun (Listed s.settings image digest) (referrers_asked s image digest kind)
unfolding referrers_asked
asked_causes s image digest kind = EveryRun-step (Listed s.settings image digest) (referrers_url s.settings image digest kind) (λ url. prepared s image Pull Get url manifest_types >>= λ request. whole 10 request s.settings.max_body_bytes)
    (λ url is. EveryRun-each (λ m c n request. Prepared s.settings image Pull Get url manifest_types c request) (λ m c n got. LastAnswer (ListUrl s.settings image digest) c got.url got.answer) (λ m c n e. ListLoose s.settings image digest c n e) (prepared s image Pull Get url manifest_types) (λ request. whole 10 request s.settings.max_body_bytes)
    (early_shown (ListUrl s.settings image digest) ListAnswer s.settings manifest_types (λ m c n request. Prepared s.settings image Pull Get url manifest_types c request) (prepared s image Pull Get url manifest_types) (prepared_causes (ListUrl s.settings image digest) s image Pull Get url manifest_types (inl refl)))
    (λ m n c request p. EveryRun-more (Listed s.settings image digest) (λ start d o r. Listed s.settings image digest m (c ++ d) o r) (whole 10 request s.settings.max_body_bytes) (whole_causes (ListUrl s.settings image digest) ListAnswer s.settings manifest_types request (list_own s.settings image digest kind url c request is p)) (λ start o d r h. listed_later s.settings image digest c m start o d r h)))
    (λ e is m. url_refused s.settings image digest kind [] m e is)

-- ---- the tag

document_shown : (s : Context) (image : Reference) (types : List ℕ) → EveryRun (ByResult (λ m c n found. Accepted s.settings image c found.0) (OwnCause s.settings image types)) (manifest_document s image types)
unfolding manifest_document
document_shown s image types = EveryRun-step (ByResult (λ m c n found. Accepted s.settings image c found.0) (OwnCause s.settings image types)) (url_read (manifest_text s.settings image)) (λ url. document s image url types)
    (λ url is. document_causes s image url types is)
    (λ e is m. url_cause (ManifestUrl s.settings image) (AnswerCause (OwnDigest image)) s.settings types (manifest_text s.settings image) m [] e (inr refl) is)

pub manifest_shown : (s : Context) (image : Reference) → EveryRun (ByResult (λ m c n found. ReadLast s.settings image c found.0) (ManifestCause s.settings image)) (manifest_asked s image)
unfolding manifest_asked
manifest_shown s image = EveryRun-each (λ m c n found. Accepted s.settings image c found.0) (λ m c n found. ReadLast s.settings image c found.0) (ManifestCause s.settings image) (manifest_document s image manifest_types) (λ found. Done (document_read found.0) >>= λ document. Done (Ok (document, found.1)))
    (EveryRun-more (ByResult (λ m c n found. Accepted s.settings image c found.0) (OwnCause s.settings image manifest_types)) (ByResult (λ m c n found. Accepted s.settings image c found.0) (ManifestCause s.settings image)) (manifest_document s image manifest_types) (document_shown s image manifest_types) (raw_where s.settings image))
    (λ m n c found h. EveryRun-step (λ start d o r. ByResult (λ m c n found. ReadLast s.settings image c found.0) (ManifestCause s.settings image) m (c ++ d) o r) (document_read found.0) (λ document. Done (Ok (document, found.1)))
    (λ document is. EveryRun-done (λ start d o r. ByResult (λ m c n found. ReadLast s.settings image c found.0) (ManifestCause s.settings image) m (c ++ d) o r) (Ok (document, found.1)) (λ o. subst (λ x. ReadLast s.settings image x document) (sym (append-nil c)) (last_later (ManifestUrl s.settings image) (ManifestUrl s.settings image) (λ address answer. document_read answer.body ≡ Ok document) [] (λ act h. h) (λ address answer g. ap document_read (sym g.1) ∙ is) h)))
    (λ e is o. subst (λ x. ManifestCause s.settings image m x o e) (sym (append-nil c)) (document_refused (OwnDigest image) s.settings image manifest_types o c found.0 e h is)))
