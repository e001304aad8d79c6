-- What the last response of a call shows: of a list, and of whether a blob is there.
use Rattle.std.specs.Prelude.{◌≡◌, ◌⊎◌, ℕ, Bool, true, false, List, Option, Some, None}
use Rattle.std.specs.Str.{is_utf8}
use Rattle.serde_json.specs.Data.{Data}
use Rattle.json_tables.specs.Plain.{read_plain}
use Rattle.url.specs.Parts.{Parts}
use Rattle.oci_names.specs.declared.reference.Reference.{Reference}
use Rattle.oci_transport.specs.Headers.{is_header_value}
use Rattle.oci_transport.specs.Urls.{request_url}
use Rattle.oci_transport.specs.declared.message.Answer.{Answer}
use Rattle.oci_transport.specs.declared.message.Exchange.{Exchange}
use Rattle.oci_transport.specs.declared.message.Method.{Method}
use Rattle.oci_transport.specs.declared.message.Method.TheVariants.{Get, Head}
use Rattle.engine_terms.specs.declared.settings.Settings.{Settings}
use Rattle.engine_terms.specs.declared.error.OciDistributionError.{OciDistributionError}
use Rattle.engine_terms.specs.declared.error.OciDistributionError.TheVariants as refusal
use Rattle.engine_requests.specs.Addresses.{registry_text, blob_text}
use Rattle.engine_answers.specs.Answers.{is_success}
use Rattle.engine_rows.specs.Answered.{Asks}
use Rattle.engine_rows.specs.Causes.{Act, Reads, Sends, AnswerCause, ByLast, HasBadToken}
use Rattle.engine_rows.specs.Held.{Entry}
use Rattle.engine_pull.specs.Listings.{with_page, is_told}

-- ---- what a call parses and sends

-- the URL of the registry or this text is parsed, and the URL that is made of the latter is requested, without types
abbrev pub OwnUrl : Settings → Reference → Method → List ℕ → (Parts → Parts) → Act → Type 0
OwnUrl s image method text made (Reads t) = (t ≡ registry_text s image) ⊎ (t ≡ text)
OwnUrl s image method text made (Sends request) = (url : Parts) × (request_url text ≡ Some url)
    × Asks s method (made url) None request

-- of whether a blob is there
abbrev pub ExistsUrl : Settings → Reference → List ℕ → Act → Type 0
ExistsUrl s image digest act = OwnUrl s image Head (blob_text s image digest) (λ url. url) act

-- of a list at this address, or a page of it
abbrev pub ListUrl : Settings → Reference → List ℕ → Option ℕ → Option (List ℕ) → Act → Type 0
ListUrl s image text n last act = OwnUrl s image Get text (with_page n last) act

-- the user agent or a token that the call may send is not a valid header value
abbrev pub BadValue : Entry → Settings → List Exchange → Type 0
BadValue x s c = (is_header_value s.user_agent ≡ false) ⊎ HasBadToken x c

-- ---- whether a blob is there

-- 2xx states that it is there, 404 that it is not
abbrev pub Tells : Bool → Answer → Type 0
Tells true answer = is_success answer.status ≡ true
Tells false answer = answer.status ≡ 404

-- the last response states it
abbrev pub ExistsAnswered : Settings → Reference → List ℕ → Bool → List Exchange → Type 0
ExistsAnswered s image digest there c = ByLast (ExistsUrl s image digest) (λ address answer. Tells there answer) c

-- a refusal for the status of a response, and not for a digest in it
abbrev pub StatusCause : List ℕ → Answer → OciDistributionError → Type 0
StatusCause address answer (refusal.DigestError e) = ⊥
StatusCause address answer e = AnswerCause (λ text. ⊥) address answer e

-- a response that states neither is refused for its status
abbrev pub ExistsAnswer : List ℕ → Answer → OciDistributionError → Type 0
ExistsAnswer address answer e = (is_told answer.status ≡ false) × StatusCause address answer e

-- ---- lists

-- the table reads the list from the body of the last response
abbrev pub ListAnswered : {A : Type 0} → (Data → Option A) → Settings → Reference → List ℕ → Option ℕ
    → Option (List ℕ) → A → List Exchange → Type 0
ListAnswered table s image text n last list c = ByLast (ListUrl s image text n last)
    (λ address answer. (answer.status ≡ 200) × (read_plain table answer.body ≡ Some list)) c

-- a refusal for the body contains it: it is not UTF-8, or the table does not read it
abbrev pub ListAnswer : {A : Type 0} → (Data → Option A) → List ℕ → Answer → OciDistributionError → Type 0
ListAnswer table address answer (refusal.ManifestEncodingError body) = (answer.status ≡ 200) × (body ≡ answer.body)
    × (is_utf8 body ≡ false)
ListAnswer table address answer (refusal.JsonError body) = (answer.status ≡ 200) × (body ≡ answer.body)
    × (is_utf8 body ≡ true) × (read_plain table body ≡ None)
ListAnswer table address answer e = StatusCause address answer e
