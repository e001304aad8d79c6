-- Why a call to Rekor failed.
use Rattle.std.specs.Prelude.{◌≡◌, ◌<◌, ℕ, List, [], ◌∷◌, length, true, false, Option, Some, None, Result, IfErr}
use Rattle.serde_json.specs.Data.{Data}
use Rattle.json_values.specs.Counts.{Increased}
use Rattle.oci_transport.specs.Link.{Link}
use Rattle.oci_transport.specs.Urls.{request_url}
use Rattle.oci_transport.specs.declared.message.Answer.{Answer}
use Rattle.oci_transport.specs.declared.message.Exchange.{Exchange}
use Rattle.oci_protocol.specs.Runs.{Told}
use Rattle.sig_services.specs.Call.{is_refusal, entity_in}
use Rattle.sig_services.specs.Request.{address, agent_text, headers_sent}
use Rattle.sig_services.specs.declared.configuration.Configuration.{Configuration}
use Rattle.sig_services.specs.declared.error.Error.{Error}
use Rattle.sig_services.specs.declared.error.Error.TheVariants.{Link as Broken, BodyTooLong, Url, Header, Json}
use Rattle.sig_services.specs.declared.error.Error.TheVariants.{ResponseError, WantOfMemory}

-- one exchange with this answer
abbrev pub IsAnswer : List Exchange → Answer → Type 0
IsAnswer c answer = (e : Exchange) × (c ≡ e ∷ []) × (e.answer ≡ Some answer)

-- the cause of an error, by the exchanges and the fault counts before and after them
abbrev pub Why : {A E : Type 0} → (List ℕ → Option A) → (Data → E) → Configuration → List ℕ → ℕ → List Exchange
    → ℕ → Error E → Type 0
Why read entity s path before c after Broken = Increased before after
Why read entity s path before c after BodyTooLong =
    (answer : Answer) × IsAnswer c answer × (s.max_body_bytes < length answer.body)
Why read entity s path before c after (Url text) =
    (c ≡ []) × (text ≡ address s.base_path path) × (request_url text ≡ None)
Why read entity s path before c after (Header text) =
    (c ≡ []) × (text ≡ agent_text s.user_agent)
    × (content : Option (List ℕ)) × (headers_sent s.user_agent content ≡ None)
Why read entity s path before c after (Json body) = (answer : Answer) × IsAnswer c answer
    × (is_refusal answer.status ≡ false) × (body ≡ answer.body) × (read body ≡ None)
Why read entity s path before c after (ResponseError x) = (answer : Answer) × IsAnswer c answer
    × (is_refusal x.status ≡ true) × (x.status ≡ answer.status) × (x.content ≡ answer.body)
    × (x.entity ≡ entity_in entity x.content)
Why read entity s path before c after WantOfMemory = Unit {0}

-- an error has its cause, if exchanges are exposed
abbrev pub RefusedFor : {A E : Type 0} → (List ℕ → Option A) → (Data → E) → Configuration → List ℕ → Link → Link
    → Result A (Error E) → Type 0
RefusedFor read entity s path old new r =
    IfErr r (λ e. Told (λ c. Why read entity s path old.faults c new.faults e) old new)
