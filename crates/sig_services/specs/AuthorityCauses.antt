-- Why a call to Fulcio failed.
use Rattle.std.specs.Prelude.{◌≡◌, ◌++◌, ◌<◌, ℕ, List, [], length, Option, Some, None, Result, Err, IsErr, IfErr, codes}
use Rattle.url.specs.Parts.{Parts}
use Rattle.url.specs.Parser.{parse_url}
use Rattle.json_values.specs.Counts.{Increased}
use Rattle.oci_transport.specs.Link.{Link}
use Rattle.oci_transport.specs.declared.message.Answer.{Answer}
use Rattle.oci_transport.specs.declared.message.Exchange.{Exchange}
use Rattle.oci_protocol.specs.Runs.{Told}
use Rattle.sig_services.specs.Causes.{IsAnswer}
use Rattle.sig_services.specs.Client.{headers_with}
use Rattle.sig_services.specs.declared.fulcio_error.FulcioError.{FulcioError}
use Rattle.sig_services.specs.declared.fulcio_error.FulcioError.TheVariants.{Link as Broken, BodyTooLong, Url, Header}
use Rattle.sig_services.specs.declared.fulcio_error.FulcioError.TheVariants.{Json, ChainTooShort, WantOfMemory}

-- by the exchanges of the call, and the fault counts before and after it
abbrev pub AuthorityWhy : {A : Type 0} → (List ℕ → Result A FulcioError) → Parts → List ℕ → List ℕ
    → Option (List ℕ) → ℕ → List Exchange → ℕ → FulcioError → Type 0
AuthorityWhy read root path token accept before c after Broken = Increased before after
AuthorityWhy read root path token accept before c after BodyTooLong =
    (answer : Answer) × IsAnswer c answer × (4294967295 < length answer.body)
AuthorityWhy read root path token accept before c after (Url text) =
    (c ≡ []) × (text ≡ path) × IsErr (parse_url (Some root) path)
AuthorityWhy read root path token accept before c after (Header text) =
    (c ≡ []) × (text ≡ token) × (headers_with (codes "Bearer " ++ token) accept ≡ None)
AuthorityWhy read root path token accept before c after (Json body) = (answer : Answer) × IsAnswer c answer
    × (body ≡ answer.body) × (read answer.body ≡ Err (Json body))
AuthorityWhy read root path token accept before c after ChainTooShort =
    (answer : Answer) × IsAnswer c answer × (read answer.body ≡ Err ChainTooShort)
AuthorityWhy read root path token accept before c after WantOfMemory = Unit {0}

-- a refusal has its cause, if the transport exposes its exchanges
abbrev pub AuthorityRefusedFor : {A : Type 0} → (List ℕ → Result A FulcioError) → Parts → List ℕ → List ℕ
    → Option (List ℕ) → Link → Link → Result A FulcioError → Type 0
AuthorityRefusedFor read root path token accept old new r =
    IfErr r (λ e. Told (λ c. AuthorityWhy read root path token accept old.faults c new.faults e) old new)
