-- A call to Rekor: a request, and the meaning of its answer.
use Rattle.std.specs.Prelude.{◌≡◌, ◌≤◌, ℕ, List, Bool, true, false, ◌&&◌, ◌⊎◌, nat_le, nat_lt, if◌then◌else◌, Option, Some}
use Rattle.std.specs.Prelude.{None, option_map, Result, Ok, Err, IsErrAnd}
use Rattle.json.specs.Lex.{tokens}
use Rattle.json.specs.Print.{print}
use Rattle.serde_json.specs.Data.{Data, depth}
use Rattle.serde_json.specs.Read.{read, max_depth}
use Rattle.serde_json.specs.Written.{has_float, compact_text, IsInOrder}
use Rattle.json_values.specs.JsonText.{plain_json_of}
use Rattle.oci_transport.specs.declared.message.Answer.{Answer}
use Rattle.oci_transport.specs.declared.message.Method.{Method}
use Rattle.oci_transport.specs.Link.{Link}
use Rattle.oci_protocol.specs.Proto.{Done, ◌>>=◌}
use Rattle.oci_protocol.specs.Runs.{Meets}
use Rattle.sig_services.specs.Exchange.{Row, whole}
use Rattle.sig_services.specs.Error.{is_memory}
use Rattle.sig_services.specs.Request.{request_of}
use Rattle.sig_services.specs.declared.configuration.Configuration.{Configuration}
use Rattle.sig_services.specs.declared.error.Error.{Error}
use Rattle.sig_services.specs.declared.error.Error.TheVariants.{Link as Broken, BodyTooLong, Json, ResponseError}

-- a 4xx or 5xx status (RFC 9110, 15.5 and 15.6)
abbrev pub is_refusal : ℕ → Bool
is_refusal status = nat_le 400 status && nat_lt status 600

-- the entity in a body, if it is JSON without floats
abbrev pub entity_in : {E : Type 0} → (Data → E) → List ℕ → Option E
entity_in entity body = option_map entity (plain_json_of body)

abbrev pub read_or_json : {A E : Type 0} → List ℕ → Option A → Result A (Error E)
read_or_json body (Some found) = Ok found
read_or_json body None = Err (Json body)

-- the result of an answer
abbrev pub judged : {A E : Type 0} → (List ℕ → Option A) → (Data → E) → Answer → Result A (Error E)
judged read entity answer =
    if is_refusal answer.status
    then Err (ResponseError (record {
      status = answer.status;
      content = answer.body;
      entity = entity_in entity answer.body;
    }))
    else read_or_json answer.body (read answer.body)

-- a call: one request, one answer, and its result
unfoldable pub call : {A E : Type 0} → (List ℕ → Option A) → (Data → E) → Configuration → Method → List ℕ
    → Option (List ℕ) → Row (Error E) A
call read entity c method path content = do
  request ← Done (request_of c method path content)
  answer ← whole Broken BodyTooLong c.max_body_bytes request
  Done (judged read entity answer)

-- JSON text of this data without spaces: its members in order; it reads back as the data, unless that nests too deep
pub record IsCompact (text : List ℕ) (d : Data) : Type 0 where
  -- of data without floats there is one such text
  pub exact : has_float d ≡ false → text ≡ compact_text d
  pub spaceless : text ≡ print (tokens text)
  pub ordered : IsInOrder text d
  pub reads_back : depth d ≤ max_depth → read text ≡ Some d

-- the request carried compact text of this data
pub record Sends {A E : Type 0}
    (d : Data) (row : List ℕ → Row (Error E) A) (old new : Link) (r : Result A (Error E)) : Type 0 where
  pub text : List ℕ
  pub compact : IsCompact text d
  pub met : (k : Unit {0}) → Meets is_memory (row text) old new k k r

-- memory ran out before anything was sent
abbrev pub Unsent : {A E : Type 0} → Link → Link → Result A (Error E) → Type 0
Unsent old new r = (new ≡ old) × IsErrAnd r (λ e. is_memory e ≡ true)

-- a call that sends compact text of this data
abbrev pub Posts : {A E : Type 0} → Data → (List ℕ → Row (Error E) A) → Link → Link → Result A (Error E) → Type 0
Posts d row old new r = Sends d row old new r ⊎ Unsent old new r
