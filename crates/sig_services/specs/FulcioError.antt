-- Why a call to Fulcio failed.
use Rattle.std.specs.Prelude.{ℕ, List, codes, Bool, true, false}
use Rattle.sig_services.specs.declared.fulcio_error.FulcioError.{FulcioError}
use Rattle.sig_services.specs.declared.fulcio_error.FulcioError.TheVariants.{Link, BodyTooLong, Url, Header, Json}
use Rattle.sig_services.specs.declared.fulcio_error.FulcioError.TheVariants.{ChainTooShort, WantOfMemory}

-- whether the error is out of memory
abbrev pub is_memory : FulcioError → Bool
is_memory WantOfMemory = true
is_memory _ = false

-- what is printed: what was refused, and what to do
abbrev pub message_of : FulcioError → List ℕ
message_of Link = codes "the connection to the certificate authority failed: send the request again"
message_of BodyTooLong =
    codes "the response has more than 4294967295 bytes: check that the root URL is an authority's"
message_of (Url path) = codes "the path does not join to the root URL: use a root URL that has a host"
message_of (Header token) = codes "the token is not a valid header value: remove its control characters"
message_of (Json body) = codes "the response is malformed: inspect its body"
message_of ChainTooShort =
    codes "the chain has fewer than two certificates: ask the authority for the issuer's too"
message_of WantOfMemory = codes "out of memory: free some and try again"
