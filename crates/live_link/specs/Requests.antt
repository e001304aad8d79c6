-- The frames that are sent: a request, and the request for the next piece of a body.
use Rattle.std.specs.Prelude.{ℕ, suc, zero, List, [], ◌∷◌, length, map, Option, Some, None, codes, if◌then◌else◌}
use Rattle.std.specs.List.{flat_map}
use Rattle.std.specs.FinMap as finmap
use Rattle.base64.specs.Engines.{standard}
use Rattle.base64.specs.GeneralPurpose.{encode_of}
use Rattle.serde_json.specs.Data.{Data, string, array, item, no_items, number, unsigned}
use Rattle.serde_json.specs.View.{items_of}
use Rattle.json_tables.specs.Fields.{fields}
use Rattle.oci_transport.specs.Headers.{Fields, values_of, is_text}
use Rattle.oci_transport.specs.declared.message.Method.{Method}
use Rattle.oci_transport.specs.declared.message.Method.TheVariants.{Get, Head, Post, Put, Patch}
use Rattle.oci_transport.specs.declared.message.Request.{Request}
use Rattle.live_link.specs.Writing.{frame_text}

abbrev pub method_name : Method → List ℕ
method_name Get = codes "GET"
method_name Head = codes "HEAD"
method_name Post = codes "POST"
method_name Put = codes "PUT"
method_name Patch = codes "PATCH"

-- a value: a string if it is visible ASCII, else its base64
abbrev pub value_data : List ℕ → Data
value_data value =
    if is_text value then string value
    else fields ((codes "base64", Some (string (encode_of standard value))) ∷ [])

abbrev pub header_data : List ℕ × List ℕ → Data
header_data header = array (item (string header.0) (item (value_data header.1) no_items))

-- a name with each of its values
abbrev pub values_data : Fields → List ℕ → List Data
values_data m name = map (λ value. header_data (name, value)) (values_of name m)

-- each name with each of its values, in the order of the names
abbrev pub headers_data : Fields → List Data
headers_data m = flat_map (values_data m) (finmap.keys m)

-- the member that says how many bytes come after the line; absent if none do
abbrev pub size_data : ℕ → Option Data
size_data zero = None
size_data (suc n) = Some (number (unsigned (suc n)))

-- the object of a request's frame
unfoldable pub request_data : Request → Data
request_data request = fields (
    (codes "frame", Some (string (codes "request")))
    ∷ (codes "method", Some (string (method_name request.method)))
    ∷ (codes "url", Some (string request.url))
    ∷ (codes "headers", Some (array (items_of (headers_data request.headers))))
    ∷ (codes "bytes", size_data (length request.body))
    ∷ [])

-- the frame of a request: its line, and its body
abbrev pub request_text : Request → List ℕ
request_text request = frame_text (request_data request) request.body

-- the object that requests the next piece
abbrev pub more_data : Data
more_data = fields ((codes "frame", Some (string (codes "more"))) ∷ [])

-- its frame
abbrev pub more_text : List ℕ
more_text = frame_text more_data []
