-- No frame that is sent contains a float.
use Rattle.std.proofs.Common.{◌≡◌, ℕ, zero, suc, Bool, true, false, ◌||◌, List, [], ◌∷◌, ◌++◌, length, map, Some, codes, refl, if◌then◌else◌}
use Rattle.std.specs.List.{flat_map}
use Rattle.std.specs.FinMap as finmap
use Rattle.serde_json.specs.Data.{Data, array, string}
use Rattle.serde_json.specs.View.{items_of}
use Rattle.serde_json.specs.Written.{has_float, items_have_float}
use Rattle.oci_transport.specs.Headers.{Fields, values_of, is_text}
use Rattle.oci_transport.specs.declared.message.Request.{Request}
use Rattle.json_tables.specs.Fields.{fields}
use Rattle.live_link.specs.Requests.{value_data, header_data, values_data, headers_data, request_data, more_data, method_name, size_data}

plain_either : (t : Bool) (a b : Data) → has_float a ≡ false → has_float b ≡ false → has_float (if t then a else b) ≡ false
plain_either true a b is also = is
plain_either false a b is also = also

plain_value : (value : List ℕ) → has_float (value_data value) ≡ false
plain_value value = plain_either (is_text value) _ _ refl refl

or_false : (a b : Bool) → a ≡ false → b ≡ false → (a || b) ≡ false
or_false true b is also = absurd (cc is)
or_false false b is also = also

plain_header : (header : List ℕ × List ℕ) → has_float (header_data header) ≡ false
plain_header header = or_false (has_float (value_data header.1)) false (plain_value header.1) refl

left_false : (a b : Bool) → (a || b) ≡ false → a ≡ false
left_false true b is = absurd (cc is)
left_false false b is = refl

right_false : (a b : Bool) → (a || b) ≡ false → b ≡ false
right_false true b is = absurd (cc is)
right_false false b is = is

plain_append : (xs ys : List Data) → items_have_float (items_of xs) ≡ false → items_have_float (items_of ys) ≡ false → items_have_float (items_of (xs ++ ys)) ≡ false
plain_append [] ys none also = also
plain_append (x ∷ xs) ys none also =
    let here = left_false (has_float x) _ none in
    let later = right_false (has_float x) _ none in
    or_false (has_float x) _ here (plain_append xs ys later also)

plain_values : (name : List ℕ) (values : List (List ℕ)) → items_have_float (items_of (map (λ value. header_data (name, value)) values)) ≡ false
plain_values name [] = refl
plain_values name (value ∷ values) = or_false (has_float (header_data (name, value))) _ (plain_header (name, value)) (plain_values name values)

plain_names : (m : Fields) (names : List (List ℕ)) → items_have_float (items_of (flat_map (values_data m) names)) ≡ false
plain_names m [] = refl
plain_names m (name ∷ names) = plain_append (values_data m name) (flat_map (values_data m) names) (plain_values name (values_of name m)) (plain_names m names)

pub plain_request : (request : Request) → has_float (request_data request) ≡ false
unfolding request_data
plain_request request = by_size (length request.body)
  where
    headers : has_float (array (items_of (headers_data request.headers))) ≡ false
    headers = plain_names request.headers (finmap.keys request.headers)

    by_size : (size : ℕ) → has_float (fields (
        (codes "frame", Some (string (codes "request")))
        ∷ (codes "method", Some (string (method_name request.method)))
        ∷ (codes "url", Some (string request.url))
        ∷ (codes "headers", Some (array (items_of (headers_data request.headers))))
        ∷ (codes "bytes", size_data size)
        ∷ [])) ≡ false
    by_size zero = or_false (has_float (array (items_of (headers_data request.headers)))) _ headers refl
    by_size (suc n) = or_false (has_float (array (items_of (headers_data request.headers)))) _ headers refl

pub plain_more : has_float more_data ≡ false
plain_more = refl
