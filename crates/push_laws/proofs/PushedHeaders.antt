-- The header fields of a push change no value of `authorization`, and its body is its content.
use Rattle.std.proofs.Common.{◌≡◌, ℕ, List, [], ◌∷◌, ◌++◌, Option, Ok, codes, unwrap_or, sym, ap, ◌∙◌}
use Rattle.std.specs.Prelude.{decimal, length}
use Rattle.std.specs.FinMap.{get-insert}
use Rattle.std.specs.Cmp.Lexicographic.{nat_list_cmp_total}
use Rattle.oci_transport.specs.Headers.{Fields, values_of, added}
use Rattle.oci_transport.specs.declared.message.Request.{Request}
use Rattle.json_values.specs.Refusals.{◌>>=◌ as ◌into◌}
use Rattle.engine_requests.specs.Requests.{with_header}
use Rattle.request_laws.proofs.PreparedRequests.{with_ok, into_ok}
use Rattle.push_rows.specs.Contents.{bytes_of, range_text, octet_stream, with_length, with_type, with_fields, with_content}
use Rattle.push_rows.specs.declared.content.Content.{Content}
use Rattle.push_rows.specs.declared.content.Content.TheVariants.{Nothing, Whole, Chunk, Document}

abbrev shown : Fields → List (List ℕ)
shown headers = values_of (codes "authorization") headers

length_keeps : (m : Fields) (value : List ℕ) → shown (added m (codes "content-length") value) ≡ shown m
length_keeps m value = ap (λ (o : Option (List (List ℕ))). unwrap_or o []) (get-insert nat_list_cmp_total m (codes "content-length") (values_of (codes "content-length") m ++ value ∷ []) (codes "authorization"))

type_keeps : (m : Fields) (value : List ℕ) → shown (added m (codes "content-type") value) ≡ shown m
type_keeps m value = ap (λ (o : Option (List (List ℕ))). unwrap_or o []) (get-insert nat_list_cmp_total m (codes "content-type") (values_of (codes "content-type") m ++ value ∷ []) (codes "authorization"))

range_keeps : (m : Fields) (value : List ℕ) → shown (added m (codes "content-range") value) ≡ shown m
range_keeps m value = ap (λ (o : Option (List (List ℕ))). unwrap_or o []) (get-insert nat_list_cmp_total m (codes "content-range") (values_of (codes "content-range") m ++ value ∷ []) (codes "authorization"))

length_shown : (bytes : List ℕ) (m made : Fields) → with_length bytes m ≡ Ok made → shown made ≡ shown m
length_shown bytes m made is = ap shown (with_ok m (codes "content-length") (decimal (length bytes)) made is) ∙ length_keeps m (decimal (length bytes))

type_shown : (kind : List ℕ) (m made : Fields) → with_type kind m ≡ Ok made → shown made ≡ shown m
type_shown kind m made is = ap shown (with_ok m (codes "content-type") kind made is) ∙ type_keeps m kind

sized_shown : (bytes : List ℕ) (m made : Fields) → (with_length bytes m into with_type octet_stream) ≡ Ok made → shown made ≡ shown m
sized_shown bytes m made is = let at = into_ok (with_length bytes m) (with_type octet_stream) made is in type_shown octet_stream at.0 made at.2 ∙ length_shown bytes m at.0 at.1

fields_shown : (content : Content) (m made : Fields) → with_fields content m ≡ Ok made → shown made ≡ shown m
fields_shown Nothing m made is = length_shown [] m made is
fields_shown (Whole bytes) m made is = sized_shown bytes m made is
fields_shown (Chunk start bytes) m made is = ranged is where
  ranged : ((with_header m (codes "content-range") (range_text start bytes) into with_length bytes) into with_type octet_stream) ≡ Ok made → shown made ≡ shown m
  ranged is =
      let typed = into_ok (with_header m (codes "content-range") (range_text start bytes) into with_length bytes) (with_type octet_stream) made is in
      let sized = into_ok (with_header m (codes "content-range") (range_text start bytes)) (with_length bytes) typed.0 typed.1 in
      type_shown octet_stream typed.0 made typed.2 ∙ length_shown bytes sized.0 typed.0 sized.2 ∙ ap shown (with_ok m (codes "content-range") (range_text start bytes) sized.0 sized.1) ∙ range_keeps m (range_text start bytes)
fields_shown (Document kind bytes) m made is = type_shown kind m made is

-- a request with a content, and the one before adding it
pub record WithContent (content : Content) (bare request : Request) : Type 0 where
  pub shown_is : values_of (codes "authorization") request.headers ≡ values_of (codes "authorization") bare.headers
  pub method_is : request.method ≡ bare.method
  pub url_is : request.url ≡ bare.url
  pub body_is : request.body ≡ bytes_of content

pub content_made : (content : Content) (bare request : Request) → with_content content bare ≡ Ok request → WithContent content bare request
unfolding with_content
content_made content bare request is =
    let at = into_ok (with_fields content bare.headers) _ request is in
    let made : (record bare { headers = at.0; body = bytes_of content }) ≡ request = cc at.2 in
    record {
      shown_is = ap (λ (r : Request). values_of (codes "authorization") r.headers) (sym made) ∙ fields_shown content bare.headers at.0 at.1;
      method_is = ap (λ (r : Request). r.method) (sym made);
      url_is = ap (λ (r : Request). r.url) (sym made);
      body_is = ap (λ (r : Request). r.body) (sym made);
    }
