-- Which values of a push may be invalid header values: the user agent, a token that the call may send, or the type of a
-- document.
use Rattle.std.proofs.Common.{◌≡◌, ◌≤◌, ◌<◌, ◌+◌, ◌-◌, ◌/◌, ◌%◌, ◌⊎◌, inl, inr, ℕ, zero, suc, Bool, true, false, List, [], ◌∷◌, ◌++◌, Option, Some, None, Result, Ok, Err, codes, length, unwrap_or, refl, sym, ap, subst, ◌∙◌, arith, cond, length-append}
use Rattle.std.specs.Prelude.{◌==◌, ◌&&◌, nat_lt, sum_by, decimal, if◌then◌else◌}
use Rattle.std.specs.Fmt.{digits, digits_onto, digit_glyph}
use Rattle.std.specs.FinMap as map
use Rattle.std.specs.FinMap.{entries-insert, get-entries}
use Rattle.std.specs.FinMap.Entries.{find, put, by_order}
use Rattle.std.specs.Ordering.{is_eq}
use Rattle.std.specs.declared.cmp.Ordering.TheVariants.{Less, Equal, Greater}
use Rattle.std.specs.Cmp.Lexicographic.{nat_list_cmp_total}
use Rattle.std.proofs.lemmas.Bool.Decides.{nat_tests}
use Rattle.std.proofs.lemmas.List.Folds.{list_all-append}
use Rattle.std.proofs.lemmas.List.Sums.{sum_by-cons}
use Rattle.url.specs.Parts.{Parts}
use Rattle.http_header.specs.Token.{lowercase}
use Rattle.json_values.specs.Places.{by_bytes}
use Rattle.oci_auth.specs.Auth.{authorization_of}
use Rattle.oci_auth.specs.declared.token_type.RegistryTokenType.{RegistryTokenType}
use Rattle.oci_transport.specs.Headers.{Fields, added, held, is_header_value, is_value_byte}
use Rattle.oci_transport.specs.declared.message.Exchange.{Exchange}
use Rattle.oci_transport.specs.declared.message.Method.{Method}
use Rattle.oci_transport.specs.declared.message.Request.{Request}
use Rattle.json_values.specs.Refusals.{◌>>=◌ as ◌into◌}
use Rattle.engine_terms.specs.declared.error.OciDistributionError.{OciDistributionError}
use Rattle.engine_terms.specs.declared.settings.Settings.{Settings}
use Rattle.engine_requests.specs.Requests.{with_header, with_accept, with_token, headers_of, bare_request, request_of}
use Rattle.engine_rows.specs.Causes.{HasBadToken, BadHeader}
use Rattle.engine_rows.specs.Held.{Entry}
use Rattle.request_laws.proofs.PreparedRequests.{with_ok}
use Rattle.request_laws.proofs.ShownTokens.{MayShow, none_held, one_held, refused_value, into_err}
use Rattle.push_rows.specs.Contents.{bytes_of, octet_stream, range_text, with_length, with_type, with_fields, with_content}
use Rattle.push_rows.specs.declared.content.Content.{Content}
use Rattle.push_rows.specs.declared.content.Content.TheVariants.{Nothing, Whole, Chunk, Document}

-- ---- numbers are valid header values

glyph_valid : (d : ℕ) → d < 10 → is_value_byte (digit_glyph false d) ≡ true
glyph_valid d small = by_test (nat_lt d 10) refl where
  by_test : (b : Bool) → nat_lt d 10 ≡ b → is_value_byte (if b then 48 + d else 87 + d) ≡ true
  by_test true is = grind (arith, nat_tests, small)
  by_test false is = absurd (grind (arith, nat_tests, is, small))

both_true : (a b : Bool) → a ≡ true → b ≡ true → (a && b) ≡ true
both_true true true h k = refl
both_true false b h k = absurd (cc h)
both_true true false h k = absurd (cc k)

glyph_by : (b : Bool) (byte : ℕ) (acc rest : List ℕ) → is_header_value (byte ∷ acc) ≡ true → is_header_value rest ≡ true → is_header_value (if b then byte ∷ acc else rest) ≡ true
glyph_by true byte acc rest one more = one
glyph_by false byte acc rest one more = more

onto_valid : (k n : ℕ) (acc : List ℕ) → is_header_value acc ≡ true → is_header_value (digits_onto k 10 false n acc) ≡ true
onto_valid zero n acc h = h
onto_valid (suc k) n acc h =
    let glyph : ℕ = digit_glyph false (n % 10) in
    let next : is_header_value (glyph ∷ acc) ≡ true = both_true (is_value_byte glyph) (is_header_value acc) (glyph_valid (n % 10) (omega arith)) h in
    glyph_by (n / 10 == 0) glyph acc (digits_onto k 10 false (n / 10) (glyph ∷ acc)) next (onto_valid k (n / 10) (glyph ∷ acc) next)

pub decimal_valid : (n : ℕ) → is_header_value (decimal n) ≡ true
unfolding digits
decimal_valid n = onto_valid 64 n [] refl

both_valid : (xs ys : List ℕ) → is_header_value xs ≡ true → is_header_value ys ≡ true → is_header_value (xs ++ ys) ≡ true
both_valid xs ys a b = list_all-append is_value_byte xs ys ∙ both_true (is_header_value xs) (is_header_value ys) a b

range_valid : (start : ℕ) (bytes : List ℕ) → is_header_value (range_text start bytes) ≡ true
range_valid start bytes =
    let end : List ℕ = decimal (start + length bytes - 1) in
    both_valid (decimal start ++ codes "-") end (both_valid (decimal start) (codes "-") (decimal_valid start) refl) (decimal_valid (start + length bytes - 1))

-- ---- there is room for the fields of a push

abbrev size : List ℕ × List (List ℕ) → ℕ
size e = length e.1

put_most : (k : List ℕ) (v : List (List ℕ)) (es : List (List ℕ × List (List ℕ))) → sum_by size (put by_bytes k v es) ≤ length v + sum_by size es
put_most k v [] = let a = sum_by-cons size (k, v) [] in omega (arith, a)
put_most k v (e ∷ es) =
    elim (by_bytes k e.0) as (λ r. sum_by size (by_order r ((k, v) ∷ e ∷ es) ((e.0, v) ∷ es) (e ∷ put by_bytes k v es)) ≤ length v + sum_by size (e ∷ es)) [
      | Less ↦ let a = sum_by-cons size (k, v) (e ∷ es) in omega (arith, a)
      | Equal ↦ let a = sum_by-cons size (e.0, v) es in let b = sum_by-cons size e es in omega (arith, a, b)
      | Greater ↦ let a = sum_by-cons size e (put by_bytes k v es) in let b = sum_by-cons size e es in let c = put_most k v es in omega (arith, a, b, c)
    ]

found_by : (b : Bool) (k : List ℕ) (e : List ℕ × List (List ℕ)) (es : List (List ℕ × List (List ℕ))) → length (unwrap_or (find by_bytes k es) []) ≤ sum_by size es → length (unwrap_or (cond b (Some e.1) (find by_bytes k es)) []) ≤ sum_by size (e ∷ es)
found_by true k e es more = let a = sum_by-cons size e es in omega (arith, a)
found_by false k e es more = let a = sum_by-cons size e es in omega (arith, a, more)

find_most : (k : List ℕ) (es : List (List ℕ × List (List ℕ))) → length (unwrap_or (find by_bytes k es) []) ≤ sum_by size es
find_most k [] = omega arith
find_most k (e ∷ es) = found_by (is_eq (by_bytes k e.0)) k e es (find_most k es)

held_most : (m : Fields) (name value : List ℕ) → held (added m name value) ≤ suc (held m + held m)
held_most m name value =
    let known : List (List ℕ) = unwrap_or (map.get m (lowercase name)) [] in
    let same : held (added m name value) ≡ sum_by size (put by_bytes (lowercase name) (known ++ value ∷ []) (map.entries m)) = ap (sum_by size) (entries-insert nat_list_cmp_total m (lowercase name) (known ++ value ∷ [])) in
    let most = put_most (lowercase name) (known ++ value ∷ []) (map.entries m) in
    let few : length known ≤ held m = subst (λ (o : Option (List (List ℕ))). length (unwrap_or o []) ≤ held m) (sym (get-entries m (lowercase name))) (find_most (lowercase name) (map.entries m)) in
    omega (arith, same, most, few, length-append known (value ∷ []))

-- with one more field
with_most : (m made : Fields) (name value : List ℕ) → with_header m name value ≡ Ok made → held made ≤ suc (held m + held m)
with_most m made name value is = subst (λ (x : Fields). held x ≤ suc (held m + held m)) (sym (with_ok m name value made is)) (held_most m name value)

invalid : (headers : Fields) (name value : List ℕ) (e : OciDistributionError) → held headers < 1000 → with_header headers name value ≡ Err e → is_header_value value ≡ false
invalid headers name value e few is = refused_value headers name value e (held headers) refl (grind (arith, nat_tests, few)) is

never : (headers : Fields) (name value : List ℕ) (e : OciDistributionError) → held headers < 1000 → is_header_value value ≡ true → with_header headers name value ≡ Err e → ⊥
never headers name value e few valid is = let bad = invalid headers name value e few is in cc (sym valid ∙ bad)

-- ---- a request without a list of types

agent_held : (s : Settings) (headers : Fields) → (with_header map.empty (codes "user-agent") s.user_agent into with_accept None) ≡ Ok headers → held headers ≡ 1
agent_held s headers = by_agent (with_header map.empty (codes "user-agent") s.user_agent) refl where
  by_agent : (r : Result Fields OciDistributionError) → with_header map.empty (codes "user-agent") s.user_agent ≡ r → (r into with_accept None) ≡ Ok headers → held headers ≡ 1
  by_agent (Ok named) made is = let same : named ≡ headers = cc is in ap held (sym same ∙ with_ok map.empty (codes "user-agent") s.user_agent named made) ∙ one_held s.user_agent
  by_agent (Err e) made is = absurd (cc is)

pub bad_bare : (x : Entry) (s : Settings) (method : Method) (url : Parts) (kind : List ℕ) (token : Option RegistryTokenType) (c : List Exchange) (e : OciDistributionError) → MayShow x c token → request_of s method url None token ≡ Err e → BadHeader x s kind c
unfolding request_of
bad_bare x s method url kind token c e shown is = by_headers (into_err (headers_of s None token) (λ headers. Ok (bare_request method url headers)) e is) where
  agent : Result Fields OciDistributionError
  agent = with_header map.empty (codes "user-agent") s.user_agent into with_accept None

  by_token : (token : Option RegistryTokenType) (headers : Fields) → MayShow x c token → held headers ≡ 1 → with_token token headers ≡ Err e → HasBadToken x c
  by_token None headers shown one is = absurd (cc is)
  by_token (Some token) headers shown one is = (token, shown, refused_value headers (codes "authorization") (authorization_of token) e 1 one refl is)

  by_agent : (agent ≡ Err e) ⊎ ((headers : Fields) × (agent ≡ Ok headers) × (with_token token headers ≡ Err e)) → BadHeader x s kind c
  by_agent (inl refused) = named (into_err (with_header map.empty (codes "user-agent") s.user_agent) (with_accept None) e refused) where
    named : (with_header map.empty (codes "user-agent") s.user_agent ≡ Err e) ⊎ ((headers : Fields) × (with_header map.empty (codes "user-agent") s.user_agent ≡ Ok headers) × (with_accept None headers ≡ Err e)) → BadHeader x s kind c
    named (inl refused) = inl (inl (refused_value map.empty (codes "user-agent") s.user_agent e 0 none_held refl refused))
    named (inr (headers, made, refused)) = absurd (cc refused)
  by_agent (inr (headers, made, refused)) = inr (by_token token headers shown (agent_held s headers made) refused)

  by_headers : (headers_of s None token ≡ Err e) ⊎ ((headers : Fields) × (headers_of s None token ≡ Ok headers) × (Ok (bare_request method url headers) ≡ Err e)) → BadHeader x s kind c
  by_headers (inl refused) = by_agent (into_err agent (with_token token) e refused)
  by_headers (inr (headers, made, refused)) = absurd (cc refused)

-- how many fields it has at most
pub bare_held : (s : Settings) (method : Method) (url : Parts) (token : Option RegistryTokenType) (request : Request) → request_of s method url None token ≡ Ok request → held request.headers ≤ 3
unfolding request_of
bare_held s method url token request is = by_headers (headers_of s None token) refl is where
  by_token : (token : Option RegistryTokenType) (agent headers : Fields) → held agent ≡ 1 → with_token token agent ≡ Ok headers → held headers ≤ 3
  by_token None agent headers one is = let same : agent ≡ headers = cc is in subst (λ (m : Fields). held m ≤ 3) same (omega (arith, one))
  by_token (Some token) agent headers one is = let most = with_most agent headers (codes "authorization") (authorization_of token) is in omega (arith, one, most)

  by_agent : (r : Result Fields OciDistributionError) → (with_header map.empty (codes "user-agent") s.user_agent into with_accept None) ≡ r → (headers : Fields) → (r into with_token token) ≡ Ok headers → held headers ≤ 3
  by_agent (Ok agent) made headers is = by_token token agent headers (agent_held s agent made) is
  by_agent (Err e) made headers is = absurd (cc is)

  by_headers : (r : Result Fields OciDistributionError) → headers_of s None token ≡ r → (r into (λ headers. Ok (bare_request method url headers))) ≡ Ok request → held request.headers ≤ 3
  by_headers (Ok headers) made is = let same : bare_request method url headers ≡ request = cc is in subst (λ (q : Request). held q.headers ≤ 3) same (by_agent (with_header map.empty (codes "user-agent") s.user_agent into with_accept None) refl headers made)
  by_headers (Err e) made is = absurd (cc is)

-- ---- its content

-- a document is of this type
abbrev pub OfKind : List ℕ → Content → Type 0
OfKind kind (Document type bytes) = type ≡ kind
OfKind kind content = Unit {0}

sized_never : (bytes : List ℕ) (headers : Fields) (e : OciDistributionError) → held headers ≤ 100 → (with_length bytes headers into with_type octet_stream) ≡ Err e → ⊥
sized_never bytes headers e few is = by_step (into_err (with_length bytes headers) (with_type octet_stream) e is) where
  by_step : (with_length bytes headers ≡ Err e) ⊎ ((sized : Fields) × (with_length bytes headers ≡ Ok sized) × (with_type octet_stream sized ≡ Err e)) → ⊥
  by_step (inl refused) = never headers (codes "content-length") (decimal (length bytes)) e (omega (arith, few)) (decimal_valid (length bytes)) refused
  by_step (inr (sized, made, refused)) = let most = with_most headers sized (codes "content-length") (decimal (length bytes)) made in never sized (codes "content-type") octet_stream e (omega (arith, few, most)) refl refused

chunk_never : (start : ℕ) (bytes : List ℕ) (headers : Fields) (e : OciDistributionError) → held headers ≤ 3 → with_fields (Chunk start bytes) headers ≡ Err e → ⊥
chunk_never start bytes headers e few is = by_type (into_err (ranged into with_length bytes) (with_type octet_stream) e is) where
  ranged : Result Fields OciDistributionError
  ranged = with_header headers (codes "content-range") (range_text start bytes)

  range_most : (made : Fields) → ranged ≡ Ok made → held made ≤ 7
  range_most made is = let most = with_most headers made (codes "content-range") (range_text start bytes) is in omega (arith, few, most)

  sized : (made : Fields) → (ranged into with_length bytes) ≡ Ok made → held made ≤ 15
  sized made is = by_range ranged refl is where
    by_range : (r : Result Fields OciDistributionError) → ranged ≡ r → (r into with_length bytes) ≡ Ok made → held made ≤ 15
    by_range (Ok first) at is = let a = range_most first at in let most = with_most first made (codes "content-length") (decimal (length bytes)) is in omega (arith, a, most)
    by_range (Err x) at is = absurd (cc is)

  by_length : (ranged ≡ Err e) ⊎ ((made : Fields) × (ranged ≡ Ok made) × (with_length bytes made ≡ Err e)) → ⊥
  by_length (inl refused) = never headers (codes "content-range") (range_text start bytes) e (omega (arith, few)) (range_valid start bytes) refused
  by_length (inr (made, at, refused)) = let a = range_most made at in never made (codes "content-length") (decimal (length bytes)) e (omega (arith, a)) (decimal_valid (length bytes)) refused

  by_type : ((ranged into with_length bytes) ≡ Err e) ⊎ ((made : Fields) × ((ranged into with_length bytes) ≡ Ok made) × (with_type octet_stream made ≡ Err e)) → ⊥
  by_type (inl refused) = by_length (into_err ranged (with_length bytes) e refused)
  by_type (inr (made, at, refused)) = let a = sized made at in never made (codes "content-type") octet_stream e (omega (arith, a)) refl refused

bad_fields : (kind : List ℕ) (content : Content) (headers : Fields) (e : OciDistributionError) → OfKind kind content → held headers ≤ 3 → with_fields content headers ≡ Err e → is_header_value kind ≡ false
bad_fields kind Nothing headers e of few is = absurd (never headers (codes "content-length") (decimal 0) e (omega (arith, few)) (decimal_valid 0) is)
bad_fields kind (Whole bytes) headers e of few is = absurd (sized_never bytes headers e (omega (arith, few)) is)
bad_fields kind (Chunk start bytes) headers e of few is = absurd (chunk_never start bytes headers e few is)
bad_fields kind (Document type bytes) headers e of few is = subst (λ xs. is_header_value xs ≡ false) of (invalid headers (codes "content-type") type e (omega (arith, few)) is)

pub bad_content : (kind : List ℕ) (content : Content) (bare : Request) (e : OciDistributionError) → OfKind kind content → held bare.headers ≤ 3 → with_content content bare ≡ Err e → is_header_value kind ≡ false
unfolding with_content
bad_content kind content bare e of few is = bad_fields kind content bare.headers e of few (by_fields (with_fields content bare.headers) refl is) where
  by_fields : (r : Result Fields OciDistributionError) → with_fields content bare.headers ≡ r → (r into (λ headers. Ok (record bare { headers = headers; body = bytes_of content }))) ≡ Err e → with_fields content bare.headers ≡ Err e
  by_fields (Ok headers) made is = absurd (cc is)
  by_fields (Err x) made is = let same : x ≡ e = cc is in made ∙ ap Err same
