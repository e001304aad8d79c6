-- The header `range` of a request has a valid value, and it changes neither the types nor the token.
use Rattle.std.proofs.Common.{◌≡◌, ◌<◌, ◌+◌, ◌-◌, ◌^◌, ℕ, Bool, true, false, List, [], ◌∷◌, ◌++◌, Option, Some, None, Result, Ok, Err, codes, length, unwrap_or, refl, sym, ap, subst, ◌∙◌, arith}
use Rattle.std.specs.Prelude.{decimal, nat_lt, sum_by, if◌then◌else◌}
use Rattle.std.specs.List.{list_all}
use Rattle.std.proofs.lemmas.Bool.{ltb-true}
use Rattle.std.proofs.lemmas.Bool.Decides.{nat_tests}
use Rattle.std.proofs.lemmas.Fmt.{digits_decimal}
use Rattle.std.proofs.lemmas.List.Folds.{list_all-append}
use Rattle.std.specs.FinMap as map
use Rattle.std.specs.FinMap.{entries-insert, get-insert, get-empty, put}
use Rattle.std.specs.Cmp.Lexicographic.{nat_list_cmp_total}
use Rattle.url.specs.Parts.{Parts}
use Rattle.json_values.specs.Places.{by_bytes}
use Rattle.oci_transport.specs.Headers.{Fields, values_of, added, held, is_header_value, is_value_byte}
use Rattle.oci_transport.specs.declared.message.Request.{Request}
use Rattle.oci_transport.specs.declared.message.Method.{Method}
use Rattle.oci_auth.specs.Auth.{authorization_of}
use Rattle.oci_auth.specs.declared.token_type.RegistryTokenType.{RegistryTokenType}
use Rattle.json_values.specs.Refusals.{◌>>=◌ as ◌into◌}
use Rattle.engine_requests.specs.Requests.{with_header, with_token, request_of}
use Rattle.engine_terms.specs.declared.error.GenericCause.TheVariants.{RangeOverflow}
use Rattle.engine_terms.specs.declared.error.OciDistributionError.{OciDistributionError}
use Rattle.engine_terms.specs.declared.error.OciDistributionError.TheVariants as refusal
use Rattle.engine_terms.specs.declared.settings.Settings.{Settings}
use Rattle.request_laws.proofs.PreparedRequests.{with_ok, accept_none, made_of}
use Rattle.request_laws.proofs.ShownTokens.{agent_entries, refused_value}
use Rattle.json_values.specs.Decimals.{is_digit}
use Rattle.engine_streams.specs.Range.{onward_text, text_to, text_by, range_text, onward}
use Rattle.engine_streams.specs.declared.range.ByteRange.{ByteRange}
use Rattle.json_values.proofs.Decimals.{split, joined, numeral}

-- ---- it is a valid header value

digit_stands : (b : ℕ) → is_digit b ≡ true → is_value_byte b ≡ true
digit_stands b h = grind (arith, nat_tests, h)

digits_stand : (xs : List ℕ) → list_all is_digit xs ≡ true → is_header_value xs ≡ true
digits_stand [] h = refl
digits_stand (x ∷ xs) h = let k = split (is_digit x) (list_all is_digit xs) h in joined (is_value_byte x) (is_header_value xs) (digit_stands x k.0) (digits_stand xs k.1)

decimal_stands : (n : ℕ) → n < 2 ^ 64 → is_header_value (decimal n) ≡ true
decimal_stands n lt = digits_stand (decimal n) (digits_decimal numeral n lt)

both_stand : (xs ys : List ℕ) → is_header_value xs ≡ true → is_header_value ys ≡ true → is_header_value (xs ++ ys) ≡ true
both_stand xs ys a b = list_all-append is_value_byte xs ys ∙ joined (is_header_value xs) (is_header_value ys) a b

onward_stands : (n : ℕ) → n < 2 ^ 64 → is_header_value (onward_text n) ≡ true
onward_stands n lt = both_stand (codes "bytes=") (decimal n ++ codes "-") refl (both_stand (decimal n) (codes "-") (decimal_stands n lt) refl)

-- the text, if there is one, is a valid header value
abbrev pub Stands : Option (List ℕ) → Type 0
Stands None = Unit {0}
Stands (Some text) = is_header_value text ≡ true

-- the offset is a `u64`
abbrev pub IsSmall : Option ByteRange → Type 0
IsSmall None = Unit {0}
IsSmall (Some range) = range.offset < 2 ^ 64

pub onward_is : (range : Option ByteRange) → IsSmall range → Stands (onward range)
onward_is None small = tt
onward_is (Some range) small = onward_stands range.offset small

to_stands : (offset end : ℕ) (text : List ℕ) → offset < 2 ^ 64 → text_to offset end ≡ Ok text → is_header_value text ≡ true
to_stands offset end text small = by_test (nat_lt end (2 ^ 64)) refl where
  by_test : (b : Bool) → nat_lt end (2 ^ 64) ≡ b → (if b then Ok (onward_text offset ++ decimal (end - 1)) else Err (refusal.GenericError RangeOverflow)) ≡ Ok text → is_header_value text ≡ true
  by_test true lt is =
      let same : onward_text offset ++ decimal (end - 1) ≡ text = cc is in
      let fits : end < 2 ^ 64 = ltb-true end (2 ^ 64) lt in
      subst (λ (t : List ℕ). is_header_value t ≡ true) same (both_stand (onward_text offset) (decimal (end - 1)) (onward_stands offset small) (decimal_stands (end - 1) (omega (arith, fits))))
  by_test false lt is = absurd (cc is)

by_stands : (offset : ℕ) (n : Option ℕ) (text : List ℕ) → offset < 2 ^ 64 → text_by offset n ≡ Ok text → is_header_value text ≡ true
by_stands offset None text small is = let same : onward_text offset ≡ text = cc is in subst (λ (t : List ℕ). is_header_value t ≡ true) same (onward_stands offset small)
by_stands offset (Some n) text small is = to_stands offset (offset + n) text small is

pub range_is : (range : Option ByteRange) (text : Option (List ℕ)) → IsSmall range → range_text range ≡ Ok text → Stands text
range_is range None small is = tt
range_is None (Some text) small is = absurd (cc is)
range_is (Some range) (Some text) small is = by_text (text_by range.offset range.length) refl is where
  by_text : (r : Result (List ℕ) OciDistributionError) → text_by range.offset range.length ≡ r → (r into (λ t. Ok (Some t))) ≡ Ok (Some text) → is_header_value text ≡ true
  by_text (Ok t) made is = let same : t ≡ text = cc is in by_stands range.offset range.length text small (made ∙ ap Ok same)
  by_text (Err e) made is = absurd (cc is)

-- ---- there is room

abbrev two : List ℕ → List ℕ → Fields
two name types = added (added map.empty (codes "user-agent") name) (codes "accept") types

two_entries : (name types : List ℕ) → map.entries (two name types) ≡ (codes "accept", types ∷ []) ∷ (codes "user-agent", name ∷ []) ∷ []
two_entries name types =
    let m = added map.empty (codes "user-agent") name in
    entries-insert nat_list_cmp_total m (codes "accept") (values_of (codes "accept") m ++ types ∷ [])
    ∙ ap (λ (es : List (List ℕ × List (List ℕ))). put by_bytes (codes "accept") (values_of (codes "accept") m ++ types ∷ []) es) (agent_entries name)
    ∙ ap (λ (xs : List (List ℕ)). put by_bytes (codes "accept") (xs ++ types ∷ []) ((codes "user-agent", name ∷ []) ∷ [])) (accept_none name)

two_held : (name types : List ℕ) → held (two name types) ≡ 2
two_held name types = ap (λ (es : List (List ℕ × List (List ℕ))). sum_by (λ e. length e.1) es) (two_entries name types)

no_token : (name types : List ℕ) → values_of (codes "authorization") (two name types) ≡ []
no_token name types =
    let m = added map.empty (codes "user-agent") name in
    ap (λ (o : Option (List (List ℕ))). unwrap_or o []) (get-insert nat_list_cmp_total m (codes "accept") (values_of (codes "accept") m ++ types ∷ []) (codes "authorization")
    ∙ get-insert nat_list_cmp_total map.empty (codes "user-agent") (values_of (codes "user-agent") map.empty ++ name ∷ []) (codes "authorization") ∙ get-empty by_bytes (codes "authorization"))

three_held : (name types value : List ℕ) → held (added (two name types) (codes "authorization") value) ≡ 3
three_held name types value =
    ap (λ (es : List (List ℕ × List (List ℕ))). sum_by (λ e. length e.1) es) (entries-insert nat_list_cmp_total (two name types) (codes "authorization") (values_of (codes "authorization") (two name types) ++ value ∷ []))
    ∙ ap (λ (es : List (List ℕ × List (List ℕ))). sum_by (λ (e : List ℕ × List (List ℕ)). length e.1) (put by_bytes (codes "authorization") (values_of (codes "authorization") (two name types) ++ value ∷ []) es)) (two_entries name types)
    ∙ ap (λ (xs : List (List ℕ)). sum_by (λ (e : List ℕ × List (List ℕ)). length e.1) (put by_bytes (codes "authorization") (xs ++ value ∷ []) ((codes "accept", types ∷ []) ∷ (codes "user-agent", name ∷ []) ∷ []))) (no_token name types)

-- a request has room for one more field
abbrev pub HasRoom : Request → Type 0
HasRoom request = nat_lt (held request.headers) 1000 ≡ true

by_token : (name types : List ℕ) (token : Option RegistryTokenType) (headers : Fields) → with_token token (two name types) ≡ Ok headers → nat_lt (held headers) 1000 ≡ true
by_token name types None headers is = let same : two name types ≡ headers = cc is in ap (λ (m : Fields). nat_lt (held m) 1000) (sym same) ∙ ap (λ n. nat_lt n 1000) (two_held name types)
by_token name types (Some token) headers is =
    let same = with_ok (two name types) (codes "authorization") (authorization_of token) headers is in
    ap (λ (m : Fields). nat_lt (held m) 1000) same ∙ ap (λ n. nat_lt n 1000) (three_held name types (authorization_of token))

pub has_room : (s : Settings) (method : Method) (url : Parts) (types : List ℕ) (token : Option RegistryTokenType) (request : Request) → request_of s method url (Some types) token ≡ Ok request → HasRoom request
has_room s method url types token request is =
    let made = made_of s method url (Some types) token request is in
    let listing = with_ok (added map.empty (codes "user-agent") s.user_agent) (codes "accept") types made.listing made.listed in
    ap (λ (r : Request). nat_lt (held r.headers) 1000) made.is ∙ by_token s.user_agent types token made.headers (subst (λ (m : Fields). with_token token m ≡ Ok made.headers) listing made.shown)

-- ---- it changes nothing else

pub range_shows : (m : Fields) (value : List ℕ) → values_of (codes "authorization") (added m (codes "range") value) ≡ values_of (codes "authorization") m
range_shows m value = ap (λ (o : Option (List (List ℕ))). unwrap_or o []) (get-insert nat_list_cmp_total m (codes "range") (values_of (codes "range") m ++ value ∷ []) (codes "authorization"))

-- it is never refused if it is a valid header value and there is room
pub range_stays : (request : Request) (value : List ℕ) (e : OciDistributionError) → HasRoom request → is_header_value value ≡ true → with_header request.headers (codes "range") value ≡ Err e → ⊥
range_stays request value e room stands is = cc (sym stands ∙ refused_value request.headers (codes "range") value e (held request.headers) refl room is)
