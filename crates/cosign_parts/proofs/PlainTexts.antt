-- JSON texts whose numbers are integers: they contain no float, and what their values' members are.
use Rattle.std.proofs.Common.{◌≡◌, List, [], ◌∷◌, ◌++◌, Bool, true, false, cond, not, ◌&&◌, ◌||◌, Option, Some, None}
use Rattle.std.proofs.Common.{ℕ, ◌≤◌, IsUtf8, Ordering, Less, Equal, Greater, option_map, option_and_then, bytes_eq, length}
use Rattle.std.proofs.Common.{true≢false, append-nil, refl, sym, ap, ap₂, ◌∙◌, subst, arith}
use Rattle.std.proofs.lemmas.Slice.Eq.{bytes_eq-Decides}
use Rattle.std.proofs.lemmas.Str.{is_utf8-from_IsUtf8}
use Rattle.std.specs.List.{list_all}
use Rattle.std.specs.Ordering.{match_ordering}
use Rattle.json.specs.Token.{Token}
use Rattle.json.specs.Lex.{tokens}
use Rattle.json.specs.Json as json
use Rattle.json.specs.Json.{parse_map, if_last, value, members}
use Rattle.json.specs.Find.{later_or, get_member as last_named}
use Rattle.json.specs.Tree.{json_tokens, items_tokens, members_tokens, depth}
use Rattle.json.proofs.Grammar.{value-begin_object}
use Rattle.json.proofs.Printed.Trees.{value-json_tokens}
use Rattle.json.proofs.Unique.Spelling.{value-json_tokens_back, tokens-document}
use Rattle.serde_json.specs.Data.{Num, Data, null, boolean, number, string, array, object, Items, no_items, item}
use Rattle.serde_json.specs.Data.{Members, no_members, member, put}
use Rattle.serde_json.specs.Find.{get, get_member, is_float}
use Rattle.serde_json.specs.Read.{number_of, of_json, of_items, of_members, read}
use Rattle.serde_json.specs.Written.{has_float, items_have_float, members_have_float}
use Rattle.serde_json.proofs.Views.{get_member-put, get_member-put_other}
use Rattle.json_tables.specs.Reading.{◌>>=◌}
use Rattle.json_values.specs.JsonText.{json_of, plain_json_of, is_plain}
use Rattle.json_values.proofs.JsonTexts.{json_of-read, json_of-refused}
use Rattle.cosign_parts.specs.Statement.{is_integer, is_whole_token, plain_member}

-- ---- numbers that are integers

both : (a b : Bool) → (a && b) ≡ true → (a ≡ true) × (b ≡ true)
both true b e = (refl, e)
both false b e = absurd (cc)

flipped : (b : Bool) → not b ≡ true → b ≡ false
flipped true e = absurd (cc)
flipped false e = refl

numbered : (o : Option Num) → is_integer o ≡ true → (n : Num) × (o ≡ Some n) × (is_float n ≡ false)
numbered None e = absurd (cc)
numbered (Some n) e = (n, refl, flipped (is_float n) e)

-- the number of each token is an integer
abbrev pub AreWhole : List Token → Type 0
AreWhole ts = list_all is_whole_token ts ≡ true

all_of : (ts us : List Token) → AreWhole (ts ++ us) → AreWhole ts × AreWhole us
all_of [] us e = (refl, e)
all_of (t ∷ ts) us e =
    let two = both (is_whole_token t) (list_all is_whole_token (ts ++ us)) e in
    let more = all_of ts us two.1 in
    (ap₂ (λ a b. a && b) two.0 more.0, more.1)

-- ---- no float among the members

neither : (a b : Bool) → (a || b) ≡ false → (a ≡ false) × (b ≡ false)
neither true b e = absurd (cc)
neither false b e = (refl, e)

by_order : (o : Ordering) (a b c : Members) → members_have_float a ≡ false → members_have_float b ≡ false
    → members_have_float c ≡ false → members_have_float (match_ordering o a b c) ≡ false
by_order Less a b c p q r = p
by_order Equal a b c p q r = q
by_order Greater a b c p q r = r

neither_has : (a b : Bool) → a ≡ false → b ≡ false → (a || b) ≡ false
neither_has a b e f = ap₂ (λ x y. x || y) e f

put_plain : (k : List ℕ) (d : Data) (ms : Members) → has_float d ≡ false → members_have_float ms ≡ false
    → members_have_float (put k d ms) ≡ false
put_plain k d no_members e f = neither_has (has_float d) false e refl
put_plain k d (member l x ms) e f =
    let two = neither (has_float x) (members_have_float ms) f in
    by_order _ (member k d (member l x ms)) (member l d ms) (member l x (put k d ms))
    (neither_has (has_float d) _ e f) (neither_has (has_float d) _ e two.1)
    (neither_has (has_float x) _ two.0 (put_plain k d ms e two.1))

mutual
  plain : (j : json.Json) → AreWhole (json_tokens j) → (d : Data) × (of_json j ≡ Some d) × (has_float d ≡ false)
  plain json.null e = (null, refl, refl)
  plain (json.boolean b) e = (boolean b, refl, refl)
  plain (json.number s) e =
      let n = numbered (number_of s) (both (is_integer (number_of s)) true e).0 in
      (number n.0, ap (option_map number) n.1, n.2)
  plain (json.string s) e = (string s, refl, refl)
  plain (json.array js) e = let ds = plain_items js e in (array ds.0, ap (option_map array) ds.1, ds.2)
  plain (json.object ms) e =
      let ds = plain_members ms no_members refl e in (object ds.0, ap (option_map object) ds.1, ds.2)

  plain_items : (js : json.Items) → AreWhole (items_tokens js)
      → (ds : Items) × (of_items js ≡ Some ds) × (items_have_float ds ≡ false)
  plain_items json.no_items e = (no_items, refl, refl)
  plain_items (json.item j js) e =
      let two = all_of (json_tokens j) (items_tokens js) e in
      let d = plain j two.0 in
      let ds = plain_items js two.1 in (
        item d.0 ds.0,
        ap (option_and_then (λ x. option_map (item x) (of_items js))) d.1 ∙ ap (option_map (item d.0)) ds.1,
        neither_has (has_float d.0) (items_have_float ds.0) d.2 ds.2,
      )

  plain_members : (ms : json.Members) (found : Members) → members_have_float found ≡ false
      → AreWhole (members_tokens ms)
      → (ds : Members) × (of_members ms found ≡ Some ds) × (members_have_float ds ≡ false)
  plain_members json.no_members found f e = (found, refl, f)
  plain_members (json.member k j ms) found f e =
      let two = all_of (json_tokens j) (members_tokens ms) e in
      let d = plain j two.0 in
      let more = plain_members ms (put k d.0 found) (put_plain k d.0 found d.2 f) two.1 in
      (more.0, ap (option_and_then (λ x. of_members ms (put k x found))) d.1 ∙ more.1, more.2)

-- ---- the last member of a name is the one that stays

some_first : {A B : Type 0} (o : Option A) (f : A → Option B) (b : B) → option_and_then f o ≡ Some b
    → (a : A) × (o ≡ Some a) × (f a ≡ Some b)
some_first None f b e = absurd (cc)
some_first (Some a) f b e = (a, refl, e)

abbrev found_or : Option json.Json → Option Data → Option Data
found_or None earlier = earlier
found_or (Some j) earlier = of_json j

module _ (name k : List ℕ) (j : json.Json) (d : Data) (found : Members) (is : of_json j ≡ Some d) where
  here : (o : Option json.Json) (b : Bool) → bytes_eq k name ≡ b
      → found_or o (get_member name (put k d found)) ≡ found_or (later_or o (cond b (Some j) None)) (get_member name found)
  here (Some i) b e = refl
  here None true e =
      let same : k ≡ name = (bytes_eq-Decides k name).0 e in
      ap (λ n. get_member n (put k d found)) (sym same) ∙ get_member-put k d found ∙ sym is
  here None false e =
      get_member-put_other name k d found (λ same. true≢false (sym ((bytes_eq-Decides k name).1 (sym same)) ∙ e))

stays : (name : List ℕ) (ms : json.Members) (found ds : Members) → of_members ms found ≡ Some ds
    → get_member name ds ≡ found_or (last_named name ms) (get_member name found)
stays name json.no_members found ds e = ap (option_and_then (get_member name)) (sym e)
stays name (json.member k j ms) found ds e =
    let d = some_first (of_json j) (λ x. of_members ms (put k x found)) ds e in
    stays name ms (put k d.0 found) ds d.2 ∙ here name k j d.0 found d.1 (last_named name ms) (bytes_eq k name) refl

found_alone : (o : Option json.Json) → found_or o None ≡ option_and_then of_json o
found_alone None = refl
found_alone (Some j) = refl

-- ---- a whole text

abbrev keep : Data → Option Data
keep d = cond (is_plain d) (Some d) None

abbrev last : Option (json.Json × List Token) → Option json.Json
last o = option_and_then (λ p. if_last p.0 p.1) o

abbrev read_by : Option (json.Json × List Token) → Option Data
read_by o = option_and_then of_json (last o)

-- bytes that are not UTF-8 have no member
pub unspelt : (name bytes : List ℕ) → ¬ IsUtf8 bytes → None ≡ plain_member name bytes
unspelt name bytes not_text =
    sym (ap (λ o. option_and_then keep o >>= get name) (json_of-refused bytes (λ spelt. absurd (not_text spelt))))

module _ (name text : List ℕ) (spelt : IsUtf8 text) where
  refused : read text ≡ None → None ≡ plain_member name text
  refused none = sym (ap (λ o. option_and_then keep o >>= get name) (json_of-refused text (λ _. none)))

  module _ (ts : List Token) (opened : tokens text ≡ Token.begin_object ∷ ts) where
    as_object : (o : Option (json.Members × List Token)) → members (value 126) (length ts) ts ≡ o
        → value 127 (tokens text) ≡ parse_map json.object o
    as_object o e = ap (value 127) opened ∙ value-begin_object 127 ts (omega arith) ∙ ap (parse_map json.object) e

    -- its members are not JSON
    pub members_refused : members (value 126) (length ts) ts ≡ None → None ≡ plain_member name text
    members_refused e = refused (ap read_by (as_object None e))

    -- something follows its members
    pub more_follows : (ms : json.Members) (t : Token) (r : List Token)
        → members (value 126) (length ts) ts ≡ Some (ms, t ∷ r) → None ≡ plain_member name text
    more_follows ms t r e = refused (ap read_by (as_object (Some (ms, t ∷ r)) e))

    -- the last member of the name, if the text's numbers are integers
    pub member_of_text : (ms : json.Members) → members (value 126) (length ts) ts ≡ Some (ms, []) → AreWhole (tokens text)
        → option_and_then of_json (last_named name ms) ≡ plain_member name text
    member_of_text ms e whole =
        let parsed = as_object (Some (ms, [])) e in
        let spelled = value-json_tokens_back 127 (tokens text) [] (json.object ms) parsed in
        let all = (all_of (json_tokens (json.object ms)) [] (subst AreWhole spelled whole)).0 in
        let ds = plain_members ms no_members refl all in
        let is : read text ≡ Some (object ds.0) = ap read_by parsed ∙ ap (option_map object) ds.1 in
        let kept : plain_json_of text ≡ Some (object ds.0) =
        ap (option_and_then keep) (json_of-read text (object ds.0) spelt is) ∙ ap (λ b. cond (not b) (Some (object ds.0)) None) ds.2 in
        sym (ap (λ o. o >>= get name) kept ∙ stays name ms no_members ds.0 ds.1 ∙ found_alone (last_named name ms))

-- the text of a value reads back as the value
pub reads_back : (j : json.Json) (bytes : List ℕ) → depth j ≤ 126 → IsUtf8 bytes → json.document bytes ≡ Some j
    → json_of bytes ≡ of_json j
reads_back j bytes shallow spelt is =
    let parsed : value 127 (tokens bytes) ≡ Some (j, []) =
    ap (value 127) (tokens-document bytes j is ∙ sym (append-nil (json_tokens j)))
    ∙ value-json_tokens j 127 [] (omega (arith, shallow)) in
    ap (λ b. cond b (read bytes) None) (is_utf8-from_IsUtf8 bytes spelt) ∙ ap read_by parsed
