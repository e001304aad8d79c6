-- Redirects of a shelf lead to what it has under the requested path.
use Rattle.std.specs.Prelude.{codes, nat_lt, sum_by, slice_get, unwrap_or, IsTrue, is_none, if◌then◌else◌}
use Rattle.std.specs.List.{list_all}
use Rattle.std.specs.Option.{option_map_or}
use Rattle.std.specs.Ordering.{eq_by_cmp, is_eq}
use Rattle.std.specs.declared.cmp.Ordering.{Ordering}
use Rattle.std.specs.declared.cmp.Ordering.TheVariants.{Less, Equal, Greater}
use Rattle.std.specs.FinMap as map
use Rattle.std.specs.FinMap.{find, get-entries, get-empty, get-insert, len-entries, len-empty, nat_cmp-IsAntisymmetric, slice_cmp-IsAntisymmetric}
use Rattle.std.specs.Cmp.Lexicographic.{nat_list_cmp_total}
use Rattle.std.proofs.Common.{◌≡◌, ℕ, zero, suc, Bool, true, false, cond, ◌&&◌, List, [], ◌∷◌, ◌++◌, length, All, Option, Some, None, refl, sym, ap, ◌∙◌, subst, arith}
use Rattle.std.proofs.lemmas.Bool.{true≢false}
use Rattle.std.proofs.lemmas.Bool.Decides.{nat_tests}
use Rattle.std.proofs.lemmas.List.{nil_from_length}
use Rattle.std.proofs.lemmas.List.Elements.{All-weaker}
use Rattle.std.proofs.lemmas.Slice.Eq.{bytes_eq-Decides}
use Rattle.percent_encoding.proofs.PercentLemmas.{IsByte}
use Rattle.json_values.specs.Places.{by_bytes}
use Rattle.url.specs.Parts.{Parts, serialize}
use Rattle.url.specs.Parser.{parse_url}
use Rattle.url.proofs.InputLemmas.{list_all_from_All}
use Rattle.url.proofs.Theorems.{parse_url-serialize_special}
use Rattle.oci_transport.specs.Headers.{first_of, values_of, added, held, is_value_byte, is_header_value, is_text_byte, is_text, has_room}
use Rattle.oci_transport.specs.Redirects.{text_of, may_follow, is_redirect_status, kept_headers, moved, moved_text, moved_from, moved_to, joined_text, location_of, redirected}
use Rattle.oci_transport.specs.Urls.{request_url, same_origin}
use Rattle.oci_transport.specs.declared.message.Request.{Request}
use Rattle.oci_transport.specs.declared.message.Answer.{Answer}
use Rattle.oci_transport.specs.declared.message.AnswerHead.{AnswerHead}
use Rattle.oci_transport.specs.declared.message.Method.{Method}
use Rattle.oci_transport.specs.declared.message.Method.TheVariants as method
use Rattle.oci_protocol.specs.Proto.{Reading, Reply, Headed, Proto}
use Rattle.oci_protocol.specs.Evaluation.{reply_of}
use Rattle.oci_protocol.specs.Follow.{unread_if, turned, go_if, turn, follow}
use Rattle.oci_protocol.specs.Runs.{head_part}
use Rattle.oci_link.specs.Leads.{Texts, is_own_text, same_path, ends_within, entry_leads, redirects_lead}
use Rattle.oci_link.specs.Paths.{path_of}
use Rattle.oci_link.specs.Table.{answer, at_path, redirect_to, unless_redirected, is_get_or_head}
use Rattle.oci_link.specs.declared.shelf.Shelf.{Shelf}
use Rattle.shelf_laws.specs.EvaluatesWith.{IsHeld, EvaluatesWith}
use Rattle.shelf_laws.proofs.TableSteps.{Stands, EvaluatesWith-follow}
use Rattle.shelf_laws.proofs.ReadUrls.{Visible, request_read}

-- ---- each redirect

equal_from : (o : Ordering) → is_eq o ≡ true → o ≡ Equal
equal_from Less h = cc
equal_from Equal h = refl
equal_from Greater h = cc

and_left : (a b : Bool) → (a && b) ≡ true → a ≡ true
and_left true b h = refl
and_left false b h = cc h

and_right : (a b : Bool) → (a && b) ≡ true → b ≡ true
and_right true b h = h
and_right false b h = cc h

-- what holds for all entries holds for the one that is found
found_all : (p : List ℕ × List ℕ → Bool) (es : List (List ℕ × List ℕ)) (name value : List ℕ) → list_all p es ≡ true → find by_bytes name es ≡ Some value → p (name, value) ≡ true
found_all p [] name value all is = cc
found_all p (e ∷ es) name value all is = by_name (eq_by_cmp by_bytes name e.0) refl is (found_all p es name value (and_right (p e) (list_all p es) all)) where
  by_name : (b : Bool) → eq_by_cmp by_bytes name e.0 ≡ b → cond b (Some e.1) (find by_bytes name es) ≡ Some value → (find by_bytes name es ≡ Some value → p (name, value) ≡ true) → p (name, value) ≡ true
  by_name true same here later =
      let key : name ≡ e.0 = slice_cmp-IsAntisymmetric nat_cmp-IsAntisymmetric name e.0 (equal_from (by_bytes name e.0) same) in
      let own : e.1 ≡ value = cc here in
      (λ i. p (key i, sym own i)) ∙ and_left (p e) (list_all p es) all
  by_name false other is later = later is

-- a redirect of a shelf whose redirects all end
record Leads (shelf : Shelf) (name value : List ℕ) : Type 0 where
  url : Parts
  reads : request_url value ≡ Some url
  text : serialize url ≡ value
  path : path_of name ≡ path_of value
  ends : ends_within 10 shelf.redirects name ≡ true

own_url : (text : List ℕ) (o : Option Parts) → is_own_text text o ≡ true → (url : Parts) × (o ≡ Some url) × (serialize url ≡ text)
own_url text None h = cc
own_url text (Some url) h = (url, refl, (bytes_eq-Decides (serialize url) text).0 h)

paths_same : (a b : Option (List ℕ)) → same_path a b ≡ true → a ≡ b
paths_same (Some a) (Some b) h = ap Some ((bytes_eq-Decides a b).0 h)
paths_same (Some a) None h = cc
paths_same None (Some b) h = cc
paths_same None None h = cc

leads_at : (shelf : Shelf) (name value : List ℕ) → IsTrue (redirects_lead shelf) → map.get shelf.redirects name ≡ Some value → Leads shelf name value
unfolding redirects_lead
leads_at shelf name value lead is =
    let own = is_own_text value (request_url value) in
    let paths = same_path (path_of name) (path_of value) in
    let all : entry_leads shelf.redirects (name, value) ≡ true = found_all (entry_leads shelf.redirects) (map.entries shelf.redirects) name value lead (sym (get-entries shelf.redirects name) ∙ is) in
    let later = and_right own (paths && ends_within 10 shelf.redirects name) all in
    let url = own_url value (request_url value) (and_left own (paths && ends_within 10 shelf.redirects name) all) in
    record { url = url.0; reads = url.1; text = url.2; path = paths_same (path_of name) (path_of value) (and_left paths (ends_within 10 shelf.redirects name) later); ends = and_right paths (ends_within 10 shelf.redirects name) later }

-- no more than ten steps are needed, from any text
ends_ten : (shelf : Shelf) (text : List ℕ) → IsTrue (redirects_lead shelf) → ends_within 10 shelf.redirects text ≡ true
ends_ten shelf text lead = by_redirect (map.get shelf.redirects text) refl where
  by_redirect : (o : Option (List ℕ)) → map.get shelf.redirects text ≡ o → ends_within 10 shelf.redirects text ≡ true
  by_redirect None is = ap (λ o. option_map_or (ends_within 9 shelf.redirects) o true) is
  by_redirect (Some value) is = (leads_at shelf text value lead is).ends

-- ---- the request that a redirect leads to

value_byte : (b : ℕ) → Visible b → is_value_byte b ≡ true
value_byte b h = grind (arith, nat_tests)

text_byte : (b : ℕ) → Visible b → is_text_byte b ≡ true
text_byte b h = grind (arith, nat_tests)

pub byte_below : (b : ℕ) → Visible b → IsByte b
byte_below b h = grind (arith, nat_tests)

value_visible : {shelf : Shelf} {name value : List ℕ} → Leads shelf name value → All Visible value
value_visible l = subst (All Visible) l.text (request_read _ l.url l.reads).visible

-- resolved against any URL, the value is itself
joins_itself : {shelf : Shelf} {name value : List ℕ} (base : Parts) → Leads shelf name value → joined_text base value ≡ Some value
unfolding joined_text
joins_itself {shelf} {name} {value} base l =
    let read = request_read value l.url l.reads in
    let valid = read.valid (All-weaker Visible IsByte byte_below value (value_visible l)) in
    ap (λ (t : List ℕ). text_of (parse_url (Some base) t)) (sym l.text) ∙ ap text_of (parse_url-serialize_special l.url (Some base) valid read.kind) ∙ ap Some l.text

pub no_entries : map.entries (map.empty {X = List (List ℕ)} {R = by_bytes}) ≡ []
no_entries = nil_from_length _ (sym (len-entries map.empty) ∙ len-empty by_bytes (List (List ℕ)))

pub none_held : held map.empty ≡ 0
none_held = ap (λ (es : List (List ℕ × List (List ℕ))). sum_by (λ e. length e.1) es) no_entries

location_first : (value : List ℕ) → All Visible value → first_of (codes "location") (redirect_to value).headers ≡ Some value
location_first value visible =
    let good : is_header_value value ≡ true = list_all_from_All is_value_byte value (All-weaker Visible (λ b. is_value_byte b ≡ true) value_byte value visible) in
    ap (λ b. first_of (codes "location") (unwrap_or (if b && has_room map.empty then Some (added map.empty (codes "location") value) else None) map.empty)) good
    ∙ ap (λ n. first_of (codes "location") (unwrap_or (if nat_lt n 1000 then Some (added map.empty (codes "location") value) else None) map.empty)) none_held
    ∙ ap (λ o. slice_get (unwrap_or o []) 0) (get-insert nat_list_cmp_total map.empty (codes "location") (values_of (codes "location") map.empty ++ value ∷ []) (codes "location"))
    ∙ ap (λ (o : Option (List (List ℕ))). slice_get (unwrap_or o [] ++ value ∷ []) 0) (get-empty by_bytes (codes "location"))

-- the same request for the value
abbrev moved_there : Request → Parts → Parts → List ℕ → Request
moved_there request base url value = record { method = request.method; url = value; headers = kept_headers (same_origin base url) request.headers; body = request.body }

redirect_leads : {shelf : Shelf} {value : List ℕ} (request : Request) (base : Parts) → may_follow request.method ≡ true → request_url request.url ≡ Some base → (l : Leads shelf request.url value) → redirected request (head_part (redirect_to value)) ≡ Some (moved_there request base l.url value)
unfolding redirected
redirect_leads {shelf} {value} request base follows reads l =
    let visible = value_visible l in
    let written : is_text value ≡ true = list_all_from_All is_text_byte value (All-weaker Visible (λ b. is_text_byte b ≡ true) text_byte value visible) in
    ap (λ b. if b && true then moved_to request (location_of (first_of (codes "location") (redirect_to value).headers)) else None) follows
    ∙ ap (λ o. moved_to request (location_of o)) (location_first value visible)
    ∙ ap (λ b. moved_to request (if b then Some value else None)) written
    ∙ ap (moved_from request value) reads
    ∙ ap (moved_text request base) (joins_itself base l)
    ∙ ap (moved request base value) l.reads

-- ---- the final response

-- the request is a GET or HEAD of a valid URL; under its path the shelf has this response, which is not a redirect
pub record Answers (shelf : Shelf) (request : Request) (x : Answer) : Type 0 where
  pub follows : may_follow request.method ≡ true
  pub url : Parts
  pub reads : request_url request.url ≡ Some url
  pub at : at_path shelf request.method (path_of request.url) ≡ x
  pub rests : is_redirect_status x.status ≡ false

get_or_head : (m : Method) → may_follow m ≡ true → is_get_or_head m ≡ true
get_or_head method.Get h = refl
get_or_head method.Head h = refl
get_or_head _ h = absurd (true≢false (sym h))

answer_by : (shelf : Shelf) (request : Request) (o : Option (List ℕ)) → may_follow request.method ≡ true → map.get shelf.redirects request.url ≡ o → answer shelf request ≡ unless_redirected shelf request o
unfolding answer
answer_by shelf request o follows is = ap (λ b. unless_redirected shelf request (if b then map.get shelf.redirects request.url else None)) (get_or_head request.method follows) ∙ ap (unless_redirected shelf request) is

rests_not : (request : Request) (x : Answer) → is_redirect_status x.status ≡ false → redirected request (head_part x) ≡ None
unfolding redirected
rests_not request x rests = ap (λ b. if may_follow request.method && b then moved_to request (location_of (first_of (codes "location") x.headers)) else None) rests ∙ by_method (may_follow request.method) where
  by_method : (b : Bool) → (if b && false then moved_to request (location_of (first_of (codes "location") x.headers)) else None) ≡ None
  by_method true = refl
  by_method false = refl

pub rest_stands : (n : ℕ) (request : Request) (x : Answer) → is_redirect_status x.status ≡ false → Stands n request x
rest_stands zero request x rests = tt
rest_stands (suc n) request x rests = rests_not request x rests

moves : {shelf : Shelf} {value : List ℕ} (request : Request) (x : Answer) (asked : Answers shelf request x) (l : Leads shelf request.url value) → Answers shelf (moved_there request asked.url l.url value) x
moves {shelf} request x asked l = record { follows = asked.follows; url = l.url; reads = l.reads; at = ap (at_path shelf request.method) (sym l.path) ∙ asked.at; rests = asked.rests }

never_none : (n : ℕ) (redirects : Texts) (text value : List ℕ) → map.get redirects text ≡ Some value → ends_within (suc n) redirects text ≡ true → ends_within n redirects value ≡ true
never_none n redirects text value is ends = ap (λ o. option_map_or (ends_within n redirects) o true) (sym is) ∙ ends

-- a step of a redirect that is followed
EvaluatesWith-turn : {K A : Type 0} (table : Request → Answer) (Q : K → A → Type 0) (n : ℕ) (request there : Request) (reading : AnswerHead → Reading) (next : Request → Reply → Proto K A) (x : Answer) (k : K)
    → table request ≡ x → redirected request (head_part x) ≡ Some there → EvaluatesWith table Q (follow n there reading next) k → EvaluatesWith table Q (follow (suc n) request reading next) k
unfolding EvaluatesWith follow turned
EvaluatesWith-turn {K} {A} table Q n request there reading next x k is some h =
    let gone : EvaluatesWith table Q (go_if (redirected request (head_part x)) (λ r. follow n r reading next) (next request (Headed (head_part x)))) k = subst (λ (o : Option Request). EvaluatesWith table Q (go_if o (λ r. follow n r reading next) (next request (Headed (head_part x)))) k) (sym some) h in
    let read : IsHeld (turned request reading (head_part x)) × EvaluatesWith table Q (turn request (λ r. follow n r reading next) (next request) (reply_of (turned request reading (head_part x)) x)) k =
    subst (λ (o : Option Request). IsHeld (unread_if o (reading (head_part x))) × EvaluatesWith table Q (turn request (λ r. follow n r reading next) (next request) (reply_of (unread_if o (reading (head_part x))) x)) k) (sym some) (tt, gone) in
    subst (λ (y : Answer). IsHeld (turned request reading (head_part y)) × EvaluatesWith table Q (turn request (λ r. follow n r reading next) (next request) (reply_of (turned request reading (head_part y)) y)) k) (sym is) read

-- a request whose redirects are followed gets what the shelf has under its path, whichever request was the last
module _ {K A : Type 0} {shelf : Shelf} (lead : IsTrue (redirects_lead shelf)) (Q : K → A → Type 0) (reading : AnswerHead → Reading) (next : Request → Reply → Proto K A) (x : Answer) (k : K) (held : IsHeld (reading (head_part x))) (after : (last : Request) → EvaluatesWith (answer shelf) Q (next last (reply_of (reading (head_part x)) x)) k) where
  stays : (n : ℕ) (request : Request) → Answers shelf request x → map.get shelf.redirects request.url ≡ None → EvaluatesWith (answer shelf) Q (follow n request reading next) k
  stays n request asked none = EvaluatesWith-follow (answer shelf) Q n request reading next x k (answer_by shelf request None asked.follows none ∙ asked.at) (rest_stands n request x asked.rests) held (after request)

  last_step : (request : Request) (o : Option (List ℕ)) → Answers shelf request x → map.get shelf.redirects request.url ≡ o → ends_within 0 shelf.redirects request.url ≡ true → EvaluatesWith (answer shelf) Q (follow 0 request reading next) k
  last_step request None asked none ends = stays 0 request asked none
  last_step request (Some value) asked is ends = absurd (true≢false (sym ends ∙ ap is_none is))

  one_step : (n : ℕ) (request : Request) (o : Option (List ℕ)) (asked : Answers shelf request x) → map.get shelf.redirects request.url ≡ o → ends_within (suc n) shelf.redirects request.url ≡ true
      → ((there : Request) → Answers shelf there x → ends_within n shelf.redirects there.url ≡ true → EvaluatesWith (answer shelf) Q (follow n there reading next) k) → EvaluatesWith (answer shelf) Q (follow (suc n) request reading next) k
  one_step n request None asked none ends more = stays (suc n) request asked none
  one_step n request (Some value) asked is ends more =
      let l : Leads shelf request.url value = leads_at shelf request.url value lead is in
      let there = moved_there request asked.url l.url value in
      EvaluatesWith-turn (answer shelf) Q n request there reading next (redirect_to value) k (answer_by shelf request (Some value) asked.follows is) (redirect_leads request asked.url asked.follows asked.reads l)
      (more there (moves request x asked l) (never_none n shelf.redirects request.url value is ends))

  EvaluatesWith-steps : (n : ℕ) (request : Request) → Answers shelf request x → ends_within n shelf.redirects request.url ≡ true → EvaluatesWith (answer shelf) Q (follow n request reading next) k
  EvaluatesWith-steps zero request asked ends = last_step request (map.get shelf.redirects request.url) asked refl ends
  EvaluatesWith-steps (suc n) request asked ends = one_step n request (map.get shelf.redirects request.url) asked refl ends (λ there a e. EvaluatesWith-steps n there a e)

  pub EvaluatesWith-led : (request : Request) → Answers shelf request x → EvaluatesWith (answer shelf) Q (follow 10 request reading next) k
  EvaluatesWith-led request asked = EvaluatesWith-steps 10 request asked (ends_ten shelf request.url lead)

-- ---- what the shelf has under its paths, with any redirects

unredirected : (shelf : Shelf) (request : Request) → map.get shelf.redirects request.url ≡ None → answer shelf request ≡ at_path shelf request.method (path_of request.url)
unfolding answer
unredirected shelf request none = by_method (is_get_or_head request.method) where
  by_method : (b : Bool) → unless_redirected shelf request (if b then map.get shelf.redirects request.url else None) ≡ at_path shelf request.method (path_of request.url)
  by_method true = ap (unless_redirected shelf request) none
  by_method false = refl

-- the same shelf with no redirects
abbrev pub without_redirects : Shelf → Shelf
without_redirects shelf = record shelf { redirects = map.empty }

pub at_path_is : (shelf : Shelf) (request : Request) (x : Answer) → (map.get (without_redirects shelf).redirects request.url ≡ None → answer (without_redirects shelf) request ≡ x) → at_path shelf request.method (path_of request.url) ≡ x
at_path_is shelf request x is =
    let none : map.get (without_redirects shelf).redirects request.url ≡ None = get-empty by_bytes request.url in
    sym (unredirected (without_redirects shelf) request none) ∙ is none
