-- Plain paths of a registry are parsed verbatim.
use Rattle.std.proofs.Common.{◌≡◌, inl, inr, ◌⊎◌, ℕ, ◌<◌, Bool, true, false, cond, not, ◌&&◌, ◌||◌, ◌==◌, List, [], ◌∷◌, ◌++◌, length, get_or, Some, None, Ok, Err, All, refl, sym, ap, subst, ◌∙◌, arith, append_assoc, append-nil}
use Rattle.std.specs.Prelude.{unwrap_or, is_some, codes, bytes_eq}
use Rattle.std.specs.List.{list_all}
use Rattle.std.specs.Char.{is_ascii_alphanumeric, is_ascii_digit}
use Rattle.std.proofs.lemmas.Bool.Decides.{nat_tests}
use Rattle.std.proofs.lemmas.Slice.Eq.{bytes_eq-Decides}
use Rattle.std.proofs.lemmas.List.Elements.{All-head, All-tail}
use Rattle.url.specs.declared.scheme.SchemeType.TheVariants.{SpecialNotFile}
use Rattle.url.specs.declared.slicing.Position.TheVariants.{BeforeUsername, AfterPort, AfterPath}
use Rattle.url.specs.Input.{when}
use Rattle.url.specs.Scheme.{scheme_type, default_port, is_special}
use Rattle.url.specs.Path.{IsSegmentList}
use Rattle.url.specs.Parts.{Parts, kind_of, has_authority, serialize, text_before, text_between, IsValid}
use Rattle.url.specs.Parser.{Parsed, parse_url}
use Rattle.url.proofs.InputLemmas.{Passes}
use Rattle.url.proofs.LayoutLemmas.{IsValidHead_same}
use Rattle.url.proofs.PathLemmas.{rooted}
use Rattle.url.proofs.TextLemmas.{is_authority_byte, authority_bytes}
use Rattle.url.proofs.ValidLemmas.{hierarchical, special_has_authority, base_from_authority}
use Rattle.url.proofs.RoundTrip.{body_text}
use Rattle.url.proofs.Theorems.{parse_url-serialize_special}
use Rattle.oci_names.specs.Words.{Run, Joined, Dashes, DomainComponent, Host, Domain}
use Rattle.oci_transport.specs.Urls.{is_web, readable, request_url, registry_text}
use Rattle.oci_link.specs.PlainPaths.{Scheme, PlainPath, PlainPathsRead}
use Rattle.oci_link.proofs.PlainSegments.{and_left, and_right, segments_of, path_long}

-- the text does not contain this byte
abbrev Lacks : ℕ → List ℕ → Type 0
Lacks c xs = list_all (λ b. not (b == c)) xs ≡ true

record Same (xs ys us vs : List ℕ) : Type 0 where
  front : xs ≡ us
  back : ys ≡ vs

lacking : (c : ℕ) (b : ℕ) (xs : List ℕ) → Lacks c (b ∷ xs) → b ≡ c → ⊥
lacking c b xs lacks same = let other : not (b == c) ≡ true = and_left (not (b == c)) (list_all (λ b. not (b == c)) xs) lacks in grind (arith, nat_tests)

-- a string is split at its first such byte in only one way
first_mark : (c : ℕ) (xs ys us vs : List ℕ) → Lacks c xs → Lacks c us → xs ++ c ∷ ys ≡ us ++ c ∷ vs → Same xs ys us vs
first_mark c [] ys [] vs free none is = record { front = refl; back = cc is }
first_mark c [] ys (u ∷ us) vs free none is = absurd (lacking c u us none (cc is))
first_mark c (x ∷ xs) ys [] vs free none is = absurd (lacking c x xs free (cc is))
first_mark c (x ∷ xs) ys (u ∷ us) vs free none is =
    let rest = first_mark c xs ys us vs (and_right (not (x == c)) (list_all (λ b. not (b == c)) xs) free) (and_right (not (u == c)) (list_all (λ b. not (b == c)) us) none) (cc is) in
    let head : x ≡ u = cc is in
    record { front = λ i. head i ∷ rest.front i; back = rest.back }

lacks_append : (c : ℕ) (xs ys : List ℕ) → Lacks c xs → Lacks c ys → Lacks c (xs ++ ys)
lacks_append c [] ys h k = k
lacks_append c (x ∷ xs) ys h k =
    ap (λ v. v && list_all (λ b. not (b == c)) (xs ++ ys)) (and_left (not (x == c)) (list_all (λ b. not (b == c)) xs) h) ∙ lacks_append c xs ys (and_right (not (x == c)) (list_all (λ b. not (b == c)) xs) h) k

lacks_all : (c : ℕ) (p : ℕ → Bool) → ((b : ℕ) → p b ≡ true → (b == c) ≡ false) → (xs : List ℕ) → list_all p xs ≡ true → Lacks c xs
lacks_all c p other [] all = refl
lacks_all c p other (x ∷ xs) all =
    ap (λ v. not v && list_all (λ b. not (b == c)) xs) (other x (and_left (p x) (list_all p xs) all)) ∙ lacks_all c p other xs (and_right (p x) (list_all p xs) all)

-- a domain contains no slash
letters_lack : (text : List ℕ) → Run is_ascii_alphanumeric text → Lacks 47 text
letters_lack text run = lacks_all 47 is_ascii_alphanumeric (λ b h. grind (arith, nat_tests, h)) text run.1

dashes_lack : (text : List ℕ) → Dashes text → Lacks 47 text
dashes_lack text run = lacks_all 47 (λ b. b == 45) (λ b h. grind (arith, nat_tests, h)) text run.1

digits_lack : (text : List ℕ) → Run is_ascii_digit text → Lacks 47 text
digits_lack text run = lacks_all 47 is_ascii_digit (λ b h. grind (arith, nat_tests, h)) text run.1

joined_lack : (Item Separator : List ℕ → Type 0) → ((text : List ℕ) → Item text → Lacks 47 text) → ((text : List ℕ) → Separator text → Lacks 47 text) → (text : List ℕ) → Joined Item Separator text → Lacks 47 text
joined_lack Item Separator item separator _ (Joined.alone text is) = item text is
joined_lack Item Separator item separator _ (Joined.more text front gap rest is one between others) =
    subst (Lacks 47) (sym is) (lacks_append 47 front (gap ++ rest) (item front one) (lacks_append 47 gap rest (separator gap between) (joined_lack Item Separator item separator rest others)))

host_lacks : (text : List ℕ) → Host text → Lacks 47 text
host_lacks text host = joined_lack DomainComponent (λ gap. gap ≡ codes ".") (joined_lack (Run is_ascii_alphanumeric) Dashes letters_lack dashes_lack) (λ gap is. subst (Lacks 47) (sym is) refl) text host

domain_lacks : (text : List ℕ) → Domain text → Lacks 47 text
domain_lacks text (inl host) = host_lacks text host
domain_lacks text (inr (host, port, is, host_is, port_is)) = subst (Lacks 47) (sym is) (lacks_append 47 host (codes ":" ++ port) (host_lacks host host_is) (digits_lack port port_is))

lacks_from : (c : ℕ) (test : ℕ → Bool) → ((b : ℕ) → test b ≡ true → (b == c) ≡ false) → (xs : List ℕ) → All (Passes test) xs → Lacks c xs
lacks_from c test other [] all = refl
lacks_from c test other (x ∷ xs) all = ap (λ v. not v && list_all (λ b. not (b == c)) xs) (other x (All-head (Passes test) x xs all)) ∙ lacks_from c test other xs (All-tail (Passes test) x xs all)

-- the URL after the path
abbrev tail_of : Parts → List ℕ
tail_of url = when (is_some url.query) (63 ∷ []) ++ (unwrap_or url.query [] ++ (when (is_some url.fragment) (35 ∷ []) ++ (unwrap_or url.fragment [] ++ [])))

tail_text : (url : Parts) → serialize url ≡ text_before url AfterPath ++ tail_of url
tail_text url = simp (append_assoc, append-nil)

-- the text from its scheme, the part before the path, the path, and the rest
url_text : (url : Parts) → has_authority url ≡ true → serialize url ≡ url.scheme ++ 58 ∷ (47 ∷ 47 ∷ (text_between url BeforeUsername AfterPort ++ (url.path ++ tail_of url)))
url_text url authority =
    let body = text_between url BeforeUsername AfterPort in
    tail_text url ∙ ap (λ t. t ++ tail_of url) (body_text url authority) ∙ append_assoc url.scheme (58 ∷ 47 ∷ 47 ∷ (body ++ url.path)) (tail_of url)
    ∙ ap (λ t. url.scheme ++ 58 ∷ 47 ∷ 47 ∷ t) (append_assoc body url.path (tail_of url))

-- a URL with the scheme http or https
record IsWeb (url : Parts) : Type 0 where
  kind : kind_of url ≡ SpecialNotFile
  no_colon : Lacks 58 url.scheme

web_from : (url : Parts) → (url.scheme ≡ codes "http") ⊎ (url.scheme ≡ codes "https") → IsWeb url
unfolding scheme_type default_port
web_from url (inl http) = record { kind = ap scheme_type http; no_colon = ap (list_all (λ b. not (b == 58))) http }
web_from url (inr https) = record { kind = ap scheme_type https; no_colon = ap (list_all (λ b. not (b == 58))) https }

is_web_from : (url : Parts) → is_web url ≡ true → IsWeb url
is_web_from url web = by (bytes_eq url.scheme (codes "http")) refl (and_left (bytes_eq url.scheme (codes "http") || bytes_eq url.scheme (codes "https")) _ web) where
  by : (v : Bool) → bytes_eq url.scheme (codes "http") ≡ v → (v || bytes_eq url.scheme (codes "https")) ≡ true → IsWeb url
  by true is h = web_from url (inl ((bytes_eq-Decides url.scheme (codes "http")).0 is))
  by false is h = web_from url (inr ((bytes_eq-Decides url.scheme (codes "https")).0 h))

readable_web : (parsed : Parsed Parts) (url : Parts) → readable parsed ≡ Some url → is_web url ≡ true
readable_web (Err e) url h = cc h
readable_web (Ok read) url h = by (is_web read) refl h where
  by : (v : Bool) → is_web read ≡ v → cond v (Some read) None ≡ Some url → is_web url ≡ true
  by true is h = let same : read ≡ url = cc h in ap is_web (sym same) ∙ is
  by false is h = cc h

request_web : (text : List ℕ) (url : Parts) → request_url text ≡ Some url → is_web url ≡ true
unfolding request_url
request_web text url h = readable_web (parse_url None text) url h

read_back : (url : Parts) (text : List ℕ) → parse_url None text ≡ Ok url → is_web url ≡ true → request_url text ≡ Some url
unfolding request_url
read_back url text parsed web = ap readable parsed ∙ ap (λ v. cond v (Some url) None) web

-- a path that begins with a slash
slash_first : (path : List ℕ) → 0 < length path → (path ≡ []) ⊎ (get_or path 0 0 ≡ 47) → (rest : List ℕ) × (path ≡ 47 ∷ rest)
slash_first [] long is = absurd (omega (arith, long))
slash_first (b ∷ path) long (inl none) = absurd (cc none)
slash_first (b ∷ path) long (inr is) = (path, ap (λ c. c ∷ path) is)

second_empty : (xs ys : List ℕ) → xs ++ ys ≡ [] → ys ≡ []
second_empty [] ys h = h
second_empty (x ∷ xs) ys h = absurd (cc h)

-- the URL of a registry consists of its scheme, its registry and a slash
record IsRoot (url : Parts) (scheme registry : List ℕ) : Type 0 where
  scheme_is : url.scheme ≡ scheme
  registry_is : text_between url BeforeUsername AfterPort ≡ registry
  ends : tail_of url ≡ []

behind_registry : (scheme registry rest : List ℕ) → registry_text scheme registry ++ rest ≡ scheme ++ 58 ∷ (47 ∷ 47 ∷ (registry ++ rest))
behind_registry scheme registry rest = append_assoc (scheme ++ codes "://") registry rest ∙ append_assoc scheme (codes "://") (registry ++ rest)

root_of : (url : Parts) (scheme registry : List ℕ) → IsValid url → IsWeb url → Scheme scheme → Domain registry → serialize url ≡ registry_text scheme registry ++ codes "/" → IsRoot url scheme registry
root_of url scheme registry valid web no_colon domain text =
    let special = ap is_special web.kind in
    let authority = special_has_authority url valid.head special in
    let path = hierarchical url valid.path (base_from_authority url authority) in
    let slash = slash_first url.path (path.1 special) (rooted (kind_of url) url.path path.0) in
    let body = text_between url BeforeUsername AfterPort in
    let at_colon = first_mark 58 url.scheme (47 ∷ 47 ∷ (body ++ (url.path ++ tail_of url))) scheme (47 ∷ 47 ∷ (registry ++ 47 ∷ [])) web.no_colon no_colon (sym (url_text url authority) ∙ text ∙ behind_registry scheme registry (codes "/")) in
    let behind : body ++ (url.path ++ tail_of url) ≡ registry ++ 47 ∷ [] = cc at_colon.back in
    let spelled : body ++ 47 ∷ (slash.0 ++ tail_of url) ≡ registry ++ 47 ∷ [] = ap (λ t. body ++ (t ++ tail_of url)) (sym slash.1) ∙ behind in
    let at_slash = first_mark 47 body (slash.0 ++ tail_of url) registry [] (lacks_from 47 is_authority_byte (λ b h. grind (arith, nat_tests, h)) body (authority_bytes url valid.head)) (domain_lacks registry domain) spelled in
    record { scheme_is = at_colon.front; registry_is = at_slash.front; ends = second_empty slash.0 (tail_of url) at_slash.back }

-- the URL with another path
abbrev at_path : Parts → List ℕ → Parts
at_path url path = record url { path = path }

valid_at : (url : Parts) (path : List ℕ) → IsValid url → IsWeb url → PlainPath path → IsValid (at_path url path)
valid_at url path valid web plain =
    let segments = segments_of path plain in
    record {
      head = IsValidHead_same url (at_path url path) refl valid.head;
      path = inl (subst (λ kind. IsSegmentList kind path) (sym web.kind) segments, λ _. path_long path plain);
      query = valid.query;
      fragment = valid.fragment;
    }

text_at : (url : Parts) (scheme registry path : List ℕ) → has_authority url ≡ true → IsRoot url scheme registry → serialize (at_path url path) ≡ registry_text scheme registry ++ path
text_at url scheme registry path authority root =
    url_text (at_path url path) authority
    ∙ (λ i. root.scheme_is i ++ 58 ∷ (47 ∷ 47 ∷ (root.registry_is i ++ (path ++ root.ends i))))
    ∙ ap (λ t. scheme ++ 58 ∷ (47 ∷ 47 ∷ (registry ++ t))) (append-nil path)
    ∙ sym (behind_registry scheme registry path)

pub plain_paths_read : (url : Parts) → IsValid url → PlainPathsRead url
plain_paths_read url valid scheme registry path no_colon domain reads text plain =
    let is = request_web (registry_text scheme registry) url reads in
    let web = is_web_from url is in
    let authority = special_has_authority url valid.head (ap is_special web.kind) in
    let root = root_of url scheme registry valid web no_colon domain text in
    let read = at_path url path in
    let same = text_at url scheme registry path authority root in
    record {
      read = read;
      reads = read_back read (registry_text scheme registry ++ path) (ap (parse_url None) (sym same) ∙ parse_url-serialize_special read None (valid_at url path valid web plain) web.kind) is;
      same_text = same;
      scheme = refl;
      host = refl;
      port = refl;
    }
