-- What parses as a URL of http or https is a valid URL, and its text is visible.
use Rattle.std.specs.Prelude.{IfSome, is_some, unwrap_or, option_map, decimal, codes, bytes_eq}
use Rattle.std.specs.Prelude.{◌^◌, nat_lt, nat_eq}
use Rattle.std.specs.Char.{is_ascii_digit}
use Rattle.std.specs.Option.{option_eq}
use Rattle.std.specs.Str.Parse.{digits_value}
use Rattle.std.specs.List.{list_all, prefix_len, suffix_len}
use Rattle.std.specs.Int.{IsInRange}
use Rattle.std.proofs.Common.{◌≡◌, ◌⊎◌, inl, inr, ℕ, ◌<◌, ◌+◌, ◌-◌, Bool, true, false, cond, not, ◌&&◌, ◌||◌, ◌==◌, leb, List, [], ◌∷◌, ◌++◌, take, drop, length, get_or, All, Option, Some, None, Ok, Err, refl, sym, ap, ◌∙◌, subst, arith, lit<, ⊎_elim}
use Rattle.std.proofs.lemmas.Bool.{cond_both, and_parts, eq-eqb, ltb-true, true≢false}
use Rattle.std.proofs.lemmas.Bool.Decides.{nat_tests}
use Rattle.std.proofs.lemmas.Fmt.{digits_decimal}
use Rattle.std.proofs.lemmas.List.Elements.{All-nil, All-cons, All-head, All-tail, All-append, All-push, All-take, All-drop, All-filter, All-weaker, All-from_get_or}
use Rattle.std.proofs.lemmas.Slice.Eq.{bytes_eq-Decides}
use Rattle.std.proofs.lemmas.Str.Parse.{numerals_by_value, tells_by_index}
use Rattle.percent_encoding.specs.declared.ascii_set.TheConstants.{CONTROLS}
use Rattle.percent_encoding.specs.Percent.{IsKept, percent_encode}
use Rattle.percent_encoding.proofs.PercentLemmas.{IsByte, All-percent_encode}
use Rattle.url.specs.declared.host.Host.{Host}
use Rattle.url.specs.declared.host.Host.TheVariants.{Domain, Ipv4, Ipv6}
use Rattle.url.specs.declared.scheme.SchemeType.{SchemeType}
use Rattle.url.specs.declared.scheme.SchemeType.TheVariants.{File, SpecialNotFile, NotSpecial}
use Rattle.url.specs.declared.sets.TheConstants.{USERINFO, PATH, SPECIAL_QUERY, QUERY, FRAGMENT, FORBIDDEN_HOST, FORBIDDEN_DOMAIN}
use Rattle.url.specs.Head.{scheme_only, with_authority}
use Rattle.url.specs.Host.{host_text, is_empty_host, parse_host, parse_file_host, IsHostOf}
use Rattle.url.specs.Input.{is_empty, when, is_c0_control_or_space, is_tab_or_new_line, trim_c0_control_and_space, strip_tabs_and_new_lines, lowercase, split_once, rsplit_once}
use Rattle.url.specs.Parser.{Parsed, and_then, split_port, without_default_port, parse_port, lacks_host, parse_authority, with_path, leading_slashes, skip_slashes, after_double_slash, parse_non_special, after_file_double_slash, file_with_host, parse_file, parse_not_file, parse_body, with_tail, before_tail, parse_parts, split_scheme, parse_by_scheme, parse_url}
use Rattle.url.specs.Parts.{Parts, kind_of, has_authority, has_credentials, host_or_empty, needs_guard, query_set, pieces, serialize, IsPortOf, IsValidHead, IsHierarchicalPath, IsValid}
use Rattle.url.specs.Path.{segment_len, dot_count, is_windows_drive_letter, shorten_path, without_last_segment, escape_end, push_segment, parse_segments, parse_path, parse_path_start, IsSegmentList}
use Rattle.url.specs.Scheme.{IsScheme, scheme_type, default_port, is_special, is_file, is_slash, is_scheme_byte, scheme_len}
use Rattle.url.proofs.HostLemmas.{All-host_text}
use Rattle.url.proofs.InputLemmas.{Passes, rsplit_once_front}
use Rattle.url.proofs.LayoutLemmas.{IsValidHead_same}
use Rattle.url.proofs.ParsedCanonical.{before_special}
use Rattle.url.proofs.PathLemmas.{IsNoSlash, no_segments, root_only, push_segment_valid, push_last_nonempty}
use Rattle.url.proofs.PiecesLemmas.{option_cases}
use Rattle.url.proofs.SchemeLemmas.{scheme_bytes}
use Rattle.url.proofs.SetLemmas.{passes_from_kept}
use Rattle.url.proofs.SetterLemmas.{valid_with_authority}
use Rattle.url.proofs.TextLemmas.{All-concat, All_one, All_part}
use Rattle.url.proofs.ValidLemmas.{IsValid-with_tail}
use Rattle.oci_transport.specs.Urls.{is_web, readable, request_url}
use Rattle.shelf_laws.proofs.ReadHosts.{ok_then, by_test, same_ok, host_valid}

-- a URL's text contains no unescaped space or control byte
abbrev pub is_visible : ℕ → Bool
is_visible b = leb 33 b && leb b 126

abbrev pub Visible : ℕ → Type 0
Visible = Passes is_visible

abbrev K : SchemeType
K = SpecialNotFile

-- ---- paths

pub front_all : (P : ℕ → Type 0) (xs ys : List ℕ) → All P (xs ++ ys) → All P xs
front_all P [] ys all = All-nil P
front_all P (x ∷ xs) ys all = All-cons P x xs (All-head P x (xs ++ ys) all) (front_all P xs ys (All-tail P x (xs ++ ys) all))

encoded_visible : (segment : List ℕ) → All Visible (percent_encode PATH segment)
encoded_visible segment = All-percent_encode Visible PATH segment (passes_from_kept PATH is_visible refl) (λ b h. grind (arith, nat_tests))

shorten_visible : (path : List ℕ) → All Visible path → All Visible (without_last_segment path)
shorten_visible path all = let cut = rsplit_once_front 47 path in front_all Visible (unwrap_or (rsplit_once 47 path).0 []) cut.0 (subst (All Visible) cut.1 all)

slash_visible : (path : List ℕ) (is_last : Bool) → All Visible path → All Visible (path ++ when is_last (47 ∷ []))
slash_visible path is_last all = All-append Visible path (when is_last (47 ∷ [])) all (All_one Visible is_last 47 refl)

push_visible : (path segment : List ℕ) (is_last : Bool) → All Visible path → All Visible (push_segment K path segment is_last)
unfolding push_segment shorten_path
push_visible path segment is_last all =
    cond_both (dot_count segment == 2) _ _ (All Visible) (λ _. slash_visible (without_last_segment path) is_last (shorten_visible path all)) λ _.
    cond_both (dot_count segment == 1) _ _ (All Visible) (λ _. slash_visible path is_last all) (λ _. All-append Visible path (47 ∷ percent_encode PATH segment) all (All-cons Visible 47 (percent_encode PATH segment) refl (encoded_visible segment)))

segments_visible : (bytes path segment : List ℕ) → All Visible path → All Visible (parse_segments K path segment bytes)
unfolding parse_segments
segments_visible [] path segment all = push_visible path segment true all
segments_visible (b ∷ bytes) path segment all =
    let next = segments_visible bytes (push_segment K path segment false) [] (push_visible path segment false all) in
    let longer = segments_visible bytes path (segment ++ b ∷ []) all in
    cond_both (is_slash K b) (parse_segments K (push_segment K path segment false) [] bytes) (parse_segments K path (segment ++ b ∷ []) bytes) (All Visible) (λ _. next) (λ _. longer)

segments_valid : (bytes path segment : List ℕ) → All IsByte bytes → All IsByte segment → All (IsNoSlash K) segment → IsSegmentList K path → IsSegmentList K (parse_segments K path segment bytes) × (0 < length (parse_segments K path segment bytes))
unfolding parse_segments
segments_valid [] path segment bytes_are segment_is whole list = (push_segment_valid K path segment true segment_is whole list, push_last_nonempty K path segment)
segments_valid (b ∷ bytes) path segment bytes_are segment_is whole list =
    let byte = All-head IsByte b bytes bytes_are in
    let others = All-tail IsByte b bytes bytes_are in
    cond_both (is_slash K b) (parse_segments K (push_segment K path segment false) [] bytes) (parse_segments K path (segment ++ b ∷ []) bytes) (λ (p : List ℕ). IsSegmentList K p × (0 < length p))
    (λ _. segments_valid bytes (push_segment K path segment false) [] others (All-nil IsByte) (All-nil (IsNoSlash K)) (push_segment_valid K path segment false segment_is whole list))
    (λ other. segments_valid bytes path (segment ++ b ∷ []) others (All-push IsByte segment b segment_is byte) (All-push (IsNoSlash K) segment b whole other) list)

start_visible : (bytes : List ℕ) → All Visible (parse_path_start K [] bytes)
unfolding parse_path_start
start_visible bytes =
    cond_both (is_empty bytes && not (is_special K)) [] _ (All Visible) (λ _. All-nil Visible) λ _.
    cond_both (is_slash K (get_or bytes 0 0)) (parse_path K [] (drop 1 bytes)) (parse_path K [] bytes) (All Visible) (λ _. segments_visible (drop 1 bytes) [] [] (All-nil Visible)) (λ _. segments_visible bytes [] [] (All-nil Visible))

never_both : (b : Bool) → (b && false) ≡ true → ⊥
never_both true h = cc
never_both false h = cc

start_valid : (bytes : List ℕ) → All IsByte bytes → IsSegmentList K (parse_path_start K [] bytes) × (0 < length (parse_path_start K [] bytes))
unfolding parse_path_start
start_valid bytes are =
    let Good : List ℕ → Type 0 = λ p. IsSegmentList K p × (0 < length p) in
    cond_both (is_empty bytes && not (is_special K)) [] _ Good (λ h. absurd (never_both (is_empty bytes) h)) λ _.
    cond_both (is_slash K (get_or bytes 0 0)) (parse_path K [] (drop 1 bytes)) (parse_path K [] bytes) Good
    (λ _. segments_valid (drop 1 bytes) [] [] (All-drop IsByte 1 bytes are) (All-nil IsByte) (All-nil (IsNoSlash K)) (no_segments K))
    (λ _. segments_valid bytes [] [] are (All-nil IsByte) (All-nil (IsNoSlash K)) (no_segments K))

-- ---- schemes

-- the scheme of a URL that a request may have
abbrev IsWebScheme : List ℕ → Type 0
IsWebScheme scheme = (scheme ≡ codes "http") ⊎ (scheme ≡ codes "https")

web_kind : (scheme : List ℕ) → IsWebScheme scheme → scheme_type scheme ≡ K
unfolding scheme_type default_port
web_kind scheme (inl http) = ap scheme_type http
web_kind scheme (inr https) = ap scheme_type https

web_valid : (scheme : List ℕ) → IsWebScheme scheme → IsScheme scheme
unfolding scheme_len
web_valid scheme (inl http) = subst IsScheme (sym http) (record { nonempty = lit< tt; whole = refl; lower = refl })
web_valid scheme (inr https) = subst IsScheme (sym https) (record { nonempty = lit< tt; whole = refl; lower = refl })

and_first : (a b : Bool) → (a && b) ≡ true → a ≡ true
and_first true b h = refl
and_first false b h = cc h

is_web_scheme : (url : Parts) → is_web url ≡ true → IsWebScheme url.scheme
is_web_scheme url web = by (bytes_eq url.scheme (codes "http")) refl (and_first (bytes_eq url.scheme (codes "http") || bytes_eq url.scheme (codes "https")) _ web) where
  by : (v : Bool) → bytes_eq url.scheme (codes "http") ≡ v → (v || bytes_eq url.scheme (codes "https")) ≡ true → IsWebScheme url.scheme
  by true is h = inl ((bytes_eq-Decides url.scheme (codes "http")).0 is)
  by false is h = inr ((bytes_eq-Decides url.scheme (codes "https")).0 h)

-- ---- what precedes the path

port_valid : (scheme digits : List ℕ) (port : Option ℕ) → parse_port scheme digits ≡ Ok port → IsPortOf scheme port
unfolding parse_port
port_valid scheme digits port e =
    let v = digits_value 10 digits in
    by_test (is_empty digits) _ _ port e (λ _ k. subst (IsPortOf scheme) (same_ok None port k) tt) λ _ k.
    by_test (list_all is_ascii_digit digits && nat_lt v (2 ^ 16)) _ _ port k
    (λ fits l. subst (IsPortOf scheme) (same_ok (without_default_port scheme (Some v)) port l)
    (cond_both (option_eq nat_eq (Some v) (default_port scheme)) None (Some v) (IsPortOf scheme) (λ _. tt)
    (λ other. (ltb-true v (2 ^ 16) (and_parts (list_all is_ascii_digit digits) (nat_lt v (2 ^ 16)) fits).1, λ same. true≢false (sym (eq-eqb v v refl) ∙ ap (option_eq nat_eq (Some v)) (sym same) ∙ other)))))
    (λ _ l. cc)

filled_host : (host : Host (List ℕ)) → IsHostOf K host → is_empty_host host ≡ true → ⊥
filled_host (Domain []) valid empty = omega (arith, valid.1)
filled_host (Domain (b ∷ domain)) valid empty = grind (arith, nat_tests)
filled_host (Ipv4 address) valid empty = cc
filled_host (Ipv6 address) valid empty = cc

or_false : (a : Bool) → (a || false) ≡ true → a ≡ true
or_false true h = refl
or_false false h = cc h

authority_valid : (scheme bytes : List ℕ) (head : Parts) → IsWebScheme scheme → parse_authority scheme bytes ≡ Ok head → IsValidHead head × (head.scheme ≡ scheme)
unfolding parse_authority
authority_valid scheme bytes head web e =
    let kind = web_kind scheme web in
    let at = rsplit_once 64 bytes in
    let host_port = split_port at.1 in
    by_test (lacks_host at.0 host_port.0 host_port.1) _ _ head e (λ _ k. cc) λ _ k.
    ok_then _ _ head k λ host host_is l.
    ok_then _ _ head l λ port port_is m.
    let valid : IsHostOf K host = host_valid host_port.0 host (subst (λ t. parse_host t host_port.0 ≡ Ok host) kind host_is) in
    let username = (split_once 58 (unwrap_or at.0 [])).0 in
    let password = unwrap_or (split_once 58 (unwrap_or at.0 [])).1 [] in
    let made = with_authority scheme username password host port in
    let good : IsValidHead made = valid_with_authority scheme username password host port (web_valid scheme web) (subst (λ t. IsHostOf t host) (sym kind) valid) (port_valid scheme (unwrap_or host_port.1 []) port port_is)
    (λ bare. absurd (filled_host host valid (or_false (is_empty_host host) (subst (λ t. (is_empty_host host || is_file t) ≡ true) kind bare)))) in
    subst (λ (u : Parts). IsValidHead u × (u.scheme ≡ scheme)) (same_ok made head m) (good, refl)

-- ---- the parts up to the path

record IsBody (scheme bytes : List ℕ) (url : Parts) : Type 0 where
  head : IsValidHead url
  scheme_is : url.scheme ≡ scheme
  visible : All Visible url.path
  valid : All IsByte bytes → IsHierarchicalPath (kind_of url) url.path

slashes_body : (scheme bytes : List ℕ) (url : Parts) → IsWebScheme scheme → after_double_slash scheme bytes ≡ Ok url → IsBody scheme bytes url
unfolding after_double_slash
slashes_body scheme bytes url web e =
    let kind = web_kind scheme web in
    let len = segment_len (scheme_type scheme) bytes in
    ok_then (parse_authority scheme (take len bytes)) _ url e λ head read k.
    let made = authority_valid scheme (take len bytes) head web read in
    let rest = drop len bytes in
    let path = parse_path_start (scheme_type scheme) [] rest in
    let own : scheme_type scheme ≡ K = kind in
    subst (IsBody scheme bytes) (same_ok (with_path head path) url k) (record {
      head = IsValidHead_same head (with_path head path) refl made.0;
      scheme_is = made.1;
      visible = subst (λ t. All Visible (parse_path_start t [] rest)) (sym own) (start_visible rest);
      valid = λ are.
          let good = start_valid rest (All-drop IsByte len bytes are) in
          let spelled : IsHierarchicalPath (scheme_type scheme) path = subst (λ t. IsHierarchicalPath t (parse_path_start t [] rest)) (sym own) (good.0, λ _. good.1) in
          subst (λ (t : List ℕ). IsHierarchicalPath (scheme_type t) path) (sym made.1) spelled;
    })

-- ---- other schemes

abbrev IsOf : List ℕ → Parts → Type 0
IsOf scheme url = (url.scheme ≡ scheme) ⊎ (url.scheme ≡ codes "file")

any_authority : (scheme bytes : List ℕ) (url : Parts) → parse_authority scheme bytes ≡ Ok url → url.scheme ≡ scheme
unfolding parse_authority
any_authority scheme bytes url e =
    let at = rsplit_once 64 bytes in
    let host_port = split_port at.1 in
    by_test (lacks_host at.0 host_port.0 host_port.1) _ _ url e (λ _ k. cc) λ _ k.
    ok_then (parse_host (scheme_type scheme) host_port.0) (λ host. and_then (parse_port scheme (unwrap_or host_port.1 [])) (λ port. Ok (with_authority scheme (split_once 58 (unwrap_or at.0 [])).0 (unwrap_or (split_once 58 (unwrap_or at.0 [])).1 []) host port))) url k λ host host_is l.
    ok_then (parse_port scheme (unwrap_or host_port.1 [])) _ url l λ port port_is m.
    sym (ap (λ u. u.scheme) (same_ok (with_authority scheme (split_once 58 (unwrap_or at.0 [])).0 (unwrap_or (split_once 58 (unwrap_or at.0 [])).1 []) host port) url m))

any_slashes : (scheme bytes : List ℕ) (url : Parts) → after_double_slash scheme bytes ≡ Ok url → url.scheme ≡ scheme
unfolding after_double_slash
any_slashes scheme bytes url e =
    let len = segment_len (scheme_type scheme) bytes in
    ok_then (parse_authority scheme (take len bytes)) _ url e λ head read k.
    sym (ap (λ u. u.scheme) (same_ok (with_path head (parse_path_start (scheme_type scheme) [] (drop len bytes))) url k)) ∙ any_authority scheme (take len bytes) head read

any_path : (scheme path : List ℕ) (url : Parts) → ◌≡◌ {A = Parsed Parts} (Ok (with_path (scheme_only scheme) path)) (Ok url) → url.scheme ≡ scheme
any_path scheme path url e = sym (ap (λ u. u.scheme) (same_ok (with_path (scheme_only scheme) path) url e))

any_other : (scheme body : List ℕ) (url : Parts) → parse_non_special scheme body ≡ Ok url → url.scheme ≡ scheme
unfolding parse_non_special
any_other scheme body url e =
    by_test (leading_slashes NotSpecial body == 2) _ _ url e (λ _ k. any_slashes scheme (drop 2 body) url k) λ _ k.
    by_test (leading_slashes NotSpecial body == 1) _ _ url k (λ _ l. any_path scheme _ url l) (λ _ l. any_path scheme _ url l)

file_host : (host : Host (List ℕ)) (path : List ℕ) (url : Parts) → ◌≡◌ {A = Parsed Parts} (Ok (with_path (file_with_host host) path)) (Ok url) → url.scheme ≡ codes "file"
file_host host path url e = sym (ap (λ u. u.scheme) (same_ok (with_path (file_with_host host) path) url e))

file_slashes : (bytes : List ℕ) (url : Parts) → after_file_double_slash bytes ≡ Ok url → url.scheme ≡ codes "file"
unfolding after_file_double_slash
file_slashes bytes url e =
    let len = segment_len File bytes in
    by_test (is_windows_drive_letter (take len bytes)) _ _ url e (λ _ k. file_host _ _ url k) λ _ k.
    ok_then (parse_file_host (take len bytes)) _ url k λ host read l. file_host host _ url l

file_body : (body : List ℕ) (url : Parts) → parse_file None body ≡ Ok url → url.scheme ≡ codes "file"
unfolding parse_file
file_body body url e =
    by_test (leading_slashes File body == 2) _ _ url e (λ _ k. file_slashes _ url k) (λ _ k. file_host _ _ url k)

plain_body : (scheme body : List ℕ) (url : Parts) → parse_not_file scheme None body ≡ Ok url → url.scheme ≡ scheme
plain_body scheme body url e =
    by_test (is_special (scheme_type scheme)) _ _ url e (λ _ k. any_slashes scheme _ url k) (λ _ k. any_other scheme body url k)

body_scheme : (scheme body : List ℕ) (url : Parts) → parse_body scheme None body ≡ Ok url → IsOf scheme url
unfolding parse_body
body_scheme scheme body url e =
    by_test (is_file (scheme_type scheme)) _ _ url e (λ _ k. inr (file_body body url k)) (λ _ k. inl (plain_body scheme body url k))

-- ---- the whole

not_file : (scheme : List ℕ) → IsWebScheme scheme → scheme ≡ codes "file" → ⊥
not_file scheme (inl http) file = true≢false (sym ((bytes_eq-Decides scheme (codes "file")).1 file) ∙ ap (λ (t : List ℕ). bytes_eq t (codes "file")) http)
not_file scheme (inr https) file = true≢false (sym ((bytes_eq-Decides scheme (codes "file")).1 file) ∙ ap (λ (t : List ℕ). bytes_eq t (codes "file")) https)

web_body : (scheme body : List ℕ) (url : Parts) → IsWebScheme url.scheme → parse_body scheme None body ≡ Ok url → IsBody scheme (skip_slashes body) url
unfolding parse_body
web_body scheme body url web e = by_scheme (body_scheme scheme body url e) where
  by_scheme : IsOf scheme url → IsBody scheme (skip_slashes body) url
  by_scheme (inr file) = absurd (not_file url.scheme web file)
  by_scheme (inl own) =
      let own_web : IsWebScheme scheme = subst IsWebScheme own web in
      let kind = web_kind scheme own_web in
      by_test (is_file (scheme_type scheme)) _ _ url e (λ file k. absurd (true≢false (sym file ∙ ap is_file kind))) λ _ k.
      by_test (is_special (scheme_type scheme)) _ _ url k (λ _ l. slashes_body scheme (skip_slashes body) url own_web l) (λ other l. absurd (true≢false (sym (ap is_special kind) ∙ other)))

-- ---- the text

opaque_visible : (b : ℕ) → IsKept FORBIDDEN_HOST b → IsKept CONTROLS b → Visible b
opaque_visible b allowed kept =
    let mark = passes_from_kept FORBIDDEN_HOST (λ x. not (x == 32)) refl b allowed in
    let above = passes_from_kept CONTROLS (λ x. leb 32 x && leb x 126) refl b kept in
    grind (arith, nat_tests)

host_visible : (kind : SchemeType) (host : Host (List ℕ)) → IsHostOf kind host → All Visible (host_text host)
host_visible kind host = All-host_text Visible kind host (passes_from_kept FORBIDDEN_DOMAIN is_visible refl) opaque_visible (λ b digit. grind (arith, nat_tests)) (λ b hex. grind (arith, nat_tests)) refl refl

own_host_visible : (url : Parts) → IsValidHead url → All Visible (host_text (host_or_empty url))
own_host_visible url valid =
    let P = λ (o : Option (Host (List ℕ))). All Visible (host_text (unwrap_or o (Domain []))) in
    ⊎_elim (λ none. subst P (sym none) (All-nil Visible)) (λ some. subst P (sym some.1) (host_visible (kind_of url) some.0 (rw some.1 at valid.host))) (option_cases url.host)

digit_visible : (b : ℕ) → IsInRange 48 57 b → Visible b
digit_visible b digit = grind (arith, nat_tests)

port_visible : (scheme : List ℕ) (port : Option ℕ) → IsPortOf scheme port → All Visible (unwrap_or (option_map decimal port) [])
port_visible scheme None valid = All-nil Visible
port_visible scheme (Some n) valid = All-from_get_or Visible (decimal n) 0 (λ i inside. digit_visible _ (digits_decimal (numerals_by_value _ tells_by_index) n (omega (arith, valid.0)) i inside))

marks_visible : (test : Bool) → All Visible (cond test (codes "://") (codes ":"))
marks_visible true = All-cons Visible 58 (47 ∷ 47 ∷ []) refl (All-cons Visible 47 (47 ∷ []) refl (All-cons Visible 47 [] refl (All-nil Visible)))
marks_visible false = All-cons Visible 58 [] refl (All-nil Visible)

guard_visible : (test : Bool) → All Visible (when test (codes "/."))
guard_visible true = All-cons Visible 47 (46 ∷ []) refl (All-cons Visible 46 [] refl (All-nil Visible))
guard_visible false = All-nil Visible

query_visible : (kind : SchemeType) (b : ℕ) → IsKept (query_set kind) b → Visible b
query_visible File = passes_from_kept SPECIAL_QUERY is_visible refl
query_visible SpecialNotFile = passes_from_kept SPECIAL_QUERY is_visible refl
query_visible NotSpecial = passes_from_kept QUERY is_visible refl

scheme_visible : (b : ℕ) → Passes is_scheme_byte b → Visible b
scheme_visible b passes = grind (arith, nat_tests)

text_visible : (url : Parts) → IsValidHead url → All Visible url.path → IfSome url.query (All (IsKept (query_set (kind_of url)))) → IfSome url.fragment (All (IsKept FRAGMENT)) → All Visible (serialize url)
text_visible url head path query fragment =
    let user = passes_from_kept USERINFO is_visible refl in
    All-concat Visible (pieces url) (
      All-weaker (Passes is_scheme_byte) Visible scheme_visible url.scheme (scheme_bytes url.scheme head.scheme),
      (
        marks_visible (has_authority url),
        (
          All-weaker (IsKept USERINFO) Visible user url.username head.username,
          (
            All_one Visible (not (is_empty url.password)) 58 refl,
            (
              All-weaker (IsKept USERINFO) Visible user url.password head.password,
              (
                All_one Visible (has_credentials url) 64 refl,
                (
                  own_host_visible url head,
                  (All_one Visible (is_some url.port) 58 refl, (port_visible url.scheme url.port head.port, (guard_visible (needs_guard url), (path, (All_one Visible (is_some url.query) 63 refl, (All_part Visible (query_set (kind_of url)) url.query (query_visible (kind_of url)) query, (All_one Visible (is_some url.fragment) 35 refl, (All_part Visible FRAGMENT url.fragment (passes_from_kept FRAGMENT is_visible refl) fragment, tt)))))))),
                ),
              ),
            ),
          ),
        ),
      ),
    )

-- ---- what was parsed

split_all : (c : ℕ) (xs : List ℕ) → All IsByte xs → All IsByte (split_once c xs).0
unfolding split_once
split_all c [] all = All-nil IsByte
split_all c (b ∷ bytes) all =
    cond_both (b == c) ([], Some bytes) (b ∷ (split_once c bytes).0, (split_once c bytes).1) (λ (p : List ℕ × Option (List ℕ)). All IsByte p.0) (λ _. All-nil IsByte)
    (λ _. All-cons IsByte b (split_once c bytes).0 (All-head IsByte b bytes all) (split_all c bytes (All-tail IsByte b bytes all)))

scheme_all : (bytes : List ℕ) (s : List ℕ × List ℕ) → split_scheme bytes ≡ Some s → All IsByte bytes → All IsByte s.1
unfolding split_scheme
scheme_all bytes s is all = by_len (scheme_len bytes) (nat_lt 0 (scheme_len bytes) && (get_or bytes (scheme_len bytes) 0 == 58)) is where
  by_len : (len : ℕ) (b : Bool) → cond b (Some (take len bytes, drop (len + 1) bytes)) None ≡ Some s → All IsByte s.1
  by_len len true is = let same : (take len bytes, drop (len + 1) bytes) ≡ s = cc is in subst (λ (p : List ℕ × List ℕ). All IsByte p.1) same (All-drop IsByte (len + 1) bytes all)
  by_len len false is = cc is

trimmed_all : (text : List ℕ) → All IsByte text → All IsByte (strip_tabs_and_new_lines (trim_c0_control_and_space text))
unfolding strip_tabs_and_new_lines trim_c0_control_and_space
trimmed_all text all =
    let front = prefix_len is_c0_control_or_space text in
    let rest = drop front text in
    let cut = length rest - suffix_len is_c0_control_or_space rest in
    All-filter (λ b. not (is_tab_or_new_line b)) IsByte (take cut rest) (All-take IsByte cut rest (All-drop IsByte front text all))

-- the URL that was parsed from a text
pub record IsRead (text : List ℕ) (url : Parts) : Type 0 where
  pub kind : kind_of url ≡ SpecialNotFile
  pub visible : All Visible (serialize url)
  pub valid : All IsByte text → IsValid url

parts_read : (scheme body : List ℕ) (query fragment : Option (List ℕ)) (url : Parts) → IsWebScheme url.scheme → parse_parts scheme None body query fragment ≡ Ok url → IsRead body url
unfolding parse_parts
parts_read scheme body query fragment url web e =
    ok_then (parse_body scheme None body) _ url e λ h read k.
    let same = same_ok (with_tail (before_tail h query fragment) query fragment) url k in
    let own : (before_tail h query fragment).scheme ≡ h.scheme = cond_both (not (is_special (kind_of h)) && (is_some query || is_some fragment)) (with_path h (escape_end h.path)) h (λ u. u.scheme ≡ h.scheme) (λ _. refl) (λ _. refl) in
    let web_h : IsWebScheme h.scheme = subst IsWebScheme (sym (ap (λ u. u.scheme) same) ∙ own) web in
    let is : IsBody scheme (skip_slashes body) h = web_body scheme body h web_h read in
    let kind : kind_of h ≡ K = web_kind h.scheme web_h in
    let made : with_tail h query fragment ≡ url = ap (λ u. with_tail u query fragment) (sym (before_special h query fragment (ap is_special kind))) ∙ same in
    let rooted = with_path h (47 ∷ []) in
    let tail = IsValid-with_tail rooted query fragment (IsValidHead_same h rooted refl is.head) (inl (root_only (kind_of h), λ _. omega arith)) in
    subst (IsRead body) made (record {
      kind = kind;
      visible = text_visible (with_tail h query fragment) (IsValidHead_same h (with_tail h query fragment) refl is.head) is.visible tail.query tail.fragment;
      valid = λ are. IsValid-with_tail h query fragment is.head (inl (is.valid (All-drop IsByte _ body are)));
    })

scheme_read : (split : Option (List ℕ × List ℕ)) (body : List ℕ) (query fragment : Option (List ℕ)) (url : Parts) → IsWebScheme url.scheme → (split_all_is : (s : List ℕ × List ℕ) → split ≡ Some s → All IsByte body → All IsByte s.1) → parse_by_scheme split None body query fragment ≡ Ok url → IsRead body url
scheme_read None body query fragment url web all e = cc
scheme_read (Some s) body query fragment url web all e =
    let read = parts_read (lowercase s.0) s.1 query fragment url web e in
    record { kind = read.kind; visible = read.visible; valid = λ are. read.valid (all s refl are) }

pub parsed_read : (text : List ℕ) (url : Parts) → parse_url None text ≡ Ok url → is_web url ≡ true → IsRead text url
unfolding parse_url
parsed_read text url e web =
    let input = strip_tabs_and_new_lines (trim_c0_control_and_space text) in
    let hash = split_once 35 input in
    let question = split_once 63 hash.0 in
    let read = scheme_read (split_scheme question.0) question.0 question.1 hash.1 url (is_web_scheme url web) (λ s is are. scheme_all question.0 s is are) e in
    record { kind = read.kind; visible = read.visible; valid = λ are. read.valid (split_all 63 hash.0 (split_all 35 input (trimmed_all text are))) }

readable_is : (parsed : Parsed Parts) (url : Parts) → readable parsed ≡ Some url → (parsed ≡ Ok url) × (is_web url ≡ true)
readable_is (Err e) url h = cc h
readable_is (Ok read) url h = by (is_web read) refl h where
  by : (v : Bool) → is_web read ≡ v → cond v (Some read) None ≡ Some url → (◌≡◌ {A = Parsed Parts} (Ok read) (Ok url)) × (is_web url ≡ true)
  by true is h = let same : read ≡ url = cc h in (ap Ok same, ap is_web (sym same) ∙ is)
  by false is h = cc h

-- what `request_url` parses
pub url_read_is : (text : List ℕ) (url : Parts) → request_url text ≡ Some url → (parse_url None text ≡ Ok url) × (is_web url ≡ true)
unfolding request_url
url_read_is text url is = readable_is (parse_url None text) url is

pub request_read : (text : List ℕ) (url : Parts) → request_url text ≡ Some url → IsRead text url
request_read text url is = let read = url_read_is text url is in parsed_read text url read.0 read.1
