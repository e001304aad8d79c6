-- Requests that contain a value of `authorization` go to the registry, also if redirects are followed.
use Rattle.std.proofs.Common.{◌≡◌, inl, ℕ, Bool, true, false, not, List, [], ◌∷◌, ◌++◌, Option, Some, None, Ok, codes, unwrap_or, refl, sym, ap, subst, ◌∙◌, arith}
use Rattle.std.specs.Prelude.{◌&&◌, nat_eq, if◌then◌else◌, bytes_eq}
use Rattle.std.specs.FinMap as map
use Rattle.std.specs.FinMap.{get-insert, get-empty, get-remove}
use Rattle.std.specs.Cmp.Lexicographic.{nat_list_cmp_total}
use Rattle.std.proofs.lemmas.Bool.Decides.{nat_tests}
use Rattle.std.proofs.lemmas.Slice.Eq.{bytes_eq-Decides}
use Rattle.url.specs.Parts.{Parts, serialize}
use Rattle.json_values.specs.Places.{by_bytes}
use Rattle.oci_transport.specs.Headers.{Fields, values_of, first_of, added, without}
use Rattle.oci_transport.specs.Redirects.{may_follow, is_redirect_status, kept_headers, moved, joined_text, moved_text, moved_from, moved_to, location_of, redirected}
use Rattle.oci_transport.specs.Urls.{request_url, host_of, port_of, same_text, same_port, same_place, same_origin, targets}
use Rattle.oci_transport.specs.declared.message.Request.{Request}
use Rattle.oci_transport.specs.declared.message.AnswerHead.{AnswerHead}
use Rattle.oci_transport.specs.declared.message.Exchange.{Exchange}
use Rattle.oci_transport.specs.declared.message.Method.{Method}
use Rattle.oci_auth.specs.Auth.{authorization_of}
use Rattle.oci_auth.specs.declared.token_type.RegistryTokenType.{RegistryTokenType}
use Rattle.engine_terms.specs.declared.settings.Settings.{Settings}
use Rattle.engine_requests.specs.Requests.{with_accept, with_token, request_of}
use Rattle.engine_rows.specs.Confined.{ToRegistry, MayCarry, Each, Confined}
use Rattle.engine_rows.specs.Held.{Entry, IsHeld}
use Rattle.request_laws.proofs.KeptTokens.{held_more}
use Rattle.request_laws.proofs.PreparedRequests.{with_ok, made_of}

pub each_more : (P Q : List ℕ → Type 0) (values : List (List ℕ)) → ((value : List ℕ) → P value → Q value) → Each P values → Each Q values
each_more P Q [] more h = tt
each_more P Q (value ∷ values) more h = (more value h.0, each_more P Q values more h.1)

-- ---- which values a request contains

none_shown : (name : List ℕ) → values_of (codes "authorization") (added map.empty (codes "user-agent") name) ≡ []
none_shown name =
    ap (λ (o : Option (List (List ℕ))). unwrap_or o []) (get-insert nat_list_cmp_total map.empty (codes "user-agent") (values_of (codes "user-agent") map.empty ++ name ∷ []) (codes "authorization") ∙ get-empty by_bytes (codes "authorization"))

types_keep : (m : Fields) (value : List ℕ) → values_of (codes "authorization") (added m (codes "accept") value) ≡ values_of (codes "authorization") m
types_keep m value = ap (λ (o : Option (List (List ℕ))). unwrap_or o []) (get-insert nat_list_cmp_total m (codes "accept") (values_of (codes "accept") m ++ value ∷ []) (codes "authorization"))

listing_none : (types : Option (List ℕ)) (m made : Fields) → values_of (codes "authorization") m ≡ [] → with_accept types m ≡ Ok made → values_of (codes "authorization") made ≡ []
listing_none None m made none is = let same : m ≡ made = cc is in ap (values_of (codes "authorization")) (sym same) ∙ none
listing_none (Some types) m made none is = ap (values_of (codes "authorization")) (with_ok m (codes "accept") types made is) ∙ types_keep m types ∙ none

-- the value of a token, if there is one
abbrev pub values_by : Option RegistryTokenType → List (List ℕ)
values_by None = []
values_by (Some token) = authorization_of token ∷ []

one_shown : (m : Fields) (value : List ℕ) → values_of (codes "authorization") m ≡ [] → values_of (codes "authorization") (added m (codes "authorization") value) ≡ value ∷ []
one_shown m value none =
    ap (λ (o : Option (List (List ℕ))). unwrap_or o []) (get-insert nat_list_cmp_total m (codes "authorization") (values_of (codes "authorization") m ++ value ∷ []) (codes "authorization")) ∙ ap (λ (xs : List (List ℕ)). xs ++ value ∷ []) none

token_values : (token : Option RegistryTokenType) (m made : Fields) → values_of (codes "authorization") m ≡ [] → with_token token m ≡ Ok made → values_of (codes "authorization") made ≡ values_by token
token_values None m made none is = let same : m ≡ made = cc is in ap (values_of (codes "authorization")) (sym same) ∙ none
token_values (Some token) m made none is = ap (values_of (codes "authorization")) (with_ok m (codes "authorization") (authorization_of token) made is) ∙ one_shown m (authorization_of token) none

pub request_values : (s : Settings) (method : Method) (url : Parts) (types : Option (List ℕ)) (token : Option RegistryTokenType) (request : Request) → request_of s method url types token ≡ Ok request → values_of (codes "authorization") request.headers ≡ values_by token
request_values s method url types token request is =
    let made = made_of s method url types token request is in
    ap (λ (r : Request). values_of (codes "authorization") r.headers) made.is ∙ token_values token made.listing made.headers (listing_none types (added map.empty (codes "user-agent") s.user_agent) made.listing (none_shown s.user_agent) made.listed) made.shown

pub request_url_is : (s : Settings) (method : Method) (url : Parts) (types : Option (List ℕ)) (token : Option RegistryTokenType) (request : Request) → request_of s method url types token ≡ Ok request → request.url ≡ serialize url
request_url_is s method url types token request is = ap (λ (r : Request). r.url) (made_of s method url types token request is).is

pub request_method_is : (s : Settings) (method : Method) (url : Parts) (types : Option (List ℕ)) (token : Option RegistryTokenType) (request : Request) → request_of s method url types token ≡ Ok request → request.method ≡ method
request_method_is s method url types token request is = ap (λ (r : Request). r.method) (made_of s method url types token request is).is

-- ---- requests to the registry, with a token if they contain one

abbrev pub SentValue : Entry → Settings → List Exchange → Request → List ℕ → Type 0
SentValue x s seen request value = ToRegistry s x.image request × (token : RegistryTokenType) × IsHeld x seen token × (value ≡ authorization_of token)

abbrev pub Sent : Entry → Settings → List Exchange → Request → Type 0
Sent x s seen request = Each (SentValue x s seen request) (values_of (codes "authorization") request.headers)

pub sent_confined : (x : Entry) (s : Settings) (seen : List Exchange) (request : Request) → Sent x s seen request → Confined x s seen request
sent_confined x s seen request h = each_more (SentValue x s seen request) (MayCarry x s seen request) (values_of (codes "authorization") request.headers) (λ value at. record { goes = inl at.0; token = at.1; held = at.2; value_is = at.3 }) h

same_bytes : (a b : List ℕ) → bytes_eq a b ≡ true → a ≡ b
same_bytes a b h = (bytes_eq-Decides a b).0 h

same_texts : (a b : Option (List ℕ)) → same_text a b ≡ true → a ≡ b
same_texts (Some a) (Some b) h = ap Some (same_bytes a b h)
same_texts None None h = refl
same_texts (Some a) None h = absurd (cc h)
same_texts None (Some b) h = absurd (cc h)

same_numbers : (a b : ℕ) → nat_eq a b ≡ true → a ≡ b
same_numbers a b h = grind (arith, nat_tests, h)

same_ports : (a b : Option ℕ) → same_port a b ≡ true → a ≡ b
same_ports (Some a) (Some b) h = ap Some (same_numbers a b h)
same_ports None None h = refl
same_ports (Some a) None h = absurd (cc h)
same_ports None (Some b) h = absurd (cc h)

both_true : (a b : Bool) → (a && b) ≡ true → (a ≡ true) × (b ≡ true)
both_true true b h = (refl, h)
both_true false b h = absurd (cc h)

-- whether a URL is at a registry, by its relevant parts
goes_by : Option (List ℕ) → Option ℕ → List ℕ → Parts → Bool
goes_by host port scheme registry = (same_text host (host_of registry) && same_port port (port_of registry)) && not (bytes_eq registry.scheme (codes "https") && not (bytes_eq scheme (codes "https")))

targets_is : (url registry : Parts) → targets url registry ≡ goes_by (host_of url) (port_of url) url.scheme registry
unfolding targets same_place goes_by
targets_is url registry = refl

origin_is : (a b : Parts) → same_origin a b ≡ true → (bytes_eq a.scheme b.scheme ≡ true) × (same_text (host_of a) (host_of b) ≡ true) × (same_port (port_of a) (port_of b) ≡ true)
unfolding same_origin same_place
origin_is a b h =
    let first = both_true (bytes_eq a.scheme b.scheme) (same_text (host_of a) (host_of b) && same_port (port_of a) (port_of b)) h in
    let second = both_true (same_text (host_of a) (host_of b)) (same_port (port_of a) (port_of b)) first.1 in
    (first.0, second.0, second.1)

-- a URL of the same origin is at the same registry
targets_moved : (a b registry : Parts) → same_origin a b ≡ true → targets a registry ≡ true → targets b registry ≡ true
targets_moved a b registry same goes =
    let parts = origin_is a b same in
    let schemes : a.scheme ≡ b.scheme = same_bytes a.scheme b.scheme parts.0 in
    let hosts : host_of a ≡ host_of b = same_texts (host_of a) (host_of b) parts.1 in
    let ports : port_of a ≡ port_of b = same_ports (port_of a) (port_of b) parts.2 in
    targets_is b registry ∙ sym (ap (λ (h : Option (List ℕ)). goes_by h (port_of a) a.scheme registry) hosts ∙ ap (λ (p : Option ℕ). goes_by (host_of b) p a.scheme registry) ports ∙ ap (λ (t : List ℕ). goes_by (host_of b) (port_of b) t registry) schemes) ∙ sym (targets_is a registry) ∙ goes

none_without : (m : Fields) → values_of (codes "authorization") (without (codes "authorization") m) ≡ []
none_without m = ap (λ (o : Option (List (List ℕ))). unwrap_or o []) (get-remove nat_list_cmp_total m (codes "authorization") (codes "authorization"))

some_same : (a b : Parts) (o : Option Parts) → o ≡ Some a → o ≡ Some b → a ≡ b
some_same a b o is other = let both : Some a ≡ Some b = sym is ∙ other in cc both

-- ---- redirects

-- the request that a redirect leads to
led : Request → List ℕ → Bool → Request
led r text same = record { method = r.method; url = text; headers = kept_headers same r.headers; body = r.body }

by_origin : (x : Entry) (s : Settings) (c : List Exchange) (e : Exchange) (r : Request) (base url : Parts) (text : List ℕ) (b : Bool) → request_url r.url ≡ Some base → request_url text ≡ Some url → same_origin base url ≡ b → Sent x s c r → Sent x s (c ++ e ∷ []) (led r text b)
unfolding led
by_origin x s c e r base url text true base_is url_is same h = each_more (SentValue x s c r) (SentValue x s (c ++ e ∷ []) (led r text true)) (values_of (codes "authorization") r.headers) (λ value at. (to at.0, at.1, held_more x c (e ∷ []) at.1 at.2, at.3)) h where
  to : ToRegistry s x.image r → ToRegistry s x.image (led r text true)
  to g = record { registry = g.registry; url = url; registry_is = g.registry_is; url_is = url_is; goes = targets_moved base url g.registry same (subst (λ (u : Parts). targets u g.registry ≡ true) (some_same g.url base (request_url r.url) g.url_is base_is) g.goes) }
by_origin x s c e r base url text false base_is url_is other h = subst (Each (SentValue x s (c ++ e ∷ []) (led r text false))) (sym (none_without r.headers)) tt

moves_one : (x : Entry) (s : Settings) (c : List Exchange) (e : Exchange) (r next : Request) (base : Parts) (text : List ℕ) (to : Option Parts) → request_url r.url ≡ Some base → request_url text ≡ to → moved r base text to ≡ Some next → Sent x s c r → Sent x s (c ++ e ∷ []) next
unfolding led
moves_one x s c e r next base text None base_is to_is is h = absurd (cc is)
moves_one x s c e r next base text (Some url) base_is to_is is h = let same : led r text (same_origin base url) ≡ next = cc is in subst (Sent x s (c ++ e ∷ [])) same (by_origin x s c e r base url text (same_origin base url) base_is to_is refl h)

moves_text : (x : Entry) (s : Settings) (c : List Exchange) (e : Exchange) (r next : Request) (base : Parts) (text : Option (List ℕ)) → request_url r.url ≡ Some base → moved_text r base text ≡ Some next → Sent x s c r → Sent x s (c ++ e ∷ []) next
moves_text x s c e r next base None base_is is h = absurd (cc is)
moves_text x s c e r next base (Some text) base_is is h = moves_one x s c e r next base text (request_url text) base_is refl is h

moves_from : (x : Entry) (s : Settings) (c : List Exchange) (e : Exchange) (r next : Request) (location : List ℕ) (base : Option Parts) → request_url r.url ≡ base → moved_from r location base ≡ Some next → Sent x s c r → Sent x s (c ++ e ∷ []) next
moves_from x s c e r next location None base_is is h = absurd (cc is)
moves_from x s c e r next location (Some base) base_is is h = moves_text x s c e r next base (joined_text base location) base_is is h

moves_to : (x : Entry) (s : Settings) (c : List Exchange) (e : Exchange) (r next : Request) (location : Option (List ℕ)) → moved_to r location ≡ Some next → Sent x s c r → Sent x s (c ++ e ∷ []) next
moves_to x s c e r next None is h = absurd (cc is)
moves_to x s c e r next (Some location) is h = moves_from x s c e r next location (request_url r.url) refl is h

by_status : (x : Entry) (s : Settings) (c : List Exchange) (e : Exchange) (r next : Request) (location : Option (List ℕ)) (b : Bool) → (if b then moved_to r location else None) ≡ Some next → Sent x s c r → Sent x s (c ++ e ∷ []) next
by_status x s c e r next location true is h = moves_to x s c e r next location is h
by_status x s c e r next location false is h = absurd (cc is)

-- a request whose redirects are followed keeps its values only at the registry
pub sent_moves : (x : Entry) (s : Settings) (c : List Exchange) (e : Exchange) (r next : Request) (head : AnswerHead) → redirected r head ≡ Some next → Sent x s c r → Sent x s (c ++ e ∷ []) next
unfolding redirected
sent_moves x s c e r next head is h = by_status x s c e r next (location_of (first_of (codes "location") head.headers)) (may_follow r.method && is_redirect_status head.status) is h
