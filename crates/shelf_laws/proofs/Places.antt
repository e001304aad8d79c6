-- Which URLs the requests for a shelf's repository have, and how the shelf responds there.
use Rattle.std.specs.Prelude.{codes, not, bytes_eq, slice_get, unwrap_or}
use Rattle.std.specs.FinMap as map
use Rattle.std.specs.FinMap.{get-empty, get-insert}
use Rattle.std.specs.Cmp.Lexicographic.{nat_list_cmp_total}
use Rattle.std.proofs.Common.{◌≡◌, ℕ, Bool, true, false, cond, ◌&&◌, List, [], ◌∷◌, ◌++◌, Option, Some, None, All, refl, ap, ◌∙◌, subst, append_assoc, append-nil}
use Rattle.std.proofs.lemmas.Bool.{eq-eqb}
use Rattle.std.proofs.lemmas.List.Elements.{All-weaker}
use Rattle.std.proofs.lemmas.Slice.Eq.{bytes_eq-Decides}
use Rattle.percent_encoding.proofs.PercentLemmas.{IsByte}
use Rattle.json_values.specs.Places.{by_bytes}
use Rattle.url.specs.Parts.{Parts}
use Rattle.oci_names.specs.declared.reference.Reference.{Reference}
use Rattle.oci_names.specs.Reference.{repository_of, tag_of, digest_of, namespace_of}
use Rattle.oci_transport.specs.Headers.{first_of, values_of, added, has_room, is_header_value}
use Rattle.oci_transport.specs.Redirects.{may_follow, is_redirect_status}
use Rattle.oci_transport.specs.declared.message.Request.{Request}
use Rattle.oci_transport.specs.declared.message.Answer.{Answer}
use Rattle.oci_transport.specs.Urls.{request_url, host_of, port_of, same_text, same_port, same_place, targets}
use Rattle.oci_link.specs.PlainPaths.{PlainPath, Segment, Scheme, ReadsAs, PlainPathsRead}
use Rattle.oci_link.specs.Table.{answer, at_path, unless_redirected, redirect_to, manifest_answer, blob_answer, referrers_answer, is_get, is_get_or_head, found, not_found}
use Rattle.oci_link.specs.declared.shelf.Shelf.{Shelf}
use Rattle.oci_link.specs.Paths.{path_of}
use Rattle.oci_link.proofs.PlainPathReads.{plain_paths_read}
use Rattle.oci_link.proofs.ShelfAnswers.{path_of-at, answer-base, answer-manifest, answer-blob, answer-referrers}
use Rattle.engine_terms.specs.declared.settings.ClientProtocol.{ClientProtocol}
use Rattle.engine_terms.specs.declared.settings.ClientProtocol.TheVariants.{Http, Https, HttpsExcept}
use Rattle.engine_terms.specs.declared.settings.Settings.{Settings}
use Rattle.engine_requests.specs.ReferrerLists.{referrers_text}
use Rattle.engine_requests.specs.Addresses.{registry_text, base_text, manifest_name, manifest_text, blob_text, mirrored}
use Rattle.engine_terms.specs.Settings.{is_listed, scheme_for}
use Rattle.shelf_laws.specs.IsHosted.{base_of, IsWrittenPlainly, IsHosted, IsAt}
use Rattle.oci_digests.proofs.HexDigits.{and_both}
use Rattle.shelf_laws.proofs.ShelfRedirects.{byte_below, Answers, without_redirects, at_path_is}
use Rattle.shelf_laws.proofs.ReadUrls.{Visible, front_all, request_read}
use Rattle.shelf_laws.proofs.PlainNames.{base_plain, item_plain, plain_asks_nothing, domain_slashless}

scheme_of : (p : ClientProtocol) (registry : List ℕ) → Scheme (scheme_for p registry)
scheme_of Http registry = refl
scheme_of Https registry = refl
scheme_of (HttpsExcept registries) registry = by_test (is_listed registry registries) where
  by_test : (b : Bool) → Scheme (cond b (codes "http") (codes "https"))
  by_test true = refl
  by_test false = refl

-- the path of an item of the repository
abbrev pub item_path : List ℕ → List ℕ → List ℕ → List ℕ
item_path repository kind name = codes "/v2/" ++ (repository ++ (47 ∷ (kind ++ 47 ∷ name)))

text_same : (o : Option (List ℕ)) → same_text o o ≡ true
text_same None = refl
text_same (Some t) = (bytes_eq-Decides t t).1 refl

port_same : (o : Option ℕ) → same_port o o ≡ true
port_same None = refl
port_same (Some n) = eq-eqb n n refl

never_less : (v : Bool) → not (v && not v) ≡ true
never_less true = refl
never_less false = refl

same_targets : (a b : Parts) → a.scheme ≡ b.scheme → a.host ≡ b.host → a.port ≡ b.port → targets a b ≡ true
unfolding targets same_place
same_targets a b scheme host port =
    let hosts : host_of a ≡ host_of b = ap (λ o. host_of (record b { host = o })) host in
    let ports : port_of a ≡ port_of b = λ i. port_of (record b { port = port i; scheme = scheme i }) in
    let secure = bytes_eq b.scheme (codes "https") in
    and_both (same_text (host_of a) (host_of b) && same_port (port_of a) (port_of b)) (not (secure && not (bytes_eq a.scheme (codes "https"))))
    (and_both (same_text (host_of a) (host_of b)) (same_port (port_of a) (port_of b)) (ap (λ o. same_text o (host_of b)) hosts ∙ text_same (host_of b)) (ap (λ o. same_port o (port_of b)) ports ∙ port_same (port_of b)))
    (ap (λ (t : List ℕ). not (secure && not (bytes_eq t (codes "https")))) scheme ∙ never_less secure)

-- plain paths parse after a registry that is written plainly
plain_paths : {s : Settings} {registry : List ℕ} (written : IsWrittenPlainly s registry) → PlainPathsRead written.url
plain_paths {s} {registry} written =
    let front : List ℕ = base_of s registry in
    let read = request_read front written.url written.reads in
    let visible = front_all Visible front (codes "/") (subst (All Visible) written.text read.visible) in
    plain_paths_read written.url (read.valid (All-weaker Visible IsByte byte_below front visible))

-- no header requires a token
unasked : (value : List ℕ) → first_of (codes "www-authenticate") (redirect_to value).headers ≡ None
unasked value = by_test (is_header_value value && has_room map.empty) where
  nothing : first_of (codes "www-authenticate") map.empty ≡ None
  nothing = ap (λ (o : Option (List (List ℕ))). slice_get (unwrap_or o []) 0) (get-empty by_bytes (codes "www-authenticate"))

  by_test : (b : Bool) → first_of (codes "www-authenticate") (unwrap_or (cond b (Some (added map.empty (codes "location") value)) None) map.empty) ≡ None
  by_test true = ap (λ (o : Option (List (List ℕ))). slice_get (unwrap_or o []) 0) (get-insert nat_list_cmp_total map.empty (codes "location") (values_of (codes "location") map.empty ++ value ∷ []) (codes "www-authenticate")) ∙ nothing
  by_test false = nothing

module _ {s : Settings} {registry : List ℕ} {shelf : Shelf} (home : IsHosted s registry shelf) where
  pub reads_at : (path : List ℕ) → PlainPath path → ReadsAs (base_of s registry ++ path) home.written.url
  reads_at path plain = plain_paths home.written (scheme_for s.protocol registry) registry path (scheme_of s.protocol registry) home.domain home.written.reads home.written.text plain

  path_at : (path : List ℕ) → PlainPath (47 ∷ path) → path_of (base_of s registry ++ 47 ∷ path) ≡ Some path
  path_at path plain =
      ap path_of (append_assoc (scheme_for s.protocol registry ++ codes "://") registry (47 ∷ path) ∙ append_assoc (scheme_for s.protocol registry) (codes "://") (registry ++ 47 ∷ path))
      ∙ path_of-at (scheme_for s.protocol registry) registry path (scheme_of s.protocol registry) (domain_slashless registry home.domain) (plain_asks_nothing (47 ∷ path) plain)

  -- `/v2/`
  pub base_unasked : (request : Request) → request.url ≡ base_of s registry ++ codes "/v2/" → first_of (codes "www-authenticate") (answer shelf request).headers ≡ None
  unfolding answer
  base_unasked request is = by_redirect (cond (is_get_or_head request.method) (map.get shelf.redirects request.url) None) where
    here : at_path shelf request.method (path_of request.url) ≡ cond (is_get request.method) (found map.empty []) not_found
    here = at_path_is shelf request (cond (is_get request.method) (found map.empty []) not_found) (λ none. answer-base (without_redirects shelf) request none (ap path_of is ∙ path_at (codes "v2/") base_plain))

    by_method : (b : Bool) → first_of (codes "www-authenticate") (cond b (found map.empty []) not_found).headers ≡ None
    by_method true = ap (λ (o : Option (List (List ℕ))). slice_get (unwrap_or o []) 0) (get-empty by_bytes (codes "www-authenticate"))
    by_method false = ap (λ (o : Option (List (List ℕ))). slice_get (unwrap_or o []) 0) (get-empty by_bytes (codes "www-authenticate"))

    by_redirect : (o : Option (List ℕ)) → first_of (codes "www-authenticate") (unless_redirected shelf request o).headers ≡ None
    by_redirect (Some value) = unasked value
    by_redirect None = ap (λ (x : Answer). first_of (codes "www-authenticate") x.headers) here ∙ by_method (is_get request.method)

  -- a GET or HEAD of a plain path
  asked_at : (request : Request) (path : List ℕ) (x : Answer) → PlainPath (47 ∷ path) → request.url ≡ base_of s registry ++ 47 ∷ path → may_follow request.method ≡ true → is_redirect_status x.status ≡ false
      → (map.get (without_redirects shelf).redirects request.url ≡ None → path_of request.url ≡ Some path → answer (without_redirects shelf) request ≡ x) → Answers shelf request x
  asked_at request path x plain is follows rests at =
      let read = reads_at (47 ∷ path) plain in
      record { follows = follows; url = read.read; reads = ap request_url is ∙ read.reads; at = at_path_is shelf request x (λ none. at none (ap path_of is ∙ path_at path plain)); rests = rests }

  pub answers_manifest : (request : Request) (name : List ℕ) (x : Answer) → Segment name → request.url ≡ base_of s registry ++ item_path shelf.repository (codes "manifests") name → may_follow request.method ≡ true → is_redirect_status x.status ≡ false → manifest_answer shelf request.method name ≡ x → Answers shelf request x
  answers_manifest request name x named is follows rests at =
      asked_at request (codes "v2/" ++ (shelf.repository ++ (codes "/manifests/" ++ name))) x (item_plain shelf.repository (codes "manifests") name home.path (109, codes "anifests", refl, refl, refl) named) is follows rests
      (λ none path. answer-manifest (without_redirects shelf) request name none path ∙ at)

  pub answers_blob : (request : Request) (name : List ℕ) (x : Answer) → Segment name → request.url ≡ base_of s registry ++ item_path shelf.repository (codes "blobs") name → may_follow request.method ≡ true → is_redirect_status x.status ≡ false → blob_answer shelf request.method name ≡ x → Answers shelf request x
  answers_blob request name x named is follows rests at =
      asked_at request (codes "v2/" ++ (shelf.repository ++ (codes "/blobs/" ++ name))) x (item_plain shelf.repository (codes "blobs") name home.path (98, codes "lobs", refl, refl, refl) named) is follows rests
      (λ none path. answer-blob (without_redirects shelf) request name none path ∙ at)

  pub answers_referrers : (request : Request) (name : List ℕ) (x : Answer) → Segment name → request.url ≡ base_of s registry ++ item_path shelf.repository (codes "referrers") name → may_follow request.method ≡ true → is_redirect_status x.status ≡ false → referrers_answer shelf request.method name ≡ x → Answers shelf request x
  answers_referrers request name x named is follows rests at =
      asked_at request (codes "v2/" ++ (shelf.repository ++ (codes "/referrers/" ++ name))) x (item_plain shelf.repository (codes "referrers") name home.path (114, codes "eferrers", refl, refl, refl) named) is follows rests
      (λ none path. answer-referrers (without_redirects shelf) request name none path ∙ at)

  -- a URL with the registry's scheme, host and port is at the registry
  pub goes_home : (read : Parts) → read.scheme ≡ home.written.url.scheme → read.host ≡ home.written.url.host → read.port ≡ home.written.url.port → targets read home.written.url ≡ true
  goes_home read scheme host port = same_targets read home.written.url scheme host port

  -- ---- the texts of URLs

  module _ {image : Reference} (at : IsAt registry shelf image) where
    pub registry_text_is : registry_text s image ≡ base_of s registry
    registry_text_is = ap (base_of s) at.registry_is

    pub base_text_is : base_text s image ≡ base_of s registry ++ codes "/v2/"
    base_text_is = ap (λ (t : List ℕ). t ++ codes "/v2/") registry_text_is

    item_text : (kind name : List ℕ) → base_text s image ++ repository_of image ++ (47 ∷ (kind ++ 47 ∷ [])) ++ name ++ mirrored (namespace_of image) ≡ base_of s registry ++ item_path shelf.repository kind name
    item_text kind name =
        let none = ap mirrored at.no_mirror in
        rw (base_text_is, at.repository_is, none) (simp (append_assoc, append-nil))

    pub manifest_text_is : manifest_text s image ≡ base_of s registry ++ item_path shelf.repository (codes "manifests") (manifest_name (digest_of image) (tag_of image))
    manifest_text_is = item_text (codes "manifests") (manifest_name (digest_of image) (tag_of image))

    pub blob_text_is : (digest : List ℕ) → blob_text s image digest ≡ base_of s registry ++ item_path shelf.repository (codes "blobs") digest
    blob_text_is digest = item_text (codes "blobs") digest

    pub referrers_text_is : (digest : List ℕ) → referrers_text s image digest ≡ base_of s registry ++ item_path shelf.repository (codes "referrers") digest
    referrers_text_is digest = rw (base_text_is, at.repository_is) (simp append_assoc)
