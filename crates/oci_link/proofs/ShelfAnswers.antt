-- The answers of a shelf for the URLs of its repository.
use Rattle.std.proofs.Common.{◌≡◌, ℕ, suc, ◌+◌, Bool, true, false, cond, not, ◌&&◌, ◌==◌, List, [], ◌∷◌, ◌++◌, length, drop, Some, None, refl, ap, ◌∙◌, arith}
use Rattle.std.specs.Prelude.{codes, nat_lt, option_map, option_and_then}
use Rattle.std.specs.Option.{option_or}
use Rattle.std.specs.List.{list_all, position_or_len, before_first}
use Rattle.std.proofs.lemmas.Bool.Decides.{nat_tests}
use Rattle.std.proofs.lemmas.List.{take_all, length-append}
use Rattle.std.proofs.Math.Seq.{drop-append-add}
use Rattle.oci_transport.specs.declared.message.Method.{Method}
use Rattle.std.specs.FinMap as map
use Rattle.oci_transport.specs.declared.message.Request.{Request}
use Rattle.oci_link.specs.declared.shelf.Shelf.{Shelf}
use Rattle.oci_link.specs.Paths.{after, past_mark, past_slash, path_of, is_slash, is_question_mark}
use Rattle.oci_link.specs.Table.{answer, at_path, in_registry, in_repository, or_manifest, manifest_answer, blob_answer, referrers_answer, unless_redirected, is_get_or_head, is_get, found, not_found}
use Rattle.oci_link.proofs.Fronts.{after-front}

-- no byte of the list passes the test
abbrev pub none_pass : (ℕ → Bool) → List ℕ → Bool
none_pass p xs = list_all (λ b. not (p b)) xs

and_left : (a b : Bool) → (a && b) ≡ true → a ≡ true
and_left true b h = refl
and_left false b h = cc h

and_right : (a b : Bool) → (a && b) ≡ true → b ≡ true
and_right true b h = h
and_right false b h = cc h

not_true : (a : Bool) → not a ≡ true → a ≡ false
not_true true h = cc h
not_true false h = refl

one_more : (n : ℕ) → 1 + n ≡ suc n
one_more n = omega arith

first_place : (p : ℕ → Bool) (xs ys : List ℕ) (c : ℕ) → none_pass p xs ≡ true → p c ≡ true → position_or_len p (xs ++ c ∷ ys) ≡ length xs
first_place p [] ys c none is = rw is refl
first_place p (x ∷ xs) ys c none is = rw (not_true (p x) (and_left _ _ none)) (one_more _ ∙ ap suc (first_place p xs ys c (and_right _ _ none) is))

no_place : (p : ℕ → Bool) (xs : List ℕ) → none_pass p xs ≡ true → position_or_len p xs ≡ length xs
no_place p [] none = refl
no_place p (x ∷ xs) none = rw (not_true (p x) (and_left _ _ none)) (one_more _ ∙ ap suc (no_place p xs (and_right _ _ none)))

after_seam : (xs ys : List ℕ) (c n : ℕ) → n ≡ length xs → drop (n + 1) (xs ++ c ∷ ys) ≡ ys
after_seam xs ys c n is = ap (λ k. drop (k + 1) (xs ++ c ∷ ys)) is ∙ drop-append-add xs (c ∷ ys) 1

past_slash-at : (authority path : List ℕ) → none_pass is_slash authority ≡ true → past_slash (authority ++ 47 ∷ path) ≡ Some path
past_slash-at authority path none =
    let place = first_place is_slash authority path 47 none refl in
    let len = length-append authority (47 ∷ path) in
    let test : nat_lt (position_or_len is_slash (authority ++ 47 ∷ path)) (length (authority ++ 47 ∷ path)) ≡ true = grind (arith, nat_tests, place, len) in
    rw test (ap Some (after_seam authority path 47 _ place))

after-other : (b : ℕ) (text : List ℕ) → (b == 58) ≡ false → after (codes "://") (b ∷ text) ≡ None
unfolding after
after-other b text other = rw other refl

past_mark-at : (scheme rest : List ℕ) → list_all (λ b. not (b == 58)) scheme ≡ true → past_mark (scheme ++ (codes "://" ++ rest)) ≡ Some rest
unfolding past_mark
past_mark-at [] rest none = ap (λ o. option_or o (past_mark (codes "//" ++ rest))) (after-front (codes "://") rest)
past_mark-at (b ∷ scheme) rest none = ap (λ o. option_or o (past_mark (scheme ++ (codes "://" ++ rest)))) (after-other b (scheme ++ (codes "://" ++ rest)) (not_true _ (and_left _ _ none))) ∙ past_mark-at scheme rest (and_right _ _ none)

-- the path of a URL's text
pub path_of-at : (scheme authority path : List ℕ) → list_all (λ b. not (b == 58)) scheme ≡ true → none_pass is_slash authority ≡ true → none_pass is_question_mark path ≡ true → path_of (scheme ++ (codes "://" ++ (authority ++ 47 ∷ path))) ≡ Some path
unfolding path_of
path_of-at scheme authority path colon slash question =
    ap (λ o. option_map (before_first is_question_mark) (option_and_then past_slash o)) (past_mark-at scheme (authority ++ 47 ∷ path) colon)
    ∙ ap (option_map (before_first is_question_mark)) (past_slash-at authority path slash)
    ∙ ap Some (take_all _ path (omega (arith, no_place is_question_mark path question)))

-- without a redirect for a request, a shelf answers by the path
by_path : (shelf : Shelf) (request : Request) (path : List ℕ) → map.get shelf.redirects request.url ≡ None → path_of request.url ≡ Some path → answer shelf request ≡ at_path shelf request.method (Some path)
unfolding answer
by_path shelf request path stays is = by (is_get_or_head request.method) ∙ ap (at_path shelf request.method) is where
  by : (v : Bool) → unless_redirected shelf request (cond v (map.get shelf.redirects request.url) None) ≡ at_path shelf request.method (path_of request.url)
  by true = ap (unless_redirected shelf request) stays
  by false = refl

-- `/v2/`
pub answer-base : (shelf : Shelf) (request : Request) → map.get shelf.redirects request.url ≡ None → path_of request.url ≡ Some (codes "v2/") → answer shelf request ≡ cond (is_get request.method) (found map.empty []) not_found
answer-base shelf request stays is = by_path shelf request (codes "v2/") stays is ∙ ap (in_registry shelf request.method) (after-front (codes "v2/") [])

in_registry-at : (shelf : Shelf) (method : Method) (b : ℕ) (rest : List ℕ) → in_registry shelf method (Some (shelf.repository ++ b ∷ rest)) ≡ or_manifest shelf method (b ∷ rest) (after (codes "/manifests/") (b ∷ rest))
in_registry-at shelf method b rest =
    let len = length-append shelf.repository (b ∷ rest) in
    let some : (length (shelf.repository ++ b ∷ rest) == 0) ≡ false = grind (arith, nat_tests, len) in
    rw some (ap (in_repository shelf method) (after-front shelf.repository (b ∷ rest)))

under : (shelf : Shelf) (request : Request) (b : ℕ) (rest : List ℕ) → map.get shelf.redirects request.url ≡ None → path_of request.url ≡ Some (codes "v2/" ++ (shelf.repository ++ b ∷ rest)) → answer shelf request ≡ or_manifest shelf request.method (b ∷ rest) (after (codes "/manifests/") (b ∷ rest))
under shelf request b rest stays is =
    by_path shelf request (codes "v2/" ++ (shelf.repository ++ b ∷ rest)) stays is ∙ ap (in_registry shelf request.method) (after-front (codes "v2/") (shelf.repository ++ b ∷ rest)) ∙ in_registry-at shelf request.method b rest

-- `/v2/<repository>/manifests/<name>`
pub answer-manifest : (shelf : Shelf) (request : Request) (name : List ℕ) → map.get shelf.redirects request.url ≡ None → path_of request.url ≡ Some (codes "v2/" ++ (shelf.repository ++ (codes "/manifests/" ++ name))) → answer shelf request ≡ manifest_answer shelf request.method name
answer-manifest shelf request name stays is =
    under shelf request 47 (codes "manifests/" ++ name) stays is ∙ ap (or_manifest shelf request.method (codes "/manifests/" ++ name)) (after-front (codes "/manifests/") name)

-- `/v2/<repository>/blobs/<digest>`
pub answer-blob : (shelf : Shelf) (request : Request) (digest : List ℕ) → map.get shelf.redirects request.url ≡ None → path_of request.url ≡ Some (codes "v2/" ++ (shelf.repository ++ (codes "/blobs/" ++ digest))) → answer shelf request ≡ blob_answer shelf request.method digest
unfolding after
answer-blob shelf request digest stays is = under shelf request 47 (codes "blobs/" ++ digest) stays is

-- `/v2/<repository>/referrers/<digest>`
pub answer-referrers : (shelf : Shelf) (request : Request) (digest : List ℕ) → map.get shelf.redirects request.url ≡ None → path_of request.url ≡ Some (codes "v2/" ++ (shelf.repository ++ (codes "/referrers/" ++ digest))) → answer shelf request ≡ referrers_answer shelf request.method digest
unfolding after
answer-referrers shelf request digest stays is = under shelf request 47 (codes "referrers/" ++ digest) stays is
