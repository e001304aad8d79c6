-- The token of a request to a shelf: the stored one, or the one that the credentials are.
use Rattle.std.specs.Prelude.{codes, nat_le, option_and_then, IsTrue, IfSome}
use Rattle.std.specs.FinMap as map
use Rattle.std.specs.FinMap.{get-empty, get-insert}
use Rattle.std.specs.Cmp.{eq_by_cmp_equiv}
use Rattle.std.specs.Cmp.Lexicographic.{nat_list_cmp_total}
use Rattle.std.proofs.Common.{◌≡◌, ◌⊎◌, inl, inr, ℕ, Bool, true, false, cond, List, ◌++◌, is_some, Option, Some, None, Ok, refl, sym, ap, ◌∙◌, subst}
use Rattle.url.specs.Parts.{Parts, serialize}
use Rattle.json_values.specs.Places.{by_bytes}
use Rattle.oci_names.specs.declared.reference.Reference.{Reference}
use Rattle.oci_names.specs.Reference.{repository_of, resolved_registry}
use Rattle.oci_transport.specs.Headers.{first_of, is_header_value}
use Rattle.oci_transport.specs.Urls.{request_url}
use Rattle.oci_transport.specs.declared.message.Request.{Request}
use Rattle.oci_transport.specs.declared.message.AnswerHead.{AnswerHead}
use Rattle.oci_transport.specs.declared.message.Method.{Method}
use Rattle.oci_transport.specs.declared.message.Method.TheVariants.{Get}
use Rattle.oci_auth.specs.declared.auth.RegistryAuth.{RegistryAuth}
use Rattle.oci_auth.specs.declared.kept.KeptToken.{KeptToken}
use Rattle.oci_auth.specs.declared.auth_state.AuthState.{AuthState}
use Rattle.oci_auth.specs.declared.token_type.RegistryOperation.TheVariants.{Pull}
use Rattle.oci_auth.specs.declared.token_type.RegistryTokenType.{RegistryTokenType}
use Rattle.oci_auth.specs.Auth.{unasked, authorization_of}
use Rattle.oci_auth.specs.Cache.{key_of, kept_token, given_at, token_at}
use Rattle.oci_auth.specs.Kept.{Key, under, kept_under, NoneOr}
use Rattle.oci_auth.specs.AuthState.{fresh, stored}
use Rattle.oci_auth.proofs.Places.{stored_after}
use Rattle.oci_protocol.specs.Proto.{read_none, bind}
use Rattle.oci_link.specs.Table.{answer}
use Rattle.oci_link.specs.declared.shelf.Shelf.{Shelf}
use Rattle.engine_terms.specs.declared.settings.Settings.{Settings}
use Rattle.engine_requests.specs.declared.tokens.Wanted.TheVariants as wants
use Rattle.engine_requests.specs.Addresses.{registry_text, base_text, url_read, url_or}
use Rattle.engine_terms.specs.Contexts.{Context}
use Rattle.engine_requests.specs.Requests.{request_of}
use Rattle.engine_requests.specs.Tokens.{wanted, wanted_in}
use Rattle.engine_rows.specs.Rows.{Row, head_reply, head_after, store, fetched, registry_asked, unasked_or_asked, token_step, with_kept, taken, token_asked, kept_or_asked, token_by, token_for, goes_to, token_where, authorized, prepared, kept_text, token_given}
use Rattle.shelf_laws.specs.EvaluatesWith.{EvaluatesWith, Yields, AlwaysOk}
use Rattle.shelf_laws.specs.IsHosted.{base_of, IsHosted, IsAt, CanBeShown, IsToken, Settled}
use Rattle.shelf_laws.proofs.TableSteps.{EvaluatesWith-follow, AlwaysOk-done, AlwaysOk-next, AlwaysOk-more, AlwaysOk-caught}
use Rattle.shelf_laws.proofs.Places.{base_unasked, base_text_is, registry_text_is}
use Rattle.shelf_laws.proofs.PlainNames.{base_plain}
use Rattle.shelf_laws.proofs.Requests.{yields_ok, CanStand, IsFor, request_made, bare_made, url_reads}

-- ---- the client state

pub settled_stored : (registry repository : List ℕ) (a : RegistryAuth) (k : AuthState) → Settled registry repository a k → Settled registry repository a (stored k registry a)
settled_stored registry repository a k h = by_kept (map.get k.credentials registry) refl h.credentials where
  inserted_here : map.get (map.insert k.credentials registry a) registry ≡ Some a
  inserted_here = get-insert nat_list_cmp_total k.credentials registry a registry ∙ ap (λ b. cond b (Some a) (map.get k.credentials registry)) ((eq_by_cmp_equiv nat_list_cmp_total).refl registry)

  by_kept : (o : Option RegistryAuth) → map.get k.credentials registry ≡ o → NoneOr o (Some a) → Settled registry repository a (cond (is_some o) k (record k { credentials = map.insert k.credentials registry a }))
  by_kept None is none = record { credentials = inr inserted_here; token = h.token }
  by_kept (Some b) is kept = h

-- a client that stores nothing is settled
pub fresh_settled : (registry repository : List ℕ) (a : RegistryAuth) (default : ℕ) → Settled registry repository a (fresh default)
fresh_settled registry repository a default = record { credentials = inl (get-empty by_bytes registry); token = tt }

settled_kept : (registry repository : List ℕ) (a : RegistryAuth) (k : AuthState) (token : RegistryTokenType) (moment : ℕ) → Some token ≡ unasked a → Settled registry repository a k → Settled registry repository a (with_kept k (under registry repository Pull) token moment)
settled_kept registry repository a k token moment own h = record { credentials = h.credentials; token = by_after (stored_after k.tokens (under registry repository Pull) (under registry repository Pull) token moment) } where
  by_after : NoneOr (kept_under (under registry repository Pull) (with_kept k (under registry repository Pull) token moment).tokens.tokens) (kept_under (under registry repository Pull) k.tokens.tokens)
      ⊎ ((under registry repository Pull ≡ under registry repository Pull) × (until : ℕ) × (kept_under (under registry repository Pull) (with_kept k (under registry repository Pull) token moment).tokens.tokens ≡ Some (kept_token (under registry repository Pull) token until)))
      → IsToken a (kept_under (under registry repository Pull) (with_kept k (under registry repository Pull) token moment).tokens.tokens)
  by_after (inl (inl none)) = subst (IsToken a) (sym none) tt
  by_after (inl (inr before)) = subst (IsToken a) (sym before) h.token
  by_after (inr (same, until, is)) = subst (IsToken a) (sym is) own

-- the stored token, if there is one
token_kept : (a : RegistryAuth) (o : Option KeptToken) (moment : ℕ) → IsToken a o → NoneOr (option_and_then (given_at moment) o) (unasked a)
token_kept a None moment h = inl refl
token_kept a (Some kept) moment h = by_test (nat_le moment kept.expiration) where
  by_test : (b : Bool) → NoneOr (cond b (Some kept.token) None) (unasked a)
  by_test true = inr h
  by_test false = inl refl

-- ---- the step

can_show : (a : RegistryAuth) (token : Option RegistryTokenType) → CanBeShown a → NoneOr token (unasked a) → CanStand token
can_show a token can (inl none) = subst CanStand (sym none) tt
can_show a token can (inr own) = subst CanStand (sym own) (stands (unasked a) can) where
  stands : (o : Option RegistryTokenType) → IfSome o (λ (token : RegistryTokenType). IsTrue (is_header_value (authorization_of token))) → CanStand o
  stands None can = tt
  stands (Some token) can = can

wants_nothing : (head : AnswerHead) → first_of (codes "www-authenticate") head.headers ≡ None → wanted head ≡ wants.Nothing
unfolding wanted
wants_nothing head is = ap wanted_in is

module _ {s : Settings} {registry : List ℕ} {shelf : Shelf} (home : IsHosted s registry shelf) (image : Reference) (at : IsAt registry shelf image) (a : RegistryAuth) (can : CanBeShown a) (moment : ℕ) where
  abbrev I : AuthState → Type 0
  I k = Settled registry shelf.repository a k

  abbrev ctx : Context
  ctx = record { settings = s; moment = moment }

  pub store_gives : AlwaysOk I (answer shelf) (λ u. Unit {0}) (store image a)
  unfolding store EvaluatesWith bind
  store_gives = record { gives = λ k h. (subst (λ (r : List ℕ). Settled registry shelf.repository a (stored k r a)) (sym at.registry_is) (settled_stored registry shelf.repository a k h), tt) }

  abbrev Unasked : AnswerHead → Type 0
  Unasked head = first_of (codes "www-authenticate") head.headers ≡ None

  -- the shelf requires nothing
  base_head : (request : Request) → IsFor Get (base_of s registry ++ codes "/v2/") request → AlwaysOk I (answer shelf) Unasked (head_after 0 request)
  unfolding head_after read_none EvaluatesWith
  base_head request is = record {
    gives = λ k h. EvaluatesWith-follow (answer shelf) (λ l r. I l × Yields Unasked r) 0 request read_none head_reply (answer shelf request) k refl tt tt (h, base_unasked home request is.url_is);
  }

  asked_nothing : AlwaysOk I (answer shelf) (λ (o : Option RegistryTokenType). o ≡ None) (registry_asked s image a Pull)
  unfolding registry_asked
  asked_nothing =
      AlwaysOk-next _ (AlwaysOk-done (url_read (base_text s image)) (url_reads home (base_text s image) (codes "/v2/") (base_text_is home at) base_plain)) (λ url is.
      AlwaysOk-next _ (AlwaysOk-done (request_of s Get url None None) (bare_made s Get url home.agent)) (λ request made.
      AlwaysOk-next _ (base_head request (record { method_is = made.method_is; url_is = made.url_is ∙ is.text_is })) (λ head none.
      subst (λ w. AlwaysOk I (answer shelf) (λ (o : Option RegistryTokenType). o ≡ None) (fetched s image a Pull w)) (sym (wants_nothing head none)) (AlwaysOk-done (Ok None) refl))))

  abbrev key : Key
  key = key_of image Pull

  abbrev Shown : Option RegistryTokenType → Type 0
  Shown o = NoneOr o (unasked a)

  -- the same if the client state is stated with the image's own names
  spelled : {A : Type 0} {P : A → Type 0} {p : Row A} → AlwaysOk (λ k. Settled (resolved_registry image) (repository_of image) a k) (answer shelf) P p → AlwaysOk I (answer shelf) P p
  spelled {A} {P} {p} h = subst (λ (r : List ℕ). AlwaysOk (λ k. Settled r shelf.repository a k) (answer shelf) P p) at.registry_is (subst (λ (r : List ℕ). AlwaysOk (λ k. Settled (resolved_registry image) r a k) (answer shelf) P p) at.repository_is h)

  own_taken : (token : RegistryTokenType) → Some token ≡ unasked a → AlwaysOk (λ k. Settled (resolved_registry image) (repository_of image) a k) (answer shelf) Shown (taken moment key (Ok (Some token)))
  unfolding EvaluatesWith
  own_taken token own = record { gives = λ k h. (settled_kept (resolved_registry image) (repository_of image) a k token moment own h, inr own) }

  asked_gives : AlwaysOk I (answer shelf) Shown (token_asked ctx image Pull a)
  unfolding token_asked bind
  asked_gives = by_unasked (unasked a) refl where
    by_unasked : (o : Option RegistryTokenType) → unasked a ≡ o → AlwaysOk I (answer shelf) Shown (bind (unasked_or_asked s image a Pull o) (taken moment key))
    by_unasked (Some token) is = spelled (own_taken token (sym is))
    by_unasked None is = AlwaysOk-caught (taken moment key) asked_nothing (λ o none. subst (λ (o : Option RegistryTokenType). AlwaysOk I (answer shelf) Shown (taken moment key (Ok o))) (sym none) (AlwaysOk-done (Ok None) (inl refl)))

  kept_gives : (o : Option RegistryTokenType) → NoneOr o (unasked a) → AlwaysOk I (answer shelf) Shown (kept_or_asked ctx image Pull a o)
  kept_gives None h = asked_gives
  kept_gives (Some token) (inl none) = absurd (cc none)
  kept_gives (Some token) (inr own) = AlwaysOk-done (Ok (Some token)) (inr own)

  by_gives : (stored_is : Option RegistryAuth) (o : Option RegistryTokenType) → NoneOr stored_is (Some a) → NoneOr o (unasked a) → AlwaysOk I (answer shelf) Shown (token_by ctx image Pull stored_is o)
  by_gives stored_is o (inl none) h = subst (λ (b : Option RegistryAuth). AlwaysOk I (answer shelf) Shown (token_by ctx image Pull b o)) (sym none) (AlwaysOk-done (Ok None) (inl refl))
  by_gives stored_is o (inr own) h = subst (λ (b : Option RegistryAuth). AlwaysOk I (answer shelf) Shown (token_by ctx image Pull b o)) (sym own) (kept_gives o h)

  token_gives : AlwaysOk I (answer shelf) Shown (token_for ctx image Pull)
  unfolding token_for EvaluatesWith bind
  token_gives = record {
    gives = λ k h. (by_gives (map.get k.credentials (resolved_registry image)) (token_at k.tokens key moment)
        (subst (λ (r : List ℕ). NoneOr (map.get k.credentials r) (Some a)) (sym at.registry_is) h.credentials)
        (token_kept a (kept_under key k.tokens.tokens) moment (subst (λ (r : List ℕ). IsToken a (kept_under (under r (repository_of image) Pull) k.tokens.tokens)) (sym at.registry_is) (subst (λ (r : List ℕ). IsToken a (kept_under (under registry r Pull) k.tokens.tokens)) (sym at.repository_is) h.token)))).gives k h;
  }

  -- ---- the request with its token

  where_gives : (b : Bool) → AlwaysOk I (answer shelf) Shown (token_where ctx image Pull b)
  where_gives true = token_gives
  where_gives false = AlwaysOk-done (Ok None) (inl refl)

  authorized_gives : (url : Parts) → AlwaysOk I (answer shelf) Shown (authorized ctx image Pull url)
  unfolding authorized
  authorized_gives url =
      AlwaysOk-next _ (AlwaysOk-done (url_read (registry_text s image)) (yields_ok (λ (u : Parts). Unit {0}) (url_read (registry_text s image)) home.written.url (ap url_read (registry_text_is home at) ∙ ap (url_or (base_of s registry)) home.written.reads) tt)) (λ u is.
      where_gives (goes_to (request_url (serialize url)) u))

  pub prepared_gives : (method : Method) (url : Parts) (types : List ℕ) → is_header_value types ≡ true → AlwaysOk I (answer shelf) (IsFor method (serialize url)) (prepared ctx image Pull method url types)
  unfolding prepared
  prepared_gives method url types listed =
      AlwaysOk-next _ (authorized_gives url) (λ token shown. AlwaysOk-done (request_of s method url (Some types) token) (request_made s method url types token home.agent listed (can_show a token can shown)))

  -- ---- credentials that are passed in for a token

  step_gives : AlwaysOk I (answer shelf) Shown (token_step s image a Pull)
  step_gives = by_unasked (unasked a) refl where
    by_unasked : (o : Option RegistryTokenType) → unasked a ≡ o → AlwaysOk I (answer shelf) Shown (unasked_or_asked s image a Pull o)
    by_unasked (Some token) is = AlwaysOk-done (Ok (Some token)) (inr (sym is))
    by_unasked None is = AlwaysOk-more Shown asked_nothing (λ o none. inl none)

  own_kept : (token : RegistryTokenType) → Some token ≡ unasked a → AlwaysOk (λ k. Settled (resolved_registry image) (repository_of image) a k) (answer shelf) (λ (o : Option (List ℕ)). Unit {0}) (kept_text moment key (Some token))
  unfolding EvaluatesWith bind
  own_kept token own = record { gives = λ k h. (settled_kept (resolved_registry image) (repository_of image) a k token moment own h, tt) }

  text_kept : (o : Option RegistryTokenType) → Shown o → AlwaysOk I (answer shelf) (λ (t : Option (List ℕ)). Unit {0}) (kept_text moment key o)
  text_kept None h = AlwaysOk-done (Ok None) tt
  text_kept (Some token) (inl none) = absurd (cc none)
  text_kept (Some token) (inr own) = spelled (own_kept token own)

  pub given_gives : AlwaysOk I (answer shelf) (λ (t : Option (List ℕ)). Unit {0}) (token_given ctx image a Pull)
  unfolding token_given
  given_gives = AlwaysOk-next _ store_gives (λ u stored_is. AlwaysOk-next _ step_gives (λ o h. text_kept o h))
