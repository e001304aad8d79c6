-- A call for referrers whose tag is requested from the image's own registry is confined to the image.
use Rattle.std.proofs.Common.{◌≡◌, ◌⊎◌, inl, inr, ℕ, Bool, true, false, List, Option, Some, None, Result, Ok, Err, codes, refl, sym, ap, subst}
use Rattle.std.specs.Prelude.{if◌then◌else◌, nat_eq, bytes_eq, unwrap_or}
use Rattle.oci_transport.specs.Headers.{values_of}
use Rattle.oci_transport.specs.declared.message.Request.{Request}
use Rattle.oci_transport.specs.declared.message.Exchange.{Exchange}
use Rattle.oci_names.specs.declared.reference.Reference.{Reference}
use Rattle.oci_names.specs.Reference.{resolved_registry, repository_of, mirror_of, digest_of}
use Rattle.oci_auth.specs.declared.auth.RegistryAuth.{RegistryAuth}
use Rattle.oci_auth.specs.declared.auth_state.AuthState.{AuthState}
use Rattle.oci_auth.specs.declared.token_type.RegistryOperation.TheVariants.{Pull}
use Rattle.oci_protocol.specs.Proto.{Done}
use Rattle.engine_terms.specs.Contexts.{Context}
use Rattle.engine_requests.specs.Requests.{manifest_types}
use Rattle.engine_answers.specs.declared.answers.Got.{Got}
use Rattle.engine_terms.specs.declared.error.GenericCause.TheVariants.{HeaderText}
use Rattle.engine_terms.specs.declared.error.OciDistributionError.{OciDistributionError}
use Rattle.engine_terms.specs.declared.error.OciDistributionError.TheVariants as refusal
use Rattle.engine_answers.specs.Referrers.{referrers_in, fallback_reference}
use Rattle.engine_requests.specs.ReferrerLists.{digest_given}
use Rattle.engine_rows.specs.Rows.{Row}
use Rattle.engine_rows.specs.Referrers.{referrers_asked, referrers_tagged, referrers_by, pull_referrers}
use Rattle.engine_rows.specs.Confined.{ToRegistry, ToRealm, MayCarry}
use Rattle.engine_rows.specs.Held.{pulling}
use Rattle.request_laws.proofs.RequestConfinement.{each_more}
use Rattle.request_laws.proofs.HeaderCauses.{Sound}
use Rattle.request_laws.proofs.KeptTokens.{Keeps}
use Rattle.engine_laws.proofs.ReferrersConfinement.{asked_sound, tagged_sound}
use Rattle.engine_laws.proofs.ReferrersPlain.{digest_plain, list_plain}
use Rattle.request_laws.proofs.SafeMore.{Safe-map}
use Rattle.request_laws.proofs.ShownTokens.{Carries, HeaderCause, Ended, safe_next, plain_step, plain_last}

-- ---- a reference is requested by its registry and its repository

-- a reference with these, and nothing else
place : List ℕ → List ℕ → Reference
place registry repository = record { registry = registry; mirror = Some registry; repository = repository; tag = None; digest = None }

abbrev place_of : Reference → Reference
place_of image = place (resolved_registry image) (repository_of image)

to_keeps : (k : AuthState) (s : Context) (image : Reference) (handed : Option RegistryAuth) (l : AuthState) (c : List Exchange) → Keeps (pulling k s image handed) l c → Keeps (pulling k s (place_of image) handed) l c
unfolding place
to_keeps k s image handed l c h = record { credentials = λ a is. h.credentials a is; tokens = λ token is. h.tokens token is; added = λ key moment token is. h.added key moment token is; stored = λ registry a is. h.stored registry a is }

of_keeps : (k : AuthState) (s : Context) (image : Reference) (handed : Option RegistryAuth) (l : AuthState) (c : List Exchange) → Keeps (pulling k s (place_of image) handed) l c → Keeps (pulling k s image handed) l c
unfolding place
of_keeps k s image handed l c h = record { credentials = λ a is. h.credentials a is; tokens = λ token is. h.tokens token is; added = λ key moment token is. h.added key moment token is; stored = λ registry a is. h.stored registry a is }

to_cause : (k : AuthState) (s : Context) (image : Reference) (handed : Option RegistryAuth) (types : List ℕ) (c : List Exchange) (e : OciDistributionError) → HeaderCause (pulling k s image handed) s.settings types c e → HeaderCause (pulling k s (place_of image) handed) s.settings types c e
unfolding place
to_cause k s image handed types c (refusal.GenericError HeaderText) h = h
to_cause k s image handed types c _ h = tt

of_cause : (k : AuthState) (s : Context) (image : Reference) (handed : Option RegistryAuth) (types : List ℕ) (c : List Exchange) (e : OciDistributionError) → HeaderCause (pulling k s (place_of image) handed) s.settings types c e → HeaderCause (pulling k s image handed) s.settings types c e
unfolding place
of_cause k s image handed types c (refusal.GenericError HeaderText) h = h
of_cause k s image handed types c _ h = tt

to_ended : {A : Type 0} (k : AuthState) (s : Context) (image : Reference) (handed : Option RegistryAuth) (types : List ℕ) (l : AuthState) (c : List Exchange) (r : Result A OciDistributionError) → Ended (pulling k s image handed) s.settings types l c r → Ended (pulling k s (place_of image) handed) s.settings types l c r
to_ended k s image handed types l c (Ok a) h = to_keeps k s image handed l c h
to_ended k s image handed types l c (Err e) h = to_cause k s image handed types c e h

of_ended : {A : Type 0} (k : AuthState) (s : Context) (image : Reference) (handed : Option RegistryAuth) (types : List ℕ) (l : AuthState) (c : List Exchange) (r : Result A OciDistributionError) → Ended (pulling k s (place_of image) handed) s.settings types l c r → Ended (pulling k s image handed) s.settings types l c r
of_ended k s image handed types l c (Ok a) h = of_keeps k s image handed l c h
of_ended k s image handed types l c (Err e) h = of_cause k s image handed types c e h

to_value : (k : AuthState) (s : Context) (image : Reference) (handed : Option RegistryAuth) (c : List Exchange) (request : Request) (value : List ℕ) → MayCarry (pulling k s image handed) s.settings c request value → MayCarry (pulling k s (place_of image) handed) s.settings c request value
unfolding place
to_value k s image handed c request value h = record { goes = goes h.goes; token = h.token; held = h.held; value_is = h.value_is } where
  goes : ToRegistry s.settings image request ⊎ ToRealm s.settings image Pull c request → ToRegistry s.settings (place_of image) request ⊎ ToRealm s.settings (place_of image) Pull c request
  goes (inl g) = inl (record { registry = g.registry; url = g.url; registry_is = g.registry_is; url_is = g.url_is; goes = g.goes })
  goes (inr g) = inr (record { before = g.before; exchange = g.exchange; split = g.split; base = g.base; base_is = g.base_is; asked_by = g.asked_by; asked = g.asked; answer = g.answer; answered = g.answered; challenge = g.challenge; names = g.names; realm = g.realm; realm_is = g.realm_is; by_get = g.by_get; asks = g.asks })

of_value : (k : AuthState) (s : Context) (image : Reference) (handed : Option RegistryAuth) (c : List Exchange) (request : Request) (value : List ℕ) → MayCarry (pulling k s (place_of image) handed) s.settings c request value → MayCarry (pulling k s image handed) s.settings c request value
unfolding place
of_value k s image handed c request value h = record { goes = goes h.goes; token = h.token; held = h.held; value_is = h.value_is } where
  goes : ToRegistry s.settings (place_of image) request ⊎ ToRealm s.settings (place_of image) Pull c request → ToRegistry s.settings image request ⊎ ToRealm s.settings image Pull c request
  goes (inl g) = inl (record { registry = g.registry; url = g.url; registry_is = g.registry_is; url_is = g.url_is; goes = g.goes })
  goes (inr g) = inr (record { before = g.before; exchange = g.exchange; split = g.split; base = g.base; base_is = g.base_is; asked_by = g.asked_by; asked = g.asked; answer = g.answer; answered = g.answered; challenge = g.challenge; names = g.names; realm = g.realm; realm_is = g.realm_is; by_get = g.by_get; asks = g.asks })

to_place : {A : Type 0} (k : AuthState) (s : Context) (image : Reference) (handed : Option RegistryAuth) (types : List ℕ) (l : AuthState) (c : List Exchange) (p : Row A) → Sound (pulling k s image handed) s.settings types l c p → Sound (pulling k s (place_of image) handed) s.settings types l c p
to_place k s image handed types l c p h = let x = pulling k s image handed in let y = pulling k s (place_of image) handed in
    Safe-map (Carries x s.settings) (Carries y s.settings) (Keeps x) (Keeps y) (Ended x s.settings types) (Ended y s.settings types) p (λ l c request g. each_more (MayCarry x s.settings c request) (MayCarry y s.settings c request) (values_of (codes "authorization") request.headers) (λ value at. to_value k s image handed c request value at) g) (to_keeps k s image handed) (to_ended k s image handed types) l c h

of_place : {A : Type 0} (k : AuthState) (s : Context) (image : Reference) (handed : Option RegistryAuth) (types : List ℕ) (l : AuthState) (c : List Exchange) (p : Row A) → Sound (pulling k s (place_of image) handed) s.settings types l c p → Sound (pulling k s image handed) s.settings types l c p
of_place k s image handed types l c p h = let x = pulling k s image handed in let y = pulling k s (place_of image) handed in
    Safe-map (Carries y s.settings) (Carries x s.settings) (Keeps y) (Keeps x) (Ended y s.settings types) (Ended x s.settings types) p (λ l c request g. each_more (MayCarry y s.settings c request) (MayCarry x s.settings c request) (values_of (codes "authorization") request.headers) (λ value at. of_value k s image handed c request value at) g) (of_keeps k s image handed) (of_ended k s image handed types) l c h

-- ---- the tag at the image's registry

here : (k : AuthState) (s : Context) (image : Reference) (digest : List ℕ) (handed : Option RegistryAuth) (l : AuthState) (c : List Exchange) → resolved_registry (fallback_reference image digest) ≡ resolved_registry image → Keeps (pulling k s image handed) l c → Keeps (pulling k s (fallback_reference image digest) handed) l c
here k s image digest handed l c same keeps = of_keeps k s (fallback_reference image digest) handed l c (subst (λ r. Keeps (pulling k s (place r (repository_of image)) handed) l c) (sym same) (to_keeps k s image handed l c keeps))

tag_sound : (s : Context) (image : Reference) (digest : List ℕ) (kind : Option (List ℕ)) (k : AuthState) (handed : Option RegistryAuth) (l : AuthState) (c : List Exchange) → resolved_registry (fallback_reference image digest) ≡ resolved_registry image → Keeps (pulling k s image handed) l c → Sound (pulling k s image handed) s.settings manifest_types l c (referrers_tagged s image digest kind)
tag_sound s image digest kind k handed l c same keeps = of_place k s image handed manifest_types l c (referrers_tagged s image digest kind)
    (subst (λ r. Sound (pulling k s (place r (repository_of image)) handed) s.settings manifest_types l c (referrers_tagged s image digest kind)) same
    (to_place k s (fallback_reference image digest) handed manifest_types l c (referrers_tagged s image digest kind) (tagged_sound s image digest kind k handed l c (here k s image digest handed l c same keeps))))

by_sound : (s : Context) (image : Reference) (digest : List ℕ) (kind : Option (List ℕ)) (k : AuthState) (handed : Option RegistryAuth) (l : AuthState) (c : List Exchange) (got : Got) → resolved_registry (fallback_reference image digest) ≡ resolved_registry image → Keeps (pulling k s image handed) l c → Sound (pulling k s image handed) s.settings manifest_types l c (referrers_by s image digest kind got)
by_sound s image digest kind k handed l c got same keeps =
    elim (nat_eq got.answer.status 404) as (λ b. Sound (pulling k s image handed) s.settings manifest_types l c (if b then referrers_tagged s image digest kind else Done (referrers_in got))) [
      | true ↦ tag_sound s image digest kind k handed l c same keeps
      | false ↦ plain_last (pulling k s image handed) s.settings manifest_types (referrers_in got) l c (list_plain got) keeps
    ]

given_is : (o : Option (List ℕ)) (digest : List ℕ) → digest_given o ≡ Ok digest → o ≡ Some digest
given_is (Some d) digest is = let same : d ≡ digest = cc is in ap Some same
given_is None digest is = absurd (cc is)

pub referrers_sound : (s : Context) (image : Reference) (kind : Option (List ℕ)) (k : AuthState) (handed : Option RegistryAuth) (l : AuthState) (c : List Exchange) → ((digest : List ℕ) → digest_of image ≡ Some digest → resolved_registry (fallback_reference image digest) ≡ resolved_registry image) → Keeps (pulling k s image handed) l c → Sound (pulling k s image handed) s.settings manifest_types l c (pull_referrers s image kind)
unfolding pull_referrers
referrers_sound s image kind k handed l c same keeps =
    let x = pulling k s image handed in
    plain_step x s.settings manifest_types (digest_given (digest_of image)) _ l c (digest_plain (digest_of image)) (λ digest is.
    safe_next x s.settings manifest_types (referrers_asked s image digest kind) (referrers_by s image digest kind) l c (asked_sound s image digest kind k handed l c keeps) (λ l c got keeps. by_sound s image digest kind k handed l c got (same digest (given_is (digest_of image) digest is)) keeps))

-- ---- an image without a mirror

hub : List ℕ → List ℕ
hub registry = if bytes_eq registry (codes "docker.io") then codes "index.docker.io" else registry

once_more : (registry : List ℕ) (b : Bool) → bytes_eq registry (codes "docker.io") ≡ b → hub (if b then codes "index.docker.io" else registry) ≡ (if b then codes "index.docker.io" else registry)
unfolding hub
once_more registry true is = refl
once_more registry false is = ap (λ (b : Bool). if b then codes "index.docker.io" else registry) is

of_mirror : (mirror : Option (List ℕ)) (registry : List ℕ) → mirror ≡ None → hub (unwrap_or mirror (hub registry)) ≡ unwrap_or mirror (hub registry)
unfolding hub
of_mirror None registry none = once_more registry (bytes_eq registry (codes "docker.io")) refl
of_mirror (Some mirror) registry none = absurd (cc none)

-- its tag is requested from its own registry
pub same_registry : (image : Reference) (digest : List ℕ) → mirror_of image ≡ None → resolved_registry (fallback_reference image digest) ≡ resolved_registry image
unfolding hub
same_registry image digest none = of_mirror image.mirror image.registry none
