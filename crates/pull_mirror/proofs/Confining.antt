-- A copy sends credentials and tokens only to the target's registry and to the realm that it names: each reference that
-- is pushed is in the target's repository.
use Rattle.std.proofs.Common.{◌≡◌, ◌⊎◌, inl, inr, ℕ, List, [], ◌∷◌, Option, Some, None, Result, Ok, Err, codes, refl}
use Rattle.oci_auth.specs.declared.auth.RegistryAuth.{RegistryAuth}
use Rattle.oci_auth.specs.declared.auth_state.AuthState.{AuthState}
use Rattle.oci_auth.specs.declared.token_type.RegistryOperation.TheVariants.{Push as ForPush}
use Rattle.oci_names.specs.declared.reference.Reference.{Reference}
use Rattle.oci_protocol.specs.Proto.{Done, bind, unless_refused, ◌>>=◌}
use Rattle.oci_protocol.specs.Runs.{Meets, Told}
use Rattle.oci_protocol.specs.Safe.{Safe}
use Rattle.oci_protocol.proofs.Conversations.{Extends-none}
use Rattle.oci_protocol.proofs.Safety.{Safe-bind}
use Rattle.oci_transport.specs.Headers.{values_of}
use Rattle.oci_transport.specs.Link.{Link}
use Rattle.oci_transport.specs.declared.message.Exchange.{Exchange}
use Rattle.oci_transport.specs.declared.message.Request.{Request}
use Rattle.engine_terms.specs.Contexts.{Context}
use Rattle.engine_terms.specs.Error.{is_memory}
use Rattle.engine_terms.specs.declared.error.OciDistributionError.{OciDistributionError}
use Rattle.engine_terms.specs.declared.settings.Settings.{Settings}
use Rattle.engine_rows.specs.Confined.{ToRegistry, ToRealm, MayCarry, Within}
use Rattle.engine_rows.specs.Held.{Entry, asking, pulling}
use Rattle.engine_rows.specs.Rows.{Row, store}
use Rattle.push_rows.specs.Calls.{push_blob}
use Rattle.push_rows.specs.Images.{push_manifest_raw}
use Rattle.request_laws.proofs.CallConfinement.{call_within}
use Rattle.request_laws.proofs.KeptTokens.{Keeps, keeps_first, keeps_stored}
use Rattle.request_laws.proofs.RequestConfinement.{each_more}
use Rattle.request_laws.proofs.SafeMore.{Safe-map, Safe-more}
use Rattle.request_laws.proofs.ShownTokens.{Carries, safe_done}
use Rattle.push_laws.proofs.Confinement.{pushing, Kept, Bound, blob_bound}
use Rattle.push_laws.proofs.PublishedBounds.{raw_bound}
use Rattle.pull_mirror.specs.Every.{plain}

-- ---- what a row of pushes leaves, whatever the types of its documents

abbrev pub Left : Entry → {A : Type 0} → AuthState → List Exchange → Result A OciDistributionError → Type 0
Left x l c r = Keeps x l c

pub record Stays (x : Entry) (s : Settings) {A : Type 0} (p : Row A) : Type 0 where
  pub safe : (l : AuthState) (c : List Exchange) → Keeps x l c → Safe (Carries x s) (Keeps x) (Left x) l c p

left_of : {A : Type 0} (x : Entry) (s : Settings) (kind : List ℕ) (l : AuthState) (c : List Exchange) (r : Result A OciDistributionError) → Kept x s kind l c r → Left x l c r
left_of x s kind l c (Ok a) h = h
left_of x s kind l c (Err e) h = h.0

stays_bound : {A : Type 0} (x : Entry) (s : Settings) (kind : List ℕ) (p : Row A) → Bound x s kind p → Stays x s p
stays_bound x s kind p bound = record { safe = λ l c keeps. Safe-more (Carries x s) (Keeps x) (Keeps x) (Kept x s kind) (Left x) p (λ k c h. h) (left_of x s kind) l c (bound.safe l c keeps) }

pub stays_done : {A : Type 0} (x : Entry) (s : Settings) (r : Result A OciDistributionError) → Stays x s (Done r)
stays_done x s r = record { safe = λ l c keeps. safe_done x s (Left x) l c r keeps }

pub stays_next : {A B : Type 0} (x : Entry) (s : Settings) (p : Row A) (f : A → Row B) → Stays x s p → ((a : A) → Stays x s (f a)) → Stays x s (p >>= f)
stays_next {A} {B} x s p f first each = record {
  safe = λ l c keeps. Safe-bind (Carries x s) (Keeps x) (Left x) (Left x) p (unless_refused f) l c (first.safe l c keeps) by_result;
} where
  by_result : (l : AuthState) (c : List Exchange) (r : Result A OciDistributionError) → Left x l c r → Safe (Carries x s) (Keeps x) (Left x) l c (unless_refused f r)
  by_result l c (Ok a) h = (each a).safe l c h
  by_result l c (Err e) h = safe_done x s (Left x {A = B}) l c (Err e) h

-- ---- references in one repository

-- what a push of one reference may send, a push of another one of the same repository may send
module _ (k : AuthState) (s : Context) (registry repository : List ℕ) (tag digest other_tag other_digest : Option (List ℕ)) (handed : Option RegistryAuth) where
  abbrev Of : Entry
  Of = pushing k s (plain registry repository tag digest) handed

  abbrev Other : Entry
  Other = pushing k s (plain registry repository other_tag other_digest) handed

  registry_as : (request : Request) → ToRegistry s.settings Other.image request → ToRegistry s.settings Of.image request
  registry_as request h = record { registry = h.registry; url = h.url; registry_is = h.registry_is; url_is = h.url_is; goes = h.goes }

  realm_as : (c : List Exchange) (request : Request) → ToRealm s.settings Other.image Other.operation c request → ToRealm s.settings Of.image Of.operation c request
  realm_as c request h = record {
    before = h.before;
    exchange = h.exchange;
    split = h.split;
    base = h.base;
    base_is = h.base_is;
    asked_by = h.asked_by;
    asked = h.asked;
    answer = h.answer;
    answered = h.answered;
    challenge = h.challenge;
    names = h.names;
    realm = h.realm;
    realm_is = h.realm_is;
    by_get = h.by_get;
    asks = h.asks;
  }

  goes_as : (c : List Exchange) (request : Request) → ToRegistry s.settings Other.image request ⊎ ToRealm s.settings Other.image Other.operation c request → ToRegistry s.settings Of.image request ⊎ ToRealm s.settings Of.image Of.operation c request
  goes_as c request (inl h) = inl (registry_as request h)
  goes_as c request (inr h) = inr (realm_as c request h)

  carries_as : (l : AuthState) (c : List Exchange) (request : Request) → Carries Other s.settings l c request → Carries Of s.settings l c request
  carries_as l c request h = each_more (MayCarry Other s.settings c request) (MayCarry Of s.settings c request) (values_of (codes "authorization") request.headers)
      (λ value at. record { goes = goes_as c request at.goes; token = at.token; held = at.held; value_is = at.value_is }) h

  keeps_as : (l : AuthState) (c : List Exchange) → Keeps Other l c → Keeps Of l c
  keeps_as l c h = record { credentials = h.credentials; tokens = h.tokens; added = h.added; stored = h.stored }

  keeps_back : (l : AuthState) (c : List Exchange) → Keeps Of l c → Keeps Other l c
  keeps_back l c h = record { credentials = h.credentials; tokens = h.tokens; added = h.added; stored = h.stored }

  pub stays_as : {A : Type 0} (p : Row A) → Stays Other s.settings p → Stays Of s.settings p
  stays_as p stays = record {
    safe = λ l c keeps. Safe-map (Carries Other s.settings) (Carries Of s.settings) (Keeps Other) (Keeps Of) (Left Other) (Left Of) p carries_as keeps_as (λ m d r h. keeps_as m d h) l c (stays.safe l c (keeps_back l c keeps));
  }

-- ---- the parts of a copy

pub raw_stays : (k : AuthState) (s : Context) (image : Reference) (handed : Option RegistryAuth) (body kind : List ℕ) → Stays (pushing k s image handed) s.settings (push_manifest_raw s image body kind)
raw_stays k s image handed body kind = stays_bound (pushing k s image handed) s.settings kind _ (raw_bound k s image handed kind body)

pub blob_stays : (k : AuthState) (s : Context) (image : Reference) (handed : Option RegistryAuth) (content digest : List ℕ) → Stays (pushing k s image handed) s.settings (push_blob s image content digest)
blob_stays k s image handed content digest = stays_bound (pushing k s image handed) s.settings [] _ (blob_bound k s image handed [] content digest)

pub store_stays : (k : AuthState) (s : Context) (image : Reference) (a : RegistryAuth) → Stays (pushing k s image (Some a)) s.settings (store image a)
unfolding store Safe bind
store_stays k s image a = record { safe = λ l c keeps. let kept = keeps_stored (pushing k s image (Some a)) l c a refl keeps in (kept, kept) }

-- ---- the exposed exchanges

pub stays_told : {A : Type 0} (s : Context) (image : Reference) (handed : Option RegistryAuth) (p : Row A) {old new : Link} {k l : AuthState} {r : Result A OciDistributionError} → Stays (pushing k s image handed) s.settings p → Meets is_memory p old new k l r → Told (Within (pushing k s image handed) s.settings l) old new
stays_told s image handed p {k = k} {l = l} stays met = let x = pushing k s image handed in call_within x s.settings (Left x) l (stays.safe k [] (keeps_first x)) met

-- nothing was sent
pub nothing_sent : (s : Context) (image : Reference) (handed : Option RegistryAuth) (link : Link) (k : AuthState) → Told (Within (asking k s image ForPush handed) s.settings k) link link
nothing_sent s image handed link k = record {
  conversation = [];
  told = Extends-none link;
  holds = record { confined = tt; kept = λ key at token there. inl there; stored = λ registry a there. inl there };
}

-- nothing was requested
pub nothing_asked : (s : Context) (image : Reference) (handed : Option RegistryAuth) (link : Link) (k : AuthState) → Told (Within (pulling k s image handed) s.settings k) link link
nothing_asked s image handed link k = record {
  conversation = [];
  told = Extends-none link;
  holds = record { confined = tt; kept = λ key at token there. inl there; stored = λ registry a there. inl there };
}
