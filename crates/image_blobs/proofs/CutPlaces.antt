-- A blob's request, and then the places that its URLs name.
use Rattle.std.proofs.Common.{◌≡◌, ◌<◌, ℕ, ◌+◌, List, [], ◌∷◌, Option, Some, None, Result, Ok, Err, length, drop, get_or, Bool, true, false, refl, sym, ap, subst, ◌∙◌}
use Rattle.std.specs.Prelude.{if◌then◌else◌}
use Rattle.std.specs.Result.{IsErrAnd}
use Rattle.std.proofs.lemmas.Result.{err_from_is_err_and}
use Rattle.url.specs.Parts.{Parts, serialize}
use Rattle.oci_transport.specs.Urls.{request_url}
use Rattle.oci_auth.specs.declared.token_type.RegistryTokenType.{RegistryTokenType}
use Rattle.byte_streams.specs.SinkState.{SinkState}
use Rattle.oci_transport.specs.Link.{Link}
use Rattle.oci_transport.specs.declared.message.Request.{Request}
use Rattle.oci_transport.specs.declared.message.Method.TheVariants.{Get}
use Rattle.oci_auth.specs.declared.auth_state.AuthState.{AuthState}
use Rattle.oci_protocol.specs.Proto.{Done, ◌>>=◌}
use Rattle.oci_protocol.proofs.Laws.{Meets-refused}
use Rattle.json_values.specs.Refusals.{Matches}
use Rattle.engine_terms.specs.Error.{is_memory}
use Rattle.engine_terms.specs.declared.settings.Settings.{Settings}
use Rattle.engine_terms.specs.declared.error.OciDistributionError.{OciDistributionError}
use Rattle.engine_requests.specs.declared.sources.Place.{Place}
use Rattle.engine_requests.specs.declared.sources.Place.TheVariants.{Web, Unfit}
use Rattle.engine_requests.specs.Requests.{manifest_types, request_of}
use Rattle.engine_requests.specs.Sources.{place_of, with_place, places_of, asked_at}
use Rattle.engine_rows.specs.Rows.{Row, goes_to}
use Rattle.engine_rows.specs.Blobs.{MeetsIntoSink}
use Rattle.oci_protocol.proofs.Exits.{said}
use Rattle.engine_pull.proofs.AttemptSteps.{spills_next}
use Rattle.engine_pull.proofs.Layers.{at_next}
use Rattle.engine_pull.proofs.NoSink.{Calm, request_calm, done_calm, spills_refused}
use Rattle.call_laws.specs.Blobs.{sent_token}
use Rattle.call_laws.specs.Cut.{cut, cut_at}

places_last : (urls : List (List ℕ)) → urls ≡ [] → places_of urls ≡ []
places_last urls is = rw is refl

places_skip : (urls : List (List ℕ)) (i : ℕ) (text : List ℕ) → i < length urls → text ≡ get_or urls i text → place_of text ≡ None → places_of (drop i urls) ≡ places_of (drop (i + 1) urls)
places_skip urls i text lt is none = ap places_of (at_next urls i text lt is) ∙ ap (λ (o : Option Place). with_place o (places_of (drop (i + 1) urls))) none

places_next : (urls : List (List ℕ)) (i : ℕ) (text : List ℕ) (p : Place) → i < length urls → text ≡ get_or urls i text → place_of text ≡ Some p → places_of (drop i urls) ≡ p ∷ places_of (drop (i + 1) urls)
places_next urls i text p lt is some = ap places_of (at_next urls i text lt is) ∙ ap (λ (o : Option Place). with_place o (places_of (drop (i + 1) urls))) some

-- what follows at a place
abbrev pub then_at : Settings → ℕ → List ℕ → Place → List Place → Row (List ℕ)
then_at s size digest p ps = Done (asked_at s p) >>= (λ next. cut_at s size digest ps next)

cut_end : (s : Settings) (size : ℕ) (digest : List ℕ) (places : List Place) (request : Request) → places ≡ [] → cut_at s size digest places request ≡ cut s size digest None request
unfolding cut_at
cut_end s size digest places request is = rw is refl

cut_next : (s : Settings) (size : ℕ) (digest : List ℕ) (places : List Place) (p : Place) (ps : List Place) (request : Request) → places ≡ p ∷ ps → cut_at s size digest places request ≡ cut s size digest (Some (then_at s size digest p ps)) request
unfolding cut_at
cut_next s size digest places p ps request is = rw is refl

-- a request at a place is not refused for a fault of the sink
asked_calm : (s : Settings) (p : Place) → Calm (asked_at s p)
unfolding asked_at
asked_calm s (Web url) = request_calm s Get url (Some manifest_types) None
asked_calm s (Unfit text) = λ h. cc

pub put_last : (s : Settings) (size : ℕ) (digest : List ℕ) (urls : List (List ℕ)) (request : Request) {old new : Link} {k l : AuthState} {before after : SinkState} {r : Result Unit OciDistributionError} → urls ≡ [] → MeetsIntoSink (cut s size digest None request) old new k l before after r → MeetsIntoSink (cut_at s size digest (places_of urls) request) old new k l before after r
put_last s size digest urls request is rest = rw (cut_end s size digest (places_of urls) request (places_last urls is)) rest

pub put_over : (s : Settings) (size : ℕ) (digest : List ℕ) (urls : List (List ℕ)) (i : ℕ) (text : List ℕ) (request : Request) {old new : Link} {k l : AuthState} {before after : SinkState} {r : Result Unit OciDistributionError} → i < length urls → text ≡ get_or urls i text → place_of text ≡ None → MeetsIntoSink (cut_at s size digest (places_of (drop (i + 1) urls)) request) old new k l before after r → MeetsIntoSink (cut_at s size digest (places_of (drop i urls)) request) old new k l before after r
put_over s size digest urls i text request lt is none rest = rw (places_skip urls i text lt is none) rest

pub put_at : (s : Settings) (size : ℕ) (digest : List ℕ) (urls : List (List ℕ)) (i : ℕ) (text : List ℕ) (p : Place) (request : Request) {old new : Link} {k l : AuthState} {before after : SinkState} {r : Result Unit OciDistributionError} → i < length urls → text ≡ get_or urls i text → place_of text ≡ Some p → MeetsIntoSink (cut s size digest (Some (then_at s size digest p (places_of (drop (i + 1) urls)))) request) old new k l before after r → MeetsIntoSink (cut_at s size digest (places_of (drop i urls)) request) old new k l before after r
put_at s size digest urls i text p request lt is some rest = rw (cut_next s size digest (places_of (drop i urls)) p (places_of (drop (i + 1) urls)) request (places_next urls i text p lt is some)) rest

-- the request at the next place is refused
pub put_unasked : (s : Settings) (size : ℕ) (digest : List ℕ) (p : Place) (ps : List Place) {link : Link} {k : AuthState} {sink : SinkState} (e : OciDistributionError) {r : Result Unit OciDistributionError} → Matches {A = Request} is_memory (Err e) (asked_at s p) → IsErrAnd r (λ x. x ≡ e) → MeetsIntoSink (then_at s size digest p ps) link link k k sink sink r
put_unasked s size digest p ps {sink = sink} e says is = spills_refused (λ next. cut_at s size digest ps next) sink (done_calm (asked_at s p) (asked_calm s p)) (said {A = Request} (Err e) says) (Meets-refused (λ next. cut_at s size digest ps next) (said {A = Request} (Err e) says)) is

-- it is built
pub put_asked : (s : Settings) (size : ℕ) (digest : List ℕ) (p : Place) (ps : List Place) (next : Request) {mid end : Link} {k l : AuthState} {before after : SinkState} {r : Result Unit OciDistributionError} → Matches is_memory (Ok next) (asked_at s p) → MeetsIntoSink (cut_at s size digest ps next) mid end k l before after r → MeetsIntoSink (then_at s size digest p ps) mid end k l before after r
put_asked s size digest p ps next says rest = spills_next (λ next. cut_at s size digest ps next) (said (Ok next) says) rest

-- ---- the request at the registry

-- at the exit of a `?`
pub says_on : {A : Type 0} (e : OciDistributionError) (r s : Result A OciDistributionError) → Matches {A = A} is_memory (Err e) s → IsErrAnd r (λ x. x ≡ e) → Matches is_memory r s
says_on e r s says is = let at = err_from_is_err_and r is in rw (at.1, at.2) says

-- it goes there, with the token
pub asked_there : (s : Settings) (registry url : Parts) (token : Option RegistryTokenType) (goes : Bool) (r : Result Request OciDistributionError) → goes ≡ goes_to (request_url (serialize url)) registry → goes ≡ true → Matches is_memory r (request_of s Get url (Some manifest_types) token) → Matches is_memory r (request_of s Get url (Some manifest_types) (sent_token registry token url))
asked_there s registry url token goes r is there says = subst (λ (t : Option RegistryTokenType). Matches is_memory r (request_of s Get url (Some manifest_types) t)) (sym (ap (λ (b : Bool). if b then token else None) (sym is ∙ there))) says

-- it goes elsewhere, without
pub asked_elsewhere : (s : Settings) (registry url : Parts) (token : Option RegistryTokenType) (goes : Bool) (r : Result Request OciDistributionError) → goes ≡ goes_to (request_url (serialize url)) registry → goes ≡ false → Matches is_memory r (request_of s Get url (Some manifest_types) None) → Matches is_memory r (request_of s Get url (Some manifest_types) (sent_token registry token url))
asked_elsewhere s registry url token goes r is elsewhere says = subst (λ (t : Option RegistryTokenType). Matches is_memory r (request_of s Get url (Some manifest_types) t)) (sym (ap (λ (b : Bool). if b then token else None) (sym is ∙ elsewhere))) says
