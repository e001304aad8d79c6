-- A blob's request, and then the places that its URLs name.
use Rattle.std.proofs.Common.{◌≡◌, ◌<◌, ℕ, ◌+◌, Bool, true, false, List, [], ◌∷◌, Option, Some, None, Result, Ok, Err, length, drop, get_or, refl, ap, ◌∙◌}
use Rattle.std.specs.Result.{IsErrAnd}
use Rattle.byte_streams.specs.SinkState.{SinkState}
use Rattle.oci_transport.specs.Link.{Link}
use Rattle.oci_transport.specs.declared.message.Request.{Request}
use Rattle.oci_auth.specs.declared.auth_state.AuthState.{AuthState}
use Rattle.oci_protocol.specs.Proto.{Done, ◌>>=◌}
use Rattle.oci_protocol.specs.Runs.{Meets}
use Rattle.oci_protocol.proofs.Laws.{Meets-memory, Meets-refused}
use Rattle.engine_terms.specs.declared.settings.Settings.{Settings}
use Rattle.engine_terms.specs.declared.error.OciDistributionError.{OciDistributionError}
use Rattle.engine_terms.specs.declared.error.OciDistributionError.TheVariants as refusal
use Rattle.engine_requests.specs.declared.sources.Place.{Place}
use Rattle.engine_requests.specs.declared.sources.Place.TheVariants.{Web, Unfit}
use Rattle.json_values.specs.Refusals.{Matches}
use Rattle.engine_terms.specs.Error.{is_memory}
use Rattle.engine_requests.specs.Requests.{manifest_types}
use Rattle.engine_requests.specs.Sources.{place_of, with_place, places_of, asked_at}
use Rattle.oci_transport.specs.declared.message.Method.TheVariants.{Get}
use Rattle.engine_rows.specs.Rows.{Row}
use Rattle.engine_rows.specs.Blobs.{Destination, IntoSink, IntoMemory, attempt, MeetsIntoSink}
use Rattle.engine_rows.specs.Offers.{offer, tried, Offered, OfferedInto}
use Rattle.engine_pull.proofs.AttemptSteps.{spills_wanting, spills_next}
use Rattle.oci_protocol.proofs.Exits.{said, refused, and_then}
use Rattle.engine_pull.proofs.Layers.{at_next}
use Rattle.engine_pull.proofs.NoSink.{Calm, request_calm, done_calm, spills_refused}

-- ---- the places that are left

places_last : (urls : List (List ℕ)) → urls ≡ [] → places_of urls ≡ []
places_last urls is = rw is refl

places_skip : (urls : List (List ℕ)) (i : ℕ) (text : List ℕ) → i < length urls → text ≡ get_or urls i text → place_of text ≡ None → places_of (drop i urls) ≡ places_of (drop (i + 1) urls)
places_skip urls i text lt is none = ap places_of (at_next urls i text lt is) ∙ ap (λ (o : Option Place). with_place o (places_of (drop (i + 1) urls))) none

places_next : (urls : List (List ℕ)) (i : ℕ) (text : List ℕ) (p : Place) → i < length urls → text ≡ get_or urls i text → place_of text ≡ Some p → places_of (drop i urls) ≡ p ∷ places_of (drop (i + 1) urls)
places_next urls i text p lt is some = ap places_of (at_next urls i text lt is) ∙ ap (λ (o : Option Place). with_place o (places_of (drop (i + 1) urls))) some

-- what follows at a place
abbrev pub then_at : Destination → Settings → List ℕ → Place → List Place → Row (List ℕ)
then_at to s digest p ps = Done (asked_at s p) >>= (λ next. tried to s digest ps next)

tried_end : (to : Destination) (s : Settings) (digest : List ℕ) (places : List Place) (request : Request) → places ≡ [] → tried to s digest places request ≡ attempt to s.max_body_bytes digest request
unfolding tried
tried_end to s digest places request is = rw is refl

tried_at : (to : Destination) (s : Settings) (digest : List ℕ) (places : List Place) (p : Place) (ps : List Place) (request : Request) → places ≡ p ∷ ps → tried to s digest places request ≡ offer to s.max_body_bytes digest (then_at to s digest p ps) request
unfolding tried
tried_at to s digest places p ps request is = rw is refl

-- a request at a place is not refused for a fault of the sink
asked_calm : (s : Settings) (p : Place) → Calm (asked_at s p)
unfolding asked_at
asked_calm s (Web url) = request_calm s Get url (Some manifest_types) None
asked_calm s (Unfit text) = λ h. cc

-- ---- into a sink

-- What was done leads from row p to row q: whatever q then does and writes, p did.
pub record LeadsInto (p q : Row (List ℕ)) (old mid : Link) (before between : SinkState) : Type 0 where
  pub met : (end : Link) (k l : AuthState) (later : SinkState) (r : Result Unit OciDistributionError) → MeetsIntoSink q mid end k l between later r → MeetsIntoSink p old end k l before later r

pub put_last : (s : Settings) (digest : List ℕ) (urls : List (List ℕ)) (request : Request) {old new : Link} {k l : AuthState} {before after : SinkState} {r : Result Unit OciDistributionError} → urls ≡ [] → MeetsIntoSink (attempt IntoSink s.max_body_bytes digest request) old new k l before after r → MeetsIntoSink (tried IntoSink s digest (places_of urls) request) old new k l before after r
put_last s digest urls request is rest = rw (tried_end IntoSink s digest (places_of urls) request (places_last urls is)) rest

pub put_over : (s : Settings) (digest : List ℕ) (urls : List (List ℕ)) (i : ℕ) (text : List ℕ) (request : Request) {old new : Link} {k l : AuthState} {before after : SinkState} {r : Result Unit OciDistributionError} → i < length urls → text ≡ get_or urls i text → place_of text ≡ None → MeetsIntoSink (tried IntoSink s digest (places_of (drop (i + 1) urls)) request) old new k l before after r → MeetsIntoSink (tried IntoSink s digest (places_of (drop i urls)) request) old new k l before after r
put_over s digest urls i text request lt is none rest = rw (places_skip urls i text lt is none) rest

pub put_at : (s : Settings) (digest : List ℕ) (urls : List (List ℕ)) (i : ℕ) (text : List ℕ) (p : Place) (request : Request) {old new : Link} {k l : AuthState} {before after : SinkState} {r : Result Unit OciDistributionError} → i < length urls → text ≡ get_or urls i text → place_of text ≡ Some p → MeetsIntoSink (offer IntoSink s.max_body_bytes digest (then_at IntoSink s digest p (places_of (drop (i + 1) urls))) request) old new k l before after r → MeetsIntoSink (tried IntoSink s digest (places_of (drop i urls)) request) old new k l before after r
put_at s digest urls i text p request lt is some rest = rw (tried_at IntoSink s digest (places_of (drop i urls)) p (places_of (drop (i + 1) urls)) request (places_next urls i text p lt is some)) rest

pub put_wanting : {p : Row (List ℕ)} {link : Link} {k : AuthState} {sink : SinkState} {r : Result Unit OciDistributionError} → IsErrAnd r (λ x. x ≡ refusal.WantOfMemory) → MeetsIntoSink p link link k k sink sink r
put_wanting {p} {link} {k} {sink} {r} is = spills_wanting sink r is (Meets-memory is_memory p link k refusal.WantOfMemory refl)

-- the response to the offer was used, or skipped
pub put_taken : (next : Row (List ℕ)) {p : Row (List ℕ)} {old new : Link} {k : AuthState} {before after : SinkState} (b : Bool) → b ≡ true → OfferedInto next p old new k before after (Ok b) → MeetsIntoSink p old new k k before after (Ok tt)
put_taken next true h offered = offered
put_taken next false h offered = absurd (cc h)

pub put_passed : {next p : Row (List ℕ)} {old new end : Link} {k l : AuthState} {before after later : SinkState} {r : Result Unit OciDistributionError} (b : Bool) → b ≡ false → OfferedInto next p old new k before after (Ok b) → MeetsIntoSink next new end k l after later r → MeetsIntoSink p old end k l before later r
put_passed true h offered rest = absurd (cc h)
put_passed {end = end} {l = l} {later = later} {r = r} false h offered rest = offered end l later r rest

-- the request at the next place is refused
pub put_unasked : (s : Settings) (digest : List ℕ) (p : Place) (ps : List Place) {link : Link} {k : AuthState} {sink : SinkState} (e : OciDistributionError) {r : Result Unit OciDistributionError} → Matches {A = Request} is_memory (Err e) (asked_at s p) → IsErrAnd r (λ x. x ≡ e) → MeetsIntoSink (then_at IntoSink s digest p ps) link link k k sink sink r
put_unasked s digest p ps {sink = sink} e says is = spills_refused (λ next. tried IntoSink s digest ps next) sink (done_calm (asked_at s p) (asked_calm s p)) (said {A = Request} (Err e) says) (Meets-refused (λ next. tried IntoSink s digest ps next) (said {A = Request} (Err e) says)) is

-- it is built
pub put_asked : (s : Settings) (digest : List ℕ) (p : Place) (ps : List Place) (next : Request) {mid end : Link} {k l : AuthState} {before after : SinkState} {r : Result Unit OciDistributionError} → Matches is_memory (Ok next) (asked_at s p) → MeetsIntoSink (tried IntoSink s digest ps next) mid end k l before after r → MeetsIntoSink (then_at IntoSink s digest p ps) mid end k l before after r
put_asked s digest p ps next says rest = spills_next (λ next. tried IntoSink s digest ps next) (said (Ok next) says) rest

-- ---- in memory

-- What was done leads from row p to row q: whatever q then does, p did.
pub record LeadsOn (p q : Row (List ℕ)) (old mid : Link) : Type 0 where
  pub met : (end : Link) (k l : AuthState) (r : Result (List ℕ) OciDistributionError) → Meets is_memory q mid end k l r → Meets is_memory p old end k l r

pub held_last : (s : Settings) (digest : List ℕ) (urls : List (List ℕ)) (request : Request) {old new : Link} {k l : AuthState} {r : Result (List ℕ) OciDistributionError} → urls ≡ [] → Meets is_memory (attempt IntoMemory s.max_body_bytes digest request) old new k l r → Meets is_memory (tried IntoMemory s digest (places_of urls) request) old new k l r
held_last s digest urls request is rest = rw (tried_end IntoMemory s digest (places_of urls) request (places_last urls is)) rest

pub held_over : (s : Settings) (digest : List ℕ) (urls : List (List ℕ)) (i : ℕ) (text : List ℕ) (request : Request) {old new : Link} {k l : AuthState} {r : Result (List ℕ) OciDistributionError} → i < length urls → text ≡ get_or urls i text → place_of text ≡ None → Meets is_memory (tried IntoMemory s digest (places_of (drop (i + 1) urls)) request) old new k l r → Meets is_memory (tried IntoMemory s digest (places_of (drop i urls)) request) old new k l r
held_over s digest urls i text request lt is none rest = rw (places_skip urls i text lt is none) rest

pub held_at : (s : Settings) (digest : List ℕ) (urls : List (List ℕ)) (i : ℕ) (text : List ℕ) (p : Place) (request : Request) {old new : Link} {k l : AuthState} {r : Result (List ℕ) OciDistributionError} → i < length urls → text ≡ get_or urls i text → place_of text ≡ Some p → Meets is_memory (offer IntoMemory s.max_body_bytes digest (then_at IntoMemory s digest p (places_of (drop (i + 1) urls))) request) old new k l r → Meets is_memory (tried IntoMemory s digest (places_of (drop i urls)) request) old new k l r
held_at s digest urls i text p request lt is some rest = rw (tried_at IntoMemory s digest (places_of (drop i urls)) p (places_of (drop (i + 1) urls)) request (places_next urls i text p lt is some)) rest

-- the response to the offer was used, or skipped
pub held_taken : (next : Row (List ℕ)) {p : Row (List ℕ)} {old new : Link} {k : AuthState} (o : Option (List ℕ)) (bytes : List ℕ) → o ≡ Some bytes → Offered next p old new k (Ok o) → Meets is_memory p old new k k (Ok bytes)
held_taken next (Some found) bytes h offered = let same : found ≡ bytes = cc h in rw (← same) offered
held_taken next None bytes h offered = absurd (cc h)

pub held_passed : {next p : Row (List ℕ)} {old new end : Link} {k l : AuthState} {r : Result (List ℕ) OciDistributionError} (o : Option (List ℕ)) → o ≡ None → Offered next p old new k (Ok o) → Meets is_memory next new end k l r → Meets is_memory p old end k l r
held_passed (Some found) h offered rest = absurd (cc h)
held_passed {end = end} {l = l} {r = r} None h offered rest = offered end l r rest

pub held_unasked : (s : Settings) (digest : List ℕ) (p : Place) (ps : List Place) {link : Link} {k : AuthState} (e : OciDistributionError) {r : Result (List ℕ) OciDistributionError} → Matches {A = Request} is_memory (Err e) (asked_at s p) → IsErrAnd r (λ x. x ≡ e) → Meets is_memory (then_at IntoMemory s digest p ps) link link k k r
held_unasked s digest p ps e says is = refused (λ next. tried IntoMemory s digest ps next) (said {A = Request} (Err e) says) is

pub held_asked : (s : Settings) (digest : List ℕ) (p : Place) (ps : List Place) (next : Request) {mid end : Link} {k l : AuthState} {r : Result (List ℕ) OciDistributionError} → Matches is_memory (Ok next) (asked_at s p) → Meets is_memory (tried IntoMemory s digest ps next) mid end k l r → Meets is_memory (then_at IntoMemory s digest p ps) mid end k l r
held_asked s digest p ps next says rest = and_then (λ next. tried IntoMemory s digest ps next) (said (Ok next) says) rest
