-- From one place to the next.
use Rattle.std.proofs.Common.{◌≡◌, ◌<◌, ℕ, ◌+◌, suc, List, [], ◌∷◌, ◌++◌, Option, Some, None, Result, Ok, Err, length, drop, get_or, sym, ap, ◌∙◌, add-one}
use Rattle.std.proofs.Math.Seq.{drop-cons}
use Rattle.std.specs.Result.{IsErrAnd}
use Rattle.oci_transport.specs.Link.{Link}
use Rattle.oci_transport.specs.declared.message.Request.{Request}
use Rattle.oci_transport.specs.declared.message.Exchange.{Exchange}
use Rattle.oci_auth.specs.AuthState.{fresh}
use Rattle.oci_auth.specs.declared.auth_state.AuthState.{AuthState}
use Rattle.oci_protocol.specs.Runs.{Meets, Told}
use Rattle.oci_protocol.proofs.Conversations.{Extends-none, Extends-more}
use Rattle.engine_terms.specs.declared.error.OciDistributionError.{OciDistributionError}
use Rattle.engine_terms.specs.declared.settings.Settings.{Settings}
use Rattle.engine_requests.specs.declared.sources.Place.{Place}
use Rattle.json_values.specs.Refusals.{Matches}
use Rattle.engine_terms.specs.Error.{is_memory}
use Rattle.engine_requests.specs.Sources.{place_of, with_place, places_of}
use Rattle.engine_rows.specs.Rows.{Row}
use Rattle.engine_rows.proofs.Exits.{meets_told}
use Rattle.oci_protocol.proofs.Exits.{and_then, refused, said, done}
use Rattle.engine_streams.specs.Blobs.{tried, IsLeft}
use Rattle.engine_streams.specs.Asking.{asked, offered, ranged_at}
use Rattle.engine_streams.specs.declared.head.Opening.{Opening}
use Rattle.engine_streams.specs.declared.range.ByteRange.{ByteRange}

abbrev Anything : List Exchange → Type 0
Anything c = Unit {0}

-- What was done leads from row p to row q: whatever q then does, p did.
pub record Leads (p q : Row Opening) (old mid : Link) : Type 0 where
  pub met : (new : Link) (k l : AuthState) (r : Result Opening OciDistributionError) → Meets is_memory q mid new k l r
      → Meets is_memory p old new k l r
  pub told : Told (λ c. Unit {0}) old mid

pub leads_start : (p : Row Opening) (link : Link) → Leads p p link link
leads_start p link = record { met = λ new k l r h. h; told = record { conversation = []; told = Extends-none link; holds = tt } }

told_more : {old mid new : Link} → Told Anything old mid → Told Anything mid new → Told Anything old new
told_more {old} {mid} {new} a b = record { conversation = a.conversation ++ b.conversation; told = Extends-more old mid new a.conversation b.conversation a.told b.told; holds = tt }

-- the whole body is left, also after the requests before
pub left_more : {range : Option ByteRange} {digest : List ℕ} {o : Opening} {old mid new : Link} → Told Anything old mid → IsLeft range digest o mid new → IsLeft range digest o old new
left_more t l = record {
  head = l.head;
  said = l.said;
  untaken = record {
    body = l.untaken.body;
    answered = λ before h. l.untaken.answered (before ++ t.conversation) (t.told.told before h);
    rest = λ before h. l.untaken.rest (before ++ t.conversation) (t.told.told before h);
  };
}

pub met_told : {A : Type 0} {p : Row A} {old new : Link} {k l : AuthState} {r : Result A OciDistributionError} → Meets is_memory p old new k l r → Told Anything old new
met_told met = meets_told Anything (λ c. tt) met

at_next : {A : Type 0} (xs : List A) (i : ℕ) (x : A) → i < length xs → x ≡ get_or xs i x → drop i xs ≡ x ∷ drop (i + 1) xs
at_next {A} xs i x lt is = rw add-one (drop-cons xs i x lt ∙ ap (λ (y : A). y ∷ drop (suc i) xs) (sym is))

-- the places of the URLs from here on
places_here : (urls : List (List ℕ)) (i : ℕ) (url : List ℕ) (place : Option Place) → i < length urls → url ≡ get_or urls i url → place ≡ place_of url → places_of (drop i urls) ≡ with_place place (places_of (drop (i + 1) urls))
places_here urls i url place lt is named = ap places_of (at_next urls i url lt is) ∙ ap (λ (o : Option Place). with_place o (places_of (drop (i + 1) urls))) (sym named)

-- a URL that names no place
pub passed : (s : Settings) (range : Option ByteRange) (digest : List ℕ) (urls : List (List ℕ)) (i : ℕ) (url : List ℕ) (place : Option Place) (request : Request) {p : Row Opening} {old mid : Link}
    → i < length urls → url ≡ get_or urls i url → place ≡ place_of url → place ≡ None
    → Leads p (tried s range digest (places_of (drop i urls)) request) old mid → Leads p (tried s range digest (places_of (drop (i + 1) urls)) request) old mid
passed s range digest urls i url place request {p} {old} {mid} lt is named none leads = rw (places_here urls i url place lt is named ∙ ap (λ (o : Option Place). with_place o (places_of (drop (i + 1) urls))) none) at leads

-- a place after the request
at_place : (s : Settings) (range : Option ByteRange) (digest : List ℕ) (urls : List (List ℕ)) (i : ℕ) (url : List ℕ) (found : Option Place) (place : Place) (request : Request) {old new : Link} {k l : AuthState} {r : Result Opening OciDistributionError}
    → i < length urls → url ≡ get_or urls i url → found ≡ place_of url → found ≡ Some place
    → Meets is_memory (tried s range digest (place ∷ places_of (drop (i + 1) urls)) request) old new k l r → Meets is_memory (tried s range digest (places_of (drop i urls)) request) old new k l r
at_place s range digest urls i url found place request lt is named here met = rw (places_here urls i url found lt is named ∙ ap (λ (o : Option Place). with_place o (places_of (drop (i + 1) urls))) here) met

pub first_refused : (s : Settings) (range : Option ByteRange) (digest : List ℕ) (urls : List (List ℕ)) (i : ℕ) (url : List ℕ) (found : Option Place) (place : Place) (request : Request) {old new : Link} {k l : AuthState} {e : OciDistributionError} {r : Result Opening OciDistributionError}
    → i < length urls → url ≡ get_or urls i url → found ≡ place_of url → found ≡ Some place
    → Meets is_memory (offered s.max_body_bytes range digest request) old new k l (Err e) → IsErrAnd r (λ x. x ≡ e) → Meets is_memory (tried s range digest (places_of (drop i urls)) request) old new k l r
unfolding tried
first_refused s range digest urls i url found place request lt is named here met at_exit = at_place s range digest urls i url found place request lt is named here (refused _ met at_exit)

pub first_found : (s : Settings) (range : Option ByteRange) (digest : List ℕ) (urls : List (List ℕ)) (i : ℕ) (url : List ℕ) (found : Option Place) (place : Place) (request : Request) (answered : Option Opening) (o : Opening) {old new : Link} {k l : AuthState}
    → i < length urls → url ≡ get_or urls i url → found ≡ place_of url → found ≡ Some place
    → Meets is_memory (offered s.max_body_bytes range digest request) old new k l (Ok answered) → answered ≡ Some o → Meets is_memory (tried s range digest (places_of (drop i urls)) request) old new k l (Ok o)
unfolding tried
first_found s range digest urls i url found place request answered o lt is named here met it = at_place s range digest urls i url found place request lt is named here (and_then _ (rw it at met) done)

pub next_unasked : (s : Settings) (range : Option ByteRange) (digest : List ℕ) (urls : List (List ℕ)) (i : ℕ) (url : List ℕ) (found : Option Place) (place : Place) (request : Request) (answered : Option Opening) (e : OciDistributionError) {old new : Link} {k l : AuthState} {r : Result Opening OciDistributionError}
    → i < length urls → url ≡ get_or urls i url → found ≡ place_of url → found ≡ Some place
    → Meets is_memory (offered s.max_body_bytes range digest request) old new k l (Ok answered) → answered ≡ None → Matches {A = Request} is_memory (Err e) (ranged_at s range place) → IsErrAnd r (λ x. x ≡ e) → Meets is_memory (tried s range digest (places_of (drop i urls)) request) old new k l r
unfolding tried
next_unasked s range digest urls i url found place request answered e lt is named here met none says at_exit = at_place s range digest urls i url found place request lt is named here (and_then _ (rw none at met) (refused _ (said _ says) at_exit))

pub next_asked : (s : Settings) (range : Option ByteRange) (digest : List ℕ) (urls : List (List ℕ)) (i : ℕ) (url : List ℕ) (found : Option Place) (place : Place) (request next : Request) (answered : Option Opening) {p : Row Opening} {old mid new : Link}
    → i < length urls → url ≡ get_or urls i url → found ≡ place_of url → found ≡ Some place
    → ((k : AuthState) → Meets is_memory (offered s.max_body_bytes range digest request) mid new k k (Ok answered)) → answered ≡ None → ranged_at s range place ≡ Ok next
    → Leads p (tried s range digest (places_of (drop i urls)) request) old mid → Leads p (tried s range digest (places_of (drop (i + 1) urls)) next) old new
unfolding tried
next_asked s range digest urls i url found place request next answered lt is named here met none ranged leads = record {
  met = λ end k l r rest. leads.met end k l r (at_place s range digest urls i url found place request lt is named here (and_then _ (rw none at met k) (and_then _ (said (Ok next) ranged) rest)));
  told = told_more leads.told (met_told (met (fresh 0)));
}

-- no place is left
pub last_asked : (s : Settings) (range : Option ByteRange) (digest : List ℕ) (left : List (List ℕ)) (request : Request) {old new : Link} {k l : AuthState} {r : Result Opening OciDistributionError}
    → left ≡ [] → Meets is_memory (asked s.max_body_bytes range digest request) old new k l r → Meets is_memory (tried s range digest (places_of left) request) old new k l r
unfolding tried
last_asked s range digest left request none met = rw none met
